-- `many::run_many`: the checks of the call, and then its right sides.
use mathlib.Core.Path.{sym, subst}
use Rattle.std.proofs.lemmas.Result.{err_from_is_err_and}
use lib.ListN.{replicate}
use Rattle.model.specs.Many.{sides}
use Rattle.many.specs.Passes.{endings}
use Rattle.many.proofs.Calls.{refused_is, call_fits, Leaves, leaves_none}
use Rattle.many.proofs.run_many.Goals as goal

-- a call that did not pass its checks runs no side
pub returns-in_err-check_call : goal.returns-in_err-check_call
returns-in_err-check_call c =
    let a = c.args in
    let W = a.words.now in
    let is = c.in_err-check_call.ensures in
    let p = err_from_is_err_and c.from_residual.result c.from_residual.ensures.1 in
    let left = subst (Leaves W (replicate 257 0) a.c.now a.y.now a.x.now a.c.now a.y.now a.x.now) (sym (refused_is _ _ _ is))
    (leaves_none W a.c.now a.y.now a.x.now _ _) in
    rw (p.1, p.2) ((is, left.0), left.1)

pub run_sides-requires-clause-fit_many : goal.run_sides-requires-clause-fit_many
run_sides-requires-clause-fit_many c = rw c.wide.ensures (call_fits _ _ _ _ _ _ _ _ c.in_ok-check_call.ensures).0

pub returns : goal.returns
returns c =
    let a = c.args in
    let f = c.run_sides in
    let is = c.in_ok-check_call.ensures in
    let fits = call_fits _ _ _ _ _ _ _ _ is in
    let Left = Leaves a.words.now f.new.out a.c.now a.y.now a.x.now f.new.c f.new.y f.new.x in
    let left = subst (λ n. Left (sides (endings a.words.now n a.a.now a.b.now a.limit))) c.wide.ensures f.ensures in
    let all = subst Left (sym fits.1) left in
    ((is, all.0), all.1)
