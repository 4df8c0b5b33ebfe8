-- `many::check_call`: 7 to 13, then 25, 14, 15 and 21, each where those before it pass.
use native.Mathlib.Omega.{arith}
use mathlib.Core.Path.{sym, ◌∙◌}
use Rattle.std.proofs.lemmas.Result.{err_from_is_err_and}
use Rattle.model.proofs.Within.{within-range}
use Rattle.many.proofs.Calls.{head-fits, verdict-checked, verdict-counted, verdict_lengths, verdict_values}
use Rattle.many.proofs.check_call.Goals as goal

pub returns-in_err-check_crout : goal.returns-in_err-check_crout
returns-in_err-check_crout c =
    let p = err_from_is_err_and c.from_residual.result c.from_residual.ensures.1 in
    rw (p.1, p.2) (verdict-checked _ _ _ _ _ _ _ _ _ _ (sym c.in_err-check_crout.ensures))

pub returns-then-not-within : goal.returns-then-not-within
returns-then-not-within c = verdict-counted _ _ _ _ _ _ _ _ (sym c.in_ok-check_crout.ensures) (sym c.within.ensures ∙ c.if-not-within.true)

pub lengths_fit-requires : goal.lengths_fit-requires
lengths_fit-requires c =
    let head = head-fits _ (sym c.in_ok-check_crout.ensures) in
    let counted = within-range c.args.count 64 (sym c.within.ensures ∙ c.if-not-within.false) in
    (head.0, (head.1, omega arith))

pub returns-then-not-lengths_fit : goal.returns-then-not-lengths_fit
returns-then-not-lengths_fit c =
    verdict_lengths _ _ _ _ _ _ _ _ (sym c.in_ok-check_crout.ensures) (sym c.within.ensures ∙ c.if-not-within.false)
    (sym (rw c.wide.ensures at c.lengths_fit.ensures) ∙ c.if-not-lengths_fit.true)

pub returns : goal.returns
returns c =
    c.check_values.ensures
    ∙ verdict_values _ _ _ _ _ _ _ _ (sym c.in_ok-check_crout.ensures) (sym c.within.ensures ∙ c.if-not-within.false)
    (sym (rw c.wide.ensures at c.lengths_fit.ensures) ∙ c.if-not-lengths_fit.false)
