-- `runner::once`: a Crout program's records, once.
use Rattle.std.proofs.lemmas.Result.{err_from_is_err_and}
use Rattle.runner.proofs.Stood.{once-solved, once-stopped}
use Rattle.runner.proofs.once.Goals as goal

pub returns-in_err-z : goal.returns-in_err-z
returns-in_err-z c =
    let a = c.args in
    let e = c.follow.ensures in
    let p = err_from_is_err_and c.from_residual.result c.from_residual.ensures.1 in
    rw (p.1, p.2) (once-stopped a.given.words.now a.given.a.now a.given.b.now a.given.limit a.c.now a.y.now a.x.now _ _ _
    c.requires.words_value c.requires.fit.in_x _ c.fresh.ensures c.follow.result e.result_after e.ends_with _ c.in_err-z.was)

pub returns : goal.returns
returns c =
    let a = c.args in
    let e = c.follow.ensures in
    rw c.solved.ensures (once-solved a.given.words.now a.given.a.now a.given.b.now a.given.limit a.c.now a.y.now a.x.now _ _ _
    c.requires.words_value c.requires.fit.in_x _ c.fresh.ensures c.follow.result e.result_after e.ends_with _ c.in_ok-z.was)
