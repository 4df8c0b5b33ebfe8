-- `capi::crout_solve_limit` gives the number and the numbers of what solving replies: a refusal's detail is small, so the number fits 64 bits.
use native.Mathlib.Omega.{arith}
use Rattle.model.proofs.Small.{replied_small}
use Rattle.answers.proofs.Numbers.{reply-fits}
use Rattle.capi.proofs.crout_solve_limit.Goals as goal

pub limit_answer-requires : goal.limit_answer-requires
limit_answer-requires c = reply-fits c.solve.ensures.record (replied_small _ _ _ _ _ _ _ _ _ _) (omega arith)
