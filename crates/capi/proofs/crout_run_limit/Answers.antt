-- `capi::crout_run_limit` gives the number and the numbers of what the run replies: a refusal's detail is small, so the number fits 64 bits.
use native.Mathlib.Omega.{arith}
use Rattle.model.proofs.Small.{ran_small}
use Rattle.answers.proofs.Numbers.{reply-fits}
use Rattle.capi.proofs.crout_run_limit.Goals as goal

pub limit_answer-requires : goal.limit_answer-requires
limit_answer-requires c = reply-fits c.run.ensures.0 (ran_small _ _ _ _ _ _ _) (omega arith)
