-- `capi::crout_run` gives the number and the numbers of what the run replies with limit +0: a refusal's detail is small, so the number fits 64 bits.
use native.Mathlib.Omega.{arith}
use Rattle.model.proofs.Small.{ran_small}
use Rattle.answers.proofs.Numbers.{reply-fits}
use Rattle.capi.proofs.crout_run.Goals as goal

pub run_answer-requires : goal.run_answer-requires
run_answer-requires c = reply-fits c.run.ensures.0 (ran_small _ _ _ _ _ _ _) (omega arith)
