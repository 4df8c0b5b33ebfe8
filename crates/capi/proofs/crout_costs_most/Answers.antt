-- `capi::crout_costs_most` gives the number of what the call answers: a refusal's detail is small, so the number fits 64 bits.
use native.Mathlib.Omega.{arith}
use Rattle.model.proofs.Small.{costs_small}
use Rattle.answers.proofs.Numbers.{costs-fits}
use Rattle.capi.proofs.crout_costs_most.Goals as goal

pub costs_answer-requires : goal.costs_answer-requires
costs_answer-requires c = costs-fits c.costs_most.ensures.answer (costs_small _ _ _) (omega arith)
