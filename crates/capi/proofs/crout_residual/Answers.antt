-- `capi::crout_residual` gives the number of what the call answers: a refusal's detail is small, so the number fits 64 bits.
use native.Mathlib.Omega.{arith}
use mathlib.Core.Path.{◌∙◌}
use Rattle.answers.proofs.Numbers.{verdict-fits, verdict_told}
use Rattle.model.proofs.Small.{measuring_small}
use Rattle.capi.proofs.crout_residual.Goals as goal

pub verdict_answer-requires : goal.verdict_answer-requires
verdict_answer-requires c = verdict-fits c.residual.result c.residual.ensures.answer (measuring_small _ _ _ _ _ _) (omega arith)

pub returns-clause-answer : goal.returns-clause-answer
returns-clause-answer c = c.verdict_answer.ensures ∙ verdict_told c.residual.result c.residual.ensures.answer
