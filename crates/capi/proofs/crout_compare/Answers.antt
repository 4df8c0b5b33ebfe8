-- `capi::crout_compare` gives the number of what comparing answers: a refusal's detail is small, so the number fits 64 bits.
use native.Mathlib.Omega.{arith}
use mathlib.Core.Path.{◌∙◌}
use Rattle.answers.proofs.Numbers.{verdict-fits, verdict_told}
use Rattle.model.proofs.Small.{compares_small}
use Rattle.capi.proofs.crout_compare.Goals as goal

pub verdict_answer-requires : goal.verdict_answer-requires
verdict_answer-requires c = verdict-fits c.compare.result c.compare.ensures.answer (compares_small _ _ _ _) (omega arith)

pub returns-clause-answer : goal.returns-clause-answer
returns-clause-answer c = c.verdict_answer.ensures ∙ verdict_told c.compare.result c.compare.ensures.answer
