-- `capi::crout_order` gives the number and the numbers of what the call answers: a refusal's detail is small, so the number fits 64 bits.
use native.Mathlib.Omega.{arith}
use mathlib.Core.Path.{◌∙◌}
use Rattle.answers.proofs.Numbers.{renumbering_fits, renumbering_told}
use Rattle.model.proofs.Small.{renumbers_small}
use Rattle.capi.proofs.crout_order.Goals as goal

pub told_answer-requires : goal.told_answer-requires
told_answer-requires c = renumbering_fits c.order.result c.order.ensures.answer (renumbers_small _ _ _ _ _) (omega arith)

pub returns-clause-answer : goal.returns-clause-answer
returns-clause-answer c = c.told_answer.ensures.number ∙ (renumbering_told c.order.result c.order.ensures.answer).0

pub returns-clause-numbers : goal.returns-clause-numbers
returns-clause-numbers c = c.told_answer.ensures.numbers ∙ (renumbering_told c.order.result c.order.ensures.answer).1
