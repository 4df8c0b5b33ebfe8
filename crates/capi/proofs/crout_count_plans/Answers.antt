-- `capi::crout_count_plans` gives the number of what counting answers: a refusal's detail is small, so the number fits 64 bits.
use native.Mathlib.Omega.{arith}
use mathlib.Core.Path.{◌∙◌}
use Rattle.answers.proofs.Numbers.{verdict-fits, verdict_told}
use Rattle.model.proofs.Small.{countable_small}
use Rattle.capi.proofs.crout_count_plans.Goals as goal

pub verdict_answer-requires : goal.verdict_answer-requires
verdict_answer-requires c = verdict-fits c.count_plans.result c.count_plans.ensures.answer (countable_small _) (omega arith)

pub returns-clause-answer : goal.returns-clause-answer
returns-clause-answer c = c.verdict_answer.ensures ∙ verdict_told c.count_plans.result c.count_plans.ensures.answer
