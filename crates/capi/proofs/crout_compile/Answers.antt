-- `capi::crout_compile` gives the number and the numbers of what the compiler answers: a refusal's detail is small, so the number fits 64 bits.
use native.Mathlib.Omega.{arith}
use mathlib.Core.Path.{◌∙◌}
use Rattle.answers.proofs.Numbers.{compiled-fits, compiled_told}
use Rattle.model.proofs.Small.{compiles_small}
use Rattle.model.specs.Compile.{plain}
use Rattle.capi.proofs.crout_compile.Goals as goal

pub told_answer-requires : goal.told_answer-requires
told_answer-requires c = compiled-fits c.compile.result c.compile.ensures.answer (compiles_small plain _ _ _ _) (omega arith)

pub returns-clause-answer : goal.returns-clause-answer
returns-clause-answer c = c.told_answer.ensures.number ∙ (compiled_told c.compile.result c.compile.ensures.answer).0

pub returns-clause-numbers : goal.returns-clause-numbers
returns-clause-numbers c = c.told_answer.ensures.numbers ∙ (compiled_told c.compile.result c.compile.ensures.answer).1
