-- `capi::crout_write` gives the number and the numbers of what the codec answers: a refusal's detail is small, so the number fits 64 bits.
use native.Mathlib.Omega.{arith}
use mathlib.Core.Path.{◌∙◌}
use Rattle.answers.proofs.Numbers.{filed-fits, filed_told}
use Rattle.model.proofs.Small.{writes_small}
use Rattle.capi.proofs.crout_write.Goals as goal

pub told_answer-requires : goal.told_answer-requires
told_answer-requires c = filed-fits c.write_file.result c.write_file.ensures.result_value (writes_small _ _) (omega arith)

pub returns-clause-answer : goal.returns-clause-answer
returns-clause-answer c = c.told_answer.ensures.number ∙ (filed_told c.write_file.result c.write_file.ensures.result_value).0

pub returns-clause-numbers : goal.returns-clause-numbers
returns-clause-numbers c = c.told_answer.ensures.numbers ∙ (filed_told c.write_file.result c.write_file.ensures.result_value).1
