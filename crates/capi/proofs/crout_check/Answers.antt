-- `capi::crout_check` is the number of a file's check: a refusal's detail is at most the file's length, so it fits.
use native.Mathlib.Omega.{arith}
use mathlib.Core.Path.{◌∙◌}
use Rattle.answers.proofs.Numbers.{verdict-fits, verdict_told}
use Rattle.model.proofs.Small.{check_file_small}
use Rattle.model.specs.Boundary.{check_number}
use Rattle.capi.proofs.crout_check.Goals as goal

pub verdict_answer-requires : goal.verdict_answer-requires
verdict_answer-requires c = verdict-fits c.check_file.result c.check_file.ensures (check_file_small _) (omega arith)

pub returns : goal.returns
unfolding check_number
returns c = c.verdict_answer.ensures ∙ verdict_told c.check_file.result c.check_file.ensures
