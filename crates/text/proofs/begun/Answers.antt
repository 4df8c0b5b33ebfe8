-- `text::begun` is the stage after a byte where no number is being read.
use Rattle.std.proofs.Common.{arith}
use Rattle.std.proofs.lemmas.Grind.{common_steps}
use Rattle.model.specs.Text.{is_digit, begun}
use Rattle.text.proofs.begun.Goals as goal

pub returns-in-Some : goal.returns-in-Some
unfolding begun is_digit
returns-in-Some c = grind (arith, common_steps, c.in-Some.ensures.cases)

pub returns-in-Some-2 : goal.returns-in-Some-2
unfolding begun is_digit
returns-in-Some-2 c = grind (arith, common_steps, c.in-Some-2.ensures.cases)

pub returns-in-None : goal.returns-in-None
unfolding begun is_digit
returns-in-None c = grind (arith, common_steps, c.in-None.ensures.cases)
