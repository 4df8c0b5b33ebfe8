-- `text::continued` is the stage after a byte in a number.
use Rattle.std.proofs.Common.{arith}
use Rattle.std.proofs.lemmas.Grind.{common_steps}
use Rattle.model.specs.Text.{is_digit, continued}
use Rattle.text.proofs.continued.Goals as goal

pub returns-in_default : goal.returns-in_default
unfolding continued is_digit
returns-in_default c = grind (arith, common_steps)

pub returns-in-Ok : goal.returns-in-Ok
unfolding continued is_digit
returns-in-Ok c = grind (arith, common_steps, c.in-Some.ensures)

pub returns-in-Err : goal.returns-in-Err
unfolding continued is_digit
returns-in-Err c = grind (arith, common_steps, c.in-Some.ensures, c.in-Err.ensures)
