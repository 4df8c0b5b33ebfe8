-- `text::join` puts a number after those before it, if there is room.
use Rattle.std.proofs.Common.{arith}
use Rattle.std.proofs.lemmas.Grind.{common_steps}
use Rattle.model.specs.Text.{joining}
use Rattle.text.proofs.join.Goals as goal

pub returns-then-numbers-count-clause-numbers_after : goal.returns-then-numbers-count-clause-numbers_after
unfolding joining
returns-then-numbers-count-clause-numbers_after c = grind (arith, common_steps)

pub returns-clause-numbers_after : goal.returns-clause-numbers_after
unfolding joining
returns-clause-numbers_after c = grind (arith, common_steps)
