-- `text::parted` is the stage after a byte that is no digit.
use Rattle.std.proofs.Common.{rules}
use Rattle.model.specs.Text.{parted}
use Rattle.text.proofs.parted.Goals as goal

pub returns-then-is_gap : goal.returns-then-is_gap
unfolding parted
returns-then-is_gap c = search rules

pub returns-else-is_gap : goal.returns-else-is_gap
unfolding parted
returns-else-is_gap c = search rules
