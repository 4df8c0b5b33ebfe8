-- `text::is_gap` tests whether a byte is 32 or 10.
use Rattle.std.proofs.Common.{rules}
use Rattle.model.specs.Text.{is_gap}
use Rattle.text.proofs.is_gap.Goals as goal

pub returns-in-32 : goal.returns-in-32
unfolding is_gap
returns-in-32 c = search rules

pub returns-in_default : goal.returns-in_default
unfolding is_gap
returns-in_default c = search rules
