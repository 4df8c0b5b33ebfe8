-- `labels::place_in` finds the place in the batch's column, or in its row.
use Rattle.labels.proofs.Seeking.{in_column, in_row}
use Rattle.labels.proofs.place_in.Goals as goal

pub returns-then-left-rows : goal.returns-then-left-rows
returns-then-left-rows c = in_column c.requires.1 c.if-left-rows.true

pub returns-else-left-rows : goal.returns-else-left-rows
returns-else-left-rows c = in_row c.requires.1 c.if-left-rows.false
