-- `output::put_entry` puts a number's digits and the byte after them.
use Rattle.std.proofs.Common.{arith}
use Rattle.model.specs.Text.{entry}
use Rattle.output.proofs.Places.{put_byte}
use Rattle.output.proofs.put_entry.Goals as goal

pub returns : goal.returns
unfolding entry
returns c = put_byte _ c.put_decimal-end.ensures (omega arith)
