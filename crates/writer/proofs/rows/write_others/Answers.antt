-- What is left of the diagonal is written, and then what is right of it.
use Rattle.writer.proofs.Written.{wrote_more}
use Rattle.writer.proofs.rows.write_others.Goals as goal

pub returns : goal.returns
returns c = wrote_more c.requires.room c.write_left-left.ensures c.write_right_of.ensures
