-- Record 0, the rows, and the end of the chain: laws of `Whole` and `Sweep`.
use Rattle.std.proofs.Common.{arith}
use Rattle.writer.proofs.Whole.{headed_room, last_inside, program-written}
use Rattle.writer.proofs.Sweep.{rows_cover, rows-counted, sweep_written}
use Rattle.writer.proofs.rows.write_rows.Goals as goal

pub head-requires : goal.head-requires
head-requires c = let counted = rows-counted c.requires in omega (arith, counted)

pub write_each_row-end-requires : goal.write_each_row-end-requires
write_each_row-end-requires c =
    record { covers = rows_cover c.requires; room = headed_room _ _ (rows-counted c.requires) c.head.ensures }

pub finish-requires : goal.finish-requires
finish-requires c = last_inside _ _ (rows-counted c.requires) c.head.ensures c.write_each_row-end.ensures

pub returns : goal.returns
returns c = sweep_written c.requires (program-written _ _ (rows-counted c.requires) c.head.ensures c.write_each_row-end.ensures c.finish.ensures)
