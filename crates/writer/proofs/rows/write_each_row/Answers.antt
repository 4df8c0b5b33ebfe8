-- From row to row, each into the rest of the words.
use Rattle.std.proofs.Common.{arith, ap, ◌*◌}
use Rattle.writer.proofs.Products.{rising-room, rising-more, rising-ends}
use Rattle.writer.proofs.Written.{lent_room, lent_back}
use Rattle.writer.proofs.rows.write_each_row.Goals as goal

pub write_row-next-requires-clause-room : goal.write_row-next-requires-clause-room
write_row-next-requires-clause-room c = lent_room (ap (◌*◌ 4) c.wide-start.ensures) (rising-room c.loop-r.invariant (omega arith))

pub loop-r-preserved : goal.loop-r-preserved
loop-r-preserved c =
    rising-more c.loop-r.invariant (omega arith) (lent_back (ap (◌*◌ 4) c.wide-start.ensures) c.write_row-next.ensures)

pub returns-2 : goal.returns-2
returns-2 c =
    rising-ends (rising-more c.loop-r.invariant (omega arith) (lent_back (ap (◌*◌ 4) c.wide-start.ensures) c.write_row-next.ensures)) (omega arith)
