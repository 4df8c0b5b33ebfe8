-- From one x to the next below it, each into the rest of the words.
use Rattle.std.proofs.Common.{arith, ap, ◌*◌}
use Rattle.writer.specs.Line.{x_at}
use Rattle.writer.proofs.Products.{falling-room, falling_more, falling-ends}
use Rattle.writer.proofs.Written.{lent_room, lent_back}
use Rattle.writer.proofs.write_solution.Goals as goal

pub write_backward-next-requires-clause-room : goal.write_backward-next-requires-clause-room
unfolding x_at
write_backward-next-requires-clause-room c = lent_room (ap (◌*◌ 4) c.wide-start.ensures) (falling-room c.loop-i.invariant (omega arith))

pub loop-i-preserved : goal.loop-i-preserved
unfolding x_at
loop-i-preserved c =
    falling_more c.loop-i.invariant (omega arith) (lent_back (ap (◌*◌ 4) c.wide-start.ensures) c.write_backward-next.ensures)

pub returns : goal.returns
returns c = falling-ends c.loop-i.invariant (omega arith)
