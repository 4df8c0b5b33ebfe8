-- `sides::each::close_each`: after r turns the parts of the sides below r are closed.
use Rattle.sides.proofs.Cells.{ClosedSo}
use Rattle.sides.proofs.each.close_each.Given as goal

abbrev pub invariant-loop-r : goal.invariant-loop-r
invariant-loop-r l = ClosedSo l.count l.order l.at l.running l.fn.values l.values l.r
