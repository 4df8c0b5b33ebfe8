-- The loop's invariant: x(i)..x(1) are left to write.
use Rattle.writer.specs.Line.{x_at}
use Rattle.writer.proofs.Products.{Falling}
use Rattle.writer.proofs.write_solution.Given as goal

abbrev pub invariant-loop-i : goal.invariant-loop-i
invariant-loop-i l = Falling (x_at l.slotted.n l.slotted.work.now) 0 l.k l.slotted.n 0 l.fn.words l.next l.i l.words
