-- The loop's invariant: the rows from r on are left to write.
use Rattle.std.proofs.Common.{suc}
use Rattle.writer.specs.Sweep.{row_at}
use Rattle.writer.proofs.Products.{Rising}
use Rattle.writer.proofs.rows.write_each_row.Given as goal

abbrev pub invariant-loop-r : goal.invariant-loop-r
invariant-loop-r l = Rising (row_at l.n l.work) 1 0 1 (suc l.n) l.fn.words l.next l.r l.words
