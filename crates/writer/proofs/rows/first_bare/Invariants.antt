-- The loop's invariant: the rows before r have their coefficient, and the index is that of row r's.
use Rattle.writer.proofs.Sweep.{Diagonal}
use Rattle.writer.proofs.rows.first_bare.Given as goal

abbrev pub invariant-loop-r : goal.invariant-loop-r
invariant-loop-r l = Diagonal l.n l.work l.r l.at
