-- `residual::start_rows` starts one row after another. The invariant: the first r have started.
use Rattle.residual.proofs.Labelled.{Started}
use Rattle.residual.proofs.start_rows.Given as goal

abbrev pub invariant-loop-r : goal.invariant-loop-r
invariant-loop-r l = Started l.b l.r l.words
