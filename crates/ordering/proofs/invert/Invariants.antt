-- The loop notes the position of each given number. Its invariant: those of the first k are noted.
use Rattle.ordering.specs.Numbered.{Inverse}
use Rattle.ordering.proofs.invert.Given as goal

abbrev pub invariant-loop-k : goal.invariant-loop-k
invariant-loop-k l = Inverse l.numbering l.k l.positions
