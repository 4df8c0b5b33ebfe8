-- The loop counts one set a turn. Its invariant: the sets before the next are counted.
use Rattle.std.proofs.Common.{◌≡◌}
use Rattle.model.proofs.Tallies.{tallies}
use Rattle.census.proofs.count_sets.Given as goal

abbrev pub invariant-loop-set : goal.invariant-loop-set
invariant-loop-set l = l.out ≡ tallies l.n l.set
