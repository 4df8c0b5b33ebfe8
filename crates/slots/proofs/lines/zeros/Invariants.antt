-- `slots::lines::zeros` counts by blocks, and then one by one: the first k numbers of the line are 0.
use Rattle.std.proofs.Common.{◌-◌, length}
use Rattle.slots.specs.Zeros.{FirstZeros}
use Rattle.slots.proofs.lines.zeros.Given as goal

abbrev pub invariant-loop-k : goal.invariant-loop-k
invariant-loop-k l = FirstZeros l.line l.k

abbrev pub decreases-loop-k : goal.decreases-loop-k
decreases-loop-k l = length l.line - l.k
