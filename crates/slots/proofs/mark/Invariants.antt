-- `slots::mark` clears, then marks the labels: the first k have their positions.
use Rattle.std.proofs.Common.{take}
use Rattle.slots.proofs.Marks.{Positioned}
use Rattle.slots.proofs.mark.Given as goal

abbrev pub invariant-loop-k : goal.invariant-loop-k
invariant-loop-k l = Positioned l.n (take l.k l.plan) l.initial.work l.work
