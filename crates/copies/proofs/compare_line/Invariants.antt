-- `copies::compare_line` compares a column or a row. The invariant: the places before the t-th are compared. The measure is how many are left.
use Prim.Native.Nat.{suc, ◌-◌}
use Rattle.copies.proofs.Line.{Led}
use Rattle.copies.proofs.compare_line.Given as goal

abbrev pub invariant-loop-t : goal.invariant-loop-t
invariant-loop-t l = Led l.slotted.n l.slotted.plan.now l.slotted.work.now l.across l.m l.words l.initial.z l.formula l.z l.t

abbrev pub decreases-loop-t : goal.decreases-loop-t
decreases-loop-t l = suc l.slotted.n - l.t
