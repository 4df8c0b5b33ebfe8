-- The loop's invariant: the places before the t-th are done. The measure is how many are left.
use Rattle.std.proofs.Common.{suc, ◌-◌}
use Rattle.writer.proofs.Line.{Along}
use Rattle.writer.proofs.write_line.Given as goal

abbrev pub invariant-loop-t : goal.invariant-loop-t
invariant-loop-t l = Along l.slotted.n l.slotted.plan.now l.slotted.work.now l.across l.m l.fn.at.next l.fn.words l.at l.t l.words

abbrev pub decreases-loop-t : goal.decreases-loop-t
decreases-loop-t l = suc l.slotted.n - l.t
