-- What is to be answered is the check from record k on, and record k names next. The measures are the records above k and above next.
use Prim.Native.Nat.{◌-◌, ◌≤◌, ◌<◌}
use mathlib.Core.Path.{◌≡◌}
use Rattle.model.specs.Check.{next_of}
use Rattle.checker.proofs.Turns.{CheckAfter, Facing}
use Rattle.checker.proofs.follow.Given as goal

abbrev pub invariant-loop-g : goal.invariant-loop-g
invariant-loop-g g l = (l.initial.k ≤ l.k) × (l.next < l.count) × Facing l.h (g.R.Records.words l.program) l.g l.k l.next

abbrev pub decreases-loop-g : goal.decreases-loop-g
decreases-loop-g g l = l.count - l.next

abbrev pub invariant-loop-next : goal.invariant-loop-next
invariant-loop-next g l = CheckAfter l.h (g.R.Records.words l.program) l.g l.k × (l.next ≡ next_of (g.R.Records.words l.program) l.k)

abbrev pub decreases-loop-next : goal.decreases-loop-next
decreases-loop-next g l = l.count - l.k
