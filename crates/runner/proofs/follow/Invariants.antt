-- `runner::follow` follows the chain of a checked program. The invariant: a record ran last, and `next` is to run next; in the inner loop k is, which
-- stands within the words. The measures are the records from there on.
use Prim.Native.Nat.{◌-◌, ◌/◌, ◌≤◌, ◌<◌}
use mathlib.Core.Path.{◌≡◌}
use lib.ListN.{length}
use Rattle.runner.proofs.Turns.{NextRuns, left}
use Rattle.runner.proofs.follow.Given as goal

abbrev pub invariant-loop-after : goal.invariant-loop-after
invariant-loop-after g l = record {
  runs : NextRuns l.words l.a l.b l.limit g.M.Method.sweeps l.fn.z l.fn.c l.fn.y l.fn.x l.c l.y l.x l.z l.k;
  some : l.k ≡ 0 → ⊥;
  from : l.initial.k ≤ l.k;
  inside : l.k < length l.words / 4;
  few : length l.words / 4 ≤ 100000000;
}

abbrev pub decreases-loop-after : goal.decreases-loop-after
decreases-loop-after g l = length l.words / 4 - l.k

abbrev pub invariant-loop-next : goal.invariant-loop-next
invariant-loop-next g l = NextRuns l.words l.a l.b l.limit g.M.Method.sweeps l.fn.z l.fn.c l.fn.y l.fn.x l.c l.y l.x l.z l.next

abbrev pub decreases-loop-next : goal.decreases-loop-next
decreases-loop-next g l = left l.words l.next
