-- `paths::trace`: what is written and what is ahead are the path. The measure falls with each entry written and with each more that has to be reached.
use Rattle.std.proofs.Common.{◌+◌, ◌*◌, length}
use Rattle.paths.proofs.Trail.{left}
use Rattle.paths.proofs.Trails.{Tracing}
use Rattle.paths.proofs.trace.Given as goal

abbrev pub invariant-loop-next : goal.invariant-loop-next
invariant-loop-next l = Tracing l.n l.plan l.i l.j l.initial.list l.list l.stack (record { last = l.last; count = l.count; next = l.next })

abbrev pub decreases-loop-next : goal.decreases-loop-next
decreases-loop-next l = 2 * length (left l.n l.plan l.stack (record { last = l.last; count = l.count; next = l.next })) + l.next
