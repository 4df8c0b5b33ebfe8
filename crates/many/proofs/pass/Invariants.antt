-- `many::pass` goes along the chain with all right sides. The invariant: some records are done, and the loop goes on with the next one while a side does; the next
-- one and the number of those done stand within the words, which are few. The measure is the length of the chain at most, less the records done.
use Prim.Native.Nat.{◌-◌, ◌/◌}
use mathlib.Core.Path.{◌≡◌}
use lib.ListN.{length}
use Rattle.model.specs.Check.{word}
use Rattle.many.proofs.Passing.{Turn, InWords}
use Rattle.many.proofs.pass.Given as goal

abbrev pub invariant-loop-next : goal.invariant-loop-next
invariant-loop-next l = record {
  order : l.order ≡ word l.words 0;
  turn : Turn l.words l.count l.a l.b l.limit l.fn.out l.c l.y l.x l.running l.out l.z l.records l.next;
  inside : InWords l.words l.records l.next;
}

abbrev pub decreases-loop-next : goal.decreases-loop-next
decreases-loop-next l = length l.words / 4 - l.records
