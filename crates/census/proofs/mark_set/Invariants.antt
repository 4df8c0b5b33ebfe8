-- The digits are written lowest first. The loop's invariant: the first k are written, and what is left of the number has the others.
use Rattle.std.proofs.Common.{◌/◌, ◌^◌, ◌≡◌, take}
use Rattle.model.proofs.Sets.{digits}
use Rattle.census.proofs.mark_set.Given as goal

abbrev pub invariant-loop-w : goal.invariant-loop-w
invariant-loop-w l = record {
  left : l.set ≡ l.fn.set / 2 ^ l.w-index;
  written : take l.w-index l.work ≡ digits l.fn.set l.w-index;
}
