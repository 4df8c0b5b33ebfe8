-- `sides::each::subtract_each`: after r turns the product is subtracted at the sides below r.
use Prim.Native.Nat.{◌+◌, ◌*◌}
use lib.ListN.{get_or}
use Rattle.model.specs.Arith.{plus_zero}
use Rattle.sides.specs.Cells.{if_going, subtracted}
use Rattle.sides.proofs.Cells.{Changed}
use Rattle.sides.proofs.each.subtract_each.Given as goal

abbrev pub invariant-loop-r : goal.invariant-loop-r
invariant-loop-r l =
    Changed l.count l.r (λ s. if_going (subtracted l.at l.factor (get_or l.values (s * l.order + l.entry) plus_zero)))
    l.fn.running l.fn.out l.running l.out
