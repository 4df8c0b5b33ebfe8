-- `sides::each::divide_each`: after r turns the sides below r are divided.
use Rattle.sides.specs.Cells.{if_going, divided}
use Rattle.sides.proofs.Cells.{Changed}
use Rattle.sides.proofs.each.divide_each.Given as goal

abbrev pub invariant-loop-r : goal.invariant-loop-r
invariant-loop-r l = Changed l.count l.r (λ s. if_going (divided l.at l.by)) l.fn.running l.fn.out l.running l.out
