-- `sides::each::end_each`: after r turns the sides below r are refused.
use Rattle.sides.specs.Cells.{if_going, ended_by}
use Rattle.sides.proofs.Cells.{Changed}
use Rattle.sides.proofs.each.end_each.Given as goal

abbrev pub invariant-loop-r : goal.invariant-loop-r
invariant-loop-r l = Changed l.count l.r (λ s. if_going (ended_by l.at l.number)) l.fn.running l.fn.out l.running l.out
