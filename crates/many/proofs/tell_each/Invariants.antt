-- `many::tell_each`: after r turns the sides below r have told their counts.
use mathlib.Core.List.{[]}
use Rattle.sides.specs.Cells.{if_going, Each}
use Rattle.many.specs.Passes.{told}
use Rattle.many.proofs.tell_each.Given as goal

abbrev pub invariant-loop-r : goal.invariant-loop-r
invariant-loop-r l = Each l.r (λ s. if_going (told l.products l.quotients l.vanished)) [] l.fn.out [] l.out
