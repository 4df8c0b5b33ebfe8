-- `many::clear_ended`: after r turns the parts of the refused sides below r are +0.
use Rattle.many.proofs.Cleared.{PartsCleared}
use Rattle.many.proofs.clear_ended.Given as goal

abbrev pub invariant-loop-r : goal.invariant-loop-r
invariant-loop-r l = PartsCleared l.count l.order l.r l.out l.fn.values l.values
