-- `slots::fill_line` settles the places of a line. Along it: the places before the t-th are done; what is left of the line falls.
-- In the search: h is tried next, and none before it gave a pair; how many are left falls.
use Rattle.std.proofs.Common.{suc, ◌-◌}
use Rattle.model.specs.Fill.{Plan}
use Rattle.slots.specs.Batch.{first_of}
use Rattle.slots.specs.Walked.{Reached}
use Rattle.slots.proofs.Search.{Searching}
use Rattle.slots.proofs.Along.{Along}
use Rattle.slots.proofs.fill_line.Given as goal

abbrev pub invariant-loop-h : goal.invariant-loop-h
invariant-loop-h l = Searching l.n l.work l.m l.i l.j l.planned l.h l.low l.high

abbrev pub decreases-loop-h : goal.decreases-loop-h
decreases-loop-h l = l.m - l.h

abbrev pub invariant-loop-t : goal.invariant-loop-t
invariant-loop-t l = (L : Plan) → Reached l.n L l.across l.m (first_of l.across l.m) l.initial.walk l.initial.work l.initial.firsts.rows l.initial.firsts.columns
    → Along l.n L l.initial.work l.across l.m l.t l.walk l.work l.firsts.rows l.firsts.columns

abbrev pub decreases-loop-t : goal.decreases-loop-t
decreases-loop-t l = suc l.n - l.t
