-- The loop's invariant: the batches before m are done.
use Rattle.std.proofs.Common.{◌-◌}
use Rattle.model.specs.Fill.{Plan}
use Rattle.reuse.specs.Places.{Planned, BatchAt}
use Rattle.reuse.proofs.assign.Given as goal

abbrev pub invariant-loop-m : goal.invariant-loop-m
invariant-loop-m l = (L : Plan) → Planned l.n L l.rows l.fn.given → BatchAt l.n L (l.m - 1) l.rows l.last l.given l.walk
