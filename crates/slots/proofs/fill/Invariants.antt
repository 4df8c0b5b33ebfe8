-- `slots::fill` goes through the batches: those before m are done, and their products counted.
use Rattle.model.specs.Fill.{Plan}
use Rattle.slots.specs.Marks.{Marks}
use Rattle.slots.proofs.Pass.{Passing}
use Rattle.slots.proofs.fill.Given as goal

abbrev pub invariant-loop-m : goal.invariant-loop-m
invariant-loop-m l = (L : Plan) → Marks l.n L 0 l.initial.work → Passing l.n L l.initial.work l.m l.walk l.products l.above l.missing l.work l.firsts.rows l.firsts.columns
