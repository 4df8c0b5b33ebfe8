-- `plans::between` tries one h after the other, from where both lines can first be held: h is at most the smallest that serves.
use Rattle.model.specs.Fill.{Plan}
use Rattle.plans.specs.Stands.{Stands, Filled}
use Rattle.plans.proofs.Middle.{Seeking}
use Rattle.plans.proofs.between.Given as goal

abbrev pub invariant-loop-h : goal.invariant-loop-h
invariant-loop-h l = (L : Plan) → Stands l.n L l.work l.firsts.rows l.firsts.columns → Filled l.n L l.i l.j → Seeking l.n L l.i l.j l.h l.low l.high
