use Rattle.std.proofs.Common.{arith}
use lib.Seq.{take_all}
use Rattle.slots.proofs.Marks.{positioned_none, label_small, marked_more, marked_since}
use Rattle.slots.proofs.mark.Goals as goal

pub loop-k-init : goal.loop-k-init
loop-k-init c = positioned_none _ _ (rw c.wide.ensures at c.clear.ensures)

pub overflow_cast-work : goal.overflow_cast-work
overflow_cast-work c = omega (arith, label_small _ _ _ c.requires.n_value c.requires.plan_value c.loop-k-test.true)

pub overflow_add-work : goal.overflow_add-work
overflow_add-work c = omega (arith, label_small _ _ _ c.requires.n_value c.requires.plan_value c.loop-k-test.true)

pub overflow_sub-label : goal.overflow_sub-label
overflow_sub-label c = (label_small _ _ _ c.requires.n_value c.requires.plan_value c.loop-k-test.true).0

pub bounds-work-wide : goal.bounds-work-wide
bounds-work-wide c =
    omega (arith, label_small _ _ _ c.requires.n_value c.requires.plan_value c.loop-k-test.true, c.wide-in-loop-k.ensures, c.loop-k.auto.work, c.clear.auto.work)

pub loop-k-preserved : goal.loop-k-preserved
loop-k-preserved c =
    marked_more _ _ _ _ (omega (arith, c.clear.auto.work)) c.requires.plan_value c.loop-k-test.true c.wide-in-loop-k.ensures c.loop-k.invariant

pub returns : goal.returns
returns c =
    let all = take_all c.loop-k.k c.args.plan.now (omega arith) in
    marked_since _ _ (rw c.wide.ensures at c.clear.ensures) c.requires.n_in_bounds (rw all at c.loop-k.invariant)
