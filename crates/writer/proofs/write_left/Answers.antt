-- The walk along row m: what a turn writes is a law of `Products`.
use Rattle.std.proofs.Common.{arith, ◌∙◌}
use Rattle.labels.proofs.Range.{label-answered}
use Rattle.writer.proofs.Products.{Stands, stands, product_at_is, label_across, rising-skips, rising-room, rising-more, rising-ends}
use Rattle.writer.proofs.write_left.Goals as goal
use Rattle.writer.proofs.write_left.Goals.{In-loop-h}

pub loop-h-init : goal.loop-h-init
loop-h-init c =
    let r = c.requires in
    record {
      rising = rw c.max-start.ensures (rising-skips _ r.none_below r.room);
      row = λ below. c.wide-across.ensures ∙ (c.label.ensures ∙ label-answered _ _ _ r.covers.high (omega arith));
    }

here : (c : In-loop-h) → let a = c.args in let l = c.loop-h in Stands a.n a.work.now a.m l.h l.across
here c = stands c.requires.covers (omega arith) (c.loop-h.invariant.row (omega arith))

pub overflow_sub-p : goal.overflow_sub-p
overflow_sub-p c = (here (goal.at.overflow_sub-p c).In-loop-h).low

pub offset_bounds-work-across : goal.offset_bounds-work-across
offset_bounds-work-across c = omega (arith, here (goal.at.offset_bounds-work-across c).In-loop-h)

pub bounds-work-across : goal.bounds-work-across
bounds-work-across c = omega (arith, here (goal.at.bounds-work-across c).In-loop-h)

pub subtract-next-requires : goal.subtract-next-requires
subtract-next-requires c =
    let t = (goal.at.subtract-next-requires c).In-loop-h in
    rw (product_at_is _ (here t)) at (rising-room c.loop-h.invariant.rising c.loop-h-test.true)

pub overflow_add-across : goal.overflow_add-across
overflow_add-across c = omega (arith, here (goal.at.overflow_add-across c).In-loop-h)

pub loop-h-preserved : goal.loop-h-preserved
loop-h-preserved c =
    let t = (goal.at.loop-h-preserved c).In-loop-h in
    record {
      rising = rising-more c.loop-h.invariant.rising c.loop-h-test.true (rw (← product_at_is _ (here t)) at c.subtract-next.ensures);
      row = λ below. label_across _ _ _ _ _ (here t).is c.wide.ensures (omega arith) (omega arith) (omega arith);
    }

pub returns : goal.returns
returns c = rising-ends c.loop-h.invariant.rising c.loop-h-test.false
