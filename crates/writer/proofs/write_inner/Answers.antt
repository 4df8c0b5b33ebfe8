-- The walk along row i and down column j: what a turn writes is a law of `Products`.
use Rattle.std.proofs.Common.{arith, ◌∙◌}
use Rattle.labels.proofs.Range.{label-answered}
use Rattle.writer.proofs.Products.{Stands, stands, inner-at, label_across, label_downward, rising-skips, rising-room, rising-more, rising-ends}
use Rattle.writer.proofs.write_inner.Goals as goal
use Rattle.writer.proofs.write_inner.Goals.{In-loop-h}

pub loop-h-init : goal.loop-h-init
loop-h-init c =
    let r = c.requires in
    record {
      rising = rw c.max-start.ensures (rising-skips _ r.none_below r.room);
      row = λ below. c.wide-across.ensures ∙ (c.label.ensures ∙ label-answered _ _ _ r.covers.high (omega arith));
      column = λ below. c.wide-down.ensures ∙ (c.label-2.ensures ∙ label-answered _ _ _ r.covers.high (omega arith));
    }

row : (c : In-loop-h) → let a = c.args in let l = c.loop-h in Stands a.n a.work.now a.i l.h l.across
row c = stands c.requires.covers (omega arith) (c.loop-h.invariant.row (omega arith))

column : (c : In-loop-h) → let a = c.args in let l = c.loop-h in Stands a.n a.work.now l.h a.j l.down
column c = stands c.requires.covers (omega arith) (c.loop-h.invariant.column (omega arith))

pub overflow_sub-across : goal.overflow_sub-across
overflow_sub-across c = (row (goal.at.overflow_sub-across c).In-loop-h).low

pub offset_bounds-work-across : goal.offset_bounds-work-across
offset_bounds-work-across c = omega (arith, row (goal.at.offset_bounds-work-across c).In-loop-h)

pub bounds-work-across : goal.bounds-work-across
bounds-work-across c = omega (arith, row (goal.at.bounds-work-across c).In-loop-h)

pub overflow_sub-down : goal.overflow_sub-down
overflow_sub-down c = (column (goal.at.overflow_sub-down c).In-loop-h).low

pub offset_bounds-work-down : goal.offset_bounds-work-down
offset_bounds-work-down c = omega (arith, column (goal.at.offset_bounds-work-down c).In-loop-h)

pub bounds-work-down : goal.bounds-work-down
bounds-work-down c = omega (arith, column (goal.at.bounds-work-down c).In-loop-h)

pub subtract-next-requires : goal.subtract-next-requires
subtract-next-requires c =
    let t = (goal.at.subtract-next-requires c).In-loop-h in
    rw (inner-at (row t) (column t)) at (rising-room c.loop-h.invariant.rising (omega arith))

pub overflow_add-across : goal.overflow_add-across
overflow_add-across c = omega (arith, row (goal.at.overflow_add-across c).In-loop-h)

pub overflow_add-down : goal.overflow_add-down
overflow_add-down c = omega (arith, column (goal.at.overflow_add-down c).In-loop-h)

pub loop-h-preserved : goal.loop-h-preserved
loop-h-preserved c =
    let t = (goal.at.loop-h-preserved c).In-loop-h in
    let inside = c.requires.inside in
    record {
      rising = rising-more c.loop-h.invariant.rising (omega arith) (rw (← inner-at (row t) (column t)) at c.subtract-next.ensures);
      row = λ below. label_across _ _ _ _ _ (row t).is c.wide-step.ensures (omega arith) (omega arith) (omega arith);
      column = λ below. label_downward _ _ _ _ _ (column t).is c.wide-step.ensures (omega arith) (omega arith) (omega arith);
    }

pub returns : goal.returns
returns c = rising-ends c.loop-h.invariant.rising (omega arith)
