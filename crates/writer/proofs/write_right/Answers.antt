-- The walk back along row i: what a turn writes is a law of `Products`.
use Rattle.std.proofs.Common.{arith, ◌≡◌, ◌+◌, ◌-◌, ◌∙◌}
use Rattle.labels.proofs.Range.{label-answered}
use Rattle.writer.specs.Worked.{product_at}
use Rattle.writer.proofs.Products.{Falling, Stands, stands, product_at_is, label-left, falling_starts, falling-room, falling_more, falling-ends}
use Rattle.writer.proofs.write_right.Goals as goal
use Rattle.writer.proofs.write_right.Goals.{In-loop-h, After-subtract-next}

pub loop-h-init : goal.loop-h-init
loop-h-init c =
    let r = c.requires in
    let same : c.args.n + 1 - 1 ≡ c.args.n = omega arith in
    rw same (record {
      falling = falling_starts (omega arith) r.room;
      row = λ above. c.wide-across.ensures ∙ (c.label.ensures ∙ label-answered _ _ _ r.covers.high (omega arith));
    })

here : (c : In-loop-h) → let a = c.args in let l = c.loop-h in Stands a.n a.work.now a.i (l.h - 1) l.across
here c = stands c.requires.covers (omega arith) (c.loop-h.invariant.row (omega arith))

pub overflow_sub-across : goal.overflow_sub-across
overflow_sub-across c = (here (goal.at.overflow_sub-across c).In-loop-h).low

pub offset_bounds-work-across : goal.offset_bounds-work-across
offset_bounds-work-across c = omega (arith, here (goal.at.offset_bounds-work-across c).In-loop-h)

pub bounds-work-across : goal.bounds-work-across
bounds-work-across c = omega (arith, here (goal.at.bounds-work-across c).In-loop-h)

pub subtract-next-requires : goal.subtract-next-requires
subtract-next-requires c =
    let t = (goal.at.subtract-next-requires c).In-loop-h in
    rw (product_at_is _ (here t)) at (falling-room c.loop-h.invariant.falling (omega arith))

-- the product of a turn is written
written : (c : After-subtract-next) → let a = c.args in let l = c.loop-h in let s = c.subtract-next in
    Falling (product_at a.n a.work.now 6 a.i) a.first a.k a.n a.i a.rest.now s.result (l.h - 1 - 1) s.new.words
written c =
    let t = (goal.at.After-subtract-next c).In-loop-h in
    falling_more c.loop-h.invariant.falling (omega arith) (rw (← product_at_is _ (here t)) at c.subtract-next.ensures)

pub overflow_sub-across-in-loop-h : goal.overflow_sub-across-in-loop-h
overflow_sub-across-in-loop-h c = (here (goal.at.overflow_sub-across-in-loop-h c).In-loop-h).low

pub loop-h-preserved : goal.loop-h-preserved
loop-h-preserved c =
    let at = goal.at.loop-h-preserved c in
    record { falling = written at.After-subtract-next; row = label-left _ _ _ _ (here at.In-loop-h).is }

pub returns : goal.returns
returns c = falling-ends c.loop-h.invariant.falling (omega arith)
