-- The walk along row r: what a turn writes is a law of `Products`.
use Rattle.std.proofs.Common.{arith, ◌≡◌, suc, ◌+◌, ◌-◌, ◌<◌, ◌∙◌, length, get_or, take, drop, length-drop}
use Rattle.std.proofs.lemmas.List.{length-take}
use Rattle.labels.proofs.Range.{label-answered}
use Rattle.writer.specs.Written.{product_of}
use Rattle.writer.specs.Worked.{product_at}
use Rattle.writer.proofs.Products.{Stands, stands, rising_starts, rising-room, rising-more, rising-ends}
use Rattle.writer.proofs.Sweep.{right-part, right-product}
use Rattle.writer.proofs.rows.write_right_of.Goals as goal
use Rattle.writer.proofs.rows.write_right_of.Goals.{After-wide, After-wide, In-loop-h}

-- the label of the diagonal
diagonal : (c : After-wide) → let a = c.args in Stands a.n a.work.now a.r a.r c.wide.result
diagonal c =
    let r = c.requires in
    stands r.covers r.inside (c.wide.ensures ∙ (c.label.ensures ∙ label-answered _ _ _ r.covers.high r.inside))

pub slice_bounds-p-items-end : goal.slice_bounds-p-items-end
slice_bounds-p-items-end c =
    let r = c.requires in
    omega (arith, right-part r.covers (diagonal (goal.at.slice_bounds-p-items-end c).After-wide) r.inside, c.wide-right.ensures)

pub loop-h-init : goal.loop-h-init
loop-h-init c =
    let start : c.args.r + 1 + 0 ≡ suc c.args.r = omega arith in
    rw start (rising_starts c.requires.room)

-- how many places there are right of the diagonal
long : (c : After-wide) → let from = c.wide.result + c.wide-right.result in let a = c.args in
    length (take (from + c.wide-right.result - from) (drop from a.work.now)) ≡ a.n - a.r
long c =
    let from = c.wide.result + c.wide-right.result in
    let part = right-part c.requires.covers (diagonal (goal.at.After-wide c).After-wide) c.requires.inside in
    length-take _ (drop from c.args.work.now) ∙ omega (arith, part, c.wide-right.ensures, length-drop from c.args.work.now)

-- the product of a turn
here : (c : In-loop-h) → let a = c.args in let l = c.loop-h in let from = c.wide.result + c.wide-right.result in
    product_at a.n a.work.now 11 a.r (a.r + 1 + l.h)
    ≡ product_of 11 (get_or (take (from + c.wide-right.result - from) (drop from a.work.now)) l.h 0) (a.r + 1 + l.h)
here c =
    let r = c.requires in
    right-product r.covers (diagonal (goal.at.In-loop-h c).After-wide) r.inside (omega arith) (omega arith) c.loop-h-test.true

pub subtract-next-requires : goal.subtract-next-requires
subtract-next-requires c =
    let at = goal.at.subtract-next-requires c in
    rw (here at.In-loop-h) at (rising-room c.loop-h.invariant (omega (arith, long at.After-wide, c.loop-h-test.true)))

pub loop-h-preserved : goal.loop-h-preserved
loop-h-preserved c =
    let at = goal.at.loop-h-preserved c in
    let on : c.args.r + 1 + (c.loop-h.h + 1) ≡ c.args.r + 1 + c.loop-h.h + 1 = omega arith in
    let below : c.args.r + 1 + c.loop-h.h < suc c.args.n = omega (arith, long at.After-wide, c.loop-h-test.true) in
    rw on (rising-more c.loop-h.invariant below (rw (here at.In-loop-h) c.subtract-next.ensures))

pub returns : goal.returns
returns c = rising-ends c.loop-h.invariant (omega (arith, long (goal.at.returns c).After-wide))
