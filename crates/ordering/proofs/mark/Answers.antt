-- The positions are noted, the work numbers are cleared, and then one label more is marked each turn: laws of `Marking`.
use Rattle.std.proofs.Common.{arith, ◌≡◌, ◌*◌, ◌≤◌, ◌<◌, ◌++◌, add-one, length, replicate, drop}
use Rattle.std.proofs.Math.Nat.{mul-le-mul}
use Rattle.std.proofs.Math.Seq.{take-suc, take_all}
use Rattle.model.proofs.Within.{within-range}
use Rattle.model.proofs.Plans.{label_inside}
use Rattle.labels.proofs.Seeking.{first-batch, reaches-later}
use Rattle.ordering.specs.Numbered.{Inverse}
use Rattle.ordering.proofs.Positions.{positions-range}
use Rattle.ordering.proofs.Marking.{index-range, marked-none, marked_more, marked_since}
use Rattle.ordering.proofs.mark.Goals as goal
use Rattle.ordering.proofs.mark.Goals.{After-invert, After-clear, After-moved-index}

-- what clearing leaves
zeros : (c : After-clear) → let count = c.args.n * c.args.n in c.clear.new.work ≡ replicate count 0 ++ drop count c.args.work.now
zeros c = rw c.wide.ensures at c.clear.ensures

-- the positions are those of the numbering
positions : (c : After-invert) → Inverse c.args.numbering.now c.args.n c.invert.new.positions
positions c = rw c.requires.numbering.0.size at c.invert.ensures

pub loop-label-init : goal.loop-label-init
loop-label-init c =
    let p = c.requires in
    record {
      marked = marked-none p.numbering.0 _ (zeros (goal.at.loop-label-init c).After-clear);
      reaches = λ j low high. first-batch _ _ (within-range _ 600 p.n_value.0).0 (label_inside _ _ _ p.n_value.1 high).0;
    }

pub batch_of-batch-requires : goal.batch_of-batch-requires
batch_of-batch-requires c =
    let p = c.requires.n_value in
    let k = c.loop-label.label-index in
    let more = c.loop-label-test.true in
    (((within-range _ 600 p.0).1, (label_inside _ _ k p.1 more).1), c.loop-label.invariant.reaches k (omega arith) more)

pub moved-index-requires-clause-positions_len : goal.moved-index-requires-clause-positions_len
moved-index-requires-clause-positions_len c =
    let v = positions (goal.at.moved-index-requires-clause-positions_len c).After-invert in
    (v.size, positions-range c.requires.numbering.0 v)

-- the index of the label's work number
index : (c : After-moved-index) → let count = c.args.n * c.args.n in (c.moved-index.result < count) × (count ≤ 360000) × (count ≤ length c.loop-label.work)
index c =
    let high = (within-range c.args.n 600 c.requires.n_value.0).1 in (
      index-range c.requires.numbering.0 (positions (goal.at.After-moved-index c).After-invert) c.moved-index.ensures,
      mul-le-mul {n₂ = 600} {m₂ = 600} high high,
      omega (arith, c.loop-label.invariant.marked.size),
    )

pub offset_bounds-work-index : goal.offset_bounds-work-index
offset_bounds-work-index c = omega (arith, index (goal.at.offset_bounds-work-index c).After-moved-index)

pub bounds-work-index : goal.bounds-work-index
bounds-work-index c = omega (arith, index (goal.at.bounds-work-index c).After-moved-index)

pub loop-label-preserved : goal.loop-label-preserved
loop-label-preserved c =
    let p = c.requires in
    let k = c.loop-label.label-index in
    let plan = c.args.plan.now in
    let label-more = take-suc plan k 0 c.loop-label-test.true in
    let room : c.args.n * c.args.n ≤ length c.clear.new.work = omega arith in
    let v = positions (goal.at.loop-label-preserved c).After-invert in
    record {
      marked = rw (add-one, label-more) (marked_more p.numbering.0 v room c.loop-label.invariant.marked c.moved-index.ensures);
      reaches = λ j low high. reaches-later _ plan k j p.n_value.1 (omega arith) high c.batch_of-batch.ensures;
    }

pub returns : goal.returns
returns c =
    let p = c.requires.numbering in
    let all = take_all c.loop-label.label-index c.args.plan.now c.loop-label-test.false in
    marked_since p.0 _ (zeros (goal.at.returns c).After-clear) p.1 (rw all at c.loop-label.invariant.marked)
