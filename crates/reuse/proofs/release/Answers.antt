-- The walk along row m: what it frees is a law of `Freed`.
use Rattle.std.proofs.Common.{arith, rules, ◌≤◌, ◌*◌, length, ◌∙◌}
use Rattle.labels.proofs.Range.{label-answered}
use Rattle.reuse.proofs.Freed.{releasing_starts, releasing_place, dies_if_last, dies_not, releasing_more, releasing_ends}
use Rattle.reuse.proofs.release.Goals as goal
use Rattle.reuse.proofs.release.Goals.{In-loop-h, then-slot-ne0, else-slot-ne0}

pub loop-h-init : goal.loop-h-init
loop-h-init c =
    let r = c.requires in
    releasing_starts (omega arith) (omega arith) r.m_bound.0 r.m_bound.1
    (λ below. c.wide-across.ensures ∙ (c.label.ensures ∙ label-answered _ _ _ r.inside.1.0 (omega arith)))

-- the label of the place of a turn
here : (c : In-loop-h) → let l = c.loop-h in (1 ≤ l.across) × (l.across ≤ c.args.n * c.args.n) × (l.across ≤ length l.given) × (l.across ≤ 360000)
here c = releasing_place c.loop-h.invariant c.loop-h-test.true c.requires.inside.0.row-high c.requires.inside.1.0

pub overflow_sub-slot : goal.overflow_sub-slot
overflow_sub-slot c = omega (arith, here (goal.at.overflow_sub-slot c).In-loop-h)

pub offset_bounds-given-across : goal.offset_bounds-given-across
offset_bounds-given-across c = omega (arith, here (goal.at.offset_bounds-given-across c).In-loop-h)

pub bounds-given-across : goal.bounds-given-across
bounds-given-across c = omega (arith, here (goal.at.bounds-given-across c).In-loop-h)

pub overflow_add-across : goal.overflow_add-across
overflow_add-across c = omega (arith, here (goal.at.overflow_add-across c).In-loop-h)

pub loop-h-preserved : goal.loop-h-preserved
loop-h-preserved c =
    let r = c.loop-h.invariant in
    let inside = c.requires.inside in
    let pushed = c.push-top.ensures in
    releasing_more r c.loop-h-test.true inside.0.row-high inside.1.0 c.wide-in-loop-h.ensures
    (elim c.if-slot-ne0.branch [
      | then-slot-ne0 w ↦ dies_if_last r w.if-slot-ne0.true w.wide.ensures w.max.ensures w.dies-is
      | else-slot-ne0 w ↦ dies_not r w.if-slot-ne0.false w.dies-is
    ])
    pushed.given_after (search rules) pushed.upper_bound.0 pushed.upper_bound.1 pushed.by_index

pub returns-clause-given_after : goal.returns-clause-given_after
returns-clause-given_after c = releasing_ends c.loop-h.invariant c.loop-h-test.false
