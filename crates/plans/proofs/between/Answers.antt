-- `plans::between` tries one h after the other; before the last the smallest that serves was found.
use Rattle.std.proofs.Common.{arith}
use Rattle.plans.proofs.Places.{place-label}
use Rattle.plans.proofs.Middle.{pair_inside, start, indices, found, larger, onward}
use Rattle.plans.proofs.between.Goals as goal

pub overflow_sub-label : goal.overflow_sub-label
overflow_sub-label c =
    let q = c.requires in
    let b = start q.stands q.filled c.pair_from.ensures c.max-first.ensures in
    (place-label _ _ _ c.label.ensures q.stands.high (pair_inside q.stands q.filled _ b.0 b.1).0).1

pub overflow_sub-label-2 : goal.overflow_sub-label-2
overflow_sub-label-2 c =
    let q = c.requires in
    let b = start q.stands q.filled c.pair_from.ensures c.max-first.ensures in
    (place-label _ _ _ c.label-2.ensures q.stands.high (pair_inside q.stands q.filled _ b.0 b.1).1).1

pub loop-h-init : goal.loop-h-init
loop-h-init c = λ L stands filled.
    let b = start stands filled c.pair_from.ensures c.max-first.ensures in
    let inside = pair_inside stands filled _ b.0 b.1 in
    let first = place-label _ _ _ c.label.ensures stands.high inside.0 in
    let second = place-label _ _ _ c.label-2.ensures stands.high inside.1 in
    record { from = b.0; up_to = b.1; low-at = omega (arith, first); high-at = omega (arith, second) }

pub both_used-requires : goal.both_used-requires
both_used-requires c =
    let q = c.requires in
    let b = indices q.stands q.filled (c.loop-h.invariant q.plan q.stands q.filled) in
    (b.0, b.1)

pub returns-then-both_used : goal.returns-then-both_used
returns-then-both_used c = λ L stands filled. found stands filled (c.loop-h.invariant L stands filled) c.both_used.ensures c.if-both_used.true

pub overflow_add-low-in-loop-h : goal.overflow_add-low-in-loop-h
overflow_add-low-in-loop-h c =
    let q = c.requires in
    omega (arith, indices q.stands q.filled (c.loop-h.invariant q.plan q.stands q.filled))

pub overflow_add-high-in-loop-h : goal.overflow_add-high-in-loop-h
overflow_add-high-in-loop-h c =
    let q = c.requires in
    omega (arith, indices q.stands q.filled (c.loop-h.invariant q.plan q.stands q.filled))

pub loop-h-preserved : goal.loop-h-preserved
loop-h-preserved c = λ L stands filled.
    let i = c.loop-h.invariant L stands filled in
    onward stands filled i _ c.wide-left.ensures (larger stands filled i c.both_used.ensures c.if-both_used.false)

pub unreachable-requires : goal.unreachable-requires
unreachable-requires c =
    let q = c.requires in
    omega (arith, indices q.stands q.filled (c.loop-h.invariant q.plan q.stands q.filled))
