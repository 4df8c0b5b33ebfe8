-- A place that isn't held has no formula; another one's goes into the rest of the words: laws of `Line`.
use Rattle.std.proofs.Common.{arith, add-one, ap, suc, ◌≡◌, ◌∙◌, ◌*◌, ◌≤◌, ◌<◌, length, get_or}
use Rattle.model.specs.Program.{records_of}
use Rattle.writer.specs.Worked.{formula_at}
use Rattle.writer.specs.Line.{place_at}
use Rattle.writer.proofs.Written.{wrote_none, lent_room, lent_back}
use Rattle.writer.proofs.Line.{inner-none, place-left_out, place_kept, place_bounds, passed-left_out, position-found, passed-kept}
use Rattle.writer.proofs.write_next.Goals as goal
use Rattle.writer.proofs.write_next.Goals.{After-wide, After-position-position}

-- the place has a work number, and labels are small
bounds : (c : After-wide) → let at = c.args.at in
    (at.done < length c.args.slotted.now.work.now) × (at.done < 360000) × (at.passed ≤ 360000)
bounds c = omega (arith, place_bounds c.args.slotted.now.ready c.requires.inside c.requires.before)

pub bounds-slotted-wide : goal.bounds-slotted-wide
bounds-slotted-wide c = omega (arith, bounds (goal.at.bounds-slotted-wide c).After-wide)

pub overflow_add-label : goal.overflow_add-label
overflow_add-label c = omega (arith, bounds (goal.at.overflow_add-label c).After-wide)

pub returns-then-slot-eq0-clause-wrote : goal.returns-then-slot-eq0-clause-wrote
returns-then-slot-eq0-clause-wrote c =
    let r = c.requires in
    rw (place-left_out c.args.slotted.now.ready r.inside c.wide.result _ (ap suc c.wide.ensures ∙ r.before.here) c.if-slot-eq0.true) wrote_none

pub returns-then-slot-eq0-clause-done_value : goal.returns-then-slot-eq0-clause-done_value
returns-then-slot-eq0-clause-done_value c =
    let r = c.requires in
    (add-one _, passed-left_out c.args.slotted.now.ready r.inside r.before (rw c.wide.ensures at c.if-slot-eq0.true))

pub position-position-requires : goal.position-position-requires
position-position-requires c = omega (arith, bounds (goal.at.position-position-requires c).After-wide)

-- the place is held
kept : (c : After-position-position) → let t = c.args.slotted.now in let a = c.args in let slot = get_or t.work.now c.wide.result 0 in
    place_at t.n t.plan.now t.work.now a.divisor a.i a.j
    ≡ records_of (formula_at t.n t.work.now slot c.position-position.result a.divisor a.i a.j)
kept c =
    let r = c.requires in
    let ready = c.args.slotted.now.ready in
    place_kept ready r.inside c.wide.result _ (ap suc c.wide.ensures ∙ r.before.here) c.position-position.result c.if-slot-eq0.false
    (position-found ready r.inside r.before _ c.position-position.ensures)

pub write_place-after-requires-clause-none_below : goal.write_place-after-requires-clause-none_below
write_place-after-requires-clause-none_below c =
    inner-none c.args.slotted.now.ready _ _ _ _ _ c.requires.inside c.wide-2.ensures c.wide-3.ensures c.max-from.ensures

pub write_place-after-requires-clause-room : goal.write_place-after-requires-clause-room
write_place-after-requires-clause-room c =
    let k = kept (goal.at.write_place-after-requires-clause-room c).After-position-position in
    lent_room (ap (◌*◌ 4) c.wide-start.ensures) (rw k at c.requires.room)

pub returns-clause-wrote : goal.returns-clause-wrote
returns-clause-wrote c =
    rw (kept (goal.at.returns-clause-wrote c).After-position-position) (lent_back (ap (◌*◌ 4) c.wide-start.ensures) c.write_place-after.ensures)

pub returns-clause-done_value : goal.returns-clause-done_value
returns-clause-done_value c =
    let r = c.requires in
    (add-one _, c.max.ensures ∙ passed-kept c.args.slotted.now.ready r.inside r.before _ c.position-position.ensures)
