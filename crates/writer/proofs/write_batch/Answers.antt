-- Column, y(m) and row are the parts of a batch: laws of `Line`.
use Rattle.std.proofs.Common.{arith, ap, suc, sym, refl, ◌≡◌, ◌∙◌, ◌*◌, get_or}
use Rattle.writer.specs.Written.{Room}
use Rattle.writer.specs.Worked.{number_at}
use Rattle.writer.specs.Line.{y_at}
use Rattle.writer.proofs.Written.{wrote_none, lent_room, lent_back, first-room, second_room, fourth_room, parts-written}
use Rattle.writer.proofs.Line.{number-here, forward-none, place_bounds, batch-parts, turned, onward}
use Rattle.writer.proofs.write_batch.Goals as goal
use Rattle.writer.proofs.write_batch.Goals.{After-wide, After-write_line-column}

pub bounds-slotted-wide : goal.bounds-slotted-wide
bounds-slotted-wide c = omega (arith, place_bounds c.args.slotted.now.ready c.requires.inside c.requires.before)

-- what is read is the pivot's work number
pivot_is : (c : After-wide) → let t = c.args.slotted.now in get_or t.work.now c.wide.result 0 ≡ number_at t.n t.work.now c.args.m c.args.m
pivot_is c = sym (number-here _ _ _ _ _ (ap suc c.wide.ensures ∙ c.requires.before.here))

pub write_line-column-requires-clause-room : goal.write_line-column-requires-clause-room
write_line-column-requires-clause-room c = first-room (batch-parts _ _ _ _) c.requires.room

-- after the column there is room for y(m)
forward-room : (c : After-write_line-column) → let t = c.args.slotted.now in let w = c.write_line-column in
    Room 0 w.result.next (y_at t.n t.work.now c.args.m) w.new.words
forward-room c = second_room (batch-parts _ _ _ _) c.requires.room c.write_line-column.ensures.wrote

pub slice_bounds-write_forward-count : goal.slice_bounds-write_forward-count
slice_bounds-write_forward-count c = omega (arith, forward-room (goal.at.slice_bounds-write_forward-count c).After-write_line-column)

pub slice_bounds-write_forward-start : goal.slice_bounds-write_forward-start
slice_bounds-write_forward-start c = omega (arith, forward-room (goal.at.slice_bounds-write_forward-start c).After-write_line-column)

pub write_forward-after-requires-clause-pivot_value : goal.write_forward-after-requires-clause-pivot_value
write_forward-after-requires-clause-pivot_value c = pivot_is (goal.at.write_forward-after-requires-clause-pivot_value c).After-wide

pub write_forward-after-requires-clause-none_below : goal.write_forward-after-requires-clause-none_below
write_forward-after-requires-clause-none_below c = forward-none c.args.slotted.now.ready _ _ _ c.requires.inside c.wide-2.ensures refl

pub write_forward-after-requires-clause-room : goal.write_forward-after-requires-clause-room
unfolding y_at
write_forward-after-requires-clause-room c =
    lent_room (ap (◌*◌ 4) c.wide-start.ensures) (forward-room (goal.at.write_forward-after-requires-clause-room c).After-write_line-column)

pub write_line-requires-clause-divisor_value : goal.write_line-requires-clause-divisor_value
write_line-requires-clause-divisor_value c = pivot_is (goal.at.write_line-requires-clause-divisor_value c).After-wide

pub write_line-requires-clause-before : goal.write_line-requires-clause-before
write_line-requires-clause-before c = turned c.requires.inside _ c.write_line-column.ensures.before_2

pub write_line-requires-clause-room : goal.write_line-requires-clause-room
unfolding y_at
write_line-requires-clause-room c =
    let forward-written = lent_back (ap (◌*◌ 4) c.wide-start.ensures) c.write_forward-after.ensures in
    fourth_room (batch-parts _ _ _ _) c.requires.room c.write_line-column.ensures.wrote forward-written wrote_none

pub returns-clause-wrote : goal.returns-clause-wrote
unfolding y_at
returns-clause-wrote c =
    let forward-written = lent_back (ap (◌*◌ 4) c.wide-start.ensures) c.write_forward-after.ensures in
    parts-written (batch-parts _ _ _ _) c.requires.room c.write_line-column.ensures.wrote forward-written wrote_none c.write_line.ensures.wrote

pub returns-clause-before_2 : goal.returns-clause-before_2
returns-clause-before_2 c = onward c.requires.inside c.write_line.ensures.before_2
