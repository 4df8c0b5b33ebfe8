-- From place to place, and over a run of places that are not held: laws of `Line`.
use Rattle.std.proofs.Common.{arith, ◌≡◌, ◌+◌, ◌-◌, ◌≤◌, length}
use Rattle.writer.proofs.Line.{Along, along_starts, along_place, along_more, line-long, along_skips, along_ends}
use Rattle.writer.proofs.write_line.Goals as goal
use Rattle.writer.proofs.write_line.Goals.{After-wide}

pub loop-t-init : goal.loop-t-init
loop-t-init c = along_starts _ c.first_of-t.ensures (omega arith) c.requires.before c.requires.room

pub write_next-at-requires : goal.write_next-at-requires
write_next-at-requires c =
    let r = c.requires in
    let place = along_place c.loop-t.invariant r.inside c.loop-t-test.true c.row_of-i.ensures c.column_of-j.ensures r.divisor_value in
    record { inside = place.0; before = place.1.0; room = place.1.1 }

-- the t-th place is written
place-written : (c : After-wide) → let t = c.args.slotted.now in let a = c.args in let w = c.write_next-at in
    Along t.n t.plan.now t.work.now a.across a.m a.at.next a.words.now w.result (c.loop-t.t + 1) w.new.words
place-written c =
    let r = c.requires in
    let w = c.write_next-at.ensures in
    along_more c.loop-t.invariant r.inside c.loop-t-test.true c.row_of-i.ensures c.column_of-j.ensures r.divisor_value _ w.wrote w.done_value

-- the line's last place has a work number, and so has this one
room : (c : After-wide) → let t = c.args.slotted.now in let w = c.write_next-at in
    (w.result.done + (t.n - c.loop-t.t) ≤ length t.work.now) × (w.result.done ≤ 360000) × (t.n ≤ 600) × (c.loop-t.t ≤ t.n)
room c =
    let r = c.requires in
    let v = c.loop-t.invariant in
    let ready = c.args.slotted.now.ready in
    let covers = ready.covers in
    omega (arith, line-long c.args.across ready r.inside v.rising.low c.loop-t-test.true v.before, c.write_next-at.ensures.done_value.0, covers)

pub zeros-empty-requires : goal.zeros-empty-requires
zeros-empty-requires c = omega (arith, room (goal.at.zeros-empty-requires c).After-wide, c.wide.ensures)

pub overflow_add-at : goal.overflow_add-at
overflow_add-at c = omega (arith, room (goal.at.overflow_add-at c).After-wide, c.zeros-empty.ensures.0)

pub loop-t-preserved : goal.loop-t-preserved
loop-t-preserved c =
    let w = (goal.at.loop-t-preserved c).After-wide in
    let z = c.zeros-empty in
    let on : c.loop-t.t + (z.result + 1) ≡ c.loop-t.t + 1 + z.result = omega arith in
    rw on (along_skips c.args.slotted.now.ready c.requires.inside (place-written w) z.result (omega (arith, room w, z.ensures.0))
    (λ k early. rw c.wide.ensures at (z.ensures.1 k early)))

pub returns-clause-wrote : goal.returns-clause-wrote
returns-clause-wrote c = (along_ends c.loop-t.invariant c.loop-t-test.false).0
