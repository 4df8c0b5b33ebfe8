-- Walking along row m: a run of places without numbers is a step of `Row`.
use Rattle.std.proofs.Common.{arith, ◌≡◌, ◌+◌, ◌-◌, ◌≤◌, length}
use Rattle.model.specs.Fill.{Plan}
use Rattle.reuse.specs.Places.{RowAt}
use Rattle.reuse.proofs.Row.{row_sizes, row-long, row-skips}
use Rattle.reuse.proofs.assign_row.Goals as goal
use Rattle.reuse.proofs.assign_row.Goals.{After-wide}

-- the t-th place is walked over
place-walked : (c : After-wide) (L : Plan) → let a = c.args in let w = c.next_in_row-walk in
    RowAt a.n L a.m a.m a.from a.last.now a.given.now a.walk → RowAt a.n L a.m c.loop-t.t a.from w.new.last w.new.given w.result
place-walked c L row = c.next_in_row-walk.ensures L (c.loop-t.invariant.done L row)

-- the row's last place has a number, and so has this one
room : (c : After-wide) → let n = c.args.n in let w = c.next_in_row-walk in
    (w.result.done + (n - c.loop-t.t) ≤ length w.new.given) × (w.result.done ≤ 360000) × (n ≤ 600) × (c.loop-t.t ≤ n)
room c =
    let r = c.requires in
    let start = c.loop-t.invariant.start in
    let row = place-walked c r.some_row.plan r.some_row.row in
    omega (arith, row_sizes row, row-long row r.inside.row_low (omega arith) (omega arith) c.loop-t-test.true)

pub zeros-empty-requires : goal.zeros-empty-requires
zeros-empty-requires c = omega (arith, room (goal.at.zeros-empty-requires c).After-wide)

pub overflow_add-walk : goal.overflow_add-walk
overflow_add-walk c = omega (arith, room (goal.at.overflow_add-walk c).After-wide, c.zeros-empty.ensures.0)

pub loop-t-preserved : goal.loop-t-preserved
loop-t-preserved c =
    let w = (goal.at.loop-t-preserved c).After-wide in
    let z = c.zeros-empty in
    let t = c.loop-t.t in
    let back : t + (z.result + 1) - 1 ≡ t + z.result = omega arith in
    let high : t + z.result ≤ c.args.n = omega (arith, room w, z.ensures.0) in
    record {
      done = λ L row. rw back (row-skips c.requires.inside z.result (place-walked w L row) (omega arith) high
          (λ k early. rw c.wide.ensures at (z.ensures.1 k early)));
      start = omega arith;
      end = omega arith;
    }

pub returns : goal.returns
returns c L row =
    let v = c.loop-t.invariant in
    let end : c.loop-t.t - 1 ≡ c.args.n = omega arith in
    rw end at (v.done L row)
