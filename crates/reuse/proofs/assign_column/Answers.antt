-- Walking down column m: each place is a step of `Column`, and so is a run of places without numbers.
use Rattle.std.proofs.Common.{arith, ◌≡◌, suc, ◌+◌, ◌-◌, ◌≤◌, length}
use Rattle.model.specs.Fill.{Plan}
use Rattle.reuse.specs.Places.{ColumnAt}
use Rattle.reuse.proofs.Placed.{sizes}
use Rattle.reuse.proofs.Column.{column_bounds, column-ends, column-step, column-skips}
use Rattle.reuse.proofs.assign_column.Goals as goal
use Rattle.reuse.proofs.assign_column.Goals.{After-wide}

-- the place of a turn has a number, and so has each slot
pub next_place-walk-requires : goal.next_place-walk-requires
next_place-walk-requires c =
    let r = c.requires in
    let v = c.loop-t.invariant in
    let at = v.done r.some_column.plan r.some_column.column in
    let b = column_bounds at r.inside.row_low v.start c.loop-t-test.true in
    let s = sizes at.good in
    record { done_in_bounds = omega (arith, at.holds.count, at.holds.fits); done_bound = omega arith }

-- the t-th place is done
place-done : (c : After-wide) (L : Plan) → let a = c.args in
    ColumnAt a.n L a.m a.m a.given.now a.walk → ColumnAt a.n L a.m (suc c.loop-t.t) c.next_place-walk.new.given c.next_place-walk.result
place-done c L at =
    let v = c.loop-t.invariant in
    column-step (v.done L at) c.requires.inside.row_low v.start c.loop-t-test.true c.next_place-walk.ensures

-- the column's last place has a number, and so has this one
room : (c : After-wide) → let n = c.args.n in let g = c.next_place-walk in
    (g.result.done + (n - c.loop-t.t) ≤ length g.new.given) × (g.result.done ≤ 360000) × (n ≤ 600) × (c.loop-t.t ≤ n)
room c =
    let r = c.requires in
    let at = place-done c r.some_column.plan r.some_column.column in
    omega (arith, column-ends at r.inside.row_low c.loop-t.invariant.start c.loop-t-test.true, sizes at.good, at.holds.count)

pub zeros-empty-requires : goal.zeros-empty-requires
zeros-empty-requires c = omega (arith, room (goal.at.zeros-empty-requires c).After-wide)

pub overflow_add-walk : goal.overflow_add-walk
overflow_add-walk c = omega (arith, room (goal.at.overflow_add-walk c).After-wide, c.zeros-empty.ensures.0)

pub loop-t-preserved : goal.loop-t-preserved
loop-t-preserved c =
    let w = (goal.at.loop-t-preserved c).After-wide in
    let z = c.zeros-empty in
    let t = c.loop-t.t in
    let on : suc t + z.result ≡ t + (z.result + 1) = omega arith in
    let high : suc t + z.result ≤ suc c.args.n = omega (arith, room w, z.ensures.0) in
    record {
      done = λ L at. rw on at (column-skips (suc t) z.result c.next_place-walk.result (place-done w L at) c.requires.inside.row_low
          (omega arith) high (λ k early. rw c.wide.ensures at (z.ensures.1 k early)));
      start = omega arith;
      end = omega arith;
    }
