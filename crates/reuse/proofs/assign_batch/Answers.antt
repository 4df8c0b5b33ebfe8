-- From one batch to the next: each part is a law of `Batch`.
use Rattle.std.proofs.Common.{arith, ap, suc, ◌-◌, ◌*◌, ◌≤◌, ◌<◌, length, get_or}
use Rattle.model.specs.Fill.{Plan}
use Rattle.reuse.specs.Places.{ColumnAt, RowAt, BatchAt}
use Rattle.reuse.proofs.Placed.{freeing, sizes}
use Rattle.reuse.proofs.Column.{column_bounds}
use Rattle.reuse.proofs.Batch.{batch-column, column-room, column-row, row_room, row-batch}
use Rattle.reuse.proofs.assign_batch.Goals as goal
use Rattle.reuse.proofs.assign_batch.Goals.{After-assign_column-column, After-release-start, After-assign_row-row}

pub assign_column-column-requires-clause-some_column : goal.assign_column-column-requires-clause-some_column
assign_column-column-requires-clause-some_column c =
    let b = c.requires.some_batch in
    record { plan = b.plan; column = batch-column c.requires.inside.row_low c.requires.inside.row-high b.batch }

column-done : (c : After-assign_column-column) (L : Plan) → let a = c.args in BatchAt a.n L (a.m - 1) a.rows.now a.last.now a.given.now a.walk
    → ColumnAt a.n L a.m (suc a.n) c.assign_column-column.new.given c.assign_column-column.result
column-done c L b = c.assign_column-column.ensures L (batch-column c.requires.inside.row_low c.requires.inside.row-high b)

pub release-start-requires-clause-m_bound : goal.release-start-requires-clause-m_bound
release-start-requires-clause-m_bound c =
    let b = c.requires.some_batch in
    let k = column-done (goal.at.release-start-requires-clause-m_bound c).After-assign_column-column b.plan b.batch in
    (column-room c.requires.inside.row_low c.requires.inside.row-high k, k.holds.fits)

row-begins : (c : After-release-start) (L : Plan) → let a = c.args in BatchAt a.n L (a.m - 1) a.rows.now a.last.now a.given.now a.walk
    → RowAt a.n L a.m a.m (get_or a.rows.now c.wide.result 0) a.last.now c.release-start.new.given
    (freeing c.assign_column-column.result c.release-start.result)
row-begins c L b =
    let e = c.release-start.ensures in
    column-row c.requires.inside.row_low c.requires.inside.row-high b (column-done (goal.at.After-release-start c).After-assign_column-column L b)
    (ap (λ i. get_or c.args.rows.now i 0) c.wide.ensures) c.release-start.auto.given e.lower_bound.0 e.lower_bound.1 e.by_index e.given_after

pub assign_row-row-requires-clause-some_row : goal.assign_row-row-requires-clause-some_row
assign_row-row-requires-clause-some_row c =
    let b = c.requires.some_batch in
    record { plan = b.plan; row = row-begins (goal.at.assign_row-row-requires-clause-some_row c).After-release-start b.plan b.batch }

row_done : (c : After-assign_row-row) (L : Plan) → let a = c.args in let r = c.assign_row-row in
    BatchAt a.n L (a.m - 1) a.rows.now a.last.now a.given.now a.walk
    → RowAt a.n L a.m a.n (get_or a.rows.now c.wide.result 0) r.new.last r.new.given r.result
row_done c L b = c.assign_row-row.ensures L (row-begins (goal.at.After-assign_row-row c).After-release-start L b)

-- the pivot's place has a slot, and there is room for it among the free ones
room : (c : After-assign_row-row) → let n = c.args.n in let r = c.assign_row-row in
    (c.args.walk.done < n * n) × (n * n ≤ 360000) × (n * n < r.result.top) × (r.result.top ≤ length r.new.given)
room c =
    let inside = c.requires.inside in
    let b = c.requires.some_batch.batch in
    let first = column_bounds (batch-column inside.row_low inside.row-high b) inside.row_low (omega arith) inside.row-high in
    omega (arith, first, sizes b.good, row_room inside.row_low inside.row-high (row_done c c.requires.some_batch.plan b))

pub bounds-given-pivot : goal.bounds-given-pivot
bounds-given-pivot c = omega (arith, room (goal.at.bounds-given-pivot c).After-assign_row-row)

pub push-top-requires : goal.push-top-requires
push-top-requires c = omega (arith, room (goal.at.push-top-requires c).After-assign_row-row)

pub returns : goal.returns
returns c L b =
    let inside = c.requires.inside in
    let e = c.push-top.ensures in
    row-batch inside.row_low inside.row-high b (row_done (goal.at.returns c).After-assign_row-row L b) c.wide-pivot.ensures c.push-top.auto.given
    e.upper_bound.0 e.upper_bound.1 e.by_index e.given_after
