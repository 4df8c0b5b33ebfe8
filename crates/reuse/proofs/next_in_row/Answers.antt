-- A place that has no number is passed; another one is given a slot, noted as the row's last, and what it uses last is freed: laws of `Row`.
use Rattle.std.proofs.Common.{arith, ◌*◌, ◌≤◌, ◌<◌, length}
use Rattle.reuse.proofs.Row.{row_sizes, row-long, place-passed, place-room, place_took}
use Rattle.reuse.proofs.next_in_row.Goals as goal
use Rattle.reuse.proofs.next_in_row.Goals.{After-wide}

-- the next place has a number, and so has each slot
bounds : (c : After-wide) → let a = c.args in
    (a.n ≤ 600) × (a.walk.done < a.n * a.n) × (a.n * a.n ≤ 360000) × (a.n * a.n ≤ length a.given.now) × (a.walk.made ≤ a.n * a.n)
bounds c =
    let row = c.requires.some_row.row in
    let inside = c.requires.inside in
    omega (arith, row_sizes row, row-long row inside.0.row_low (omega arith) (omega (arith, inside)) (omega (arith, inside)), inside)

pub bounds-given-wide : goal.bounds-given-wide
bounds-given-wide c = omega (arith, bounds (goal.at.bounds-given-wide c).After-wide)

pub next_place-at-requires : goal.next_place-at-requires
next_place-at-requires c =
    let b = bounds (goal.at.next_place-at-requires c).After-wide in
    record { done_in_bounds = omega (arith, c.requires.some_row.row.holds.fits); done_bound = omega arith }

pub returns-then-not-held : goal.returns-then-not-held
returns-then-not-held c L row =
    let place = c.requires.inside in
    place-passed c.next_place-at.ensures c.wide.ensures _ place.0 place.1 row c.if-not-held.true

pub release-top-requires-clause-m_bound : goal.release-top-requires-clause-m_bound
release-top-requires-clause-m_bound c =
    let place = c.requires.inside in
    let room = place-room c.next_place-at.ensures c.wide.ensures _ place.0 place.1 c.requires.some_row.row c.if-not-held.false in
    omega (arith, c.next_place-at.ensures.fits)

pub returns : goal.returns
returns c L row =
    let place = c.requires.inside in
    let e = c.release-top.ensures in
    place_took c.next_place-at.ensures c.wide.ensures _ place.0 place.1 row c.if-not-held.false c.wide-2.ensures c.release-top.auto.given
    e.lower_bound.0 e.lower_bound.1 e.by_index e.given_after
