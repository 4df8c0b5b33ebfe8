-- The label's place, and the label of the place that it goes to.
use Rattle.std.proofs.Common.{arith, ◌≡◌, ◌≤◌, get_or}
use Rattle.model.specs.Label.{label}
use Rattle.plans.proofs.Places.{place-label}
use Rattle.ordering.proofs.moved.Goals as goal
use Rattle.ordering.proofs.moved.Goals.{After-label}

-- the label of the positions of the place's row and column
named : (c : After-label) → let q = c.args.positions.now in let r = c.place_in-place.result in
    (c.label.result ≡ label c.args.n (get_or q r.row 0) (get_or q r.column 0)) × (1 ≤ c.label.result)
named c =
    let range = c.requires.positions_len.1 in
    let s = c.place_in-place.ensures.0 in
    let a = range _ s.row_low s.row-high in
    let b = range _ s.column-low s.column-high in
    place-label _ _ _ (rw (c.wide.ensures, c.wide-2.ensures) at c.label.ensures) c.requires.n_bound.0
    (record { row_low = a.0; row-high = a.1; column-low = b.0; column-high = b.1 })

pub overflow_sub-label : goal.overflow_sub-label
overflow_sub-label c = (named (goal.at.overflow_sub-label c).After-label).1

pub returns : goal.returns
returns c = record {
  row = c.place_in-place.result.row;
  column = c.place_in-place.result.column;
  inside = c.place_in-place.ensures.0;
  label_is = c.place_in-place.ensures.1;
  index_is = omega (arith, named (goal.at.returns c).After-label);
}
