-- `capi::crout_place` is the place's number: row and column are at most 600, so it fits.
use Rattle.std.proofs.Common.{ℕ, ◌≤◌, ◌≡◌, sym, ap, subst, arith}
use Rattle.model.specs.Label.{at, sought}
use Rattle.model.specs.Boundary.{sought_number, place_number}
use Rattle.labels.proofs.Range.{Small, sought_small}
use Rattle.capi.proofs.crout_place.Goals as goal

small : (n label : ℕ) {row column : ℕ} → at (row, column) ≡ sought n label → (row ≤ 600) × (column ≤ 600)
small n label e = subst Small (sym e) (sought_small n label)

pub overflow_mul-result : goal.overflow_mul-result
overflow_mul-result c = omega (arith, small _ _ c.in-Some.ensures)

pub overflow_add-result : goal.overflow_add-result
overflow_add-result c = omega (arith, small _ _ c.in-Some.ensures)

pub returns-in-Some : goal.returns-in-Some
unfolding place_number
returns-in-Some c = ap sought_number c.in-Some.ensures

pub returns-in-None : goal.returns-in-None
unfolding place_number
returns-in-None c = ap sought_number c.in-None.ensures
