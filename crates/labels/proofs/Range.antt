-- What the range tests say, and the definitions by their outcome.
use Prim.Native.Nat.{ℕ, ◌*◌, ◌≤◌, ◌<◌}
use native.Mathlib.Omega.{arith}
use mathlib.Core.Path.{◌≡◌, refl, sym, ap, ap₂, subst}
use mathlib.Core.Bool.{Bool, true, false, ◌&&◌, and-false, and-eq-true_iff}
use Rattle.model.specs.Label.{is_order, is_place, is_label, within, label, place, Sought, at, outside, sought}
use Rattle.model.specs.Boundary.{label_number}
use Rattle.model.proofs.Within.{within-range, range-within}
use Rattle.model.proofs.Labels.{Inside, place_inside, place-range}

abbrev Within : ℕ → ℕ → Type 0
Within k n = (0 < k) × (k ≤ n)

within_is : (k n : ℕ) → Within k n → true ≡ within k n
within_is k n range = sym (range-within k n range.0 range.1)

-- places: the test `is_place`, and the number of a place by its outcome

module _ (N i j : ℕ) where
  is_place_is : {a b c : Bool} → a ≡ is_order N → b ≡ within i N → c ≡ within j N → a && (b && c) ≡ is_place N i j
  unfolding is_place
  is_place_is order row column = ap₂ ◌&&◌ order (ap₂ ◌&&◌ row column)

  pub is_place_true : true ≡ is_place N i j → Within N 600 × Inside N i j
  is_place_true e = place_inside N i j (sym e)

  inside-is_place : Within N 600 → Inside N i j → true ≡ is_place N i j
  inside-is_place order inside = is_place_is (within_is N 600 order) (within_is i N (omega arith)) (within_is j N (omega arith))

  pub label_number_is : {b : Bool} → b ≡ is_place N i j → elim b [ true ↦ label N i j | false ↦ 0 ] ≡ label_number N i j
  unfolding label_number
  label_number_is e = ap {B = ℕ} (λ b. elim b [ true ↦ label N i j | false ↦ 0 ]) e

  -- in range it is the label
  pub label-answered : N ≤ 600 → Inside N i j → label_number N i j ≡ label N i j
  label-answered high inside = sym (label_number_is (inside-is_place (omega arith) inside))

-- labels: the test `is_label`, and the place of a label by its outcome

module _ (N k : ℕ) where
  is_label_is : {a b : Bool} → a ≡ is_order N → b ≡ within k (N * N) → a && b ≡ is_label N k
  unfolding is_label
  is_label_is order range = ap₂ ◌&&◌ order range

  pub is_label_true : true ≡ is_label N k → Within N 600 × Within k (N * N)
  unfolding is_label
  is_label_true e =
      let both = (and-eq-true_iff (is_order N) (within k (N * N))).0 (sym e) in
      (within-range N 600 both.0, within-range k (N * N) both.1)

  pub range-is_label : Within N 600 → Within k (N * N) → true ≡ is_label N k
  range-is_label order range = is_label_is (within_is N 600 order) (within_is k (N * N) range)

  pub sought_is : {b : Bool} → b ≡ is_label N k → elim b [ true ↦ at (place N k) | false ↦ outside ] ≡ sought N k
  unfolding sought
  sought_is e = ap {B = Sought} (λ b. elim b [ true ↦ at (place N k) | false ↦ outside ]) e

pub sought_zero : (N : ℕ) → sought N 0 ≡ outside
unfolding is_label
sought_zero N = sym (sought_is N 0 (sym (and-false (is_order N))))

-- what is found has row and column at most 600
abbrev pub Small : Sought → Type 0
Small (at p) = (p.0 ≤ 600) × (p.1 ≤ 600)
Small outside = Unit

pub sought_small : (N k : ℕ) → Small (sought N k)
sought_small N k = step (is_label N k) refl
  where
    step : (b : Bool) → b ≡ is_label N k → Small (sought N k)
    step false e = subst Small (sought_is N k e) tt
    step true e =
        let range = is_label_true N k e in
        subst Small (sought_is N k e) (omega (arith, place-range N k range.1.0 range.1.1))
