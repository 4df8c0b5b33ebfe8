-- A place by its label: whether there is one, and whether it is in the plan.
use Prim.Native.Nat.{ℕ, suc, ◌-◌, ◌≤◌, ◌<◌}
use native.Mathlib.Decide.{dec_le}
use native.Mathlib.Omega.{arith}
use mathlib.Core.Path.{◌≡◌, refl, sym, ap, ◌∙◌}
use mathlib.Core.Bool.{Bool, true, false}
use lib.Dec.{ltb}
use lib.ListN.{length, get_or}
use borrow.Author.Tests.{lt-ltb, le-ltb, eq-eqb, ne_eqb}
use Rattle.std.specs.Prelude.{Result, Ok, Err, MatchResult, is_ok}
use Rattle.std.specs.List.Sorted.{IsBinarySearchResult}
use Rattle.std.specs.Ordering.{nat_cmp}
use Rattle.std.proofs.lemmas.List.Sorted.{searched}
use Rattle.model.specs.Label.{is_place, label}
use Rattle.model.specs.Fill.{Plan, position, in_plan}
use Rattle.model.specs.Compile.{judged, good}
use Rattle.model.specs.Boundary.{label_number}
use Rattle.model.proofs.Labels.{Inside, label-range}
use Rattle.model.proofs.Plans.{labels_rise}
use Rattle.model.proofs.Pointer.{passed_by, is_next, planned-next, passed-after, passed-before}
use Rattle.model.proofs.Within.{range-within}
use Rattle.labels.proofs.Range.{is_place_true, label_number_is, label-answered}

module _ (N i j : ℕ) {k : ℕ} (answered : k ≡ label_number N i j) where
  -- a label that isn't 0 is that of a place, and 0 stands for none
  pub labelled : 0 < k → (is_place N i j ≡ true) × (k ≡ label N i j)
  labelled some = step (is_place N i j) refl
    where
      step : (b : Bool) → b ≡ is_place N i j → (is_place N i j ≡ true) × (k ≡ label N i j)
      step true e = (sym e, answered ∙ sym (label_number_is N i j e))
      step false e = absurd (omega (arith, label_number_is N i j e))

  pub unlabelled : k ≤ 0 → is_place N i j ≡ false
  unlabelled none = step (is_place N i j) refl
    where
      step : (b : Bool) → b ≡ is_place N i j → is_place N i j ≡ false
      step true e = absurd (omega (arith, label_number_is N i j e, label-range N i j (is_place_true N i j e).1))
      step false e = sym e

  -- a place of the table has a label
  module _ (high : N ≤ 600) (inside : Inside N i j) where
    pub place-label : (k ≡ label N i j) × (1 ≤ k)
    place-label =
        let e : k ≡ label N i j = answered ∙ label-answered N i j high inside in
        (e, omega (arith, label-range N i j inside))

    -- it is in the plan if it is the one after those below it
    pub next-planned : (L : Plan) → judged N 0 1 L ≡ good → (p : ℕ) → p ≡ passed_by L (k - 1) → is_next L p k ≡ in_plan N L i j
    unfolding in_plan
    next-planned L rises p e =
        let l = place-label in
        let there : suc (k - 1) ≡ k = omega (arith, l.1) in
        let next : is_next L (passed_by L (k - 1)) k ≡ ltb 0 (position L k) = rw there at (planned-next N L rises (k - 1)) in
        ap (λ q. is_next L q k) e
        ∙ next
        ∙ rw (range-within i N inside.row_low inside.row-high, range-within j N inside.column-low inside.column-high)
        (ap (λ k. ltb 0 (position L k)) l.0)

    -- and if a search by halves finds it
    module _ (L : Plan) (rises : judged N 0 1 L ≡ good) where
      rise : (a b : ℕ) → a ≤ b → b < length L → get_or L a 0 ≤ get_or L b 0
      rise a b le below = elim (dec_le b a) [
        | yes l ↦ let same : a ≡ b = omega arith in rw same (omega arith)
        | no l ↦ omega (arith, labels_rise N L a b rises (omega arith) below)
      ]

      -- the one after those below k is the first that isn't
      first : (a : ℕ) → a < length L → get_or L a 0 ≡ k → a ≡ passed_by L (k - 1)
      first a below is =
          let some = place-label.1 in
          let most = passed-before N L rises (k - 1) a below (omega arith) in
          elim (dec_le a (passed_by L (k - 1))) [
            | yes l ↦ omega arith
            | no l ↦
                let p = passed_by L (k - 1) in
                let lower = labels_rise N L p a rises (omega arith) below in
                absurd (omega (arith, passed-after N L rises (k - 1) p (omega arith) (omega arith)))
          ]

      pub searched-planned : (r : Result ℕ ℕ) → IsBinarySearchResult (λ y. nat_cmp y k) L r → is_ok r ≡ in_plan N L i j
      searched-planned r e = step r (searched L k r e rise)
        where
          step : (r : Result ℕ ℕ) → MatchResult r (λ a. (a < length L) × (get_or L a 0 ≡ k))
              (λ a. (a ≤ length L) × ((q : ℕ) → q < a → get_or L q 0 < k) × ((q : ℕ) → a ≤ q → q < length L → k < get_or L q 0))
              → is_ok r ≡ in_plan N L i j
          step (Ok a) f = rw (lt-ltb a (length L) f.0, eq-eqb (get_or L a 0) k f.1) at (next-planned L rises a (first a f.0 f.1))
          step (Err a) f =
              let p = passed_by L (k - 1) in
              let none : is_next L p k ≡ false = elim (dec_le (length L) p) [
                | yes l ↦ rw (le-ltb p (length L) l)
                | no l ↦ elim (dec_le a p) [
                  | yes m ↦ rw (lt-ltb p (length L) (omega arith), ne_eqb (get_or L p 0) k (λ e. omega (arith, f.2 p m (omega arith))))
                  | no m ↦ rw (lt-ltb p (length L) (omega arith), ne_eqb (get_or L p 0) k (λ e. omega (arith, f.1 p (omega arith))))
                ]
              ] in
              rw none at (next-planned L rises p refl)
