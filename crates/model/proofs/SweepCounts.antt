-- How many products, quotients and records the compiled sweep of a plan has (A.7): each label of the plan stands in one row, and each row has its diagonal.
use Prim.Native.Nat.{ℕ, zero, suc, ◌+◌, ◌-◌, ◌*◌, ◌≤◌, ◌<◌}
use native.Mathlib.Nat.{eq-or-lt_of_le}
use native.Mathlib.Omega.{arith}
use mathlib.Core.Path.{◌≡◌, refl, sym, ap, ◌∙◌}
use mathlib.Core.Bool.{Bool, true, false, cond, not, ◌&&◌, true≢false}
use mathlib.Core.List.{[], ◌∷◌, map, map-map}
use mathlib.Core.Logic.{⊎_elim}
use borrow.Author.Tests.{le-leb, lt-ltb, eqb-true, eqb-false, ne_eqb}
use lib.Dec.{eqb, ltb}
use lib.ListN.{length, length-map}
use Rattle.model.specs.Lists.{rising, kept, total, count}
use Rattle.model.specs.Label.{label, places}
use Rattle.model.specs.Fill.{Plan, position}
use Rattle.model.specs.Formula.{Formula}
use Rattle.model.specs.Compile.{judged, good}
use Rattle.model.specs.Sweep.{row_formula, row_formulas, planned_rows, sweep_records, compiled_sweep, bare_from, bare}
use Rattle.model.proofs.Lists.{length-rising, map-rising}
use Rattle.model.proofs.Labels.{label_at, labels_in_order}
use Rattle.model.proofs.Sums.{length-kept, length-kept-rising, rising-same, rising_both, rising_constant, count-total}
use Rattle.model.proofs.Plans.{judged-passed}
use Rattle.model.proofs.Pointer.{passed_by, passed_none, passed-next, planned-next}
use Rattle.model.proofs.Tally.{products_of, quotients_of}
use Rattle.model.proofs.Counts.{places_by_rows, records-of}
use Rattle.model.proofs.Chain.{chained-length}

-- a place's position in the plan, 0 where it is not there; whether it is there; and row r as the compiler keeps it
abbrev pub position_at : ℕ → Plan → ℕ → ℕ → ℕ
position_at N L i j = position L (label N i j)

abbrev pub is_planned : ℕ → Plan → ℕ → ℕ → Bool
is_planned N L i j = ltb 0 (position_at N L i j)

abbrev pub planned_row : ℕ → Plan → ℕ → Formula
planned_row N L r = row_formula N (position_at N L) (is_planned N L) r

-- ---- the labels of a plan, counted by places

-- every label is at most N²
passed-all : (N before k : ℕ) (L : Plan) → judged N before k L ≡ good → passed_by L (N * N) ≡ length L
unfolding kept
passed-all N before k [] e = refl
passed-all N before k (x ∷ L) e =
    let p = judged-passed N before k x L e in
    rw (le-leb x (N * N) p.high) (ap suc (passed-all N x (suc k) L p.rest))

module _ (N : ℕ) (L : Plan) (labels : judged N 0 1 L ≡ good) where
  -- of 1..m as many numbers have a position as labels are at most m
  positions-counted : (m : ℕ) → count (λ k. ltb 0 (position L k)) m ≡ passed_by L m
  unfolding count
  positions-counted zero = sym (passed_none N L labels)
  positions-counted (suc m) = rw (positions-counted m, ← planned-next N L labels m) (sym (passed-next N L labels m))

  -- so as many places are in the plan as it has labels
  plan_by_places : total (map (λ p. cond (is_planned N L p.0 p.1) 1 0) (places N)) ≡ length L
  plan_by_places =
      ap total (sym (map-map (λ k. cond (ltb 0 (position L k)) 1 0) (label_at N) (places N)) ∙ ap (map _) (labels_in_order N) ∙ map-rising _ (λ k. k) 1 (N * N))
      ∙ sym (count-total _ (N * N)) ∙ positions-counted (N * N) ∙ passed-all N 0 1 L labels

-- ---- rows

-- a number of a row is found once
found-once : (r a n : ℕ) → a ≤ r → r < a + n → total (rising (λ j. cond (eqb j r) 1 0) a n) ≡ 1
unfolding total rising
found-once r a zero low high = absurd (omega arith)
found-once r a (suc n) low high = step (eqb a r) refl (λ l. found-once r (suc a) n l (omega arith))
  where
    rest : ℕ
    rest = total (rising (λ j. cond (eqb j r) 1 0) (suc a) n)

    step : (b : Bool) → eqb a r ≡ b → (a < r → rest ≡ 1) → cond b 1 0 + rest ≡ 1
    step true e later = omega (arith, rising_constant (λ j. cond (eqb j r) 1 0) 0 (suc a) n (λ k l h. rw (ne_eqb k r (λ q. omega (arith, eqb-true a r e)))))
    step false e later = omega (arith, later (omega (arith, eqb-false a r e)))

-- where none of the d rows from r on is bare, each has its diagonal in the plan
diagonal_from : (r d N : ℕ) (L : Plan) → 1 ≤ r → bare_from r d N L ≡ 0 → (h : ℕ) → r ≤ h → h < r + d → 1 ≤ position_at N L h h
unfolding bare_from
diagonal_from r zero N L l e h a b = absurd (omega arith)
diagonal_from r (suc d) N L l e h a b = step (eqb (position_at N L r r) 0) refl e (λ q g. diagonal_from (suc r) d N L (omega arith) q h g (omega arith))
  where
    step : (c : Bool) → eqb (position_at N L r r) 0 ≡ c → cond c r (bare_from (suc r) d N L) ≡ 0
        → (bare_from (suc r) d N L ≡ 0 → r < h → 1 ≤ position_at N L h h) → 1 ≤ position_at N L h h
    step true p q rest = absurd (omega arith)
    step false p q rest = ⊎_elim (λ i. rw (← i) (omega (arith, eqb-false (position_at N L r r) 0 p))) (rest q) (eq-or-lt_of_le a)

-- a formula for each row
pub length-rows : (N : ℕ) (L : Plan) → length (planned_rows N L) ≡ N
unfolding planned_rows row_formulas
length-rows N L = length-rising _ 1 N

module _ (N : ℕ) (L : Plan) (diagonals : bare N L ≡ 0) where
  -- where no row is bare, every diagonal is in the plan
  pub diagonal_planned : (r : ℕ) → 1 ≤ r → r ≤ N → 1 ≤ position_at N L r r
  unfolding bare
  diagonal_planned r low high = diagonal_from 1 N N L (omega arith) diagonals r low (omega arith)

  -- a row has a product for each of its labels but the diagonal's
  row-products : (r : ℕ) → 1 ≤ r → r ≤ N → length (planned_row N L r).products + 1 ≡ total (rising (λ j. cond (is_planned N L r j) 1 0) 1 N)
  unfolding row_formula
  row-products r low high = rw (length-map, length-kept-rising) (omega (
    arith,
    found-once r 1 N low (omega arith),
    rising_both (λ j. cond (not (eqb j r) && is_planned N L r j) 1 0) (λ j. cond (eqb j r) 1 0) 1 N,
    rising-same _ _ 1 N (λ j a b. step j (eqb j r) refl (is_planned N L r j) refl),
  ))
    where
      step : (j : ℕ) (b : Bool) → eqb j r ≡ b → (c : Bool) → is_planned N L r j ≡ c → cond (not b && c) 1 0 + cond b 1 0 ≡ cond c 1 0
      step j true e true f = refl
      step j true e false f = absurd (true≢false (sym (lt-ltb 0 (position_at N L r j) (rw (eqb-true j r e) (diagonal_planned r low high))) ∙ f))
      step j false e true f = refl
      step j false e false f = refl

  module _ (labels : judged N 0 1 L ≡ good) where
    -- the products and the diagonals of all rows are the plan's labels
    pub products_and_diagonals : products_of (planned_rows N L) + N ≡ length L
    unfolding products_of planned_rows row_formulas
    products_and_diagonals = rw map-rising (omega (
      arith,
      rising_both (λ r. length (planned_row N L r).products) (λ r. 1) 1 N,
      rising_constant (λ r. 1) 1 1 N (λ k l h. refl),
      rising-same _ _ 1 N (λ r low high. row-products r low (omega arith)),
      places_by_rows N (λ p. cond (is_planned N L p.0 p.1) 1 0),
      plan_by_places N L labels,
    ))

    -- a sweep has n − N products
    pub sweep_products : products_of (planned_rows N L) ≡ length L - N
    sweep_products = omega (arith, products_and_diagonals)

    -- and N quotients
    pub sweep_quotients : quotients_of (planned_rows N L) ≡ N
    unfolding quotients_of planned_rows row_formulas row_formula
    sweep_quotients = length-kept _ (planned_rows N L) ∙ ap total (map-rising _ _ 1 N)
        ∙ rising_constant _ 1 1 N (λ r low high. rw (lt-ltb 0 (position_at N L r r) (diagonal_planned r low (omega arith)))) ∙ omega arith

    -- The headline: "a program has 1 + 2N + n records", record 0 included.
    pub sweep-records : suc (length (sweep_records N L)) ≡ 1 + 2 * N + length L
    unfolding sweep_records
    sweep-records = rw length-map (omega (arith, records-of (planned_rows N L), length-rows N L, products_and_diagonals, sweep_quotients))

    -- and four times as many words
    pub sweep_words : length (compiled_sweep N L) ≡ 4 * (1 + 2 * N + length L)
    unfolding compiled_sweep
    sweep_words = omega (arith, chained-length 1 (sweep_records N L), sweep-records)
