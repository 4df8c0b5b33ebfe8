-- The value of one row of a sweep: a place that isn't in the plan has the coefficient +0 and changes nothing, so the compiled sweep's rows have the dense
-- sweep's values, and one compiled sweep ends as a dense one does.
use Prim.Native.Nat.{ℕ, zero, suc, ◌+◌, ◌-◌, ◌≤◌}
use native.Mathlib.Omega.{arith}
use mathlib.Core.Path.{◌≡◌, refl, sym, ap, subst, ◌∙◌}
use mathlib.Core.Bool.{Bool, true, false, cond, not, ◌&&◌}
use mathlib.Core.List.{List, [], ◌∷◌, map}
use borrow.Author.Tests.{ltb-true, ltb-false, ne_eqb}
use lib.Dec.{eqb}
use lib.ListN
use lib.ListN.{get_or}
use lib.Ieee.{Float}
use Rattle.model.specs.Lists.{rising, kept}
use Rattle.model.specs.Label.{label, places, place}
use Rattle.model.specs.Fill.{Plan}
use Rattle.model.specs.Arith.{plus_zero, clean, Answer, number, overflow, zero_divisor, next, quotient}
use Rattle.model.specs.Formula.{C, X, Tables, Formula, coefficient, entry, closed, starting, over, tested, value, Ended, solved, refused, worked}
use Rattle.model.specs.Sweep.{row_formula, full_table}
use Rattle.model.proofs.Lists.{Each, rising-each, kept_where}
use Rattle.model.proofs.Labels.{Inside, label-range, places-length, place_of_label}
use Rattle.model.proofs.Arith.{Good, GoodAnswer}
use Rattle.model.proofs.Picked.{get_or_map}
use Rattle.model.proofs.SweepCounts.{position_at, is_planned, planned_row}
use Rattle.model.proofs.Values.{AllGood, put_x-good, value-good, Trivial, trivial_left, Alike, same, dropped}
use Rattle.model.proofs.Values.{less_all-same, vanished-same, over-at}
use Rattle.model.proofs.Tally.{vanished_by}

-- two tests one after the other
kept_both : {A : Type 0} (t u : A → Bool) (l : List A) → kept (λ x. t x && u x) l ≡ kept u (kept t l)
unfolding kept
kept_both t u [] = refl
kept_both t u (x ∷ l) = step (t x) (kept_both t u l)
  where
    step : (b : Bool) → kept (λ x. t x && u x) l ≡ kept u (kept t l)
        → cond (b && u x) (x ∷ kept (λ x. t x && u x) l) (kept (λ x. t x && u x) l) ≡ kept u (cond b (x ∷ kept t l) (kept t l))
    step true e = rw e
    step false e = e

-- the other columns of row r
abbrev others : ℕ → ℕ → List ℕ
others N r = kept (λ j. not (eqb j r)) (rising (λ j. j) 1 N)

-- a row has a product for each of them that is kept
row_kept : (N : ℕ) (index : ℕ → ℕ → ℕ) (keep : ℕ → ℕ → Bool) (r : ℕ)
    → (row_formula N index keep r).products ≡ map (λ j. (index r j, j)) (kept (λ j. keep r j) (others N r))
unfolding row_formula
row_kept N index keep r = ap (map _) (kept_both (λ j. not (eqb j r)) (λ j. keep r j) (rising (λ j. j) 1 N))

-- the tables of the compiled sweep beside those of the dense one: the plan's coefficients in C
unfoldable pub sparse : List Float → Tables → Tables
sparse A t = record { order = t.order; c = map clean A; y = t.y; x = t.x }

-- tables of the dense sweep: the full table in C, good values in Y and X
pub record Dense (N : ℕ) (L : Plan) (A : List Float) (t : Tables) : Type 0 where
  pub order_is : t.order ≡ N
  pub table_is : t.c ≡ full_table N L A
  pub good-y : AllGood t.y
  pub good-x : AllGood t.x

-- row r of the dense sweep
abbrev pub dense_row : ℕ → ℕ → Formula
dense_row N r = row_formula N (label N) (λ i j. true) r

module _ {N : ℕ} {L : Plan} {A : List Float} {t : Tables} (dense : Dense N L A t) where
  -- a place's entry is its coefficient, +0 where it isn't in the plan
  dense-entry : (i j : ℕ) → Inside N i j → entry t C (label N i j) ≡ coefficient A (position_at N L i j)
  unfolding entry full_table place
  dense-entry i j inside = ap (λ c. get_or c (label N i j - 1) plus_zero) dense.table_is
      ∙ get_or_map _ (places N) (label N i j - 1) (0, 0) plus_zero (omega (arith, places-length N, label-range N i j inside))
      ∙ ap (λ p. coefficient A (position_at N L p.0 p.1)) (place_of_label N i j inside)

  -- a coefficient of the plan stands at its position
  sparse_entry : (k : ℕ) → 1 ≤ k → entry (sparse A t) C k ≡ coefficient A k
  unfolding entry sparse clean
  sparse_entry k h = rw (ne_eqb k 0 (λ e. omega arith)) (ListN.get_or-map clean A (k - 1) plus_zero)

  -- so a place of the plan has the same entry on both sides
  planned-entry : (i j : ℕ) → Inside N i j → 1 ≤ position_at N L i j → entry (sparse A t) C (position_at N L i j) ≡ entry t C (label N i j)
  planned-entry i j inside h = sparse_entry (position_at N L i j) h ∙ sym (dense-entry i j inside)

  -- every entry of X is good, of this sweep or of the one before
  entry-good : (k : ℕ) → Good (entry t X k)
  unfolding entry
  entry-good k = dense.good-x.at _

  -- a place of the plan gives the same product on both sides, any other a product of +0
  alike : (i j : ℕ) → Inside N i j → (b : Bool) → is_planned N L i j ≡ b → Alike t (sparse A t) X (label N i j, j) (position_at N L i j, j) b
  unfolding entry sparse
  alike i j inside true p = same (planned-entry i j inside (ltb-true 0 (position_at N L i j) p)) refl
  alike i j inside false p =
      let none : position_at N L i j ≡ 0 = omega (arith, ltb-false 0 (position_at N L i j) p) in
      let e : entry t C (label N i j) ≡ plus_zero = dense-entry i j inside ∙ ap (coefficient A) none in
      dropped (subst (λ a. Trivial a (entry t X j)) (sym e) (trivial_left (entry-good j)))

  -- so do all other columns of a row
  others_alike : (r : ℕ) → 1 ≤ r → r ≤ N → Each (λ j. Alike t (sparse A t) X (label N r j, j) (position_at N L r j, j) (is_planned N L r j)) (others N r)
  others_alike r low high = kept_where _ _ _ (rising-each _ _ 1 N (λ j a b p. alike r j (omega arith) (is_planned N L r j) refl))

  -- the division is by the same diagonal coefficient
  over-same : (r : ℕ) → 1 ≤ r → r ≤ N → 1 ≤ position_at N L r r → (a : Answer) → over (sparse A t) (position_at N L r r) a ≡ over t (label N r r) a
  over-same r low high diagonal a = over-at (sparse A t) (position_at N L r r) a diagonal
      ∙ ap (λ x. next a (λ v. quotient v x)) (planned-entry r r (omega arith) diagonal)
      ∙ sym (over-at t (label N r r) a (label-range N r r (omega arith)).0)

  -- both sides have the same value,
  row_same : (B : List Float) (limit : Float) (r : ℕ) → 1 ≤ r → r ≤ N → 1 ≤ position_at N L r r
      → value A B limit (sparse A t) (planned_row N L r) ≡ value A B limit t (dense_row N r)
  unfolding value row_formula tested starting entry sparse
  row_same B limit r low high diagonal = over-same r low high diagonal _ ∙ ap (over t (label N r r))
      (rw (row_kept N (position_at N L) (is_planned N L) r, row_kept N (label N) (λ i j. true) r)
      (less_all-same t (sparse A t) X _ _ _ (others N r) (others_alike r low high) _ (dense.good-y.at (r - 1))))

  -- and lose no product that vanishes
  row-vanished : (r : ℕ) → 1 ≤ r → r ≤ N → vanished_by (sparse A t) (planned_row N L r) ≡ vanished_by t (dense_row N r)
  unfolding row_formula
  row-vanished r low high = rw (row_kept N (position_at N L) (is_planned N L) r, row_kept N (label N) (λ i j. true) r)
      (vanished-same t (sparse A t) X _ _ _ (others N r) (others_alike r low high))

  -- a number answered is good, so closing it keeps the tables dense
  row-closed : (B : List Float) (limit : Float) (r : ℕ) {v : Float} → value A B limit t (dense_row N r) ≡ number v → Dense N L A (closed t X r v)
  unfolding row_formula starting entry closed
  row-closed B limit r e = record {
    order_is = dense.order_is;
    table_is = dense.table_is;
    good-y = dense.good-y;
    good-x = put_x-good _ _ r dense.good-x (subst GoodAnswer e (value-good A B limit t (dense_row N r) (dense.good-y.at (r - 1))));
  }

-- ---- a row of rows

-- how a sweep ends whose first row has this answer
abbrev onward : Answer → ℕ → (Float → Ended) → Ended
onward a r rest = elim a [ number v ↦ rest v | overflow ↦ refused 16 X r | zero_divisor ↦ refused 17 X r ]

module _ (N : ℕ) (L : Plan) (A B : List Float) (limit : Float) where
  -- the compiled sweep's ending beside the dense one's
  abbrev pub SameEnding : Ended → Ended → Type 0
  SameEnding (solved u g) (solved t h) = (u ≡ sparse A t) × (g ≡ h) × Dense N L A t
  SameEnding (solved u g) (refused r tb k) = ⊥
  SameEnding (refused r tb k) (solved t h) = ⊥
  SameEnding (refused r tb k) (refused s ub l) = (r ≡ s) × (tb ≡ X) × (k ≡ l)

  -- the first row, then the others
  worked-row : (index : ℕ → ℕ → ℕ) (keep : ℕ → ℕ → Bool) (r g : ℕ) (t : Tables) (fs : List Formula) → let f = row_formula N index keep r in
      worked A B limit g t (f ∷ fs) ≡ onward (value A B limit t f) r (λ v. worked A B limit (g + vanished_by t f) (closed t X r v) fs)
  unfolding worked row_formula
  worked-row index keep r g t fs = refl

  -- The headline: from any row on, the compiled sweep ends as the dense one does.
  pub rows_same : ((r : ℕ) → 1 ≤ r → r ≤ N → 1 ≤ position_at N L r r) → (r n g : ℕ) (t : Tables) → 1 ≤ r → r + n ≡ suc N → Dense N L A t
      → SameEnding (worked A B limit g (sparse A t) (rising (planned_row N L) r n)) (worked A B limit g t (rising (dense_row N) r n))
  unfolding rising worked sparse closed
  rows_same diagonals r zero g t low e dense = (refl, refl, dense)
  rows_same diagonals r (suc n) g t low e dense =
      let high : r ≤ N = omega arith in
      rw (worked-row (position_at N L) (is_planned N L) r g (sparse A t) _, worked-row (label N) (λ i j. true) r g t _)
      (rw (row_same dense B limit r low high (diagonals r low high), row-vanished dense r low high)
      (step (value A B limit t (dense_row N r)) refl (λ v d. rows_same diagonals (suc r) n gone (closed t X r v) (omega arith) (omega arith) d)))
    where
      gone : ℕ
      gone = g + vanished_by t (dense_row N r)

      -- the rows after this one, on both sides
      after : Float → Ended
      after v = worked A B limit gone (sparse A (closed t X r v)) (rising (planned_row N L) (suc r) n)

      after_dense : Float → Ended
      after_dense v = worked A B limit gone (closed t X r v) (rising (dense_row N) (suc r) n)

      step : (a : Answer) → value A B limit t (dense_row N r) ≡ a → ((v : Float) → Dense N L A (closed t X r v) → SameEnding (after v) (after_dense v))
          → SameEnding (onward a r after) (onward a r after_dense)
      step (number v) q rest = rest v (row-closed dense B limit r q)
      step overflow q rest = (refl, refl, refl)
      step zero_divisor q rest = (refl, refl, refl)
