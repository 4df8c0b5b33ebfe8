-- No plan has more products than a full table, and an accepted one has as many exactly where its first row and first column are whole: document 02, A.14. The
-- products are summed over the places: at a place those of its pairs, and one of y or of x if it is held beside the diagonal.
use Prim.Native.Nat.{ℕ, zero, suc, ◌+◌, ◌-◌, ◌*◌, ◌/◌, ◌≤◌, ◌<◌, min}
use native.Mathlib.Nat.{div-eq_of_eq-mul_left, eq-or-lt_of_le}
use native.Mathlib.Omega.{arith}
use mathlib.Core.Path.{◌≡◌, refl, sym, ◌∙◌}
use mathlib.Core.Bool.{Bool, true, false, cond, ◌&&◌, ◌||◌, or-true}
use mathlib.Core.List.{◌++◌, map}
use mathlib.Core.Logic.{⊎_elim}
use borrow.Author.Tests.{eq-eqb, lt-ltb, le-ltb}
use lib.Dec.{ltb, eqb}
use Rattle.model.specs.Lists.{rising, joined, total, some}
use Rattle.model.specs.Label.{Place, label, column, row, places}
use Rattle.model.specs.Fill.{Plan, in_plan, position_from, position, held, pairs_at, below, above, missing, product_count}
use Rattle.model.specs.Dearest.{full_plan, most_products, ProductsAtMost, FullProducts, FirstWhole, DearestExactly}
use Rattle.model.proofs.Search.{some_true}
use Rattle.model.proofs.Within.{range-within}
use Rattle.model.proofs.Labels.{Inside, label-range, places-inside, places_member}
use Rattle.model.proofs.Fill.{held_is, held_in_plan}
use Rattle.model.proofs.Plans.{pivot-held}
use Rattle.model.proofs.Path.{planned}
use Rattle.model.proofs.Sums.{total-map-append, total-same, total-both, total_grows, total_tight, rising_constant, count-at_most, count-all}
use Rattle.model.proofs.Counts.{column-sum, row-sum, held-total}

-- ---- what a place can cost

-- 1 below the diagonal, above it, and beside it
abbrev under : Place → ℕ
under p = cond (ltb p.1 p.0) 1 0

abbrev over : Place → ℕ
over p = cond (ltb p.0 p.1) 1 0

abbrev aside : Place → ℕ
aside p = under p + over p

abbrev most : Place → ℕ
most p = min p.0 p.1 - 1 + aside p

-- the places of batch m + 1: the pivot m, the others m + 1 each
most_from : (N m n : ℕ) → N ≡ m + n
    → 6 * total (map most (joined (rising (λ m. column N m ++ row N m) (suc m) n))) + 5 * n ≡ 6 * m * n * n + 2 * n * n * n + 3 * n * n
unfolding rising joined total
most_from N m zero e = omega arith
most_from N m (suc n) e =
    let pivot : most (suc m, suc m) ≡ m = rw (le-ltb (suc m) (suc m) (omega arith)) (omega arith) in
    let down = rising_constant (λ i. most (i, suc m)) (suc m) (suc (suc m)) n
    (λ i low high. rw (lt-ltb (suc m) i (omega arith), le-ltb i (suc m) (omega arith)) (omega arith)) in
    let right = rising_constant (λ j. most (suc m, j)) (suc m) (suc (suc m)) n
    (λ j low high. rw (lt-ltb (suc m) j (omega arith), le-ltb j (suc m) (omega arith)) (omega arith)) in
    rw (total-map-append, total-map-append)
    (omega (arith, pivot, down, right, column-sum N most m (suc n) e, row-sum N most m n e, most_from N (suc m) n (omega arith)))

most_total : (N : ℕ) → 6 * total (map most (places N)) + 5 * N ≡ 2 * N * N * N + 3 * N * N
unfolding places
most_total N = omega (arith, most_from N 0 N (omega arith))

-- so the formula is their sum
most_closed : (N : ℕ) → most_products N ≡ total (map most (places N))
unfolding most_products
most_closed zero = omega (arith, most_total zero)
most_closed (suc n) =
    let all = total (map most (places (suc n))) in
    let one : suc n - 1 ≡ n = omega arith in
    let two : 2 * suc n - 1 ≡ 2 * n + 1 = omega arith in
    let room : suc n * n ≤ all = omega (arith, most_total (suc n)) in
    let six : suc n * n * (2 * n + 1) ≡ (all - suc n * n) * 6 = omega (arith, most_total (suc n)) in
    let pairs : suc n * n * (2 * n + 1) / 6 ≡ all - suc n * n = div-eq_of_eq-mul_left {n = 6} (omega arith) six in
    rw (one, two) (omega arith)

-- ---- what it costs in a plan

cond_plus : (b : Bool) (x y : ℕ) → cond b (x + y) 0 ≡ cond b x 0 + cond b y 0
cond_plus true x y = refl
cond_plus false x y = refl

module _ (N : ℕ) (L : Plan) where
  -- x where the place is held
  abbrev if_held : (Place → ℕ) → Place → ℕ
  if_held x p = cond (held N L p.0 p.1) (x p) 0

  abbrev cost : Place → ℕ
  cost p = pairs_at N L p + if_held aside p

  products_total : product_count N L ≡ total (map cost (places N))
  unfolding product_count below above
  products_total =
      let parts = total-same (if_held aside) (λ p. if_held under p + if_held over p) (places N) (λ p m. cond_plus (held N L p.0 p.1) (under p) (over p)) in
      omega (
        arith,
        held-total N L (λ p. ltb p.1 p.0),
        held-total N L (λ p. ltb p.0 p.1),
        parts,
        total-both (if_held under) (if_held over) (places N),
        total-both (pairs_at N L) (if_held aside) (places N),
      )

  pairs_few : (p : Place) → pairs_at N L p ≤ min p.0 p.1 - 1
  unfolding pairs_at
  pairs_few p = count-at_most _ (min p.0 p.1 - 1)

  cost_at_most : (p : Place) → cost p ≤ most p
  cost_at_most p = step (held N L p.0 p.1)
    where
      step : (b : Bool) → pairs_at N L p + cond b (aside p) 0 ≤ most p
      step true = omega (arith, pairs_few p)
      step false = omega (arith, pairs_few p)

  products_most : product_count N L ≤ total (map most (places N))
  products_most = rw products_total (total_grows cost most cost_at_most (places N))

  pub products-few : 6 * product_count N L + 5 * N ≤ 2 * N * N * N + 3 * N * N
  products-few = omega (arith, products_most, most_total N)

  -- every place held: all that it can
  whole-products : ((i j : ℕ) → Inside N i j → held N L i j ≡ true) → product_count N L ≡ most_products N
  unfolding pairs_at
  whole-products all = products_total ∙ total-same cost most (places N) (λ p m. whole p (places-inside N p m)) ∙ sym (most_closed N)
    where
      whole : (p : Place) → Inside N p.0 p.1 → cost p ≡ most p
      whole p inside =
          let pairs = count-all (λ h. held N L p.0 h && held N L h p.1) (min p.0 p.1 - 1)
          (λ h low high. rw (all p.0 h (omega arith), all h p.1 (omega arith))) in
          rw (all p.0 p.1 inside, pairs)

  -- a whole first row and first column hold every place
  first_holds : FirstWhole N L → (i j : ℕ) → Inside N i j → held N L i j ≡ true
  first_holds whole i j inside = ⊎_elim
      (λ e. rw (← e) (in_row j inside.column-low inside.column-high))
      (λ e. ⊎_elim (λ f. rw (← f) (in_column i inside.row_low inside.row-high)) (λ f. pair e f) (eq-or-lt_of_le inside.column-low))
      (eq-or-lt_of_le inside.row_low)
    where
      in_row : (k : ℕ) → 1 ≤ k → k ≤ N → held N L 1 k ≡ true
      in_row k low high = held_in_plan N L 1 k (planned N L 1 k (whole k low high).0).there

      in_column : (k : ℕ) → 1 ≤ k → k ≤ N → held N L k 1 ≡ true
      in_column k low high = held_in_plan N L k 1 (planned N L k 1 (whole k low high).1).there

      pair : 1 < i → 1 < j → held N L i j ≡ true
      pair e f =
          let left = in_column i inside.row_low inside.row-high in
          let right = in_row j inside.column-low inside.column-high in
          let some = some_true (λ h. held N L i h && held N L h j) (min i j - 1) 1 (omega arith) (omega arith) (rw (left, right)) in
          rw (held_is N L i j, some) (or-true (ltb 0 (position L (label N i j))))

  -- a place of the first row or column is held only where it is in the plan
  held_first : (i j : ℕ) → min i j ≡ 1 → Inside N i j → held N L i j ≡ true → in_plan N L i j ≡ true
  unfolding in_plan some
  held_first i j first inside e =
      let row = range-within i N inside.row_low inside.row-high in
      let column = range-within j N inside.column-low inside.column-high in
      let none : min i j - 1 ≡ 0 = omega arith in
      rw (row, column) (step (ltb 0 (position L (label N i j))) (rw (held_is N L i j, none) at e))
    where
      step : (p : Bool) → (p || false) ≡ true → p ≡ true
      step true q = refl
      step false q = q

  -- beside the diagonal it costs all that it can only if it is held
  dear_held : (i j : ℕ) → min i j ≡ 1 → 1 ≤ aside (i, j) → cost (i, j) ≡ most (i, j) → held N L i j ≡ true
  dear_held i j first beside e = step (held N L i j) e
    where
      step : (b : Bool) → pairs_at N L (i, j) + cond b (aside (i, j)) 0 ≡ most (i, j) → b ≡ true
      step true q = refl
      step false q = absurd (omega (arith, pairs_few (i, j)))

  dearest_first : missing N L ≡ 0 → product_count N L ≡ most_products N → FirstWhole N L
  dearest_first pivots e k low high = ⊎_elim
      (λ q. let c = held_first 1 1 (omega arith) (omega arith) (pivot-held N L pivots 1 (omega arith) (omega arith)) in rw (← q) (c, c))
      (λ q. (
        held_first 1 k (omega arith) (omega arith) (dear_held 1 k (omega arith) (rw (lt-ltb 1 k q) (omega arith)) (dear 1 k (omega arith))),
        held_first k 1 (omega arith) (omega arith) (dear_held k 1 (omega arith) (rw (lt-ltb 1 k q) (omega arith)) (dear k 1 (omega arith))),
      ))
      (eq-or-lt_of_le low)
    where
      dear : (i j : ℕ) → Inside N i j → cost (i, j) ≡ most (i, j)
      dear i j inside =
          total_tight cost most cost_at_most (places N) (omega (arith, products_total, e, most_closed N)) (i, j) (places_member N i j inside)

-- The headlines: no plan of order N has more products than N(N−1)(2N−1)/6 + N(N−1),
pub products-at_most : (N : ℕ) (L : Plan) → ProductsAtMost N L
products-at_most N L = rw (most_closed N) (products_most N L)

-- an accepted one reaches it exactly where its first row and first column are whole,
pub dearest_exactly : (N : ℕ) (L : Plan) → DearestExactly N L
dearest_exactly N L pivots = (dearest_first N L pivots, λ whole. whole-products N L (first_holds N L whole))

-- and the full table does.
full-position : (p a n k : ℕ) → 1 ≤ p → a ≤ k → k < a + n → 1 ≤ position_from p (rising (λ k. k) a n) k
unfolding position_from rising
full-position p a zero k l low high = absurd (omega arith)
full-position p a (suc n) k l low high = ⊎_elim (λ q. rw (eq-eqb a k q) l)
    (λ q. step (eqb a k) (full-position (suc p) (suc a) n k (omega arith) q (omega arith))) (eq-or-lt_of_le low)
  where
    step : (b : Bool) → 1 ≤ position_from (suc p) (rising (λ k. k) (suc a) n) k → 1 ≤ cond b p (position_from (suc p) (rising (λ k. k) (suc a) n) k)
    step true h = l
    step false h = h

pub full-products : (N : ℕ) → FullProducts N
unfolding full_plan position
full-products N = whole-products N (full_plan N) (λ i j inside. held_in_plan N (full_plan N) i j (there i j inside))
  where
    there : (i j : ℕ) → Inside N i j → 1 ≤ position_from 1 (rising (λ k. k) 1 (N * N)) (label N i j)
    there i j inside = let r = label-range N i j inside in full-position 1 1 (N * N) (label N i j) (omega arith) r.0 (omega arith)
