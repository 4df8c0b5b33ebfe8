-- The compiled sweep passes its checks (A.7): its chain is its records in order, and 7 to 13 find nothing in it.
use Prim.Native.Nat.{ℕ, zero, suc, ◌+◌, ◌*◌, ◌≤◌}
use native.Mathlib.Nat.{mul-le-mul}
use native.Mathlib.Omega.{arith}
use mathlib.Core.Path.{◌≡◌, refl, ap, ◌∙◌}
use mathlib.Core.Bool.{Bool, true, not, ◌&&◌}
use mathlib.Core.List.Memᴰ
use mathlib.Core.List.{List, [], ◌∷◌, ◌++◌, map, append_assoc}
use borrow.Author.Tests.{ltb-true, le-leb, eq-eqb, ne_eqb}
use lib.Dec.{eqb}
use lib.ListN.{length, length-map}
use Rattle.model.specs.Lists.{rising, joined}
use Rattle.model.specs.Label.{label, within}
use Rattle.model.specs.Fill.{Plan}
use Rattle.model.specs.Program.{Record, rec, opening, records_of}
use Rattle.model.specs.Sweep.{row_formula, row_formulas, planned_rows, sweep_record, sweep_records, compiled_sweep, bare}
use Rattle.model.specs.Check.{Progress, idle, busy, opens, subtracts, divides, closes, kind_of, belongs, formed, in_order, in_row, allowed}
use Rattle.model.specs.Check.{complete, whole, chain, check_links}
use Rattle.model.specs.Formula.{X}
use Rattle.model.specs.Agreement.{SweepFine}
use Rattle.model.proofs.Lists.{Each, rising-each, map_each, kept_where}
use Rattle.model.proofs.Within.{within-range, range-within, both_true}
use Rattle.model.proofs.Plans.{position-at_most, plan-length}
use Rattle.model.proofs.Links.{links_from}
use Rattle.model.proofs.Chain.{row-chain, records-some}
use Rattle.model.proofs.Passing.{both}
use Rattle.model.proofs.Checked.{Fine, record_fine, records-fine}
use Rattle.model.proofs.SweepCounts.{position_at, is_planned, planned_row, length-rows, diagonal_planned, sweep-records}

-- The chain of the compiled sweep is its records in order.
pub sweep_chain : (N : ℕ) (L : Plan) → 1 ≤ N → chain (compiled_sweep N L) ≡ record { links = links_from 1 (sweep_records N L); end = whole }
unfolding compiled_sweep sweep_records
sweep_chain N L h = row-chain N (length L) 0 (sweep_records N L) (rw length-map (records-some (planned_rows N L) (omega (arith, length-rows N L))))

-- ---- the records of one row

-- the record that subtracts a product
abbrev subtracting : ℕ × ℕ → Record
subtracting pq = rec 11 pq.0 pq.1

-- x rows are closed, and none is open; or the next one is
abbrev idle_at : ℕ → Progress
idle_at x = record { target = idle; c = 0; y = 0; x = x }

abbrev busy_at : ℕ → Progress
busy_at x = record { target = busy X (suc x); c = 0; y = 0; x = x }

module _ (N n : ℕ) where
  -- 12 for a product: its coefficient is one of the plan, its entry one of X
  abbrev Read : ℕ × ℕ → Type 0
  Read pq = (within pq.0 n && within pq.1 N) ≡ true

  -- the products of the open row
  subtract_fine : (x : ℕ) (ps : List (ℕ × ℕ)) (rs : List Record) → Each Read ps → Fine N n 0 (busy_at x) rs → Fine N n 0 (busy_at x) (map subtracting ps ++ rs)
  unfolding kind_of belongs formed in_order allowed in_row
  subtract_fine x [] rs each rest = rest
  subtract_fine x (pq ∷ ps) rs each rest =
      record_fine N n 0 (busy_at x) (subtracts X) (subtracting pq) _ refl refl refl refl (each pq (Memᴰ.head refl))
      (subtract_fine x ps rs (λ q m. each q (Memᴰ.tail m)) rest)

  -- the records of the next row are fine if those after it are
  row_fine : (x d : ℕ) (ps : List (ℕ × ℕ)) (rs : List Record) → suc x ≤ N → Each Read ps → within d n ≡ true
      → Fine N n 0 (idle_at (suc x)) rs → Fine N n 0 (idle_at x) (rec 10 (suc x) 0 ∷ (map subtracting ps ++ (rec 12 d 0 ∷ rec 8 0 0 ∷ rs)))
  unfolding kind_of belongs formed in_order allowed in_row
  row_fine x d ps rs high each divisor rest =
      let closed = record_fine N n 0 (busy_at x) closes (rec 8 0 0) rs refl refl refl refl refl rest in
      let divided = record_fine N n 0 (busy_at x) divides (rec 12 d 0) _ refl refl refl refl divisor closed in
      let next = both_true (eq-eqb (suc x) (suc x) refl) (le-leb (suc x) N high) in
      record_fine N n 0 (idle_at x) (opens X) (rec 10 (suc x) 0) _ refl refl refl refl next (subtract_fine x ps _ each divided)

-- ---- the rows of a plan that has all diagonals

-- the records of its products
products-records : (ps : List (ℕ × ℕ)) (rs : List Record)
    → map sweep_record (map (λ pq. rec 6 pq.0 pq.1) ps ++ rs) ≡ map subtracting ps ++ map sweep_record rs
unfolding sweep_record
products-records [] rs = refl
products-records (pq ∷ ps) rs = ap (λ l. subtracting pq ∷ l) (products-records ps rs)

-- a row's records: open by 10, subtract by 11, divide by 12, close by 8
row-records : (N : ℕ) (number : ℕ → ℕ → ℕ) (keep : ℕ → ℕ → Bool) (r : ℕ) (rs : List Record) → 1 ≤ number r r
    → let f = row_formula N number keep r in
    map sweep_record (records_of f ++ rs) ≡ rec 10 r 0 ∷ (map subtracting f.products ++ (rec 12 (number r r) 0 ∷ rec 8 0 0 ∷ map sweep_record rs))
unfolding row_formula records_of opening sweep_record
row-records N number keep r rs h =
    let ps = (row_formula N number keep r).products in
    rw (ne_eqb (number r r) 0 (λ e. omega arith)) (ap (λ l. rec 10 r 0 ∷ l) (ap (map sweep_record) (append_assoc (map _ ps) _ rs) ∙ products-records ps _))

module _ (N : ℕ) (L : Plan) (diagonals : bare N L ≡ 0) where
  -- a label of the plan names a coefficient
  reads : (i j : ℕ) → 1 ≤ position_at N L i j → within (position_at N L i j) (length L) ≡ true
  reads i j h = range-within (position_at N L i j) (length L) h (position-at_most L (label N i j))

  -- so 12 lets every product through
  products-read : (r : ℕ) → Each (Read N (length L)) (planned_row N L r).products
  unfolding row_formula
  products-read r = map_each _ _ _ (kept_where _ _ _ (rising-each _ _ 1 N λ j low high p.
      let q = both (not (eqb j r)) (is_planned N L r j) p in
      both_true (reads r j (ltb-true 0 (position_at N L r j) q.1)) (range-within j N low (omega arith))))

  -- the last d rows, after x
  rows-fine : (x d : ℕ) → x + d ≡ N → Fine N (length L) 0 (idle_at x) (map sweep_record (joined (map records_of (rising (planned_row N L) (suc x) d))))
  unfolding rising joined links_from check_links complete
  rows-fine x zero e = λ k. rw (eq-eqb x N (omega arith))
  rows-fine x (suc d) e =
      let r = suc x in
      let diagonal : 1 ≤ position_at N L r r = diagonal_planned N L diagonals r (omega arith) (omega arith) in
      rw (row-records N (position_at N L) (is_planned N L) r _ diagonal)
      (row_fine N (length L) x (position_at N L r r) (planned_row N L r).products _ (omega arith) (products-read r) (reads r r diagonal)
      (rows-fine r d (omega arith)))

-- ---- the program

-- The headline: the compiled sweep of a plan with all diagonals passes every check.
pub sweep_fine : (N : ℕ) (L : Plan) → SweepFine N L
unfolding compiled_sweep sweep_records planned_rows row_formulas
sweep_fine N L order labels diagonals =
    let range = within-range N 600 order in
    let square : N * N ≤ 600 * 600 = mul-le-mul {n₂ = 600} {m₂ = 600} range.1 range.1 in
    let plan = plan-length N L labels in
    let size = sweep-records N L diagonals labels in
    records-fine N (length L) 0 (sweep_records N L) order plan (omega arith) (omega arith) (omega arith) (rows-fine N L diagonals 0 N (omega arith))
