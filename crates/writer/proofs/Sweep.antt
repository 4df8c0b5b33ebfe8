-- The rows of a sweep (A.7): the first without its diagonal, the labels right of the diagonal, and the records of all rows, which are the model's.
use Prim.Native.Nat.{ℕ, suc, ◌+◌, ◌-◌, ◌*◌, ◌≤◌, ◌<◌}
use native.Mathlib.Numerals.{add-one}
use native.Mathlib.Nat.{mul-le-mul}
use native.Mathlib.Decide.{dec_le}
use native.Mathlib.Omega.{arith}
use mathlib.Core.Path.{◌≡◌, sym, ap, ap₂, ◌∙◌}
use mathlib.Core.Bool.{false, not, ◌&&◌}
use mathlib.Core.List.{List, ◌++◌, map}
use lib.Dec.{eqb, ltb}
use lib.ListN.{length, get_or, take, drop, length-take}
use lib.Seq.{get_or-take, get_or-drop}
use borrow.Author.Tests.{eq-eqb, ne_eqb}
use Rattle.model.specs.Lists.{rising, joined}
use Rattle.model.specs.Label.{label}
use Rattle.model.specs.Fill.{Plan, position}
use Rattle.model.specs.Formula.{X}
use Rattle.model.specs.Program.{records_of, program}
use Rattle.model.specs.Sweep.{row_formula, row_formulas, planned_rows, sweep_record, sweep_records, compiled_sweep, bare_from, bare}
use Rattle.model.specs.Compile.{sweep, records_by}
use Rattle.model.proofs.Lists.{map-rising, map-joined, rising_agree, rising-each}
use Rattle.model.proofs.Labels.{Inside, label-first, label-range, label_in_row, next-pivot}
use Rattle.model.proofs.Within.{within-range}
use Rattle.model.proofs.Plans.{plan-length}
use Rattle.model.proofs.WorkNumbers.{position-number}
use Rattle.model.proofs.SweepCounts.{planned_row, sweep-records}
use Rattle.writer.specs.Written.{product_of}
use Rattle.writer.specs.Worked.{number_at, kept_at, product_at, Covers}
use Rattle.writer.specs.Sweep.{Positions, Planned, row_at, row_records}
use Rattle.writer.proofs.Agree.{kept_agree, pair}
use Rattle.writer.proofs.Products.{Stands, stands, product_at_is}
use Rattle.writer.proofs.Whole.{Counted}

-- ---- the positions

-- the work number of a place is its position
module _ {n : ℕ} {L : Plan} {work : List ℕ} (positions : Positions n L work) where
  pub position_there : (i j q : ℕ) → Inside n i j → suc q ≡ label n i j → get_or work q 0 ≡ position L (label n i j)
  position_there i j q inside here =
      sym (get_or-take (n * n) work q 0 (omega (arith, label-range n i j inside)))
      ∙ ap (λ l. get_or l q 0) positions.are
      ∙ position-number n L i j q inside here

  pub number_is : (i j : ℕ) → Inside n i j → number_at n work i j ≡ position L (label n i j)
  unfolding number_at
  number_is i j inside = position_there i j (label n i j - 1) inside (omega (arith, label-range n i j inside))

-- ---- the first row without its diagonal

-- the rows before r have theirs, and `at` is the index of row r's
pub record Diagonal (n : ℕ) (work : List ℕ) (r at : ℕ) : Type 0 where
  pub low : 1 ≤ r
  pub high : r ≤ suc n
  pub here : suc at ≡ label n r r
  pub passed : (L : Plan) → Positions n L work → bare_from r (suc n - r) n L ≡ bare n L

pub diagonal_first : {n : ℕ} {work : List ℕ} → Diagonal n work 1 0
unfolding bare
diagonal_first {n} =
    let all : suc n - 1 ≡ n = omega arith in
    record { low = omega arith; high = omega arith; here = sym (label-first n); passed = λ L positions. rw all }

-- after the last row
pub none_bare : {n : ℕ} {work : List ℕ} {r at : ℕ} → Diagonal n work r at → n < r → (L : Plan) → Positions n L work → 0 ≡ bare n L
unfolding bare_from
none_bare {n} {work} {r} d past L positions =
    let none : suc n - r ≡ 0 = omega arith in
    rw none at (d.passed L positions)

module _ {n : ℕ} {work : List ℕ} {r at : ℕ} (d : Diagonal n work r at) (covers : Covers n work) (inside : r ≤ n) where
  pub diagonal_inside : (at < 360000) × (at < length work)
  diagonal_inside =
      let square = mul-le-mul {n₂ = 600} {m₂ = 600} covers.high covers.high in
      omega (arith, label-range n r r (omega arith))

  -- row r's number, and the rows from r on
  there : (L : Plan) → Positions n L work → get_or work at 0 ≡ position L (label n r r)
  there L positions = position_there positions r r at (omega arith) d.here

  more : suc n - r ≡ suc (n - r)
  more = omega arith

  pub bare-here : get_or work at 0 ≡ 0 → (L : Plan) → Positions n L work → r ≡ bare n L
  unfolding bare_from
  bare-here none L positions =
      rw (more, eq-eqb (position L (label n r r)) 0 (sym (there L positions) ∙ none)) at (d.passed L positions)

  pub diagonal_next : {at' : ℕ} → (get_or work at 0 ≡ 0 → ⊥) → at' ≡ at + (2 * (n - r) + 1) → Diagonal n work (r + 1) at'
  unfolding bare_from
  diagonal_next some e = rw add-one (record {
    low = omega arith;
    high = omega arith;
    here = omega (arith, d.here, next-pivot n r d.low inside);
    passed = λ L positions.
        let on : suc n - suc r ≡ n - r = omega arith in
        rw on (rw (more, ne_eqb (position L (label n r r)) 0 (λ none. some (there L positions ∙ none))) at (d.passed L positions));
  })

-- ---- the places right of the diagonal

-- x is the label of the diagonal: the row's numbers right of it stand among the work numbers, from a on, each with its column
module _ {n : ℕ} {work : List ℕ} {r x : ℕ} (covers : Covers n work) (diagonal : Stands n work r r x) (inside : Inside n r r) where
  pub right-part : x + (n - r) + (n - r) ≤ length work
  right-part = elim (dec_le n r) [
    | yes none ↦ omega (arith, diagonal.high)
    | no some ↦ omega (
      arith,
      covers.long,
      diagonal.is,
      label-range n r n (omega arith),
      label_in_row n r n inside.row_low inside.row-high (omega arith),
    )
  ]

  pub right-product : {a b h : ℕ} → a ≡ x + (n - r) → b ≡ a + (n - r) → h < length (take (b - a) (drop a work))
      → product_at n work 11 r (r + 1 + h) ≡ product_of 11 (get_or (take (b - a) (drop a work)) h 0) (r + 1 + h)
  right-product {a} {b} {h} start end below =
      let long = length-take (b - a) (drop a work) in
      let there : a + h + 1 ≡ label n r (r + 1 + h) =
      omega (arith, diagonal.is, label_in_row n r (r + 1 + h) inside.row_low inside.row-high (omega arith)) in
      let back : a + h + 1 - 1 ≡ a + h = omega arith in
      rw (get_or-take (b - a) (drop a work) h 0 (omega arith), get_or-drop a work h 0)
      (rw back at (product_at_is 11 (stands covers (omega arith) there)))

-- ---- all rows

module _ {n : ℕ} {L : Plan} {work : List ℕ} (positions : Positions n L work) where
  row_agree : (r : ℕ) → Inside n r r → map sweep_record (records_of (planned_row n L r)) ≡ row_at n work r
  unfolding row_at row_formula kept_at
  row_agree r inside =
      rw (sym (number_is positions r r inside))
      (ap (λ products. map sweep_record (records_of
      (record { table = X; target = r; start = r; products = products; divisor = number_at n work r r; pivot = false })))
      (kept_agree _ _ _ _ _ (rising-each _ (λ j. j) 1 n (λ j low below.
      let same = sym (number_is positions r j (omega arith)) in
      (ap (λ p. pair p j) same, ap (λ p. not (eqb j r) && ltb 0 p) same)))))

  pub rows_agree : sweep_records n L ≡ row_records n work
  unfolding sweep_records planned_rows row_formulas
  rows_agree =
      let all : suc n - 1 ≡ n = omega arith in
      rw all
      (map-joined sweep_record (map records_of (rising (planned_row n L) 1 n))
      ∙ ap joined (ap (map (map sweep_record)) (map-rising records_of (planned_row n L) 1 n)
      ∙ map-rising (map sweep_record) (λ r. records_of (planned_row n L r)) 1 n
      ∙ rising_agree _ (row_at n work) 1 1 n (λ k below. row_agree (1 + k) (omega arith))))

module _ {n : ℕ} {L : Plan} {work words : List ℕ} (p : Planned n L work words) where
  pub rows_cover : Covers n work
  rows_cover = let range = within-range n 600 p.order in record { low = range.0; high = range.1; long = p.covers }

  rows-number : suc (length (row_records n work)) ≡ records_by sweep n L
  rows-number = rw (rows_agree p.positions) at (sweep-records n L p.complete p.rises)

  pub rows-counted : Counted L (row_records n work) words
  rows-counted =
      let square = mul-le-mul {n₂ = 600} {m₂ = 600} rows_cover.high rows_cover.high in
      omega (arith, rows_cover, rows-number, p.fits, plan-length n L p.rises)

  -- The headline: the words of the rows are the model's.
  pub sweep_written : {ended : List ℕ} → ended ≡ program n (length L) 0 (row_records n work) ++ drop (4 * suc (length (row_records n work))) words
      → ended ≡ compiled_sweep n L ++ drop (4 * records_by sweep n L) words
  unfolding compiled_sweep
  sweep_written e =
      e
      ∙ ap₂ ◌++◌ (ap (program n (length L) 0) (sym (rows_agree p.positions))) (ap (λ k. drop (4 * k) words) rows-number)
