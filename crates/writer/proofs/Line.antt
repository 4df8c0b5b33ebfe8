-- One place after another: what the writer knows at a place, and what it leaves.
use Prim.Native.Nat.{ℕ, zero, suc, ◌+◌, ◌-◌, ◌≤◌, ◌<◌, min, max}
use native.Mathlib.Nat.{add-zero, add-suc, mul-le-mul}
use native.Mathlib.Numerals.{add-one}
use native.Mathlib.Decide.{dec_le}
use native.Mathlib.Omega.{arith}
use mathlib.Core.Path.{◌≡◌, refl, sym, ap, ◌∙◌}
use mathlib.Core.Bool.{Bool, true, false, cond}
use mathlib.Core.List.{List, []}
use mathlib.Core.Logic.{inl, inr}
use borrow.Author.Tests.{lt-ltb}
use lib.ListN.{length, get_or}
use Rattle.model.specs.Label.{label}
use Rattle.model.specs.Fill.{Plan, position}
use Rattle.model.specs.Program.{records_of}
use Rattle.model.proofs.Labels.{Inside, label-range, label-turn, label-next}
use Rattle.model.proofs.Plans.{plan-length}
use Rattle.model.proofs.Pointer.{is_next, passed_by, position-next, planned-next, passed-next, passed-at_most}
use Rattle.writer.specs.Worked.{number_at, kept_at, inner_at, product_at, NoneBelow, formula_at}
use Rattle.writer.specs.Written.{Room, Wrote}
use Rattle.writer.specs.Line.{Ready, Before, divisor_of, place_at, line_at, line_records, y_at, batch_at}
use Rattle.slots.specs.Batch.{row_of, column_of, first_of}
use Rattle.slots.proofs.Here.{line-inside, line-next}
use Rattle.writer.specs.declared.Cursor.{Cursor}
use Rattle.writer.proofs.Written.{Parts, product-left_out}
use Rattle.writer.proofs.Products.{Rising, rising_starts, rising-room, rising-more, rising-over, rising-ends}

-- ---- the work number at index q

pub number-here : (n : ℕ) (work : List ℕ) (i j q : ℕ) → suc q ≡ label n i j → number_at n work i j ≡ get_or work q 0
unfolding number_at
number-here n work i j q here = ap (λ k. get_or work k 0) (omega arith)

-- ---- below the notes nothing is kept

module _ {n : ℕ} {L : Plan} {work in_rows in_columns : List ℕ} (ready : Ready n L work in_rows in_columns) where
  pub inner-none : (i j a b from : ℕ) → Inside n i j → a ≡ i → b ≡ j → from ≡ max (get_or in_rows a 0) (get_or in_columns b 0)
      → NoneBelow (inner_at n work i j) from (min i j)
  unfolding inner_at
  inner-none i j a b from inside same_row same-column e h low below both =
      elim (dec_le (suc h) (get_or in_rows i 0)) [
        | yes left ↦ product-left_out 4 (number_at n work i h) (number_at n work h j) (inl (ready.rows i h (omega arith) left))
        | no right ↦ product-left_out 4 (number_at n work i h) (number_at n work h j)
            (inr (ready.columns h j (omega arith) (omega (arith, ap (λ k. get_or in_rows k 0) same_row, ap (λ k. get_or in_columns k 0) same-column))))
      ]

  pub forward-none : (m a from : ℕ) → Inside n m m → a ≡ m → from ≡ get_or in_rows a 0 → NoneBelow (product_at n work 5 m) from m
  unfolding product_at
  forward-none m a from inside same e h low below both =
      product-left_out 5 (number_at n work m h) h (inl (ready.rows m h (omega arith) (omega (arith, ap (λ k. get_or in_rows k 0) same))))

  -- ---- at place (i, j)

  module _ {i j : ℕ} (inside : Inside n i j) where
    -- q is the index of its work number
    module _ (q divisor : ℕ) (here : suc q ≡ label n i j) where
      pub place-left_out : get_or work q 0 ≡ 0 → place_at n L work divisor i j ≡ []
      unfolding place_at kept_at
      place-left_out none = rw (number-here n work i j q here, none)

      pub place_kept : (p : ℕ) → (get_or work q 0 ≡ 0 → ⊥) → p ≡ position L (label n i j)
          → place_at n L work divisor i j ≡ records_of (formula_at n work (get_or work q 0) p divisor i j)
      unfolding place_at kept_at
      place_kept p some e = rw (number-here n work i j q here, lt-ltb 0 (get_or work q 0) (omega arith), e)

    module _ {at : Cursor} (before : Before n L i j at) where
      pub place_bounds : (at.done < length work) × (at.done < 360000) × (at.passed ≤ 360000) × (i < length in_rows) × (j < length in_columns)
      place_bounds =
          let covers = ready.covers in
          omega (
            arith,
            label-range n i j inside,
            mul-le-mul {n₂ = 600} {m₂ = 600} covers.high covers.high,
            passed-at_most L at.done,
            plan-length n L ready.rises,
            before,
            covers,
            ready.row_count,
            ready.column-count,
          )

      pub passed-left_out : get_or work at.done 0 ≡ 0 → at.passed ≡ passed_by L (at.done + 1)
      passed-left_out none = rw (
        add-one,
        passed-next n L ready.rises at.done,
        planned-next n L ready.rises at.done,
        before.here,
        ready.planned i j inside (number-here n work i j at.done before.here ∙ none),
      ) before.passed

      -- p is what the search for its position answers
      module _ (p : ℕ) (found : p ≡ cond (is_next L at.passed (at.done + 1)) (suc at.passed) 0) where
        pub position-found : p ≡ position L (label n i j)
        position-found = rw (← before.here, position-next n L ready.rises at.done, ← before.passed, ← add-one at.done) found

        pub passed-kept : max at.passed p ≡ passed_by L (at.done + 1)
        passed-kept = rw (found, add-one, passed-next n L ready.rises at.done, ← before.passed) (step (is_next L at.passed (suc at.done)))
          where
            step : (b : Bool) → max at.passed (cond b (suc at.passed) 0) ≡ cond b (suc at.passed) at.passed
            step true = omega arith
            step false = omega arith

-- ---- along a line: the writer stands before its t-th place

pub record OnLine (n : ℕ) (L : Plan) (across : Bool) (m : ℕ) (at : Cursor) (t : ℕ) : Type 0 where
  pub low : first_of across m ≤ t
  pub before : Before n L (row_of across m t) (column_of across m t) at

module _ {n : ℕ} {L : Plan} {across : Bool} {m : ℕ} {at : Cursor} {t : ℕ} (line : OnLine n L across m at t) where
  -- that is (i, j)
  module _ {i j : ℕ} (row : i ≡ row_of across m t) (column : j ≡ column_of across m t) where
    pub line-place : Inside n m m → t ≤ n → Inside n i j × Before n L i j at
    line-place inside below =
        (rw (row, column) (line-inside n m t across inside.row_low inside.row-high line.low below).0, rw (row, column) line.before)

    pub place_of_line : (work : List ℕ) {divisor : ℕ} → divisor ≡ divisor_of n work across m → line_at n L work across m t ≡ place_at n L work divisor i j
    unfolding line_at
    place_of_line work e = rw (row, column, e)

  pub line_more : (after : Cursor) → (after.done ≡ suc at.done) × (after.passed ≡ passed_by L after.done) → OnLine n L across m after (t + 1)
  line_more after moved =
      let here = ap suc line.before.here ∙ sym (line-next n m t across line.low) in
      record { low = omega (arith, line.low); before = record { here = rw (moved.0, add-one) here; passed = moved.1 } }

-- ---- the places before the t-th are done

pub record Along (n : ℕ) (L : Plan) (work : List ℕ) (across : Bool) (m k₀ : ℕ) (words₀ : List ℕ) (at : Cursor) (t : ℕ) (words : List ℕ) : Type 0 where
  pub rising : Rising (line_at n L work across m) (first_of across m) 0 k₀ (suc n) words₀ at.next t words
  pub high : t ≤ suc n
  pub before : Before n L (row_of across m t) (column_of across m t) at

module _ {n : ℕ} {L : Plan} {work : List ℕ} {across : Bool} {m : ℕ} where
  pub along_starts : {at : Cursor} {words : List ℕ} (t : ℕ) → t ≡ first_of across m → m ≤ n
      → Before n L (row_of across m (first_of across m)) (column_of across m (first_of across m)) at → Room 0 at.next (line_records n L work across m) words
      → Along n L work across m at.next words at t words
  along_starts t e inside before room =
      record { rising = rw e (rising_starts room); high = rw e (first across); before = rw e before }
    where
      first : (b : Bool) → first_of b m ≤ suc n
      first true = omega arith
      first false = omega arith

  module _ {k₀ : ℕ} {words₀ : List ℕ} {at : Cursor} {t : ℕ} {words : List ℕ} (along : Along n L work across m k₀ words₀ at t words) where
    on_line : OnLine n L across m at t
    on_line = record { low = along.rising.low; before = along.before }

    -- the t-th place is (i, j)
    module _ (inside : Inside n m m) (below : t ≤ n) {i j divisor : ℕ} (row : i ≡ row_of across m t) (column : j ≡ column_of across m t)
        (e : divisor ≡ divisor_of n work across m) where
      pub along_place : Inside n i j × (Before n L i j at × Room 0 at.next (place_at n L work divisor i j) words)
      along_place =
          let place = line-place on_line row column inside below in
          (place.0, (place.1, rw (place_of_line on_line row column work e) at (rising-room along.rising (omega arith))))

      pub along_more : (after : Cursor) {words' : List ℕ} → Wrote 0 at.next (place_at n L work divisor i j) words words' after.next
          → (after.done ≡ suc at.done) × (after.passed ≡ passed_by L after.done) → Along n L work across m k₀ words₀ after (t + 1) words'
      along_more after wrote moved =
          record {
            rising = rising-more along.rising (omega arith) (rw (place_of_line on_line row column work e) wrote);
            high = omega arith;
            before = (line_more on_line after moved).before;
          }

    pub along_ends : n < t
        → Wrote 0 k₀ (line_records n L work across m) words₀ words at.next × Before n L (row_of across m (suc n)) (column_of across m (suc n)) at
    along_ends past =
        let end : suc n ≡ t = omega (arith, along.high) in
        (rising-ends along.rising (omega arith), rw end along.before)

-- ---- places that aren't kept may be passed over

-- labels grow by one along a line, so that its last place has a work number
line-label : (n m t : ℕ) (across : Bool) (d : ℕ) → first_of across m ≤ t
    → label n (row_of across m (t + d)) (column_of across m (t + d)) ≡ label n (row_of across m t) (column_of across m t) + d
line-label n m t across zero from = rw (add-zero t) (sym (add-zero _))
line-label n m t across (suc d) from =
    let on : t + suc d ≡ suc (t + d) = omega arith in
    rw on (line-next n m (t + d) across (omega arith) ∙ ap suc (line-label n m t across d from) ∙ sym (add-suc _ d))

pub line-long : {n : ℕ} {L : Plan} {work in_rows in_columns : List ℕ} {m t : ℕ} {at : Cursor} (across : Bool) → Ready n L work in_rows in_columns → Inside n m m
    → first_of across m ≤ t → t ≤ n → Before n L (row_of across m t) (column_of across m t) at → (at.done + (n - t) < length work) × (at.done < 360000)
line-long {n} {m = m} {t} across ready inside from below before =
    let end : t + (n - t) ≡ n = omega arith in
    let last = rw end at (line-label n m t across (n - t) from) in
    let range = label-range n _ _ (line-inside n m n across inside.row_low inside.row-high (omega arith) (omega arith)).0 in
    let covers = ready.covers in
    let square = mul-le-mul {n₂ = 600} {m₂ = 600} covers.high covers.high in
    (omega (arith, last, range, before.here, covers.long), omega (arith, last, range, before.here, square))

module _ {n : ℕ} {L : Plan} {work in_rows in_columns : List ℕ} {across : Bool} {m : ℕ} (ready : Ready n L work in_rows in_columns) (inside : Inside n m m) where
  module _ {at : Cursor} {t : ℕ} (line : OnLine n L across m at t) where
    pub line-skips : (d : ℕ) → t + d ≤ suc n → ((k : ℕ) → k < d → get_or work (at.done + k) 0 ≡ 0)
        → OnLine n L across m (record { next = at.next; done = at.done + d; passed = at.passed }) (t + d)
    line-skips zero far none = rw (add-zero t, add-zero at.done) line
    line-skips (suc d) far none =
        let rest = line-skips d (omega arith) (λ k below. none k (omega arith)) in
        let place = line-place rest refl refl inside (omega arith) in
        let on : t + suc d ≡ t + d + 1 = omega arith in
        let more : at.done + suc d ≡ at.done + d + 1 = omega arith in
        rw on (line_more rest _ (omega arith, rw more (passed-left_out ready place.0 place.1 (none d (omega arith)))))

    -- they have no records
    pub line-none : (d : ℕ) → t + d ≤ suc n → ((k : ℕ) → k < d → get_or work (at.done + k) 0 ≡ 0)
        → (k : ℕ) → t ≤ k → k < t + d → line_at n L work across m k ≡ []
    line-none d far none k low high =
        let there : t + (k - t) ≡ k = omega arith in
        let rest = line-skips (k - t) (omega arith) (λ l below. none l (omega arith)) in
        let place = line-place rest refl refl inside (omega arith) in
        rw there at (place_of_line rest refl refl work refl
        ∙ place-left_out ready place.0 (at.done + (k - t)) (divisor_of n work across m) place.1.here (none (k - t) (omega arith)))

  pub along_skips : {k₀ : ℕ} {words₀ words : List ℕ} {at : Cursor} {t : ℕ} → Along n L work across m k₀ words₀ at t words
      → (d : ℕ) → t + d ≤ suc n → ((k : ℕ) → k < d → get_or work (at.done + k) 0 ≡ 0)
      → Along n L work across m k₀ words₀ (record { next = at.next; done = at.done + d; passed = at.passed }) (t + d) words
  along_skips along d far none =
      record {
        rising = rising-over along.rising d (λ k low high below. line-none (on_line along) d far none k low high);
        high = far;
        before = (line-skips (on_line along) d far none).before;
      }

-- ---- batch m: its column, y(m) and its row

pub batch-parts : (n : ℕ) (L : Plan) (work : List ℕ) (m : ℕ)
    → Parts (batch_at n L work m) (line_records n L work false m) (y_at n work m) [] (line_records n L work true m)
unfolding batch_at
batch-parts n L work m = record { are = refl }

module _ {n : ℕ} {L : Plan} {m : ℕ} (inside : Inside n m m) {at : Cursor} where
  -- after the column comes the row, after the row the next batch
  pub turned : (next : ℕ) → Before n L (suc n) m at → Before n L m (suc m) (record { next = next; done = at.done; passed = at.passed })
  turned next before = record { here = before.here ∙ sym (label-turn n m inside.row_low inside.row-high); passed = before.passed }

  pub onward : Before n L m (suc n) at → Before n L (suc m) (suc m) at
  onward before = record { here = before.here ∙ sym (label-next n m inside.row_low inside.row-high); passed = before.passed }
