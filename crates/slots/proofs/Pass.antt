-- The pass over the batches: after each, its slots are given, its products counted, and the first missing pivot so far is known.
use Prim.Native.Nat.{ℕ, suc, ◌+◌, ◌-◌, ◌*◌, ◌≤◌, ◌<◌, max}
use native.Mathlib.Omega.{arith}
use mathlib.Core.Path.{◌≡◌, refl, sym, ap, ap₂, ◌∙◌}
use mathlib.Core.Bool.{Bool, true, false, cond, ◌&&◌}
use mathlib.Core.List.{List, ◌++◌}
use borrow.Author.Tests.{eqb-true, eq-eqb, ne_eqb}
use lib.Dec.{eqb}
use lib.ListN.{length, get_or, drop, replicate, length-replicate, get_or-replicate, take-append-drop}
use lib.Seq.{take_all}
use Rattle.model.specs.Lists.{rising, total}
use Rattle.model.specs.Fill.{Plan, held, missing_from, missing}
use Rattle.model.specs.Compile.{slot_numbers}
use Rattle.model.proofs.Lists.{drop-later}
use Rattle.model.proofs.Labels.{Inside, label-range, label-first, label-end, label_down, label-turn, label_right, label-next, label_in_column}
use Rattle.model.proofs.Slots.{closed_none, closed_all}
use Rattle.model.proofs.Lines.{row-size}
use Rattle.model.proofs.Sums.{rising-last}
use Rattle.model.proofs.WorkNumbers.{slot-numbers-length, slot_next, closed_along}
use Rattle.model.proofs.Batches.{down_of, right_of, batch_products, above_by_batches, products_by_batches, line-at_most, batch-at_most, batches_at_most}
use Rattle.slots.specs.Marks.{Marks}
use Rattle.slots.specs.Walked.{Reached, Lined, FillsPlan}
use Rattle.slots.specs.declared.Walk.{Walk}
use Rattle.slots.proofs.Here.{work_number}

-- the first m - 1 batches are done; gone is the first pivot missing in them
pub record Passing (N : ℕ) (L : Plan) (before : List ℕ) (m : ℕ) (walk : Walk) (products over gone : ℕ) (work in_rows in_columns : List ℕ) : Type 0 where
  pub from : 1 ≤ m
  pub to : m ≤ suc N
  pub size : length work ≡ length before
  pub reached : Reached N L false m m walk work in_rows in_columns
  pub rest : drop walk.done work ≡ drop walk.done before
  pub missing_is : missing N L ≡ cond (eqb gone 0) (missing_from m (suc N - m) N L) gone
  pub products-are : products ≡ total (rising (batch_products N L) 1 (m - 1))
  pub over-are : over ≡ total (rising (right_of N L) 1 (m - 1))

pub noted-none : {notes : List ℕ} → notes ≡ replicate 601 601 → length notes ≡ 601
noted-none e = rw e (length-replicate {A = ℕ} 601 601)

pub pass_start : {N : ℕ} {L : Plan} {before in_rows in_columns : List ℕ} → Marks N L 0 before → in_rows ≡ replicate 601 601 → in_columns ≡ replicate 601 601
    → Passing N L before 1 (record { done = 0; used = 0 }) 0 0 0 before in_rows in_columns
unfolding missing total rising
pass_start {N} {L} marked r s = record {
  from = omega arith;
  to = omega arith;
  size = refl;
  reached = record {
    next = sym (label-first N);
    walked = record {
      used = sym (closed_none N L);
      written = refl;
      marked = marked;
      row_count = noted-none r;
      column-count = noted-none s;
      row_low = λ i h. rw (r, get_or-replicate {A = ℕ} 601 i 601 0 h) (omega arith);
      column-low = λ i h. rw (s, get_or-replicate {A = ℕ} 601 i 601 0 h) (omega arith);
      skips = record {
        rows = λ i h inside none. absurd (omega (arith, label-range N i h inside));
        columns = λ j h inside none. absurd (omega (arith, label-range N h j inside));
      };
    };
  };
  rest = refl;
  missing_is = ap (λ d. missing_from 1 d N L) (omega arith);
  products-are = refl;
  over-are = refl;
}

-- Batch m's column is done: its pivot's work number, how far the walk is, the slots given, and that its row comes next
pub record ColumnDone (N : ℕ) (L : Plan) (m : ℕ) (walk after : Walk) (work in_rows in_columns : List ℕ) : Type 0 where
  pub pivot : get_or work walk.done 0 ≡ cond (held N L m m) (suc walk.used) 0
  pub inside : walk.done < N * N
  pub far : (walk.done ≤ after.done) × (after.done ≤ N * N)
  pub given : after.used ≡ walk.used + (cond (held N L m m) 1 0 + down_of N L m)
  pub turned : Reached N L true m (suc m) after work in_rows in_columns

-- Batch m's row is done: the slots given, how far the walk is, and that the next batch follows
pub record RowDone (N : ℕ) (L : Plan) (m : ℕ) (walk after : Walk) (work in_rows in_columns : List ℕ) : Type 0 where
  pub given : after.used ≡ walk.used + right_of N L m
  pub far : walk.done ≤ after.done
  pub onward : Reached N L false (suc m) (suc m) after work in_rows in_columns

pub row_done : {N : ℕ} {L : Plan} {m : ℕ} {walk after : Walk} {work in_rows in_columns work' in_rows' in_columns' : List ℕ} → 1 ≤ m → m ≤ N
    → Reached N L true m (suc m) walk work in_rows in_columns → Reached N L true m (suc N) after work' in_rows' in_columns'
    → RowDone N L m walk after work' in_rows' in_columns'
row_done {N} {L} {m} {walk} {after} low high r s = record {
  given =
      let steps = closed_along N L (λ k. m) (λ k. k) (suc m) (N - m) (suc N) walk.done after.done (omega arith) (λ k from below. omega arith)
      (λ k from below. label_right N m k from) r.next s.next in
      omega (arith, steps, r.walked.used, s.walked.used);
  far = omega (arith, row-size N m low high, r.next, s.next);
  onward = record { next = s.next ∙ sym (label-next N m low high); walked = s.walked };
}

missing-step : (N : ℕ) (L : Plan) (m : ℕ) → m ≤ N → missing_from m (suc N - m) N L ≡ cond (held N L m m) (missing_from (suc m) (suc N - suc m) N L) m
unfolding missing_from
missing-step N L m high =
    let size : suc N - m ≡ suc (N - m) = omega arith in
    let left : suc N - suc m ≡ N - m = omega arith in
    rw (size, left)

-- the first missing pivot with batch m's, whose slot is 0 where it isn't held
missing-next : (gone m slot used left : ℕ) (b : Bool) → 1 ≤ m → slot ≡ cond b (suc used) 0
    → cond (eqb gone 0) (cond b left m) gone ≡ cond (eqb (cond (eqb slot 0 && eqb gone 0) m gone) 0) left (cond (eqb slot 0 && eqb gone 0) m gone)
missing-next gone m slot used left true low e = rw (ne_eqb slot 0 (omega arith))
missing-next gone m slot used left false low e = rw (eq-eqb slot 0 e) (step (eqb gone 0) refl)
  where
    step : (c : Bool) → eqb gone 0 ≡ c → cond c m gone ≡ cond (eqb (cond c m gone) 0) left (cond c m gone)
    step true z = rw (ne_eqb m 0 (omega arith))
    step false z = rw z

-- a batch's number is added
one_more : (f : ℕ → ℕ) (m : ℕ) → 1 ≤ m → total (rising f 1 (suc m - 1)) ≡ total (rising f 1 (m - 1)) + f m
one_more f m low =
    let size : suc m - 1 ≡ suc (m - 1) = omega arith in
    let last : 1 + (m - 1) ≡ m = omega arith in
    rw size (rising-last f 1 (m - 1) ∙ rw last)

module _ {N : ℕ} {L : Plan} {before : List ℕ} {m : ℕ} {walk : Walk} {products over gone : ℕ} {work in_rows in_columns : List ℕ}
    (pass : Passing N L before m walk products over gone work in_rows in_columns) (high : m ≤ N) where
  pub column-done : {after : Walk} {work' in_rows' in_columns' : List ℕ} → Reached N L false m (suc N) after work' in_rows' in_columns'
      → ColumnDone N L m walk after work' in_rows' in_columns'
  unfolding total rising
  column-done {after} {work'} r =
      let pivot : Inside N m m = omega (arith, pass.from) in
      let last : Inside N N m = omega (arith, pass.from) in
      let next = pass.reached.next in
      let size : suc N - m ≡ suc (N - m) = omega arith in
      record {
        pivot = work_number r.walked walk.done (omega (arith, label_in_column N (suc N) m (omega arith), r.next))
            ∙ slot_next N L m m walk.done pivot next ∙ ap (λ k. cond (held N L m m) (suc k) 0) (sym pass.reached.walked.used);
        inside = omega (arith, label-range N m m pivot);
        far = omega (arith, label_in_column N (suc N) m (omega arith), label_down N N m high, label-range N N m last, r.next);
        given =
            let steps = closed_along N L (λ k. k) (λ k. m) m (suc N - m) (suc N) walk.done after.done (omega arith)
            (λ k low below. omega (arith, pass.from)) (λ k low below. label_down N k m low) next r.next in
            omega (arith, rw size at steps, r.walked.used, pass.reached.walked.used);
        turned = record { next = r.next ∙ sym (label-turn N m pass.from high); walked = r.walked };
      }

  module _ {after : Walk} {work' in_rows' in_columns' : List ℕ} (column : ColumnDone N L m walk after work' in_rows' in_columns') where
    -- the slots given below the pivot follow its own, or the ones before it
    pub down_given : (from : ℕ) → from ≡ max walk.used (get_or work' walk.done 0) → after.used ≡ from + down_of N L m
    down_given from e = step (held N L m m) column.pivot column.given
      where
        step : (b : Bool) → get_or work' walk.done 0 ≡ cond b (suc walk.used) 0 → after.used ≡ walk.used + (cond b 1 0 + down_of N L m)
            → after.used ≡ from + down_of N L m
        step true p g = omega arith
        step false p g = omega arith

    pub pass_next : {last : Walk} {products' over' gone' : ℕ} {work'' in_rows'' in_columns'' : List ℕ} → drop after.done work' ≡ drop after.done work
        → RowDone N L m after last work'' in_rows'' in_columns'' → length work'' ≡ length before → drop last.done work'' ≡ drop last.done work'
        → products' ≡ products + batch_products N L m → over' ≡ over + right_of N L m
        → gone' ≡ cond (eqb (get_or work' walk.done 0) 0 && eqb gone 0) m gone
        → Passing N L before (suc m) last products' over' gone' work'' in_rows'' in_columns''
    pass_next {last} same row size rest p o g = record {
      from = omega arith;
      to = omega arith;
      size = size;
      reached = row.onward;
      rest = rest ∙ drop-later work' work after.done last.done row.far same
          ∙ drop-later work before walk.done last.done (omega (arith, column.far, row.far)) pass.rest;
      missing_is = pass.missing_is ∙ ap (λ k. cond (eqb gone 0) k gone) (missing-step N L m high)
          ∙ missing-next gone m _ _ _ (held N L m m) pass.from column.pivot ∙ rw g;
      products-are = p ∙ rw pass.products-are (sym (one_more (batch_products N L) m pass.from));
      over-are = o ∙ rw pass.over-are (sym (one_more (right_of N L) m pass.from));
    }

-- a turn of the pass: batch m's column from the diagonal down, and then its row
module _ {N m : ℕ} {before : List ℕ} {walk middle : Walk} {products over gone : ℕ} {work in_rows in_columns work' in_rows' in_columns' : List ℕ}
    (pass : (L : Plan) → Marks N L 0 before → Passing N L before m walk products over gone work in_rows in_columns) (high : m ≤ N)
    (column : Lined N false m walk middle work in_rows in_columns work' in_rows' in_columns') (L : Plan) (marked : Marks N L 0 before) where
  pub turn_column : ColumnDone N L m walk middle work' in_rows' in_columns'
  turn_column = let p = pass L marked in column-done p high (column.reached L p.reached)

  module _ {last : Walk} {work'' in_rows'' in_columns'' : List ℕ} (row : Lined N true m middle last work' in_rows' in_columns' work'' in_rows'' in_columns'')
      {pivot : ℕ} (at : pivot ≡ walk.done) (from : ℕ) (e : from ≡ max walk.used (get_or work' pivot 0)) where
    turn_row : RowDone N L m middle last work'' in_rows'' in_columns''
    turn_row = row_done (pass L marked).from high turn_column.turned (row.reached L turn_column.turned)

    -- the slots that it gives, below the pivot and right of it
    turn_given : (middle.used ≡ from + down_of N L m) × (last.used ≡ middle.used + right_of N L m)
    turn_given = (down_given (pass L marked) high turn_column from (rw at at e), turn_row.given)

    -- they and the sums stay small
    pub turn_small : N ≤ 600 → (batch : ℕ) → let down = middle.used - from in let right = last.used - middle.used in batch ≡ down * right + down + right
        → (from ≤ middle.used) × (middle.used ≤ last.used) × (down ≤ 600) × (right ≤ 600) × (products + batch ≤ 220000000) × (over ≤ 360000)
    turn_small order batch b =
        let p = pass L marked in
        let g = turn_given in
        let below : middle.used - from ≡ down_of N L m = omega (arith, g.0) in
        let beside : last.used - middle.used ≡ right_of N L m = omega (arith, g.1) in
        let all : batch ≡ batch_products N L m = b ∙ ap₂ (λ d r. d * r + d + r) below beside in
        omega (
          arith,
          g,
          p.products-are,
          p.over-are,
          batches_at_most N L order (m - 1),
          batch-at_most N L order m,
          line-at_most N L order (λ i. held N L i m) m,
          line-at_most N L order (held N L m) m,
          high,
        )

    -- and the next turn follows
    pub turn_next : (batch gone' : ℕ) → let down = middle.used - from in let right = last.used - middle.used in batch ≡ down * right + down + right
        → gone' ≡ cond (eqb (get_or work' pivot 0) 0 && eqb gone 0) m gone → length work'' ≡ length before
        → Passing N L before (suc m) last (products + batch) (over + right) gone' work'' in_rows'' in_columns''
    turn_next batch gone' b g size =
        let given = turn_given in
        let below : middle.used - from ≡ down_of N L m = omega (arith, given.0) in
        let beside : last.used - middle.used ≡ right_of N L m = omega (arith, given.1) in
        pass_next (pass L marked) high turn_column column.rest turn_row size row.rest
        (ap (λ k. products + k) (b ∙ ap₂ (λ d r. d * r + d + r) below beside)) (ap (λ k. over + k) beside) (rw at at g)

pub pass_end : {N : ℕ} {L : Plan} {before : List ℕ} {m : ℕ} {walk : Walk} {products over gone : ℕ} {work in_rows in_columns : List ℕ}
    → Passing N L before m walk products over gone work in_rows in_columns → N < m
    → FillsPlan N L before work in_rows in_columns (record { slots = walk.used; products = products; above = over; missing = gone })
unfolding missing_from
pass_end {N} {L} {before} {m} {walk} {products} {over} {gone} {work} pass past =
    let all : m ≡ suc N = omega (arith, pass.to) in
    let none : suc N - m ≡ 0 = omega arith in
    let count : m - 1 ≡ N = omega arith in
    let done : walk.done ≡ N * N = omega (arith, rw all at pass.reached.next, label-end N) in
    let walked = pass.reached.walked in
    record {
      slots-are = walked.used ∙ rw done (closed_all N L);
      products-are = rw count at pass.products-are ∙ sym (products_by_batches N L);
      above-are = rw count at pass.over-are ∙ sym (above_by_batches N L);
      missing_is = sym (rw none at pass.missing_is ∙ first (eqb gone 0) refl);
      written = sym (take-append-drop (N * N) work)
          ∙ ap₂ ◌++◌ (rw done at walked.written ∙ take_all (N * N) (slot_numbers N L) (omega (arith, slot-numbers-length N L))) (rw done at pass.rest);
      row_count = walked.row_count;
      column-count = walked.column-count;
      skips = rw done at walked.skips;
    }
  where
    first : (b : Bool) → eqb gone 0 ≡ b → cond b 0 gone ≡ gone
    first true e = sym (eqb-true gone 0 e)
    first false e = refl
