-- The place where the walk stands, on a column or a row: what is known of it, and the numbers' bounds there.
use Prim.Native.Nat.{ℕ, suc, ◌+◌, ◌-◌, ◌*◌, ◌≤◌, ◌<◌, min}
use native.Mathlib.Decide.{dec_le}
use native.Mathlib.Nat.{mul-le-mul}
use native.Mathlib.Omega.{arith}
use mathlib.Core.Path.{◌≡◌, sym, ap, ◌∙◌}
use mathlib.Core.Bool.{Bool, true, false}
use mathlib.Core.List.{List}
use lib.Dec.{ltb}
use lib.ListN.{length, get_or}
use lib.Seq.{get_or-take}
use Rattle.model.specs.Label.{label}
use Rattle.model.specs.Fill.{Plan, position, held}
use Rattle.model.specs.Compile.{slot_numbers}
use Rattle.model.proofs.Labels.{Inside, label-range, label_down, label_right, label_in_column, label_in_row}
use Rattle.model.proofs.WorkNumbers.{held_number, closed-at_most}
use Rattle.slots.specs.Walked.{Sized, Walked, Reached}
use Rattle.slots.specs.Batch.{row_of, column_of, first_of}
use Rattle.slots.specs.declared.Walk.{Walk}

module _ {N : ℕ} {L : Plan} {walk : Walk} {work in_rows in_columns : List ℕ} (walked : Walked N L walk work in_rows in_columns) where
  -- the work number of a place that is done is its slot
  pub work_number : (k : ℕ) → k < walk.done → get_or work k 0 ≡ get_or (slot_numbers N L) k 0
  work_number k before = sym (get_or-take walk.done work k 0 before) ∙ ap (λ l. get_or l k 0) walked.written
      ∙ get_or-take walk.done (slot_numbers N L) k 0 before

  -- and says whether it is held
  pub work_tested : (i j k : ℕ) → Inside N i j → label N i j ≤ walk.done → suc k ≡ label N i j → ltb 0 (get_or work k 0) ≡ held N L i j
  work_tested i j k inside done here = rw (work_number k (omega arith)) (held_number N L i j k inside here)

-- (i, j), of batch m, is the next place
pub record Here (N : ℕ) (L : Plan) (m i j : ℕ) (walk : Walk) (work in_rows in_columns : List ℕ) : Type 0 where
  pub sized : Sized N work
  pub inside : Inside N i j
  pub batch : min i j ≡ m
  pub next : suc walk.done ≡ label N i j
  pub walked : Walked N L walk work in_rows in_columns

module _ (N m t : ℕ) where
  -- the t-th place of a line: its row and column, its batch, and the label after it
  pub line-inside : (across : Bool) → 1 ≤ m → m ≤ N → first_of across m ≤ t → t ≤ N
      → Inside N (row_of across m t) (column_of across m t) × (min (row_of across m t) (column_of across m t) ≡ m)
  line-inside true low high from to = omega arith
  line-inside false low high from to = omega arith

  pub line-next : (across : Bool) → first_of across m ≤ t
      → label N (row_of across m (suc t)) (column_of across m (suc t)) ≡ suc (label N (row_of across m t) (column_of across m t))
  line-next true from = label_right N m t from
  line-next false from = label_down N t m from

  -- the rest of the line is in the table
  pub line-rest : (across : Bool) → 1 ≤ m → m ≤ N → first_of across m ≤ t → t ≤ suc N
      → label N (row_of across m t) (column_of across m t) + (suc N - t) ≤ suc (N * N)
  line-rest true low high from to = elim (dec_le N m) [
    | yes last ↦ omega (arith, label_in_row N m t low high from, label-range N m m (omega arith))
    | no more ↦ omega (arith, label_in_row N m t low high from, label_in_row N m N low high (omega arith), label-range N m N (omega arith))
  ]
  line-rest false low high from to = omega (arith, label_in_column N t m from, label_in_column N N m high, label-range N N m (omega arith))

pub here : {N : ℕ} {L : Plan} {across : Bool} {m t : ℕ} {walk : Walk} {work in_rows in_columns : List ℕ} (i j : ℕ)
    → Sized N work → 1 ≤ m → m ≤ N → first_of across m ≤ t → t ≤ N → Reached N L across m t walk work in_rows in_columns
    → i ≡ row_of across m t → j ≡ column_of across m t → Here N L m i j walk work in_rows in_columns
here {N} {across = across} {m} {t} i j sized low high from to reached row column =
    let at = line-inside N m t across low high from to in
    record {
      sized = sized;
      inside = rw (row, column) at.0;
      batch = rw (row, column) at.1;
      next = rw (row, column) reached.next;
      walked = reached.walked;
    }

module _ {N : ℕ} {L : Plan} {m i j : ℕ} {walk : Walk} {work in_rows in_columns : List ℕ} (at : Here N L m i j walk work in_rows in_columns) where
  pub bounds : (walk.done < 360000) × (walk.done < length work) × (walk.used < 360000) × (i < length in_rows) × (j < length in_columns)
  bounds =
      let w = at.walked in
      let s = at.sized in
      omega (
        arith,
        label-range N i j at.inside,
        mul-le-mul {n₂ = 600} {m₂ = 600} s.high s.high,
        closed-at_most N L walk.done,
        at.next,
        at.inside,
        w.used,
        w.row_count,
        w.column-count,
        s.room,
      )

  -- its mark says whether it is in the plan
  pub mark_here : ltb 0 (get_or work walk.done 0) ≡ ltb 0 (position L (label N i j))
  mark_here = at.walked.marked.marks walk.done (omega arith) (omega (arith, label-range N i j at.inside, at.next))
      ∙ ap (λ k. ltb 0 (position L k)) at.next
