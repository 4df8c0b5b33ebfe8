-- The records of a line of places, of a batch and of the whole plan, as the work numbers give them; and where a writer of them stands. Definitions only.
use Rattle.std.specs.Prelude.{ℕ, suc, ◌-◌, ◌<◌, ◌≡◌, Bool, true, false, cond, List, [], ◌++◌, length, get_or}
use Rattle.model.specs.Lists.{rising, falling, joined}
use Rattle.model.specs.Label.{label}
use Rattle.model.specs.Fill.{Plan, position}
use Rattle.model.specs.Compile.{judged, good}
use Rattle.model.specs.Crout.{forward, backward}
use Rattle.model.specs.Program.{Record, records_of}
use Rattle.model.proofs.Labels.{Inside}
use Rattle.model.proofs.Pointer.{passed_by}
use Rattle.slots.specs.Batch.{row_of, column_of, first_of}
use Rattle.writer.specs.Worked.{Covers, number_at, kept_at, formula_at}
use Rattle.writer.specs.declared.Cursor.{Cursor}

-- the work numbers and the notes of rows and columns, as the slot pass leaves them: none is kept before the noted column or row, and a place
-- that is in the plan is kept
pub record Ready (n : ℕ) (L : Plan) (work in_rows in_columns : List ℕ) : Type 0 where
  pub covers : Covers n work
  pub rises : judged n 0 1 L ≡ good
  pub row_count : length in_rows ≡ 601
  pub column-count : length in_columns ≡ 601
  pub rows : (i h : ℕ) → Inside n i h → h < get_or in_rows i 0 → number_at n work i h ≡ 0
  pub columns : (h j : ℕ) → Inside n h j → h < get_or in_columns j 0 → number_at n work h j ≡ 0
  pub planned : (i j : ℕ) → Inside n i j → number_at n work i j ≡ 0 → position L (label n i j) ≡ 0

-- the writer stands before place (i, j)
pub record Before (n : ℕ) (L : Plan) (i j : ℕ) (at : Cursor) : Type 0 where
  pub here : suc at.done ≡ label n i j
  pub passed : at.passed ≡ passed_by L at.done

module _ (n : ℕ) (work : List ℕ) where
  abbrev pub divisor_of : Bool → ℕ → ℕ
  divisor_of across m = cond across (number_at n work m m) 0

  -- the records of y(m), of x(i), and of x(n)..x(1)
  unfoldable pub y_at : ℕ → List Record
  y_at m = records_of (forward n [] (number_at n work) (kept_at n work) m)

  unfoldable pub x_at : ℕ → List Record
  x_at i = records_of (backward n [] (number_at n work) (kept_at n work) i)

  abbrev pub solution_records : List Record
  solution_records = joined (falling x_at n (n - 0))

module _ (n : ℕ) (L : Plan) (work : List ℕ) where
  -- the records of place (i, j), if it is kept; of a line, of a batch and of all batches
  unfoldable pub place_at : ℕ → ℕ → ℕ → List Record
  place_at divisor i j = cond (kept_at n work i j) (records_of (formula_at n work (number_at n work i j) (position L (label n i j)) divisor i j)) []

  unfoldable pub line_at : Bool → ℕ → ℕ → List Record
  line_at across m t = place_at (divisor_of n work across m) (row_of across m t) (column_of across m t)

  abbrev pub line_records : Bool → ℕ → List Record
  line_records across m = joined (rising (line_at across m) (first_of across m) (suc n - first_of across m))

  unfoldable pub batch_at : ℕ → List Record
  batch_at m = line_records false m ++ (y_at n work m ++ line_records true m)

  abbrev pub batch_records : List Record
  batch_records = joined (rising batch_at 1 (suc n - 1))

  -- the records of the whole plan
  abbrev pub plan_records : List Record
  plan_records = batch_records ++ solution_records n work
