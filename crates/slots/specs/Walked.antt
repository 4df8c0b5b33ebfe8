-- What holds while the places are walked in dense order, and what the slot pass answers. Definitions only.
use Rattle.std.specs.Prelude.{ℕ, suc, ◌+◌, ◌*◌, ◌≤◌, ◌<◌, min, ◌≡◌, Bool, true, cond, List, ◌++◌, length, get_or, set, take, drop}
use Rattle.model.specs.Label.{label}
use Rattle.model.specs.Fill.{Plan, slots, missing, product_count, above}
use Rattle.model.specs.Compile.{slot_numbers}
use Rattle.model.proofs.Slots.{closed_slots}
use Rattle.slots.specs.Batch.{row_of, column_of, first_of, empty_at}
use Rattle.slots.specs.Marks.{Marks}
use Rattle.slots.specs.Skips.{Skips}
use Rattle.slots.specs.declared.Walk.{Walk}
use Rattle.slots.specs.declared.Filled.{Filled}

-- an order, and a work number for each place of its table
pub record Sized (N : ℕ) (work : List ℕ) : Type 0 where
  pub low : 1 ≤ N
  pub high : N ≤ 600
  pub room : N * N ≤ length work

-- the places done have their slots in the work slice, and those after them their marks
pub record Walked (N : ℕ) (L : Plan) (walk : Walk) (work in_rows in_columns : List ℕ) : Type 0 where
  pub used : walk.used ≡ closed_slots N L walk.done
  pub written : take walk.done work ≡ take walk.done (slot_numbers N L)
  pub marked : Marks N L walk.done work
  pub row_count : length in_rows ≡ 601
  pub column-count : length in_columns ≡ 601
  pub row_low : (i : ℕ) → i < 601 → 1 ≤ get_or in_rows i 0
  pub column-low : (j : ℕ) → j < 601 → 1 ≤ get_or in_columns j 0
  pub skips : Skips N L walk.done in_rows in_columns

-- the places before the t-th of a line are done
pub record Reached (N : ℕ) (L : Plan) (across : Bool) (m t : ℕ) (walk : Walk) (work in_rows in_columns : List ℕ) : Type 0 where
  pub next : suc walk.done ≡ label N (row_of across m t) (column_of across m t)
  pub walked : Walked N L walk work in_rows in_columns

-- they are, for some plan
pub record Standing (N : ℕ) (across : Bool) (m t : ℕ) (walk : Walk) (work in_rows in_columns : List ℕ) : Type 0 where
  pub plan : Plan
  pub reached : Reached N plan across m t walk work in_rows in_columns

-- a line is done: for the plan that its places stood for, all of them are
pub record Lined (N : ℕ) (across : Bool) (m : ℕ) (walk after : Walk) (work in_rows in_columns work' in_rows' in_columns' : List ℕ) : Type 0 where
  pub reached : (L : Plan) → Reached N L across m (first_of across m) walk work in_rows in_columns → Reached N L across m (suc N) after work' in_rows' in_columns'
  pub rest : drop after.done work' ≡ drop after.done work

-- r places of a line from the t-th on, whose work numbers follow the first done, are empty
pub record EmptyRun (N : ℕ) (across : Bool) (m t done : ℕ) (work in_rows in_columns : List ℕ) (r : ℕ) : Type 0 where
  pub inside : t + r ≤ suc N
  pub empty : (k : ℕ) → k < r → empty_at N across m work in_rows in_columns (t + k) (done + k) ≡ true

-- line k's note after a place at h of it, if it is taken: the smaller of h and what was noted
pub record Noted (k h : ℕ) (taken : Bool) (notes notes' : List ℕ) : Type 0 where
  pub noted : notes' ≡ cond taken (set notes k (min h (get_or notes k 0))) notes

-- what a place does to the walk and the slices: if it is taken, it gets the next slot, and row i and column j note it
pub record Settled (i j : ℕ) (taken : Bool) (walk after : Walk) (work in_rows in_columns work' in_rows' in_columns' : List ℕ) : Type 0 where
  pub done : after.done ≡ suc walk.done
  pub used : after.used ≡ cond taken (suc walk.used) walk.used
  pub written : work' ≡ cond taken (set work walk.done (suc walk.used)) work
  pub noted-row : Noted i j taken in_rows in_rows'
  pub noted-column : Noted j i taken in_columns in_columns'

-- the slots of a plan, the counts, and the first missing pivot
pub record FillsPlan (N : ℕ) (L : Plan) (before work in_rows in_columns : List ℕ) (r : Filled) : Type 0 where
  pub slots-are : r.slots ≡ slots N L
  pub products-are : r.products ≡ product_count N L
  pub above-are : r.above ≡ above N L
  pub missing_is : r.missing ≡ missing N L
  pub written : work ≡ slot_numbers N L ++ drop (N * N) before
  pub row_count : length in_rows ≡ 601
  pub column-count : length in_columns ≡ 601
  pub skips : Skips N L (N * N) in_rows in_columns

-- those of every plan that the work numbers marked
abbrev pub Fills : ℕ → List ℕ → List ℕ → List ℕ → List ℕ → Filled → Type 0
Fills N before work in_rows in_columns r = (L : Plan) → Marks N L 0 before → FillsPlan N L before work in_rows in_columns r
