-- The records of a sweep's rows, as the work numbers give them: the work number of a label is its position in the plan, 0 where it is not there.
-- Document 02, A.7. Definitions only.
use Rattle.std.specs.Prelude.{ℕ, suc, ◌-◌, ◌*◌, ◌≤◌, ◌≡◌, true, List, ◌++◌, map, length, take}
use Rattle.model.specs.Lists.{rising, joined}
use Rattle.model.specs.Label.{is_order}
use Rattle.model.specs.Fill.{Plan}
use Rattle.model.specs.Program.{Record, records_of}
use Rattle.model.specs.Sweep.{row_formula, sweep_record, bare, position_numbers}
use Rattle.model.specs.Compile.{judged, good, sweep, records_by}
use Rattle.writer.specs.Worked.{number_at, kept_at, product_at, up_to}

-- the first n² work numbers are the positions in the plan
pub record Positions (n : ℕ) (L : Plan) (work : List ℕ) : Type 0 where
  pub are : take (n * n) work ≡ position_numbers n L

module _ (n : ℕ) (work : List ℕ) where
  -- the products a(r,j) x(j): those right of the diagonal, and those of all other columns, "in rising order"
  abbrev pub right_of : ℕ → List Record
  right_of r = joined (rising (product_at n work 11 r) (suc r) (suc n - suc r))

  abbrev pub others_at : ℕ → List Record
  others_at r = up_to (product_at n work 11 r) r ++ right_of r

  -- the records of row r, and of all rows
  unfoldable pub row_at : ℕ → List Record
  row_at r = map sweep_record (records_of (row_formula n (number_at n work) (kept_at n work) r))

  abbrev pub row_records : List Record
  row_records = joined (rising row_at 1 (suc n - 1))

-- what the compiler has when it writes the rows of a plan: the plan is good, its positions stand in the work numbers, no row is without its diagonal,
-- and the program fits the words
pub record Planned (n : ℕ) (L : Plan) (work words : List ℕ) : Type 0 where
  pub order : is_order n ≡ true
  pub rises : judged n 0 1 L ≡ good
  pub covers : n * n ≤ length work
  pub positions : Positions n L work
  pub complete : bare n L ≡ 0
  pub fits : 4 * records_by sweep n L ≤ length words
