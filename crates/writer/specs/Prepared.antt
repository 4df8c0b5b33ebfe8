-- What a compiler has when it writes the program of a plan. Definitions only.
use Rattle.std.specs.Prelude.{ℕ, suc, ◌*◌, ◌≤◌, ◌≡◌, true, List, length}
use Rattle.model.specs.Label.{is_order}
use Rattle.model.specs.Fill.{Plan, held, record_count}
use Rattle.model.specs.Compile.{judged, good}
use Rattle.model.proofs.Labels.{Inside}
use Rattle.slots.specs.Skips.{Skips}
use Rattle.writer.specs.Worked.{kept_at}
use Rattle.writer.specs.Line.{plan_records}

-- the plan is good, exactly the held places have a work number, the records are as many as counted, rows and columns are noted, and the program fits
-- the words
pub record Prepared (n : ℕ) (L : Plan) (work in_rows in_columns words : List ℕ) : Type 0 where
  pub order : is_order n ≡ true
  pub rises : judged n 0 1 L ≡ good
  pub covers : n * n ≤ length work
  pub kept : (i j : ℕ) → Inside n i j → kept_at n work i j ≡ held n L i j
  pub records : suc (length (plan_records n L work)) ≡ record_count n L
  pub row_count : length in_rows ≡ 601
  pub column-count : length in_columns ≡ 601
  pub skips : Skips n L (n * n) in_rows in_columns
  pub fits : 4 * record_count n L ≤ length words
