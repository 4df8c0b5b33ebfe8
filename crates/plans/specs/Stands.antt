-- A plan whose slots stand in the work numbers. Definitions only.
use Rattle.std.specs.Prelude.{ℕ, ◌-◌, ◌*◌, ◌≤◌, ◌≡◌, true, false, List, ltb, length, get_or}
use Rattle.model.specs.Label.{label}
use Rattle.model.specs.Fill.{Plan, in_plan, held}
use Rattle.model.specs.Compile.{judged, good}
use Rattle.model.specs.Route.{middle}
use Rattle.model.proofs.Labels.{Inside}
use Rattle.slots.specs.Skips.{Skips}

-- a plan that 1 to 4 let through, with its slots in the work numbers
pub record Stands (N : ℕ) (L : Plan) (work in_rows in_columns : List ℕ) : Type 0 where
  pub low : 1 ≤ N
  pub high : N ≤ 600
  pub rises : judged N 0 1 L ≡ good
  pub room : N * N ≤ length work
  pub stands : (i j : ℕ) → Inside N i j → ltb 0 (get_or work (label N i j - 1) 0) ≡ held N L i j
  pub row_count : length in_rows ≡ 601
  pub column-count : length in_columns ≡ 601
  pub skips : Skips N L (N * N) in_rows in_columns

-- a place of the table that is held
pub record Leads (N : ℕ) (L : Plan) (i j : ℕ) : Type 0 where
  pub inside : Inside N i j
  pub holds : held N L i j ≡ true

-- one that is not in the plan
pub record Filled (N : ℕ) (L : Plan) (i j : ℕ) : Type 0 where
  pub leads : Leads N L i j
  pub free : in_plan N L i j ≡ false

-- for some plan (i, j) is such a place
pub record Sought (N : ℕ) (work in_rows in_columns : List ℕ) (i j : ℕ) : Type 0 where
  pub plan : Plan
  pub stands : Stands N plan work in_rows in_columns
  pub filled : Filled N plan i j

-- h is the smallest between i and j, for every plan
abbrev pub Smallest : ℕ → List ℕ → List ℕ → List ℕ → ℕ → ℕ → ℕ → Type 0
Smallest N work in_rows in_columns i j h = (L : Plan) → Stands N L work in_rows in_columns → Filled N L i j → h ≡ middle N L i j
