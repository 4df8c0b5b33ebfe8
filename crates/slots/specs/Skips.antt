-- Where a search for pairs may start: what is noted of each row and column. Definitions only.
use Rattle.std.specs.Prelude.{ℕ, ◌≤◌, ◌<◌, ◌≡◌, false, List, get_or}
use Rattle.model.specs.Label.{label}
use Rattle.model.specs.Fill.{Plan, held}
use Rattle.model.proofs.Labels.{Inside}

-- of the places with labels up to q, none is held left of the column noted for its row, and none above the row noted for its column
pub record Skips (N : ℕ) (L : Plan) (q : ℕ) (in_rows in_columns : List ℕ) : Type 0 where
  pub rows : (i h : ℕ) → Inside N i h → label N i h ≤ q → h < get_or in_rows i 0 → held N L i h ≡ false
  pub columns : (j h : ℕ) → Inside N h j → label N h j ≤ q → h < get_or in_columns j 0 → held N L h j ≡ false
