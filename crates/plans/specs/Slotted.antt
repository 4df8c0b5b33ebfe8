-- What 1 to 5 answer, and what then stands in the work numbers. Definitions only.
use Rattle.std.specs.Prelude.{ℕ, ◌*◌, ◌≡◌, List, ◌++◌, length, drop, replicate}
use Rattle.model.specs.Fill.{Plan, missing}
use Rattle.model.specs.Compile.{good, bad, orderly}
use Rattle.slots.specs.Walked.{FillsPlan}
use Rattle.slots.specs.declared.Filled.{Filled}
use Rattle.refusal.specs.Named.{number_of, detail_of}
use Rattle.refusal.specs.declared.Refusal.{Refusal}
use Rattle.refusal.specs.declared.Refusal.TheVariants.{PivotMissing}

-- none of them refuses the plan, for a call that wants so many work numbers for each place of the table: the slots stand in what came before
pub record Slotted (each N : ℕ) (L : Plan) (before work in_rows in_columns : List ℕ) (r : Filled) : Type 0 where
  pub passed : orderly (each * (N * N)) N L (length before) ≡ good
  pub whole : missing N L ≡ 0
  pub filled : FillsPlan N L before work in_rows in_columns r

-- one of them does: 1 to 4, which change nothing, or 5, after which the work numbers that the call wants are zeros
pub data Refuses (each N : ℕ) (L : Plan) (before work : List ℕ) : Refusal → Type 0 where
  early : {r : Refusal} → orderly (each * (N * N)) N L (length before) ≡ bad (number_of r) (detail_of r) → work ≡ before → Refuses each N L before work r
  gap : {m : ℕ} → orderly (each * (N * N)) N L (length before) ≡ good → m ≡ missing N L → (m ≡ 0 → ⊥)
      → work ≡ replicate (each * (N * N)) 0 ++ drop (each * (N * N)) before → Refuses each N L before work (PivotMissing m)
