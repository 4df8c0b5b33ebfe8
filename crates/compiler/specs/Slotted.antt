-- A plan that 1 to 5 let through, with its slots in the work numbers. Definitions only.
use Rattle.std.specs.Prelude.{ℕ, List}
use Rattle.model.specs.Fill.{Plan}
use Rattle.model.specs.Compile.{Compiled, compact, slot_numbers, work_with}
use Rattle.model.proofs.Compiles.{Ends}
use Rattle.slots.specs.declared.Filled.{Filled}
use Rattle.plans.specs.Slotted.{Slotted}

-- for some work numbers before
pub record SomeSlotted (each N : ℕ) (L : Plan) (work in_rows in_columns : List ℕ) (r : Filled) : Type 0 where
  pub before : List ℕ
  pub slotted : Slotted each N L before work in_rows in_columns r

-- the second compiler's end, whatever they were, once those past the slots are cleared
abbrev pub CompactEnds : ℕ → Plan → List ℕ → List ℕ → List ℕ → List ℕ → Filled → Compiled → List ℕ → Type 0
CompactEnds N L work in_rows in_columns words r answer words' =
    (before : List ℕ) → Slotted 4 N L before work in_rows in_columns r
    → Ends compact N L before words answer (work_with compact N (slot_numbers N L) before) words'
