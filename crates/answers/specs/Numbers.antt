-- An answer as document 01's C boundary has it: one number, and the three that it tells. Definitions only.
use Rattle.std.specs.Prelude.{ℕ, List, [], ◌∷◌, Result, Ok, Err}
use Rattle.refusal.specs.Named.{refused_number}
use Rattle.refusal.specs.declared.Refusal.{Refusal}

-- "0 or refusal × 2³² + detail"
abbrev pub answer_number : {T : Type 0} → Result T Refusal → ℕ
answer_number (Ok told) = 0
answer_number (Err r) = refused_number r

-- "three numbers ..: zeros where none is named"
abbrev pub answer_numbers : {T : Type 0} → (T → List ℕ) → Result T Refusal → List ℕ
answer_numbers told (Ok x) = told x
answer_numbers told (Err r) = 0 ∷ 0 ∷ 0 ∷ []
