-- Rows of words from which products are taken. Definitions only.
use Rattle.std.specs.Prelude.{ℕ, ◌-◌, ◌^◌, ◌<◌, ◌≡◌, true, List, length, get_or, ℤ, pos, ◌-ℤ◌, ◌*ℤ◌, Float}
use Rattle.std.specs.Float.{nan}
use Rattle.model.specs.Arith.{is_finite, plus_zero}
use Rattle.model.specs.Residual.{exact}
use Rattle.model.proofs.Rows.{Held, HeldRows, less_one}

-- all are finite
abbrev pub Finite : List Float → Type 0
Finite vs = (k : ℕ) → k < length vs → is_finite (get_or vs k nan) ≡ true

-- where row r starts
abbrev pub start_of : List Float → ℕ → ℤ
start_of B r = exact (get_or B (r - 1) plus_zero) *ℤ pos (2 ^ 1074)

-- a row has lost a times x
abbrev pub LessProduct : Float → Float → List ℕ → List ℕ → Type 0
LessProduct a x row row' = (z : ℤ) → Held row z → Held row' (z -ℤ exact a *ℤ exact x)

-- the rows have lost what a label with coefficient a takes
abbrev pub LessLabel : ℕ → List Float → ℕ → Float → List ℕ → List ℕ → Type 0
LessLabel N X k a words words' = (z : ℕ → ℤ) → HeldRows N z words → HeldRows N (λ r. less_one N X r (z r) k a) words'
