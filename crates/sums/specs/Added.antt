-- A row of 64-bit words as one number, changed by another. Definitions only.
use Rattle.std.specs.Prelude.{◌≡◌, ℕ, ◌+◌, ◌*◌, ◌^◌, Bool, true, false, List, length}
use Rattle.model.specs.Residual.{joined64}

-- the words of before, n more, are those of after, but for what runs over their end
pub record Added (before : List ℕ) (n : ℕ) (after : List ℕ) : Type 0 where
  pub over : ℕ
  pub size : length after ≡ length before
  pub sum : joined64 after + over * 2 ^ (64 * length before) ≡ joined64 before + n

-- n more or, minus, n less: then before is n more than after
abbrev pub Changed : Bool → List ℕ → ℕ → List ℕ → Type 0
Changed false before n after = Added before n after
Changed true before n after = Added after n before

-- a number n more, with carry still to come, or, minus, n less, with carry still to go
abbrev pub Carrying : Bool → ℕ → ℕ → ℕ → ℕ → Type 0
Carrying false before n after carry = after + carry ≡ before + n
Carrying true before n after carry = before + carry ≡ after + n

-- a number of three words, the lowest of them at an index of a row
abbrev pub three_at : ℕ → ℕ → ℕ → ℕ → ℕ
three_at at low middle high = low * 2 ^ (64 * at) + middle * 2 ^ (64 * (at + 1)) + high * 2 ^ (64 * (at + 2))
