-- Work numbers that are 0. Definitions only.
use Rattle.std.specs.Prelude.{ℕ, ◌+◌, ◌≤◌, ◌<◌, ◌≡◌, max, List, fold, length, get_or}

-- the first r work numbers from an index on are 0, and r is at most so many
abbrev pub Zeros : List ℕ → ℕ → ℕ → ℕ → Type 0
Zeros work from most r = (r ≤ most) × ((k : ℕ) → k < r → get_or work (from + k) 0 ≡ 0)

-- the first r of some numbers are 0
abbrev pub FirstZeros : List ℕ → ℕ → Type 0
FirstZeros numbers r = (r ≤ length numbers) × ((k : ℕ) → k < r → get_or numbers k 0 ≡ 0)

-- the largest of some numbers, 0 of none
abbrev pub largest : List ℕ → ℕ
largest numbers = fold (λ most number. max most number) 0 numbers
