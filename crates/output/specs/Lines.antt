-- What was put into a buffer. Definitions only.
use Rattle.std.specs.Prelude.{ℕ, ◌+◌, ◌≤◌, ◌≡◌, List, ◌++◌, length, take, drop}

-- bytes stand in the buffer from place at on, up to place end, and what stood before and after them is as it was
pub record Put (end : ℕ) (later : List ℕ) (at : ℕ) (buffer bytes : List ℕ) : Type 0 where
  pub place : end ≡ at + length bytes
  pub front : take end later ≡ take at buffer ++ bytes
  pub rest : drop end later ≡ drop end buffer

-- n counts bytes at the start of a buffer. The second part follows from the first: both are stated so that `&buffer[..n]` needs no proof.
abbrev pub Counts : ℕ → List ℕ → Type 0
Counts n buffer = (n ≤ length buffer) × (n ≡ length (take n buffer))
