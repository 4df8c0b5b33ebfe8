-- Bytes put into a buffer one after another.
use Prim.Native.Nat.{ℕ, ◌+◌, ◌≤◌, ◌<◌, ◌^◌}
use native.Mathlib.Omega.{arith}
use mathlib.Core.Path.{◌≡◌}
use mathlib.Core.List.{List, [], ◌∷◌, ◌++◌, append_assoc}
use lib.ListN.{length, drop, set, length-append}
use Rattle.std.proofs.lemmas.Grind.{common_steps}
use Rattle.model.specs.Text.{decimal, entry}
use Rattle.model.proofs.Lists.{drop-later}
use Rattle.output.specs.Lines.{Put, Counts}
use Rattle.output.proofs.Digits.{decimal-short, decimal-long}

-- nothing is put yet
pub put-none : (at : ℕ) (buffer : List ℕ) → Put at buffer at buffer []
put-none at buffer = grind (arith, common_steps)

-- one byte more is put at the end
pub put_byte : {end at : ℕ} {later buffer bytes : List ℕ} (v : ℕ) → Put end later at buffer bytes → end < length later
    → Put (end + 1) (set later end v) at buffer (bytes ++ (v ∷ []))
put_byte v p h = grind (arith, common_steps, append_assoc {A = ℕ}, drop-later)

-- more is put after what was put
pub put_more : {end end' at : ℕ} {latest later buffer bytes more : List ℕ} → Put end later at buffer bytes → Put end' latest end later more
    → Put end' latest at buffer (bytes ++ more)
put_more p q = grind (arith, common_steps, append_assoc {A = ℕ}, drop-later)

-- a number of at most 32 or 64 bits, and the byte after it
pub entry_few : (n after : ℕ) → n < 2 ^ 32 → length (entry n after) ≤ 11
unfolding entry
entry_few n after h = omega (arith, length-append (decimal n) (after ∷ []), decimal-short n h)

pub entry-some : (n after : ℕ) → n < 2 ^ 64 → length (entry n after) ≤ 21
unfolding entry
entry-some n after h = omega (arith, length-append (decimal n) (after ∷ []), decimal-long n h)

-- a whole line: its length, the buffer, and that it counts bytes of it
pub put-line : {end : ℕ} {later buffer line : List ℕ} → Put end later 0 buffer line → end ≤ length later
    → (end ≡ length line) × (later ≡ line ++ drop end buffer) × Counts end later
put-line p inside = grind (arith, common_steps)
