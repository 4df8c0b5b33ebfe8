-- How many slots are free at most while a plan's places are given theirs: a place of row m frees its slot once, in its own batch.
use Prim.Native.Nat.{ℕ, zero, suc, ◌+◌, ◌-◌, ◌*◌, ◌≤◌, max}
use native.Mathlib.Omega.{arith}
use native.Mathlib.Decide.{dec_le}
use mathlib.Core.Path.{◌≡◌, refl, sym, ap, ◌∙◌}
use mathlib.Core.Bool.{Bool, true, false, cond, ◌&&◌}
use mathlib.Core.List.{List, ◌∷◌}
use lib.Dec.{eqb, leb}
use lib.ListN.{length}
use borrow.Author.Tests.{eq-eqb, ne_eqb, le-leb, lt-leb}
use Rattle.model.specs.Lists.{rising, total}
use Rattle.model.specs.Fill.{Plan, held}
use Rattle.model.proofs.Sums.{rising-same, rising_both, rising-at_most, at_most_one}
use Rattle.model.proofs.Lives.{last_right}
use Rattle.model.proofs.Assign.{freed_row, dies_at, room_in, row_freed}

-- as many more as are used last
freed-length : (room : ℕ → ℕ) (dies : ℕ → Bool) (a d : ℕ) (free : List ℕ)
    → length (freed_row room dies a d free) ≡ length free + total (rising (λ h. cond (dies h) 1 0) a d)
unfolding freed_row rising total
freed-length room dies a zero free = omega arith
freed-length room dies a (suc d) free = freed-length room dies (suc a) d (cond (dies a) (room a ∷ free) free) ∙ step (dies a)
  where
    step : (b : Bool) → let rest = total (rising (λ h. cond (dies h) 1 0) (suc a) d) in
        length (cond b (room a ∷ free) free) + rest ≡ length free + (cond b 1 0 + rest)
    step true = omega arith
    step false = omega arith

module _ (N : ℕ) (L : Plan) where
  -- the places of row m left of the diagonal that are used no more after column t, or after y(m) for t = m
  abbrev pub dead_by : ℕ → ℕ → ℕ
  dead_by m t = total (rising (λ h. cond (held N L m h && leb (max m (last_right N L h)) t) 1 0) 1 (m - 1))

  abbrev dying_at : ℕ → ℕ → ℕ
  dying_at m t = total (rising (λ h. cond (dies_at N L m t h) 1 0) 1 (m - 1))

  dead_first : (m : ℕ) → dying_at m m ≡ dead_by m m
  dead_first m = rising-same _ _ 1 (m - 1) (λ h low high. ap (λ b. cond (held N L m h && b) 1 0) (same (last_right N L h)))
    where
      same : (j : ℕ) → eqb (max m j) m ≡ leb (max m j) m
      same j = elim (dec_le j m) [
        | yes e ↦ eq-eqb (max m j) m (omega arith) ∙ sym (le-leb (max m j) m (omega arith))
        | no e ↦ ne_eqb (max m j) m (λ z. omega arith) ∙ sym (lt-leb (max m j) m (omega arith))
      ]

  dead_next : (m t : ℕ) → dead_by m t + dying_at m (suc t) ≡ dead_by m (suc t)
  dead_next m t =
      sym (rising_both (λ h. cond (held N L m h && leb (max m (last_right N L h)) t) 1 0) (λ h. cond (dies_at N L m (suc t) h) 1 0) 1 (m - 1))
      ∙ rising-same _ _ 1 (m - 1) (λ h low high. both (held N L m h) (max m (last_right N L h)))
    where
      both : (b : Bool) (j : ℕ) → cond (b && leb j t) 1 0 + cond (b && eqb j (suc t)) 1 0 ≡ cond (b && leb j (suc t)) 1 0
      both false j = refl
      both true j = elim (dec_le j t) [
        | yes e ↦ rw (le-leb j t e, ne_eqb j (suc t) (λ z. omega arith), le-leb j (suc t) (omega arith))
        | no e ↦ elim (dec_le j (suc t)) [
          | yes f ↦ rw (lt-leb j t (omega arith), eq-eqb j (suc t) (omega arith), le-leb j (suc t) f)
          | no f ↦ rw (lt-leb j t (omega arith), ne_eqb j (suc t) (λ z. omega arith), lt-leb j (suc t) (omega arith))
        ]
      ]

  dead_most : (m t : ℕ) → dead_by m t ≤ m - 1
  dead_most m t = omega (arith, rising-at_most _ 1 1 (m - 1) (λ h low high. at_most_one (held N L m h && leb (max m (last_right N L h)) t)))

  -- In row m, after column t: those of the rows before, and those of this row that are used no more.
  abbrev pub Few : ℕ → ℕ → List ℕ → Type 0
  Few m t stack = length stack ≤ (m - 1) * N + dead_by m t

  pub few_starts : (m : ℕ) (given free : List ℕ) → length free ≤ (m - 1) * N → Few m m (row_freed N L given m m free)
  few_starts m given free h = omega (arith, freed-length (room_in N L given m) (dies_at N L m m) 1 (m - 1) free, dead_first m)

  pub few_frees : (m t : ℕ) (given free : List ℕ) → Few m t free → Few m (suc t) (row_freed N L given m (suc t) free)
  few_frees m t given free h = omega (arith, freed-length (room_in N L given m) (dies_at N L m (suc t)) 1 (m - 1) free, dead_next m t)

  pub few_passes : (m t : ℕ) (stack : List ℕ) → Few m t stack → Few m (suc t) stack
  few_passes m t stack h = omega (arith, dead_next m t)

  pub few-ends : (m t : ℕ) (stack : List ℕ) → Few m t stack → length stack ≤ (m - 1) * N + (m - 1)
  few-ends m t stack h = omega (arith, dead_most m t)
