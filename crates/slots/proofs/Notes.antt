-- What is noted of a line: the smaller of two numbers, kept or written.
use Prim.Native.Nat.{ℕ, ◌≤◌, ◌<◌, min}
use native.Mathlib.Decide.{ℕ_discrete}
use native.Mathlib.Omega.{arith}
use mathlib.Core.Path.{◌≡◌, refl}
use mathlib.Core.Bool.{Bool, true, false, cond}
use mathlib.Core.List.{List}
use mathlib.Core.Logic.{◌⊎◌, inl, inr, ⊎_elim}
use lib.ListN.{length, length-set, get_or, set}
use lib.Seq.{get_or-set_same, get_or-set_other}
use Rattle.slots.specs.Walked.{Noted}

-- the notes after place h of line k, if it is taken
module _ {l l' : List ℕ} {k h : ℕ} {taken : Bool} (n : Noted k h taken l l') where
  pub noted-length : length l' ≡ length l
  noted-length = rw n.noted (step taken)
    where
      step : (b : Bool) → length (cond b (set l k (min h (get_or l k 0))) l) ≡ length l
      step true = length-set l k (min h (get_or l k 0))
      step false = refl

  module _ (inside : k < length l) where
    -- a line's note stays, or is line k's new one
    note_of : (a : ℕ) → (get_or l' a 0 ≡ get_or l a 0) ⊎ ((a ≡ k) × (get_or l' a 0 ≡ min h (get_or l a 0)))
    note_of a = rw n.noted (step taken (ℕ_discrete a k))
      where
        step : (b : Bool) → Dec (a ≡ k) → (get_or (cond b (set l k (min h (get_or l k 0))) l) a 0 ≡ get_or l a 0)
            ⊎ ((a ≡ k) × (get_or (cond b (set l k (min h (get_or l k 0))) l) a 0 ≡ min h (get_or l a 0)))
        step true (yes e) = inr (e, rw e (get_or-set_same l k (min h (get_or l k 0)) 0 inside))
        step true (no d) = inl (get_or-set_other l k a (min h (get_or l k 0)) 0 d)
        step false d = inl refl

    pub noted-at_most : (a : ℕ) → get_or l' a 0 ≤ get_or l a 0
    noted-at_most a = ⊎_elim (λ e. omega arith) (λ e. omega (arith, e.1)) (note_of a)

    pub noted-low : 1 ≤ h → (a : ℕ) → 1 ≤ get_or l a 0 → 1 ≤ get_or l' a 0
    noted-low low a old = ⊎_elim (λ e. omega arith) (λ e. omega (arith, e.1)) (note_of a)

    pub noted_here : taken ≡ true → get_or l' k 0 ≤ h
    noted_here t = rw (n.noted, t, get_or-set_same l k (min h (get_or l k 0)) 0 inside) (omega arith)
