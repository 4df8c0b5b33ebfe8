-- Two rows of sweeps that go side by side end alike.
use Prim.Native.Nat.{ℕ, zero, suc}
use mathlib.Core.Path.{◌≡◌, refl}
use mathlib.Core.Bool.{Bool, true, false}
use Rattle.model.specs.Sweep.{Once, swept, ends, Sweeps, settled, unsettled, ended, sweeping}

-- R k relates two states after k sweeps, and Q two endings
module _ {S E S' E' : Type 0} (R : ℕ → S → S' → Type 0) (Q : E → E' → Type 0) where
  -- what one sweep leads to, on both sides
  abbrev pub OnceAlike : ℕ → Once S E → Once S' E' → Type 0
  OnceAlike k (swept z) (swept w) = R k z w
  OnceAlike k (swept z) (ends e) = ⊥
  OnceAlike k (ends e) (swept w) = ⊥
  OnceAlike k (ends e) (ends f) = Q e f

  -- how sweeps end, on both sides
  abbrev pub SweepsAlike : Sweeps S E → Sweeps S' E' → Type 0
  SweepsAlike (settled z j) (settled w k) = (j ≡ k) × R k z w
  SweepsAlike (settled z j) (unsettled w) = ⊥
  SweepsAlike (settled z j) (ended e) = ⊥
  SweepsAlike (unsettled z) (settled w k) = ⊥
  SweepsAlike (unsettled z) (unsettled w) = (k : ℕ) × R k z w
  SweepsAlike (unsettled z) (ended e) = ⊥
  SweepsAlike (ended e) (settled w k) = ⊥
  SweepsAlike (ended e) (unsettled w) = ⊥
  SweepsAlike (ended e) (ended f) = Q e f

  module _ (once : S → Once S E) (once' : S' → Once S' E') (moves : S → S → Bool) (moves' : S' → S' → Bool)
      (step : (k : ℕ) (z : S) (w : S') → R k z w → OnceAlike (suc k) (once z) (once' w))
      (same : (k : ℕ) (z u : S) (w v : S') → R k z w → R (suc k) u v → moves z u ≡ moves' w v) where
    pub sweeping_alike : (d k : ℕ) (z : S) (w : S') → R k z w → SweepsAlike (sweeping once moves d k z) (sweeping once' moves' d k w)
    unfolding sweeping
    sweeping_alike zero k z w r = (k, r)
    sweeping_alike (suc d) k z w r = by (once z) refl (once' w) refl (step k z w r) (λ u v q. sweeping_alike d (suc k) u v q)
      where
        after : (u : S) (v : S') → R (suc k) u v → (b : Bool) → SweepsAlike (sweeping once moves d (suc k) u) (sweeping once' moves' d (suc k) v)
            → SweepsAlike (elim b [ true ↦ sweeping once moves d (suc k) u | false ↦ settled u (suc k) ])
            (elim b [ true ↦ sweeping once' moves' d (suc k) v | false ↦ settled v (suc k) ])
        after u v q true rest = rest
        after u v q false rest = (refl, q)

        by : (o : Once S E) → once z ≡ o → (o' : Once S' E') → once' w ≡ o' → OnceAlike (suc k) o o'
            → ((u : S) (v : S') → R (suc k) u v → SweepsAlike (sweeping once moves d (suc k) u) (sweeping once' moves' d (suc k) v))
            → SweepsAlike (sweeping once moves (suc d) k z) (sweeping once' moves' (suc d) k w)
        by (swept u) e (swept v) f q rest = rw (sweeping, e, sweeping, f, same k z u w v r q) (after u v q (moves' w v) (rest u v q))
        by (ends x) e (ends y) f q rest = rw (sweeping, e, sweeping, f) q
        by (swept u) e (ends y) f q rest = elim q [ ]
        by (ends x) e (swept v) f q rest = elim q [ ]
