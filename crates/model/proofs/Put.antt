-- A row of values with one entry put: in the place of what stands there, or after the last.
use Prim.Native.Nat.{ℕ, zero, suc, ◌≤◌, max}
use native.Mathlib.Omega.{arith}
use mathlib.Core.Path.{◌≡◌, refl, ap}
use mathlib.Core.List.{List, [], ◌∷◌, ◌++◌}
use lib.ListN.{length, get_or}
use lib.Ieee.{Float}
use Rattle.model.specs.Formula.{put}

-- an entry put one past the last is appended
pub put-end : (vs : List Float) (k : ℕ) (v : Float) → k ≡ length vs → put vs k v ≡ vs ++ (v ∷ [])
unfolding put
put-end [] k v e = refl
put-end (w ∷ vs) zero v e = absurd (omega arith)
put-end (w ∷ vs) (suc k) v e = ap (λ r. w ∷ r) (put-end vs k v (omega arith))

-- else it takes its place there, and no other moves
pub put-length : (ws : List Float) (k : ℕ) (v : Float) → k ≤ length ws → length (put ws k v) ≡ max (length ws) (suc k)
unfolding put
put-length [] k v h = omega arith
put-length (w ∷ ws) zero v h = omega arith
put-length (w ∷ ws) (suc k) v h = omega (arith, put-length ws k v (omega arith))

pub put_same : (ws : List Float) (k : ℕ) (v d : Float) → k ≤ length ws → get_or (put ws k v) k d ≡ v
unfolding put
put_same [] zero v d h = refl
put_same [] (suc k) v d h = absurd (omega arith)
put_same (w ∷ ws) zero v d h = refl
put_same (w ∷ ws) (suc k) v d h = put_same ws k v d (omega arith)

pub put_other : (ws : List Float) (k i : ℕ) (v d : Float) → k ≤ length ws → (i ≡ k → ⊥) → get_or (put ws k v) i d ≡ get_or ws i d
unfolding put
put_other [] zero zero v d h n = absurd (n refl)
put_other [] zero (suc i) v d h n = refl
put_other [] (suc k) i v d h n = absurd (omega arith)
put_other (w ∷ ws) zero zero v d h n = absurd (n refl)
put_other (w ∷ ws) zero (suc i) v d h n = refl
put_other (w ∷ ws) (suc k) zero v d h n = refl
put_other (w ∷ ws) (suc k) (suc i) v d h n = put_other ws k i v d (omega arith) (λ e. n (ap suc e))
