-- The right sides that go on, by the numbers out: whether there is one, and that the first number, which is no side's, does not matter.
use Prim.Native.Nat.{ℕ, zero, suc, ◌+◌, ◌*◌, ◌<◌}
use native.Mathlib.Omega.{arith}
use mathlib.Core.Path.{◌≡◌, refl, sym, ap, ap₂, ◌∙◌}
use mathlib.Core.Bool.{Bool, true, false, ◌||◌, false≢true}
use mathlib.Core.List.{List}
use lib.Dec.{eqb}
use lib.ListN.{get_or, set}
use lib.Seq.{get_or-set_other}
use lib.Ieee.{Float}
use borrow.Author.Tests.{eqb-true}
use Rattle.sides.specs.Cells.{cell_of, any_going}
use Rattle.sides.proofs.Cells.{any_found}

-- one of them goes on
pub some_goes : (count : ℕ) (out : List ℕ) → any_going count out ≡ true → (r : ℕ) × (r < count) × (get_or out (4 * r + 1) 0 ≡ 0)
unfolding any_going
some_goes zero out e = absurd (false≢true e)
some_goes (suc n) out e = go (any_going n out) (eqb (get_or out (4 * n + 1) 0) 0) refl refl e (some_goes n out)
  where
    go : (below here : Bool) → any_going n out ≡ below → eqb (get_or out (4 * n + 1) 0) 0 ≡ here → below || here ≡ true
        → (any_going n out ≡ true → (r : ℕ) × (r < n) × (get_or out (4 * r + 1) 0 ≡ 0)) → (r : ℕ) × (r < suc n) × (get_or out (4 * r + 1) 0 ≡ 0)
    go true here e h t rest = let (r, low, is) = rest e in (r, omega arith, is)
    go false true e h t rest = (n, omega arith, eqb-true (get_or out (4 * n + 1) 0) 0 h)
    go false false e h t rest = absurd (false≢true t)

-- or none does
pub none_goes : (count : ℕ) (out : List ℕ) → any_going count out ≡ false → (r : ℕ) → r < count → get_or out (4 * r + 1) 0 ≡ 0 → ⊥
none_goes count out e r h is = false≢true (sym e ∙ any_found count r out h is)

-- the first number set
module _ (out : List ℕ) (v : ℕ) where
  pub going-first : (count : ℕ) → any_going count (set out 0 v) ≡ any_going count out
  unfolding any_going
  going-first zero = refl
  going-first (suc n) = ap₂ ◌||◌ (going-first n) (ap (λ k. eqb k 0) (get_or-set_other out 0 (4 * n + 1) v 0 (λ e. omega arith)))

  pub cell_first : (running : List Float) (r : ℕ) → cell_of running (set out 0 v) r ≡ cell_of running out r
  cell_first running r =
      rw (
        get_or-set_other out 0 (4 * r + 1) v 0 (λ e. omega arith),
        get_or-set_other out 0 (4 * r + 2) v 0 (λ e. omega arith),
        get_or-set_other out 0 (4 * r + 3) v 0 (λ e. omega arith),
        get_or-set_other out 0 (4 * r + 4) v 0 (λ e. omega arith),
      )
