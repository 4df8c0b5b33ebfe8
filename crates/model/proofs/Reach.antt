-- Held places by Warshall's recursion: (i, j) is held where it is reached through rooms below both.
use Prim.Native.Nat.{ℕ, zero, suc, ◌-◌, ◌<◌, min}
use native.Mathlib.Omega.{arith}
use mathlib.Core.Path.{◌≡◌, refl, sym, ap, ap₂, ◌∙◌}
use mathlib.Core.Bool.{Bool, true, false, ◌&&◌, ◌||◌, or-false}
use borrow.Author.Tests.{ltb-true, ltb-false}
use lib.Dec.{ltb}
use Rattle.model.specs.Lists.{some}
use Rattle.model.specs.Label.{label}
use Rattle.model.specs.Fill.{Plan, position, in_plan, held}
use Rattle.model.specs.Route.{middle}
use Rattle.model.proofs.Labels.{Inside}
use Rattle.model.proofs.Within.{range-within}
use Rattle.model.proofs.Search.{some_true, some-none}
use Rattle.model.proofs.Fill.{held_is}
use Rattle.model.proofs.Route.{Between, between}

or_assoc : (a b c : Bool) → ((a || b) || c) ≡ (a || (b || c))
or_assoc true b c = refl
or_assoc false b c = refl

module _ (N : ℕ) (L : Plan) where
  -- from i to j by places of the plan, through rooms up to k
  unfoldable pub reach : ℕ → ℕ → ℕ → Bool
  reach zero i j = ltb 0 (position L (label N i j))
  reach (suc k) i j = reach k i j || (reach k i (suc k) && reach k (suc k) j)

  abbrev planned : ℕ → ℕ → Bool
  planned i j = ltb 0 (position L (label N i j))

  abbrev pairs : ℕ → ℕ → ℕ → Bool
  pairs k i j = some (λ h. held N L i h && held N L h j) k

  abbrev paired : ℕ → ℕ → ℕ → Bool
  paired k i j = planned i j || pairs k i j

  held_paired : (k i j : ℕ) → min i j ≡ suc k → held N L i j ≡ paired k i j
  held_paired k i j e =
      let below : min i j - 1 ≡ k = omega arith in
      held_is N L i j ∙ ap (λ n. paired n i j) below

  pub reach_paired : (k i j : ℕ) → k < i → k < j → reach k i j ≡ paired k i j
  unfolding reach some
  reach_paired zero i j a b = sym (or-false _)
  reach_paired (suc k) i j a b =
      let left = held_paired k i (suc k) (omega arith) ∙ sym (reach_paired k i (suc k) (omega arith) (omega arith)) in
      let right = held_paired k (suc k) j (omega arith) ∙ sym (reach_paired k (suc k) j (omega arith) (omega arith)) in
      ap₂ ◌||◌ (reach_paired k i j (omega arith) (omega arith)) (sym (ap₂ ◌&&◌ left right))
      ∙ or_assoc (planned i j) (pairs k i j) (held N L i (suc k) && held N L (suc k) j)

  -- The headline.
  pub held_reach : (k i j : ℕ) → min i j ≡ suc k → held N L i j ≡ reach k i j
  held_reach k i j e = held_paired k i j e ∙ sym (reach_paired k i j (omega arith) (omega arith))

  -- ---- a place that is held: in the plan, or through the smallest h between

  inside-planned : (i j : ℕ) → Inside N i j → in_plan N L i j ≡ planned i j
  unfolding in_plan
  inside-planned i j p = rw (range-within i N p.row_low p.row-high, range-within j N p.column-low p.column-high)

  module _ (k i j : ℕ) (left : k < i) (right : k < j) (inside : Inside N i j) where
    pub reach_planned : in_plan N L i j ≡ true → reach k i j ≡ true
    reach_planned e = reach_paired k i j left right ∙ ap (λ b. b || pairs k i j) (sym (inside-planned i j inside) ∙ e)

    pub reach_between : in_plan N L i j ≡ false → held N L i j ≡ true → reach k i j ≡ ltb (middle N L i j) (suc k)
    reach_between out h =
        reach_paired k i j left right ∙ ap (λ b. b || pairs k i j) (sym (inside-planned i j inside) ∙ out) ∙ step (ltb (middle N L i j) (suc k)) refl
      where
        m : Between N L i j (middle N L i j)
        m = between N L i j inside out h

        step : (b : Bool) → ltb (middle N L i j) (suc k) ≡ b → pairs k i j ≡ b
        step true e = some_true _ k (middle N L i j) m.low (omega (arith, ltb-true (middle N L i j) (suc k) e)) (rw (m.first, m.second))
        step false e = some-none _ k (λ n low high. m.before n low (omega (arith, ltb-false (middle N L i j) (suc k) e)))
