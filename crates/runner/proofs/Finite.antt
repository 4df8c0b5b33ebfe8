-- The first value that is not finite, as the library's search for a position finds it, and 15 by it.
use Prim.Native.Nat.{ℕ, zero, suc, ◌+◌}
use native.Mathlib.Numerals.{add-one}
use native.Mathlib.Omega.{arith}
use mathlib.Core.Path.{◌≡◌, refl, ap, ◌∙◌}
use mathlib.Core.Bool.{Bool, true, false, not, cond}
use mathlib.Core.List.{List, [], ◌∷◌}
use Rattle.std.specs.Prelude.{Option, None, Some, position}
use Rattle.std.specs.List.{position_from}
use Rattle.std.proofs.lemmas.Iterator.Adapters.{position_from-zero}
use lib.Ieee.{Float}
use Rattle.model.specs.Arith.{is_finite}
use Rattle.model.specs.Check.{Verdict, fine, refusal}
use Rattle.model.specs.Run.{not_finite}
use Rattle.runner.specs.Outcome.{fifteen}

-- a place counted from 0 as a position counted from 1, 0 for none
abbrev pub from_one : Option ℕ → ℕ
from_one None = 0
from_one (Some k) = k + 1

counted_from : (i : ℕ) (vs : List Float) → from_one (position_from (λ v. not (is_finite v)) i vs) ≡ not_finite (suc i) vs
unfolding not_finite
counted_from i [] = refl
counted_from i (v ∷ vs) = by (is_finite v) (counted_from (i + 1) vs)
  where
    by : (b : Bool) → from_one (position_from (λ v. not (is_finite v)) (i + 1) vs) ≡ not_finite (suc (i + 1)) vs
        → from_one (cond (not b) (Some i) (position_from (λ v. not (is_finite v)) (i + 1) vs)) ≡ cond b (not_finite (suc (suc i)) vs) (suc i)
    by true h = h ∙ rw add-one
    by false h = add-one i

pub counted : (vs : List Float) → from_one (position (λ v. not (is_finite v)) vs) ≡ not_finite 1 vs
counted vs = ap from_one (position_from-zero (λ v. not (is_finite v)) vs) ∙ counted_from 0 vs

-- 15 at a position counted from 0
abbrev pub at_position : Option ℕ → Verdict
at_position None = fine
at_position (Some k) = refusal 15 (k + 1)

at_counted : (o : Option ℕ) → at_position o ≡ fifteen (from_one o)
at_counted None = refl
at_counted (Some k) = rw add-one

found_from : (i : ℕ) (vs : List Float) → at_position (position_from (λ v. not (is_finite v)) i vs) ≡ fifteen (not_finite (suc i) vs)
found_from i vs = at_counted (position_from (λ v. not (is_finite v)) i vs) ∙ ap fifteen (counted_from i vs)

pub found : (vs : List Float) → at_position (position (λ v. not (is_finite v)) vs) ≡ fifteen (not_finite 1 vs)
found vs = ap at_position (position_from-zero (λ v. not (is_finite v)) vs) ∙ found_from 0 vs

-- where 15 lets values through, and where it refuses them
pub passes_15 : (n : ℕ) → fine ≡ fifteen n → n ≡ 0
passes_15 zero e = refl
passes_15 (suc n) e = absurd (cc)

pub refuses_15 : (n r d : ℕ) → refusal r d ≡ fifteen n → (n ≡ 0 → ⊥) × (refusal r d ≡ refusal 15 n)
refuses_15 zero r d e = absurd (cc)
refuses_15 (suc n) r d e = (λ none. omega arith, e)
