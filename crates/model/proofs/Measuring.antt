-- What a call for the residuals answers, and what it leaves in the words, by the first check that refuses: document 02, A.4.
use Prim.Native.Nat.{ℕ, ◌*◌}
use mathlib.Core.Path.{◌≡◌, refl}
use mathlib.Core.Bool.{Bool, true, false, ◌&&◌}
use mathlib.Core.List.{List}
use borrow.Author.Tests.{eqb-true, eq-eqb, ne_eqb}
use lib.Dec.{eqb}
use lib.ListN.{length}
use lib.Ieee.{Float}
use Rattle.model.specs.Lists.{rising, joined}
use Rattle.model.specs.Fill.{Plan}
use Rattle.model.specs.Compile.{Labels, good, bad, orderly}
use Rattle.model.specs.Check.{Verdict, fine, refusal}
use Rattle.model.specs.Run.{not_finite}
use Rattle.model.specs.Residual.{residual, stored, measuring, measured}
use Rattle.model.proofs.Passing.{refused-fine}

-- the lengths are the plan's
abbrev pub fitting : ℕ → Plan → List Float → List Float → List Float → Bool
fitting N L A B X = eqb (length A) (length L) && (eqb (length B) N && eqb (length X) N)

module _ (N : ℕ) (L : Plan) (A B X : List Float) (words : ℕ) where
  -- 1, 3 and 4
  pub measuring-early : (r d : ℕ) → orderly 0 N L 0 ≡ bad r d → measuring N L A B X words ≡ refusal r d
  unfolding measuring
  measuring-early r d e = rw (measuring, e)

  module _ (orders : orderly 0 N L 0 ≡ good) where
    -- 14
    pub measuring_lengths : fitting N L A B X ≡ false → measuring N L A B X words ≡ refusal 14 0
    unfolding measuring
    measuring_lengths e = rw (measuring, orders, e)

    module _ (fits : fitting N L A B X ≡ true) where
      -- 15, in A, in B and in X
      pub measuring_a : (not_finite 1 A ≡ 0 → ⊥) → measuring N L A B X words ≡ refusal 15 (not_finite 1 A)
      unfolding measuring
      measuring_a a = rw (measuring, orders, fits, ne_eqb (not_finite 1 A) 0 a)

      module _ (in_a : not_finite 1 A ≡ 0) where
        pub measuring_b : (not_finite 1 B ≡ 0 → ⊥) → measuring N L A B X words ≡ refusal 15 (not_finite 1 B)
        unfolding measuring
        measuring_b b = rw (measuring, orders, fits, eq-eqb (not_finite 1 A) 0 in_a, ne_eqb (not_finite 1 B) 0 b)

        module _ (in_b : not_finite 1 B ≡ 0) where
          pub measuring-x : (not_finite 1 X ≡ 0 → ⊥) → measuring N L A B X words ≡ refusal 15 (not_finite 1 X)
          unfolding measuring
          measuring-x x = rw (measuring, orders, fits, eq-eqb (not_finite 1 A) 0 in_a, eq-eqb (not_finite 1 B) 0 in_b, ne_eqb (not_finite 1 X) 0 x)

          module _ (in_x : not_finite 1 X ≡ 0) where
            last : {b : Bool} → eqb words (66 * N) ≡ b → measuring N L A B X words ≡ elim b as (λ b. Verdict) [ false ↦ refusal 24 0 | true ↦ fine ]
            unfolding measuring
            last e = rw (measuring, orders, fits, eq-eqb (not_finite 1 A) 0 in_a, eq-eqb (not_finite 1 B) 0 in_b, eq-eqb (not_finite 1 X) 0 in_x, e)

            -- 24
            pub measuring-words : (words ≡ 66 * N → ⊥) → measuring N L A B X words ≡ refusal 24 0
            measuring-words other = last (ne_eqb words (66 * N) other)

            pub measuring-fine : words ≡ 66 * N → measuring N L A B X words ≡ fine
            measuring-fine same = last (eq-eqb words (66 * N) same)

-- what passed, where nothing is refused
pub record Measurable (N : ℕ) (L : Plan) (A B X : List Float) (words : ℕ) : Type 0 where
  pub orders : orderly 0 N L 0 ≡ good
  pub fits : fitting N L A B X ≡ true
  pub in_a : not_finite 1 A ≡ 0
  pub in_b : not_finite 1 B ≡ 0
  pub in_x : not_finite 1 X ≡ 0
  pub long : words ≡ 66 * N

pub measurable : (N : ℕ) (L : Plan) (A B X : List Float) (words : ℕ) → measuring N L A B X words ≡ fine → Measurable N L A B X words
unfolding measuring
measurable N L A B X words =
    go (orderly 0 N L 0) (fitting N L A B X) (eqb (not_finite 1 A) 0) (eqb (not_finite 1 B) 0) (eqb (not_finite 1 X) 0) (eqb words (66 * N)) refl refl refl refl refl refl
  where
    go : (o : Labels) (f a b x w : Bool) → orderly 0 N L 0 ≡ o → fitting N L A B X ≡ f → eqb (not_finite 1 A) 0 ≡ a → eqb (not_finite 1 B) 0 ≡ b
        → eqb (not_finite 1 X) 0 ≡ x → eqb words (66 * N) ≡ w
        → elim o as (λ o. Verdict) [
          | bad r d ↦ refusal r d
          | good ↦ elim f as (λ b. Verdict) [
            | false ↦ refusal 14 0
            | true ↦ elim a as (λ b. Verdict) [
              | false ↦ refusal 15 (not_finite 1 A)
              | true ↦ elim b as (λ b. Verdict) [
                | false ↦ refusal 15 (not_finite 1 B)
                | true ↦ elim x as (λ b. Verdict) [ false ↦ refusal 15 (not_finite 1 X) | true ↦ elim w as (λ b. Verdict) [ false ↦ refusal 24 0 | true ↦ fine ] ]
              ]
            ]
          ]
        ] ≡ fine
        → Measurable N L A B X words
    go good true true true true true o f a b x w e = record {
      orders = o;
      fits = f;
      in_a = eqb-true (not_finite 1 A) 0 a;
      in_b = eqb-true (not_finite 1 B) 0 b;
      in_x = eqb-true (not_finite 1 X) 0 x;
      long = eqb-true words (66 * N) w;
    }
    go (bad r d) f a b x w o f' a' b' x' w' e = absurd (refused-fine _ _ e)
    go good false a b x w o f' a' b' x' w' e = absurd (refused-fine _ _ e)
    go good true false b x w o f' a' b' x' w' e = absurd (refused-fine _ _ e)
    go good true true false x w o f' a' b' x' w' e = absurd (refused-fine _ _ e)
    go good true true true false w o f' a' b' x' w' e = absurd (refused-fine _ _ e)
    go good true true true true false o f' a' b' x' w' e = absurd (refused-fine _ _ e)

module _ (N : ℕ) (L : Plan) (A B X : List Float) (words : List ℕ) where
  pub measured-refused : (r d : ℕ) → measuring N L A B X (length words) ≡ refusal r d → measured N L A B X words ≡ words
  unfolding measured
  measured-refused r d e = rw (measured, e)

  pub measured-fine : measuring N L A B X (length words) ≡ fine → measured N L A B X words ≡ joined (rising (λ r. stored (residual N L A B X r)) 1 N)
  unfolding measured
  measured-fine e = rw (measured, e)
