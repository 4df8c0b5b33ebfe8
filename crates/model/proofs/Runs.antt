-- A run by its checks: where 7 to 15 and 21 refuse nothing, it is what its records give.
use Prim.Native.Nat.{ℕ}
use mathlib.Core.Path.{◌≡◌, refl, ap, ap₂, ◌∙◌}
use mathlib.Core.Bool.{Bool, true, false, ◌&&◌, and-eq-true_iff}
use mathlib.Core.List.{List}
use borrow.Author.Tests.{eq-eqb, ne_eqb, eqb-true, eqb-false}
use lib.Dec.{eqb}
use lib.ListN.{length}
use lib.Ieee.{Float}
use Rattle.model.specs.Check.{Verdict, fine, refusal, is_sweep, length_y, check, chain, word}
use Rattle.model.specs.Arith.{is_limit}
use Rattle.model.specs.Run.{Outcome, refused_by, not_finite, check_values, fresh, follow, followed, swept_over, ran}
use Rattle.model.proofs.Passing.{refused-fine}

-- ---- 14, and then 15 and 21, whatever they lead to

module _ {S : Type 0} (lengths : S) (value : ℕ → ℕ → S) where
  -- by 14's test, and by the verdict of 15 and 21
  unfoldable pub gated : Bool → Verdict → S → S
  gated right v done = elim right [ false ↦ lengths | true ↦ elim v [ refusal r d ↦ value r d | fine ↦ done ] ]

  -- what comes after the checks counts only where they refuse nothing
  pub gated_same : (right : Bool) (v : Verdict) (done done' : S) → (right ≡ true → v ≡ fine → done ≡ done') → gated right v done ≡ gated right v done'
  unfolding gated
  gated_same false v done done' same = refl
  gated_same true (refusal r d) done done' same = refl
  gated_same true fine done done' same = same refl refl

  -- what holds of each case holds
  pub gated_each : (P : S → Type 0) (right : Bool) (v : Verdict) (done : S) → P lengths → ((r d : ℕ) → v ≡ refusal r d → P (value r d)) → P done
      → P (gated right v done)
  unfolding gated
  gated_each P false v done l w d = l
  gated_each P true (refusal r k) done l w d = w r k refl
  gated_each P true fine done l w d = d

  -- and where they refuse nothing, it is all
  pub gated_open : (right : Bool) (v : Verdict) (done : S) → right ≡ true → v ≡ fine → gated right v done ≡ done
  unfolding gated
  gated_open right v done r e = rw (r, e)

pub gated_map : {S T : Type 0} (f : S → T) (lengths : S) (value : ℕ → ℕ → S) (right : Bool) (v : Verdict) (done : S)
    → f (gated lengths value right v done) ≡ gated (f lengths) (λ r d. f (value r d)) right v (f done)
unfolding gated
gated_map f lengths value false v done = refl
gated_map f lengths value true (refusal r d) done = refl
gated_map f lengths value true fine done = refl

-- ---- 15 and 21

-- finite values and a limit
pub record Finite (A B : List Float) (limit : Float) : Type 0 where
  pub finite_a : not_finite 1 A ≡ 0
  pub finite_b : not_finite 1 B ≡ 0
  pub limited : is_limit limit ≡ true

module _ (A B : List Float) (limit : Float) where
  -- what holds in each case of 15 and 21 holds
  pub values_each : (P : Verdict → Type 0) → ((not_finite 1 A ≡ 0 → ⊥) → P (refusal 15 (not_finite 1 A)))
      → (not_finite 1 A ≡ 0 → (not_finite 1 B ≡ 0 → ⊥) → P (refusal 15 (not_finite 1 B)))
      → (not_finite 1 A ≡ 0 → not_finite 1 B ≡ 0 → is_limit limit ≡ false → P (refusal 21 0)) → (Finite A B limit → P fine) → P (check_values A B limit)
  unfolding check_values
  values_each P a b l none = go (eqb (not_finite 1 A) 0) (eqb (not_finite 1 B) 0) (is_limit limit) refl refl refl
    where
      go : (p q r : Bool) → eqb (not_finite 1 A) 0 ≡ p → eqb (not_finite 1 B) 0 ≡ q → is_limit limit ≡ r
          → P (elim p as (λ p. Verdict) [
            | false ↦ refusal 15 (not_finite 1 A)
            | true ↦ elim q as (λ q. Verdict) [ false ↦ refusal 15 (not_finite 1 B) | true ↦ elim r as (λ r. Verdict) [ false ↦ refusal 21 0 | true ↦ fine ] ]
          ])
      go false q r e f g = a (eqb-false _ 0 e)
      go true false r e f g = b (eqb-true _ 0 e) (eqb-false _ 0 f)
      go true true false e f g = l (eqb-true _ 0 e) (eqb-true _ 0 f) g
      go true true true e f g = none (record { finite_a = eqb-true _ 0 e; finite_b = eqb-true _ 0 f; limited = g })

  -- each case by itself; finite values and a limit pass, and what passes is that
  pub values_in_a : (not_finite 1 A ≡ 0 → ⊥) → check_values A B limit ≡ refusal 15 (not_finite 1 A)
  unfolding check_values
  values_in_a a = rw (check_values, ne_eqb (not_finite 1 A) 0 a)

  pub values_in_b : not_finite 1 A ≡ 0 → (not_finite 1 B ≡ 0 → ⊥) → check_values A B limit ≡ refusal 15 (not_finite 1 B)
  unfolding check_values
  values_in_b a b = rw (check_values, eq-eqb (not_finite 1 A) 0 a, ne_eqb (not_finite 1 B) 0 b)

  pub values_limit : not_finite 1 A ≡ 0 → not_finite 1 B ≡ 0 → is_limit limit ≡ false → check_values A B limit ≡ refusal 21 0
  unfolding check_values
  values_limit a b l = rw (check_values, eq-eqb (not_finite 1 A) 0 a, eq-eqb (not_finite 1 B) 0 b, l)

  pub finite_fine : Finite A B limit → check_values A B limit ≡ fine
  unfolding check_values
  finite_fine f = rw (check_values, eq-eqb (not_finite 1 A) 0 f.finite_a, eq-eqb (not_finite 1 B) 0 f.finite_b, f.limited)

  pub fine_finite : check_values A B limit ≡ fine → Finite A B limit
  fine_finite =
      values_each (λ v. v ≡ fine → Finite A B limit) (λ a e. absurd (refused-fine _ _ e)) (λ a b e. absurd (refused-fine _ _ e))
      (λ a b l e. absurd (refused-fine _ _ e)) (λ f e. f)

-- ---- the run

-- 14's test, for the lengths of A, B, C, Y and X
unfoldable pub lengths_right : ℕ → ℕ → ℕ → ℕ → ℕ → ℕ → ℕ → ℕ → Bool
lengths_right N n s a b c y x = eqb a n && (eqb b N && (eqb c s && (eqb y (length_y N s) && eqb x N)))

pub lengths-right : (N n s a b c y x : ℕ) → a ≡ n → b ≡ N → c ≡ s → y ≡ length_y N s → x ≡ N → lengths_right N n s a b c y x ≡ true
unfolding lengths_right
lengths-right N n s a b c y x ea eb ec ey ex =
    ap₂ ◌&&◌ (eq-eqb a n ea) (ap₂ ◌&&◌ (eq-eqb b N eb) (ap₂ ◌&&◌ (eq-eqb c s ec) (ap₂ ◌&&◌ (eq-eqb y (length_y N s) ey) (eq-eqb x N ex))))

pub right_lengths : (N n s a b c y x : ℕ) → lengths_right N n s a b c y x ≡ true → (a ≡ n) × (b ≡ N)
unfolding lengths_right
right_lengths N n s a b c y x e =
    let first = (and-eq-true_iff (eqb a n) _).0 e in
    (eqb-true a n first.0, eqb-true b N ((and-eq-true_iff (eqb b N) _).0 first.1).0)

-- what the records give, by the method
unfoldable pub done_by : List ℕ → List Float → List Float → Float → Bool → Outcome
done_by W A B limit sweep = elim sweep [
  | true ↦ swept_over A B limit (word W 0) (chain W).links
  | false ↦ followed (follow A B limit (fresh (word W 0)) (chain W).links)
]

module _ (W : List ℕ) (A B : List Float) (limit : Float) (c y x : ℕ) where
  -- a run by the verdict of 7 to 13, and then by 14, 15 and 21
  unfoldable pub ran_by : Verdict → Outcome
  ran_by v = elim v [
    | refusal r d ↦ refused_by r d
    | fine ↦ gated (refused_by 14 0) refused_by (lengths_right (word W 0) (word W 1) (word W 2) (length A) (length B) c y x) (check_values A B limit)
        (done_by W A B limit (is_sweep (word W 2)))
  ]

  pub ran_is : ran W A B limit c y x ≡ ran_by (check W)
  unfolding ran ran_by gated lengths_right done_by
  ran_is = refl

  pub ran-fine : check W ≡ fine → ran W A B limit c y x
      ≡ gated (refused_by 14 0) refused_by (lengths_right (word W 0) (word W 1) (word W 2) (length A) (length B) c y x) (check_values A B limit)
      (done_by W A B limit (is_sweep (word W 2)))
  unfolding ran_by
  ran-fine e = ran_is ∙ ap ran_by e

  -- and where nothing is refused, what the records give
  pub runs_open : check W ≡ fine → lengths_right (word W 0) (word W 1) (word W 2) (length A) (length B) c y x ≡ true → check_values A B limit ≡ fine
      → ran W A B limit c y x ≡ done_by W A B limit (is_sweep (word W 2))
  runs_open e l r = ran-fine e ∙ gated_open _ _ _ _ _ l r
