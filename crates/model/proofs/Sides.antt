-- Many right sides: the checks of the whole call are those of each side's own run, so that each side just goes along the chain. Document 02, A.6.
use Prim.Native.Nat.{ℕ, zero, suc, ◌+◌, ◌*◌, ◌≤◌}
use native.Mathlib.Omega.{arith}
use mathlib.Core.Path.{◌≡◌, refl, ap, ◌∙◌}
use mathlib.Core.Bool.{Bool, true, false, cond, ◌&&◌}
use mathlib.Core.List.{List, [], ◌∷◌, map}
use borrow.Author.Tests.{eqb-true}
use lib.Dec.{eqb}
use lib.ListN.{length, take, drop}
use lib.Ieee.{Float}
use Rattle.model.specs.Label.{within}
use Rattle.model.specs.Arith.{is_finite}
use Rattle.model.specs.Check.{Verdict, fine, refusal, check_from, chain, word}
use Rattle.model.specs.Run.{Outcome, follow, followed, fresh, not_finite, check_values, ran}
use Rattle.model.specs.Many.{parts, Outcomes, sides, none_run, ran_many}
use Rattle.model.proofs.Lists.{Each, rising-each, map_same}
use Rattle.model.proofs.Parts.{part_length}
use Rattle.model.proofs.Passing.{both, crout_only}
use Rattle.model.proofs.Runs.{gated, fine_finite, finite_fine, lengths-right, done_by, runs_open}

-- ---- finite values

-- the first, and the others
pub finite_cons : (k : ℕ) (v : Float) (vs : List Float) → 1 ≤ k → not_finite k (v ∷ vs) ≡ 0 → (is_finite v ≡ true) × (not_finite (suc k) vs ≡ 0)
unfolding not_finite
finite_cons k v vs low e = go (is_finite v) refl e
  where
    go : (b : Bool) → is_finite v ≡ b → cond b (not_finite (suc k) vs) k ≡ 0 → (is_finite v ≡ true) × (not_finite (suc k) vs ≡ 0)
    go true f e = (f, e)
    go false f e = absurd (omega arith)

-- a part of finite values is finite, from whichever position it is counted
finite_take : (m k j : ℕ) (vs : List Float) → 1 ≤ k → not_finite k vs ≡ 0 → not_finite j (take m vs) ≡ 0
unfolding not_finite
finite_take zero k j vs low e = refl
finite_take (suc m) k j [] low e = refl
finite_take (suc m) k j (v ∷ vs) low e = let f = finite_cons k v vs low e in rw f.0 (finite_take m (suc k) (suc j) vs (omega arith) f.1)

finite_drop : (m k : ℕ) (vs : List Float) → 1 ≤ k → not_finite k vs ≡ 0 → not_finite (k + m) (drop m vs) ≡ 0
unfolding not_finite
finite_drop zero k vs low e = ap (λ k. not_finite k vs) (omega arith) ∙ e
finite_drop (suc m) k [] low e = refl
finite_drop (suc m) k (v ∷ vs) low e =
    ap (λ k. not_finite k (drop m vs)) (omega arith) ∙ finite_drop m (suc k) vs (omega arith) (finite_cons k v vs low e).1

-- each part of a whole B has N entries, all finite
parts_fit : (N count : ℕ) (B : List Float) → length B ≡ count * N → not_finite 1 B ≡ 0 → Each (λ b. (length b ≡ N) × (not_finite 1 b ≡ 0)) (parts N count B)
unfolding parts
parts_fit N count B long finite = rising-each _ _ 0 count (λ r low high. (
  part_length N count B r long (omega arith),
  finite_take N (1 + r * N) 1 (drop (r * N) B) (omega arith) (finite_drop (r * N) 1 B (omega arith) finite),
))

-- ---- the call

-- a side that goes along the chain, with nothing left to check
abbrev pub along_chain : List ℕ → List Float → Float → List Float → Outcome
along_chain W A limit b = followed (follow A b limit (fresh (word W 0)) (chain W).links)

-- 14's test, for so many sides and the lengths of A, B, C, Y and X
abbrev pub lengths_of : ℕ → ℕ → ℕ → ℕ → ℕ → ℕ → ℕ → ℕ → ℕ → Bool
lengths_of count N n s a b c y x = eqb a n && (eqb b (count * N) && (eqb c s && (eqb y (count * N) && eqb x (count * N))))

module _ (W : List ℕ) (count : ℕ) (A B : List Float) (limit : Float) (lc ly lx : ℕ) where
  -- the lengths are right
  abbrev pub lengths_fit : Bool
  lengths_fit = lengths_of count (word W 0) (word W 1) (word W 2) (length A) (length B) lc ly lx

  -- each side by its own run
  abbrev pub own_runs : List Outcome
  own_runs = map (λ b. ran W A b limit (word W 2) (word W 0) (word W 0)) (parts (word W 0) count B)

  -- the call by its checks
  unfoldable pub many_by : Verdict → Bool → Bool → Verdict → Outcomes
  many_by v few right w = elim v [
    | refusal r d ↦ none_run r d
    | fine ↦ elim few [ false ↦ none_run 25 0 | true ↦ gated (none_run 14 0) none_run right w (sides own_runs) ]
  ]

  pub many_is : ran_many W count A B limit lc ly lx ≡ many_by (check_from 1 W) (within count 64) lengths_fit (check_values A B limit)
  unfolding ran_many many_by gated
  many_is = refl

  -- what passes the call's checks passes each side's
  own_along : check_from 1 W ≡ fine → lengths_fit ≡ true → check_values A B limit ≡ fine → own_runs ≡ map (along_chain W A limit) (parts (word W 0) count B)
  unfolding done_by
  own_along e l v =
      let passes = crout_only W e in
      let values = fine_finite A B limit v in
      let coefficients = both (eqb (length A) (word W 1)) _ l in
      let rights = both (eqb (length B) (count * word W 0)) _ coefficients.1 in
      map_same _ _ (parts (word W 0) count B) (λ b m.
      let fits = parts_fit (word W 0) count B (eqb-true (length B) (count * word W 0) rights.0) values.finite_b b m in
      runs_open W A b limit (word W 2) (word W 0) (word W 0) passes.0
      (lengths-right (word W 0) (word W 1) (word W 2) _ _ _ _ _ (eqb-true (length A) (word W 1) coefficients.0) fits.0 refl (rw passes.1) refl)
      (finite_fine A b limit (record { finite_a = values.finite_a; finite_b = fits.1; limited = values.limited }))
      ∙ ap (done_by W A b limit) passes.1)

  -- what the call is where a check fails
  pub none-checked : (r d : ℕ) → check_from 1 W ≡ refusal r d → ran_many W count A B limit lc ly lx ≡ none_run r d
  unfolding many_by
  none-checked r d e = rw (many_is, e)

  pub none-counted : check_from 1 W ≡ fine → within count 64 ≡ false → ran_many W count A B limit lc ly lx ≡ none_run 25 0
  unfolding many_by
  none-counted e few = rw (many_is, e, few)

  pub none_lengths : check_from 1 W ≡ fine → within count 64 ≡ true → lengths_fit ≡ false → ran_many W count A B limit lc ly lx ≡ none_run 14 0
  unfolding many_by gated
  none_lengths e few right = rw (many_is, e, few, right)

  pub none_values : (r d : ℕ) → check_from 1 W ≡ fine → within count 64 ≡ true → lengths_fit ≡ true → check_values A B limit ≡ refusal r d
      → ran_many W count A B limit lc ly lx ≡ none_run r d
  unfolding many_by gated
  none_values r d e few right v = rw (many_is, e, few, right, v)

  -- and once all have passed: each side goes along the chain, and none is refused before its first record
  pub all_run : check_from 1 W ≡ fine → within count 64 ≡ true → lengths_fit ≡ true → check_values A B limit ≡ fine
      → ran_many W count A B limit lc ly lx ≡ sides (map (along_chain W A limit) (parts (word W 0) count B))
  unfolding many_by gated
  all_run e few right v = rw (many_is, e, few, right, v) (ap sides (own_along e right v))

  -- The headline: where the sides run at all, they have passed every check, so each goes along the chain.
  pub sides_run : (os : List Outcome) → ran_many W count A B limit lc ly lx ≡ sides os → os ≡ map (along_chain W A limit) (parts (word W 0) count B)
  unfolding many_by gated
  sides_run os e = go (check_from 1 W) (within count 64) lengths_fit (check_values A B limit) refl refl refl (rw many_is at e)
    where
      go : (v : Verdict) (few right : Bool) (w : Verdict) → check_from 1 W ≡ v → lengths_fit ≡ right → check_values A B limit ≡ w
          → many_by v few right w ≡ sides os → os ≡ map (along_chain W A limit) (parts (word W 0) count B)
      go (refusal n d) few right w p q r e = let z : ◌≡◌ {A = ℕ} 0 1 = cc in absurd (omega arith)
      go fine false right w p q r e = let z : ◌≡◌ {A = ℕ} 0 1 = cc in absurd (omega arith)
      go fine true false w p q r e = let z : ◌≡◌ {A = ℕ} 0 1 = cc in absurd (omega arith)
      go fine true true (refusal n d) p q r e = let z : ◌≡◌ {A = ℕ} 0 1 = cc in absurd (omega arith)
      go fine true true fine p q r e = let same : os ≡ own_runs = cc in same ∙ own_along p q r
