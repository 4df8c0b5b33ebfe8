-- Two rooms numbered t and t + 1 exchange their numbers. A place whose smaller index is another is held as the place that it was: so of all batches two
-- alone change, t and t + 1, and these are told by what is reached through rooms below t. For document 02, A.12.
use Prim.Native.Nat.{ℕ, zero, suc, ◌+◌, ◌-◌, ◌≤◌, ◌<◌, min}
use native.Mathlib.Nat.{add-zero, add-suc}
use native.Mathlib.Omega.{arith}
use mathlib.Core.Path.{◌≡◌, refl, sym, ap, ap₂, ◌∙◌}
use mathlib.Core.Bool.{Bool, true, false, cond, ◌&&◌, ◌||◌, and_comm}
use borrow.Author.Tests.{ltb-true, ltb-false, eq-eqb, ne_eqb}
use lib.Dec.{ltb, eqb}
use Rattle.model.specs.Label.{label}
use Rattle.model.specs.Fill.{Plan, position, held}
use Rattle.model.proofs.Labels.{Inside}
use Rattle.model.proofs.Reach.{reach, held_reach}

-- the number that room i has after the exchange, and had before it
abbrev pub other : ℕ → ℕ → ℕ
other t i = cond (eqb i t) (suc t) (cond (eqb i (suc t)) t i)

pub other-same : (t i : ℕ) → (i ≡ t → ⊥) → (i ≡ suc t → ⊥) → other t i ≡ i
other-same t i a b = rw (ne_eqb i t a, ne_eqb i (suc t) b)

pub other-first : (t : ℕ) → other t t ≡ suc t
other-first t = rw (eq-eqb t t refl)

pub other_second : (t : ℕ) → other t (suc t) ≡ t
other_second t = rw (ne_eqb (suc t) t (λ z. omega arith), eq-eqb (suc t) (suc t) refl)

-- it does not fall below t, nor does a number from t on
pub other_far : (t i : ℕ) → t ≤ i → t ≤ other t i
other_far t i h = step (eqb i t) (eqb i (suc t))
  where
    step : (a b : Bool) → t ≤ cond a (suc t) (cond b t i)
    step true b = omega arith
    step false true = omega arith
    step false false = h

pub other-range : (N t i : ℕ) → 1 ≤ t → suc t ≤ N → 1 ≤ i → i ≤ N → (1 ≤ other t i) × (other t i ≤ N)
other-range N t i low high from to = step (eqb i t) (eqb i (suc t))
  where
    step : (a b : Bool) → let k = cond a (suc t) (cond b t i) in (1 ≤ k) × (k ≤ N)
    step true b = (omega arith, high)
    step false true = (low, omega arith)
    step false false = (from, to)

other-min : (t i j : ℕ) → min i j < t → min (other t i) (other t j) ≡ min i j
other-min t i j h = step (ltb i t) refl (ltb j t) refl
  where
    near : (i : ℕ) → ltb i t ≡ true → other t i ≡ i
    near i e = let l = ltb-true i t e in other-same t i (λ z. omega arith) (λ z. omega arith)

    step : (a : Bool) → ltb i t ≡ a → (b : Bool) → ltb j t ≡ b → min (other t i) (other t j) ≡ min i j
    step true e true f = ap₂ min (near i e) (near j f)
    step true e false f = rw (near i e) (omega (arith, ltb-true i t e, ltb-false j t f, other_far t j (ltb-false j t f)))
    step false e true f = rw (near j f) (omega (arith, ltb-true j t f, ltb-false i t e, other_far t i (ltb-false i t e)))
    step false e false f = absurd (omega (arith, ltb-false i t e, ltb-false j t f))

-- through t and then t + 1, or through t + 1 and then t
two_ways : (x is sj it tj st ts : Bool)
    → ((x || (is && sj)) || ((it || (is && st)) && (tj || (ts && sj)))) ≡ ((x || (it && tj)) || ((is || (it && ts)) && (sj || (st && tj))))
two_ways true is sj it tj st ts = refl
two_ways false false sj false tj st ts = refl
two_ways false true true false tj st ts = refl
two_ways false true false false tj false ts = refl
two_ways false true false false true true ts = refl
two_ways false true false false false true true = refl
two_ways false true false false false true false = refl
two_ways false false sj true true st ts = refl
two_ways false false sj true false st false = refl
two_ways false false true true false st true = refl
two_ways false false false true false true true = refl
two_ways false false false true false false true = refl
two_ways false true true true true st ts = refl
two_ways false true true true false st ts = refl
two_ways false true false true true st ts = refl
two_ways false true false true false true true = refl
two_ways false true false true false true false = refl
two_ways false true false true false false true = refl
two_ways false true false true false false false = refl

-- ---- the two batches of a plan

-- d rooms come before the two
module _ (N d : ℕ) (P : Plan) where
  abbrev t : ℕ
  t = suc d

  abbrev s : ℕ
  s = suc (suc d)

  -- what is held in line t, and what is reached in line s through rooms below t
  abbrev pub down : ℕ → Bool
  down i = held N P i t

  abbrev pub down_before : ℕ → Bool
  down_before i = reach N P d i s

  abbrev pub right : ℕ → Bool
  right j = held N P t j

  abbrev pub right_before : ℕ → Bool
  right_before j = reach N P d s j

  -- the places between the two
  abbrev pub over : Bool
  over = held N P t s

  abbrev pub under : Bool
  under = held N P s t

  -- line t of either plan is reached through rooms below t
  down_is : (i : ℕ) → t ≤ i → down i ≡ reach N P d i t
  down_is i h = held_reach N P d i t (omega arith)

  right_is : (j : ℕ) → t ≤ j → right j ≡ reach N P d t j
  right_is j h = held_reach N P d t j (omega arith)

  -- line s through t as well
  pub down-after : (i : ℕ) → s ≤ i → held N P i s ≡ (down_before i || (down i && over))
  unfolding reach
  down-after i h = held_reach N P t i s (omega arith) ∙ ap (λ b. down_before i || b) (sym (ap₂ ◌&&◌ (down_is i (omega arith)) (right_is s (omega arith))))

  pub right-after : (j : ℕ) → s ≤ j → held N P s j ≡ (right_before j || (right j && under))
  unfolding reach
  right-after j h =
      held_reach N P t s j (omega arith)
      ∙ ap (λ b. right_before j || b) (sym (ap₂ ◌&&◌ (down_is s (omega arith)) (right_is j (omega arith))) ∙ and_comm under (right j))

  -- ---- a plan Q that has (i, j) where P has the exchanged place
  module _ (Q : Plan) (same : (i j : ℕ) → Inside N i j → ltb 0 (position Q (label N i j)) ≡ ltb 0 (position P (label N (other t i) (other t j)))) (inside : s ≤ N) where
    abbrev moved : ℕ → ℕ
    moved = other t

    within-row : (i j k : ℕ) → Inside N i j → 1 ≤ k → k ≤ N → Inside N i k
    within-row i j k p low high = record { row_low = p.row_low; row-high = p.row-high; column-low = low; column-high = high }

    within-column : (i j k : ℕ) → Inside N i j → 1 ≤ k → k ≤ N → Inside N k j
    within-column i j k p low high = record { row_low = low; row-high = high; column-low = p.column-low; column-high = p.column-high }

    -- ---- what is reached

    abbrev Alike : ℕ → Type 0
    Alike k = (i j : ℕ) → Inside N i j → reach N Q k i j ≡ reach N P k (moved i) (moved j)

    -- through one room more, whose number stays
    reach_more : (k : ℕ) → suc k ≤ N → (suc k ≡ t → ⊥) → (suc k ≡ s → ⊥) → Alike k → Alike (suc k)
    unfolding reach
    reach_more k high a b e i j p =
        let stays = other-same t (suc k) a b in
        ap₂ ◌||◌ (e i j p) (ap₂ ◌&&◌ (e i (suc k) (within-row i j (suc k) p (omega arith) high) ∙ ap (reach N P k (moved i)) stays)
        (e (suc k) j (within-column i j (suc k) p (omega arith) high) ∙ ap (λ n. reach N P k n (moved j)) stays))

    pub reach_before : (k : ℕ) → k < t → Alike k
    unfolding reach
    reach_before zero h = same
    reach_before (suc k) h = reach_more k (omega arith) (λ z. omega arith) (λ z. omega arith) (reach_before k (omega arith))

    -- through both of them
    reach_both : Alike d → Alike s
    unfolding reach
    reach_both e i j p =
        let r = reach N P d in
        let a = moved i in
        let b = moved j in
        let low : 1 ≤ t = omega arith in
        let high : t ≤ N = omega arith in
        rw (
          e i j p,
          e i t (within-row i j t p low high),
          e i s (within-row i j s p (omega arith) inside),
          e t j (within-column i j t p low high),
          e s j (within-column i j s p (omega arith) inside),
          e t s (record { row_low = low; row-high = high; column-low = omega arith; column-high = inside }),
          e s t (record { row_low = omega arith; row-high = inside; column-low = low; column-high = high }),
          other-first t,
          other_second t,
        )
        (two_ways (r a b) (r a s) (r s b) (r a t) (r t b) (r s t) (r t s))

    pub reach_after : (k : ℕ) → s + k ≤ N → Alike (s + k)
    reach_after zero h = rw (add-zero s) (reach_both (reach_before d (omega arith)))
    reach_after (suc k) h = rw (add-suc s k) (reach_more (s + k) (omega arith) (λ z. omega arith) (λ z. omega arith) (reach_after k (omega arith)))

    -- ---- what is held

    -- a smaller index below t
    pub held-before : (i j : ℕ) → Inside N i j → min i j < t → held N Q i j ≡ held N P (moved i) (moved j)
    held-before i j p h =
        let k : min i j ≡ suc (min i j - 1) = omega (arith, p.row_low, p.column-low) in
        held_reach N Q _ i j k ∙ reach_before (min i j - 1) (omega arith) i j p ∙ sym (held_reach N P _ (moved i) (moved j) (other-min t i j h ∙ k))

    -- above s, where both numbers stay
    pub held_after : (i j : ℕ) → Inside N i j → s < min i j → held N Q i j ≡ held N P i j
    held_after i j p h =
        let k : min i j ≡ suc (s + (min i j - suc s)) = omega arith in
        held_reach N Q _ i j k ∙ reach_after (min i j - suc s) (omega (arith, p.row-high, p.column-high)) i j p
        ∙ ap₂ (reach N P (s + (min i j - suc s))) (other-same t i (λ z. omega arith) (λ z. omega arith)) (other-same t j (λ z. omega arith) (λ z. omega arith))
        ∙ sym (held_reach N P _ i j k)

    -- ---- the two batches of the second plan

    past_same : (k : ℕ) → s < k → moved k ≡ k
    past_same k h = other-same t k (λ z. omega arith) (λ z. omega arith)

    reach_at : (i j a b : ℕ) → Inside N i j → moved i ≡ a → moved j ≡ b → reach N Q d i j ≡ reach N P d a b
    reach_at i j a b p e f = reach_before d (omega arith) i j p ∙ ap₂ (reach N P d) e f

    at : (i j : ℕ) → 1 ≤ i → i ≤ N → 1 ≤ j → j ≤ N → Inside N i j
    at i j a b c e = record { row_low = a; row-high = b; column-low = c; column-high = e }

    -- between them
    pub first_now : held N Q t t ≡ reach N P d s s
    first_now = held_reach N Q d t t (omega arith) ∙ reach_at t t s s (at t t (omega arith) (omega arith) (omega arith) (omega arith)) (other-first t) (other-first t)

    under_reach : reach N Q d s t ≡ over
    under_reach = reach_at s t t s (at s t (omega arith) inside (omega arith) (omega arith)) (other_second t) (other-first t) ∙ sym (right_is s (omega arith))

    over_reach : reach N Q d t s ≡ under
    over_reach = reach_at t s s t (at t s (omega arith) (omega arith) (omega arith) inside) (other-first t) (other_second t) ∙ sym (down_is s (omega arith))

    pub under_now : held N Q s t ≡ over
    under_now = held_reach N Q d s t (omega arith) ∙ under_reach

    pub over_now : held N Q t s ≡ under
    over_now = held_reach N Q d t s (omega arith) ∙ over_reach

    pub second_now : held N Q s s ≡ (held N P t t || (over && under))
    unfolding reach
    second_now =
        held_reach N Q t s s (omega arith)
        ∙ ap₂ ◌||◌ (reach_at s s t t (at s s (omega arith) inside (omega arith) inside) (other_second t) (other_second t) ∙ sym (down_is t (omega arith)))
        (ap₂ ◌&&◌ under_reach over_reach)

    -- past them
    module _ (k : ℕ) (low : s < k) (high : k ≤ N) where
      down_reach : reach N Q d k t ≡ down_before k
      down_reach = reach_at k t k s (at k t (omega arith) high (omega arith) (omega arith)) (past_same k low) (other-first t)

      right_reach : reach N Q d t k ≡ right_before k
      right_reach = reach_at t k s k (at t k (omega arith) (omega arith) (omega arith) high) (other-first t) (past_same k low)

      pub down_now : held N Q k t ≡ down_before k
      down_now = held_reach N Q d k t (omega arith) ∙ down_reach

      pub right_now : held N Q t k ≡ right_before k
      right_now = held_reach N Q d t k (omega arith) ∙ right_reach

      pub down_next : held N Q k s ≡ (down k || (held N Q k t && under))
      unfolding reach
      down_next =
          held_reach N Q t k s (omega arith)
          ∙ ap₂ ◌||◌ (reach_at k s k t (at k s (omega arith) high (omega arith) inside) (past_same k low) (other_second t) ∙ sym (down_is k (omega arith)))
          (ap₂ ◌&&◌ (down_reach ∙ sym down_now) over_reach)

      pub right_next : held N Q s k ≡ (right k || (held N Q t k && over))
      unfolding reach
      right_next =
          held_reach N Q t s k (omega arith)
          ∙ ap₂ ◌||◌ (reach_at s k t k (at s k (omega arith) inside (omega arith) high) (other_second t) (past_same k low) ∙ sym (right_is k (omega arith)))
          (ap₂ ◌&&◌ under_reach (right_reach ∙ sym right_now) ∙ and_comm over (held N Q t k))
