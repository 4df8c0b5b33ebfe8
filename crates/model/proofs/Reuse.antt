-- Slots used again: the free ones and those given to plain slots that are still needed are together the slots 1, 2, .., made, each once. That is said by
-- counting: whatever test is put to slots, as many pass on either side.
use Prim.Native.Nat.{ℕ, zero, suc, ◌+◌, ◌≤◌, ◌<◌, min, max}
use native.Mathlib.Omega.{arith}
use mathlib.Core.Path.{◌≡◌, refl, sym, ap, ◌∙◌}
use mathlib.Core.Bool.{Bool, true, false, cond, ◌&&◌, ◌||◌, and-true, or-true}
use mathlib.Core.List.{List, [], ◌∷◌}
use lib.Dec.{eqb, leb, ltb}
use lib.ListN.{length}
use borrow.Author.Tests.{eqb-true, eqb-false, eq-eqb, ne_eqb, leb-true, leb-false, ltb-true, ltb-false}
use Rattle.model.specs.Lists.{kept, count}
use Rattle.model.specs.Compact.{pushed, released}
use Rattle.model.proofs.Within.{both_true}
use Rattle.model.proofs.Search.{count_same}
use Rattle.model.proofs.Sums.{count_none, count-all}

-- ---- counting

abbrev pub one : Bool → ℕ
one b = cond b 1 0

count_suc : (t : ℕ → Bool) (n : ℕ) → count t (suc n) ≡ one (t (suc n)) + count t n
unfolding count
count_suc t n = step (t (suc n))
  where
    step : (b : Bool) → cond b (suc (count t n)) (count t n) ≡ one b + count t n
    step true = omega arith
    step false = omega arith

-- how many of a list pass
abbrev tally : (ℕ → Bool) → List ℕ → ℕ
tally u ks = length (kept u ks)

tally_cons : (u : ℕ → Bool) (k : ℕ) (ks : List ℕ) → tally u (k ∷ ks) ≡ one (u k) + tally u ks
unfolding kept
tally_cons u k ks = step (u k)
  where
    step : (b : Bool) → length (cond b (k ∷ kept u ks) (kept u ks)) ≡ one b + tally u ks
    step true = omega arith
    step false = omega arith

tally_all : (ks : List ℕ) → tally (λ k. true) ks ≡ length ks
unfolding kept
tally_all [] = refl
tally_all (k ∷ ks) = ap suc (tally_all ks)

-- one that passes is counted, and so are two
count-found : (t : ℕ → Bool) (n j : ℕ) → 1 ≤ j → j ≤ n → t j ≡ true → 1 ≤ count t n
count-found t zero j low high e = absurd (omega arith)
count-found t (suc n) j low high e = step (eqb j (suc n)) refl (count-found t n j low)
  where
    step : (b : Bool) → eqb j (suc n) ≡ b → (j ≤ n → t j ≡ true → 1 ≤ count t n) → 1 ≤ count t (suc n)
    step true h rest = omega (arith, count_suc t n, ap one (ap t (sym (eqb-true j (suc n) h)) ∙ e))
    step false h rest = omega (arith, count_suc t n, rest (omega (arith, eqb-false j (suc n) h)) e)

count-found_two : (t : ℕ → Bool) (n i j : ℕ) → 1 ≤ i → i < j → j ≤ n → t i ≡ true → t j ≡ true → 2 ≤ count t n
count-found_two t zero i j low up high e f = absurd (omega arith)
count-found_two t (suc n) i j low up high e f = step (eqb j (suc n)) refl (λ h. count-found_two t n i j low up h e f)
  where
    step : (b : Bool) → eqb j (suc n) ≡ b → (j ≤ n → 2 ≤ count t n) → 2 ≤ count t (suc n)
    step true h rest =
        let last = eqb-true j (suc n) h in
        omega (arith, count_suc t n, ap one (ap t (sym last) ∙ f), count-found t n i low (omega (arith, last)) e)
    step false h rest = omega (arith, count_suc t n, rest (omega (arith, eqb-false j (suc n) h)))

-- a number is counted once
count-once : (k n : ℕ) → count (λ j. eqb j k) n ≤ 1
unfolding count
count-once k zero = omega arith
count-once k (suc n) = step (eqb (suc n) k) refl (count-once k n)
  where
    step : (b : Bool) → eqb (suc n) k ≡ b → count (λ j. eqb j k) n ≤ 1 → cond b (suc (count (λ j. eqb j k) n)) (count (λ j. eqb j k) n) ≤ 1
    step true h rest = omega (arith, count_none (λ j. eqb j k) n (λ j low high. ne_eqb j k (λ e. omega (arith, eqb-true (suc n) k h))))
    step false h rest = rest

-- and only if it is one of them
count-within : (k n : ℕ) → 1 ≤ count (λ j. eqb j k) n → (1 ≤ k) × (k ≤ n)
unfolding count
count-within k zero h = absurd (omega arith)
count-within k (suc n) h = step (eqb (suc n) k) refl (count-within k n) h
  where
    step : (b : Bool) → eqb (suc n) k ≡ b → (1 ≤ count (λ j. eqb j k) n → (1 ≤ k) × (k ≤ n))
        → 1 ≤ cond b (suc (count (λ j. eqb j k) n)) (count (λ j. eqb j k) n) → (1 ≤ k) × (k ≤ suc n)
    step true e rest h = omega (arith, eqb-true (suc n) k e)
    step false e rest h = omega (arith, rest h)

-- a test that p passes besides counts p, unless p passes already or is 0
module _ (t v : ℕ → Bool) (p : ℕ) where
  count_beside : (n : ℕ) → 1 ≤ p → p ≤ n → t p ≡ false → count (λ j. (eqb j p || t j) && v j) n ≡ one (v p) + count (λ j. t j && v j) n
  count_beside zero low high e = absurd (omega arith)
  count_beside (suc n) low high e = step (eqb (suc n) p) refl (λ h. count_beside n low h e)
    where
      step : (b : Bool) → eqb (suc n) p ≡ b → (p ≤ n → count (λ j. (eqb j p || t j) && v j) n ≡ one (v p) + count (λ j. t j && v j) n)
          → count (λ j. (eqb j p || t j) && v j) (suc n) ≡ one (v p) + count (λ j. t j && v j) (suc n)
      step true h rest =
          let same = eqb-true (suc n) p h in
          let others = count_same (λ j. (eqb j p || t j) && v j) (λ j. t j && v j) n (λ j a b. rw (ne_eqb j p (λ f. omega arith))) in
          rw (count_suc (λ j. (eqb j p || t j) && v j) n, count_suc (λ j. t j && v j) n, h, others, same, e) (omega arith)
      step false h rest =
          let others = rest (omega (arith, eqb-false (suc n) p h)) in
          rw (count_suc (λ j. (eqb j p || t j) && v j) n, count_suc (λ j. t j && v j) n, h) (omega (arith, others))

  count_already : (n : ℕ) → (1 ≤ p → t p ≡ true) → count (λ j. (eqb j p || t j) && v j) n ≡ count (λ j. t j && v j) n
  count_already n e = count_same (λ j. (eqb j p || t j) && v j) (λ j. t j && v j) n (λ j low high. ap (λ b. b && v j) (step j (eqb j p) refl low))
    where
      step : (j : ℕ) (b : Bool) → eqb j p ≡ b → 1 ≤ j → (b || t j) ≡ t j
      step j true h low = sym (ap t (eqb-true j p h) ∙ e (omega (arith, eqb-true j p h)))
      step j false h low = refl

-- ---- the free slots and those given out

-- Of the plain slots 1..h those that pass t are needed, and slot j is what j was given.
pub record Whole (t : ℕ → Bool) (slot : ℕ → ℕ) (h : ℕ) (free : List ℕ) (made : ℕ) : Type 0 where
  pub each : (u : ℕ → Bool) → tally u free + count (λ j. t j && u (slot j)) h ≡ count u made

module _ {t : ℕ → Bool} {slot : ℕ → ℕ} {h : ℕ} {free : List ℕ} {made : ℕ} (whole : Whole t slot h free made) where
  -- there are as many as were made
  pub whole_length : length free + count t h ≡ made
  whole_length =
      let needed = count_same (λ j. t j && true) t h (λ j low high. and-true (t j)) in
      omega (arith, whole.each (λ k. true), tally_all free, count-all (λ k. true) made (λ k low high. refl), needed)

  -- the slot of one that is needed lies in 1..made
  pub whole-range : (j : ℕ) → 1 ≤ j → j ≤ h → t j ≡ true → (1 ≤ slot j) × (slot j ≤ made)
  whole-range j low high e =
      let u : ℕ → Bool = λ k. eqb k (slot j) in
      count-within (slot j) made (omega (arith, whole.each u, count-found (λ j. t j && u (slot j)) h j low high (both_true e (eq-eqb (slot j) (slot j) refl))))

  -- no two that are needed have the same slot
  rising-apart : (i j : ℕ) → 1 ≤ i → i < j → j ≤ h → t i ≡ true → t j ≡ true → slot i ≡ slot j → ⊥
  rising-apart i j low up high e f same =
      let u : ℕ → Bool = λ k. eqb k (slot j) in
      omega (
        arith,
        whole.each u,
        count-once (slot j) made,
        count-found_two (λ j. t j && u (slot j)) h i j low up high (both_true e (eq-eqb (slot i) (slot j) same)) (both_true f (eq-eqb (slot j) (slot j) refl)),
      )

  pub whole_apart : (i j : ℕ) → 1 ≤ i → i ≤ h → 1 ≤ j → j ≤ h → t i ≡ true → t j ≡ true → slot i ≡ slot j → i ≡ j
  whole_apart i j li hi lj hj e f same = step (ltb i j) (ltb j i) refl refl
    where
      step : (a b : Bool) → ltb i j ≡ a → ltb j i ≡ b → i ≡ j
      step true b p q = absurd (rising-apart i j li (ltb-true i j p) hj e f same)
      step false true p q = absurd (rising-apart j i lj (ltb-true j i q) hi f e (sym same))
      step false false p q = omega (arith, ltb-false i j p, ltb-false j i q)

-- ---- a slot is given to plain slot h + 1

-- the one that is given next, what is free then, and how many are made
abbrev pub taken : List ℕ → ℕ → ℕ
taken [] made = suc made
taken (k ∷ ks) made = k

abbrev pub others : List ℕ → List ℕ
others [] = []
others (k ∷ ks) = ks

abbrev pub made_with : List ℕ → ℕ → ℕ
made_with [] made = suc made
made_with (k ∷ ks) made = made

-- it is one of those made, or the next
pub taken-range : {t : ℕ → Bool} {slot : ℕ → ℕ} {h made : ℕ} (free : List ℕ) → Whole t slot h free made
    → (1 ≤ taken free made) × (taken free made ≤ suc made) × (made_with free made ≡ max made (taken free made))
taken-range [] whole = omega arith
taken-range {made = made} (k ∷ ks) whole =
    omega (arith, count-within k made (omega (arith, whole.each (λ j. eqb j k), tally_cons (λ j. eqb j k) k ks, ap one (eq-eqb k k refl))))

module _ (t : ℕ → Bool) (slot slot' : ℕ → ℕ) (h : ℕ) (needed : t (suc h) ≡ true) (before : (j : ℕ) → 1 ≤ j → j ≤ h → slot' j ≡ slot j) where
  count-given : (u : ℕ → Bool) (k : ℕ) → slot' (suc h) ≡ k → count (λ j. t j && u (slot' j)) (suc h) ≡ one (u k) + count (λ j. t j && u (slot j)) h
  count-given u k new = rw (count_suc (λ j. t j && u (slot' j)) h, needed, new)
      (ap (λ n. one (u k) + n) (count_same (λ j. t j && u (slot' j)) (λ j. t j && u (slot j)) h (λ j low high. rw (before j low high))))

  pub whole-given : {made : ℕ} (free : List ℕ) → slot' (suc h) ≡ taken free made → Whole t slot h free made
      → Whole t slot' (suc h) (others free) (made_with free made)
  whole-given {made} [] new whole = record { each = λ u. omega (arith, whole.each u, count_suc u made, count-given u (suc made) new) }
  whole-given (k ∷ ks) new whole = record { each = λ u. omega (arith, whole.each u, tally_cons u k ks, count-given u k new) }

-- ---- a record that needs p and q passes: those that are needed no more are free

-- a slot, 0 for none, that passes u
abbrev weight : (ℕ → Bool) → ℕ → ℕ
weight u k = cond (eqb k 0) 0 (one (u k))

tally_pushed : (u : ℕ → Bool) (k : ℕ) (ks : List ℕ) → tally u (pushed k ks) ≡ weight u k + tally u ks
tally_pushed u k ks = step (eqb k 0)
  where
    step : (b : Bool) → tally u (cond b ks (k ∷ ks)) ≡ cond b 0 (one (u k)) + tally u ks
    step true = omega arith
    step false = tally_cons u k ks

tally_released : (u : ℕ → Bool) (a b : ℕ) (ks : List ℕ) → tally u (released a b ks) ≡ weight u a + cond (eqb a b) 0 (weight u b) + tally u ks
tally_released u a b ks = tally_pushed u (max a b) (cond (eqb a b) ks (pushed (min a b) ks)) ∙ step (eqb a b) refl (leb a b) refl
  where
    step : (c : Bool) → eqb a b ≡ c → (d : Bool) → leb a b ≡ d
        → weight u (max a b) + tally u (cond c ks (pushed (min a b) ks)) ≡ weight u a + cond c 0 (weight u b) + tally u ks
    step true e d f = let m : max a b ≡ a = omega (arith, eqb-true a b e) in rw m (omega arith)
    step false e true f =
        let m : max a b ≡ b = omega (arith, leb-true a b f) in
        let n : min a b ≡ a = omega (arith, leb-true a b f) in
        rw (m, n) (omega (arith, tally_pushed u a ks))
    step false e false f =
        let m : max a b ≡ a = omega (arith, leb-false a b f) in
        let n : min a b ≡ b = omega (arith, leb-false a b f) in
        rw (m, n) (omega (arith, tally_pushed u b ks))

module _ (t : ℕ → Bool) (slot : ℕ → ℕ) (h : ℕ) (none : slot 0 ≡ 0) where
  -- the slot of j if j is needed no more, else 0
  abbrev left : ℕ → ℕ
  left j = cond (t j) 0 (slot j)

  -- what one number more brings to a count
  abbrev more : (ℕ → Bool) → (ℕ → Bool) → ℕ → ℕ
  more t u p = cond (eqb p 0) 0 (cond (t p) 0 (one (u (slot p))))

  count_more : (t u : ℕ → Bool) (p : ℕ) → p ≤ h → count (λ j. (eqb j p || t j) && u (slot j)) h ≡ more t u p + count (λ j. t j && u (slot j)) h
  count_more t u p high = step (eqb p 0) refl (t p) refl
    where
      step : (a : Bool) → eqb p 0 ≡ a → (b : Bool) → t p ≡ b
          → count (λ j. (eqb j p || t j) && u (slot j)) h ≡ cond a 0 (cond b 0 (one (u (slot p)))) + count (λ j. t j && u (slot j)) h
      step true e b f = omega (arith, count_already t (λ j. u (slot j)) p h (λ low. absurd (omega (arith, eqb-true p 0 e))))
      step false e true f = omega (arith, count_already t (λ j. u (slot j)) p h (λ low. f))
      step false e false f = count_beside t (λ j. u (slot j)) p h (omega (arith, eqb-false p 0 e)) high f

  -- what is freed by p is what it brought
  weight_left : (u : ℕ → Bool) (p : ℕ) → (1 ≤ p → 1 ≤ slot p) → weight u (left p) ≡ more t u p
  weight_left u p some = step (t p) (eqb p 0) refl
    where
      step : (b a : Bool) → eqb p 0 ≡ a → weight u (cond b 0 (slot p)) ≡ cond a 0 (cond b 0 (one (u (slot p))))
      step true true e = refl
      step true false e = refl
      step false true e = rw (eqb-true p 0 e, none)
      step false false e = rw (ne_eqb (slot p) 0 (λ z. omega (arith, some (omega (arith, eqb-false p 0 e)))))

  pub whole-released : {free : List ℕ} {made : ℕ} (p q : ℕ) → p ≤ h → q ≤ h → Whole (λ j. eqb j p || (eqb j q || t j)) slot h free made
      → Whole t slot h (released (left p) (left q) free) made
  whole-released {free} {made} p q hp hq whole = record {
    each = λ u.
        omega (
          arith,
          whole.each u,
          tally_released u (left p) (left q) free,
          count_more (λ j. eqb j q || t j) u p hp,
          count_more t u q hq,
          balance u (eqb p q) refl (eqb (left p) (left q)) refl,
        );
  }
    where
      some-p : 1 ≤ p → 1 ≤ slot p
      some-p low = (whole-range whole p low hp (rw (eq-eqb p p refl))).0

      some-q : 1 ≤ q → 1 ≤ slot q
      some-q low = (whole-range whole q low hq (rw (eq-eqb q q refl) (or-true (eqb q p)))).0

      -- no slot is freed by both, unless they are the same
      none_twice : (p ≡ q → ⊥) → (a b : Bool) → t p ≡ a → t q ≡ b → cond a 0 (slot p) ≡ cond b 0 (slot q) → cond b 0 (slot q) ≡ 0
      none_twice differ a true e f same = refl
      none_twice differ true false e f same = sym same
      none_twice differ false false e f same = step (eqb p 0) (eqb q 0) refl refl
        where
          step : (a b : Bool) → eqb p 0 ≡ a → eqb q 0 ≡ b → slot q ≡ 0
          step true b i j = sym same ∙ ap slot (eqb-true p 0 i) ∙ none
          step false true i j = ap slot (eqb-true q 0 j) ∙ none
          step false false i j = absurd (differ (whole_apart whole p q (omega (arith, eqb-false p 0 i)) hp (omega (arith, eqb-false q 0 j)) hq
              (rw (eq-eqb p p refl)) (rw (eq-eqb q q refl) (or-true (eqb q p))) same))

      balance : (u : ℕ → Bool) (a : Bool) → eqb p q ≡ a → (b : Bool) → eqb (left p) (left q) ≡ b
          → weight u (left p) + cond b 0 (weight u (left q)) ≡ cond (eqb p 0) 0 (cond (a || t p) 0 (one (u (slot p)))) + more t u q
      balance u true e true f = omega (arith, weight_left u q some-q, ap (λ j. weight u (left j)) (eqb-true p q e), same-zero (eqb p 0))
        where
          same-zero : (b : Bool) → cond {A = ℕ} b 0 0 ≡ 0
          same-zero true = refl
          same-zero false = refl
      balance u true e false f = absurd (eqb-false (left p) (left q) f (ap left (eqb-true p q e)))
      balance u false e true f =
          let zeroes = none_twice (eqb-false p q e) (t p) (t q) refl refl (eqb-true (left p) (left q) f) in
          omega (arith, weight_left u p some-p, weight_left u q some-q, ap (weight u) zeroes)
      balance u false e false f = omega (arith, weight_left u p some-p, weight_left u q some-q)
