-- The slots of a plan before and after an exchange of rooms t and t + 1, by the two batches that change. For document 02, A.12.
use Prim.Native.Nat.{ℕ, zero, suc, ◌+◌, ◌-◌, ◌≤◌, ◌<◌}
use native.Mathlib.Nat.{eq-or-lt_of_le}
use native.Mathlib.Omega.{arith}
use mathlib.Core.Path.{◌≡◌, refl, sym, ap, ap₂, ◌∙◌}
use mathlib.Core.Bool.{Bool, true, false, cond, ◌&&◌, ◌||◌, true≢false}
use mathlib.Core.Logic.{⊎_elim}
use borrow.Author.Tests.{ltb-true, ltb-false, lt-ltb, le-ltb, eqb-true, eqb-false, ne_eqb}
use lib.Dec.{ltb, eqb}
use Rattle.model.specs.Lists.{rising, total}
use Rattle.model.specs.Label.{label}
use Rattle.model.specs.Fill.{Plan, position, held, slots, missing}
use Rattle.model.proofs.Labels.{Inside}
use Rattle.model.proofs.Sums.{rising-same, rising_both, rising_but_two}
use Rattle.model.proofs.Plans.{pivot-held, missing-free}
use Rattle.model.proofs.Batches.{down_of, right_of, batch_slots, slots_by_batches}
use Rattle.model.proofs.Reach.{reach}
use Rattle.model.proofs.Exchange.{
  other,
  other-same,
  other-first,
  other_second,
  held-before,
  held_after,
  down-after,
  right-after,
  first_now,
  second_now,
  under_now,
  over_now,
  down_now,
  right_now,
  down_next,
  right_next,
}

-- a sum over a row that has both rooms
rising-other : (f : ℕ → ℕ) (t a n : ℕ) → a ≤ t → suc t < a + n → total (rising (λ i. f (other t i)) a n) ≡ total (rising f a n)
unfolding total rising
rising-other f t a zero low high = absurd (omega arith)
rising-other f t a (suc zero) low high = absurd (omega arith)
rising-other f t a (suc (suc n)) low high = ⊎_elim
    (λ q. let first : f (other t a) ≡ f (suc a) = ap f (ap (other t) q ∙ other-first t ∙ ap suc (sym q)) in
    let second : f (other t (suc a)) ≡ f a = ap f (ap (λ n. other t (suc n)) q ∙ other_second t ∙ sym q) in
    omega (arith, rising-same (λ i. f (other t i)) f (suc (suc a)) n (λ k l h. ap f (other-same t k (λ z. omega arith) (λ z. omega arith)))))
    (λ q. let here : f (other t a) ≡ f a = ap f (other-same t a (λ z. omega arith) (λ z. omega arith)) in
    omega (arith, rising-other f t (suc a) (suc n) q (omega arith))) (eq-or-lt_of_le low)

less_alike : (a b c e : ℕ) → a + e ≡ b + c → ltb a b ≡ ltb c e
less_alike a b c e h = step (ltb c e) refl
  where
    step : (f : Bool) → ltb c e ≡ f → ltb a b ≡ f
    step true p = lt-ltb a b (omega (arith, ltb-true c e p))
    step false p = le-ltb a b (omega (arith, ltb-false c e p))

-- ---- what is counted

abbrev pub bit : Bool → ℕ
bit b = cond b 1 0

-- two places of a line, the second held also through the first where the rooms are linked
abbrev pub pair : Bool → Bool → Bool → ℕ
pair first second linked = bit first + bit (second || (first && linked))

-- summed over the lines past t + 1, where d rooms come before t
abbrev pub pairs : ℕ → ℕ → (ℕ → Bool) → (ℕ → Bool) → Bool → ℕ
pairs N d first second linked = total (rising (λ k. pair (first k) (second k) linked) (suc (suc (suc d))) (N - suc (suc d)))

module _ (N d : ℕ) (P : Plan) where
  -- what batches t and t + 1 hold there: of the columns, and of the rows
  abbrev pub down_before : ℕ
  down_before = pairs N d (λ k. held N P k (suc d)) (λ k. reach N P d k (suc (suc d))) (held N P (suc d) (suc (suc d)))

  abbrev pub right_before : ℕ
  right_before = pairs N d (held N P (suc d)) (reach N P d (suc (suc d))) (held N P (suc (suc d)) (suc d))

  -- and after the exchange
  abbrev pub down_after : ℕ
  down_after = pairs N d (λ k. reach N P d k (suc (suc d))) (λ k. held N P k (suc d)) (held N P (suc (suc d)) (suc d))

  abbrev pub right_after : ℕ
  right_after = pairs N d (reach N P d (suc (suc d))) (held N P (suc d)) (held N P (suc d) (suc (suc d)))

module _ (N d : ℕ) (P Q : Plan)
    (same : (i j : ℕ) → Inside N i j → ltb 0 (position Q (label N i j)) ≡ ltb 0 (position P (label N (other (suc d) i) (other (suc d) j))))
    (inside : suc (suc d) ≤ N) where
  abbrev t : ℕ
  t = suc d

  abbrev s : ℕ
  s = suc (suc d)

  place : (i j : ℕ) → 1 ≤ i → i ≤ N → 1 ≤ j → j ≤ N → Inside N i j
  place i j a b c e = record { row_low = a; row-high = b; column-low = c; column-high = e }

  -- ---- the batches that stay

  batch-before : (m : ℕ) → 1 ≤ m → m < t → batch_slots N Q m ≡ batch_slots N P m
  batch-before m low h = ap₂ ◌+◌ (ap₂ ◌+◌ pivot down) right
    where
      stays : other t m ≡ m
      stays = other-same t m (λ z. omega arith) (λ z. omega arith)

      pivot : bit (held N Q m m) ≡ bit (held N P m m)
      pivot = ap bit (held-before N d P Q same inside m m (place m m low (omega arith) low (omega arith)) (omega arith) ∙ ap₂ (held N P) stays stays)

      down : down_of N Q m ≡ down_of N P m
      down =
          rising-same _ (λ i. bit (held N P (other t i) m)) (suc m) (N - m) (λ i a b. ap bit
          (held-before N d P Q same inside i m (place i m (omega arith) (omega arith) low (omega arith)) (omega arith) ∙ ap (held N P (other t i)) stays))
          ∙ rising-other (λ i. bit (held N P i m)) t (suc m) (N - m) h (omega arith)

      right : right_of N Q m ≡ right_of N P m
      right =
          rising-same _ (λ j. bit (held N P m (other t j))) (suc m) (N - m) (λ j a b. ap bit
          (held-before N d P Q same inside m j (place m j low (omega arith) (omega arith) (omega arith)) (omega arith) ∙ ap (λ n. held N P n (other t j)) stays))
          ∙ rising-other (λ j. bit (held N P m j)) t (suc m) (N - m) h (omega arith)

  batch-after : (m : ℕ) → s < m → m ≤ N → batch_slots N Q m ≡ batch_slots N P m
  batch-after m h high = ap₂ ◌+◌ (ap₂ ◌+◌ (one m m (omega arith) high (omega arith) high)
      (rising-same _ _ (suc m) (N - m) (λ i a b. one i m (omega arith) (omega arith) (omega arith) high)))
      (rising-same _ _ (suc m) (N - m) (λ j a b. one m j (omega arith) high (omega arith) (omega arith)))
    where
      one : (i j : ℕ) → m ≤ i → i ≤ N → m ≤ j → j ≤ N → bit (held N Q i j) ≡ bit (held N P i j)
      one i j a b c e = ap bit (held_after N d P Q same inside i j (place i j (omega arith) b (omega arith) e) (omega arith))

  -- ---- the two that change

  -- the sum over the lines past both rooms
  abbrev past : (ℕ → Bool) → ℕ
  past f = total (rising (λ k. bit (f k)) (suc s) (N - s))

  first_split : (f : ℕ → Bool) → total (rising (λ k. bit (f k)) (suc t) (N - t)) ≡ bit (f s) + past f
  unfolding total rising
  first_split f = let size : N - t ≡ suc (N - s) = omega arith in ap (λ n. total (rising (λ k. bit (f k)) (suc t) n)) size

  pairs_are : (first second both : ℕ → Bool) (linked : Bool) → ((k : ℕ) → s < k → k ≤ N → both k ≡ (second k || (first k && linked)))
      → pairs N d first second linked ≡ past first + past both
  pairs_are first second both linked e =
      rising_both (λ k. bit (first k)) (λ k. bit (second k || (first k && linked))) (suc s) (N - s)
      ∙ ap (λ n. past first + n) (sym (rising-same _ _ (suc s) (N - s) (λ k a b. ap bit (e k a (omega arith)))))

  -- any plan whose lines are so
  two_batches : (L : Plan) (down right : ℕ → Bool) (under over : Bool)
      → ((k : ℕ) → s < k → k ≤ N → held N L k s ≡ (down k || (held N L k t && over)))
      → ((k : ℕ) → s < k → k ≤ N → held N L s k ≡ (right k || (held N L t k && under)))
      → held N L s t ≡ under → held N L t s ≡ over
      → batch_slots N L t + batch_slots N L s ≡ bit (held N L t t) + bit (held N L s s) + bit under + bit over
      + (pairs N d (λ k. held N L k t) down over + pairs N d (held N L t) right under)
  two_batches L down right under over e f g h =
      omega (
        arith,
        first_split (λ k. held N L k t),
        first_split (held N L t),
        ap bit g,
        ap bit h,
        pairs_are (λ k. held N L k t) down (λ k. held N L k s) over e,
        pairs_are (held N L t) right (held N L s) under f,
      )

  batches_before : batch_slots N P t + batch_slots N P s ≡ bit (held N P t t) + bit (held N P s s) + bit (held N P s t) + bit (held N P t s) + (down_before N d P + right_before N d P)
  batches_before =
      two_batches P (λ k. reach N P d k s) (reach N P d s) (held N P s t) (held N P t s)
      (λ k a b. down-after N d P k (omega arith)) (λ k a b. right-after N d P k (omega arith)) refl refl

  batches-after : batch_slots N Q t + batch_slots N Q s ≡ bit (held N Q t t) + bit (held N Q s s) + bit (held N P t s) + bit (held N P s t) + (down_after N d P + right_after N d P)
  batches-after =
      two_batches Q (λ k. held N P k t) (held N P t) (held N P t s) (held N P s t)
      (λ k a b. down_next N d P Q same inside k a b) (λ k a b. right_next N d P Q same inside k a b) (under_now N d P Q same inside) (over_now N d P Q same inside)
      ∙ ap (λ n. bit (held N Q t t) + bit (held N Q s s) + bit (held N P t s) + bit (held N P s t) + n)
      (ap₂ ◌+◌
      (rising-same _ _ (suc s) (N - s) (λ k a b. ap (λ c. pair c (held N P k t) (held N P s t)) (down_now N d P Q same inside k a (omega arith))))
      (rising-same _ _ (suc s) (N - s) (λ k a b. ap (λ c. pair c (held N P t k) (held N P t s)) (right_now N d P Q same inside k a (omega arith)))))

  pub exchanged-slots : missing N P ≡ 0 → reach N P d s s ≡ true → slots N Q + (down_before N d P + right_before N d P) ≡ slots N P + (down_after N d P + right_after N d P)
  exchanged-slots pivots first =
      let sums = rising_but_two (batch_slots N P) (batch_slots N Q) t 1 N apart (omega arith) (omega arith) in
      let now : held N Q t t ≡ true = first_now N d P Q same inside ∙ first in
      let next : held N Q s s ≡ true = second_now N d P Q same inside ∙ ap (λ b. b || (held N P t s && held N P s t)) pivot in
      omega (
        arith,
        slots_by_batches N P,
        slots_by_batches N Q,
        sums,
        batches_before,
        batches-after,
        ap bit now,
        ap bit next,
        ap bit pivot,
        ap bit (pivot-held N P pivots s (omega arith) inside),
      )
    where
      pivot : held N P t t ≡ true
      pivot = pivot-held N P pivots t (omega arith) (omega arith)

      apart : (k : ℕ) → 1 ≤ k → k < 1 + N → (k ≡ t → ⊥) → (k ≡ s → ⊥) → batch_slots N Q k ≡ batch_slots N P k
      apart k low high a b = step (ltb k t) refl
        where
          step : (c : Bool) → ltb k t ≡ c → batch_slots N Q k ≡ batch_slots N P k
          step true e = batch-before k low (ltb-true k t e)
          step false e = batch-after k (omega (arith, ltb-false k t e)) (omega arith)

  -- ---- whether it is accepted

  pivots_now : missing N P ≡ 0 → reach N P d s s ≡ true → (m : ℕ) → 1 ≤ m → m ≤ N → held N Q m m ≡ true
  pivots_now pivots first m low high = step (eqb m t) refl (eqb m s) refl (ltb m t) refl
    where
      here : held N P m m ≡ true
      here = pivot-held N P pivots m low high

      pivot : Inside N m m
      pivot = place m m low high low high

      step : (a : Bool) → eqb m t ≡ a → (b : Bool) → eqb m s ≡ b → (c : Bool) → ltb m t ≡ c → held N Q m m ≡ true
      step true e b f c g = rw (eqb-true m t e) (first_now N d P Q same inside ∙ first)
      step false e true f c g = rw (eqb-true m s f)
          (second_now N d P Q same inside ∙ ap (λ b. b || (held N P t s && held N P s t)) (pivot-held N P pivots t (omega arith) (omega arith)))
      step false e false f true g =
          let stays = other-same t m (eqb-false m t e) (eqb-false m s f) in
          held-before N d P Q same inside m m pivot (omega (arith, ltb-true m t g)) ∙ ap₂ (held N P) stays stays ∙ here
      step false e false f false g =
          held_after N d P Q same inside m m pivot (omega (arith, ltb-false m t g, eqb-false m t e, eqb-false m s f)) ∙ here

  pub exchanged_accepted : missing N P ≡ 0 → eqb (missing N Q) 0 ≡ reach N P d s s
  exchanged_accepted pivots = step (reach N P d s s) refl
    where
      none : reach N P d s s ≡ true → (b : Bool) → eqb (missing N Q) 0 ≡ b → b ≡ true
      none first true e = refl
      none first false e =
          let gone = missing-free N Q (eqb-false (missing N Q) 0 e) in
          absurd (true≢false (sym (pivots_now pivots first (missing N Q) gone.low gone.high) ∙ gone.free))

      step : (b : Bool) → reach N P d s s ≡ b → eqb (missing N Q) 0 ≡ b
      step true first = none first (eqb (missing N Q) 0) refl
      step false first =
          ne_eqb (missing N Q) 0 (λ e. true≢false (sym (pivot-held N Q e t (omega arith) (omega arith)) ∙ first_now N d P Q same inside ∙ first))

  -- The headline: an exchange is kept where its first pivot is there without the exchanged room, and the two batches have fewer slots.
  pub exchange_kept : missing N P ≡ 0 → (eqb (missing N Q) 0 && ltb (slots N Q) (slots N P)) ≡ (reach N P d s s && ltb (down_after N d P + right_after N d P) (down_before N d P + right_before N d P))
  exchange_kept pivots = rw (exchanged_accepted pivots) (step (reach N P d s s) refl)
    where
      step : (b : Bool) → reach N P d s s ≡ b → (b && ltb (slots N Q) (slots N P)) ≡ (b && ltb (down_after N d P + right_after N d P) (down_before N d P + right_before N d P))
      step true first = less_alike (slots N Q) (slots N P) _ _ (exchanged-slots pivots first)
      step false first = refl
