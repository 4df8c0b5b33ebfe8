-- A numbering names each of 1..N once: a sum over its entries is one over 1..N, and an exchange keeps it one. For document 02, A.12.
use Prim.Native.Nat.{ℕ, zero, suc, ◌+◌, ◌-◌, ◌≤◌, ◌<◌}
use native.Mathlib.Nat.{le-suc_iff}
use native.Mathlib.Omega.{arith}
use mathlib.Core.Path.{◌≡◌, refl, sym, ap, ◌∙◌}
use mathlib.Core.Bool.{Bool, true, false, not, cond, ◌&&◌, ◌||◌, and-eq-true_iff, true≢false}
use mathlib.Core.List.{List, [], ◌∷◌, ◌++◌, map}
use mathlib.Core.Logic.{⊎_elim}
use borrow.Author.Tests.{eqb-true, eqb-false, eq-eqb, ne_eqb, not-true}
use lib.Dec.{eqb}
use lib.ListN.{length, get_or, set}
use Rattle.model.specs.Lists.{rising, total, count}
use Rattle.model.specs.Path.{named, distinct}
use Rattle.model.specs.Numbering.{Numbering, given_at, given_numbering, exchanged, IsNumbering}
use Rattle.model.proofs.Lists.{length-rising, get_or-rising, rising_add}
use Rattle.model.proofs.Sums.{rising-same, rising_constant, rising_but_one, count-at_most}
use Rattle.model.proofs.Route.{named_cases, named_here, named-later, named_count}

-- ---- its entries

entry_named : (p : Numbering) (k : ℕ) → k < length p → named (get_or p k 0) p ≡ true
entry_named [] k h = absurd (omega arith)
entry_named (x ∷ p) zero h = named_here x p
entry_named (x ∷ p) (suc k) h = named-later (get_or p k 0) x p (entry_named p k (omega arith))

pub given-range : (N : ℕ) (p : Numbering) → IsNumbering N p → (i : ℕ) → 1 ≤ i → i ≤ N → (1 ≤ given_at p i) × (given_at p i ≤ N)
given-range N p n i low high = n.range (given_at p i) (entry_named p (i - 1) (omega (arith, n.size)))

-- no two of them are the same
pub entries_differ : (p : Numbering) → distinct p ≡ true → (a b : ℕ) → a < b → b < length p → get_or p a 0 ≡ get_or p b 0 → ⊥
unfolding distinct
entries_differ [] d a b h l e = omega arith
entries_differ (x ∷ p) d a zero h l e = omega arith
entries_differ (x ∷ p) d zero (suc b) h l e =
    let s = (and-eq-true_iff (not (named x p)) (distinct p)).0 d in
    true≢false (sym (ap (λ r. named r p) e ∙ entry_named p b (omega arith)) ∙ not-true (named x p) s.0)
entries_differ (x ∷ p) d (suc a) (suc b) h l e =
    entries_differ p ((and-eq-true_iff (not (named x p)) (distinct p)).0 d).1 a b (omega arith) (omega arith) e

-- r is one of them
pub record Entered (p : Numbering) (r : ℕ) : Type 0 where
  pub index : ℕ
  pub below : index < length p
  pub entry : get_or p index 0 ≡ r

named-at : (r : ℕ) (p : Numbering) → named r p ≡ true → Entered p r
unfolding named
named-at r [] m = absurd (true≢false (sym m))
named-at r (x ∷ p) m =
    ⊎_elim
    (λ e. record { index = 0; below = omega arith; entry = sym e })
    (λ q. let rest = named-at r p q in record { index = suc rest.index; below = omega (arith, rest.below); entry = rest.entry })
    (named_cases r x p m)

-- ---- a sum over them

named-total : (f : ℕ → ℕ) (n : ℕ) (es : List ℕ) → distinct es ≡ true → ((x : ℕ) → named x es ≡ true → (1 ≤ x) × (x ≤ n))
    → total (map f es) ≡ total (rising (λ k. cond (named k es) (f k) 0) 1 n)
unfolding distinct named total
named-total f n [] d inside = sym (rising_constant (λ k. 0) 0 1 n (λ k low high. refl) ∙ omega arith)
named-total f n (e ∷ es) d inside =
    let s = (and-eq-true_iff (not (named e es)) (distinct es)).0 d in
    let r = inside e (named_here e es) in
    let sum = rising_but_one (λ k. cond (named k es) (f k) 0) (λ k. cond (eqb e k || named k es) (f k) 0) e 1 n
    (λ k low high z. rw (ne_eqb e k (λ q. z (sym q)))) r.0 (omega arith) in
    let here : cond (eqb e e || named e es) (f e) 0 ≡ f e = rw (eq-eqb e e refl) in
    let gone : cond (named e es) (f e) 0 ≡ 0 = rw (not-true (named e es) s.0) in
    omega (arith, named-total f n es s.1 (λ x m. inside x (named-later x e es m)))

count-full : (t : ℕ → Bool) (n : ℕ) → count t n ≡ n → (k : ℕ) → 1 ≤ k → k ≤ n → t k ≡ true
unfolding count
count-full t zero e k low high = absurd (omega arith)
count-full t (suc n) e k low high = step (t (suc n)) refl e (λ q. count-full t n q k low)
  where
    step : (b : Bool) → t (suc n) ≡ b → cond b (suc (count t n)) (count t n) ≡ suc n → (count t n ≡ n → k ≤ n → t k ≡ true) → t k ≡ true
    step true p q rest = ⊎_elim (rest (omega arith)) (λ h. rw h p) (le-suc_iff.0 high)
    step false p q rest = absurd (omega (arith, count-at_most t n))

indexed : (f : ℕ → ℕ) (p : Numbering) (a : ℕ) → total (rising (λ i. f (get_or p (i - a) 0)) a (length p)) ≡ total (map f p)
unfolding total rising
indexed f [] a = refl
indexed f (x ∷ p) a =
    let none : a - a ≡ 0 = omega arith in
    let rest = rising-same (λ i. f (get_or (x ∷ p) (i - a) 0)) (λ i. f (get_or p (i - suc a) 0)) (suc a) (length p)
    (λ k low high. let later : k - a ≡ suc (k - suc a) = omega arith in rw later) in
    rw none (omega (arith, indexed f p (suc a)))

all_named : (N : ℕ) (p : Numbering) → IsNumbering N p → (k : ℕ) → 1 ≤ k → k ≤ N → named k p ≡ true
all_named N p n = count-full (λ k. named k p) N (named_count N p n.once n.range ∙ n.size)

-- The first headline: a numbering only changes the order of a sum.
pub permuted : (N : ℕ) (p : Numbering) → IsNumbering N p → (f : ℕ → ℕ) → total (rising (λ i. f (given_at p i)) 1 N) ≡ total (rising f 1 N)
permuted N p n f =
    ap (λ m. total (rising (λ i. f (given_at p i)) 1 m)) (sym n.size) ∙ indexed f p 1 ∙ named-total f N p n.once n.range
    ∙ rising-same _ f 1 N (λ k low high. rw (all_named N p n k low (omega arith)))

-- each of 1..N is an entry
pub given_onto : (N : ℕ) (p : Numbering) → IsNumbering N p → (r : ℕ) → 1 ≤ r → r ≤ N → Entered p r
given_onto N p n r low high = named-at r p (all_named N p n r low high)

-- ---- an exchange

swapped : ℕ → Numbering → Numbering
swapped k [] = []
swapped zero (a ∷ []) = a ∷ []
swapped zero (a ∷ b ∷ p) = b ∷ a ∷ p
swapped (suc k) (a ∷ p) = a ∷ swapped k p

swap_is : (k : ℕ) (p : Numbering) → suc k < length p → set (set p k (get_or p (suc k) 0)) (suc k) (get_or p k 0) ≡ swapped k p
unfolding swapped
swap_is k [] h = absurd (omega arith)
swap_is zero (a ∷ []) h = absurd (omega arith)
swap_is zero (a ∷ b ∷ p) h = refl
swap_is (suc k) (a ∷ p) h = ap (λ l. a ∷ l) (swap_is k p (omega arith))

swap_length : (k : ℕ) (p : Numbering) → length (swapped k p) ≡ length p
unfolding swapped
swap_length k [] = refl
swap_length zero (a ∷ []) = refl
swap_length zero (a ∷ b ∷ p) = refl
swap_length (suc k) (a ∷ p) = ap suc (swap_length k p)

or_swap : (a b c : Bool) → (a || (b || c)) ≡ (b || (a || c))
or_swap true true c = refl
or_swap true false c = refl
or_swap false b c = refl

swap_named : (x k : ℕ) (p : Numbering) → named x (swapped k p) ≡ named x p
unfolding swapped named
swap_named x k [] = refl
swap_named x zero (a ∷ []) = refl
swap_named x zero (a ∷ b ∷ p) = or_swap (eqb b x) (eqb a x) (named x p)
swap_named x (suc k) (a ∷ p) = ap (λ b. eqb a x || b) (swap_named x k p)

eqb_swap : (a b : ℕ) → eqb a b ≡ eqb b a
eqb_swap a b = step (eqb b a) refl
  where
    step : (c : Bool) → eqb b a ≡ c → eqb a b ≡ c
    step true e = eq-eqb a b (sym (eqb-true b a e))
    step false e = ne_eqb a b (λ q. eqb-false b a e (sym q))

swap_distinct : (k : ℕ) (p : Numbering) → distinct (swapped k p) ≡ distinct p
unfolding swapped distinct named
swap_distinct k [] = refl
swap_distinct zero (a ∷ []) = refl
swap_distinct zero (a ∷ b ∷ p) = rw (eqb_swap a b) (step (eqb b a) (named a p) (named b p) (distinct p))
  where
    step : (c m n d : Bool) → (not (c || n) && (not m && d)) ≡ (not (c || m) && (not n && d))
    step true m n d = refl
    step false true true d = refl
    step false true false d = refl
    step false false true d = refl
    step false false false d = refl
swap_distinct (suc k) (a ∷ p) = rw (swap_named a k p, swap_distinct k p)

-- The second headline.
pub exchange_keeps : (N : ℕ) (p : Numbering) (t : ℕ) → suc t < N → IsNumbering N p → IsNumbering N (exchanged p (suc t))
unfolding exchanged
exchange_keeps N p t h n =
    let one : suc t - 1 ≡ t = omega arith in
    let two : suc (suc t) - 1 ≡ suc t = omega arith in
    let e : set (set p (suc t - 1) (get_or p (suc (suc t) - 1) 0)) (suc t) (get_or p (suc t - 1) 0) ≡ swapped t p =
    rw (one, two) (swap_is t p (omega (arith, n.size))) in
    rw e (record { size = swap_length t p ∙ n.size; once = swap_distinct t p ∙ n.once; range = λ r m. n.range r (sym (swap_named r t p) ∙ m) })

-- ---- the given numbering

row-range : (a n r : ℕ) → named r (rising (λ i. i) a n) ≡ true → (a ≤ r) × (r < a + n)
unfolding rising named
row-range a zero r m = let z : ◌≡◌ {A = ℕ} 0 1 = cc in absurd (omega arith)
row-range a (suc n) r m =
    ⊎_elim (λ q. (omega arith, omega arith)) (λ q. let u = row-range (suc a) n r q in (omega arith, omega arith)) (named_cases r a (rising (λ i. i) (suc a) n) m)

row-once : (a n : ℕ) → distinct (rising (λ i. i) a n) ≡ true
unfolding rising distinct
row-once a zero = refl
row-once a (suc n) = rw (row-once (suc a) n) (step (named a (rising (λ i. i) (suc a) n)) refl)
  where
    step : (b : Bool) → named a (rising (λ i. i) (suc a) n) ≡ b → (not b && true) ≡ true
    step true m = absurd (omega (arith, (row-range (suc a) n a m).0))
    step false m = refl

pub given-numbering : (N : ℕ) → IsNumbering N (given_numbering N)
unfolding given_numbering
given-numbering N = record {
  size = length-rising (λ i. i) 1 N;
  once = row-once 1 N;
  range = λ r m. let u = row-range 1 N r m in (u.0, omega arith);
}

pub given-none : given_numbering 0 ≡ []
unfolding given_numbering rising
given-none = refl

pub given_more : (n : ℕ) → given_numbering (n + 1) ≡ given_numbering n ++ ((n + 1) ∷ [])
unfolding given_numbering rising
given_more n = rising_add (λ i. i) 1 n 1 ∙ ap (λ k. rising (λ i. i) 1 n ++ (k ∷ [])) (omega arith)

pub given_itself : (N i : ℕ) → 1 ≤ i → i ≤ N → given_at (given_numbering N) i ≡ i
unfolding given_numbering
given_itself N i low high = get_or-rising (λ i. i) 1 N (i - 1) 0 (omega arith) ∙ omega arith
