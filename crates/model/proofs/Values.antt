-- The value of one formula: every number is good; a product with a factor that isn't held changes nothing; so the reduced formula of a place
-- has dense Crout's value, and a place that isn't held has +0.
use Prim.Native.Nat.{ℕ, zero, suc, ◌-◌, ◌≤◌, ◌<◌}
use native.Mathlib.Decide.{dec_le}
use native.Mathlib.Omega.{arith}
use mathlib.Core.Path.{◌≡◌, refl, sym, ap, ap₂, subst, ◌∙◌}
use mathlib.Core.Bool.{Bool, true, false, cond, ◌&&◌}
use mathlib.Core.List.Memᴰ
use mathlib.Core.List.{List, [], ◌∷◌, ◌++◌, map}
use borrow.Author.Tests.{eqb-true, eqb-false, eq-eqb, ne_eqb}
use lib.Dec.{eqb, ltb, eqb-zero-suc, eqb-suc-zero, eqb-suc-suc}
use lib.ListN.{length, get_or, length-append}
use lib.Ieee.{Float}
use Rattle.model.specs.Lists.{kept}
use Rattle.model.specs.Label.{label}
use Rattle.model.specs.Fill.{Plan, position, held, slot}
use Rattle.model.specs.Arith.{plus_zero, Answer, number, overflow, zero_divisor, clean, is_finite, is_zero, is_small, is_limit, next}
use Rattle.model.specs.Arith.{product, difference, quotient, vanishes}
use Rattle.model.specs.Formula.{Table, C, Y, X, Tables, Formula, put, put_x, entry, closed, starting, less, less_all, over, tested, value, vanished_in}
use Rattle.model.specs.Crout.{inner, lower, forward, upper, backward, nothing}
use Rattle.model.specs.Run.{not_finite}
use Rattle.model.specs.Agreement.{Values}
use Rattle.model.proofs.Lists.{Each, rising-each, falling-each}
use Rattle.model.proofs.Search.{kept-none}
use Rattle.model.proofs.Labels.{Inside, label_in_row, label-range, label_injective}
use Rattle.model.proofs.Fill.{not_held}
use Rattle.model.proofs.Slots.{slot-range}
use Rattle.model.proofs.Arith.{Good, nought, GoodAnswer, clean-good, difference-good, quotient-good}
use Rattle.model.proofs.Arith.{product_nought_left, product_nought_right, quotient_nought, difference_nought, small_nought, large_nonzero}
use Rattle.model.proofs.Arith.{vanishes-left, vanishes_right}
use Rattle.model.proofs.Tally.{vanished_by, vanished_in_cons}
use Rattle.model.proofs.Put.{put-end}
use Rattle.model.proofs.Picked.{shrunk, entry-held}
use Rattle.model.proofs.Beside.{dense_of, reduced_of, formula_lower, formula_upper}

-- ---- lists of good values, +0 past their end

pub record AllGood (vs : List Float) : Type 0 where
  pub at : (k : ℕ) → Good (get_or vs k plus_zero)

finite_good : (p : ℕ) (vs : List Float) → 1 ≤ p → Values vs → not_finite p vs ≡ 0 → (k : ℕ) → Good (clean (get_or vs k plus_zero))
unfolding not_finite clean
finite_good p [] h fit e k = nought
finite_good p (v ∷ vs) h fit e k = step (is_finite v) refl e (finite_good (suc p) vs (omega arith) (λ k. fit (suc k))) k
  where
    step : (b : Bool) → is_finite v ≡ b → cond b (not_finite (suc p) vs) p ≡ 0
        → (not_finite (suc p) vs ≡ 0 → (k : ℕ) → Good (clean (get_or vs k plus_zero))) → (k : ℕ) → Good (clean (get_or (v ∷ vs) k plus_zero))
    step true f e rest zero = clean-good v f (fit 0)
    step true f e rest (suc k) = rest e k
    step false f e rest k = absurd (omega arith)

-- finite values are read as good ones
pub reads-good : (vs : List Float) → Values vs → not_finite 1 vs ≡ 0 → (k : ℕ) → Good (clean (get_or vs k plus_zero))
reads-good vs = finite_good 1 vs (omega arith)

-- the last of a longer list, and those before it
get_or_more : (vs : List Float) (v : Float) (k : ℕ) → get_or (vs ++ (v ∷ [])) k plus_zero ≡ cond (eqb k (length vs)) v (get_or vs k plus_zero)
get_or_more [] v zero = refl
get_or_more [] v (suc k) = rw eqb-suc-zero
get_or_more (w ∷ vs) v zero = rw eqb-zero-suc
get_or_more (w ∷ vs) v (suc k) = get_or_more vs v k ∙ rw eqb-suc-suc

-- what holds of each of two values in its case holds of the one that the test picks
either : (P : Float → Type 0) (b : Bool) (v w : Float) → (b ≡ true → P v) → (b ≡ false → P w) → P (cond b v w)
either P true v w p q = p refl
either P false v w p q = q refl

more_good : {vs : List Float} {v : Float} → AllGood vs → Good v → AllGood (vs ++ (v ∷ []))
more_good {vs} {v} g h = record { at = λ k. rw get_or_more (either Good (eqb k (length vs)) v (get_or vs k plus_zero) (λ e. h) (λ e. g.at k)) }

first_good : {vs : List Float} {v : Float} → AllGood vs → Good v → AllGood (v ∷ vs)
first_good g h = record { at = elim [ zero ↦ h | suc k ↦ g.at k ] }

put-good : (vs : List Float) (k : ℕ) {v : Float} → AllGood vs → Good v → AllGood (put vs k v)
unfolding put
put-good [] k g h = first_good g h
put-good (w ∷ vs) zero g h = first_good (record { at = λ k. g.at (suc k) }) h
put-good (w ∷ vs) (suc k) g h = first_good (put-good vs k (record { at = λ k. g.at (suc k) }) h) (g.at 0)

pub put_x-good : (before : ℕ) (vs : List Float) (k : ℕ) {v : Float} → AllGood vs → Good v → AllGood (put_x before vs k v)
unfolding put_x
put_x-good before vs k {v} g h = step (ltb before k)
  where
    step : (b : Bool) → AllGood (cond b (put vs (k - 1 - before) v) (v ∷ vs))
    step true = put-good vs (k - 1 - before) g h
    step false = first_good g h

-- ---- what every answer is, whatever the tables

next-good : (a : Answer) (f : Float → Answer) → ((v : Float) → GoodAnswer (f v)) → GoodAnswer (next a f)
unfolding next
next-good (number v) f g = g v
next-good overflow f g = tt
next-good zero_divisor f g = tt

less-good : (acc a b : Float) → GoodAnswer (less acc a b)
unfolding less
less-good acc a b = next-good (product a b) (λ p. difference acc p) (difference-good acc)

less_all-good : (t : Tables) (tb : Table) (a : Answer) (ps : List (ℕ × ℕ)) → GoodAnswer a → GoodAnswer (less_all t tb a ps)
unfolding less_all
less_all-good t tb a [] g = g
less_all-good t tb a (pq ∷ ps) g =
    let minus = λ (v : Float). less v (entry t C pq.0) (entry t tb pq.1) in
    less_all-good t tb (next a minus) ps (next-good a minus (λ v. less-good v (entry t C pq.0) (entry t tb pq.1)))

over-good : (t : Tables) (d : ℕ) (a : Answer) → GoodAnswer a → GoodAnswer (over t d a)
unfolding over
over-good t d a g = step (eqb d 0)
  where
    step : (b : Bool) → GoodAnswer (cond b a (next a (λ acc. quotient acc (entry t C d))))
    step true = g
    step false = next-good a _ (λ v. quotient-good v (entry t C d))

tested-good : (limit : Float) (p : Bool) (a : Answer) → GoodAnswer a → GoodAnswer (tested limit p a)
unfolding tested next
tested-good limit false a g = g
tested-good limit true overflow g = tt
tested-good limit true zero_divisor g = tt
tested-good limit true (number v) g = step (is_small limit v)
  where
    step : (b : Bool) → GoodAnswer (cond b zero_divisor (number v))
    step true = tt
    step false = g

-- a number that passes the pivot test isn't small
tested-large : (limit : Float) (a : Answer) (v : Float) → tested limit true a ≡ number v → is_small limit v ≡ false
unfolding tested next
tested-large limit overflow v e = let z : ◌≡◌ {A = ℕ} 0 1 = cc in absurd (omega arith)
tested-large limit zero_divisor v e = let z : ◌≡◌ {A = ℕ} 0 1 = cc in absurd (omega arith)
tested-large limit (number w) v e = step (is_small limit w) refl e
  where
    step : (b : Bool) → is_small limit w ≡ b → cond b zero_divisor (number w) ≡ number v → is_small limit v ≡ false
    step true f e = let z : ◌≡◌ {A = ℕ} 0 1 = cc in absurd (omega arith)
    step false f e = let same : w ≡ v = cc in rw same at f

-- the value of a formula with a good start is good
pub value-good : (A B : List Float) (limit : Float) (t : Tables) (f : Formula) → Good (starting A B t f.table f.start) → GoodAnswer (value A B limit t f)
unfolding value
value-good A B limit t f g = tested-good limit f.pivot _ (over-good t f.divisor _ (less_all-good t f.table _ f.products g))

-- ---- products that may be left out

-- a product with a factor +0: it is +0, and not one that vanishes
pub record Trivial (a b : Float) : Type 0 where
  is_nought : product a b ≡ number plus_zero
  uncounted : vanishes a b ≡ false

pub trivial_left : {b : Float} → Good b → Trivial plus_zero b
trivial_left good = record { is_nought = product_nought_left good; uncounted = vanishes-left _ }

trivial_right : {a : Float} → Good a → Trivial a plus_zero
trivial_right good = record { is_nought = product_nought_right good; uncounted = vanishes_right _ }

-- a pair of dense Crout's, and the reduced formulas' pair for it where it is kept; where it isn't, its product is trivial
pub data Alike (t u : Tables) (tb : Table) (p q : ℕ × ℕ) : Bool → Type 0 where
  same : entry u C q.0 ≡ entry t C p.0 → entry u tb q.1 ≡ entry t tb p.1 → Alike t u tb p q true
  dropped : Trivial (entry t C p.0) (entry t tb p.1) → Alike t u tb p q false

less_trivial : (acc : Answer) (a b : Float) → GoodAnswer acc → Trivial a b → next acc (λ v. less v a b) ≡ acc
unfolding next less
less_trivial (number v) a b g e = rw e.is_nought (difference_nought g)
less_trivial overflow a b g e = refl
less_trivial zero_divisor a b g e = refl

-- leaving out trivial products changes no value
pub less_all-same : (t u : Tables) (tb : Table) (f g : ℕ → ℕ × ℕ) (p : ℕ → Bool) (hs : List ℕ)
    → Each (λ h. Alike t u tb (f h) (g h) (p h)) hs → (a : Answer) → GoodAnswer a
    → less_all u tb a (map g (kept p hs)) ≡ less_all t tb a (map f (kept (λ h. true) hs))
unfolding less_all kept
less_all-same t u tb f g p [] each a good = refl
less_all-same t u tb f g p (h ∷ hs) each a good = step (p h) (each h (Memᴰ.head refl)) (less_all-same t u tb f g p hs (λ k m. each k (Memᴰ.tail m)))
  where
    after : Float → Float → Answer
    after x y = next a (λ v. less v x y)

    step : (b : Bool) → Alike t u tb (f h) (g h) b
        → ((a : Answer) → GoodAnswer a → less_all u tb a (map g (kept p hs)) ≡ less_all t tb a (map f (kept (λ h. true) hs)))
        → less_all u tb a (map g (cond b (h ∷ kept p hs) (kept p hs)))
        ≡ less_all t tb (after (entry t C (f h).0) (entry t tb (f h).1)) (map f (kept (λ h. true) hs))
    step true (same i j) rest =
        ap₂ (λ x y. less_all u tb (after x y) (map g (kept p hs))) i j
        ∙ rest _ (next-good a _ (λ v. less-good v (entry t C (f h).0) (entry t tb (f h).1)))
    step false (dropped e) rest = rest a good ∙ ap (λ b. less_all t tb b (map f (kept (λ h. true) hs))) (sym (less_trivial a _ _ good e))

-- and loses none that vanishes
pub vanished-same : (t u : Tables) (tb : Table) (f g : ℕ → ℕ × ℕ) (p : ℕ → Bool) (hs : List ℕ) → Each (λ h. Alike t u tb (f h) (g h) (p h)) hs
    → vanished_in u tb (map g (kept p hs)) ≡ vanished_in t tb (map f (kept (λ h. true) hs))
unfolding kept vanished_in
vanished-same t u tb f g p [] each = refl
vanished-same t u tb f g p (h ∷ hs) each = step (p h) (each h (Memᴰ.head refl)) (vanished-same t u tb f g p hs (λ k m. each k (Memᴰ.tail m)))
  where
    step : (b : Bool) → Alike t u tb (f h) (g h) b → vanished_in u tb (map g (kept p hs)) ≡ vanished_in t tb (map f (kept (λ h. true) hs))
        → vanished_in u tb (map g (cond b (h ∷ kept p hs) (kept p hs))) ≡ vanished_in t tb (f h ∷ map f (kept (λ h. true) hs))
    step true (same i j) rest = rw (vanished_in_cons u, vanished_in_cons t, i, j, rest)
    step false (dropped e) rest = rw (vanished_in_cons t, e.uncounted) (omega arith)

-- ---- dense Crout's tables while they are worked out

-- n entries of C are closed; every entry is good, those of places that aren't held are +0, and closed pivots aren't zero
pub record Sound (N : ℕ) (L : Plan) (n : ℕ) (t : Tables) : Type 0 where
  pub count : length t.c ≡ n
  pub good-c : AllGood t.c
  pub good-y : AllGood t.y
  pub good-x : AllGood t.x
  pub unheld : (i j : ℕ) → Inside N i j → held N L i j ≡ false → entry t C (label N i j) ≡ plus_zero
  pub pivot : (m : ℕ) → 1 ≤ m → m ≤ N → label N m m ≤ n → is_zero (entry t C (label N m m)) ≡ false

-- a number that the place (i, j) may get
pub record Entered (N : ℕ) (L : Plan) (i j : ℕ) (v : Float) : Type 0 where
  pub good : Good v
  pub unheld : held N L i j ≡ false → v ≡ plus_zero
  pub pivot : i ≡ j → is_zero v ≡ false

pub sound-nothing : (N : ℕ) (L : Plan) → Sound N L 0 (nothing N)
unfolding entry
sound-nothing N L = record {
  count = refl;
  good-c = record { at = λ k. nought };
  good-y = record { at = λ k. nought };
  good-x = record { at = λ k. nought };
  unheld = λ i j inside e. refl;
  pivot = λ m low high h. absurd (omega (arith, label-range N m m (omega arith)));
}

-- one entry more
module _ {N n : ℕ} {L : Plan} {t : Tables} {v : Float} (sound : Sound N L n t) where
  pub sound-c : (i j : ℕ) → Inside N i j → suc n ≡ label N i j → Entered N L i j v → Sound N L (suc n) (closed t C (label N i j) v)
  unfolding entry closed
  sound-c i j inside turn entered = rw (put-end t.c (label N i j - 1) v (omega (arith, sound.count))) record {
    count = rw length-append (omega arith);
    good-c = more_good sound.good-c entered.good;
    good-y = sound.good-y;
    good-x = sound.good-x;
    unheld = λ a b there e. rw get_or_more (either (λ w. w ≡ plus_zero) (last (label N a b)) v (entry t C (label N a b))
        (λ q. let (p, r) = here a b there q in entered.unheld (rw (p, r) e)) (λ q. sound.unheld a b there e));
    pivot = λ m low high h. let there : Inside N m m = omega arith in
        rw get_or_more (either (λ w. is_zero w ≡ false) (last (label N m m)) v (entry t C (label N m m))
        (λ q. let (p, r) = here m m there q in entered.pivot (p ∙ sym r)) (λ q. sound.pivot m low high (earlier m there h q)));
  }
    where
      last : ℕ → Bool
      last k = eqb (k - 1) (length t.c)

      here : (a b : ℕ) → Inside N a b → last (label N a b) ≡ true → (i ≡ a) × (j ≡ b)
      here a b there q = label_injective N i j a b inside there (omega (arith, eqb-true (label N a b - 1) (length t.c) q, label-range N a b there))

      earlier : (m : ℕ) → Inside N m m → label N m m ≤ suc n → last (label N m m) ≡ false → label N m m ≤ n
      earlier m there h q = omega (arith, eqb-false (label N m m - 1) (length t.c) q, label-range N m m there)

  pub sound-y : Good v → (k : ℕ) → Sound N L n (closed t Y k v)
  unfolding entry closed
  sound-y good k = record {
    count = sound.count;
    good-c = sound.good-c;
    good-y = more_good sound.good-y good;
    good-x = sound.good-x;
    unheld = sound.unheld;
    pivot = sound.pivot;
  }

  pub sound-x : Good v → (k : ℕ) → Sound N L n (closed t X k v)
  unfolding entry closed
  sound-x good k = record {
    count = sound.count;
    good-c = sound.good-c;
    good-y = sound.good-y;
    good-x = put_x-good _ _ k sound.good-x good;
    unheld = sound.unheld;
    pivot = sound.pivot;
  }

-- ---- the reduced formulas' products beside dense Crout's

pub over-at : (t : Tables) (d : ℕ) (a : Answer) → 1 ≤ d → over t d a ≡ next a (λ v. quotient v (entry t C d))
unfolding over
over-at t d a h = rw (ne_eqb d 0 (λ e. omega arith))

tested_nought : (limit : Float) → is_limit limit ≡ true → (p : Bool) → tested limit p (number plus_zero) ≡ cond p zero_divisor (number plus_zero)
unfolding tested next
tested_nought limit l true = rw (small_nought limit l)
tested_nought limit l false = refl

module _ {N n : ℕ} {L : Plan} {t : Tables} (sound : Sound N L n t) where
  entry-good : (tb : Table) (k : ℕ) → Good (entry t tb k)
  unfolding entry
  entry-good C k = sound.good-c.at (k - 1)
  entry-good Y k = sound.good-y.at (k - 1)
  entry-good X k = sound.good-x.at (k - 1 - (t.order - length t.x))

  alike_pair : (i h j : ℕ) → Inside N i h → Inside N h j → (a b : Bool) → held N L i h ≡ a → held N L h j ≡ b
      → Alike t (shrunk N L t) C (label N i h, label N h j) (slot N L i h, slot N L h j) (a && b)
  alike_pair i h j left right true true p q = same (entry-held N L i h left t p) (entry-held N L h j right t q)
  alike_pair i h j left right true false p q = dropped (rw (sound.unheld h j right q) (trivial_right (entry-good C _)))
  alike_pair i h j left right false b p q = dropped (rw (sound.unheld i h left p) (trivial_left (entry-good C _)))

  alike_single : (tb : Table) (i h : ℕ) → Inside N i h → entry (shrunk N L t) tb h ≡ entry t tb h → (a : Bool) → held N L i h ≡ a
      → Alike t (shrunk N L t) tb (label N i h, h) (slot N L i h, h) a
  alike_single tb i h inside e true p = same (entry-held N L i h inside t p) e
  alike_single tb i h inside e false p = dropped (rw (sound.unheld i h inside p) (trivial_left (entry-good tb _)))

  inner-same : (i j m : ℕ) → Inside N i j → m ≤ i → m ≤ j → (a : Answer) → GoodAnswer a
      → less_all (shrunk N L t) C a (inner N L (slot N L) (held N L) i j m) ≡ less_all t C a (inner N L (label N) (λ i j. true) i j m)
  unfolding inner
  inner-same i j m inside p q a good = less_all-same t (shrunk N L t) C _ _ _ _
      (rising-each _ (λ h. h) 1 (m - 1) (λ h low high. alike_pair i h j (omega arith) (omega arith) (held N L i h) (held N L h j) refl refl)) a good

  singles_same : (tb : Table) (i : ℕ) (hs : List ℕ) → ((h : ℕ) → entry (shrunk N L t) tb h ≡ entry t tb h) → Each (Inside N i) hs → (a : Answer) → GoodAnswer a
      → less_all (shrunk N L t) tb a (map (λ h. (slot N L i h, h)) (kept (λ h. held N L i h) hs))
      ≡ less_all t tb a (map (λ h. (label N i h, h)) (kept (λ h. true) hs))
  singles_same tb i hs e inside a good = less_all-same t (shrunk N L t) tb _ _ _ hs (λ h m. alike_single tb i h (inside h m) (e h) (held N L i h) refl) a good

  over-same : (m : ℕ) → Inside N m m → held N L m m ≡ true → (a : Answer) → over (shrunk N L t) (slot N L m m) a ≡ over t (label N m m) a
  over-same m inside e a = over-at (shrunk N L t) (slot N L m m) a (slot-range N L m m inside e).0
      ∙ ap (λ x. next a (λ v. quotient v x)) (entry-held N L m m inside t e)
      ∙ sym (over-at t (label N m m) a (label-range N m m inside).0)

  -- no pair of a place that isn't held is kept
  inner-none : (i j m : ℕ) → m ≤ i → m ≤ j → held N L i j ≡ false → inner N L (slot N L) (held N L) i j m ≡ []
  unfolding inner
  inner-none i j m p q e =
      ap (map (λ h. (slot N L i h, slot N L h j)))
      (kept-none _ _ (rising-each _ (λ h. h) 1 (m - 1) (λ h low high. (not_held N L i j e).1 h low (omega arith) (omega arith))))

  inner_nought : (i j m : ℕ) → Inside N i j → m ≤ i → m ≤ j → held N L i j ≡ false
      → less_all t C (number plus_zero) (inner N L (label N) (λ i j. true) i j m) ≡ number plus_zero
  unfolding less_all
  inner_nought i j m inside p q e = sym (inner-same i j m inside p q (number plus_zero) nought) ∙ rw (inner-none i j m p q e)

-- ---- values

-- what A and B are read as is good
pub record Reads (A B : List Float) (limit : Float) : Type 0 where
  pub a : (k : ℕ) → Good (clean (get_or A k plus_zero))
  pub b : (k : ℕ) → Good (clean (get_or B k plus_zero))
  pub limited : is_limit limit ≡ true

module _ {N n : ℕ} {L : Plan} {A B : List Float} {limit : Float} {t : Tables} (reads : Reads A B limit) (sound : Sound N L n t) where
  starting-good : (tb : Table) (k : ℕ) → Good (starting A B t tb k)
  unfolding starting
  starting-good C k = either Good (eqb k 0) plus_zero (clean (get_or A (k - 1) plus_zero)) (λ e. nought) (λ e. reads.a (k - 1))
  starting-good Y k = reads.b (k - 1)
  starting-good X k = entry-good sound Y k

  -- every number answered is good
  pub number-good : (f : Formula) {v : Float} → value A B limit t f ≡ number v → Good v
  number-good f e = subst GoodAnswer e (value-good A B limit t f (starting-good f.table f.start))

  unheld_less : (i j m : ℕ) → Inside N i j → m ≤ i → m ≤ j → held N L i j ≡ false
      → less_all t C (number (starting A B t C (position L (label N i j)))) (inner N L (label N) (λ i j. true) i j m) ≡ number plus_zero
  unfolding starting
  unheld_less i j m inside p q e = rw (not_held N L i j e).0 (inner_nought sound i j m inside p q e)

  unheld_lower : (i m : ℕ) → Inside N i m → m ≤ i → held N L i m ≡ false
      → value A B limit t (lower N L (label N) (λ i j. true) i m) ≡ cond (eqb i m) zero_divisor (number plus_zero)
  unfolding value lower over
  unheld_lower i m inside h e = rw (unheld_less i m m inside h (omega arith) e) (tested_nought limit reads.limited (eqb i m))

  unheld_upper : (m j : ℕ) → Inside N m j → m < j → label N m j ≡ suc n → held N L m j ≡ false
      → value A B limit t (upper N L (label N) (λ i j. true) m j) ≡ number plus_zero
  unfolding value upper tested next
  unheld_upper m j inside h turn e =
      let first = (label-range N m m (omega arith)).0 in
      rw (unheld_less m j m inside (omega arith) (omega arith) e, over-at t (label N m m) (number plus_zero) first)
      (quotient_nought (entry-good sound C _) (sound.pivot m (omega arith) (omega arith) (omega (arith, label_in_row N m j (omega arith) (omega arith) h))))

  -- a place that isn't held gets +0, or is refused as a pivot
  pub unheld_value : (i j : ℕ) → Inside N i j → label N i j ≡ suc n → held N L i j ≡ false
      → value A B limit t (dense_of N L i j) ≡ cond (eqb i j) zero_divisor (number plus_zero)
  unheld_value i j inside turn e = elim (dec_le j i) [
    | yes h ↦ rw (formula_lower N L (label N) _ i j h) (unheld_lower i j inside h e)
    | no h ↦ let g : i < j = omega arith in rw (formula_upper N L (label N) _ i j g, ne_eqb i j (λ p. omega arith)) (unheld_upper i j inside g turn e)
  ]

  pivot-value : (i j : ℕ) (v : Float) → i ≡ j → value A B limit t (dense_of N L i j) ≡ number v → is_zero v ≡ false
  unfolding value lower
  pivot-value i j v p e =
      large_nonzero limit reads.limited (number-good (dense_of N L i j) e)
      (tested-large limit _ v (rw (formula_lower N L (label N) _ i j (omega arith), eq-eqb i j p) at e))

  -- the number of a place is one that it may get
  pub place_entered : (i j : ℕ) → Inside N i j → label N i j ≡ suc n → (v : Float) → value A B limit t (dense_of N L i j) ≡ number v → Entered N L i j v
  place_entered i j inside turn v e = record {
    good = number-good (dense_of N L i j) e;
    unheld = λ h. step (eqb i j) (sym (unheld_value i j inside turn h) ∙ e);
    pivot = λ p. pivot-value i j v p e;
  }
    where
      step : (b : Bool) → cond b zero_divisor (number plus_zero) ≡ number v → v ≡ plus_zero
      step true q = let z : ◌≡◌ {A = ℕ} 0 1 = cc in absurd (omega arith)
      step false q = cc

  -- where pivots are held, both sides have the same values
  module _ (pivots : (m : ℕ) → 1 ≤ m → m ≤ N → held N L m m ≡ true) where
    lower-same : (i m : ℕ) → Inside N i m → m ≤ i
        → value A B limit (shrunk N L t) (lower N L (slot N L) (held N L) i m) ≡ value A B limit t (lower N L (label N) (λ i j. true) i m)
    unfolding value lower over starting
    lower-same i m inside h = ap (tested limit (eqb i m)) (inner-same sound i m m inside h (omega arith) _ (starting-good C (position L (label N i m))))

    upper-same : (m j : ℕ) → Inside N m j → m < j
        → value A B limit (shrunk N L t) (upper N L (slot N L) (held N L) m j) ≡ value A B limit t (upper N L (label N) (λ i j. true) m j)
    unfolding value upper tested starting
    upper-same m j inside h = over-same sound m (omega arith) (pivots m (omega arith) (omega arith)) _
        ∙ ap (over t (label N m m)) (inner-same sound m j m inside (omega arith) (omega arith) _ (starting-good C (position L (label N m j))))

    pub place_same : (i j : ℕ) → Inside N i j → value A B limit (shrunk N L t) (reduced_of N L i j) ≡ value A B limit t (dense_of N L i j)
    place_same i j inside = elim (dec_le j i) [
      | yes h ↦ rw (formula_lower N L (slot N L) _ i j h, formula_lower N L (label N) _ i j h) (lower-same i j inside h)
      | no h ↦ let g : i < j = omega arith in rw (formula_upper N L (slot N L) _ i j g, formula_upper N L (label N) _ i j g) (upper-same i j inside g)
    ]

    pub forward-same : (m : ℕ) → 1 ≤ m → m ≤ N
        → value A B limit (shrunk N L t) (forward N L (slot N L) (held N L) m) ≡ value A B limit t (forward N L (label N) (λ i j. true) m)
    unfolding value forward tested starting shrunk entry
    forward-same m low high = over-same sound m (omega arith) (pivots m low high) _
        ∙ ap (over t (label N m m)) (singles_same sound Y m _ (λ h. refl) (rising-each _ (λ h. h) 1 (m - 1) (λ h l r. omega arith)) _ (starting-good Y m))

    pub backward-same : (i : ℕ) → 1 ≤ i → i ≤ N
        → value A B limit (shrunk N L t) (backward N L (slot N L) (held N L) i) ≡ value A B limit t (backward N L (label N) (λ i j. true) i)
    unfolding value backward tested over starting shrunk entry
    backward-same i low high = singles_same sound X i _ (λ h. refl) (falling-each _ _ N (N - i) (λ h l r. omega arith)) _ (starting-good X i)

-- ---- the products that vanish, on both sides

module _ {N n : ℕ} {L : Plan} {t : Tables} (sound : Sound N L n t) where
  inner-vanished : (i j m : ℕ) → Inside N i j → m ≤ i → m ≤ j
      → vanished_in (shrunk N L t) C (inner N L (slot N L) (held N L) i j m) ≡ vanished_in t C (inner N L (label N) (λ i j. true) i j m)
  unfolding inner
  inner-vanished i j m inside p q = vanished-same t (shrunk N L t) C _ _ _ _
      (rising-each _ (λ h. h) 1 (m - 1) (λ h low high. alike_pair sound i h j (omega arith) (omega arith) (held N L i h) (held N L h j) refl refl))

  singles_vanished : (tb : Table) (i : ℕ) (hs : List ℕ) → ((h : ℕ) → entry (shrunk N L t) tb h ≡ entry t tb h) → Each (Inside N i) hs
      → vanished_in (shrunk N L t) tb (map (λ h. (slot N L i h, h)) (kept (λ h. held N L i h) hs))
      ≡ vanished_in t tb (map (λ h. (label N i h, h)) (kept (λ h. true) hs))
  singles_vanished tb i hs e inside = vanished-same t (shrunk N L t) tb _ _ _ hs (λ h m. alike_single sound tb i h (inside h m) (e h) (held N L i h) refl)

  pub place-vanished : (i j : ℕ) → Inside N i j → vanished_by (shrunk N L t) (reduced_of N L i j) ≡ vanished_by t (dense_of N L i j)
  unfolding lower upper
  place-vanished i j inside = elim (dec_le j i) [
    | yes h ↦ rw (formula_lower N L (slot N L) _ i j h, formula_lower N L (label N) _ i j h) (inner-vanished i j j inside h (omega arith))
    | no h ↦ let g : i < j = omega arith in
        rw (formula_upper N L (slot N L) _ i j g, formula_upper N L (label N) _ i j g) (inner-vanished i j i inside (omega arith) (omega arith))
  ]

  -- none vanishes at a place that isn't held
  pub unheld_vanished : (i j : ℕ) → Inside N i j → held N L i j ≡ false → vanished_by t (dense_of N L i j) ≡ 0
  unfolding vanished_in lower upper kept
  unheld_vanished i j inside e = elim (dec_le j i) [
    | yes h ↦ rw (formula_lower N L (label N) _ i j h, ← inner-vanished i j j inside h (omega arith), inner-none sound i j j h (omega arith) e)
    | no h ↦ let g : i < j = omega arith in
        rw (
          formula_upper N L (label N) _ i j g,
          ← inner-vanished i j i inside (omega arith) (omega arith),
          inner-none sound i j i (omega arith) (omega arith) e,
        )
  ]

  pub forward-vanished : (m : ℕ) → 1 ≤ m → m ≤ N
      → vanished_by (shrunk N L t) (forward N L (slot N L) (held N L) m) ≡ vanished_by t (forward N L (label N) (λ i j. true) m)
  unfolding forward shrunk entry
  forward-vanished m low high = singles_vanished Y m _ (λ h. refl) (rising-each _ (λ h. h) 1 (m - 1) (λ h l r. omega arith))

  pub backward-vanished : (i : ℕ) → 1 ≤ i → i ≤ N
      → vanished_by (shrunk N L t) (backward N L (slot N L) (held N L) i) ≡ vanished_by t (backward N L (label N) (λ i j. true) i)
  unfolding backward shrunk entry
  backward-vanished i low high = singles_vanished X i _ (λ h. refl) (falling-each _ _ N (N - i) (λ h l r. omega arith))
