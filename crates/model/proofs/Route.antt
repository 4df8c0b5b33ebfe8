-- The path by the smallest h passes `is_path` for every held place: document 02, A.2, the other direction. Any path will do; this is the one that the call gives.
use Prim.Native.Nat.{ℕ, zero, suc, ◌-◌, ◌≤◌, ◌<◌, min}
use mathlib.Core.Path.{◌≡◌, refl, sym, ap, ap₂, ◌∙◌}
use mathlib.Core.Bool.{Bool, true, false, not, cond, ◌&&◌, ◌||◌, and-eq-true_iff}
use mathlib.Core.List.{List, [], ◌∷◌, ◌++◌}
use mathlib.Core.Logic.{◌⊎◌, inl, inr, ⊎_elim}
use native.Mathlib.Nat.{le-suc_iff}
use native.Mathlib.Omega.{arith}
use borrow.Author.Tests.{lt-ltb, eqb-true, eq-eqb, ne_eqb, not-true}
use lib.Dec.{ltb, eqb}
use lib.ListN.{length}
use Rattle.model.specs.Lists.{some, count}
use Rattle.model.specs.Label.{label}
use Rattle.model.specs.Fill.{Plan, in_plan, position, held}
use Rattle.model.specs.Route.{smallest, middle, leg_within, leg, route}
use Rattle.model.specs.Path.{named, leads, distinct, is_path, PathExactlyHeld, PathFits}
use Rattle.model.proofs.Search.{some-none, count_same}
use Rattle.model.proofs.Sums.{count-at_most, count_none}
use Rattle.model.proofs.Within.{range-within}
use Rattle.model.proofs.Labels.{Inside, place_inside}
use Rattle.model.proofs.Fill.{held_is}
use Rattle.model.proofs.Path.{planned, empty, ends, led, Through, direct, join, through-held, leads-through, path-held}

-- ---- the smallest number that passes

record Smallest (t : ℕ → Bool) (n h : ℕ) : Type 0 where
  low : 1 ≤ h
  high : h ≤ n
  passes : t h ≡ true
  before : (k : ℕ) → 1 ≤ k → k < h → t k ≡ false

record Nowhere (t : ℕ → Bool) (n h : ℕ) : Type 0 where
  none : (k : ℕ) → 1 ≤ k → k ≤ n → t k ≡ false
  zeroed : h ≡ 0

abbrev Found : (ℕ → Bool) → ℕ → ℕ → Type 0
Found t n h = Nowhere t n h ⊎ Smallest t n h

smallest_is : (t : ℕ → Bool) (n : ℕ) → Found t n (smallest t n)
unfolding smallest
smallest_is t zero = inl (record { none = λ k low high. absurd (omega arith); zeroed = refl })
smallest_is t (suc n) = ⊎_elim (λ s. fresh s (t (suc n)) refl) (λ s. old s) (smallest_is t n)
  where
    last : (b : Bool) → t (suc n) ≡ b → ((k : ℕ) → 1 ≤ k → k ≤ n → t k ≡ false) → Found t (suc n) (cond b (suc n) 0)
    last true p none = inr (record { low = omega arith; high = omega arith; passes = p; before = λ k low high. none k low (omega arith) })
    last false p none = inl (record { none = λ k low high. ⊎_elim (λ h. none k low h) (λ e. rw e p) (le-suc_iff.0 high); zeroed = refl })

    fresh : Nowhere t n (smallest t n) → (b : Bool) → t (suc n) ≡ b
        → Found t (suc n) (elim (eqb (smallest t n) 0) as (λ b. ℕ) [ false ↦ smallest t n | true ↦ cond (t (suc n)) (suc n) 0 ])
    fresh s b p = rw (eq-eqb (smallest t n) 0 s.zeroed, p) (last b p s.none)

    old : Smallest t n (smallest t n)
        → Found t (suc n) (elim (eqb (smallest t n) 0) as (λ b. ℕ) [ false ↦ smallest t n | true ↦ cond (t (suc n)) (suc n) 0 ])
    old s =
        rw (ne_eqb (smallest t n) 0 (λ e. omega (arith, s.low)))
        (inr (record { low = s.low; high = omega (arith, s.high); passes = s.passes; before = s.before }))

-- ---- entries

or_cases : (a b : Bool) → (a || b) ≡ true → (a ≡ true) ⊎ (b ≡ true)
or_cases true b e = inl refl
or_cases false b e = inr e

pub named_cases : (x e : ℕ) (es : List ℕ) → named x (e ∷ es) ≡ true → (x ≡ e) ⊎ (named x es ≡ true)
unfolding named
named_cases x e es p = ⊎_elim (λ q. inl (sym (eqb-true e x q))) inr (or_cases (eqb e x) (named x es) p)

pub named-append : (x : ℕ) (xs ys : List ℕ) → named x (xs ++ ys) ≡ (named x xs || named x ys)
unfolding named
named-append x [] ys = refl
named-append x (e ∷ xs) ys = step (eqb e x) (named-append x xs ys)
  where
    step : (b : Bool) → named x (xs ++ ys) ≡ (named x xs || named x ys) → (b || named x (xs ++ ys)) ≡ ((b || named x xs) || named x ys)
    step true p = refl
    step false p = p

pub named_here : (x : ℕ) (es : List ℕ) → named x (x ∷ es) ≡ true
unfolding named
named_here x es = rw (eq-eqb x x refl)

pub named-later : (x e : ℕ) (es : List ℕ) → named x es ≡ true → named x (e ∷ es) ≡ true
unfolding named
named-later x e es p = step (eqb e x)
  where
    step : (b : Bool) → (b || named x es) ≡ true
    step true = refl
    step false = p

distinct_append : (xs ys : List ℕ) → distinct xs ≡ true → distinct ys ≡ true → ((x : ℕ) → named x xs ≡ true → named x ys ≡ true → ⊥) → distinct (xs ++ ys) ≡ true
unfolding distinct
distinct_append [] ys p q apart = q
distinct_append (e ∷ xs) ys p q apart =
    let s = (and-eq-true_iff (not (named e xs)) (distinct xs)).0 p in
    rw (named-append e xs ys, distinct_append xs ys s.1 q (λ x a b. apart x (named-later x e xs a) b)) (step (named e xs) (named e ys) s.0 refl)
  where
    step : (b c : Bool) → not b ≡ true → named e ys ≡ c → (not (b || c) && true) ≡ true
    step true c n m = n
    step false true n m = absurd (apart e (named_here e xs) m)
    step false false n m = refl

module _ (N : ℕ) (L : Plan) where
  -- ---- the entries of a way

  unnamed : {X : Type 0} (x : ℕ) → named x [] ≡ true → X
  unfolding named
  unnamed x p = let z : ◌≡◌ {A = ℕ} 0 1 = cc in absurd (omega arith)

  -- an entry is the end, or it is at least 1 and below b
  inside : (b j a x : ℕ) (es : List ℕ) → leads N L b j a es ≡ true → named x es ≡ true → (x ≡ j) ⊎ ((1 ≤ x) × (x < b))
  inside b j a x [] p n = empty N L b j a p
  inside b j a x (e ∷ []) p n = ⊎_elim (λ q. inl (omega (arith, (ends N L b j a e p).here))) (unnamed x) (named_cases x e [] n)
  inside b j a x (e ∷ f ∷ es) p n =
      let s = led N L b j a e f es p in
      ⊎_elim (λ q. inr (omega (arith, s.low), omega (arith, s.below))) (λ q. inside b j e x (f ∷ es) s.rest q) (named_cases x e (f ∷ es) n)

  -- and every entry is a number of the table
  entered : (b j a x : ℕ) (es : List ℕ) → leads N L b j a es ≡ true → named x es ≡ true → (1 ≤ x) × (x ≤ N)
  entered b j a x [] p n = empty N L b j a p
  entered b j a x (e ∷ []) p n =
      let s = planned N L a e (ends N L b j a e p).step in
      ⊎_elim (λ q. rw q (s.column-low, s.column-high)) (unnamed x) (named_cases x e [] n)
  entered b j a x (e ∷ f ∷ es) p n =
      let s = led N L b j a e f es p in
      let t = planned N L a e s.step in
      ⊎_elim (λ q. rw q (t.column-low, t.column-high)) (λ q. entered b j e x (f ∷ es) s.rest q) (named_cases x e (f ∷ es) n)

  -- the way up to an entry, and from one that is not the end
  up_to : (b j a x : ℕ) (es : List ℕ) → leads N L b j a es ≡ true → named x es ≡ true → Through N L (b - 1) a x
  up_to b j a x [] p n = empty N L b j a p
  up_to b j a x (e ∷ []) p n = ⊎_elim (λ q. rw q (direct N L (b - 1) a e (ends N L b j a e p).step)) (unnamed x) (named_cases x e [] n)
  up_to b j a x (e ∷ f ∷ es) p n =
      let s = led N L b j a e f es p in
      ⊎_elim (λ q. rw q (direct N L (b - 1) a e s.step))
      (λ q. join N L (b - 1) e a x s.low (omega (arith, s.below)) (direct N L (b - 1) a e s.step) (up_to b j e x (f ∷ es) s.rest q))
      (named_cases x e (f ∷ es) n)

  onward : (b j a x : ℕ) (es : List ℕ) → leads N L b j a es ≡ true → named x es ≡ true → (x ≡ j → ⊥) → Through N L (b - 1) x j
  onward b j a x [] p n ne = empty N L b j a p
  onward b j a x (e ∷ []) p n ne = ⊎_elim (λ q. absurd (ne (omega (arith, (ends N L b j a e p).here)))) (unnamed x) (named_cases x e [] n)
  onward b j a x (e ∷ f ∷ es) p n ne =
      let s = led N L b j a e f es p in
      ⊎_elim (λ q. rw q (leads-through N L b j e (f ∷ es) s.rest)) (λ q. onward b j e x (f ∷ es) s.rest q ne) (named_cases x e (f ∷ es) n)

  leads-append : (b h j a : ℕ) (xs ys : List ℕ) → h < b → leads N L b h a xs ≡ true → leads N L b j h ys ≡ true → leads N L b j a (xs ++ ys) ≡ true
  unfolding leads
  leads-append b h j a [] ys l p q = empty N L b h a p
  leads-append b h j a (e ∷ []) [] l p q = empty N L b j h q
  leads-append b h j a (e ∷ []) (y ∷ ys) l p q =
      let s = ends N L b h a e p in
      rw (s.step, lt-ltb e b (omega (arith, s.here)), s.here) q
  leads-append b h j a (e ∷ f ∷ xs) ys l p q =
      let s = led N L b h a e f xs p in
      rw (s.step, lt-ltb e b s.below) (leads-append b h j e (f ∷ xs) ys l s.rest q)

  -- ---- the smallest h

  abbrev via : ℕ → ℕ → ℕ → Bool
  via i j h = held N L i h && held N L h j

  -- a way between entries below h says that the place is in the plan, or that an entry below h would have served
  sooner : (k i j : ℕ) → k < i → k < j → Through N L k i j → in_plan N L i j ≡ false → ((h : ℕ) → 1 ≤ h → h ≤ k → via i j h ≡ false) → ⊥
  sooner zero i j l m p out none = let z : ◌≡◌ {A = ℕ} 0 1 = cc in omega arith
  sooner (suc k) i j l m (inl p) out none = sooner k i j (omega arith) (omega arith) p out (λ h low high. none h low (omega arith))
  sooner (suc k) i j l m (inr p) out none =
      let first = through-held N L k i (suc k) (omega arith) (omega arith) p.0 in
      let second = through-held N L k (suc k) j (omega arith) (omega arith) p.1 in
      let clash = none (suc k) (omega arith) (omega arith) in
      let z : ◌≡◌ {A = ℕ} 0 1 = cc in omega arith

  record Way (i j : ℕ) (es : List ℕ) : Type 0 where
    leading : (b : ℕ) → min i j ≤ b → leads N L b j i es ≡ true
    different : distinct es ≡ true

  alone : (i j : ℕ) → in_plan N L i j ≡ true → Way i j (j ∷ [])
  unfolding leads distinct named
  alone i j p = record { leading = λ b l. rw (p, eq-eqb j j refl); different = refl }

  both : (i h j : ℕ) (xs ys : List ℕ) → h < i → h < j → in_plan N L i j ≡ false → ((k : ℕ) → 1 ≤ k → k < h → via i j k ≡ false)
      → Way i h xs → Way h j ys → Way i j (xs ++ ys)
  both i h j xs ys l m out before p q = record {
    leading = λ b n. leads-append b h j i xs ys (omega arith) (p.leading b (omega arith)) (q.leading b (omega arith));
    different = distinct_append xs ys p.different q.different (λ x a b. clash x a b (inside h h i x xs left a) (inside h j h x ys right b));
  }
    where
      left : leads N L h h i xs ≡ true
      left = p.leading h (omega arith)

      right : leads N L h j h ys ≡ true
      right = q.leading h (omega arith)

      clash : (x : ℕ) → named x xs ≡ true → named x ys ≡ true → (x ≡ h) ⊎ ((1 ≤ x) × (x < h)) → (x ≡ j) ⊎ ((1 ≤ x) × (x < h)) → ⊥
      clash x a b (inl s) (inl t) = omega arith
      clash x a b (inl s) (inr t) = omega arith
      clash x a b (inr s) (inl t) = omega arith
      clash x a b (inr s) (inr t) = sooner (h - 1) i j (omega arith) (omega arith)
          (join N L (h - 1) x i j s.0 (omega arith) (up_to h h i x xs left a) (onward h j h x ys right b (λ e. omega arith)))
          out (λ k low high. before k low (omega arith))

  out_of_plan : (i j : ℕ) → Inside N i j → in_plan N L i j ≡ false → held N L i j ≡ true → some (via i j) (min i j - 1) ≡ true
  unfolding in_plan
  out_of_plan i j inside out e = step (ltb 0 (position L (label N i j))) refl (rw (held_is N L i j) at e)
    where
      step : (p : Bool) → ltb 0 (position L (label N i j)) ≡ p → (p || some (via i j) (min i j - 1)) ≡ true → some (via i j) (min i j - 1) ≡ true
      step true p q =
          let row = range-within i N inside.row_low inside.row-high in
          let column = range-within j N inside.column-low inside.column-high in
          let z : ◌≡◌ {A = Bool} true false = rw (row, column, p) at out in
          let y : ◌≡◌ {A = ℕ} 0 1 = cc in
          absurd (omega arith)
      step false p q = q

  -- h is the smallest for which (i, h) and (h, j) are held
  pub record Between (i j h : ℕ) : Type 0 where
    pub low : 1 ≤ h
    pub left : h < i
    pub right : h < j
    pub first : held N L i h ≡ true
    pub second : held N L h j ≡ true
    pub before : (k : ℕ) → 1 ≤ k → k < h → via i j k ≡ false

  -- the middle of a place that is held and not in the plan
  pub between : (i j : ℕ) → Inside N i j → in_plan N L i j ≡ false → held N L i j ≡ true → Between i j (middle N L i j)
  unfolding middle
  between i j inside out h = ⊎_elim
      (λ s. absurd (let z : ◌≡◌ {A = ℕ} 0 1 = cc (some-none (via i j) (min i j - 1) s.none, out_of_plan i j inside out h) in omega arith))
      (λ s. let t = (and-eq-true_iff (held N L i (middle N L i j)) (held N L (middle N L i j) j)).0 s.passes in
      record { low = s.low; left = omega (arith, s.high, s.low); right = omega (arith, s.high, s.low); first = t.0; second = t.1; before = s.before })
      (smallest_is (via i j) (min i j - 1))

  -- a place of the plan is a leg of one entry, and any other that is held goes by way of its middle
  planned-within : (d i j : ℕ) → in_plan N L i j ≡ true → leg_within d N L i j ≡ j ∷ []
  unfolding leg_within
  planned-within zero i j p = refl
  planned-within (suc d) i j p = rw (p, leg_within)

  between-within : (d i j : ℕ) → in_plan N L i j ≡ false → leg_within (suc d) N L i j ≡ leg_within d N L i (middle N L i j) ++ leg_within d N L (middle N L i j) j
  unfolding leg_within
  between-within d i j p = rw (p, leg_within)

  -- its path
  way : (d i j : ℕ) → min i j ≤ d → Inside N i j → held N L i j ≡ true → Way i j (leg_within d N L i j)
  way zero i j f inside h = absurd (omega arith)
  way (suc d) i j f inside h = step (in_plan N L i j) refl (λ i j f inside h. way d i j f inside h)
    where
      step : (q : Bool) → in_plan N L i j ≡ q → ((i j : ℕ) → min i j ≤ d → Inside N i j → held N L i j ≡ true → Way i j (leg_within d N L i j))
          → Way i j (leg_within (suc d) N L i j)
      step true q rest = rw (planned-within (suc d) i j q) (alone i j q)
      step false q rest =
          let m = between i j inside q h in
          rw (between-within d i j q)
          (both i (middle N L i j) j _ _ m.left m.right q m.before
          (rest i (middle N L i j) (omega arith) (omega arith) m.first)
          (rest (middle N L i j) j (omega arith) (omega arith) m.second))

  -- The headline: the path by the smallest h passes.
  pub held-path : (i j : ℕ) → Inside N i j → held N L i j ≡ true → is_path N L i j (route N L i j) ≡ true
  unfolding is_path leg
  held-path i j inside h =
      let w = way (min i j) i j (omega arith) inside h in
      rw (eq-eqb i i refl, w.leading (min i j) (omega arith), w.different)

  -- ---- leg by leg

  leads-some : (b j a : ℕ) (es : List ℕ) → leads N L b j a es ≡ true → 1 ≤ length es
  leads-some b j a [] p = empty N L b j a p
  leads-some b j a (e ∷ es) p = omega arith

  -- a leg has an entry
  pub leg-some : (i j : ℕ) → Inside N i j → held N L i j ≡ true → 1 ≤ length (leg N L i j)
  unfolding leg
  leg-some i j inside h = leads-some (min i j) j i _ ((way (min i j) i j (omega arith) inside h).leading (min i j) (omega arith))

  -- steps that are enough make the same leg
  steps : (d e i j : ℕ) → min i j ≤ d → min i j ≤ e → Inside N i j → held N L i j ≡ true → leg_within d N L i j ≡ leg_within e N L i j
  steps zero e i j f g inside h = absurd (omega arith)
  steps (suc d) zero i j f g inside h = absurd (omega arith)
  steps (suc d) (suc e) i j f g inside h = step (in_plan N L i j) refl (λ i j f g inside h. steps d e i j f g inside h)
    where
      step : (q : Bool) → in_plan N L i j ≡ q
          → ((i j : ℕ) → min i j ≤ d → min i j ≤ e → Inside N i j → held N L i j ≡ true → leg_within d N L i j ≡ leg_within e N L i j)
          → leg_within (suc d) N L i j ≡ leg_within (suc e) N L i j
      step true q rest = planned-within (suc d) i j q ∙ sym (planned-within (suc e) i j q)
      step false q rest =
          let m = between i j inside q h in
          between-within d i j q
          ∙ ap₂ ◌++◌ (rest i (middle N L i j) (omega arith) (omega arith) (omega arith) m.first)
          (rest (middle N L i j) j (omega arith) (omega arith) (omega arith) m.second)
          ∙ sym (between-within e i j q)

  pub leg-planned : (i j : ℕ) → in_plan N L i j ≡ true → leg N L i j ≡ j ∷ []
  unfolding leg
  leg-planned i j p = planned-within (min i j) i j p

  pub leg-between : (i j : ℕ) → Inside N i j → in_plan N L i j ≡ false → held N L i j ≡ true
      → leg N L i j ≡ leg N L i (middle N L i j) ++ leg N L (middle N L i j) j
  unfolding leg
  leg-between i j inside q h =
      let m = between i j inside q h in
      steps (min i j) (suc (min i j)) i j (omega arith) (omega arith) inside h
      ∙ between-within (min i j) i j q
      ∙ ap₂ ◌++◌ (steps _ _ i (middle N L i j) (omega arith) (omega arith) (omega arith) m.first)
      (steps _ _ (middle N L i j) j (omega arith) (omega arith) (omega arith) m.second)

-- ---- how long a path is

one_more : (t u : ℕ → Bool) (e n : ℕ) → ((k : ℕ) → (k ≡ e → ⊥) → u k ≡ t k) → t e ≡ false → u e ≡ true → 1 ≤ e → e ≤ n → count u n ≡ suc (count t n)
unfolding count
one_more t u e zero same p q low high = absurd (omega arith)
one_more t u e (suc n) same p q low high = ⊎_elim
    (λ h. let rest = one_more t u e n same p q low h in rw (same (suc n) (λ z. omega arith), rest) (step (t (suc n))))
    (λ h. rw (← h, q, p) (ap suc (count_same u t n (λ k l m. same k (λ z. omega arith))))) (le-suc_iff.0 high)
  where
    step : (b : Bool) → cond b (suc (suc (count t n))) (suc (count t n)) ≡ suc (cond b (suc (count t n)) (count t n))
    step true = refl
    step false = refl

-- as many numbers of 1..n are named as there are entries, where these are all different and in 1..n
pub named_count : (n : ℕ) (es : List ℕ) → distinct es ≡ true → ((x : ℕ) → named x es ≡ true → (1 ≤ x) × (x ≤ n)) → count (λ k. named k es) n ≡ length es
unfolding distinct named
named_count n [] d inside = count_none (λ k. false) n (λ k low high. refl)
named_count n (e ∷ es) d inside =
    let s = (and-eq-true_iff (not (named e es)) (distinct es)).0 d in
    let r = inside e (named_here e es) in
    one_more (λ k. named k es) (λ k. eqb e k || named k es) e n (λ k z. rw (ne_eqb e k (λ q. z (sym q))))
    (not-true (named e es) s.0) (rw (eq-eqb e e refl)) r.0 r.1
    ∙ ap suc (named_count n es s.1 (λ x m. inside x (named-later x e es m)))

-- The headlines: a path has at most N + 1 entries,
pub path-fits : (N : ℕ) (L : Plan) (i j : ℕ) → PathFits N L i j
unfolding is_path
path-fits N L i j [] p = omega arith
path-fits N L i j (e ∷ es) p =
    let s = (and-eq-true_iff (eqb e i) (leads N L (min i j) j i es && distinct es)).0 p in
    let t = (and-eq-true_iff (leads N L (min i j) j i es) (distinct es)).0 s.1 in
    omega (arith, named_count N es t.1 (λ x m. entered N L (min i j) j i x es t.0 m), count-at_most (λ k. named k es) N)

-- and there is one exactly when the place is held.
pub path_exactly_held : (N : ℕ) (L : Plan) (i j : ℕ) → PathExactlyHeld N L i j
path_exactly_held N L i j there =
    let s = (place_inside N i j there).1 in (
      λ p. path-held N L i j s.row_low s.column-low p.entries p.path,
      λ h. record { entries = route N L i j; path = held-path N L i j s h },
    )
