-- A list that passes `is_path` makes its place held: document 02, A.2.
use Prim.Native.Nat.{ℕ, zero, suc, ◌-◌, ◌≤◌, ◌<◌, min}
use mathlib.Core.Path.{◌≡◌}
use mathlib.Core.Bool.{true, ◌&&◌, or-true, and-eq-true_iff}
use mathlib.Core.List.{List, [], ◌∷◌}
use mathlib.Core.Logic.{◌⊎◌, inl, inr, ⊎_elim}
use native.Mathlib.Nat.{le-suc_iff}
use native.Mathlib.Omega.{arith}
use borrow.Author.Tests.{ltb-true, eqb-true}
use lib.Dec.{ltb, eqb}
use Rattle.model.specs.Label.{within, label}
use Rattle.model.specs.Fill.{Plan, in_plan, position, held}
use Rattle.model.specs.Path.{leads, distinct, is_path}
use Rattle.model.proofs.Search.{some_true}
use Rattle.model.proofs.Within.{within-range}
use Rattle.model.proofs.Fill.{held_is, held_in_plan}

module _ (N : ℕ) (L : Plan) where
  -- what a place of the plan is
  pub record Planned (i j : ℕ) : Type 0 where
    pub row_low : 1 ≤ i
    pub row-high : i ≤ N
    pub column-low : 1 ≤ j
    pub column-high : j ≤ N
    pub there : 0 < position L (label N i j)

  pub planned : (i j : ℕ) → in_plan N L i j ≡ true → Planned i j
  unfolding in_plan
  planned i j e =
      let a = (and-eq-true_iff (within i N) (within j N && ltb 0 (position L (label N i j)))).0 e in
      let b = (and-eq-true_iff (within j N) (ltb 0 (position L (label N i j)))).0 a.1 in
      let r = within-range i N a.0 in
      let c = within-range j N b.0 in
      record { row_low = r.0; row-high = r.1; column-low = c.0; column-high = c.1; there = ltb-true 0 (position L (label N i j)) b.1 }

  -- ---- the entries of a list that leads to j

  pub empty : {X : Type 0} (b j a : ℕ) → leads N L b j a [] ≡ true → X
  unfolding leads
  empty b j a p = let z : ◌≡◌ {A = ℕ} 0 1 = cc in absurd (omega arith)

  pub record Ends (j a e : ℕ) : Type 0 where
    pub here : e ≡ j
    pub step : in_plan N L a e ≡ true

  pub ends : (b j a e : ℕ) → leads N L b j a (e ∷ []) ≡ true → Ends j a e
  unfolding leads
  ends b j a e p = let s = (and-eq-true_iff (eqb e j) (in_plan N L a e)).0 p in record { here = eqb-true e j s.0; step = s.1 }

  pub record Led (b j a e : ℕ) (es : List ℕ) : Type 0 where
    pub below : e < b
    pub low : 1 ≤ e
    pub step : in_plan N L a e ≡ true
    pub rest : leads N L b j e es ≡ true

  pub led : (b j a e f : ℕ) (es : List ℕ) → leads N L b j a (e ∷ f ∷ es) ≡ true → Led b j a e (f ∷ es)
  unfolding leads
  led b j a e f es p =
      let s = (and-eq-true_iff (ltb e b) (in_plan N L a e && leads N L b j e (f ∷ es))).0 p in
      let t = (and-eq-true_iff (in_plan N L a e) (leads N L b j e (f ∷ es))).0 s.1 in
      record { below = ltb-true e b s.0; low = (planned a e t.0).column-low; step = t.0; rest = t.1 }

  -- ---- ways

  -- from a to j by places of the plan, all entries between in 1..k
  abbrev pub Through : ℕ → ℕ → ℕ → Type 0
  Through zero a j = in_plan N L a j ≡ true
  Through (suc k) a j = Through k a j ⊎ (Through k a (suc k) × Through k (suc k) j)

  pub direct : (k a j : ℕ) → in_plan N L a j ≡ true → Through k a j
  direct zero a j e = e
  direct (suc k) a j e = inl (direct k a j e)

  through-start : (k a : ℕ) → Through (suc k) a (suc k) → Through k a (suc k)
  through-start k a (inl p) = p
  through-start k a (inr p) = p.0

  through-end : (k j : ℕ) → Through (suc k) (suc k) j → Through k (suc k) j
  through-end k j (inl p) = p
  through-end k j (inr p) = p.1

  -- two such ways join at an entry of 1..k
  pub join : (k c a j : ℕ) → 1 ≤ c → c ≤ k → Through k a c → Through k c j → Through k a j
  join zero c a j low high p q = absurd (omega arith)
  join (suc k) c a j low high p q = ⊎_elim (λ h. inner (λ a j p q. join k c a j low h p q) p q) (λ e. outer e p q) (le-suc_iff.0 high)
    where
      inner : ((a j : ℕ) → Through k a c → Through k c j → Through k a j) → Through (suc k) a c → Through (suc k) c j → Through (suc k) a j
      inner rest (inl p) (inl q) = inl (rest a j p q)
      inner rest (inl p) (inr q) = inr (rest a (suc k) p q.0, q.1)
      inner rest (inr p) (inl q) = inr (p.0, rest (suc k) j p.1 q)
      inner rest (inr p) (inr q) = inr (p.0, q.1)

      outer : c ≡ suc k → Through (suc k) a c → Through (suc k) c j → Through (suc k) a j
      outer e p q = inr (through-start k a (rw e at p), through-end k j (rw e at q))

  -- ends above all entries between are held
  pub through-held : (k a j : ℕ) → k < a → k < j → Through k a j → held N L a j ≡ true
  through-held zero a j l h e = held_in_plan N L a j (planned a j e).there
  through-held (suc k) a j l h (inl p) = through-held k a j (omega arith) (omega arith) p
  through-held (suc k) a j l h (inr p) =
      let first = through-held k a (suc k) (omega arith) (omega arith) p.0 in
      let second = through-held k (suc k) j (omega arith) (omega arith) p.1 in
      let pair = some_true (λ h. held N L a h && held N L h j) (min a j - 1) (suc k) (omega arith) (omega arith) (rw (first, second)) in
      rw (held_is N L a j, pair) (or-true (ltb 0 (position L (label N a j))))

  pub leads-through : (b j a : ℕ) (es : List ℕ) → leads N L b j a es ≡ true → Through (b - 1) a j
  leads-through b j a [] p = empty b j a p
  leads-through b j a (e ∷ []) p = let s = ends b j a e p in direct (b - 1) a j (rw s.here at s.step)
  leads-through b j a (e ∷ f ∷ es) p =
      let s = led b j a e f es p in
      join (b - 1) e a j s.low (omega (arith, s.below)) (direct (b - 1) a e s.step) (leads-through b j e (f ∷ es) s.rest)

  -- The headline: a list that passes makes the place held.
  pub path-held : (i j : ℕ) → 1 ≤ i → 1 ≤ j → (es : List ℕ) → is_path N L i j es ≡ true → held N L i j ≡ true
  unfolding is_path
  path-held i j l h [] e = let z : ◌≡◌ {A = ℕ} 0 1 = cc in absurd (omega arith)
  path-held i j l h (c ∷ es) e =
      let s = (and-eq-true_iff (eqb c i) (leads N L (min i j) j i es && distinct es)).0 e in
      let t = (and-eq-true_iff (leads N L (min i j) j i es) (distinct es)).0 s.1 in
      through-held (min i j - 1) i j (omega arith) (omega arith) (leads-through (min i j) j i es t.0)
