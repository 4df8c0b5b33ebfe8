-- A plan with more labels than another holds all places that it holds, misses no pivot that it has, and counts no fewer products.
use Prim.Native.Nat.{ℕ, zero, suc, ◌-◌, ◌≤◌, ◌<◌, min}
use native.Mathlib.Omega.{arith}
use native.Mathlib.Decide.{dec_le}
use mathlib.Core.Path.{◌≡◌, refl, sym, ◌∙◌}
use mathlib.Core.Bool.{Bool, true, false, cond, ◌&&◌, ◌||◌, true≢false}
use borrow.Author.Tests.{lt-ltb, ltb-true}
use lib.Dec.{ltb}
use lib.ListN.{length}
use Rattle.model.specs.Lists.{kept, some, count}
use Rattle.model.specs.Label.{Place, label, places}
use Rattle.model.specs.Fill.{Plan, position, held_within, held, held_places, missing, pairs_at, below, above, product_count}
use Rattle.model.proofs.Plans.{pivot-held, missing-free}
use Rattle.model.proofs.Sums.{total_grows}
use Rattle.model.proofs.Counts.{held-total}

-- what passes the first test passes the second
abbrev pub Grows : Bool → Bool → Type 0
Grows a b = a ≡ true → b ≡ true

or_grows : (a a' b b' : Bool) → Grows a a' → Grows b b' → Grows (a || b) (a' || b')
or_grows true true b b' f g e = refl
or_grows true false b b' f g e = absurd (true≢false (sym (f refl)))
or_grows false true b b' f g e = refl
or_grows false false b b' f g e = g e

and_grows : (a a' b b' : Bool) → Grows a a' → Grows b b' → Grows (a && b) (a' && b')
and_grows true true b b' f g e = g e
and_grows true false b b' f g e = absurd (true≢false (sym (f refl)))
and_grows false a' b b' f g e = absurd (true≢false (sym e))

cond_grows : (a a' : Bool) (n : ℕ) → Grows a a' → cond a n 0 ≤ cond a' n 0
cond_grows true true n f = omega arith
cond_grows true false n f = absurd (true≢false (sym (f refl)))
cond_grows false a' n f = omega arith

some_grows : (t u : ℕ → Bool) → ((k : ℕ) → Grows (t k) (u k)) → (n : ℕ) → Grows (some t n) (some u n)
unfolding some
some_grows t u grows zero e = e
some_grows t u grows (suc n) e = or_grows (some t n) (some u n) (t (suc n)) (u (suc n)) (some_grows t u grows n) (grows (suc n)) e

count_grows : (t u : ℕ → Bool) → ((k : ℕ) → Grows (t k) (u k)) → (n : ℕ) → count t n ≤ count u n
unfolding count
count_grows t u grows zero = omega arith
count_grows t u grows (suc n) = go (t (suc n)) (u (suc n)) (grows (suc n)) (count_grows t u grows n)
  where
    go : (a b : Bool) → Grows a b → count t n ≤ count u n → cond a (suc (count t n)) (count t n) ≤ cond b (suc (count u n)) (count u n)
    go true true f h = omega arith
    go true false f h = absurd (true≢false (sym (f refl)))
    go false true f h = omega arith
    go false false f h = h

module _ (N : ℕ) (L M : Plan) (all : (k : ℕ) → 0 < position L k → 0 < position M k) where
  planned_grows : (k : ℕ) → Grows (ltb 0 (position L k)) (ltb 0 (position M k))
  planned_grows k e = lt-ltb 0 (position M k) (all k (ltb-true 0 (position L k) e))

  within_grows : (d i j : ℕ) → Grows (held_within d N L i j) (held_within d N M i j)
  unfolding held_within
  within_grows zero i j = planned_grows (label N i j)
  within_grows (suc d) i j = or_grows _ _ _ _ (planned_grows (label N i j))
      (some_grows _ _ (λ h. and_grows _ _ _ _ (within_grows d i h) (within_grows d h j)) (min i j - 1))

  -- held grows with the plan
  pub held_grows : (i j : ℕ) → held N L i j ≡ true → held N M i j ≡ true
  unfolding held
  held_grows i j = within_grows (min i j) i j

  -- so no pivot gets lost
  pub pivots_grow : missing N L ≡ 0 → missing N M ≡ 0
  pivots_grow none = elim (dec_le 1 (missing N M)) [
    | yes some ↦ (let gap = missing-free N M (λ e. omega arith) in
        absurd (true≢false (sym (held_grows _ _ (pivot-held N L none (missing N M) gap.low gap.high)) ∙ gap.free)))
    | no rest ↦ omega arith
  ]

  pairs_grow : (p : Place) → pairs_at N L p ≤ pairs_at N M p
  unfolding pairs_at
  pairs_grow p = count_grows _ _ (λ h. and_grows _ _ _ _ (held_grows p.0 h) (held_grows h p.1)) (min p.0 p.1 - 1)

  kept_grows : (t : Place → Bool) → length (kept t (held_places N L)) ≤ length (kept t (held_places N M))
  kept_grows t =
      rw (held-total N L t, held-total N M t)
      (total_grows _ _ (λ p. cond_grows (held N L p.0 p.1) (held N M p.0 p.1) (cond (t p) 1 0) (held_grows p.0 p.1)) (places N))

  -- and so does the product count
  pub products_grow : product_count N L ≤ product_count N M
  unfolding product_count below above
  products_grow = omega (arith, total_grows (pairs_at N L) (pairs_at N M) pairs_grow (places N), kept_grows (λ p. ltb p.1 p.0), kept_grows (λ p. ltb p.0 p.1))
