-- The position of each given number, noted one by one.
use Prim.Native.Nat.{ℕ, suc, ◌-◌, ◌≤◌, ◌<◌}
use native.Mathlib.Decide.{ℕ_discrete}
use native.Mathlib.Omega.{arith}
use mathlib.Core.Path.{◌≡◌, sym, ap, ◌∙◌}
use mathlib.Core.List.{List}
use lib.ListN.{length-set, get_or, set}
use lib.Seq.{get_or-set_same, get_or-set_other}
use Rattle.model.specs.Numbering.{Numbering, given_at, IsNumbering}
use Rattle.model.proofs.Permutation.{given-range, entries_differ, given_onto}
use Rattle.ordering.specs.Numbered.{Inverse, Ranged}

module _ {N : ℕ} {p : Numbering} (n : IsNumbering N p) where
  pub entry-range : (k : ℕ) → k < N → (1 ≤ get_or p k 0) × (get_or p k 0 ≤ N)
  entry-range k h =
      let here : suc k - 1 ≡ k = omega arith in
      rw here at (given-range N p n (suc k) (omega arith) h)

  pub noted_more : {k : ℕ} {positions : List ℕ} → Inverse p k positions → k < N → N ≤ 600 → Inverse p (suc k) (set positions (get_or p k 0) (suc k))
  noted_more {k} {positions} v below high = record {
    size = length-set positions (get_or p k 0) (suc k) ∙ v.size;
    noted = λ a h. step a h (ℕ_discrete a k);
  }
    where
      step : (a : ℕ) → a < suc k → Dec (a ≡ k) → get_or (set positions (get_or p k 0) (suc k)) (get_or p a 0) 0 ≡ suc a
      step a h (yes e) = rw e (get_or-set_same positions (get_or p k 0) (suc k) 0 (omega (arith, entry-range k below, v.size)))
      step a h (no d) =
          let earlier : a < k = omega arith in
          get_or-set_other positions (get_or p k 0) (get_or p a 0) (suc k) 0 (entries_differ p n.once a k earlier (omega (arith, n.size))) ∙ v.noted a earlier

  module _ {positions : List ℕ} (v : Inverse p N positions) where
    -- a given number's position, and the number there
    pub position_of : (i : ℕ) → 1 ≤ i → i ≤ N → get_or positions (given_at p i) 0 ≡ i
    position_of i low high = v.noted (i - 1) (omega arith) ∙ omega arith

    pub positions-range : Ranged N positions
    positions-range r low high =
        let e = given_onto N p n r low high in
        let there : get_or positions r 0 ≡ suc e.index = ap (λ r. get_or positions r 0) (sym e.entry) ∙ v.noted e.index (omega (arith, e.below, n.size)) in
        (omega arith, omega (arith, e.below, n.size))

    pub given_there : (r : ℕ) → 1 ≤ r → r ≤ N → given_at p (get_or positions r 0) ≡ r
    given_there r low high =
        let e = given_onto N p n r low high in
        let there : get_or positions r 0 ≡ suc e.index = ap (λ r. get_or positions r 0) (sym e.entry) ∙ v.noted e.index (omega (arith, e.below, n.size)) in
        let back : get_or positions r 0 - 1 ≡ e.index = omega arith in
        ap (λ k. get_or p k 0) back ∙ e.entry
