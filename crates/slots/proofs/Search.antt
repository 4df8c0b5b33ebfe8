-- The search for a pair at a place: for h from where both lines can first be held, whether (i, h) and (h, j) have work numbers; and that they say what is held.
use Prim.Native.Nat.{ℕ, suc, ◌+◌, ◌-◌, ◌≤◌, ◌<◌, min, max}
use native.Mathlib.Decide.{dec_le}
use native.Mathlib.Nat.{mul-le-mul}
use native.Mathlib.Omega.{arith}
use mathlib.Core.Path.{◌≡◌, refl, sym, ap, ap₂, ◌∙◌}
use mathlib.Core.Bool.{Bool, true, false, cond, ◌&&◌, ◌||◌, and-false, or-true}
use mathlib.Core.List.{List}
use lib.Dec.{ltb}
use lib.ListN.{length, get_or}
use Rattle.model.specs.Lists.{some}
use Rattle.model.specs.Label.{label}
use Rattle.model.specs.Fill.{Plan, position, held}
use Rattle.model.proofs.Labels.{Inside, label-range, label_earlier}
use Rattle.model.proofs.Lines.{label-lower-step, label-upper-step}
use Rattle.model.proofs.Search.{some-none, some_true, some_same}
use Rattle.model.proofs.Fill.{held_is}
use Rattle.slots.specs.Batch.{pair_at}
use Rattle.slots.specs.declared.Walk.{Walk}
use Rattle.slots.proofs.Here.{Here, work_tested, mark_here}

-- ---- the search

-- h is tried next, at the indices low and high; for a place that isn't in the plan, none before it gave a pair
pub record Searching (n : ℕ) (work : List ℕ) (m i j : ℕ) (planned : Bool) (h low high : ℕ) : Type 0 where
  pub from : 1 ≤ h
  pub low-at : h < m → suc low ≡ label n i h
  pub high-at : h < m → suc high ≡ label n h j
  pub tried : planned ≡ false → (k : ℕ) → 1 ≤ k → k < h → k < m → pair_at n work i j k ≡ false

-- the two places of a pair
pub pair_inside : {n m i j : ℕ} → Inside n i j → min i j ≡ m → (h : ℕ) → 1 ≤ h → h < m → Inside n i h × Inside n h j
pair_inside inside batch h low high = (omega arith, omega arith)

module _ {N : ℕ} {L : Plan} {m i j : ℕ} {walk : Walk} {work in_rows in_columns : List ℕ} (at : Here N L m i j walk work in_rows in_columns) {planned : Bool} where
  module _ {h low high : ℕ} (s : Searching N work m i j planned h low high) where
    module _ (before : h < m) where
      pub indices : (low < length work) × (high < length work) × (low < 360000) × (high < 360000) × (h < N) × (N ≤ 600)
      indices =
          let sized = at.sized in
          let square = mul-le-mul {n₂ = 600} {m₂ = 600} sized.high sized.high in
          let both = pair_inside at.inside at.batch h s.from before in
          omega (arith, square, label-range N i h both.0, label-range N h j both.1, s.low-at before, s.high-at before, both, sized)

      pair_here : pair_at N work i j h ≡ (ltb 0 (get_or work low 0) && ltb 0 (get_or work high 0))
      pair_here =
          let l : label N i h - 1 ≡ low = omega (arith, s.low-at before) in
          let r : label N h j - 1 ≡ high = omega (arith, s.high-at before) in
          rw (l, r)

      -- a pair is found, or none at h
      pub search_found : {b : Bool} → b ≡ (ltb 0 (get_or work low 0) && ltb 0 (get_or work high 0)) → b ≡ true
          → true ≡ (planned || some (pair_at N work i j) (m - 1))
      search_found e t = rw (some_true (pair_at N work i j) (m - 1) h s.from (omega arith) (pair_here ∙ sym e ∙ t)) (sym (or-true planned))

      pub search_onward : {b : Bool} (left : ℕ) → b ≡ (ltb 0 (get_or work low 0) && ltb 0 (get_or work high 0)) → b ≡ false → left ≡ N - h
          → Searching N work m i j planned (suc h) (low + (left + left)) (high + (left + left - 1))
      search_onward left e f l =
          let both = pair_inside at.inside at.batch h s.from before in
          record {
            from = omega arith;
            low-at = λ more. omega (arith, s.low-at before, label-lower-step N i h s.from (omega (arith, both)) (omega (arith, both)));
            high-at = λ more. omega (arith, s.high-at before, label-upper-step N h j s.from (omega (arith, both)) (omega (arith, both)));
            tried = λ free k low below inside. elim (dec_le h k) [
              | yes above ↦ let same : k ≡ h = omega arith in rw same (pair_here ∙ sym e ∙ f)
              | no under ↦ s.tried free k low (omega arith) inside
            ];
          }

    -- none is left
    pub search_ended : m ≤ h → planned ≡ (planned || some (pair_at N work i j) (m - 1))
    search_ended past = step planned refl
      where
        step : (b : Bool) → planned ≡ b → b ≡ (b || some (pair_at N work i j) (m - 1))
        step true e = refl
        step false e = sym (some-none (pair_at N work i j) (m - 1) (λ k low high. s.tried e k low (omega arith) (omega arith)))

-- ---- what it says of a place

module _ {N : ℕ} {L : Plan} {m i j : ℕ} {walk : Walk} {work in_rows in_columns : List ℕ} (at : Here N L m i j walk work in_rows in_columns) where
  -- both places of a pair are done, and their work numbers say whether they are held
  pair_done : (h : ℕ) → 1 ≤ h → h < m → (label N i h ≤ walk.done) × (label N h j ≤ walk.done)
  pair_done h low high =
      let inside = at.inside in
      let both = pair_inside inside at.batch h low high in
      let left = label_earlier N i h i j both.0 inside (omega (arith, at.batch)) in
      let right = label_earlier N h j i j both.1 inside (omega (arith, at.batch)) in
      (omega (arith, left, at.next), omega (arith, right, at.next))

  pair_is : (h : ℕ) → 1 ≤ h → h < m → pair_at N work i j h ≡ (held N L i h && held N L h j)
  pair_is h low high =
      let both = pair_inside at.inside at.batch h low high in
      let done = pair_done h low high in
      ap₂ ◌&&◌ (work_tested at.walked i h _ both.0 done.0 (omega (arith, label-range N i h both.0)))
      (work_tested at.walked h j _ both.1 done.1 (omega (arith, label-range N h j both.1)))

  -- below what both lines note there is no pair
  pub none_before : (h : ℕ) → 1 ≤ h → h < max (get_or in_rows i 0) (get_or in_columns j 0) → h < m → pair_at N work i j h ≡ false
  none_before h low before high =
      let skips = at.walked.skips in
      let both = pair_inside at.inside at.batch h low high in
      let done = pair_done h low high in
      pair_is h low high ∙ elim (dec_le (get_or in_rows i 0) h) [
        | yes right ↦ rw (skips.columns j h both.1 done.1 (omega arith)) (and-false (held N L i h))
        | no left ↦ rw (skips.rows i h both.0 done.0 (omega arith))
      ]

  -- so a search starts there, and has none to make for a place in the plan
  pub start-low : (planned : Bool) {h : ℕ} → h ≡ cond planned m (max (get_or in_rows i 0) (get_or in_columns j 0)) → 1 ≤ h
  start-low planned e = rw e (low planned)
    where
      low : (b : Bool) → 1 ≤ cond b m (max (get_or in_rows i 0) (get_or in_columns j 0))
      low true = omega (arith, at.inside, at.batch)
      low false = omega (arith, at.walked.row_low i (omega (arith, at.inside, at.sized)))

  pub search_begins : {planned : Bool} {h low high : ℕ} → h ≡ cond planned m (max (get_or in_rows i 0) (get_or in_columns j 0))
      → (h < m → suc low ≡ label N i h) → (h < m → suc high ≡ label N h j) → Searching N work m i j planned h low high
  search_begins {planned} {h} e l r = record {
    from = start-low planned e;
    low-at = l;
    high-at = r;
    tried = λ free k low below inside. none_before k low (omega (arith, rw free at e)) inside;
  }

  -- in the plan, or by a pair
  pub held_by_work : {planned : Bool} → planned ≡ ltb 0 (get_or work walk.done 0) → held N L i j ≡ (planned || some (pair_at N work i j) (m - 1))
  held_by_work p =
      let in-plan = p ∙ mark_here at in
      rw (held_is N L i j, in-plan, at.batch)
      (ap (λ b. ltb 0 (position L (label N i j)) || b) (some_same _ _ (m - 1) (λ h low high. sym (pair_is h low (omega arith)))))
