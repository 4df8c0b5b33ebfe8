-- The search for the smallest h between i and j: it starts at or before it, and the work numbers say where it is.
use Prim.Native.Nat.{ℕ, suc, ◌+◌, ◌-◌, ◌≤◌, ◌<◌, max}
use native.Mathlib.Decide.{dec_le}
use native.Mathlib.Nat.{mul-le-mul}
use native.Mathlib.Omega.{arith}
use mathlib.Core.Path.{◌≡◌, sym, ap₂, ◌∙◌}
use mathlib.Core.Bool.{Bool, true, false, ◌&&◌, true≢false}
use mathlib.Core.List.{List}
use lib.Dec.{ltb}
use lib.ListN.{length, get_or}
use Rattle.model.specs.Label.{label}
use Rattle.model.specs.Fill.{Plan, held}
use Rattle.model.proofs.Labels.{Inside, label-range}
use Rattle.model.proofs.Lines.{label-lower-step, label-upper-step}
use Rattle.model.specs.Route.{middle}
use Rattle.model.proofs.Route.{Between, between}
use Rattle.plans.specs.Stands.{Stands, Filled}

-- h is tried next, at the indices low and high
pub record Seeking (N : ℕ) (L : Plan) (i j h low high : ℕ) : Type 0 where
  pub from : 1 ≤ h
  pub up_to : h ≤ middle N L i j
  pub low-at : suc low ≡ label N i h
  pub high-at : suc high ≡ label N h j

module _ {N : ℕ} {L : Plan} {work in_rows in_columns : List ℕ} (s : Stands N L work in_rows in_columns) {i j : ℕ} (f : Filled N L i j) where
  sought : Between N L i j (middle N L i j)
  sought = between N L i j f.leads.inside f.free f.leads.holds

  -- both places of a pair up to it
  pub pair_inside : (h : ℕ) → 1 ≤ h → h ≤ middle N L i j → Inside N i h × Inside N h j
  pair_inside h low high = let m = sought in let inside = f.leads.inside in (omega arith, omega arith)

  -- below what both lines note there is no pair
  pub start : {h m : ℕ} → m ≡ max (get_or in_rows i 0) (get_or in_columns j 0) → h ≡ max m 1 → (1 ≤ h) × (h ≤ middle N L i j)
  start lines e =
      let m = sought in
      let both = pair_inside (middle N L i j) m.low (omega arith) in
      let left : get_or in_rows i 0 ≤ middle N L i j = elim (dec_le (get_or in_rows i 0) (middle N L i j)) [
        | yes l ↦ l
        | no l ↦ absurd (true≢false (sym m.first ∙ s.skips.rows i (middle N L i j) both.0 (label-range N i (middle N L i j) both.0).1 (omega arith)))
      ] in
      let right : get_or in_columns j 0 ≤ middle N L i j = elim (dec_le (get_or in_columns j 0) (middle N L i j)) [
        | yes l ↦ l
        | no l ↦ absurd (true≢false (sym m.second ∙ s.skips.columns j (middle N L i j) both.1 (label-range N (middle N L i j) j both.1).1 (omega arith)))
      ] in
      (omega arith, omega (arith, m.low))

  module _ {h low high : ℕ} (k : Seeking N L i j h low high) where
    pub indices : (low < length work) × (high < length work) × (low < 360000) × (high < 360000) × (h < N) × (N ≤ 600)
    indices =
        let m = sought in
        let both = pair_inside h k.from k.up_to in
        let square = mul-le-mul {n₂ = 600} {m₂ = 600} s.high s.high in
        omega (arith, square, label-range N i h both.0, label-range N h j both.1, s.room, f.leads.inside)

    pair : (ltb 0 (get_or work low 0) && ltb 0 (get_or work high 0)) ≡ (held N L i h && held N L h j)
    pair =
        let both = pair_inside h k.from k.up_to in
        let l : label N i h - 1 ≡ low = omega (arith, k.low-at) in
        let r : label N h j - 1 ≡ high = omega (arith, k.high-at) in
        ap₂ ◌&&◌ (rw l at (s.stands i h both.0)) (rw r at (s.stands h j both.1))

    -- the pair is found, and it is the smallest; or none at h, and a larger one serves
    pub found : {b : Bool} → b ≡ (ltb 0 (get_or work low 0) && ltb 0 (get_or work high 0)) → b ≡ true → h ≡ middle N L i j
    found e t = elim (dec_le (middle N L i j) h) [
      | yes l ↦ omega (arith, k.up_to)
      | no l ↦ absurd (true≢false (sym t ∙ e ∙ pair ∙ sought.before h k.from (omega arith)))
    ]

    pub larger : {b : Bool} → b ≡ (ltb 0 (get_or work low 0) && ltb 0 (get_or work high 0)) → b ≡ false → h < middle N L i j
    larger e t = elim (dec_le (middle N L i j) h) [
      | no l ↦ omega arith
      | yes l ↦
          let m = sought in
          let same : h ≡ middle N L i j = omega (arith, k.up_to) in
          let none : (held N L i (middle N L i j) && held N L (middle N L i j) j) ≡ false = rw same at (sym pair ∙ sym e ∙ t) in
          absurd (true≢false (sym (rw (m.first, m.second)) ∙ none))
    ]

    pub onward : (left : ℕ) → left ≡ N - h → h < middle N L i j → Seeking N L i j (h + 1) (low + (left + left)) (high + (left + left - 1))
    onward left l more =
        let m = sought in
        let both = pair_inside h k.from k.up_to in
        let next : h + 1 ≡ suc h = omega arith in
        rw next
        (record {
          from = omega arith;
          up_to = omega arith;
          low-at = omega (arith, k.low-at, label-lower-step N i h k.from (omega (arith, both)) (omega (arith, both)));
          high-at = omega (arith, k.high-at, label-upper-step N h j k.from (omega (arith, both)) (omega (arith, both)));
        })
