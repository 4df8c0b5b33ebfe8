-- What a call for a path answers and leaves, once 1 to 4 are decided and the slots stand in the work numbers.
use Prim.Native.Nat.{ℕ, ◌-◌, ◌*◌, ◌≤◌, ◌<◌}
use native.Mathlib.Nat.{one-mul}
use mathlib.Core.Path.{◌≡◌, refl, sym, ◌∙◌}
use mathlib.Core.Bool.{Bool, true, false, ◌&&◌, and-eq-true_iff}
use mathlib.Core.List.{List}
use lib.Dec.{ltb}
use lib.ListN.{length, get_or}
use Rattle.model.specs.Label.{is_order, is_place, label}
use Rattle.model.specs.Fill.{Plan, held}
use Rattle.model.specs.Compile.{good, bad, judged, orderly}
use Rattle.model.specs.Path.{Traces, Shown, found, refused, work_traced}
use Rattle.model.proofs.Compiles.{orderly-good}
use Rattle.model.proofs.Tracing.{tracing-early, work_early, tracing_unheld, tracing-short, tracing-fine, work_slotted}
use Rattle.labels.proofs.Range.{is_place_true}
use Rattle.slots.specs.Walked.{FillsPlan}
use Rattle.slots.specs.declared.Filled.{Filled}
use Rattle.plans.specs.Stands.{Stands, Leads}
use Rattle.plans.proofs.Standing.{slots_stand}

-- a plan that 1 to 4 let through, and its slots in the work numbers
pub record Stood (N : ℕ) (L : Plan) (before work in_rows in_columns : List ℕ) : Type 0 where
  pub orders : orderly (N * N) N L (length before) ≡ good
  pub stands : Stands N L work in_rows in_columns
  pub written : work ≡ work_traced N L before

module _ (N : ℕ) (L : Plan) (before : List ℕ) where
  -- 1 to 4 refuse
  pub refuses : {r d : ℕ} → bad r d ≡ orderly (1 * (N * N)) N L (length before) → (i j : ℕ) (list : List ℕ)
      → Traces N L i j (length before) list (refused r d) list × (before ≡ work_traced N L before)
  refuses e i j list =
      let early = rw (one-mul (N * N)) at (sym e) in
      (record { decided = tracing-early N L i j (length before) (length list) _ _ early; list = refl }, sym (work_early N L before _ _ early))

  module _ (passes : good ≡ orderly (1 * (N * N)) N L (length before)) where
    orders : orderly (N * N) N L (length before) ≡ good
    orders = rw (one-mul (N * N)) at (sym passes)

    -- or none of them does
    pub told : (is_order N ≡ true) × ((judged N 0 1 L ≡ good) × (N * N ≤ length before))
    told = orderly-good (N * N) N L (length before) orders

    pub stood : {work in_rows in_columns : List ℕ} {r : Filled} → FillsPlan N L before work in_rows in_columns r → Stood N L before work in_rows in_columns
    stood fills = record { orders = orders; stands = slots_stand told.0 told.1.0 fills; written = fills.written ∙ sym (work_slotted N L before orders) }

module _ {N : ℕ} {L : Plan} {before work in_rows in_columns : List ℕ} (s : Stood N L before work in_rows in_columns) (i j : ℕ) {b : Bool}
    (asked : b ≡ (is_place N i j && ltb 0 (get_or work (label N i j - 1) 0))) where
  -- whether a place has a slot is whether it is held
  held_there : (is_place N i j && held N L i j) ≡ b
  held_there = sym (asked ∙ step (is_place N i j) refl)
    where
      step : (b : Bool) → b ≡ is_place N i j → (b && ltb 0 (get_or work (label N i j - 1) 0)) ≡ (b && held N L i j)
      step true e = s.stands.stands i j (is_place_true N i j e).1
      step false e = refl

  -- 22
  pub unheld : (list : List ℕ) → b ≡ false → Traces N L i j (length before) list (refused 22 0) list
  unheld list none = record { decided = tracing_unheld N L i j (length before) (length list) s.orders (held_there ∙ none); list = refl }

  module _ (some : b ≡ true) where
    holds : (is_place N i j && held N L i j) ≡ true
    holds = held_there ∙ some

    pub leads : Leads N L i j
    leads =
        let both = (and-eq-true_iff (is_place N i j) (held N L i j)).0 holds in
        record { inside = (is_place_true N i j (sym both.0)).1; holds = both.1 }

    -- 23
    pub short : (list : List ℕ) → length list ≤ N → Traces N L i j (length before) list (refused 23 0) list
    short list few = record { decided = tracing-short N L i j (length before) (length list) s.orders holds few; list = refl }

    -- the path
    pub traced : {list list' : List ℕ} {k : ℕ} → N < length list → Shown N L i j k list list' → Traces N L i j (length before) list (found k) list'
    traced {list} enough shown = record { decided = tracing-fine N L i j (length before) (length list) s.orders holds enough; list = shown }
