-- What the slots in the work numbers say of a place.
use Prim.Native.Nat.{ℕ, ◌-◌, ◌*◌}
use native.Mathlib.Omega.{arith}
use mathlib.Core.Path.{◌≡◌, ap, ◌∙◌}
use mathlib.Core.Bool.{true}
use mathlib.Core.List.{List}
use lib.Dec.{ltb}
use lib.ListN.{length, get_or, drop, length-append, get_or-append}
use Rattle.model.specs.Label.{is_order, label}
use Rattle.model.specs.Fill.{Plan, held}
use Rattle.model.specs.Compile.{judged, good, slot_numbers}
use Rattle.model.proofs.Labels.{Inside, label-range}
use Rattle.model.proofs.Within.{within-range}
use Rattle.model.proofs.WorkNumbers.{slot-numbers-length, held_number}
use Rattle.slots.specs.Walked.{FillsPlan}
use Rattle.slots.specs.declared.Filled.{Filled}
use Rattle.plans.specs.Stands.{Stands}

module _ {N : ℕ} {L : Plan} {before work in_rows in_columns : List ℕ} {r : Filled}
    (order : is_order N ≡ true) (labels : judged N 0 1 L ≡ good) (fills : FillsPlan N L before work in_rows in_columns r) where
  -- a work number says whether its place is held
  number-held : (i j : ℕ) → Inside N i j → ltb 0 (get_or work (label N i j - 1) 0) ≡ held N L i j
  number-held i j inside =
      let range = label-range N i j inside in
      let slots = slot-numbers-length N L in
      ap (λ w. ltb 0 (get_or w (label N i j - 1) 0)) fills.written
      ∙ ap (ltb 0) (get_or-append (slot_numbers N L) (drop (N * N) before) 0 (label N i j - 1) (omega arith))
      ∙ held_number N L i j (label N i j - 1) inside (omega arith)

  pub slots_stand : Stands N L work in_rows in_columns
  slots_stand =
      let range = within-range N 600 order in
      let slots = slot-numbers-length N L in
      record {
        low = range.0;
        high = range.1;
        rises = labels;
        room = omega (arith, ap length fills.written, length-append (slot_numbers N L) (drop (N * N) before));
        stands = number-held;
        row_count = fills.row_count;
        column-count = fills.column-count;
        skips = fills.skips;
      }
