-- The work numbers are the slots, so that the records written from them are those of the compiled program.
use Prim.Native.Nat.{ℕ, suc, ◌-◌, ◌*◌}
use native.Mathlib.Omega.{arith}
use mathlib.Core.Path.{◌≡◌, sym, ap, ◌∙◌}
use mathlib.Core.List.{List}
use lib.Dec.{ltb}
use lib.ListN.{take, get_or}
use lib.Seq.{get_or-take, take_at}
use Rattle.model.specs.Label.{label}
use Rattle.model.specs.Fill.{Plan, held, slot}
use Rattle.model.specs.Crout.{reduced_formulas}
use Rattle.model.specs.Program.{compiled_records}
use Rattle.model.specs.Compile.{slot_numbers}
use Rattle.model.proofs.Labels.{Inside, label-range}
use Rattle.model.proofs.WorkNumbers.{slot-number, held_number, slot-numbers-length}
use Rattle.slots.specs.Walked.{FillsPlan}
use Rattle.slots.specs.declared.Filled.{Filled}
use Rattle.writer.specs.Worked.{number_at, kept_at}
use Rattle.writer.specs.Line.{plan_records}
use Rattle.writer.proofs.Agree.{records_agree}

-- the first work numbers are the slots, as the slot pass leaves them
pub filled-first : {n : ℕ} {L : Plan} {before work in_rows in_columns : List ℕ} {r : Filled} → FillsPlan n L before work in_rows in_columns r
    → take (n * n) work ≡ slot_numbers n L
filled-first {n} {L} filled = rw filled.written (take_at (slot_numbers n L) _ (n * n) (slot-numbers-length n L))

module _ (n : ℕ) (L : Plan) (work : List ℕ) (given : take (n * n) work ≡ slot_numbers n L) where
  pub slots_agree : (i j : ℕ) → Inside n i j → (slot n L i j ≡ number_at n work i j) × (held n L i j ≡ kept_at n work i j)
  unfolding number_at kept_at
  slots_agree i j inside =
      let q = label n i j - 1 in
      let here : suc q ≡ label n i j = omega (arith, label-range n i j inside) in
      let same = sym (get_or-take (n * n) work q 0 (omega (arith, label-range n i j inside))) ∙ ap (λ l. get_or l q 0) given in
      (sym (same ∙ slot-number n L i j q inside here), sym (ap (ltb 0) same ∙ held_number n L i j q inside here))

  pub plan-compiled : compiled_records n L ≡ plan_records n L work
  unfolding compiled_records reduced_formulas
  plan-compiled = records_agree n L (slot n L) work slots_agree
