-- What 1 to 5 answer and leave in the work slice, by the model's words, from what `plans::slots` tells of a call that wants one work number for each place.
use Prim.Native.Nat.{ℕ, ◌*◌}
use native.Mathlib.Nat.{one-mul}
use mathlib.Core.Path.{◌≡◌, ◌∙◌}
use mathlib.Core.List.{List, ◌++◌}
use lib.ListN.{drop, replicate}
use Rattle.model.specs.Fill.{Plan}
use Rattle.model.specs.Compile.{good, bad, plain}
use Rattle.model.proofs.Admitted.{Admits, admits-early, admits-gap, admits-good}
use Rattle.slots.specs.declared.Filled.{Filled}
use Rattle.refusal.specs.Named.{number_of, detail_of}
use Rattle.refusal.specs.declared.Refusal.{Refusal}
use Rattle.plans.specs.Slotted.{Slotted, Refuses, early, gap}

module _ {N : ℕ} {L : Plan} {before work : List ℕ} where
  -- one of them refuses
  pub refused : {r : Refusal} → Refuses 1 N L before work r → Admits plain N L before (bad (number_of r) (detail_of r)) work
  refused (early e same) = rw same (admits-early plain N L before _ _ (rw (one-mul (N * N)) at e))
  refused (gap orders named some cleared) =
      let zeros : work ≡ replicate (N * N) 0 ++ drop (N * N) before = cleared ∙ rw (one-mul (N * N)) in
      rw (named, zeros) (admits-gap plain N L before (rw (one-mul (N * N)) at orders) (λ none. some (named ∙ none)))

  -- or none does
  pub admitted : {in_rows in_columns : List ℕ} {r : Filled} → Slotted 1 N L before work in_rows in_columns r → Admits plain N L before good work
  admitted s = rw s.filled.written (admits-good plain N L before (rw (one-mul (N * N)) at s.passed) s.whole)
