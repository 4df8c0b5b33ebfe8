-- The work numbers that a call wants: how many there are, and what stands in them after 5.
use Prim.Native.Nat.{ℕ, ◌*◌, ◌≤◌}
use native.Mathlib.Nat.{mul-le-mul}
use native.Mathlib.Omega.{arith}
use mathlib.Core.Path.{◌≡◌, sym, ap, ◌∙◌}
use mathlib.Core.Bool.{true}
use mathlib.Core.List.{List, ◌++◌}
use lib.ListN.{length, drop, replicate}
use lib.Seq.{drop_at}
use Rattle.model.specs.Label.{is_order}
use Rattle.model.specs.Fill.{Plan}
use Rattle.model.specs.Compile.{good, orderly, slot_numbers}
use Rattle.model.proofs.Lists.{drop-later}
use Rattle.model.proofs.Within.{within-range}
use Rattle.model.proofs.WorkNumbers.{slot-numbers-length}
use Rattle.slots.specs.Walked.{FillsPlan}
use Rattle.slots.specs.declared.Filled.{Filled}
use Rattle.refusal.specs.declared.Refusal.TheVariants.{PivotMissing}
use Rattle.plans.specs.Slotted.{Refuses, gap}

pub sizes : {each N : ℕ} → each ≤ 4 → is_order N ≡ true → (N ≤ 600) × (N * N ≤ 360000) × (each * (N * N) ≤ 1440000)
sizes {each} {N} few order =
    let high = (within-range N 600 order).1 in
    let square = mul-le-mul {n₂ = 600} {m₂ = 600} high high in
    (high, square, mul-le-mul {n₂ = 4} {m₂ = 360000} few square)

-- at least one for each place of the table
pub places-some : (each N : ℕ) → 1 ≤ each → N * N ≤ each * (N * N)
places-some each N some = omega (arith, mul-le-mul {n₁ = 1} {m₁ = N * N} {n₂ = each} {m₂ = N * N} some (omega arith))

-- a pivot is missing, and the work numbers are cleared
pub zeros-left : {each N : ℕ} {L : Plan} {before work cleared in_rows in_columns : List ℕ} {r : Filled} {count m : ℕ}
    → FillsPlan N L before work in_rows in_columns r → orderly (each * (N * N)) N L (length before) ≡ good → (r.missing ≡ 0 → ⊥) → 1 ≤ each
    → count ≡ each * (N * N) → cleared ≡ replicate count 0 ++ drop count work → m ≡ r.missing → Refuses each N L before cleared (PivotMissing m)
zeros-left {each} {N} {before = before} {work = work} fills passed some positive all e named =
    let past : drop (N * N) work ≡ drop (N * N) before = rw fills.written (drop_at (slot_numbers N _) _ (N * N) (slot-numbers-length N _)) in
    let rest : drop (each * (N * N)) work ≡ drop (each * (N * N)) before = drop-later work before _ _ (places-some each N positive) past in
    gap passed (named ∙ fills.missing_is) (λ none. some (sym named ∙ none))
    (e ∙ ap (λ k. replicate k 0 ++ drop k work) all ∙ ap (λ l. replicate (each * (N * N)) 0 ++ l) rest)
