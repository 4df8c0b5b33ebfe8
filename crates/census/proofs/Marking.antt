-- A set's digits mark it in the work numbers.
use Prim.Native.Nat.{ℕ, ◌*◌, ◌≤◌}
use native.Mathlib.Nat.{mul-le-mul}
use native.Mathlib.Omega.{arith}
use mathlib.Core.Path.{◌≡◌}
use mathlib.Core.Bool.{true}
use mathlib.Core.List.{List}
use Rattle.model.specs.Label.{within}
use Rattle.model.proofs.Within.{within-range}
use Rattle.model.proofs.Sets.{marked, digits, digits-at, digits_mark}
use Rattle.slots.specs.Marks.{Marks}

pub places-few : (N : ℕ) → within N 4 ≡ true → N * N ≤ 16
places-few N h = let high = (within-range N 4 h).1 in mul-le-mul {n₂ = 4} {m₂ = 4} high high

pub set-marks : (N b : ℕ) {work : List ℕ} → within N 4 ≡ true → work ≡ digits b 16 → Marks N (marked (N * N) b) 0 work
set-marks N b h e = record { marks = λ k low high. rw (e, digits-at b 16 k (omega (arith, places-few N h))) (digits_mark (N * N) b k high) }
