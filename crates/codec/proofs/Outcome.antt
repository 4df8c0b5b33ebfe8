-- The file calls by the outcome of their tests.
use Prim.Native.Nat.{ℕ, ◌*◌, ◌/◌, ◌%◌, ◌≤◌}
use native.Mathlib.Omega.{arith}
use mathlib.Core.Path.{◌≡◌, refl}
use mathlib.Core.Bool.{Bool, true, false}
use lib.Dec.{leb, eqb}
use borrow.Author.Tests.{le-leb, eq-eqb, eqb-true}
use Rattle.model.specs.File.{filed, refusal, writes, reads}

module _ (words bytes : ℕ) where
  pub writes-done : words ≤ 400000000 → 4 * words ≤ bytes → filed (4 * words) ≡ writes words bytes
  unfolding writes
  writes-done few fits = simp (le-leb words 400000000 few, le-leb (4 * words) bytes fits, writes)

module _ (bytes words : ℕ) where
  pub reads-done : bytes % 4 ≡ 0 → bytes / 4 ≤ words → filed (bytes / 4) ≡ reads bytes words
  unfolding reads
  reads-done even fits = simp (eq-eqb (bytes % 4) 0 even, le-leb (bytes / 4) words fits, reads)

-- an answer that is no refusal passed the first test, and is the entries needed
done : (a b : Bool) (number n : ℕ) {k : ℕ} → filed k ≡ elim a [ false ↦ refusal number 0 | true ↦ elim b [ false ↦ refusal 19 n | true ↦ filed n ] ]
    → (a ≡ true) × (k ≡ n)
done false b number n e = let z : ◌≡◌ {A = ℕ} 0 1 = cc in absurd (omega arith)
done true false number n e = let z : ◌≡◌ {A = ℕ} 0 1 = cc in absurd (omega arith)
done true true number n e = (refl, cc)

pub written_count : (words bytes : ℕ) {k : ℕ} → filed k ≡ writes words bytes → k ≡ 4 * words
unfolding writes
written_count words bytes e = (done (leb words 400000000) (leb (4 * words) bytes) 7 (4 * words) e).1

pub made-count : (bytes words : ℕ) {k : ℕ} → filed k ≡ reads bytes words → (bytes % 4 ≡ 0) × (k ≡ bytes / 4)
unfolding reads
made-count bytes words e =
    let passed = done (eqb (bytes % 4) 0) (leb (bytes / 4) words) 18 (bytes / 4) e in
    (eqb-true (bytes % 4) 0 passed.0, passed.1)
