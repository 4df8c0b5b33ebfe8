-- How compiling a sweep ends, from the positions that marking leaves in the work numbers (A.7).
use Prim.Native.Nat.{ℕ, ◌*◌, ◌-◌, ◌≤◌, ◌<◌}
use native.Mathlib.Nat.{mul-le-mul, one-mul}
use native.Mathlib.Omega.{arith}
use mathlib.Core.Path.{◌≡◌, sym, ap, ap₂, ◌∙◌}
use mathlib.Core.Bool.{true}
use mathlib.Core.List.{List, ◌++◌}
use lib.ListN.{length, drop, replicate, take-append-drop}
use Rattle.model.specs.Label.{is_order}
use Rattle.model.specs.Fill.{Plan}
use Rattle.model.specs.Sweep.{bare, compiled_sweep, position_numbers}
use Rattle.model.specs.Compile.{judged, good, orderly, written, refusal, sweep, records_by, work_with}
use Rattle.model.proofs.Within.{within-range}
use Rattle.model.proofs.Plans.{plan-length}
use Rattle.model.proofs.SweepCounts.{products_and_diagonals}
use Rattle.model.proofs.Compiles.{orderly-good, Ends, ends-gap, ends_words, ends-done}
use Rattle.slots.specs.Marks.{Marked}
use Rattle.writer.specs.Worked.{Covers}
use Rattle.writer.specs.Sweep.{Positions, Planned}

-- a plan that checks 1 to 4 let through, marked in the work numbers that came before
pub record Placed (N : ℕ) (L : Plan) (before work : List ℕ) : Type 0 where
  pub passed : orderly (N * N) N L (length before) ≡ good
  pub marked : Marked N L before work

pub placed : {N : ℕ} {L : Plan} {before work : List ℕ} → good ≡ orderly (1 * (N * N)) N L (length before) → Marked N L before work → Placed N L before work
placed {N} orders marked = record { passed = rw (one-mul (N * N)) at (sym orders); marked = marked }

module _ {N : ℕ} {L : Plan} {before work : List ℕ} (p : Placed N L before work) where
  -- what 1 to 4 tell
  told : (is_order N ≡ true) × ((judged N 0 1 L ≡ good) × (N * N ≤ length before))
  told = orderly-good _ _ _ _ p.passed

  pub positions : Positions N L work
  positions = record { are = p.marked.positions }

  pub covers : Covers N work
  covers = let range = within-range N 600 told.0 in record { low = range.0; high = range.1; long = omega (arith, told.1.1, p.marked.size) }

  pub labels-few : (N * N ≤ 360000) × (length L ≤ 360000)
  labels-few =
      let square = mul-le-mul {n₂ = 600} {m₂ = 600} covers.high covers.high in
      (square, omega (arith, plan-length N L told.1.0))

  numbers : work ≡ work_with sweep N (position_numbers N L) before
  numbers = sym (take-append-drop (N * N) work) ∙ ap₂ ◌++◌ p.marked.positions p.marked.rest

  -- row r is found, by what `first_bare` answers
  module _ {r : ℕ} (found : (L : Plan) → Positions N L work → r ≡ bare N L) where
    -- without its diagonal, and the work numbers are cleared
    pub bare_ends : (words : List ℕ) {count : ℕ} {cleared : List ℕ} → (r ≡ 0 → ⊥) → count ≡ N * N → cleared ≡ replicate count 0 ++ drop count work
        → Ends sweep N L before words (refusal 26 r) cleared words
    bare_ends words {cleared = cleared} some all e =
        let named = found L positions in
        let clean : cleared ≡ work_with sweep N (replicate (N * N) 0) before =
        e ∙ ap (λ k. replicate k 0 ++ drop k work) all ∙ ap (λ l. replicate (N * N) 0 ++ l) p.marked.rest in
        rw (named, clean) (ends-gap sweep N L before words p.passed (λ none. some (named ∙ none)))

    module _ (none : r ≡ 0) where
      complete : bare N L ≡ 0
      complete = sym (found L positions) ∙ none

      -- as many labels as rows
      pub labels_enough : N ≤ length L
      labels_enough = omega (arith, products_and_diagonals N L complete told.1.0)

      -- too few words
      pub short_sweep : (words : List ℕ) → length words < 4 * records_by sweep N L → Ends sweep N L before words (refusal 6 (records_by sweep N L)) work words
      short_sweep words few = rw numbers (ends_words sweep N L before words p.passed complete few)

      module _ (words : List ℕ) (enough : 4 * records_by sweep N L ≤ length words) where
        pub rows-planned : Planned N L work words
        rows-planned = record {
          order = told.0;
          rises = told.1.0;
          covers = covers.long;
          positions = positions;
          complete = complete;
          fits = enough;
        }

        -- the program is written
        pub sweep_ends : {words' : List ℕ} → words' ≡ compiled_sweep N L ++ drop (4 * records_by sweep N L) words
            → Ends sweep N L before words (written 0 (length L - N) (records_by sweep N L)) work words'
        sweep_ends wrote = rw (wrote, numbers) (ends-done sweep N L before words p.passed complete enough)
