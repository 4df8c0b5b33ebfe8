-- How compiling ends, from what the slot pass, the clearing and the writer leave.
use Prim.Native.Nat.{ℕ, ◌+◌, ◌*◌, ◌≤◌, ◌<◌}
use native.Mathlib.Nat.{mul-le-mul}
use native.Mathlib.Omega.{arith}
use mathlib.Core.Path.{◌≡◌, sym, ap, ap₂, ◌∙◌}
use mathlib.Core.Bool.{true}
use mathlib.Core.List.{List, ◌++◌, append_assoc}
use lib.ListN.{length, take, drop, replicate, length-append, length-drop, replicate-append-replicate}
use lib.Seq.{drop_at}
use Rattle.model.specs.Label.{is_order}
use Rattle.model.specs.Fill.{Plan, record_count}
use Rattle.model.specs.Program.{program, compiled}
use Rattle.model.specs.Compile.{Compiler, plain, compact, written, refusal, judged, good, orderly, wanted, spare, gap_at, slots_by, records_by, program_by}
use Rattle.model.specs.Compile.{slot_numbers, work_with}
use Rattle.model.proofs.Lists.{drop-later}
use Rattle.model.proofs.Within.{within-range}
use Rattle.model.proofs.Bounds.{records-at_most}
use Rattle.model.proofs.Counts.{records-counted}
use Rattle.model.proofs.WorkNumbers.{slot-numbers-length}
use Rattle.model.proofs.Compiles.{orderly-good, Ends, ends-orderly, ends-gap, ends_words, ends-done}
use Rattle.slots.specs.declared.Filled.{Filled}
use Rattle.refusal.specs.Named.{number_of, detail_of}
use Rattle.refusal.specs.declared.Refusal.{Refusal}
use Rattle.plans.specs.Slotted.{Slotted, Refuses, early, gap}
use Rattle.writer.specs.Line.{plan_records}
use Rattle.writer.specs.Prepared.{Prepared}
use Rattle.writer.proofs.Numbers.{filled-first, slots_agree, plan-compiled}
use Rattle.compiler.specs.Compilation.{records_of}
use Rattle.compiler.proofs.Compilers.{wanted-is, Crout, of_plain, of_compact}
use Rattle.compiler.proofs.Parts.{part_of, with_part, cleared-part}

-- 1 to 5 refuse: 1 to 4 change nothing, and after 5 the work numbers are cleared
pub refused-ends : {c : Compiler} {each N : ℕ} {L : Plan} → Crout c each N L → {before work : List ℕ} (words : List ℕ) {r : Refusal}
    → Refuses each N L before work r → Ends c N L before words (refusal (number_of r) (detail_of r)) work words
refused-ends {c} {each} {N} {L} same {before} words (early e stays) = rw stays (ends-orderly c N L before words _ _ (rw same.wants at e))
refused-ends {c} {each} {N} {L} same {before} {work} words (gap {m} orders named some cleared) =
    let here : m ≡ gap_at c N L = named ∙ sym same.gap_at_is in
    let clean : work ≡ work_with c N (replicate (N * N) 0) before =
    cleared
    ∙ ap (λ k. replicate k 0 ++ drop k before) same.wants
    ∙ ap (λ l. l ++ drop (wanted c N) before)
    (ap (λ k. replicate k 0) (sym (wanted-is c N)) ∙ sym (replicate-append-replicate (N * N) (spare c N) 0))
    ∙ append_assoc (replicate (N * N) 0) (replicate (spare c N) 0) _ in
    rw (here, clean, ← same.gap_is) (ends-gap c N L before words (rw same.wants at orders) (λ none. some (here ∙ none)))

module _ {c : Compiler} {each N : ℕ} {L : Plan} (same : Crout c each N L) {before work in_rows in_columns : List ℕ} {r : Filled}
    (s : Slotted each N L before work in_rows in_columns r) where
  passed : orderly (wanted c N) N L (length before) ≡ good
  passed = rw same.wants at s.passed

  -- what 1 to 4 tell
  told : (is_order N ≡ true) × ((judged N 0 1 L ≡ good) × (wanted c N ≤ length before))
  told = orderly-good _ _ _ _ passed

  pub high : N ≤ 600
  high = (within-range N 600 told.0).1

  pub square-high : N * N ≤ 360000
  square-high = mul-le-mul {n₂ = 600} {m₂ = 600} high high

  pub slots-first : take (N * N) work ≡ slot_numbers N L
  slots-first = filled-first s.filled

  pub past-wanted : drop (wanted c N) work ≡ drop (wanted c N) before
  past-wanted =
      drop-later work before (N * N) (wanted c N) (omega (arith, wanted-is c N))
      (rw s.filled.written (drop_at (slot_numbers N L) _ (N * N) (slot-numbers-length N L)))

  pub roomy : wanted c N ≤ length work
  roomy = omega (
    arith,
    told.1.1,
    wanted-is c N,
    ap length s.filled.written,
    length-append (slot_numbers N L) (drop (N * N) before),
    slot-numbers-length N L,
    length-drop (N * N) before,
  )

  records-are : records_of N r ≡ record_count N L
  unfolding record_count
  records-are = rw (s.filled.slots-are, s.filled.products-are, s.filled.above-are)

  pub records_fit : records_of N r ≤ 100000000
  records_fit = rw records-are (records-at_most N L high)

  module _ (words : List ℕ) {records : ℕ} (count : records ≡ records_of N r) where
    all : records ≡ records_by c N L
    all = count ∙ records-are ∙ sym same.records-are

    whole : gap_at c N L ≡ 0
    whole = same.gap_at_is ∙ s.whole

    -- too few words
    pub short-ends : length words < 4 * records → Ends c N L before words (refusal 6 records) (work_with c N (slot_numbers N L) before) words
    short-ends few = rw (all, ← same.numbers-are) (ends_words c N L before words passed whole (rw all at few))

    module _ (enough : 4 * records ≤ length words) where
      pub prepared : Prepared N L work in_rows in_columns words
      prepared = record {
        order = told.0;
        rises = told.1.0;
        covers = omega (arith, roomy, wanted-is c N);
        kept = λ i j inside. sym (slots_agree N L work slots-first i j inside).1;
        records = rw (plan-compiled N L work slots-first) at (records-counted N L s.whole);
        row_count = s.filled.row_count;
        column-count = s.filled.column-count;
        skips = s.filled.skips;
        fits = rw (count ∙ records-are) at enough;
      }

      -- the program is written
      pub done-ends : {slots : ℕ} {words' : List ℕ} → slots ≡ slots_by c N L → words' ≡ program_by c N L ++ drop (4 * record_count N L) words
          → Ends c N L before words (written slots r.products records) (work_with c N (slot_numbers N L) before) words'
      done-ends made wrote =
          let products = s.filled.products-are ∙ sym same.products-are in
          let wrote-all = wrote ∙ ap (λ k. program_by c N L ++ drop (4 * k) words) (sym same.records-are) in
          rw (made, products, all, wrote-all, ← same.numbers-are) (ends-done c N L before words passed whole (rw all at enough))

module _ {N : ℕ} {L : Plan} {before work in_rows in_columns : List ℕ} {r : Filled} (s : Slotted 1 N L before work in_rows in_columns r) (words : List ℕ)
    {records : ℕ} (count : records ≡ records_of N r) where
  same : Crout plain 1 N L
  same = of_plain N L

  -- the plain compiler leaves the slots,
  pub plain-short : length words < 4 * records → Ends plain N L before words (refusal 6 records) work words
  plain-short few = rw s.filled.written (short-ends same s words count few)

  -- and writes the plain program
  pub plain-ends : {words' : List ℕ} → 4 * records ≤ length words
      → words' ≡ program N (length L) r.slots (plan_records N L work) ++ drop (4 * record_count N L) words
      → Ends plain N L before words (written r.slots r.products records) work words'
  unfolding compiled
  plain-ends enough wrote =
      rw s.filled.written
      (done-ends same s words count enough s.filled.slots-are (wrote ∙ rw (s.filled.slots-are, plan-compiled N L work (slots-first same s))))

module _ {N : ℕ} {L : Plan} {before work in_rows in_columns : List ℕ} {r : Filled} (s : Slotted 4 N L before work in_rows in_columns r) where
  -- once those past the slots are cleared the second compiler's work numbers are
  pub compact-left : (after : List ℕ) {square : ℕ} {part : List ℕ} → square ≡ N * N → take (N * N) after ≡ take (N * N) work
      → drop (4 * (N * N)) after ≡ drop (4 * (N * N)) work → part ≡ replicate (3 * square) 0 ++ drop (3 * square) (part_of square (length after) after)
      → with_part square (length after) after part ≡ work_with compact N (slot_numbers N L) before
  compact-left after {square} square-is first rest e =
      let same = of_compact N L in
      let all : N * N + 3 * (N * N) ≡ 4 * (N * N) = omega arith in
      cleared-part square after (3 * square) e
      ∙ ap (λ q. take q after ++ (replicate (3 * q) 0 ++ drop (q + 3 * q) after)) square-is
      ∙ ap₂ (λ xs ys. xs ++ (replicate (3 * (N * N)) 0 ++ ys)) (first ∙ slots-first same s)
      (ap (λ k. drop k after) all ∙ rest ∙ past-wanted same s)
