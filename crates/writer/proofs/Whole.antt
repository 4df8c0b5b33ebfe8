-- The whole program: record 0, the records after it and the last next; and what the compiler has for Crout's.
use Prim.Native.Nat.{ℕ, suc, ◌+◌, ◌-◌, ◌*◌, ◌≤◌}
use native.Mathlib.Nat.{mul-le-mul}
use native.Mathlib.Decide.{dec_le}
use native.Mathlib.Omega.{arith}
use mathlib.Core.Path.{◌≡◌, ap, ◌∙◌}
use mathlib.Core.Bool.{true, false}
use mathlib.Core.List.{List, [], ◌∷◌, ◌++◌}
use borrow.Author.Tests.{ltb-true, ltb-false}
use lib.Dec.{eqb-suc-zero}
use lib.ListN.{length, drop, set, length-drop}
use lib.Seq.{drop-drop}
use Rattle.model.specs.Label.{label, is_order}
use Rattle.model.specs.Fill.{Plan, position, held, record_count}
use Rattle.model.specs.Program.{Record, chained, program}
use Rattle.model.specs.Compile.{judged, good}
use Rattle.model.proofs.Labels.{Inside, label-range}
use Rattle.model.proofs.Fill.{held_in_plan}
use Rattle.model.proofs.Within.{within-range}
use Rattle.model.proofs.Plans.{plan-length}
use Rattle.model.proofs.Bounds.{records-at_most}
use Rattle.slots.specs.Skips.{Skips}
use Rattle.writer.specs.Prepared.{Prepared}
use Rattle.writer.specs.Written.{linked, pasted, Room, Wrote}
use Rattle.writer.specs.Worked.{number_at, kept_at}
use Rattle.writer.specs.Line.{Ready, plan_records}
use Rattle.writer.proofs.Written.{linked-length, wrote_length}

-- ---- the last next

pub ended : (k : ℕ) (rs : List Record) (rest : List ℕ) (i : ℕ) → suc i ≡ 4 * length rs → set (linked k rs ++ rest) i 0 ≡ chained k rs ++ rest
unfolding linked chained
ended k [] rest i e = absurd (omega arith)
ended k (r ∷ []) rest i e = let last : i ≡ 3 = omega arith in rw last
ended k (r ∷ s ∷ rs) rest i e =
    let on : i ≡ suc (suc (suc (suc (i - 4)))) = omega arith in
    rw (on, eqb-suc-zero (length rs)) (ap (λ ws. r.kind ∷ r.p ∷ r.q ∷ suc k ∷ ws) (ended (suc k) (s ∷ rs) rest (i - 4) (omega arith)))

-- ---- record 0, the records after it, and the last next

-- there are some records, and few enough; the plan is short enough; and the words have room for the program
pub record Counted (L : Plan) (records : List Record) (words : List ℕ) : Type 0 where
  pub some : 1 ≤ length records
  pub few : suc (length records) ≤ 100000000
  pub short : length L ≤ 360000
  pub fits : 4 * suc (length records) ≤ length words

module _ {L : Plan} {records : List Record} {words headed : List ℕ} (n s : ℕ) (counted : Counted L records words)
    (head : headed ≡ n ∷ length L ∷ s ∷ 1 ∷ drop 4 words) where
  headed_length : length headed ≡ length words
  headed_length = omega (arith, counted, ap length head, length-drop 4 words)

  pub headed_room : Room 0 1 records headed
  headed_room = omega (arith, counted, headed_length)

  module _ {ws : List ℕ} {end : ℕ} (wrote : Wrote 0 1 records headed ws end) where
    -- the last next is one of the words
    pub last_inside : (1 ≤ end) × (4 * end ≤ length ws)
    last_inside = omega (arith, counted, headed_length, wrote_length headed_room wrote, wrote.next-is)

    whole : ws ≡ n ∷ length L ∷ s ∷ 1 ∷ (linked 1 records ++ drop (4 * suc (length records)) words)
    unfolding pasted
    whole =
        let linked-count = linked-length 1 records in
        let past : 4 + length (linked 1 records) ≡ suc (suc (suc (suc (4 * length records)))) = omega arith in
        let all : 4 * suc (length records) ≡ 4 + 4 * length records = omega arith in
        wrote.words ∙ rw (head, past, all)
        (ap (λ rest. n ∷ length L ∷ s ∷ 1 ∷ (linked 1 records ++ rest)) (drop-drop (4 * length records) 4 words))

    -- The headline: with the last next 0 the words are the program's.
    pub program-written : {ended : List ℕ} → ended ≡ set ws (4 * end - 1) 0 → ended ≡ program n (length L) s records ++ drop (4 * suc (length records)) words
    program-written e =
        let on : 4 * end - 1 ≡ suc (suc (suc (suc (4 * length records - 1)))) = omega (arith, counted, wrote.next-is) in
        e ∙ rw (whole, on) (ap (λ l. n ∷ length L ∷ s ∷ 1 ∷ l) (ended 1 records _ (4 * length records - 1) (omega (arith, counted))))

-- ---- Crout's program

-- exactly the held places have a work number
module _ (n : ℕ) (L : Plan) (work : List ℕ) (kept : (i j : ℕ) → Inside n i j → kept_at n work i j ≡ held n L i j) where
  not_kept : (i j : ℕ) → Inside n i j → held n L i j ≡ false → number_at n work i j ≡ 0
  unfolding kept_at
  not_kept i j inside out = omega (arith, ltb-false 0 (number_at n work i j) (kept i j inside ∙ out))

  none-planned : (i j : ℕ) → Inside n i j → number_at n work i j ≡ 0 → position L (label n i j) ≡ 0
  unfolding kept_at
  none-planned i j inside none = elim (dec_le 1 (position L (label n i j))) [
    | yes there ↦ absurd (omega (arith, ltb-true 0 (number_at n work i j) (kept i j inside ∙ held_in_plan n L i j there)))
    | no out ↦ omega arith
  ]

  -- with the notes of rows and columns they are what a writer wants
  pub kept-ready : {in_rows in_columns : List ℕ} → is_order n ≡ true → judged n 0 1 L ≡ good → n * n ≤ length work → length in_rows ≡ 601
      → length in_columns ≡ 601 → Skips n L (n * n) in_rows in_columns → Ready n L work in_rows in_columns
  kept-ready order rises covers row_count column-count skips =
      let range = within-range n 600 order in
      record {
        covers = record { low = range.0; high = range.1; long = covers };
        rises = rises;
        row_count = row_count;
        column-count = column-count;
        rows = λ i h inside below. not_kept i h inside (skips.rows i h inside (label-range n i h inside).1 below);
        columns = λ h j inside below. not_kept h j inside (skips.columns j h inside (label-range n h j inside).1 below);
        planned = none-planned;
      }

module _ {n : ℕ} {L : Plan} {work in_rows in_columns words : List ℕ} (p : Prepared n L work in_rows in_columns words) where
  pub ready : Ready n L work in_rows in_columns
  ready = kept-ready n L work p.kept p.order p.rises p.covers p.row_count p.column-count p.skips

  pub plan-counted : Counted L (plan_records n L work) words
  unfolding record_count
  plan-counted =
      let range = within-range n 600 p.order in
      let square = mul-le-mul {n₂ = 600} {m₂ = 600} range.1 range.1 in
      omega (arith, p.records, p.fits, records-at_most n L range.1, plan-length n L p.rises)
