-- The work numbers are the slots given in the compact program, so that the records written from them are its own.
use Prim.Native.Nat.{ℕ, suc, ◌-◌, ◌*◌, ◌≤◌, ◌<◌}
use native.Mathlib.Omega.{arith}
use mathlib.Core.Path.{◌≡◌, refl, sym, ap, ◌∙◌}
use mathlib.Core.Bool.{Bool, true, false}
use mathlib.Core.List.{List, ◌++◌}
use lib.Dec.{ltb}
use lib.ListN.{length, get_or, take, drop}
use lib.Seq.{paste}
use borrow.Author.Tests.{lt-ltb}
use Rattle.std.specs.List.{copy_within}
use Rattle.model.specs.Label.{label}
use Rattle.model.specs.Fill.{Plan, held, slot, missing, record_count}
use Rattle.model.specs.Program.{program}
use Rattle.model.specs.Compact.{openings, compact_records, compacted}
use Rattle.model.proofs.Labels.{Inside, label-range}
use Rattle.model.proofs.Slots.{slot_zero, slot-range}
use Rattle.model.proofs.Plans.{pivot-held}
use Rattle.model.proofs.Counts.{records-counted}
use Rattle.model.proofs.Assign.{room_in}
use Rattle.model.proofs.Compact.{compact_length}
use Rattle.model.proofs.Given.{records-given}
use Rattle.reuse.specs.Places.{Planned, Given, Gives, Numbered}
use Rattle.writer.specs.Worked.{number_at, kept_at}
use Rattle.writer.specs.Line.{plan_records}
use Rattle.writer.specs.Prepared.{Prepared}
use Rattle.writer.proofs.Agree.{records_agree}
use Rattle.compiler.proofs.Parts.{part_of, with_part}
use Rattle.compiler.proofs.Copied.{part-first, part_length, past-covers, given-past, first-left, rest-left}

-- the first n² numbers of two slices are the same
pub record Alike (n : ℕ) (work work' : List ℕ) : Type 0 where
  pub same : (k : ℕ) → k < n * n → get_or work' k 0 ≡ get_or work k 0

alike_at : {n : ℕ} {work work' : List ℕ} → Alike n work work' → (i j : ℕ) → Inside n i j → get_or work' (label n i j - 1) 0 ≡ get_or work (label n i j - 1) 0
alike_at {n = n} alike i j inside = alike.same (label n i j - 1) (omega (arith, label-range n i j inside))

module _ {n : ℕ} {L : Plan} {work in_rows in_columns words : List ℕ} (ready : Prepared n L work in_rows in_columns words) (none : missing n L ≡ 0) where
  -- the slots are given from numbers at the held places
  pub planned : {given : List ℕ} → Alike n work given → Planned n L in_rows given
  unfolding kept_at number_at
  planned alike = record {
    good = record { order = ready.order; complete = none };
    numbered = λ i j inside. ap (ltb 0) (alike_at alike i j inside) ∙ ready.kept i j inside;
    row_count = ready.row_count;
    skips = λ i h inside below. ready.skips.rows i h inside (label-range n i h inside).1 below;
  }

  module _ {given work' : List ℕ} {made : ℕ} (g : Given n L given made) (alike : Alike n given work') where
    room : ℕ → ℕ → ℕ
    room = room_in n L (openings (compact_records n L))

    -- exactly the held places are given one
    held-room : (i j : ℕ) → Inside n i j → held n L i j ≡ ltb 0 (room i j)
    unfolding room
    held-room i j inside = step (held n L i j) refl
      where
        step : (b : Bool) → held n L i j ≡ b → held n L i j ≡ ltb 0 (room_in n L (openings (compact_records n L)) i j)
        step true e = let range = slot-range n L i j inside e in e ∙ sym (lt-ltb 0 _ (g.positive (slot n L i j) range.0 range.1))
        step false e = rw (e, slot_zero n L i j e)

    agree : (i j : ℕ) → Inside n i j → (room i j ≡ number_at n work' i j) × (held n L i j ≡ kept_at n work' i j)
    unfolding room number_at kept_at
    agree i j inside =
        let number = sym (alike_at alike i j inside ∙ g.given-are i j inside) in
        (number, held-room i j inside ∙ ap (ltb 0) number)

    records-are : compact_records n L ≡ plan_records n L work'
    unfolding room
    records-are = records-given n L (pivot-held n L none) g.positive ∙ records_agree n L room work' agree

    -- the program is written from them
    pub compact_prepared : n * n ≤ length work' → Prepared n L work' in_rows in_columns words
    compact_prepared covers = record {
      order = ready.order;
      rises = ready.rises;
      covers = covers;
      kept = λ i j inside. sym (agree i j inside).1;
      records = sym (ap (λ rs. suc (length rs)) records-are) ∙ ap suc (compact_length n L ready.order none) ∙ records-counted n L none;
      row_count = ready.row_count;
      column-count = ready.column-count;
      skips = ready.skips;
      fits = ready.fits;
    }

    pub compact_written : {words' : List ℕ} → words' ≡ program n (length L) made (plan_records n L work') ++ drop (4 * record_count n L) words
        → words' ≡ compacted n L ++ drop (4 * record_count n L) words
    unfolding compacted
    compact_written wrote = wrote ∙ rw (g.slots-are, records-are)

-- the first numbers are copied past them, there the slots are given, and the records are written from these
module _ {n : ℕ} {L : Plan} {work in_rows in_columns words : List ℕ} (ready : Prepared n L work in_rows in_columns words) (none : missing n L ≡ 0)
    {q : ℕ} {copied : List ℕ} (q-is : q ≡ n * n) (roomy : 4 * (n * n) ≤ length work) (copied-is : copied ≡ copy_within work 0 q q) where
  copied-by : copied ≡ paste work q work q
  copied-by = let all : q - 0 ≡ q = omega arith in copied-is ∙ ap (paste work q work) all

  four : 4 * q ≤ length work
  four = omega (arith, q-is)

  part_planned : Planned n L in_rows (part_of q (4 * q) copied)
  part_planned = planned ready none (record { same = λ k below. part-first work copied q four copied-by k (omega (arith, q-is)) })

  part_is_long : length (part_of q (4 * q) copied) ≡ 3 * q
  part_is_long = part_length work copied q four copied-by

  pub numbered : Numbered n in_rows (part_of q (4 * q) copied)
  numbered = record { plan = L; planned = part_planned; count = omega (arith, q-is, part_is_long) }

  module _ {given : List ℕ} {made : ℕ} (assigned : (P : Plan) → Gives n P in_rows (part_of q (4 * q) copied) given made)
      (long : length given ≡ length (part_of q (4 * q) copied)) where
    abbrev after : List ℕ
    after = with_part q (4 * q) copied given

    count : length given ≡ 3 * q
    count = long ∙ part_is_long

    pub slots-given : Given n L given made
    slots-given = assigned L part_planned

    alike_past : Alike n given (part_of q (length after) after)
    alike_past = record { same = λ k below. given-past work copied q four copied-by given count k (omega (arith, q-is)) }

    pub past_prepared : Prepared n L (part_of q (length after) after) in_rows in_columns words
    past_prepared = compact_prepared ready none slots-given alike_past (omega (arith, q-is, past-covers work copied q four copied-by given count))

    pub past_written : {words' : List ℕ}
        → words' ≡ program n (length L) made (plan_records n L (part_of q (length after) after)) ++ drop (4 * record_count n L) words
        → words' ≡ compacted n L ++ drop (4 * record_count n L) words
    past_written = compact_written ready none slots-given alike_past

    -- the plain slots and all past the four parts are as they came
    pub first_kept : take (n * n) after ≡ take (n * n) work
    first_kept =
        ap (λ k. take k after) (sym q-is) ∙ first-left work copied q four copied-by given count ∙ ap (λ k. take k work) q-is

    pub rest_kept : drop (4 * (n * n)) after ≡ drop (4 * (n * n)) work
    rest_kept =
        ap (λ k. drop (4 * k) after) (sym q-is) ∙ rest-left work copied q four copied-by given count ∙ ap (λ k. drop (4 * k) work) q-is
