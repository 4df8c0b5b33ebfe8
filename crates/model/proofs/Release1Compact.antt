-- Release 1, here R, and the second compiler: it refuses the compact program, or this is the plain one.
use Prim.Native.Nat.{ℕ, suc, ◌-◌, ◌≤◌, max}
use native.Mathlib.Omega.{arith}
use mathlib.Core.Path.{◌≡◌, refl, sym, ap, ap₂, ◌∙◌}
use mathlib.Core.Bool.{true}
use mathlib.Core.List.{List, [], ◌∷◌, ◌++◌}
use borrow.Author.Tests.{ne_eqb}
use lib.ListN.{length, get_or, length-append, get_or-append}
use Rattle.model.specs.Release1 as R
use Rattle.model.specs.Lists.{rising}
use Rattle.model.specs.Label.{is_order}
use Rattle.model.specs.Fill.{Plan, missing}
use Rattle.model.specs.Program.{Record, rec, program, compiled}
use Rattle.model.specs.Compile.{judged, good}
use Rattle.model.specs.Check.{kind_of}
use Rattle.model.specs.Compact.{renamed, after_record, compacting, compact_slots, compact_records, compacted}
use Rattle.model.proofs.Lists.{length-rising, get_or-rising}
use Rattle.model.proofs.Links.{links_from}
use Rattle.model.proofs.Reuse.{taken, made_with}
use Rattle.model.proofs.Plain.{Phase, Plain, ends, opens-c, opens-y, opens-x}
use Rattle.model.proofs.Plain.{subtracts-c, subtracts-y, subtracts-x, divides, closes-c, closes-pivot, closes-y, closes-x}
use Rattle.model.proofs.Renaming.{open_slot, standing, slot_in, given_more, giving_is}
use Rattle.model.proofs.Compact.{compiled-plain, compact_chain}
use Rattle.model.proofs.Release1Accepts.{opens_c, opened_c, slots_in_turn}

-- plain slot j was given j, where the slots given and those given later are 1, 2, .., s in this order
slot_same : (given ks : List ℕ) (s j : ℕ) → given ++ ks ≡ rising (λ k. k) 1 s → 1 ≤ j → j ≤ length given → slot_in given j ≡ j
slot_same given ks s j e low high =
    let all = sym (length-append given ks) ∙ ap length e ∙ length-rising (λ k. k) 1 s in
    rw (ne_eqb j 0 (omega arith)) (sym (get_or-append given ks 0 (j - 1) (omega arith))
    ∙ ap (λ l. get_or l (j - 1) 0) e ∙ get_or-rising (λ k. k) 1 s (j - 1) 0 (omega arith) ∙ omega arith)

-- the renamed records rs are the plain ones, qs, and their s' slots as many as the plain s
record Unchanged (s s' : ℕ) (rs qs : List Record) : Type 0 where
  records : rs ≡ qs
  slots : s' ≡ s

-- one record more
more : {s s' : ℕ} {r q : Record} {rs qs : List Record} → r ≡ q → Unchanged s s' rs qs → Unchanged s s' (r ∷ rs) (q ∷ qs)
more e same = record { records = ap₂ {C = List Record} (λ r rs. r ∷ rs) e same.records; slots = same.slots }

-- So it is, where they open the slots 1, 2, .., s' in this order.
module _ {N n s : ℕ} (s' : ℕ) where
  unchanged : {ph : Phase} {c y x : ℕ} (given free : List ℕ) (made i : ℕ) {rs : List Record} → Plain N n s ph c y x rs → length given ≡ max c (open_slot ph c)
      → given ++ opened_c (links_from i (renamed (standing (open_slot ph c) given free made) rs).records) ≡ rising (λ k. k) 1 s'
      → Unchanged s s' (renamed (standing (open_slot ph c) given free made) rs).records rs
  unfolding renamed after_record kind_of opens_c opened_c links_from
  unchanged given free made i ends opened turn =
      record { records = refl; slots = sym (length-rising (λ k. k) 1 s') ∙ sym (ap length turn) ∙ length-append given [] ∙ omega (arith, opened) }
  unchanged given free made i (opens-c {c} a h last plain) opened turn =
      let given' = given ++ (taken free made ∷ []) in
      let longer : length given' ≡ max c (suc c) = length-append given (taken free made ∷ []) ∙ omega (arith, opened) in
      let turn' = given_more c given (taken free made) _ opened ∙ (rw (giving_is given free made, renamed) at turn) in
      rw (giving_is given free made, renamed) (more (ap (rec 1 a) (slot_same given' _ s' (suc c) turn' (omega arith) (omega (arith, longer))))
      (unchanged given' _ (made_with free made) (suc i) plain longer turn'))
  unchanged given free made i (opens-y p h plain) opened turn = more refl (unchanged given _ made (suc i) plain opened turn)
  unchanged given free made i (opens-x p h plain) opened turn = more refl (unchanged given _ made (suc i) plain opened turn)
  unchanged given free made i (subtracts-c p q hp hq plain) opened turn =
      more (ap₂ (rec 4) (slot_same given _ s' p turn hp.0 (omega (arith, opened))) (slot_same given _ s' q turn hq.0 (omega (arith, opened))))
      (unchanged given _ made (suc i) plain opened turn)
  unchanged given free made i (subtracts-y p q hp hq plain) opened turn =
      more (ap (λ j. rec 5 j q) (slot_same given _ s' p turn hp.0 (omega (arith, opened)))) (unchanged given _ made (suc i) plain opened turn)
  unchanged given free made i (subtracts-x p q hp hq plain) opened turn =
      more (ap (λ j. rec 6 j q) (slot_same given _ s' p turn hp.0 (omega (arith, opened)))) (unchanged given _ made (suc i) plain opened turn)
  unchanged given free made i (divides p hp plain) opened turn =
      more (ap (λ j. rec 7 j 0) (slot_same given _ s' p turn hp.0 (omega (arith, opened)))) (unchanged given _ made (suc i) plain opened turn)
  unchanged given free made i (closes-c plain) opened turn = more refl (unchanged given _ made (suc i) plain (omega (arith, opened)) turn)
  unchanged given free made i (closes-pivot plain) opened turn = more refl (unchanged given _ made (suc i) plain (omega (arith, opened)) turn)
  unchanged given free made i (closes-y plain) opened turn = more refl (unchanged given _ made (suc i) plain opened turn)
  unchanged given free made i (closes-x plain) opened turn = more refl (unchanged given _ made (suc i) plain opened turn)

-- The headline: a compact program that release 1 accepts is the plain one.
pub refused_or_plain : (N : ℕ) (L : Plan) → is_order N ≡ true → judged N 0 1 L ≡ good → missing N L ≡ 0 → R.check (compacted N L) ≡ R.fine
    → compacted N L ≡ compiled N L
unfolding compacted compiled compact_slots compact_records compacting
refused_or_plain N L order labels none accepts =
    let turn = ap (λ c. opened_c c.links) (sym (compact_chain N L order none)) ∙ slots_in_turn (compacted N L) accepts in
    let same = unchanged (compact_slots N L) [] [] 0 1 (compiled-plain N L order none) refl turn in
    ap₂ (program N (length L)) same.slots same.records
