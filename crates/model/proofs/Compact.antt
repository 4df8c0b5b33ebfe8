-- A.11 on the definitions: the compact program has as many slots as are alive at most, and passes every check.
use Prim.Native.Nat.{ℕ, suc, ◌+◌, ◌≤◌, ◌<◌, max}
use native.Mathlib.Omega.{arith}
use mathlib.Core.Path.{◌≡◌, refl, sym, ap}
use mathlib.Core.Bool.{true, false, ◌&&◌}
use mathlib.Core.List.{List, [], ◌∷◌, ◌++◌}
use lib.Dec.{leb}
use lib.ListN.{length}
use borrow.Author.Tests.{le-leb, ne_eqb}
use Rattle.model.specs.Lists.{count}
use Rattle.model.specs.Formula.{C, Y, X}
use Rattle.model.specs.Program.{Record, rec, compiled_records}
use Rattle.model.specs.Label.{within, is_order}
use Rattle.model.specs.Fill.{Plan, slots, missing}
use Rattle.model.specs.Check.{Kind, opens, subtracts, closes, closes_pivot, kind_of, is_sweep, formed, in_order, in_turn, whole, chain}
use Rattle.model.specs.Compact.{open_after, needed, Renaming, renamed, after_opening, after_record, unnamed, most_alive}
use Rattle.model.specs.Compact.{compacting, compact_slots, compact_records, compacted}
use Rattle.model.specs.Agreement.{CompactLeast, CompactFine}
use Rattle.model.proofs.Within.{within-range, range-within, both_true}
use Rattle.model.proofs.Slots.{slots-at_least, slots-at_most}
use Rattle.model.proofs.Plans.{pivot-held, plan-length}
use Rattle.model.proofs.Chain.{row-chain}
use Rattle.model.proofs.Links.{links_from}
use Rattle.model.proofs.Checked.{divides_in_order, progress, Fine, one-fine, end-fine, records-fine, records-range}
use Rattle.model.proofs.Reuse.{whole_length, whole-range, taken, others, made_with}
use Rattle.model.proofs.Plain.{Phase, between, on, Closed, Plain, ends, opens-c, opens-y, opens-x}
use Rattle.model.proofs.Plain.{subtracts-c, subtracts-y, subtracts-x, divides, closes-c, closes-pivot, closes-y, closes-x, records-plain}
use Rattle.model.proofs.Renaming.{open_slot, standing, slot_in, Sound, needs, needs_too}
use Rattle.model.proofs.Renaming.{open_needed, sound-reads, sound_stays, sound-closes, giving_is, length-given, whole-opens, sound-opens, sound-begun}

-- ---- as many slots as are alive at most

-- the clause of `most_alive` at a record
alive_cons : (h o : ℕ) (r : Record) (rs : List Record) (h' : ℕ) → max h (open_after 0 (kind_of r.kind) r.q) ≡ h'
    → most_alive h o (r ∷ rs) ≡ max (count (λ j. needed o j (r ∷ rs)) h') (most_alive h' (open_after o (kind_of r.kind) r.q) rs)
unfolding most_alive
alive_cons h o r rs h' e = rw e

-- of S slots: with those made already they are what is alive at most, and there are some, and at most as many as plain ones
record Sized (s made h o : ℕ) (rs : List Record) (S : ℕ) : Type 0 where
  alive : S ≡ max made (most_alive h o rs)
  some : 1 ≤ s → 1 ≤ S
  few : S ≤ s

-- after the last record,
sized_last : {s d made : ℕ} {given free : List ℕ} → Sound s 0 d given free made [] → Sized s made (length given) 0 [] made
unfolding most_alive
sized_last sound = record { alive = omega arith; some = λ h. sound.some (omega (arith, sound.opened)); few = omega (arith, sound.few, sound.opened) }

-- before a record that opens no slot,
sized_same : {s c o d made S : ℕ} {given free : List ℕ} {r : Record} {rs : List Record} → Sound c o d given free made (r ∷ rs)
    → open_after 0 (kind_of r.kind) r.q ≡ 0 → Sized s made (length given) (open_after o (kind_of r.kind) r.q) rs S
    → Sized s made (length given) o (r ∷ rs) S
sized_same {o = o} {given = given} {r = r} {rs} sound none e = record {
  alive = omega (arith, e.alive, alive_cons (length given) o r rs (length given) (omega (arith, none)), whole_length sound.whole);
  some = e.some;
  few = e.few;
}

-- and before one that does: a new one is made only if as many are alive then
sized_more : {s c d made S a : ℕ} {given free : List ℕ} {rs : List Record} → needed (suc c) (suc c) rs ≡ true
    → Sound c 0 d given free made (rec 1 a (suc c) ∷ rs) → Sized s (made_with free made) (length (given ++ (taken free made ∷ []))) (suc c) rs S
    → Sized s made (length given) 0 (rec 1 a (suc c) ∷ rs) S
unfolding kind_of
sized_more {c = c} {made = made} {a = a} {given} {free} {rs} used sound e =
    let h : max (length given) (suc c) ≡ length (given ++ (taken free made ∷ [])) = omega (arith, sound.opened, length-given used sound) in
    record {
      alive = omega (arith, e.alive, enough free _ (whole_length (whole-opens used sound)), alive_cons (length given) 0 (rec 1 a (suc c)) rs _ h);
      some = e.some;
      few = e.few;
    }
  where
    enough : (free' : List ℕ) (n : ℕ) → length (others free') + n ≡ made_with free' made → made_with free' made ≡ max made n
    enough [] n e = omega arith
    enough (k ∷ ks) n e = omega arith

-- so it is before all of them
module _ {N n s : ℕ} where
  sized : {ph : Phase} {c y x d : ℕ} (given free : List ℕ) (made : ℕ) {rs : List Record} → Plain N n s ph c y x rs
      → Sound c (open_slot ph c) d given free made rs
      → Sized s made (length given) (open_slot ph c) rs (renamed (standing (open_slot ph c) given free made) rs).slots
  unfolding renamed after_record kind_of
  sized given free made ends sound = sized_last sound
  sized given free made (opens-c a h last plain) sound =
      let used = open_needed plain (omega arith) in
      rw (giving_is given free made, renamed) (sized_more used sound (sized _ _ (made_with free made) plain (sound-opens used sound)))
  sized given free made (opens-y p e plain) sound = sized_same sound refl (sized given _ made plain (sound_stays sound (omega arith)))
  sized given free made (opens-x p e plain) sound = sized_same sound refl (sized given _ made plain (sound_stays sound (omega arith)))
  sized given free made (subtracts-c p q hp hq plain) sound = sized_same sound refl (sized given _ made plain (sound_stays sound (omega arith)))
  sized given free made (subtracts-y p q hp hq plain) sound = sized_same sound refl (sized given _ made plain (sound_stays sound (omega arith)))
  sized given free made (subtracts-x p q hp hq plain) sound = sized_same sound refl (sized given _ made plain (sound_stays sound (omega arith)))
  sized given free made (divides p hp plain) sound = sized_same sound refl (sized given _ made plain (sound_stays sound (omega arith)))
  sized given free made (closes-c plain) sound = sized_same sound refl (sized given _ made plain (sound-closes sound (omega arith)))
  sized given free made (closes-pivot plain) sound = sized_same sound refl (sized given _ made plain (sound-closes sound (omega arith)))
  sized given free made (closes-y plain) sound = sized_same sound refl (sized given _ made plain (sound_stays sound (omega arith)))
  sized given free made (closes-x plain) sound = sized_same sound refl (sized given _ made plain (sound_stays sound (omega arith)))

-- ---- the checks

module _ (N n s S : ℕ) (crout : is_sweep S ≡ false) where
  -- a record that opens the slot given for it passes 12
  opens-slot : {c y x d made : ℕ} {given free : List ℕ} {rs : List Record} (a : ℕ) → leb a n ≡ true → Plain N n s (on C) c y x rs
      → Sound c (suc c) d given free made rs → made ≤ S → (leb a n && (within (slot_in given (suc c)) S && leb (slot_in given (suc c)) (suc d))) ≡ true
  opens-slot {c} {d = d} {given = given} a e plain sound few =
      let r = whole-range sound.whole (suc c) (omega arith) (omega (arith, sound.opened)) (open_needed plain (omega arith)) in
      both_true e (both_true (range-within (slot_in given (suc c)) S r.0 (omega arith)) (le-leb (slot_in given (suc c)) (suc d) sound.near))

  -- a slot that a record reads is closed
  reads : {ph : Phase} {c y x d made : ℕ} {given free : List ℕ} {rs : List Record} → Plain N n s ph c y x rs → Sound c (open_slot ph c) d given free made rs
      → (p : ℕ) → Closed c p → needed (open_slot ph c) p rs ≡ true → within (slot_in given p) d ≡ true
  reads {d = d} {given = given} plain sound p h e = let r = sound-reads plain sound p h e in range-within (slot_in given p) d r.0 r.1

  -- the renamed records pass, with the slots that the renaming ends with
  links-fine : {ph : Phase} {c y x d : ℕ} (given free : List ℕ) (made : ℕ) {rs : List Record} (k : ℕ) → Plain N n s ph c y x rs
      → Sound c (open_slot ph c) d given free made rs → (renamed (standing (open_slot ph c) given free made) rs).slots ≡ S
      → Fine N n S (progress ph (slot_in given (suc c)) k d y x) (renamed (standing (open_slot ph c) given free made) rs).records
  unfolding renamed after_record kind_of formed in_order in_turn
  links-fine {d = d} given free made k ends sound e = end-fine N n S crout d k (omega (arith, sound.reached))
  links-fine given free made k (opens-c a h last plain) sound e =
      let after = sound-opens (open_needed plain (omega arith)) sound in
      let slots = rw (giving_is given free made, renamed) at e in
      rw (giving_is given free made, renamed) (one-fine N n S crout _ (opens C) _ _ refl refl refl refl
      (opens-slot a h plain after (omega (arith, slots, (sized _ _ (made_with free made) plain after).alive)))
      (links-fine _ _ (made_with free made) k plain after slots))
  links-fine given free made k (opens-y p h plain) sound e =
      one-fine N n S crout _ (opens Y) _ _ refl refl refl refl h (links-fine given _ made p plain (sound_stays sound (omega arith)) e)
  links-fine given free made k (opens-x p h plain) sound e =
      one-fine N n S crout _ (opens X) _ _ refl refl refl refl h (links-fine given _ made p plain (sound_stays sound (omega arith)) e)
  links-fine given free made k (subtracts-c {c} {rs = rs} p q hp hq plain) sound e =
      let closed = reads (subtracts-c p q hp hq plain) sound in
      one-fine N n S crout _ (subtracts C) _ _ refl refl refl refl
      (both_true (closed p hp (needs (suc c) (rec 4 p q) rs)) (closed q hq (needs_too (suc c) (rec 4 p q) rs)))
      (links-fine given _ made k plain (sound_stays sound (omega arith)) e)
  links-fine given free made k (subtracts-y {rs = rs} p q hp hq plain) sound e =
      one-fine N n S crout _ (subtracts Y) _ _ refl refl refl refl
      (both_true (reads (subtracts-y p q hp hq plain) sound p hp (needs 0 (rec 5 p q) rs)) hq)
      (links-fine given _ made k plain (sound_stays sound (omega arith)) e)
  links-fine given free made k (subtracts-x {rs = rs} p q hp hq plain) sound e =
      one-fine N n S crout _ (subtracts X) _ _ refl refl refl refl
      (both_true (reads (subtracts-x p q hp hq plain) sound p hp (needs 0 (rec 6 p q) rs)) hq)
      (links-fine given _ made k plain (sound_stays sound (omega arith)) e)
  links-fine given free made k (divides {t} {c} {rs = rs} p hp plain) sound e =
      one-fine N n S crout _ Kind.divides _ _ refl refl refl (divides_in_order t (slot_in given (suc c)) k)
      (reads (divides p hp plain) sound p hp (needs (open_slot (on t) c) (rec 7 p 0) rs))
      (links-fine given _ made k plain (sound_stays sound (omega arith)) e)
  links-fine given free made k (closes-c plain) sound e =
      one-fine N n S crout _ closes _ _ refl refl refl refl refl
      (rw (sym sound.reached) (links-fine given _ made k plain (sound-closes sound (omega arith)) e))
  links-fine given free made k (closes-pivot plain) sound e =
      one-fine N n S crout _ closes_pivot _ _ refl refl refl refl refl
      (rw (sym sound.reached) (links-fine given _ made k plain (sound-closes sound (omega arith)) e))
  links-fine given free made k (closes-y plain) sound e =
      one-fine N n S crout _ closes _ _ refl refl refl refl refl (links-fine given _ made k plain (sound_stays sound (omega arith)) e)
  links-fine given free made k (closes-x plain) sound e =
      one-fine N n S crout _ closes _ _ refl refl refl refl refl (links-fine given _ made k plain (sound_stays sound (omega arith)) e)

-- ---- the compact program

-- a record for each
renamed-length : (z : Renaming) (rs : List Record) → length (renamed z rs).records ≡ length rs
unfolding renamed
renamed-length z [] = refl
renamed-length z (r ∷ rs) = ap suc (renamed-length (after_record (after_opening (kind_of r.kind) z) r rs) rs)

module _ (N : ℕ) (L : Plan) (order : is_order N ≡ true) (none : missing N L ≡ 0) where
  -- the invariant holds before the first record of the plain program, so what follows from it does
  pub compiled-plain : Plain N (length L) (slots N L) between 0 0 0 (compiled_records N L)
  compiled-plain = records-plain N L (pivot-held N L none)

  sizes : Sized (slots N L) 0 0 0 (compiled_records N L) (compact_slots N L)
  unfolding compact_slots compacting
  sizes = sized [] [] 0 compiled-plain (sound-begun (compiled_records N L))

  -- it has a slot
  pub compact_crout : is_sweep (compact_slots N L) ≡ false
  compact_crout = ne_eqb (compact_slots N L) 0
      (λ e. omega (arith, sizes.some (omega (arith, slots-at_least N L (pivot-held N L none), within-range N 600 order))))

  pub compact_length : length (compact_records N L) ≡ length (compiled_records N L)
  unfolding compact_records compacting
  compact_length = renamed-length unnamed (compiled_records N L)

  -- the chain of the compact program is its records in order
  pub compact_chain : chain (compacted N L) ≡ record { links = links_from 1 (compact_records N L); end = whole }
  unfolding compacted
  compact_chain = row-chain N (length L) (compact_slots N L) (compact_records N L) (omega (arith, compact_length, records-range N L order none))

-- "Then s must equal the largest number alive at any record."
pub compact_least : (N : ℕ) (L : Plan) → CompactLeast N L
compact_least N L order labels none = omega (arith, (sizes N L order none).alive)

-- The compact program passes every check.
pub compact_fine : (N : ℕ) (L : Plan) → CompactFine N L
unfolding compacted compact_slots compact_records compacting
compact_fine N L order labels none =
    let size = sizes N L order none in
    let range : (1 ≤ length (compact_records N L)) × (length (compact_records N L) < 100000000) =
    omega (arith, compact_length N L order none, records-range N L order none) in
    records-fine N (length L) (compact_slots N L) (compact_records N L) order (plan-length N L labels)
    (omega (arith, size.few, slots-at_most N L)) range.0 range.1
    (links-fine N (length L) (slots N L) (compact_slots N L) (compact_crout N L order none) [] [] 0 0
    (compiled-plain N L order none) (sound-begun (compiled_records N L)) refl)
