-- The renaming of plain records, record by record: what holds of the slots given, free and made before each, and that it holds again after it.
use Prim.Native.Nat.{ℕ, suc, ◌-◌, ◌≤◌, ◌<◌, max}
use native.Mathlib.Omega.{arith}
use mathlib.Core.Path.{◌≡◌, refl, sym, ap, ◌∙◌}
use mathlib.Core.Bool.{Bool, true, false, cond, or-true}
use mathlib.Core.List.{List, [], ◌∷◌, ◌++◌, append_assoc}
use lib.Dec.{eqb, eqb-suc-zero}
use lib.ListN.{length, get_or, length-append, get_or-append}
use lib.Seq.{get_or-append_seam}
use borrow.Author.Tests.{eqb-true, eqb-false, eq-eqb}
use Rattle.model.specs.Lists.{count, kept}
use Rattle.model.specs.Formula.{C, Y, X}
use Rattle.model.specs.Program.{Record, rec}
use Rattle.model.specs.Check.{kind_of}
use Rattle.model.specs.Compact.{open_after, touches, touches_too, needed, Renaming, giving, after_record}
use Rattle.model.proofs.Reuse.{Whole, whole-range, whole_apart, taken, others, made_with, taken-range, whole-given, whole-released}
use Rattle.model.proofs.Plain.{Phase, between, on, Closed, Plain, ends, opens-c, opens-y, opens-x}
use Rattle.model.proofs.Plain.{subtracts-c, subtracts-y, subtracts-x, divides, closes-c, closes-pivot, closes-y, closes-x}

-- the plain slot that is open with c closed, 0 for none
abbrev pub open_slot : Phase → ℕ → ℕ
open_slot between c = 0
open_slot (on C) c = suc c
open_slot (on Y) c = 0
open_slot (on X) c = 0

-- it is the one after those closed
open_above : (ph : Phase) (c : ℕ) → 1 ≤ open_slot ph c → c < open_slot ph c
open_above between c h = absurd (omega arith)
open_above (on C) c h = omega arith
open_above (on Y) c h = absurd (omega arith)
open_above (on X) c h = absurd (omega arith)

-- a renaming by its parts, and the slot that plain slot j has in it
abbrev pub standing : ℕ → List ℕ → List ℕ → ℕ → Renaming
standing o given free made = record { given = given; target = o; free = free; made = made }

abbrev pub slot_in : List ℕ → ℕ → ℕ
slot_in given j = cond (eqb j 0) 0 (get_or given (j - 1) 0)

-- The invariant: before the records rs, with c plain slots closed, o open (0 for none), and d the highest slot closed.
pub record Sound (c o d : ℕ) (given free : List ℕ) (made : ℕ) (rs : List Record) : Type 0 where
  -- the plain slots 1..c are given one, and the open one is
  pub opened : length given ≡ max c o
  -- every slot made is closed or open, and a new one is one above the highest closed
  pub reached : made ≡ max d (slot_in given o)
  pub near : slot_in given o ≤ suc d
  -- there are some, and at most as many as plain ones
  pub some : 1 ≤ length given → 1 ≤ made
  pub few : made ≤ length given
  -- the free ones and those of the needed ones are 1, 2, .., made, each once
  pub whole : Whole (λ j. needed o j rs) (slot_in given) (length given) free made

-- ---- what is needed

-- a record needs what it touches, and what a later one needs
module _ (o : ℕ) (r : Record) (rs : List Record) where
  abbrev first : ℕ
  first = touches o (kind_of r.kind) r.p

  abbrev second : ℕ
  second = touches_too (kind_of r.kind) r.q

  abbrev later : ℕ → Bool
  later j = needed (open_after o (kind_of r.kind) r.q) j rs

  pub needs : needed o first (r ∷ rs) ≡ true
  unfolding needed
  needs = rw (eq-eqb first first refl)

  pub needs_too : needed o second (r ∷ rs) ≡ true
  unfolding needed
  needs_too = rw (eq-eqb second second refl) (or-true (eqb second first))

  pub needs_later : (j : ℕ) → later j ≡ true → needed o j (r ∷ rs) ≡ true
  unfolding needed
  needs_later j e = simp (e, or-true)

-- the open slot is needed, since it is closed
module _ {N n s : ℕ} where
  pub open_needed : {ph : Phase} {c y x : ℕ} {rs : List Record} → Plain N n s ph c y x rs → 1 ≤ open_slot ph c → needed (open_slot ph c) (open_slot ph c) rs ≡ true
  unfolding kind_of
  open_needed ends h = absurd (omega arith)
  open_needed (opens-c a e l plain) h = absurd (omega arith)
  open_needed (opens-y p e plain) h = absurd (omega arith)
  open_needed (opens-x p e plain) h = absurd (omega arith)
  open_needed (subtracts-c {c} {rs = rs} p q hp hq plain) h = needs_later (suc c) (rec 4 p q) rs (suc c) (open_needed plain h)
  open_needed (subtracts-y p q hp hq plain) h = absurd (omega arith)
  open_needed (subtracts-x p q hp hq plain) h = absurd (omega arith)
  open_needed (divides {t} {c} {rs = rs} p hp plain) h = needs_later (open_slot (on t) c) (rec 7 p 0) rs (open_slot (on t) c) (open_needed plain h)
  open_needed (closes-c {c} {rs = rs} plain) h = needs (suc c) (rec 8 0 0) rs
  open_needed (closes-pivot {c} {rs = rs} plain) h = needs (suc c) (rec 9 0 0) rs
  open_needed (closes-y plain) h = absurd (omega arith)
  open_needed (closes-x plain) h = absurd (omega arith)

  -- a closed slot that is needed was given one of those closed, and not the open one's
  pub sound-reads : {ph : Phase} {c y x d made : ℕ} {given free : List ℕ} {rs : List Record} → Plain N n s ph c y x rs
      → Sound c (open_slot ph c) d given free made rs → (p : ℕ) → Closed c p → needed (open_slot ph c) p rs ≡ true
      → (1 ≤ slot_in given p) × (slot_in given p ≤ d) × (slot_in given p ≡ slot_in given (open_slot ph c) → ⊥)
  sound-reads {ph} {c} {made = made} {given} {rs = rs} plain sound p closed e =
      let range = whole-range sound.whole p closed.0 (omega (arith, sound.opened)) e in
      omega (arith, range, sound.reached, sound.near, differ range (eqb o 0) refl)
    where
      o : ℕ
      o = open_slot ph c

      differ : (1 ≤ slot_in given p) × (slot_in given p ≤ made) → (b : Bool) → eqb o 0 ≡ b → slot_in given p ≡ slot_in given o → ⊥
      differ range true h same = omega (arith, range, same, ap (slot_in given) (eqb-true o 0 h))
      differ range false h same =
          let some : 1 ≤ o = omega (arith, eqb-false o 0 h) in
          let mine = open_needed plain some in
          let one = whole_apart sound.whole p o closed.0 (omega (arith, sound.opened)) some (omega (arith, sound.opened)) e mine same in
          omega (arith, closed, open_above ph c some, one)

-- ---- the steps

module _ {c o d made : ℕ} {given free : List ℕ} {r : Record} {rs : List Record} (sound : Sound c o d given free made (r ∷ rs)) where
  abbrev o' : ℕ
  o' = open_after o (kind_of r.kind) r.q

  -- a record passes, with c' closed then and d' the highest
  sound_pass : (c' d' : ℕ) → max c' o' ≡ max c o → max d' (slot_in given o') ≡ max d (slot_in given o) → slot_in given o' ≤ suc d'
      → first o r rs ≤ max c o → second o r rs ≤ max c o → Sound c' o' d' given (after_record (standing o given free made) r rs).free made rs
  unfolding needed after_record
  sound_pass c' d' same reach near p q = record {
    opened = sound.opened ∙ sym same;
    reached = sound.reached ∙ sym reach;
    near = near;
    some = sound.some;
    few = sound.few;
    whole =
        whole-released (later o r rs) (slot_in given) (length given) refl (first o r rs) (second o r rs)
        (omega (arith, sound.opened)) (omega (arith, sound.opened)) sound.whole;
  }

  -- one that leaves open what is open
  pub sound_stays : (o' ≡ o) × (first o r rs ≤ c) × (second o r rs ≤ c) → Sound c o' d given (after_record (standing o given free made) r rs).free made rs
  sound_stays h = sound_pass c d (ap (max c) h.0) (ap (λ k. max d (slot_in given k)) h.0) (rw h.0 sound.near) (omega arith) (omega arith)

  -- one that closes it: then all that are made are closed
  pub sound-closes : (o ≡ suc c) × (o' ≡ 0) × (first o r rs ≤ suc c) × (second o r rs ≤ suc c)
      → Sound (suc c) o' made given (after_record (standing o given free made) r rs).free made rs
  sound-closes h =
      let none : slot_in given o' ≡ 0 = ap (slot_in given) h.1 in
      sound_pass (suc c) made (omega arith) (omega (arith, none, sound.reached)) (omega (arith, none)) (omega arith) (omega arith)

-- the slots given before stay as they are, and the next plain slot has the last
pub slot-before : (given : List ℕ) (k j : ℕ) → 1 ≤ j → j ≤ length given → slot_in (given ++ (k ∷ [])) j ≡ slot_in given j
slot-before given k j low high = rw (get_or-append given (k ∷ []) 0 (j - 1) (omega arith))

pub slot_last : (given : List ℕ) (k : ℕ) → slot_in (given ++ (k ∷ [])) (suc (length given)) ≡ k
slot_last given k =
    let back : suc (length given) - 1 ≡ length given = omega arith in
    rw (eqb-suc-zero (length given), back) (get_or-append_seam given k [] 0)

-- then those of the later records are given after it
pub given_more : (c : ℕ) (given : List ℕ) (k : ℕ) (ks : List ℕ) → length given ≡ max c 0
    → (given ++ (k ∷ [])) ++ ks ≡ given ++ (slot_in (given ++ (k ∷ [])) (suc c) ∷ ks)
given_more c given k ks opened =
    let h : c ≡ length given = omega (arith, opened) in
    append_assoc given (k ∷ []) ks ∙ ap (λ j. given ++ (j ∷ ks)) (sym (rw h (slot_last given k)))

-- the next slot is given, by parts
pub giving_is : (given free : List ℕ) (made : ℕ)
    → giving free (standing 0 given free made) ≡ standing 0 (given ++ (taken free made ∷ [])) (others free) (made_with free made)
giving_is given [] made = refl
giving_is given (k ∷ ks) made = refl

-- A slot is given to the next plain slot, c + 1, before the record that opens it; it is needed, since it will be closed.
module _ {c d made a : ℕ} {given free : List ℕ} {rs : List Record} (used : needed (suc c) (suc c) rs ≡ true)
    (sound : Sound c 0 d given free made (rec 1 a (suc c) ∷ rs)) where
  abbrev given' : List ℕ
  given' = given ++ (taken free made ∷ [])

  -- one more is given
  pub length-given : length given' ≡ suc c
  length-given = length-append given (taken free made ∷ []) ∙ omega (arith, sound.opened)

  -- before the record passes,
  pub whole-opens : Whole (λ j. needed 0 j (rec 1 a (suc c) ∷ rs)) (slot_in given') (length given') (others free) (made_with free made)
  unfolding kind_of
  whole-opens =
      let h : length given ≡ c = omega (arith, sound.opened) in
      let longer : length given' ≡ suc (length given) = omega (arith, length-given) in
      rw longer (whole-given (λ j. needed 0 j (rec 1 a (suc c) ∷ rs)) (slot_in given) (slot_in given') (length given)
      (rw h (needs_later 0 (rec 1 a (suc c)) rs (suc c) used)) (slot-before given (taken free made)) free (slot_last given (taken free made)) sound.whole)

  -- and after it, since it frees none
  pub sound-opens : Sound c (suc c) d given' (after_record (standing 0 given' (others free) (made_with free made)) (rec 1 a (suc c)) rs).free
      (made_with free made) rs
  unfolding needed after_record kind_of
  sound-opens =
      let range = taken-range free sound.whole in
      let h : c ≡ length given = omega (arith, sound.opened) in
      let last : slot_in given' (suc c) ≡ taken free made = rw h (slot_last given (taken free made)) in
      record {
        opened = omega (arith, length-given);
        reached = omega (arith, sound.reached, last, range);
        near = omega (arith, sound.reached, last, range);
        some = λ h. omega (arith, range);
        few = omega (arith, length-given, sound.few, sound.opened, range);
        whole = whole-released (λ j. needed (suc c) j rs) (slot_in given') (length given') refl 0 0 (omega arith) (omega arith) whole-opens;
      }

-- before the first record
pub sound-begun : (rs : List Record) → Sound 0 0 0 [] [] 0 rs
unfolding count kept
sound-begun rs = record {
  opened = omega arith;
  reached = omega arith;
  near = omega arith;
  some = λ h. omega arith;
  few = omega arith;
  whole = record { each = λ u. refl };
}
