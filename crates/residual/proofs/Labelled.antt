-- The rows of words: one lent and back, those that have started, and what they hold label by label; and where no value is other than finite.
use Prim.Native.Nat.{ℕ, zero, suc, ◌+◌, ◌-◌, ◌*◌, ◌^◌, ◌≤◌, ◌<◌}
use native.Mathlib.Nat.{le-suc_iff}
use native.Mathlib.Omega.{arith}
use mathlib.Core.Path.{◌≡◌, refl, sym, ap, ap₂, ◌∙◌}
use mathlib.Core.Bool.{Bool, true, false, cond}
use mathlib.Core.List.{List, [], ◌∷◌, ◌++◌}
use mathlib.Core.Logic.{◌⊎◌, inl, inr}
use borrow.Author.Tests.{eqb-true}
use lib.Dec.{eqb}
use lib.ListN.{length, get_or, take, drop}
use lib.IntN.{ℤ, pos, ◌-ℤ◌, ◌*ℤ◌}
use lib.Seq.{take_all}
use lib.Ieee.{Float, nan}
use Rattle.model.specs.Label.{place}
use Rattle.model.specs.Fill.{Plan}
use Rattle.model.specs.Arith.{plus_zero}
use Rattle.model.specs.Run.{not_finite}
use Rattle.model.specs.Many.{part}
use Rattle.model.specs.Residual.{exact, less_row, residual}
use Rattle.model.proofs.Parts.{part_length, with_part, with_length, with_same, with_others}
use Rattle.model.proofs.Sides.{finite_cons}
use Rattle.model.proofs.WorkNumbers.{get_or_any}
use Rattle.model.proofs.Rows.{Held, HeldRows, less_one, less_more, row_back}
use Rattle.residual.specs.Subtracted.{Finite, start_of}

pub all_finite : (p : ℕ) (vs : List Float) → not_finite (suc p) vs ≡ 0 → Finite vs
all_finite p [] e k h = absurd (omega arith)
all_finite p (v ∷ vs) e zero h = (finite_cons (suc p) v vs (omega arith) e).0
all_finite p (v ∷ vs) e (suc k) h = all_finite (suc p) vs (finite_cons (suc p) v vs (omega arith) e).1 k (omega arith)

pub rows_same : {N : ℕ} {z w : ℕ → ℤ} {words : List ℕ} → ((r : ℕ) → z r ≡ w r) → HeldRows N z words → HeldRows N w words
rows_same {words = words} same h = record { long = h.long; each = λ r l. rw (sym (same (suc r))) (h.each r l) }

-- what is lent of a row has 66 words
pub whole_row : (r : ℕ) → r * 66 + 66 - r * 66 ≡ 66
whole_row r = omega arith

module _ {N : ℕ} {z : ℕ → ℤ} {words : List ℕ} (rows : HeldRows N z words) (r m : ℕ) (whole : m ≡ 66) (below : r < N) where
  -- row r + 1 is lent
  pub row_lent : Held (take m (drop (r * 66) words)) (z (suc r))
  row_lent = rw whole (rows.each r below)

  -- and comes back with a label's product taken
  pub label-taken : (X : List Float) (k column index : ℕ) (a : Float) (back : List ℕ) → place N k ≡ (suc r, column) → index ≡ column - 1 → index < length X
      → Held back (z (suc r) -ℤ exact a *ℤ exact (get_or X index nan)) → HeldRows N (λ i. less_one N X i (z i) k a) (take (r * 66) words ++ (back ++ drop m (drop (r * 66) words)))
  label-taken X k column index a back at e there held = rw whole (rows_same same (row_back rows r back _ below held))
    where
      same : (i : ℕ) → cond (eqb (suc r) i) (z (suc r) -ℤ exact a *ℤ exact (get_or X index nan)) (z i) ≡ less_one N X i (z i) k a
      same i = rw (at, sym e, sym (get_or_any X index nan plus_zero there)) (step (eqb (suc r) i) refl)
        where
          step : (b : Bool) → eqb (suc r) i ≡ b
              → cond b (z (suc r) -ℤ exact a *ℤ exact (get_or X index nan)) (z i) ≡ cond b (z i -ℤ exact a *ℤ exact (get_or X index nan)) (z i)
          step true e = ap (λ j. z j -ℤ exact a *ℤ exact (get_or X index nan)) (eqb-true (suc r) i e)
          step false e = refl

pub lent_length : (N : ℕ) (words : List ℕ) (r m : ℕ) → m ≡ 66 → length words ≡ N * 66 → r < N → length (take m (drop (r * 66) words)) ≡ 66
lent_length N words r m whole long below = rw whole (part_length 66 N words r long below)

-- ---- the rows that have started

pub record Started (B : List Float) (r : ℕ) (words : List ℕ) : Type 0 where
  pub long : length words ≡ length B * 66
  pub each : (i : ℕ) → i < r → Held (part 66 words i) (start_of B (suc i))

module _ {B : List Float} {r : ℕ} {words : List ℕ} (s : Started B r words) where
  pub started_more : (m : ℕ) (back : List ℕ) → m ≡ 66 → r < length B → Held back (exact (get_or B r nan) *ℤ pos (2 ^ 1074))
      → Started B (suc r) (take (r * 66) words ++ (back ++ drop m (drop (r * 66) words)))
  started_more m back whole below held =
      let within : r * 66 + 66 ≤ length words = omega (arith, s.long) in
      rw whole (record { long = with_length 66 r words back within held.size ∙ s.long; each = λ i l. step i (le-suc_iff.0 l) })
    where
      step : (i : ℕ) → (suc i ≤ r) ⊎ (suc i ≡ suc r) → Held (part 66 (with_part 66 r words back) i) (start_of B (suc i))
      step i (inl earlier) = rw (with_others 66 r words back (omega (arith, s.long)) held.size i (λ e. omega arith)) (s.each i earlier)
      step i (inr last) =
          let here : i ≡ r = omega arith in
          let index : suc r - 1 ≡ r = omega arith in
          rw (here, index, sym (get_or_any B r nan plus_zero below), with_same 66 r words back (omega (arith, s.long)) held.size) held

  pub started_all : length B ≤ r → HeldRows (length B) (start_of B) words
  started_all done = record { long = s.long; each = λ i l. s.each i (omega arith) }

-- ---- label by label

less_none : (N : ℕ) (X : List Float) (r : ℕ) (acc : ℤ) → less_row N X r acc [] [] ≡ acc
unfolding less_row
less_none N X r acc = refl

-- what the rows hold once the first k labels have been gone through
abbrev pub less_up_to : ℕ → Plan → List Float → List Float → List Float → ℕ → ℕ → ℤ
less_up_to N L A B X k r = less_row N X r (start_of B r) (take k L) (take k A)

pub less-start : {N : ℕ} {words : List ℕ} (L : Plan) (A B X : List Float) → HeldRows N (start_of B) words → HeldRows N (less_up_to N L A B X 0) words
less-start {N} L A B X h = rows_same (λ r. sym (less_none N X r (start_of B r))) h

pub less-onward : {N : ℕ} {words : List ℕ} (L : Plan) (A B X : List Float) (k : ℕ) → length A ≡ length L → k < length L
    → HeldRows N (λ r. less_one N X r (less_up_to N L A B X k r) (get_or L k 0) (get_or A k nan)) words → HeldRows N (less_up_to N L A B X (suc k)) words
less-onward {N} L A B X k e h rows = rows_same (λ r. sym (less_more N X r (start_of B r) L A k e h ∙ ap (less_one N X r (less_up_to N L A B X k r) (get_or L k 0)) (get_or_any A k plus_zero nan (omega arith)))) rows

pub less-end : {N : ℕ} {words : List ℕ} (L : Plan) (A B X : List Float) (k : ℕ) → length A ≡ length L → length L ≤ k
    → HeldRows N (less_up_to N L A B X k) words → HeldRows N (residual N L A B X) words
unfolding residual
less-end {N} L A B X k e done rows = rows_same (λ r. ap₂ (less_row N X r (start_of B r)) (take_all k L done) (take_all k A (omega arith))) rows
