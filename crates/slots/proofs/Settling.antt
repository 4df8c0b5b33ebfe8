-- A place settled: one place more is done, and what held of the walk holds again.
use Prim.Native.Nat.{ℕ, suc, ◌≤◌, ◌<◌}
use native.Mathlib.Decide.{dec_le}
use native.Mathlib.Omega.{arith}
use mathlib.Core.Path.{◌≡◌, refl, sym, ap, ◌∙◌}
use mathlib.Core.Bool.{Bool, true, false, cond}
use mathlib.Core.List.{List, [], ◌∷◌, ◌++◌}
use borrow.Author.Tests.{ltb-false}
use lib.Dec.{ltb}
use lib.ListN.{length, length-set, get_or, set, take, drop}
use lib.Seq.{take-suc, take-suc-set, drop-set-lt, get_or-set_other}
use Rattle.model.specs.Label.{label}
use Rattle.model.specs.Fill.{Plan, held}
use Rattle.model.specs.Compile.{slot_numbers}
use Rattle.model.proofs.Labels.{Inside, label-range, label_injective}
use Rattle.model.proofs.Fill.{not_held}
use Rattle.model.proofs.Slots.{closed-next}
use Rattle.model.proofs.WorkNumbers.{slot-numbers-length, slot_next}
use Rattle.slots.specs.Marks.{Marks}
use Rattle.slots.specs.Skips.{Skips}
use Rattle.slots.specs.Walked.{Walked, Settled}
use Rattle.slots.specs.declared.Walk.{Walk}
use Rattle.slots.proofs.Here.{Here, bounds, mark_here}
use Rattle.slots.proofs.Notes.{noted-length, noted-at_most, noted-low, noted_here}

module _ {N : ℕ} {L : Plan} {m i j : ℕ} {walk after : Walk} {work in_rows in_columns work' in_rows' in_columns' : List ℕ} {taken : Bool}
    (at : Here N L m i j walk work in_rows in_columns) (t : taken ≡ held N L i j)
    (s : Settled i j taken walk after work in_rows in_columns work' in_rows' in_columns') where
  -- the work numbers after the place: a slot is written, or nothing is
  by_taken : (P : List ℕ → Type 0) → (taken ≡ true → P (set work walk.done (suc walk.used))) → (taken ≡ false → P work) → P work'
  by_taken P given left = rw s.written (step taken refl)
    where
      step : (b : Bool) → taken ≡ b → P (cond b (set work walk.done (suc walk.used)) work)
      step true e = given e
      step false e = left e

  pub settled-length : length work' ≡ length work
  settled-length = by_taken (λ l. length l ≡ length work) (λ e. length-set work walk.done _) (λ e. refl)

  pub settled-rest : drop after.done work' ≡ drop after.done work
  settled-rest = rw s.done (by_taken (λ l. drop (suc walk.done) l ≡ drop (suc walk.done) work)
      (λ e. drop-set-lt (suc walk.done) work walk.done _ (omega arith)) (λ e. refl))

  -- a place that isn't taken isn't marked either
  unmarked : taken ≡ false → get_or work walk.done 0 ≡ 0
  unmarked e = omega (arith, ltb-false 0 (get_or work walk.done 0) (mark_here at ∙ rw (not_held N L i j (sym t ∙ e)).0))

  settled-number : take (suc walk.done) work' ≡ take walk.done work ++ (cond taken (suc walk.used) 0 ∷ [])
  settled-number = by_taken (λ l. take (suc walk.done) l ≡ take walk.done work ++ (cond taken (suc walk.used) 0 ∷ []))
      (λ e. rw e (take-suc-set work walk.done _ (bounds at).1))
      (λ e. rw e (take-suc work walk.done 0 (bounds at).1 ∙ ap (λ k. take walk.done work ++ (k ∷ [])) (unmarked e)))

  settled-marks : Marks N L (suc walk.done) work'
  settled-marks = record { marks = λ k from below. ap (ltb 0) (same k from) ∙ at.walked.marked.marks k (omega arith) below }
    where
      same : (k : ℕ) → suc walk.done ≤ k → get_or work' k 0 ≡ get_or work k 0
      same k from = by_taken (λ l. get_or l k 0 ≡ get_or work k 0) (λ e. get_or-set_other work walk.done k _ 0 (λ d. omega arith)) (λ e. refl)

  -- a place with a label up to this one's is done already, or this one
  done_or_here : (a b : ℕ) → Inside N a b → label N a b ≤ suc walk.done → (label N a b ≤ walk.done → held N L a b ≡ false)
      → (a ≡ i → b ≡ j → taken ≡ false) → held N L a b ≡ false
  done_or_here a b inside le old same = elim (dec_le (label N a b) walk.done) [
    | yes l ↦ old l
    | no n ↦ new (label_injective N a b i j inside at.inside (omega (arith, at.next)))
  ]
    where
      new : (a ≡ i) × (b ≡ j) → held N L a b ≡ false
      new e = rw (e.0, e.1) (sym t ∙ same e.0 e.1)

  -- a taken place isn't before what its line notes
  not-before : (l : List ℕ) (k h : ℕ) → (taken ≡ true → get_or l k 0 ≤ h) → h < get_or l k 0 → taken ≡ false
  not-before l k h here before = step taken refl
    where
      step : (b : Bool) → taken ≡ b → b ≡ false
      step true e = absurd (omega (arith, here e))
      step false e = refl

  settled-skips : Skips N L (suc walk.done) in_rows' in_columns'
  settled-skips =
      let old = at.walked.skips in
      let b = bounds at in
      record {
        rows = λ a h inside le before. done_or_here a h inside le (λ l. old.rows a h inside l (omega (arith, noted-at_most s.noted-row b.3 a)))
            (λ e f. not-before in_rows' i j (noted_here s.noted-row b.3) (rw (← e, ← f) before));
        columns = λ a h inside le before. done_or_here h a inside le (λ l. old.columns a h inside l (omega (arith, noted-at_most s.noted-column b.4 a)))
            (λ e f. not-before in_columns' j i (noted_here s.noted-column b.4) (rw (← e, ← f) before));
      }

  pub settled-walked : Walked N L after work' in_rows' in_columns'
  settled-walked =
      let w = at.walked in
      let b = bounds at in
      let inside = at.inside in
      record {
        used = s.used ∙ rw (s.done, t, w.used) (sym (closed-next N L walk.done i j inside at.next));
        written = rw (
          s.done,
          settled-number,
          take-suc (slot_numbers N L) walk.done 0 (omega (arith, slot-numbers-length N L, label-range N i j inside, at.next)),
          w.written,
          slot_next N L i j walk.done inside at.next,
          t,
          w.used,
        );
        marked = rw s.done settled-marks;
        row_count = noted-length s.noted-row ∙ w.row_count;
        column-count = noted-length s.noted-column ∙ w.column-count;
        row_low = λ a h. noted-low s.noted-row b.3 inside.column-low a (w.row_low a h);
        column-low = λ a h. noted-low s.noted-column b.4 inside.row_low a (w.column-low a h);
        skips = rw s.done settled-skips;
      }
