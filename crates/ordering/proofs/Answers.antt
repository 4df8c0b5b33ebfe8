-- What a call for a better numbering answers and leaves in both slices, once the slots of the given plan stand in the work numbers.
use Prim.Native.Nat.{ℕ, ◌-◌, ◌*◌, ◌≤◌}
use native.Mathlib.Nat.{one-mul}
use mathlib.Core.Path.{◌≡◌, sym, ap, ap₂, ◌∙◌}
use mathlib.Core.List.{List, ◌++◌}
use lib.ListN.{length, drop, replicate, take-append-drop}
use Rattle.model.specs.Fill.{Plan, slots}
use Rattle.model.specs.Compile.{good, judged, orderly, slot_numbers}
use Rattle.model.specs.Numbering.{Numbering, numbered, refused, given_numbering, renumbered, after_trials, trials_made, kept_numbering}
use Rattle.model.proofs.Compiles.{orderly-good}
use Rattle.model.proofs.Renumbered.{given-plan}
use Rattle.model.proofs.Renumbering.{Renumbers, refused-early, refused-gap, refused-length, renumbers-kept}
use Rattle.model.proofs.Trials.{given-kept, kept-after}
use Rattle.model.proofs.Within.{within-range}
use Rattle.slots.specs.Walked.{FillsPlan}
use Rattle.slots.specs.declared.Filled.{Filled}
use Rattle.refusal.specs.Named.{number_of, detail_of}
use Rattle.refusal.specs.declared.Refusal.{Refusal}
use Rattle.plans.specs.Slotted.{Slotted, Refuses, early, gap}
use Rattle.ordering.specs.Numbered.{Numbered}
use Rattle.ordering.proofs.Trials.{filled-numbered, filled-rest}

-- 1 to 5 refuse
pub refuses : {N : ℕ} {L : Plan} {work work' : List ℕ} {r : Refusal} (trials : ℕ) (numbering : Numbering) → Refuses 1 N L work work' r
    → Renumbers N L trials work numbering (refused (number_of r) (detail_of r)) work' numbering
refuses {N} {L} {work} trials numbering (early e same) = rw same (refused-early N L trials work numbering (rw (one-mul (N * N)) at e))
refuses {N} {L} {work} {work'} trials numbering (gap orders named some cleared) =
    let zeros : work' ≡ replicate (N * N) 0 ++ drop (N * N) work = cleared ∙ rw (one-mul (N * N)) in
    rw (named, zeros) (refused-gap N L trials work numbering (rw (one-mul (N * N)) at orders) (λ none. some (named ∙ none)))

module _ {N : ℕ} {L : Plan} {work work' in_rows in_columns : List ℕ} {r : Filled} (s : Slotted 1 N L work work' in_rows in_columns r) where
  orders : orderly (N * N) N L (length work) ≡ good
  orders = rw (one-mul (N * N)) at s.passed

  -- the order is one, and the labels rise
  pub told : (1 ≤ N) × (N ≤ 600) × (judged N 0 1 L ≡ good)
  told = let t = orderly-good (N * N) N L (length work) orders in let w = within-range N 600 t.0 in (w.0, w.1, t.1.0)

  -- 29 refuses
  pub length-refused : (trials : ℕ) (numbering : Numbering) → (length numbering ≡ N → ⊥) → Renumbers N L trials work numbering (refused 29 0) work' numbering
  length-refused trials numbering other = rw s.filled.written (refused-length N L trials work numbering orders s.whole other)

  -- the slots of the given numbering stand there
  pub given-numbered : Numbered N L (given_numbering N) work' in_rows in_columns r.slots
  given-numbered =
      let t = orderly-good (N * N) N L (length work) orders in
      let fills : FillsPlan N (renumbered N L (given_numbering N)) work work' in_rows in_columns r = rw (given-plan N L t.1.0) s.filled in
      filled-numbered fills t.0 t.1.0 (given-kept N L t.1.0 s.whole)

  -- and those of the numbering that the trials keep
  pub numbers-kept : (trials : ℕ) (numbering : Numbering) → length numbering ≡ N → {made k distance : ℕ} {q : Numbering} {after rows columns : List ℕ}
      → made ≡ trials_made N trials → q ≡ after_trials N L made → Numbered N L q after rows columns k → drop (N * N) after ≡ drop (N * N) work'
      → distance ≡ k - length L → Renumbers N L trials work numbering (numbered k made distance) after q
  numbers-kept trials numbering same {k = k} {q = q} {after = after} e f n rest d =
      let kept : q ≡ kept_numbering N L trials = f ∙ ap (after_trials N L) e ∙ kept-after N L trials in
      let P = renumbered N L (kept_numbering N L trials) in
      let count : k ≡ slots N P = n.slots-are ∙ ap (λ q. slots N (renumbered N L q)) kept in
      let written : after ≡ slot_numbers N P ++ drop (N * N) work =
      sym (take-append-drop (N * N) after)
      ∙ ap₂ ◌++◌ (n.written ∙ ap (λ q. slot_numbers N (renumbered N L q)) kept) (rest ∙ filled-rest s.filled) in
      rw (d, written, count, kept, e) (renumbers-kept N L trials work numbering orders s.whole same)
