-- The two round trips: the label of a label's place, and the place of a place's label.
use Prim.Native.Nat.{ℕ}
use mathlib.Core.Path.{◌≡◌, refl, sym, ap, ◌∙◌}
use mathlib.Core.Bool.{Bool, true, false, cond}
use Rattle.model.specs.Label.{is_place, is_label, label, Sought, at, outside, sought}
use Rattle.model.specs.Boundary.{label_number}
use Rattle.model.proofs.Labels.{label-range, place-range, label_of_place, place_of_label}
use Rattle.labels.specs.Located.{placed}
use Rattle.labels.proofs.Range.{is_place_true, label_number_is, label-answered, is_label_true, range-is_label, sought_is, sought_zero}

-- the label of what was found, 0 if nothing was
abbrev pub label_of : ℕ → Sought → ℕ
label_of N (at p) = label_number N p.0 p.1
label_of N outside = 0

pub label-again : (N k : ℕ) → label_of N (sought N k) ≡ cond (is_label N k) k 0
label-again N k = step (is_label N k) refl
  where
    step : (b : Bool) → b ≡ is_label N k → label_of N (sought N k) ≡ cond (is_label N k) k 0
    step false e = ap (label_of N) (sym (sought_is N k e)) ∙ ap (λ b. cond b k 0) e
    step true e =
        let range = is_label_true N k e in
        let inside = place-range N k range.1.0 range.1.1 in
        ap (label_of N) (sym (sought_is N k e)) ∙ label-answered N _ _ range.0.1 inside ∙
        label_of_place N k range.1.0 range.1.1 ∙ ap (λ b. cond b k 0) e

pub place-again : (N i j : ℕ) → sought N (label_number N i j) ≡ placed N i j
place-again N i j = step (is_place N i j) refl
  where
    step : (b : Bool) → b ≡ is_place N i j → sought N (label_number N i j) ≡ placed N i j
    step false e = ap (sought N) (sym (label_number_is N i j e)) ∙ sought_zero N ∙ ap (λ b. cond b (at (i, j)) outside) e
    step true e =
        let range = is_place_true N i j e in
        let known = range-is_label N (label N i j) range.0 (label-range N i j range.1) in
        ap (sought N) (sym (label_number_is N i j e)) ∙ sym (sought_is N (label N i j) known) ∙
        ap at (place_of_label N i j range.1) ∙ ap (λ b. cond b (at (i, j)) outside) e
