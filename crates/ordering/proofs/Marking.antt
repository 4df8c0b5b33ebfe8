-- A plan under a numbering, marked label by label.
use Prim.Native.Nat.{ℕ, suc, ◌-◌, ◌*◌, ◌≤◌, ◌<◌}
use native.Mathlib.Decide.{ℕ_discrete}
use native.Mathlib.Omega.{arith}
use mathlib.Core.Path.{◌≡◌, refl, sym, ap, ap₂, ◌∙◌}
use mathlib.Core.Bool.{◌||◌, or-true, or-false}
use mathlib.Core.List.{List, [], ◌∷◌, ◌++◌}
use borrow.Author.Tests.{eq-eqb, ne_eqb}
use lib.Dec.{ltb, eqb}
use lib.ListN.{length, length-set, get_or, set, drop, replicate, length-replicate, get_or-replicate, length-append, length-drop, get_or-append}
use lib.Seq.{get_or-set_same, get_or-set_other, drop-set-lt, drop_at}
use Rattle.model.specs.Label.{label, place}
use Rattle.model.specs.Fill.{Plan, position_from, position}
use Rattle.model.specs.Path.{named}
use Rattle.model.specs.Numbering.{Numbering, given_at, renumbered, IsNumbering}
use Rattle.model.proofs.Labels.{Inside, label-range, label_injective, place-range, label_of_place}
use Rattle.model.proofs.Named.{position-named}
use Rattle.model.proofs.Route.{named-append}
use Rattle.model.proofs.Renumbered.{given_inside, renumbered-named}
use Rattle.ordering.specs.Numbered.{Inverse, Moved, MarksAnew}
use Rattle.ordering.proofs.Positions.{position_of, positions-range, given_there}

-- a work number isn't 0 exactly where the rooms of its place are one of these labels, and past N² the work numbers are as they came
pub record MarkedBy (N : ℕ) (p : Numbering) (L : Plan) (before work : List ℕ) : Type 0 where
  pub each : (i j : ℕ) → Inside N i j → ltb 0 (get_or work (label N i j - 1) 0) ≡ named (label N (given_at p i) (given_at p j)) L
  pub size : length work ≡ length before
  pub rest : drop (N * N) work ≡ drop (N * N) before

named_last : (x y : ℕ) (L : Plan) → named x (L ++ (y ∷ [])) ≡ (named x L || eqb y x)
unfolding named
named_last x y L = named-append x L (y ∷ []) ∙ ap (λ b. named x L || b) (or-false (eqb y x))

module _ {N : ℕ} {p : Numbering} (n : IsNumbering N p) where
  -- where a label goes to
  module _ {positions : List ℕ} {x index : ℕ} (v : Inverse p N positions) (moved : Moved N x positions index) where
    to : Inside N (get_or positions moved.row 0) (get_or positions moved.column 0)
    to =
        let a = positions-range n v moved.row moved.inside.row_low moved.inside.row-high in
        let b = positions-range n v moved.column moved.inside.column-low moved.inside.column-high in
        record { row_low = a.0; row-high = a.1; column-low = b.0; column-high = b.1 }

    pub index-range : index < N * N
    index-range = omega (arith, moved.index_is, label-range N _ _ to)

  -- one label more
  pub marked_more : {L : Plan} {before work positions : List ℕ} {x index : ℕ} → Inverse p N positions → N * N ≤ length before
      → MarkedBy N p L before work → Moved N x positions index → MarkedBy N p (L ++ (x ∷ [])) before (set work index 1)
  marked_more {L} {before} {work} {positions} {x} {index} v room m moved = record {
    each = λ i j s. step i j s (ℕ_discrete (label N i j) (suc index));
    size = length-set work index 1 ∙ m.size;
    rest = drop-set-lt (N * N) work index 1 (index-range v moved) ∙ m.rest;
  }
    where
      step : (i j : ℕ) → Inside N i j → Dec (label N i j ≡ suc index)
          → ltb 0 (get_or (set work index 1) (label N i j - 1) 0) ≡ named (label N (given_at p i) (given_at p j)) (L ++ (x ∷ []))
      step i j s (yes e) =
          let here = label_injective N i j _ _ s (to v moved) (e ∙ moved.index_is) in
          let at : label N i j - 1 ≡ index = omega (arith, e) in
          let same : label N (given_at p i) (given_at p j) ≡ x =
          ap₂ (λ a b. label N (given_at p a) (given_at p b)) here.0 here.1
          ∙ ap₂ (label N) (given_there n v _ moved.inside.row_low moved.inside.row-high) (given_there n v _ moved.inside.column-low moved.inside.column-high)
          ∙ moved.label_is in
          rw (at, get_or-set_same work index 1 0 (omega (arith, index-range v moved, m.size)), same, named_last x x L, eq-eqb x x refl, or-true (named x L))
      step i j s (no d) =
          let y = label N (given_at p i) (given_at p j) in
          let other : x ≡ y → ⊥ = λ e.
          let back = label_injective N _ _ _ _ (given_inside N p n i j s) moved.inside (sym e ∙ sym moved.label_is) in
          let row = sym (position_of n v i s.row_low s.row-high) ∙ ap (λ r. get_or positions r 0) back.0 in
          let column = sym (position_of n v j s.column-low s.column-high) ∙ ap (λ r. get_or positions r 0) back.1 in
          d (ap₂ (label N) row column ∙ sym moved.index_is) in
          rw (get_or-set_other work index (label N i j - 1) 1 0 (λ q. d (omega (arith, label-range N i j s))), named_last y x L, ne_eqb x y other, or-false (named y L))
          (m.each i j s)

  -- in cleared work numbers none is marked
  module _ (before : List ℕ) {cleared : List ℕ} (zeros : cleared ≡ replicate (N * N) 0 ++ drop (N * N) before) where
    pub marked-none : MarkedBy N p [] cleared cleared
    unfolding named
    marked-none = record {
      each = λ i j s. rw zeros (ap (ltb 0) (zero_at (label N i j - 1) (omega (arith, label-range N i j s))));
      size = refl;
      rest = refl;
    }
      where
        zero_at : (k : ℕ) → k < N * N → get_or (replicate (N * N) 0 ++ drop (N * N) before) k 0 ≡ 0
        zero_at k below = get_or-append (replicate (N * N) 0) _ 0 k (rw length-replicate below) ∙ get_or-replicate (N * N) k 0 0 below

    -- all of a plan, since they were cleared
    pub marked_since : {L : Plan} {work : List ℕ} → N * N ≤ length before → MarkedBy N p L cleared work → MarksAnew N (renumbered N L p) before work
    unfolding position
    marked_since {L} {work} room m = record {
      marked = record { marks = λ k low high. here k high };
      size = m.size ∙ rw zeros (simp (length-append, length-replicate, length-drop) (omega arith));
      rest = m.rest ∙ rw zeros (drop_at (replicate (N * N) 0) _ (N * N) (length-replicate (N * N) 0));
    }
      where
        here : (k : ℕ) → k < N * N → ltb 0 (get_or work k 0) ≡ ltb 0 (position_from 1 (renumbered N L p) (suc k))
        here k high =
            let s = place-range N (suc k) (omega arith) high in
            let e = label_of_place N (suc k) (omega arith) high in
            let at : label N (place N (suc k)).0 (place N (suc k)).1 - 1 ≡ k = omega (arith, e) in
            ap (λ k. ltb 0 (get_or work k 0)) (sym at) ∙ m.each _ _ s ∙ sym (renumbered-named N L p n _ _ s) ∙ ap (λ k. named k (renumbered N L p)) e
            ∙ sym (position-named 0 (renumbered N L p) (suc k))
