-- The lines of two neighbours past both: where they stand in the work numbers, and what is held in them.
use Prim.Native.Nat.{ℕ, suc, ◌+◌, ◌-◌, ◌≤◌, ◌<◌}
use native.Mathlib.Omega.{arith}
use mathlib.Core.Path.{◌≡◌, refl, sym, ap, ap₂, ◌∙◌}
use mathlib.Core.Bool.{Bool, true, false, cond, ◌&&◌, ◌||◌, true≢false}
use mathlib.Core.List.{List}
use lib.Dec.{ltb}
use lib.ListN.{get_or}
use Rattle.model.specs.Label.{label}
use Rattle.model.specs.Fill.{Plan, in_plan, held}
use Rattle.model.specs.Numbering.{Numbering, given_at, renumbered}
use Rattle.model.specs.Route.{middle}
use Rattle.model.proofs.Labels.{Inside, label_in_column, label_in_row}
use Rattle.model.proofs.Plans.{pivot-held}
use Rattle.model.proofs.Reach.{reach, reach_planned, reach_between}
use Rattle.model.proofs.Exchange.{down-after, right-after}
use Rattle.model.proofs.Renumbered.{planned-named, given_inside, renumbered-named}
use Rattle.slots.specs.Batch.{row_of, column_of}
use Rattle.plans.specs.Stands.{Filled}
use Rattle.exchange.specs.Stood.{Stood, Neighbours, Beyond, first_line, second_line, linked}

or_left : (b c : Bool) → c ≡ false → (b || c) ≡ true → true ≡ b
or_left true c f g = refl
or_left false c f g = absurd (true≢false (sym g ∙ f))

-- the label of a line's k-th place
pub line-label : (N : ℕ) (across : Bool) (m k : ℕ) → 1 ≤ m → m ≤ N → m < k
    → label N (row_of across m k) (column_of across m k) ≡ label N m m + cond across (N - m) 0 + (k - m)
line-label N true m k low high h = label_in_row N m k low high h
line-label N false m k low high h = label_in_column N k m (omega arith) ∙ omega arith

pub line-inside : (N : ℕ) (across : Bool) (m k : ℕ) → 1 ≤ m → m ≤ N → 1 ≤ k → k ≤ N → Inside N (row_of across m k) (column_of across m k)
line-inside N true m k a b c d = record { row_low = a; row-high = b; column-low = c; column-high = d }
line-inside N false m k a b c d = record { row_low = c; row-high = d; column-low = a; column-high = b }

module _ {N : ℕ} {L : Plan} {p : Numbering} {work in_rows in_columns : List ℕ} (s : Stood N L p work in_rows in_columns) where
  abbrev P : Plan
  P = renumbered N L p

  -- a place of the renumbered plan is asked for in the given one
  pub planned-given : (i j : ℕ) → Inside N i j → in_plan N P i j ≡ in_plan N L (given_at p i) (given_at p j)
  planned-given i j inside =
      planned-named N P i j inside
      ∙ renumbered-named N L p s.kept.numbers i j inside
      ∙ sym (planned-named N L (given_at p i) (given_at p j) (given_inside N p s.kept.numbers i j inside))

  -- a place of a line stands in the work numbers
  pub line-held : (across : Bool) (m k : ℕ) {index : ℕ} → Inside N (row_of across m k) (column_of across m k) → suc index ≡ label N (row_of across m k) (column_of across m k)
      → ltb 0 (get_or work index 0) ≡ held N P (row_of across m k) (column_of across m k)
  line-held across m k {index} inside e =
      let at : label N (row_of across m k) (column_of across m k) - 1 ≡ index = omega (arith, e) in
      rw at at (s.stands.stands _ _ inside)

  module _ {t : ℕ} (near : Neighbours N t) where
    -- ---- a place that is held past t

    module _ {i j : ℕ} (b : Beyond N P t i j) where
      pub older_planned : in_plan N L (given_at p i) (given_at p j) ≡ true → true ≡ reach N P (t - 1) i j
      older_planned e =
          sym (reach_planned N P (t - 1) i j (omega (arith, b.row-past)) (omega (arith, b.column-past)) b.inside (planned-given i j b.inside ∙ e))

      pub filled : in_plan N L (given_at p i) (given_at p j) ≡ false → Filled N P i j
      filled e = record { leads = record { inside = b.inside; holds = b.holds }; free = planned-given i j b.inside ∙ e }

      pub older_between : in_plan N L (given_at p i) (given_at p j) ≡ false → ltb (middle N P i j) t ≡ reach N P (t - 1) i j
      older_between e =
          let one : suc (t - 1) ≡ t = omega (arith, near.0) in
          sym (reach_between N P (t - 1) i j (omega (arith, b.row-past)) (omega (arith, b.column-past)) b.inside (filled e).free b.holds
          ∙ ap (ltb (middle N P i j)) one)

    -- ---- the pivot of t + 1

    pub pivot_beyond : {i : ℕ} → i ≡ suc t → Beyond N P t i i
    pivot_beyond e = rw e (record {
      inside = record { row_low = omega arith; row-high = near.1; column-low = omega arith; column-high = near.1 };
      row-past = omega arith;
      column-past = omega arith;
      holds = pivot-held N P s.kept.pivots (suc t) (omega arith) near.1;
    })

    pub pivot-alone : {over under : Bool} → over ≡ linked N P t false → under ≡ linked N P t true → (under && over) ≡ false
        → true ≡ reach N P (t - 1) (suc t) (suc t)
    pivot-alone a b none = step t (t - 1) (omega (arith, near.0)) (pivot_beyond refl).holds (sym (ap₂ ◌&&◌ b a) ∙ none)
      where
        step : (t d : ℕ) → t ≡ suc d → held N P (suc t) (suc t) ≡ true → (held N P (suc t) t && held N P t (suc t)) ≡ false
            → true ≡ reach N P d (suc t) (suc t)
        step t d e h f = rw e (or_left _ _ (rw e at f) (sym (down-after N d P (suc (suc d)) (omega arith)) ∙ (rw e at h)))

    -- ---- a place of the second line

    second_after : (across : Bool) (k : ℕ) → suc t < k
        → held N P (row_of across (suc t) k) (column_of across (suc t) k) ≡ (second_line N P t across k || (first_line N P t across k && linked N P t across))
    second_after across k h = step t (t - 1) (omega (arith, near.0)) h across
      where
        step : (t d : ℕ) → t ≡ suc d → suc t < k → (across : Bool)
            → held N P (row_of across (suc t) k) (column_of across (suc t) k)
            ≡ (reach N P d (row_of across (suc t) k) (column_of across (suc t) k) || (first_line N P t across k && linked N P t across))
        step t d e l true = rw e (right-after N d P k (omega arith))
        step t d e l false = rw e (down-after N d P k (omega arith))

    module _ (across : Bool) (k : ℕ) (low : suc t < k) (high : k ≤ N) where
      pub second_inside : Inside N (row_of across (suc t) k) (column_of across (suc t) k)
      second_inside = line-inside N across (suc t) k (omega arith) near.1 (omega arith) high

      pub second_beyond : held N P (row_of across (suc t) k) (column_of across (suc t) k) ≡ true → Beyond N P t (row_of across (suc t) k) (column_of across (suc t) k)
      second_beyond e = record { inside = second_inside; row-past = (past across).0; column-past = (past across).1; holds = e }
        where
          past : (across : Bool) → (t < row_of across (suc t) k) × (t < column_of across (suc t) k)
          past true = (omega arith, omega arith)
          past false = (omega arith, omega arith)

      -- where there is no way to it through the first line, it is held without room t or not at all
      pub second_alone : {a b link : Bool} → a ≡ first_line N P t across k → b ≡ held N P (row_of across (suc t) k) (column_of across (suc t) k) → link ≡ linked N P t across
          → ((link && a) && b) ≡ false → b ≡ second_line N P t across k
      second_alone {a} {b} {link} x y z none =
          step a b link (second_line N P t across k) none (y ∙ second_after across k low ∙ ap₂ (λ a link. second_line N P t across k || (a && link)) (sym x) (sym z))
        where
          step : (a b link r : Bool) → ((link && a) && b) ≡ false → b ≡ (r || (a && link)) → b ≡ r
          step a b link true n e = e
          step a false link false n e = refl
          step true true true false n e = absurd (true≢false n)
          step true true false false n e = absurd (true≢false e)
          step false true link false n e = absurd (true≢false e)
