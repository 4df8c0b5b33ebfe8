-- Laws of the numbers of right sides: one side's changed, those of the first sides one by one, and their parts of a table.
use Prim.Native.Nat.{ℕ, zero, suc, ◌+◌, ◌*◌, ◌≤◌, ◌<◌}
use native.Mathlib.Nat.{not-suc-le-zero, le_of_suc-le-suc, eq-or-lt_of_le, mul-le-mul_right}
use native.Mathlib.Omega.{arith}
use mathlib.Core.Path.{◌≡◌, refl, sym, ap, ◌∙◌}
use mathlib.Core.Bool.{true, false, ◌&&◌, or-true}
use mathlib.Core.List.{List}
use mathlib.Core.Logic.{⊎_elim}
use borrow.Author.Count.{below_more}
use borrow.Author.Tests.{eq-eqb, ne_eqb}
use lib.ListN.{length, get_or, set, length-set}
use lib.Seq.{get_or-set_same, get_or-set_other}
use lib.Ieee.{Float, nan}
use Rattle.model.specs.Arith.{plus_zero, Answer, number, overflow, zero_divisor, is_finite, vanishes}
use Rattle.model.specs.Formula.{less}
use Rattle.model.specs.Many.{part}
use Rattle.model.proofs.Arith.{less_finite}
use Rattle.model.proofs.Parts.{part-set, part-set-other}
use Rattle.state.proofs.Tables.{get_or-within}
use Rattle.arith.specs.declared.Operation.{Operation}
use Rattle.arith.specs.Answer.{answer_of, has_vanished}
use Rattle.sides.specs.declared.each.At.{At}
use Rattle.sides.specs.Cells.{Cell, cell_of, if_going, gone_on, answered, subtracted, One, Each, Closed, any_going, Room, Laid}

-- ---- one side's numbers changed

-- the side's numbers are as before if each of the five is
cell_same : (r : ℕ) (running running' : List Float) (out out' : List ℕ) → get_or running' r plus_zero ≡ get_or running r plus_zero
    → ((j : ℕ) → 4 * r < j → j ≤ 4 * r + 4 → get_or out' j 0 ≡ get_or out j 0) → cell_of running' out' r ≡ cell_of running out r
cell_same r running running' out out' same all =
    let n : (k : ℕ) → 0 < k → k ≤ 4 → get_or out' (4 * r + k) 0 ≡ get_or out (4 * r + k) 0 = λ k low high. all (4 * r + k) (omega arith) (omega arith) in
    rw (same, n 1 (omega arith) (omega arith), n 2 (omega arith) (omega arith), n 3 (omega arith) (omega arith), n 4 (omega arith) (omega arith))

module _ {r : ℕ} {running running' : List Float} {out out' : List ℕ} {f : Cell → Cell} (one : One r f running out running' out') where
  -- changed by another function that does the same to it
  pub one_as : (g : Cell → Cell) → f (cell_of running out r) ≡ g (cell_of running out r) → One r g running out running' out'
  one_as g e = record { changed = one.changed ∙ e; others = one.others; below = one.below; above = one.above }

  -- changed only if it goes on, which it does
  pub one-going : get_or out (4 * r + 1) 0 ≡ 0 → One r (if_going f) running out running' out'
  one-going e = one_as (if_going f) (rw (eq-eqb _ _ e))

-- ---- what the code writes

module _ (r : ℕ) (running : List Float) (out : List ℕ) where
  -- nothing, at a side that was refused
  pub one_ended : (f : Cell → Cell) → (get_or out (4 * r + 1) 0 ≡ 0 → ⊥) → One r (if_going f) running out running out
  one_ended f e = record { changed = rw (ne_eqb _ _ e); others = λ j h. refl; below = λ j h. refl; above = λ j h. refl }

  -- the running number
  pub one_goes : (v : Float) → r < length running → One r (gone_on false v) running out (set running r v) out
  one_goes v h = record {
    changed = rw (get_or-set_same running r v plus_zero h);
    others = λ j other. get_or-set_other running r j v plus_zero other;
    below = λ j h. refl;
    above = λ j h. refl;
  }

  -- and one more product that vanished
  pub one-vanishes : (v : Float) → r < length running → 4 * r + 4 < length out
      → One r (gone_on true v) running out (set running r v) (set out (4 * r + 4) (get_or out (4 * r + 4) 0 + 1))
  one-vanishes v h long =
      let gone = get_or out (4 * r + 4) 0 + 1 in
      let kept : (j : ℕ) → (j ≡ 4 * r + 4 → ⊥) → get_or (set out (4 * r + 4) gone) j 0 ≡ get_or out j 0 = λ j. get_or-set_other out (4 * r + 4) j gone 0 in
      record {
        changed = rw (
          get_or-set_same running r v plus_zero h,
          get_or-set_same out (4 * r + 4) gone 0 long,
          kept (4 * r + 1) (omega arith),
          kept (4 * r + 2) (omega arith),
          kept (4 * r + 3) (omega arith),
        );
        others = λ j other. get_or-set_other running r j v plus_zero other;
        below = λ j h. kept j (omega arith);
        above = λ j h. kept j (omega arith);
      }

-- ---- an operation on the running number of a side that goes on

module _ (at : At) (r : ℕ) (running : List Float) (out : List ℕ) (within : r < length running) (goes : get_or out (4 * r + 1) 0 ≡ 0) where
  abbrev cell : Cell
  cell = cell_of running out r

  -- the running number as the code reads it
  abbrev acc : Float
  acc = get_or running r nan

  -- what is written for the case that was found, o, is what the operation's answer says
  module _ {running' : List Float} {out' : List ℕ} {result o : Operation} (found : result ≡ o) where
    pub one-subtracts : One r (answered at (answer_of o) (has_vanished o)) running out running' out' → (a b : Float) → answer_of result ≡ less acc a b
        → has_vanished result ≡ (is_finite acc && vanishes a b) → One r (if_going (subtracted at a b)) running out running' out'
    one-subtracts one a b is gone =
        one-going
        (one_as one (subtracted at a b)
        (ap (λ x. answered at (answer_of x) (has_vanished x) cell) (sym found) ∙ rw is (by (less acc a b) refl)
        ∙ ap (λ v. answered at (less v a b) (vanishes a b) cell) (get_or-within running r nan plus_zero within)))
        goes
      where
        by : (answer : Answer) → less acc a b ≡ answer → answered at answer (has_vanished result) cell ≡ answered at answer (vanishes a b) cell
        by (number v) h = rw (gone, less_finite acc a b v h)
        by overflow h = refl
        by zero_divisor h = refl

-- ---- those of the first sides, one by one

-- none yet
pub each_none : (f : ℕ → Cell → Cell) (running : List Float) (out : List ℕ) → Each 0 f running out running out
each_none f running out = record { changed = λ r h. absurd (not-suc-le-zero h); others = λ r h. refl; first = refl; past = λ j h. refl }

module _ {i : ℕ} {f : ℕ → Cell → Cell} {running₀ running : List Float} {out₀ out : List ℕ} (each : Each i f running₀ out₀ running out) where
  -- the next one is as it was
  next-same : cell_of running out i ≡ cell_of running₀ out₀ i
  next-same = cell_same i running₀ running out₀ out (each.others i (omega arith)) (λ j low high. each.past j low)

  -- one more
  pub each_more : {running' : List Float} {out' : List ℕ} → One i (f i) running out running' out' → Each (i + 1) f running₀ out₀ running' out'
  each_more {running'} {out'} one = record {
    changed =
        below_more (λ r. cell_of running' out' r ≡ f r (cell_of running₀ out₀ r)) i
        (λ r h. cell_same r running running' out out' (one.others r (omega arith)) (λ j low high. one.below j (omega arith)) ∙ each.changed r h)
        (one.changed ∙ ap (f i) next-same);
    others = λ r h. one.others r (omega arith) ∙ each.others r (omega arith);
    first = one.below 0 (omega arith) ∙ each.first;
    past = λ j h. one.above j (omega arith) ∙ each.past j (omega arith);
  }

-- Between two turns of a loop over count sides: those below i are changed.
pub record Changed (count i : ℕ) (f : ℕ → Cell → Cell) (running₀ : List Float) (out₀ : List ℕ) (running : List Float) (out : List ℕ) : Type 0 where
  pub low : i ≤ count
  pub room : Room count (length running) (length out)
  pub each : Each i f running₀ out₀ running out

module _ {count i : ℕ} {f : ℕ → Cell → Cell} {running₀ running : List Float} {out₀ out : List ℕ} (changed : Changed count i f running₀ out₀ running out) where
  -- after one more turn
  pub changed_more : (running' : List Float) (out' : List ℕ) → i < count → length running' ≡ length running → length out' ≡ length out
      → One i (f i) running out running' out' → Changed count (i + 1) f running₀ out₀ running' out'
  changed_more running' out' h lr lo one = record { low = omega arith; room = rw (lr, lo) changed.room; each = each_more changed.each one }

-- ---- whether a side goes on

-- one that does
pub any_found : (count r : ℕ) (out : List ℕ) → r < count → get_or out (4 * r + 1) 0 ≡ 0 → any_going count out ≡ true
unfolding any_going
any_found zero r out h e = absurd (not-suc-le-zero h)
any_found (suc k) r out h e =
    ⊎_elim (λ here. rw (← here, eq-eqb _ _ e) (or-true (any_going r out))) (λ below. rw (any_found k r out below e)) (eq-or-lt_of_le (le_of_suc-le-suc h))

-- ---- the sides' parts of a table

-- an entry of a side's part stands in the table
pub laid_within : {count N at lv : ℕ} (r : ℕ) → Laid count N at lv → r < count → r * N + at < lv
laid_within {count} {N} r laid h = omega (arith, mul-le-mul_right N h)

-- Between two turns of a loop over count parts: those below i are closed, the others as before.
pub record ClosedSo (count N at : ℕ) (running values₀ values : List Float) (i : ℕ) : Type 0 where
  pub low : i ≤ count
  pub long : length values ≡ length values₀
  pub closed : Closed i N at running values₀ values
  pub others : (r : ℕ) → i ≤ r → part N values r ≡ part N values₀ r

-- after one more turn
pub closed_more : {count N at i : ℕ} {running values₀ values : List Float} → ClosedSo count N at running values₀ values i → i < count → at < N
    → (v : Float) → v ≡ get_or running i plus_zero → ClosedSo count N at running values₀ (set values (i * N + at) v) (i + 1)
closed_more {N = N} {at} {i} {running} {values₀} {values} so h within v e = record {
  low = omega arith;
  long = rw length-set so.long;
  closed =
      below_more (λ r. part N (set values (i * N + at) v) r ≡ set (part N values₀ r) at (get_or running r plus_zero)) i
      (λ r low. part-set-other N values i r at v within (omega arith) ∙ so.closed r low)
      (part-set N values i at v within ∙ ap (λ l. set l at v) (so.others i (omega arith)) ∙ ap (set (part N values₀ i) at) e);
  others = λ r high. part-set-other N values i r at v within (omega arith) ∙ so.others r (omega arith);
}
