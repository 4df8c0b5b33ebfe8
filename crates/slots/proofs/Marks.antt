-- A plan marked in the work numbers, label by label; and that any work numbers mark some plan.
use Prim.Native.Nat.{ℕ, zero, suc, ◌+◌, ◌-◌, ◌*◌, ◌≤◌, ◌<◌}
use native.Mathlib.Decide.{ℕ_discrete, dec_le}
use native.Mathlib.Nat.{mul-le-mul}
use native.Mathlib.Numerals.{add-one}
use native.Mathlib.Omega.{arith}
use mathlib.Core.Path.{◌≡◌, refl, sym, ap, ◌∙◌}
use mathlib.Core.Bool.{Bool, true, false, cond, or-true, or-false}
use mathlib.Core.List.{List, [], ◌∷◌, ◌++◌, append-nil}
use borrow.Author.Tests.{lt-ltb, eq-eqb, ne_eqb}
use lib.Dec.{ltb}
use lib.ListN.{length, length-set, get_or, set, take, drop, replicate, length-replicate, get_or-replicate, length-append, length-drop, get_or-append}
use lib.Seq.{get_or-set_same, get_or-set_other, drop-set-lt, drop_at, length-take-le, take-suc}
use Rattle.model.specs.Label.{is_order}
use Rattle.model.specs.Compile.{judged, good}
use Rattle.model.specs.Fill.{Plan, position_from, position}
use Rattle.model.proofs.WorkNumbers.{positions-first}
use Rattle.model.proofs.Within.{within-range}
use Rattle.model.proofs.Plans.{position_more, planned_more, plan-length, label_inside, label_new}
use Rattle.slots.specs.Marks.{Marks, Marked}

-- ---- marking a plan

-- each of the first N² work numbers is its label's position, and the others are as they came
pub record Positioned (N : ℕ) (L : Plan) (before work : List ℕ) : Type 0 where
  pub each : (k : ℕ) → k < N * N → get_or work k 0 ≡ position L (suc k)
  pub size : length work ≡ length before
  pub rest : drop (N * N) work ≡ drop (N * N) before

-- in cleared work numbers no label has one
module _ (N : ℕ) (before : List ℕ) {cleared : List ℕ} (zeros : cleared ≡ replicate (N * N) 0 ++ drop (N * N) before) where
  pub positioned_none : Positioned N [] cleared cleared
  unfolding position position_from
  positioned_none = record { each = λ k below. rw zeros (zero_at k below); size = refl; rest = refl }
    where
      zero_at : (k : ℕ) → k < N * N → get_or (replicate (N * N) 0 ++ drop (N * N) before) k 0 ≡ 0
      zero_at k below = get_or-append (replicate (N * N) 0) _ 0 k (rw length-replicate below) ∙ get_or-replicate (N * N) k 0 0 below

  -- what is marked since they were cleared
  pub marked_since : {L : Plan} {work : List ℕ} → N * N ≤ length before → Positioned N L cleared work → Marked N L before work
  marked_since {L} {work} room m =
      let long : length work ≡ length before =
      m.size ∙ rw zeros (simp (length-append, length-replicate, length-drop) (omega arith)) in
      record {
        positions = positions-first N L work (omega arith) m.each;
        marked = record { marks = λ k from below. ap (ltb 0) (m.each k below) };
        size = long;
        rest = m.rest ∙ rw zeros (drop_at (replicate (N * N) 0) _ (N * N) (length-replicate (N * N) 0));
      }

-- one label more, which was not there before
pub positioned_more : {N : ℕ} {L : Plan} {before work : List ℕ} (y : ℕ) → Positioned N L before work → N * N ≤ length before → 1 ≤ y → y ≤ N * N
    → position L y ≡ 0 → Positioned N (L ++ (y ∷ [])) before (set work (y - 1) (suc (length L)))
positioned_more {N} {L} {before} {work} y m room low high new = record {
  each = λ k below. here k below (ℕ_discrete k (y - 1));
  size = length-set work (y - 1) (suc (length L)) ∙ m.size;
  rest = drop-set-lt (N * N) work (y - 1) (suc (length L)) (omega arith) ∙ m.rest;
}
  where
    or-none : (p : ℕ) → p ≡ cond (ltb 0 p) p 0
    or-none zero = refl
    or-none (suc p) = rw (lt-ltb 0 (suc p) (omega arith))

    here : (k : ℕ) → k < N * N → Dec (k ≡ y - 1) → get_or (set work (y - 1) (suc (length L))) k 0 ≡ position (L ++ (y ∷ [])) (suc k)
    here k below (yes e) =
        let back : suc (y - 1) ≡ y = omega arith in
        rw (e, get_or-set_same work (y - 1) (suc (length L)) 0 (omega (arith, m.size)), back, position_more L y y, new, eq-eqb y y refl)
    here k below (no d) =
        rw (get_or-set_other work (y - 1) k (suc (length L)) 0 d, position_more L y (suc k), ne_eqb y (suc k) (λ e. d (omega arith)))
        (m.each k below ∙ or-none (position L (suc k)))

-- a plan's label in its turn: in range, and few are before it
pub label_small : (N : ℕ) (L : Plan) (k : ℕ) → is_order N ≡ true → judged N 0 1 L ≡ good → k < length L
    → (1 ≤ get_or L k 0) × (get_or L k 0 ≤ N * N) × (k < 360000)
label_small N L k order rises below =
    let high = (within-range N 600 order).1 in
    let inside = label_inside N L k rises below in
    (inside.0, inside.1, omega (arith, plan-length N L rises, mul-le-mul {n₂ = 600} {m₂ = 600} high high))

pub marked_more : (N : ℕ) (L : Plan) (k at : ℕ) {before work : List ℕ} → N * N ≤ length before → judged N 0 1 L ≡ good → k < length L → at ≡ get_or L k 0 - 1
    → Positioned N (take k L) before work → Positioned N (take (k + 1) L) before (set work at (k + 1))
marked_more N L k at room rises below e m =
    let inside = label_inside N L k rises below in
    let size : suc (length (take k L)) ≡ k + 1 = omega (arith, length-take-le k L (omega arith)) in
    rw (add-one, take-suc L k 0 below, e) (rw (size, add-one) at (positioned_more _ m room inside.0 inside.1 (label_new N L k rises below)))

-- ---- any work numbers mark a plan

-- the labels 1..d whose work numbers aren't 0
marked_labels : List ℕ → ℕ → Plan
marked_labels work zero = []
marked_labels work (suc d) = marked_labels work d ++ cond (ltb 0 (get_or work d 0)) (suc d ∷ []) []

labels-above : (work : List ℕ) (d k : ℕ) → d ≤ k → ltb 0 (position (marked_labels work d) (suc k)) ≡ false
unfolding marked_labels position position_from
labels-above work zero k h = refl
labels-above work (suc d) k h = step (ltb 0 (get_or work d 0)) (labels-above work d k (omega arith))
  where
    step : (b : Bool) → ltb 0 (position (marked_labels work d) (suc k)) ≡ false
        → ltb 0 (position (marked_labels work d ++ cond b (suc d ∷ []) []) (suc k)) ≡ false
    step true e = rw (planned_more (marked_labels work d) (suc d) (suc k), e, ne_eqb (suc d) (suc k) (λ s. omega arith))
    step false e = rw (append-nil (marked_labels work d)) e

labels-marked : (work : List ℕ) (d k : ℕ) → k < d → ltb 0 (get_or work k 0) ≡ ltb 0 (position (marked_labels work d) (suc k))
unfolding marked_labels
labels-marked work zero k h = absurd (omega arith)
labels-marked work (suc d) k h = elim (dec_le d k) [
  | yes l ↦ last (omega arith)
  | no l ↦ before (omega arith) (labels-marked work d k (omega arith)) (ltb 0 (get_or work d 0))
]
  where
    before : k < d → ltb 0 (get_or work k 0) ≡ ltb 0 (position (marked_labels work d) (suc k)) → (b : Bool)
        → ltb 0 (get_or work k 0) ≡ ltb 0 (position (marked_labels work d ++ cond b (suc d ∷ []) []) (suc k))
    before l e true = rw (planned_more (marked_labels work d) (suc d) (suc k), ne_eqb (suc d) (suc k) (λ s. omega arith)) (e ∙ sym (or-false _))
    before l e false = rw (append-nil (marked_labels work d)) e

    last : k ≡ d → ltb 0 (get_or work k 0) ≡ ltb 0 (position (marked_labels work d ++ cond (ltb 0 (get_or work d 0)) (suc d ∷ []) []) (suc k))
    last e = rw e (step (ltb 0 (get_or work d 0)))
      where
        step : (b : Bool) → b ≡ ltb 0 (position (marked_labels work d ++ cond b (suc d ∷ []) []) (suc d))
        step true = rw (planned_more (marked_labels work d) (suc d) (suc d), eq-eqb (suc d) (suc d) refl)
            (sym (or-true (ltb 0 (position (marked_labels work d) (suc d)))))
        step false = rw (append-nil (marked_labels work d)) (sym (labels-above work d d (omega arith)))

pub record SomePlan (N : ℕ) (work : List ℕ) : Type 0 where
  pub plan : Plan
  pub marked : Marks N plan 0 work

pub some-plan : (N : ℕ) (work : List ℕ) → SomePlan N work
some-plan N work = record { plan = marked_labels work (N * N); marked = record { marks = λ k from below. labels-marked work (N * N) k below } }
