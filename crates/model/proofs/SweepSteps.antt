-- A step of a sweep keeps to the check: rows close in order, each in the place of the sweep before's, and what moved so far is known.
use Prim.Native.Nat.{ℕ, zero, suc, ◌-◌, ◌≤◌, ◌<◌}
use native.Mathlib.Omega.{arith}
use mathlib.Core.Path.{◌≡◌, refl, sym, ap, ap₂, subst, ◌∙◌}
use mathlib.Core.Bool.{Bool, true, false, ◌||◌, or-false, false≢true}
use mathlib.Core.List.{List}
use lib.Dec.{leb, eqb}
use lib.ListN.{length, get_or}
use lib.Ieee.{Float}
use borrow.Author.Tests.{lt-ltb, leb-true, eqb-true}
use Rattle.model.specs.Lists.{some}
use Rattle.model.specs.Arith.{plus_zero, quotient, vanishes}
use Rattle.model.specs.Formula.{C, Y, X, Tables, entry, put, put_x, closed, less}
use Rattle.model.specs.Sweep.{moves_more, moved}
use Rattle.model.specs.Check.{Open, idle, busy, Progress, Kind, opens, subtracts, divides, closes, closes_pivot, none, in_order, in_row, onward}
use Rattle.model.specs.Run.{State, subtracted, divided_by, closing, step}
use Rattle.model.proofs.Put.{put-length, put_same, put_other}
use Rattle.model.proofs.Passing.{both}
use Rattle.model.proofs.Stepping.{AfterStep, answered-after, made-product, made-quotient}

-- ---- what moved so far

-- The first r rows are closed: moves says whether one of them moved by more than the limit, and the others are those of the sweep before.
pub record Partly (limit : Float) (r : ℕ) (olds news : List Float) (moves : Bool) : Type 0 where
  pub told : moves ≡ moved limit r olds news
  pub later : (k : ℕ) → r ≤ k → get_or news k plus_zero ≡ get_or olds k plus_zero

-- before the first row closes
pub partly_none : (limit : Float) (x : List Float) → Partly limit 0 x x false
unfolding moved some
partly_none limit x = record { told = refl; later = λ k h. refl }

-- tests that agree on 1..n find alike
some_same : (t u : ℕ → Bool) (n : ℕ) → ((k : ℕ) → 1 ≤ k → k ≤ n → t k ≡ u k) → some t n ≡ some u n
unfolding some
some_same t u zero same = refl
some_same t u (suc n) same = ap₂ ◌||◌ (some_same t u n (λ k low high. same k low (omega arith))) (same (suc n) (omega arith) (omega arith))

-- the next row closes
partly_more : {limit : Float} {r : ℕ} {olds news : List Float} {moves : Bool} (v : Float) → r < length news → Partly limit r olds news moves
    → Partly limit (suc r) olds (put news r v) (moves || moves_more limit (get_or news r plus_zero) v)
unfolding moved some
partly_more {limit} {r} {olds} {news} v inside partly = record {
  told =
      let here : suc r - 1 ≡ r = omega arith in
      let before = some_same _ _ r (λ k low high. ap (moves_more limit (get_or olds (k - 1) plus_zero))
      (sym (put_other news r (k - 1) v plus_zero (omega arith) (λ e. omega arith)))) in
      rw here
      (ap₂ ◌||◌ (partly.told ∙ before)
      (ap₂ (moves_more limit) (partly.later r (omega arith)) (sym (put_same news r v plus_zero (omega arith)))));
  later = λ k h. put_other news r k v plus_zero (omega arith) (λ e. omega arith) ∙ partly.later k (omega arith);
}

-- ---- a step

-- what is open in a sweep: the row after those closed
abbrev pub OpenRow : ℕ → ℕ → Open → State → Type 0
OpenRow N closed idle z = Unit {0}
OpenRow N closed (busy C k) z = ⊥
OpenRow N closed (busy Y k) z = ⊥
OpenRow N closed (busy X k) z = (z.table ≡ X) × (z.target ≡ k) × (k ≡ suc closed) × (k ≤ N)

-- the tables of a sweep keep their sizes: A stands in C's place, B in Y's, and X is whole from the start
pub record Sized (N n : ℕ) (t : Tables) : Type 0 where
  pub order : t.order ≡ N
  pub in_c : length t.c ≡ n
  pub in_y : length t.y ≡ N
  pub in_x : length t.x ≡ N

-- within a sweep that began with X as olds
pub record Within (N n : ℕ) (limit : Float) (olds : List Float) (g : Progress) (z : State) (moves : Bool) : Type 0 where
  pub sized : Sized N n z.tables
  pub row : OpenRow N g.x g.target z
  pub partly : Partly limit g.x olds z.tables.x moves

-- whether a record closes an entry that moved by more than the limit
unfoldable pub moves_in : Float → State → Kind → Bool
moves_in limit z (opens t) = false
moves_in limit z (subtracts t) = false
moves_in limit z divides = false
moves_in limit z closes = moves_more limit (entry z.tables X z.target) z.running
moves_in limit z closes_pivot = false
moves_in limit z none = false

-- the kinds of a sweep
abbrev pub OfSweep : Kind → Type 0
OfSweep (opens C) = ⊥
OfSweep (opens Y) = ⊥
OfSweep (opens X) = Unit {0}
OfSweep (subtracts C) = ⊥
OfSweep (subtracts Y) = ⊥
OfSweep (subtracts X) = Unit {0}
OfSweep divides = Unit {0}
OfSweep closes = Unit {0}
OfSweep closes_pivot = ⊥
OfSweep none = ⊥

-- in a whole X an entry stands, and is put, at its number
pub whole-entry : {N n : ℕ} {t : Tables} (k : ℕ) → Sized N n t → entry t X k ≡ get_or t.x (k - 1) plus_zero
unfolding entry
whole-entry {t = t} k sized = ap (λ i. get_or t.x i plus_zero) (omega (arith, sized))

-- the tables with entry k of X put so
abbrev with_x : Tables → List Float → Tables
with_x t xs = record { order = t.order; c = t.c; y = t.y; x = xs }

whole-put : {N n : ℕ} {t : Tables} (k : ℕ) (v : Float) → Sized N n t → 1 ≤ k → closed t X k v ≡ with_x t (put t.x (k - 1) v)
unfolding closed put_x
whole-put {t = t} k v sized low =
    rw (lt-ltb (t.order - length t.x) k (omega (arith, sized))) (ap (λ i. with_x t (put t.x i v)) (omega (arith, sized)))

module _ (A B : List Float) (limit : Float) (N n : ℕ) (olds : List Float) (z : State) (p q : ℕ) (moves : Bool) where
  -- the state after a record of kind k, where o was open and so much counted
  abbrev After : Open → ℕ → ℕ → ℕ → Kind → State → Type 0
  After o c y x k z' = Within N n limit olds (onward k p q (record { target = o; c = c; y = y; x = x })) z' (moves || moves_in limit z k)

  -- a record that closes nothing
  still : {r : ℕ} → Partly limit r olds z.tables.x moves → Partly limit r olds z.tables.x (moves || false)
  still partly = record { told = or-false moves ∙ partly.told; later = partly.later }

  -- the open row is closed
  row-closed : {c y j : ℕ} (x : ℕ) → Within N n limit olds (record { target = busy X j; c = c; y = y; x = x }) z moves
      → Within N n limit olds (record { target = idle; c = c; y = y; x = suc x }) (closing z)
      (moves || moves_more limit (entry z.tables X z.target) z.running)
  row-closed {j = j} x within =
      let row = within.row in
      let sized = within.sized in
      let here : j - 1 ≡ x = omega (arith, row) in
      let inside : x < length z.tables.x = omega (arith, row, sized) in
      let shut : (closing z).tables ≡ with_x z.tables (put z.tables.x x z.running) =
      ap₂ (λ u k. closed z.tables u k z.running) row.0 row.1
      ∙ whole-put j z.running sized (omega (arith, row))
      ∙ ap (λ i. with_x z.tables (put z.tables.x i z.running)) here in
      let read : entry z.tables X z.target ≡ get_or z.tables.x x plus_zero =
      whole-entry z.target sized ∙ ap (λ k. get_or z.tables.x k plus_zero) (ap (λ k. k - 1) row.1 ∙ here) in
      let size = put-length z.tables.x x z.running (omega arith) in
      record {
        sized = subst (Sized N n) (sym shut) (record { order = sized.order; in_c = sized.in_c; in_y = sized.in_y; in_x = omega (arith, size, sized.in_x) });
        row = tt;
        partly = rw (shut, read) (partly_more z.running inside within.partly);
      }

  -- kind by kind
  kind-after : (o : Open) (c y x : ℕ) (k : Kind) → OfSweep k → in_order k o ≡ true → in_row N n k p q (record { target = o; c = c; y = y; x = x }) ≡ true
      → Within N n limit olds (record { target = o; c = c; y = y; x = x }) z moves → AfterStep z (After o c y x k) (step A B limit z k p q)
  unfolding in_order in_row step moves_in
  kind-after idle c y x (opens X) of eleven twelve within =
      let t = both (eqb p (suc x)) (leb p N) twelve in
      let next = eqb-true p (suc x) t.0 in (
        record { sized = within.sized; row = (refl, refl, next, leb-true p N t.1); partly = still within.partly },
        record { made = omega arith; gone = λ h. h },
      )
  kind-after (busy X j) c y x (subtracts X) of eleven twelve within =
      let a = entry z.tables C p in
      let b = entry z.tables X q in
      answered-after z _ (less z.running a b) (subtracted z (vanishes a b))
      (λ v. (record { sized = within.sized; row = within.row; partly = still within.partly }, made-product z (vanishes a b) v))
  kind-after (busy X j) c y x divides of eleven twelve within =
      answered-after z _ (quotient z.running (entry z.tables C p)) (divided_by z)
      (λ v. (record { sized = within.sized; row = within.row; partly = still within.partly }, made-quotient z v))
  kind-after (busy X j) c y x closes of eleven twelve within = (row-closed x within, record { made = omega arith; gone = λ h. h })
  kind-after (busy C j) c y x k of eleven twelve within = absurd within.row
  kind-after (busy Y j) c y x k of eleven twelve within = absurd within.row
  kind-after (busy X j) c y x (opens X) of eleven twelve within = absurd (false≢true eleven)
  kind-after idle c y x (subtracts X) of eleven twelve within = absurd (false≢true eleven)
  kind-after idle c y x divides of eleven twelve within = absurd (false≢true eleven)
  kind-after idle c y x closes of eleven twelve within = absurd (false≢true eleven)
  kind-after o c y x (opens C) of eleven twelve within = elim of [ ]
  kind-after o c y x (opens Y) of eleven twelve within = elim of [ ]
  kind-after o c y x (subtracts C) of eleven twelve within = elim of [ ]
  kind-after o c y x (subtracts Y) of eleven twelve within = elim of [ ]
  kind-after o c y x closes_pivot of eleven twelve within = elim of [ ]
  kind-after o c y x none of eleven twelve within = elim of [ ]

  -- a record of a sweep that passes 11 and 12 leads to a state within it
  pub sweep_after : (g : Progress) (k : Kind) → OfSweep k → in_order k g.target ≡ true → in_row N n k p q g ≡ true → Within N n limit olds g z moves
      → AfterStep z (λ z'. Within N n limit olds (onward k p q g) z' (moves || moves_in limit z k)) (step A B limit z k p q)
  sweep_after g k = kind-after g.target g.c g.y g.x k
