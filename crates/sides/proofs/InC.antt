-- A record that works in C does the same to every right side's state, whatever stands in its B, Y and X.
use Prim.Native.Nat.{ℕ, ◌+◌, ◌-◌, ◌<◌}
use native.Mathlib.Omega.{arith}
use mathlib.Core.Path.{◌≡◌, refl, sym, ap, subst, ◌∙◌}
use mathlib.Core.Bool.{Bool, true, false, cond}
use mathlib.Core.List.{List, []}
use lib.ListN.{length, take, drop}
use lib.Ieee.{Float}
use borrow.Author.Tests.{ne_eqb}
use Rattle.model.specs.Arith.{Answer, number, overflow, zero_divisor, quotient, vanishes, is_small}
use Rattle.model.specs.Formula.{C, Y, X, number_of, entry, closed, starting, less}
use Rattle.model.specs.Program.{rec}
use Rattle.model.specs.Check.{Kind, opens, subtracts, divides, closes, closes_pivot, none, kind_of}
use Rattle.model.specs.Run as Run
use Rattle.model.specs.Run.{going, stop, step, settled_step, subtracted, divided_by, closing, Followed, through, halted}
use Rattle.model.proofs.Reached.{advance}
use Rattle.state.specs.declared.State.{State}
use Rattle.std.specs.Prelude.{Result, Ok, Err}
use Rattle.state.specs.declared.Fault.{Fault}
use Rattle.state.specs.States.{table_of, state_of, stepped_of, number_of_fault, SoundStep, WorksOn, works_in, ReadyInC}
use Rattle.sides.specs.Cells.{Cell, cell_of, if_going, ended_by, Each}
use Rattle.sides.specs.Standing.{own, alone, StandsAt, Kept, StepsInC, SoundInC}

-- a step in C: its target is there after it, or it stops with a refusal's number
abbrev pub StaysInC : Run.Stepped → Type 0
StaysInC (going w) = w.table ≡ C
StaysInC (stop r) = 0 < r

module _ (order : ℕ) (y x : List Float) (gone : ℕ) where
  -- a state that shares C with another: its running number, Y, X and some more products that vanished are its own
  abbrev pub beside : Run.State → Float → Run.State
  beside w v = record {
    tables = record { order = order; c = w.tables.c; y = y; x = x };
    table = w.table;
    target = w.target;
    running = v;
    products = w.products;
    quotients = w.quotients;
    vanished = w.vanished + gone;
  }

  -- and its step, if it works in C
  abbrev pub beside_step : Run.Stepped → Run.Stepped
  beside_step (going w) = going (beside w w.running)
  beside_step (stop r) = stop r

  -- the second step does what the first does, which is one in C
  abbrev pub StepsBeside : Run.Stepped → Run.Stepped → Type 0
  StepsBeside s s' = (s' ≡ beside_step s) × StaysInC s

  -- kind by kind: an answer, a pivot's test, a product, a close
  answer_beside : (a : Answer) (f g : Float → Run.State) → ((v : Float) → g v ≡ beside (f v) (f v).running) → ((v : Float) → (f v).table ≡ C)
      → StepsBeside (settled_step a f) (settled_step a g)
  answer_beside (number v) f g same in_c = (ap going (same v), in_c v)
  answer_beside overflow f g same in_c = (refl, omega arith)
  answer_beside zero_divisor f g same in_c = (refl, omega arith)

  pivot_beside : (small : Bool) (w w' : Run.State) → w' ≡ beside w w.running → w.table ≡ C
      → StepsBeside (cond small (stop 17) (going w)) (cond small (stop 17) (going w'))
  pivot_beside true w w' same in_c = (refl, omega arith)
  pivot_beside false w w' same in_c = (ap going same, in_c)

  subtracted_beside : (w : Run.State) (vanished : Bool) (v : Float) → subtracted (beside w w.running) vanished v ≡ beside (subtracted w vanished v) v
  subtracted_beside w vanished v =
      let counts : w.vanished + gone + cond vanished 1 0 ≡ w.vanished + cond vanished 1 0 + gone = omega arith in
      rw counts

  closing_beside : (w : Run.State) → w.table ≡ C → closing (beside w w.running) ≡ beside (closing w) w.running
  unfolding closed
  closing_beside w e = rw e

  module _ (A b b' : List Float) (limit : Float) (w : Run.State) (v : Float) (p q : ℕ) where
    -- a record that works in C does the same to both
    pub step_beside : (k : Kind) → works_in k w.table ≡ C → WorksOn k w.table → (w.table ≡ C → v ≡ w.running)
        → StepsBeside (step A b limit w k p q) (step A b' limit (beside w v) k p q)
    unfolding step entry starting
    step_beside (opens C) in_c on same = (refl, refl)
    step_beside (opens Y) in_c on same = let z : ◌≡◌ {A = ℕ} 0 1 = cc in absurd (omega arith)
    step_beside (opens X) in_c on same = let z : ◌≡◌ {A = ℕ} 0 1 = cc in absurd (omega arith)
    step_beside (subtracts t) in_c on same =
        let a = entry w.tables C p in
        let b = entry w.tables C q in
        rw (same in_c, sym on ∙ in_c)
        (answer_beside (less w.running a b) (subtracted w (vanishes a b)) (subtracted (beside w w.running) (vanishes a b))
        (subtracted_beside w (vanishes a b)) (λ v. in_c))
    step_beside divides in_c on same =
        rw (same in_c)
        (answer_beside (quotient w.running (entry w.tables C p)) (divided_by w) (divided_by (beside w w.running)) (λ v. refl) (λ v. in_c))
    step_beside closes in_c on same = rw (same in_c) (ap going (closing_beside w in_c), in_c)
    step_beside closes_pivot in_c on same =
        rw (same in_c) (pivot_beside (is_small limit w.running) (closing w) (closing (beside w w.running)) (closing_beside w in_c) in_c)
    step_beside none in_c on same = rw (same in_c) (refl, in_c)

-- ---- a right side's state beside the one that all share

-- a target in C has one running number for all
running_in_c : (z : State) (cell : Cell) → number_of (table_of z.table) ≡ z.table → table_of z.table ≡ C → (own z cell).running ≡ z.running
running_in_c z cell named in_c = let first : z.table ≡ 1 = sym named ∙ ap number_of in_c in rw first

-- the state after a step on C, with Y and X as before it
abbrev pub with_rows : State → State → State
with_rows z after = record {
  running = after.running;
  table = after.table;
  target = after.target;
  c = after.c;
  y = z.y;
  x = z.x;
  products = after.products;
  quotients = after.quotients;
  vanished = after.vanished;
  moved = after.moved;
}

-- the state without Y and X has made its step
module _ (A : List Float) (limit : Float) (k kind p q : ℕ) (z : State) (c c' y₁ x₁ : List Float) (r : Result State Fault)
    (is : stepped_of r c' y₁ x₁ ≡ step A [] limit (state_of (alone z) c [] []) (kind_of kind) p q) {la lc : ℕ} (ready : ReadyInC la lc (alone z) kind p q)
    (count : ℕ) (running : List Float) (out : List ℕ) where
  -- one right side's step is beside it
  side_steps : (cell : Cell) (b y x : List Float) → StepsBeside (length x) (take z.y y) (drop (length x - z.x) x) cell.gone (stepped_of r c' y₁ x₁)
      (step A b limit (state_of (own z cell) c y x) (kind_of kind) p q)
  side_steps cell b y x =
      rw is
      (step_beside (length x) (take z.y y) (drop (length x - z.x) x) cell.gone A [] b limit (state_of (alone z) c [] []) (own z cell).running p q
      (kind_of kind) ready.in_c ready.works_on (running_in_c z cell ready.ready.sound.named))

  -- the step goes on, and with it each side that does
  pub goes_on : (after : State) → r ≡ Ok after → SoundStep lc 0 0 r
      → StepsInC count A limit k kind p q z c running out (with_rows z after) c' running out × (SoundInC lc z (with_rows z after) × Kept count out out)
  goes_on after e still =
      let sound = subst (SoundStep lc 0 0) e still in (
        λ i f b y x h. stands sound.named (cell_of running out i) f b y x,
        (record { named = sound.named; in_c = sound.in_c; in_y = refl; in_x = refl }, record { first = refl; past = λ j h. refl }),
      )
    where
      stands : number_of (table_of after.table) ≡ after.table → (cell : Cell) (f : Followed) (b y x : List Float) → StandsAt z cell c y x f
          → StandsAt (with_rows z after) cell c' y x (advance A b limit (record { index = k; at = rec kind p q }) f)
      stands named cell (halted n i t j) b y x at = at
      stands named cell (through w) b y x (goes, at) =
          let (same, stays) = rw e at (side_steps cell b y x) in
          rw (at, same) (
            goes,
            ap (beside (length x) (take z.y y) (drop (length x - z.x) x) cell.gone (state_of after c' y₁ x₁))
                (sym (running_in_c (with_rows z after) cell named stays)),
          )

  -- the step stops, and each side that went on ends there
  pub ends : {fault : Fault} {running' : List Float} {out' : List ℕ} → r ≡ Err fault
      → Each count (λ i. if_going (ended_by (record { «record» = k; table = z.table; target = z.target }) (number_of_fault fault))) running out running' out'
      → StepsInC count A limit k kind p q z c running out z c' running' out' × (SoundInC lc z z × Kept count out out')
  ends {fault} {running'} {out'} e each = (
    λ i f b y x h at. subst (λ cell. StandsAt z cell c' y x (advance A b limit (record { index = k; at = rec kind p q }) f)) (sym (each.changed i h))
        (stands (cell_of running out i) f b y x at),
    (
      record { named = ready.ready.sound.named; in_c = ready.ready.sound.in_c; in_y = refl; in_x = refl },
      record { first = each.first; past = each.past },
    ),
  )
    where
      stands : (cell : Cell) (f : Followed) (b y x : List Float) → StandsAt z cell c y x f
          → StandsAt z (if_going (ended_by (record { «record» = k; table = z.table; target = z.target }) (number_of_fault fault)) cell) c' y x
          (advance A b limit (record { index = k; at = rec kind p q }) f)
      stands cell (halted m i t j) b y x at = rw (ne_eqb cell.answer 0 (λ zero. omega arith)) at
      stands cell (through w) b y x (goes, at) =
          let (same, some) = rw e at (side_steps cell b y x) in
          rw (at, same, goes) (some, refl, sym ready.ready.sound.named, refl, refl)
