-- A right side's own state beside the state that all share: where it stands, and what its step relies on, the shared one's does too.
use Prim.Native.Nat.{ℕ}
use native.Mathlib.Omega.{arith}
use mathlib.Core.Path.{◌≡◌, sym, ap, ◌∙◌}
use mathlib.Core.Bool.{true, false≢true}
use mathlib.Core.List.{List}
use lib.Ieee.{Float}
use Rattle.model.specs.Formula.{Table, C, Y, X}
use Rattle.model.specs.Check.{Open, idle, busy, Kind, opens, subtracts, divides, closes, closes_pivot, none, in_order}
use Rattle.model.specs.Run as Run
use Rattle.model.specs.Run.{Followed, through, halted}
use Rattle.model.proofs.Many.{same-table}
use Rattle.model.proofs.Reached.{Halted}
use Rattle.model.proofs.Stepping.{OpenRoom}
use Rattle.state.specs.declared.State.{State}
use Rattle.state.specs.States.{table_of, state_of, Sound, FreeIn, Allowed, WorksOn}
use Rattle.sides.specs.Cells.{Cell}
use Rattle.sides.specs.Standing.{own, StandsAt}

module _ (z : State) (cell : Cell) where
  -- a side whose answer is 0 got through, and its state is its own
  pub goes_through : (c y x : List Float) (f : Followed) → StandsAt z cell c y x f → cell.answer ≡ 0 → f ≡ through (state_of (own z cell) c y x)
  goes_through c y x (through w) stands going = ap through stands.1
  goes_through c y x (halted n k t j) stands going = absurd (omega (arith, stands.0, stands.1))

  -- the answer of any other tells its refusal
  pub stands-halted : (c y x : List Float) (f : Followed) → StandsAt z cell c y x f → (cell.answer ≡ 0 → ⊥) → Halted f
  stands-halted c y x (through w) stands ended = ended stands.0
  stands-halted c y x (halted n k t j) stands ended = tt

  -- the open target and the counts are shared
  pub own-sound : {lc ly lx : ℕ} → Sound lc ly lx z → Sound lc ly lx (own z cell)
  own-sound sound = record { named = sound.named; in_c = sound.in_c; in_y = sound.in_y; in_x = sound.in_x }

  module _ (la lc ly lx : ℕ) where
    free_own : (t : Table) → FreeIn lc ly lx (own z cell) t → FreeIn lc ly lx z t
    free_own C free = free
    free_own Y free = free
    free_own X free = free

    pub allowed-own : (k : Kind) (p q : ℕ) → Allowed la lc ly lx (own z cell) k p q → Allowed la lc ly lx z k p q
    allowed-own (opens C) p q allowed = allowed
    allowed-own (opens Y) p q allowed = allowed
    allowed-own (opens X) p q allowed = allowed
    allowed-own (subtracts C) p q allowed = allowed
    allowed-own (subtracts Y) p q allowed = allowed
    allowed-own (subtracts X) p q allowed = allowed
    allowed-own divides p q allowed = allowed
    allowed-own closes p q allowed = free_own (table_of z.table) allowed
    allowed-own closes_pivot p q allowed = free_own (table_of z.table) allowed
    allowed-own none p q allowed = tt

-- a record that passes 11 works on the table of the open target
pub works_on : (N s : ℕ) (z : Run.State) (o : Open) (k : Kind) → in_order k o ≡ true → OpenRoom N s o z → WorksOn k z.table
unfolding in_order
works_on N s z o (opens t) order room = tt
works_on N s z idle (subtracts t) order room = absurd (false≢true order)
works_on N s z (busy u j) (subtracts t) order room = room.0 ∙ sym (same-table t u order)
works_on N s z o divides order room = tt
works_on N s z o closes order room = tt
works_on N s z idle closes_pivot order room = absurd (false≢true order)
works_on N s z (busy u j) closes_pivot order room = room.0 ∙ sym (same-table C u order)
works_on N s z o none order room = tt
