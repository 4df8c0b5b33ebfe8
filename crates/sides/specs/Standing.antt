-- Where each right side stands beside its own run, and what a step of all of them may rely on. Definitions only.
use Rattle.std.specs.Prelude.{ℕ, ◌+◌, ◌*◌, ◌≤◌, ◌<◌, ◌≡◌, cond, List, eqb, length, get_or, Float}
use Rattle.model.specs.Arith.{plus_zero}
use Rattle.model.specs.Formula.{C, number_of}
use Rattle.model.specs.Program.{rec}
use Rattle.model.specs.Check.{kind_of}
use Rattle.model.specs.Run.{closing, Followed, through, halted}
use Rattle.model.specs.Boundary.{refusal_number}
use Rattle.model.specs.Many.{part}
use Rattle.model.proofs.Reached.{advance}
use Rattle.state.specs.declared.State.{State}
use Rattle.state.specs.States.{table_of, state_of, Sound, Free, Ready, WorksOn, works_in}
use Rattle.sides.specs.Cells.{Cell, cell_of, Room, FewGone}

-- The state of one right side: all sides share the targets, the counts and C; a side has a running number of its own where the target is not in C, and
-- products of its own that vanished.
abbrev pub own : State → Cell → State
own z cell = record {
  running = cond (eqb z.table 1) z.running cell.running;
  table = z.table;
  target = z.target;
  c = z.c;
  y = z.y;
  x = z.x;
  products = z.products;
  quotients = z.quotients;
  vanished = z.vanished + cell.gone;
  moved = z.moved;
}

-- a right side with these numbers, and its parts of Y and X, stands where its own run does
abbrev pub StandsAt : State → Cell → List Float → List Float → List Float → Followed → Type 0
StandsAt z cell c y x (through w) = (cell.answer ≡ 0) × (w ≡ state_of (own z cell) c y x)
StandsAt z cell c y x (halted n k t j) =
    (0 < n) × (cell.answer ≡ refusal_number n k) × (cell.table ≡ number_of t) × (cell.target ≡ j) × (cell.gone ≡ 0)

-- the same of right side r
abbrev pub Stands : ℕ → State → List Float → List Float → List Float → List Float → List ℕ → ℕ → Followed → Type 0
Stands N z c y x running out r f = StandsAt z (cell_of running out r) c (part N y r) (part N x r) f

-- a record, at index k, takes each right side on as its own run goes on
abbrev pub Steps : ℕ → ℕ → List Float → List Float → Float → ℕ → ℕ → ℕ → ℕ → State → List Float → List Float → List Float → List Float → List ℕ
    → State → List Float → List Float → List Float → List Float → List ℕ → Type 0
Steps count N A B limit k kind p q z c y x running out z' c' y' x' running' out' = (r : ℕ) (f : Followed) → r < count → Stands N z c y x running out r f
    → Stands N z' c' y' x' running' out' r (advance A (part N B r) limit (record { index = k; at = rec kind p q }) f)

-- the numbers that are no right side's are as before
pub record Kept (count : ℕ) (out out' : List ℕ) : Type 0 where
  pub first : get_or out' 0 0 ≡ get_or out 0 0
  pub past : (j : ℕ) → 4 * count < j → get_or out' j 0 ≡ get_or out j 0

-- What a step relies on, with the lengths of A, B, C, Y, X, of the running numbers and of the numbers out: what one right side's step would, and room for all.
pub record SidesReady (count N la lb lc ly lx lr : ℕ) (out : List ℕ) (z : State) (kind p q : ℕ) : Type 0 where
  pub ready : Ready la N lc N N z kind p q
  pub works_on : WorksOn (kind_of kind) (table_of z.table)
  pub room : Room count lr (length out)
  pub order : N ≤ 600
  pub in_b : lb ≡ count * N
  pub in_y : ly ≡ count * N
  pub in_x : lx ≡ count * N
  pub few-gone : FewGone count z.products out

-- ---- the two kinds of records

-- the state without Y and X
abbrev pub alone : State → State
alone z = record {
  running = z.running;
  table = z.table;
  target = z.target;
  c = z.c;
  y = 0;
  x = 0;
  products = z.products;
  quotients = z.quotients;
  vanished = z.vanished;
  moved = z.moved;
}

-- whatever the side's parts of B, Y and X are
abbrev pub StepsInC : ℕ → List Float → Float → ℕ → ℕ → ℕ → ℕ → State → List Float → List Float → List ℕ → State → List Float → List Float → List ℕ → Type 0
StepsInC count A limit k kind p q z c running out z' c' running' out' = (r : ℕ) (f : Followed) (b y x : List Float) → r < count
    → StandsAt z (cell_of running out r) c y x f
    → StandsAt z' (cell_of running' out' r) c' y x (advance A b limit (record { index = k; at = rec kind p q }) f)

-- the target is named, C holds no more than its length, and Y and X are as before
pub record SoundInC (lc : ℕ) (z z' : State) : Type 0 where
  pub named : number_of (table_of z'.table) ≡ z'.table
  pub in_c : z'.c ≤ lc
  pub in_y : z'.y ≡ z.y
  pub in_x : z'.x ≡ z.x

pub record ReadyInRows (count N lb lc ly lx lr : ℕ) (out : List ℕ) (z : State) (kind p q : ℕ) : Type 0 where
  pub sides : (la : ℕ) → SidesReady count N la lb lc ly lx lr out z kind p q
  pub in_rows : works_in (kind_of kind) (table_of z.table) ≡ C → ⊥

-- whatever A and the limit are
abbrev pub StepsInRows : ℕ → ℕ → List Float → ℕ → ℕ → ℕ → ℕ → State → List Float → List Float → List Float → List Float → List ℕ
    → State → List Float → List Float → List Float → List ℕ → Type 0
StepsInRows count N B k kind p q z c y x running out z' y' x' running' out' = (A : List Float) (limit : Float)
    → Steps count N A B limit k kind p q z c y x running out z' c y' x' running' out'

-- a target in Y or X may be closed, and there is room
pub record CloseReady (count N lr ly lx : ℕ) (z : State) : Type 0 where
  pub few : count ≤ 64
  pub order : N ≤ 600
  pub in_running : lr ≡ 64
  pub in_y : ly ≡ count * N
  pub in_x : lx ≡ count * N
  pub in_rows : table_of z.table ≡ C → ⊥
  pub free : (lc : ℕ) → Free lc N N z

-- each right side's target takes its running number
abbrev pub ClosesInRows : ℕ → ℕ → State → List Float → List Float → List Float → State → List Float → List Float → Type 0
ClosesInRows count N z running y x z' y' x' = (r : ℕ) (c : List Float) (cell : Cell) → r < count → cell.running ≡ get_or running r plus_zero
    → state_of (own z' cell) c (part N y' r) (part N x' r) ≡ closing (state_of (own z cell) c (part N y r) (part N x r))

-- what is closed of C is as before, and of Y and X no more than N
abbrev pub SoundAfter : ℕ → State → State → Type 0
SoundAfter N z z' = (lc : ℕ) → Sound lc N N z → Sound lc N N z'
