-- The state of a run with the lent tables as the model's state, and what a step may rely on. Definitions only.
use Rattle.std.specs.Prelude.{ℕ, suc, ◌+◌, ◌-◌, ◌≤◌, ◌<◌, ◌≡◌, Bool, true, false, cond, ◌||◌, List, eqb, length, take, drop, get_or, Float, Result, Ok, Err}
use Rattle.model.specs.Label.{within}
use Rattle.model.specs.Arith.{plus_zero, Answer, number, overflow, zero_divisor}
use Rattle.model.specs.Formula.{Table, C, Y, X, number_of}
use Rattle.model.specs.Sweep.{moves_more}
use Rattle.model.specs.Check.{Kind, opens, subtracts, divides, closes, closes_pivot, none, kind_of, belongs}
use Rattle.model.specs.Run as Run
use Rattle.state.specs.declared.State.{State}
use Rattle.state.specs.declared.Fault.{Fault}
use Rattle.state.specs.declared.Fault.TheVariants.{Overflow, ZeroDivisor}

-- the table of a number, 1, 2 or 3
abbrev pub table_of : ℕ → Table
table_of n = cond (eqb n 1) C (cond (eqb n 2) Y X)

-- a state, with what stands in C, Y and X: the first entries of C and Y are closed, and the last ones of X
abbrev pub state_of : State → List Float → List Float → List Float → Run.State
state_of z c y x = record {
  tables = record { order = length x; c = take z.c c; y = take z.y y; x = drop (length x - z.x) x };
  table = table_of z.table;
  target = z.target;
  running = z.running;
  products = z.products;
  quotients = z.quotients;
  vanished = z.vanished;
}

-- the number of a fault, as the documents have it
abbrev pub number_of_fault : Fault → ℕ
number_of_fault Overflow = 16
number_of_fault ZeroDivisor = 17

abbrev pub stepped_of : Result State Fault → List Float → List Float → List Float → Run.Stepped
stepped_of (Ok z) c y x = Run.going (state_of z c y x)
stepped_of (Err f) c y x = Run.stop (number_of_fault f)

-- the state before the first record
abbrev pub unopened : State
unopened = record {
  running = plus_zero;
  table = 1;
  target = 0;
  c = 0;
  y = 0;
  x = 0;
  products = 0;
  quotients = 0;
  vanished = 0;
  moved = false;
}

-- the state before the first sweep: A, B and X stand there whole
abbrev pub whole : ℕ → ℕ → State
whole n N = record {
  running = plus_zero;
  table = 1;
  target = 0;
  c = n;
  y = N;
  x = N;
  products = 0;
  quotients = 0;
  vanished = 0;
  moved = false;
}

-- 300 sweeps of 100,000,000 records make no more products and quotients
abbrev pub most_made : ℕ
most_made = 30000000000

-- the states after an open, a subtract and a divide
abbrev pub opened : State → ℕ → ℕ → Float → State
opened z t k v = record {
  running = v;
  table = t;
  target = k;
  c = z.c;
  y = z.y;
  x = z.x;
  products = z.products;
  quotients = z.quotients;
  vanished = z.vanished;
  moved = z.moved;
}

-- gone says whether the product vanished
abbrev pub subtracted : State → Bool → Float → State
subtracted z gone v = record {
  running = v;
  table = z.table;
  target = z.target;
  c = z.c;
  y = z.y;
  x = z.x;
  products = z.products + 1;
  quotients = z.quotients;
  vanished = cond gone (z.vanished + 1) z.vanished;
  moved = z.moved;
}

abbrev pub divided_by : State → Float → State
divided_by z v = record {
  running = v;
  table = z.table;
  target = z.target;
  c = z.c;
  y = z.y;
  x = z.x;
  products = z.products;
  quotients = z.quotients + 1;
  vanished = z.vanished;
  moved = z.moved;
}

-- the state after a row that moves, or does not, and that of a new sweep
abbrev pub moved_so : State → Bool → State
moved_so z moves = record {
  running = z.running;
  table = z.table;
  target = z.target;
  c = z.c;
  y = z.y;
  x = z.x;
  products = z.products;
  quotients = z.quotients;
  vanished = z.vanished;
  moved = moves;
}

abbrev pub settled : State → Bool → State
settled z moves = moved_so z (z.moved || moves)

abbrev pub unmoved : State → State
unmoved z = moved_so z false

-- an operation's answer as a step
abbrev pub answered : Answer → (Float → State) → Result State Fault
answered (number v) f = Ok (f v)
answered overflow f = Err Overflow
answered zero_divisor f = Err ZeroDivisor

-- the open target has one of the tables' numbers, and no more is closed than C, Y and X have entries
pub record Sound (lc ly lx : ℕ) (z : State) : Type 0 where
  pub named : number_of (table_of z.table) ≡ z.table
  pub in_c : z.c ≤ lc
  pub in_y : z.y ≤ ly
  pub in_x : z.x ≤ lx

abbrev pub SoundStep : ℕ → ℕ → ℕ → Result State Fault → Type 0
SoundStep lc ly lx (Ok z) = Sound lc ly lx z
SoundStep lc ly lx (Err f) = Unit {0}

-- the open target may be closed: of C one of the slots, at most one above the highest closed; of Y there is one that is not closed; of X it is the last
-- one that is not
abbrev pub FreeIn : ℕ → ℕ → ℕ → State → Table → Type 0
FreeIn lc ly lx z C = (0 < z.target) × (z.target ≤ lc) × (z.target ≤ suc z.c)
FreeIn lc ly lx z Y = z.y < ly
FreeIn lc ly lx z X = (0 < z.target) × (z.target + z.x ≡ lx)

abbrev pub Free : ℕ → ℕ → ℕ → State → Type 0
Free lc ly lx z = FreeIn lc ly lx z (table_of z.table)

-- k is one of 1..n
abbrev pub Of : ℕ → ℕ → Type 0
Of n k = (0 < k) × (k ≤ n)

-- 12 as a step relies on it, and room where it closes
abbrev pub Allowed : ℕ → ℕ → ℕ → ℕ → State → Kind → ℕ → ℕ → Type 0
Allowed la lc ly lx z (opens C) p q = p ≤ la
Allowed la lc ly lx z (opens Y) p q = Of ly p
Allowed la lc ly lx z (opens X) p q = Of z.y p
Allowed la lc ly lx z (subtracts C) p q = Of z.c p × Of z.c q
Allowed la lc ly lx z (subtracts Y) p q = Of z.c p × Of z.y q
Allowed la lc ly lx z (subtracts X) p q = Of z.c p × ((lx - z.x < q) × (q ≤ lx))
Allowed la lc ly lx z divides p q = Of z.c p
Allowed la lc ly lx z closes p q = Free lc ly lx z
Allowed la lc ly lx z closes_pivot p q = Free lc ly lx z
Allowed la lc ly lx z none p q = Unit {0}

-- what a step of Crout's relies on, with the lengths of A, B, C, Y and X
pub record Ready (la lb lc ly lx : ℕ) (z : State) (kind p q : ℕ) : Type 0 where
  pub own : within kind 9 ≡ true
  pub sound : Sound lc ly lx z
  pub few : z.products + z.quotients < most_made
  pub gone : z.vanished ≤ z.products
  pub rows : lb ≡ ly
  pub allowed : Allowed la lc ly lx z (kind_of kind) p q

-- ---- C alone (A.6)

-- the open target is in the table that the kind works on (11)
abbrev pub WorksOn : Kind → Table → Type 0
WorksOn (opens t) u = Unit {0}
WorksOn (subtracts t) u = u ≡ t
WorksOn divides u = Unit {0}
WorksOn closes u = Unit {0}
WorksOn closes_pivot u = u ≡ C
WorksOn none u = Unit {0}

-- the table that a record works in: the one whose entry it opens, or that of the open target
abbrev pub works_in : Kind → Table → Table
works_in (opens t) u = t
works_in (subtracts t) u = u
works_in divides u = u
works_in closes u = u
works_in closes_pivot u = u
works_in none u = u

-- what a step on C relies on, with the lengths of A and C, and no Y and X
pub record ReadyInC (la lc : ℕ) (z : State) (kind p q : ℕ) : Type 0 where
  pub ready : Ready la 0 lc 0 0 z kind p q
  pub in_c : works_in (kind_of kind) (table_of z.table) ≡ C
  pub works_on : WorksOn (kind_of kind) (table_of z.table)

-- ---- a sweep (A.7)

-- what a step of a sweep relies on by its kind, with the lengths of A, B and X
abbrev pub AllowedInRow : ℕ → ℕ → ℕ → State → Kind → ℕ → ℕ → Type 0
AllowedInRow la lb lx z (opens t) p q = (t ≡ X) × Of lb p
AllowedInRow la lb lx z (subtracts t) p q = (t ≡ X) × Of la p × Of lx q
AllowedInRow la lb lx z divides p q = Of la p
AllowedInRow la lb lx z closes p q = (table_of z.table ≡ X) × Of lx z.target
AllowedInRow la lb lx z closes_pivot p q = ⊥
AllowedInRow la lb lx z none p q = ⊥

pub record SweepReady (la lb lx : ℕ) (z : State) (kind p q : ℕ) : Type 0 where
  pub named : number_of (table_of z.table) ≡ z.table
  pub in_c : z.c ≡ la
  pub in_y : z.y ≡ lb
  pub in_x : z.x ≡ lx
  pub few : z.products + z.quotients < most_made
  pub gone : z.vanished ≤ z.products
  pub own : belongs 0 kind ≡ true
  pub allowed : AllowedInRow la lb lx z (kind_of kind) p q

-- whether a row moved by more than the limit, after a record of kind k
abbrev pub moves_by : Float → State → Kind → List Float → Bool
moves_by limit z (opens t) x = false
moves_by limit z (subtracts t) x = false
moves_by limit z divides x = false
moves_by limit z closes x = moves_more limit (get_or x (z.target - 1) plus_zero) z.running
moves_by limit z closes_pivot x = false
moves_by limit z none x = false

abbrev pub MovesStep : Float → State → Kind → List Float → Result State Fault → Type 0
MovesStep limit z k x (Ok z') = z'.moved ≡ (z.moved || moves_by limit z k x)
MovesStep limit z k x (Err f) = Unit {0}
