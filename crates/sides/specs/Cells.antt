-- The numbers of one right side, and what one record makes of them. Definitions only.
use Rattle.std.specs.Prelude.{ℕ, zero, suc, ◌+◌, ◌*◌, ◌≤◌, ◌<◌, ◌≡◌, Bool, false, cond, ◌||◌, List, eqb, get_or, set, Float}
use Rattle.model.specs.Arith.{plus_zero, clean, Answer, number, overflow, zero_divisor, quotient, vanishes}
use Rattle.model.specs.Formula.{less}
use Rattle.model.specs.Boundary.{refusal_number}
use Rattle.model.specs.Many.{part}
use Rattle.sides.specs.declared.each.At.{At}

-- A right side's running number and its four numbers: 0 while it goes on, or its refusal; the table and number of the target that was open then; and while
-- it goes on how many of its own products vanished, of those that are not in C.
pub record Cell : Type 0 where
  pub running : Float
  pub answer : ℕ
  pub table : ℕ
  pub target : ℕ
  pub gone : ℕ

-- those of right side r, from 0: of the numbers the first is the call's, then come four for each side
abbrev pub cell_of : List Float → List ℕ → ℕ → Cell
cell_of running out r = record {
  running = get_or running r plus_zero;
  answer = get_or out (4 * r + 1) 0;
  table = get_or out (4 * r + 2) 0;
  target = get_or out (4 * r + 3) 0;
  gone = get_or out (4 * r + 4) 0;
}

-- "its first refusal": a side that was refused stays so
abbrev pub if_going : (Cell → Cell) → Cell → Cell
if_going f cell = cond (eqb cell.answer 0) (f cell) cell

-- refused by a number, at a record
abbrev pub ended_by : At → ℕ → Cell → Cell
ended_by at n cell = record { running = cell.running; answer = refusal_number n at.record; table = at.table; target = at.target; gone = 0 }

-- gone says whether a product vanished
abbrev pub gone_on : Bool → Float → Cell → Cell
gone_on gone v cell = record {
  running = v;
  answer = cell.answer;
  table = cell.table;
  target = cell.target;
  gone = cond gone (cell.gone + 1) cell.gone;
}

-- an operation's answer
abbrev pub answered : At → Answer → Bool → Cell → Cell
answered at (number v) gone cell = gone_on gone v cell
answered at overflow gone cell = ended_by at 16 cell
answered at zero_divisor gone cell = ended_by at 17 cell

abbrev pub subtracted : At → Float → Float → Cell → Cell
subtracted at a b cell = answered at (less cell.running a b) (vanishes a b) cell

abbrev pub divided : At → Float → Cell → Cell
divided at b cell = answered at (quotient cell.running b) false cell

-- ---- one side's numbers changed, or those of the first sides

-- those of right side r changed by f, all others as before
pub record One (r : ℕ) (f : Cell → Cell) (running : List Float) (out : List ℕ) (running' : List Float) (out' : List ℕ) : Type 0 where
  pub changed : cell_of running' out' r ≡ f (cell_of running out r)
  pub others : (j : ℕ) → (j ≡ r → ⊥) → get_or running' j plus_zero ≡ get_or running j plus_zero
  pub below : (j : ℕ) → j ≤ 4 * r → get_or out' j 0 ≡ get_or out j 0
  pub above : (j : ℕ) → 4 * r + 4 < j → get_or out' j 0 ≡ get_or out j 0

-- those of the right sides below count changed by f, all others as before
pub record Each (count : ℕ) (f : ℕ → Cell → Cell) (running : List Float) (out : List ℕ) (running' : List Float) (out' : List ℕ) : Type 0 where
  pub changed : (r : ℕ) → r < count → cell_of running' out' r ≡ f r (cell_of running out r)
  pub others : (r : ℕ) → count ≤ r → get_or running' r plus_zero ≡ get_or running r plus_zero
  pub first : get_or out' 0 0 ≡ get_or out 0 0
  pub past : (j : ℕ) → 4 * count < j → get_or out' j 0 ≡ get_or out j 0

-- the running numbers of the right sides below count are these
abbrev pub Started : ℕ → (ℕ → Float) → List Float → Type 0
Started count value running = (r : ℕ) → r < count → get_or running r plus_zero ≡ value r

-- a value as it is read from B, or as it stands
abbrev pub read_as : Bool → Float → Float
read_as given v = cond given (clean v) v

-- in each right side's part of a table the entry at `at` is its running number
abbrev pub Closed : ℕ → ℕ → ℕ → List Float → List Float → List Float → Type 0
Closed count N at running values values' = (r : ℕ) → r < count → part N values' r ≡ set (part N values r) at (get_or running r plus_zero)

-- one of the right sides below count goes on
unfoldable pub any_going : ℕ → List ℕ → Bool
any_going zero out = false
any_going (suc r) out = any_going r out || eqb (get_or out (4 * r + 1) 0) 0

-- there is room for count right sides
pub record Room (count lr lo : ℕ) : Type 0 where
  pub few : count ≤ 64
  pub in_running : lr ≡ 64
  pub in_out : lo ≡ 257

-- a table of count parts of N entries, which are read or closed at `at`
pub record Laid (count N at lv : ℕ) : Type 0 where
  pub order : N ≤ 600
  pub within : at < N
  pub length : lv ≡ count * N

-- no more products of a side vanished than so many
abbrev pub FewGone : ℕ → ℕ → List ℕ → Type 0
FewGone count most out = (r : ℕ) → r < count → get_or out (4 * r + 4) 0 ≤ most
