-- A run of a program, and what it leaves in the lent tables: document 01, "Running", 14 to 17; document 02, A.1, A.5 and A.7. Definitions only.
use Rattle.std.specs.Prelude.{ℕ, suc, ◌+◌, Bool, true, false, cond, ◌&&◌, List, [], ◌∷◌, map, eqb, length, replicate, Float}
use Rattle.model.specs.Arith.{plus_zero, clean, Answer, number, overflow, zero_divisor, quotient, is_finite, vanishes, is_small, is_limit}
use Rattle.model.specs.Formula.{Table, C, Y, X, number_of, Tables, entry, closed, starting, less}
use Rattle.model.specs.Crout.{nothing}
use Rattle.model.specs.Sweep.{Once, swept, ends, settled, unsettled, ended, sweeping, moved, most_sweeps, loaded}
use Rattle.model.specs.Check.{Link, Kind, opens, subtracts, divides, closes, closes_pivot, none, kind_of, is_sweep, length_y}
use Rattle.model.specs.Check.{check, chain, Verdict, fine, refusal, word}

-- "The runner's state is the open target, its running number and the counts of closed entries": here the closed entries themselves, and
-- beside them the products and quotients made, and the products that vanished.
pub record State : Type 0 where
  pub tables : Tables
  pub table : Table
  pub target : ℕ
  pub running : Float
  pub products : ℕ
  pub quotients : ℕ
  pub vanished : ℕ

-- how a run ends
pub data Outcome : Type 0 where
  -- the closed tables, the products and the quotients made, the products that vanished, and the sweeps, 0 for Crout
  solution : Tables → ℕ → ℕ → ℕ → ℕ → Outcome
  -- 16 or 17, the record, and the table and number of the open target
  stopped : ℕ → ℕ → Table → ℕ → Outcome
  -- 7 to 15 or 21, and the detail
  refused_by : ℕ → ℕ → Outcome
  -- 27, "with the last X left standing"
  unsettled_at : Tables → Outcome

-- the state after a record, or the refusal there, 16 or 17
pub data Stepped : Type 0 where
  going : State → Stepped
  stop : ℕ → Stepped

-- the states after the kinds' steps: a target is opened, a product subtracted, a quotient formed, the target closed
abbrev pub opened : State → Table → ℕ → Float → State
opened z t k v = record { tables = z.tables; table = t; target = k; running = v; products = z.products; quotients = z.quotients; vanished = z.vanished }

-- "The runner adds these up": gone says whether the product vanished
abbrev pub subtracted : State → Bool → Float → State
subtracted z gone v = record {
  tables = z.tables;
  table = z.table;
  target = z.target;
  running = v;
  products = suc z.products;
  quotients = z.quotients;
  vanished = z.vanished + cond gone 1 0;
}

abbrev pub divided_by : State → Float → State
divided_by z v = record {
  tables = z.tables;
  table = z.table;
  target = z.target;
  running = v;
  products = z.products;
  quotients = suc z.quotients;
  vanished = z.vanished;
}

abbrev pub closing : State → State
closing z = record {
  tables = closed z.tables z.table z.target z.running;
  table = z.table;
  target = z.target;
  running = z.running;
  products = z.products;
  quotients = z.quotients;
  vanished = z.vanished;
}

-- an operation's answer as a step
abbrev pub settled_step : Answer → (Float → State) → Stepped
settled_step (number v) f = going (f v)
settled_step overflow f = stop 16
settled_step zero_divisor f = stop 17

-- One record: kind, p and q. At kind 9 "a pivot l with -t ≤ l ≤ t is refused by 17", t being the limit; "a divisor at kind 7 is still refused only if
-- zero" (A.1). A product tells whether it vanishes (A.5).
unfoldable pub step : List Float → List Float → Float → State → Kind → ℕ → ℕ → Stepped
step A B limit z (opens C) p q = going (opened z C q (starting A B z.tables C p))
step A B limit z (opens Y) p q = going (opened z Y p (starting A B z.tables Y p))
step A B limit z (opens X) p q = going (opened z X p (starting A B z.tables X p))
step A B limit z (subtracts t) p q =
    let a = entry z.tables C p in
    let b = entry z.tables t q in
    settled_step (less z.running a b) (subtracted z (vanishes a b))
step A B limit z divides p q = settled_step (quotient z.running (entry z.tables C p)) (divided_by z)
step A B limit z closes p q = going (closing z)
step A B limit z closes_pivot p q = cond (is_small limit z.running) (stop 17) (going (closing z))
step A B limit z none p q = going z

-- where the records of a chain lead: past the last, or to the first refusal, 16 or 17, with its record, and the table and number of the open target
pub data Followed : Type 0 where
  through : State → Followed
  halted : ℕ → ℕ → Table → ℕ → Followed

unfoldable pub follow : List Float → List Float → Float → State → List Link → Followed
follow A B limit z [] = through z
follow A B limit z (l ∷ ls) = elim (step A B limit z (kind_of l.at.kind) l.at.p l.at.q) [
  | going z' ↦ follow A B limit z' ls
  | stop r ↦ halted r l.index z.table z.target
]

-- nothing opened, nothing made
abbrev pub started_on : Tables → State
started_on t = record { tables = t; table = C; target = 0; running = plus_zero; products = 0; quotients = 0; vanished = 0 }

-- nothing closed
abbrev pub fresh : ℕ → State
fresh N = started_on (nothing N)

-- a Crout program: along its chain once
unfoldable pub followed : Followed → Outcome
followed (through z) = solution z.tables z.products z.quotients z.vanished 0
followed (halted r index t k) = stopped r index t k

-- A program with s = 0: along its chain again and again, on tables where A stands in C's place and B in Y's, as they are read (A.7). C and Y have no
-- entry at the end.
abbrev pub once_more : Followed → Once State Outcome
once_more (through z) = swept z
once_more (halted r index t k) = ends (stopped r index t k)

abbrev pub only_x : Tables → Tables
only_x t = record { order = t.order; c = []; y = []; x = t.x }

unfoldable pub swept_over : List Float → List Float → Float → ℕ → List Link → Outcome
swept_over A B limit N ls =
    let once : State → Once State Outcome = λ z. once_more (follow A B limit z ls) in
    elim (sweeping once (λ z w. moved limit N z.tables.x w.tables.x) most_sweeps 0 (started_on (loaded N (map clean A) B))) [
      | settled z k ↦ solution (only_x z.tables) z.products z.quotients z.vanished k
      | unsettled z ↦ unsettled_at (only_x z.tables)
      | ended e ↦ e
    ]

-- the position, from 1, of the first value that is not finite; 0 if all are
unfoldable pub not_finite : ℕ → List Float → ℕ
not_finite k [] = 0
not_finite k (v ∷ vs) = let r = not_finite (suc k) vs in cond (is_finite v) r k

-- 15, A then B, and 21, "checked after 15"
unfoldable pub check_values : List Float → List Float → Float → Verdict
check_values A B limit =
    let a = not_finite 1 A in
    let b = not_finite 1 B in
    elim (eqb a 0) [
      | false ↦ refusal 15 a
      | true ↦ elim (eqb b 0) [ false ↦ refusal 15 b | true ↦ elim (is_limit limit) [ false ↦ refusal 21 0 | true ↦ fine ] ]
    ]

-- 7 to 13, 14, 15, 21, then the records. lc, ly and lx are the lengths of the lent C, Y and X. "A run with s = 0 takes the tolerance in the place of A.1's
-- threshold."
unfoldable pub ran : List ℕ → List Float → List Float → Float → ℕ → ℕ → ℕ → Outcome
ran W A B limit lc ly lx =
    let N = word W 0 in
    let s = word W 2 in
    let ls = (chain W).links in
    let done : Outcome = elim (is_sweep s) [ true ↦ swept_over A B limit N ls | false ↦ followed (follow A B limit (fresh N) ls) ] in
    elim (check W) [
      | refusal r d ↦ refused_by r d
      | fine ↦ elim (eqb (length A) (word W 1) && (eqb (length B) N && (eqb lc s && (eqb ly (length_y N s) && eqb lx N)))) [
        | false ↦ refused_by 14 0
        | true ↦ elim (check_values A B limit) [ refusal r d ↦ refused_by r d | fine ↦ done ]
      ]
    ]

-- what the caller is told; the closed values stand in the lent tables
pub data Reply : Type 0 where
  -- the products and the quotients made, the products that vanished, and the sweeps
  solves : ℕ → ℕ → ℕ → ℕ → Reply
  -- 16 or 17, the record, and the table's number and the number of the target
  stops : ℕ → ℕ → ℕ → ℕ → Reply
  -- 7 to 15, 21 or 27, and the detail
  refuses : ℕ → ℕ → Reply

unfoldable pub reply : Outcome → Reply
reply (solution t products quotients vanished sweeps) = solves products quotients vanished sweeps
reply (stopped r index t k) = stops r index (number_of t) k
reply (refused_by r d) = refuses r d
reply (unsettled_at t) = refuses 27 0

-- the entries of a table
abbrev pub entries_of : Tables → Table → List Float
entries_of t C = t.c
entries_of t Y = t.y
entries_of t X = t.x

-- What a run that ends so leaves in the lent table t, which held vs: that after 7 to 15 and 21, +0 everywhere after 16 and 17, the closed values on a solution,
-- the last X after 27.
unfoldable pub leaves : Outcome → Table → List Float → List Float
leaves (solution t p q g k) u vs = entries_of t u
leaves (unsettled_at t) u vs = entries_of t u
leaves (stopped r k u n) t vs = replicate (length vs) plus_zero
leaves (refused_by r d) t vs = vs
