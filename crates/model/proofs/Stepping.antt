-- A step of a Crout run keeps to the check: what is closed in the run's state is what the check counts, and a target that is open has room.
use Prim.Native.Nat.{ℕ, suc, ◌+◌, ◌-◌, ◌≤◌, ◌<◌}
use native.Mathlib.Omega.{arith}
use mathlib.Core.Path.{◌≡◌, refl, sym, ap, subst, ◌∙◌}
use mathlib.Core.Bool.{Bool, true, false, cond, ◌&&◌, false≢true}
use mathlib.Core.List.{List}
use lib.Dec.{leb, ltb, eqb}
use lib.ListN.{length, length-append}
use lib.Ieee.{Float}
use borrow.Author.Tests.{ltb-true, le-ltb, leb-true, eqb-true}
use Rattle.model.specs.Label.{within}
use Rattle.model.specs.Arith.{Answer, number, overflow, zero_divisor, quotient, vanishes, is_small}
use Rattle.model.specs.Formula.{Table, C, Y, X, Tables, entry, put_x, closed, less}
use Rattle.model.specs.Check.{Open, idle, busy, Progress, Kind, opens, subtracts, divides, closes, closes_pivot, none}
use Rattle.model.specs.Check.{in_order, in_turn, counted, onward}
use Rattle.model.specs.Run.{State, Stepped, going, stop, closing, subtracted, divided_by, settled_step, step}
use Rattle.model.proofs.Sums.{at_most_one}
use Rattle.model.proofs.Within.{within-range}
use Rattle.model.proofs.Put.{put-length}
use Rattle.model.proofs.Passing.{both}

-- what is closed in a state, where o is open
abbrev pub progress_in : Open → State → Progress
progress_in o z = record { target = o; c = length z.tables.c; y = length z.tables.y; x = length z.tables.x }

-- entry k of a table may be closed: of C one of the s slots, at most one above the highest closed; of Y and X the next
abbrev pub RoomFor : ℕ → ℕ → Tables → Table → ℕ → Type 0
RoomFor N s t C k = (1 ≤ k) × (k ≤ s) × (k ≤ suc (length t.c))
RoomFor N s t Y k = length t.y < N
RoomFor N s t X k = (1 ≤ k) × (k + length t.x ≡ N)

-- what is open is the state's target, and has room
abbrev pub OpenRoom : ℕ → ℕ → Open → State → Type 0
OpenRoom N s idle z = Unit {0}
OpenRoom N s (busy t k) z = (z.table ≡ t) × (z.target ≡ k) × RoomFor N s z.tables t k

-- what the check has counted is what is closed, and what is open has room
pub record Counted (N s : ℕ) (g : Progress) (z : State) : Type 0 where
  pub order : z.tables.order ≡ N
  pub same : progress_in g.target z ≡ g
  pub room : OpenRoom N s g.target z

-- a record makes at most one operation, and no more products vanish than are made
pub record Made (z z' : State) : Type 0 where
  pub made : z'.products + z'.quotients ≤ suc (z.products + z.quotients)
  pub gone : z.vanished ≤ z.products → z'.vanished ≤ z'.products

-- the states that those operations leave
pub made_none : (z : State) → Made z z
made_none z = record { made = omega arith; gone = λ h. h }

pub made-product : (z : State) (gone : Bool) (v : Float) → Made z (subtracted z gone v)
made-product z gone v = record { made = omega arith; gone = λ h. omega (arith, at_most_one gone) }

pub made-quotient : (z : State) (v : Float) → Made z (divided_by z v)
made-quotient z v = record { made = omega arith; gone = λ h. h }

-- the state after a record, where P says what holds of it; or no state
abbrev pub AfterStep : State → (State → Type 0) → Stepped → Type 0
AfterStep z P (going z') = P z' × Made z z'
AfterStep z P (stop r) = Unit {0}

pub answered-after : (z : State) (P : State → Type 0) (a : Answer) (f : Float → State) → ((v : Float) → P (f v) × Made z (f v))
    → AfterStep z P (settled_step a f)
answered-after z P (number v) f after = after v
answered-after z P overflow f after = tt
answered-after z P zero_divisor f after = tt

-- X takes its next entry
next-x : (order N k : ℕ) (xs : List Float) (v : Float) → order ≡ N → k + length xs ≡ N → length (put_x (order - length xs) xs k v) ≡ suc (length xs)
unfolding put_x
next-x order N k xs v is next = rw (le-ltb (order - length xs) k (omega arith))

module _ (N s : ℕ) (z : State) (order : z.tables.order ≡ N) where
  closed_after : (u : Table) (k : ℕ) → OpenRoom N s (busy u k) z → progress_in idle (closing z) ≡ counted (busy u k) (progress_in (busy u k) z)
  unfolding closed
  closed_after C k room =
      rw (room.0, room.1, closed)
      (ap (λ m. record { target = idle; c = m; y = length z.tables.y; x = length z.tables.x })
      (put-length z.tables.c (k - 1) z.running (omega (arith, room)) ∙ omega (arith, room)))
  closed_after Y k room =
      rw (room.0, closed, length-append)
      (ap (λ m. record { target = idle; c = length z.tables.c; y = m; x = length z.tables.x }) (omega arith))
  closed_after X k room =
      rw (room.0, room.1, closed)
      (ap (λ m. record { target = idle; c = length z.tables.c; y = length z.tables.y; x = m })
      (next-x z.tables.order N k z.tables.x z.running order room.2.1))

  closed-order : (t : Table) → (closed z.tables t z.target z.running).order ≡ z.tables.order
  unfolding closed
  closed-order C = refl
  closed-order Y = refl
  closed-order X = refl

  -- the open target is closed
  closes-after : (u : Table) (k : ℕ) → OpenRoom N s (busy u k) z → Counted N s (counted (busy u k) (progress_in (busy u k) z)) (closing z) × Made z (closing z)
  closes-after u k room = (by u (closed_after u k room), record { made = omega arith; gone = λ h. h })
    where
      by : (u : Table) → progress_in idle (closing z) ≡ counted (busy u k) (progress_in (busy u k) z)
          → Counted N s (counted (busy u k) (progress_in (busy u k) z)) (closing z)
      by C e = record { order = closed-order z.table ∙ order; same = e; room = tt }
      by Y e = record { order = closed-order z.table ∙ order; same = e; room = tt }
      by X e = record { order = closed-order z.table ∙ order; same = e; room = tt }

  tested-after : (k : ℕ) (small? : Bool) → OpenRoom N s (busy C k) z
      → AfterStep z (Counted N s (counted (busy C k) (progress_in (busy C k) z))) (cond small? (stop 17) (going (closing z)))
  tested-after k true room = tt
  tested-after k false room = closes-after C k room

module _ (A B : List Float) (limit : Float) (N n s : ℕ) (z : State) (p q : ℕ) where
  -- kind by kind
  kind-after : (o : Open) (k : Kind) → z.tables.order ≡ N → in_order k o ≡ true → in_turn N n s k p q (progress_in o z) ≡ true → OpenRoom N s o z
      → AfterStep z (Counted N s (onward k p q (progress_in o z))) (step A B limit z k p q)
  unfolding in_order in_turn step
  kind-after idle (opens C) order eleven twelve room =
      let t = both (leb p n) (within q s && leb q (suc (length z.tables.c))) twelve in
      let u = both (within q s) (leb q (suc (length z.tables.c))) t.1 in
      let r = within-range q s u.0 in
      let free : RoomFor N s z.tables C q = (r.0, r.1, leb-true q (suc (length z.tables.c)) u.1) in
      (record { order = order; same = refl; room = (refl, refl, free) }, record { made = omega arith; gone = λ h. h })
  kind-after idle (opens Y) order eleven twelve room =
      let t = both (eqb p (suc (length z.tables.y))) (leb p N) twelve in
      let free : length z.tables.y < N = omega (arith, eqb-true p (suc (length z.tables.y)) t.0, leb-true p N t.1) in
      (record { order = order; same = refl; room = (refl, refl, free) }, record { made = omega arith; gone = λ h. h })
  kind-after idle (opens X) order eleven twelve room =
      let t = both (ltb 0 p && eqb (p + length z.tables.x) N) (leb p (length z.tables.y)) twelve in
      let u = both (ltb 0 p) (eqb (p + length z.tables.x) N) t.0 in
      let free : RoomFor N s z.tables X p = (ltb-true 0 p u.0, eqb-true (p + length z.tables.x) N u.1) in
      (record { order = order; same = refl; room = (refl, refl, free) }, record { made = omega arith; gone = λ h. h })
  kind-after (busy u k) (subtracts t) order eleven twelve room =
      let a = entry z.tables C p in
      let b = entry z.tables t q in
      answered-after z _ (less z.running a b) (subtracted z (vanishes a b))
      (λ v. (record { order = order; same = refl; room = room }, made-product z (vanishes a b) v))
  kind-after (busy u k) divides order eleven twelve room =
      answered-after z _ (quotient z.running (entry z.tables C p)) (divided_by z)
      (λ v. (record { order = order; same = refl; room = room }, made-quotient z v))
  kind-after (busy u k) closes order eleven twelve room = closes-after N s z order u k room
  kind-after (busy C k) closes_pivot order eleven twelve room = tested-after N s z order k (is_small limit z.running) room
  kind-after o none order eleven twelve room = (record { order = order; same = refl; room = room }, made_none z)
  kind-after (busy u k) (opens t) order eleven twelve room = absurd (false≢true eleven)
  kind-after idle (subtracts t) order eleven twelve room = absurd (false≢true eleven)
  kind-after idle divides order eleven twelve room = absurd (false≢true eleven)
  kind-after idle closes order eleven twelve room = absurd (false≢true eleven)
  kind-after idle closes_pivot order eleven twelve room = absurd (false≢true eleven)
  kind-after (busy Y k) closes_pivot order eleven twelve room = absurd (false≢true eleven)
  kind-after (busy X k) closes_pivot order eleven twelve room = absurd (false≢true eleven)

  -- a record that passes 11 and 12 leads to a state that the check has counted
  pub crout_after : (g : Progress) (k : Kind) → in_order k g.target ≡ true → in_turn N n s k p q g ≡ true → Counted N s g z
      → AfterStep z (Counted N s (onward k p q g)) (step A B limit z k p q)
  crout_after g k eleven twelve counts =
      subst (λ h. AfterStep z (Counted N s (onward k p q h)) (step A B limit z k p q)) counts.same
      (kind-after g.target k counts.order eleven (subst (λ h. in_turn N n s k p q h ≡ true) (sym counts.same) twelve) counts.room)
