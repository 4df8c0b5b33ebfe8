-- Release 1's programs today: every row of words that `specs/Release1`, here R, accepts passes today's checks, and its run with limit +0 ends as
-- release 1's did, the products that vanished and the sweeps left out.
use Prim.Native.Nat.{ℕ, zero, suc, ◌+◌, ◌-◌, ◌*◌, ◌/◌, ◌%◌, ◌≤◌, max}
use native.Mathlib.Omega.{arith}
use mathlib.Core.Path.{◌≡◌, refl, sym, ap, ap₂, subst, ◌∙◌}
use mathlib.Core.Bool.{Bool, true, false, cond, ◌&&◌, true≢false}
use mathlib.Core.List.{List, [], ◌∷◌}
use borrow.Author.Tests.{ltb-true, le-ltb, le-leb, leb-true, eqb-true, ne_eqb}
use lib.Dec.{eqb, leb, ltb}
use lib.ListN.{length, length-append}
use lib.Ieee.{Float, nan, inf, fin, le, lt, eq}
use Rattle.model.specs.Release1 as R
use Rattle.model.specs.Label.{within}
use Rattle.model.specs.Arith.{plus_zero, Answer, number, overflow, zero_divisor, clean, settled, is_zero, is_finite, is_limit, next}
use Rattle.model.specs.Arith.{product, difference, quotient, vanishes}
use Rattle.model.specs.Formula.{Table, C, Y, X, number_of, Tables, entry, put_x, closed, starting, less}
use Rattle.model.specs.Program.{rec}
use Rattle.model.specs.Check.{word, next_of, Chain, whole, broken, before, chain_after, chain, Open, idle, busy, Progress, Verdict, fine, refusal}
use Rattle.model.specs.Check.{Kind, opens, subtracts, divides, closes, closes_pivot, none, kind_of, is_sweep, belongs}
use Rattle.model.specs.Check.{formed, in_order, in_turn, allowed, opens_at, counted, onward, is_idle, complete, check_links, check}
use Rattle.model.specs.Run.{State, Stepped, going, stop, subtracted, divided_by, closing, settled_step, step, Followed, through, halted, follow, followed}
use Rattle.model.specs.Run.{fresh, Outcome, solution, stopped, refused_by, unsettled_at, not_finite, check_values, ran}
use Rattle.model.specs.Run.{Reply, solves, stops, refuses, reply, leaves}
use Rattle.model.proofs.Within.{within-range, range-within}
use Rattle.model.proofs.Arith.{small_zero}
use Rattle.model.proofs.Put.{put-end}
use Rattle.model.proofs.Runs.{gated, gated_each, lengths_right, done_by, ran-fine}
use Rattle.model.proofs.Following.{ended, follows}
use Rattle.model.proofs.Passing.{both, passed-fine}

-- ---- release 1's values as today's, and today's endings as release 1's

abbrev pub table_now : R.Table → Table
table_now R.C = C
table_now R.Y = Y
table_now R.X = X

abbrev pub table_then : Table → R.Table
table_then C = R.C
table_then Y = R.Y
table_then X = R.X

then_now : (t : R.Table) → table_then (table_now t) ≡ t
then_now R.C = refl
then_now R.Y = refl
then_now R.X = refl

abbrev pub chain_now : R.Chain → Chain
chain_now (R.link index k p q rest) = before (record { index = index; at = rec k p q }) (chain_now rest)
chain_now R.whole = ended whole
chain_now (R.broken k) = ended (broken k)

abbrev pub kind_now : R.Kind → Kind
kind_now (R.opens t) = opens (table_now t)
kind_now (R.subtracts t) = subtracts (table_now t)
kind_now R.divides = divides
kind_now R.closes = closes
kind_now R.closes_pivot = closes_pivot
kind_now R.none = none

-- what is open has a number today: in release 1 it followed from the counts
abbrev pub next_in : ℕ → ℕ → ℕ → ℕ → R.Table → ℕ
next_in N c y x R.C = suc c
next_in N c y x R.Y = suc y
next_in N c y x R.X = N - x

abbrev pub open_now : ℕ → ℕ → ℕ → ℕ → R.Open → Open
open_now N c y x R.idle = idle
open_now N c y x (R.busy t) = busy (table_now t) (next_in N c y x t)

abbrev pub progress_now : ℕ → R.Progress → Progress
progress_now N g = record { target = open_now N g.c g.y g.x g.target; c = g.c; y = g.y; x = g.x }

abbrev pub begun_then : R.Progress
begun_then = record { target = R.idle; c = 0; y = 0; x = 0 }

abbrev verdict_now : R.Verdict → Verdict
verdict_now R.fine = fine
verdict_now (R.refusal r d) = refusal r d

abbrev tables_now : R.Tables → Tables
tables_now t = record { order = t.order; c = t.c; y = t.y; x = t.x }

abbrev pub tables_then : Tables → R.Tables
tables_then t = record { order = t.order; c = t.c; y = t.y; x = t.x }

-- with as many products vanished
abbrev state_now : ℕ → R.State → State
state_now vanished z = record {
  tables = tables_now z.tables;
  table = table_now z.table;
  target = z.target;
  running = z.running;
  products = z.products;
  quotients = z.quotients;
  vanished = vanished;
}

abbrev answer_now : R.Answer Float → Answer
answer_now (R.gives v) = number v
answer_now R.overflow = overflow
answer_now R.zero_divisor = zero_divisor

abbrev stepped_now : ℕ → R.Answer R.State → Stepped
stepped_now vanished (R.gives z) = going (state_now vanished z)
stepped_now vanished R.overflow = stop 16
stepped_now vanished R.zero_divisor = stop 17

-- an ending without the products that vanished and the sweeps; 27 is none of release 1's
abbrev pub outcome_then : Outcome → R.Outcome
outcome_then (solution t products quotients vanished sweeps) = R.solution (tables_then t) products quotients
outcome_then (stopped r index t k) = R.stopped r index (table_then t) k
outcome_then (refused_by r d) = R.refused r d
outcome_then (unsettled_at t) = R.refused 27 0

abbrev pub reply_then : Reply → R.Reply
reply_then (solves products quotients vanished sweeps) = R.solves products quotients
reply_then (stops r index t k) = R.stops r index t k
reply_then (refuses r d) = R.refuses r d

-- a function goes into both branches
cond_map : {S T : Type 0} (f : S → T) (b : Bool) (x y : S) → f (cond b x y) ≡ cond b (f x) (f y)
cond_map f true x y = refl
cond_map f false x y = refl

-- ---- one float operation

zero_frozen : (v : Float) → R.is_zero v ≡ is_zero v
unfolding R.is_zero is_zero
zero_frozen nan = refl
zero_frozen (inf s) = refl
zero_frozen (fin s zero e) = refl
zero_frozen (fin s (suc m) e) = refl

finite_frozen : (v : Float) → R.is_finite v ≡ is_finite v
unfolding R.is_finite is_finite
finite_frozen nan = refl
finite_frozen (inf s) = refl
finite_frozen (fin s m e) = refl

clean_frozen : (v : Float) → R.clean v ≡ clean v
unfolding R.clean R.is_zero clean
clean_frozen nan = refl
clean_frozen (inf s) = refl
clean_frozen (fin s zero e) = refl
clean_frozen (fin s (suc m) e) = refl

settled_frozen : (v : Float) → answer_now (R.settled v) ≡ settled v
unfolding R.settled R.is_finite R.clean R.is_zero settled
settled_frozen nan = refl
settled_frozen (inf s) = refl
settled_frozen (fin s zero e) = refl
settled_frozen (fin s (suc m) e) = refl

next_frozen : (a : R.Answer Float) (f : Float → R.Answer Float) → answer_now (R.next a f) ≡ next (answer_now a) (λ v. answer_now (f v))
unfolding R.next next
next_frozen (R.gives v) f = refl
next_frozen R.overflow f = refl
next_frozen R.zero_divisor f = refl

less_frozen : (acc a b : Float) → answer_now (R.less acc a b) ≡ less acc a b
unfolding R.less less product difference
less_frozen acc a b = simp (next_frozen, settled_frozen)

over_frozen : (acc a : Float) → answer_now (R.over acc a) ≡ quotient acc a
unfolding R.over quotient
over_frozen acc a = cond_map answer_now (R.is_zero a) _ _ ∙ rw (zero_frozen, settled_frozen)

-- ---- the chain

chain-after : (d : ℕ) (W : List ℕ) (k : ℕ) → chain_now (R.chain_after d W k) ≡ chain_after d W k
unfolding R.chain_after chain_after
chain-after zero W k = go (eqb (next_of W k) 0)
  where
    go : (none : Bool) → chain_now (cond none R.whole (R.broken k)) ≡ ended (cond none whole (broken k))
    go true = refl
    go false = refl
chain-after (suc d) W k = go (eqb (next_of W k) 0) refl (follows W k (next_of W k)) refl (chain-after d W (next_of W k))
  where
    go : (none : Bool) → eqb (next_of W k) 0 ≡ none → (leads : Bool) → follows W k (next_of W k) ≡ leads
        → chain_now (R.chain_after d W (next_of W k)) ≡ chain_after d W (next_of W k) → chain_now (R.chain_after (suc d) W k) ≡ chain_after (suc d) W k
    go true e leads f rest = rw (R.chain_after, chain_after, e)
    go false e true f rest = rw (R.chain_after, chain_after, e, f, chain_now, rest)
    go false e false f rest = rw (R.chain_after, chain_after, e, f)

pub chain_frozen : (W : List ℕ) → chain_now (R.chain W) ≡ chain W
unfolding R.chain chain
chain_frozen W = chain-after _ W 0

-- ---- the checks: what passes release 1's passes today's

-- a check that finds nothing
pub required-passed : (test : Bool) (r d : ℕ) (v : R.Verdict) → R.required test r d v ≡ R.fine → (test ≡ true) × (v ≡ R.fine)
unfolding R.required
required-passed true r d v e = (refl, e)
required-passed false r d v e = let z : ◌≡◌ {A = ℕ} 0 1 = cc in absurd (omega arith)

-- the kinds 1 to 9 mean what they meant
pub kind-now : (k : ℕ) → within k 9 ≡ true → kind_of k ≡ kind_now (R.kind_of k)
unfolding R.kind_of kind_of
kind-now k nine =
    let most = (within-range k 9 nine).1 in
    rw (kind_of, ne_eqb k 10 (λ e. omega arith), ne_eqb k 11 (λ e. omega arith), ne_eqb k 12 (λ e. omega arith)) (simp (cond_map kind_now))

-- and release 1 has no others
pub nine_kinds : (k p q : ℕ) → R.formed (R.kind_of k) p q ≡ true → within k 9 ≡ true
unfolding R.formed R.kind_of
nine_kinds k p q formed = go (within k 9) refl
  where
    go : (b : Bool) → within k 9 ≡ b → b ≡ true
    go true out = refl
    go false out =
        let o : (j : ℕ) → within j 9 ≡ true → eqb k j ≡ false = λ j nine. ne_eqb k j (λ e. true≢false (sym nine ∙ ap (λ j. within j 9) (sym e) ∙ out)) in
        absurd (true≢false (sym (rw (o 1 refl, o 2 refl, o 3 refl, o 4 refl, o 5 refl, o 6 refl, o 7 refl, o 8 refl, o 9 refl) at formed)))

pub formed_now : (k : R.Kind) (p q : ℕ) → R.formed k p q ≡ formed (kind_now k) p q
unfolding R.formed formed
formed_now (R.opens R.C) p q = refl
formed_now (R.opens R.Y) p q = refl
formed_now (R.opens R.X) p q = refl
formed_now (R.subtracts t) p q = refl
formed_now R.divides p q = refl
formed_now R.closes p q = refl
formed_now R.closes_pivot p q = refl
formed_now R.none p q = refl

number_now : (t : R.Table) → R.number_of t ≡ number_of (table_now t)
number_now R.C = refl
number_now R.Y = refl
number_now R.X = refl

pub order_now : (N c y x : ℕ) (k : R.Kind) (o : R.Open) → R.in_order k o ≡ in_order (kind_now k) (open_now N c y x o)
unfolding R.in_order in_order
order_now N c y x (R.opens t) R.idle = refl
order_now N c y x (R.opens t) (R.busy u) = refl
order_now N c y x (R.subtracts t) R.idle = refl
order_now N c y x (R.subtracts t) (R.busy u) = ap₂ eqb (number_now t) (number_now u)
order_now N c y x R.divides R.idle = refl
order_now N c y x R.divides (R.busy u) = refl
order_now N c y x R.closes R.idle = refl
order_now N c y x R.closes (R.busy u) = refl
order_now N c y x R.closes_pivot R.idle = refl
order_now N c y x R.closes_pivot (R.busy u) = ap (eqb 1) (number_now u)
order_now N c y x R.none o = refl

module _ (N n s : ℕ) where
  -- an entry of C that was the next one may be opened today
  turn_now : (k : R.Kind) (p q : ℕ) (g : R.Progress) → R.in_turn N n s k p q g ≡ true → in_turn N n s (kind_now k) p q (progress_now N g) ≡ true
  unfolding R.in_turn in_turn
  turn_now (R.opens R.C) p q g e =
      let operands = both (leb p n) _ e in
      let target = both (eqb q (suc g.c)) (leb q s) operands.1 in
      let next = eqb-true q (suc g.c) target.0 in
      rw (operands.0, range-within q s (omega arith) (leb-true q s target.1), le-leb q (suc g.c) (omega arith))
  turn_now (R.opens R.Y) p q g e = e
  turn_now (R.opens R.X) p q g e = e
  turn_now (R.subtracts R.C) p q g e = e
  turn_now (R.subtracts R.Y) p q g e = e
  turn_now (R.subtracts R.X) p q g e = e
  turn_now R.divides p q g e = e
  turn_now R.closes p q g e = e
  turn_now R.closes_pivot p q g e = e
  turn_now R.none p q g e = e

  -- what an opening record's number was
  pub next-c : (p q : ℕ) (g : R.Progress) → R.in_turn N n s (R.opens R.C) p q g ≡ true → q ≡ suc g.c
  unfolding R.in_turn
  next-c p q g e = eqb-true q (suc g.c) (both (eqb q (suc g.c)) (leb q s) (both (leb p n) _ e).1).0

  x-sum : (p q : ℕ) (g : R.Progress) → R.in_turn N n s (R.opens R.X) p q g ≡ true → p + g.x ≡ N
  unfolding R.in_turn
  x-sum p q g e = eqb-true (p + g.x) N (both (ltb 0 p) (eqb (p + g.x) N) (both (ltb 0 p && eqb (p + g.x) N) (leb p g.y) e).0).1

  opened-number : (t : R.Table) (p q : ℕ) (g : R.Progress) → R.in_turn N n s (R.opens t) p q g ≡ true
      → next_in N g.c g.y g.x t ≡ opens_at (table_now t) p q
  unfolding R.in_turn
  opened-number R.C p q g e = sym (next-c p q g e)
  opened-number R.Y p q g e = sym (eqb-true p (suc g.y) (both (eqb p (suc g.y)) (leb p N) e).0)
  opened-number R.X p q g e = let sum = x-sum p q g e in omega arith

  counted_now : (o : R.Open) (g : R.Progress) → progress_now N (R.counted o g) ≡ counted (open_now N g.c g.y g.x o) (progress_now N g)
  unfolding R.counted
  counted_now R.idle g = refl
  counted_now (R.busy R.C) g =
      let most : suc g.c ≡ max g.c (suc g.c) = omega arith in
      ap (λ c. record { target = idle; c = c; y = g.y; x = g.x }) most
  counted_now (R.busy R.Y) g = refl
  counted_now (R.busy R.X) g = refl

  pub onward_now : (k : R.Kind) (p q : ℕ) (g : R.Progress) → R.in_turn N n s k p q g ≡ true
      → progress_now N (R.onward k g) ≡ onward (kind_now k) p q (progress_now N g)
  unfolding R.onward
  onward_now (R.opens t) p q g e = ap (λ k. record { target = busy (table_now t) k; c = g.c; y = g.y; x = g.x }) (opened-number t p q g e)
  onward_now (R.subtracts t) p q g e = refl
  onward_now R.divides p q g e = refl
  onward_now R.closes p q g e = counted_now g.target g
  onward_now R.closes_pivot p q g e = counted_now g.target g
  onward_now R.none p q g e = refl

  -- a record of a chain that passes release 1's checks passes today's, and the others do after it
  pub record LinkFine (index k p q : ℕ) (g : R.Progress) (rest : R.Chain) : Type 0 where
    pub ten : R.formed (R.kind_of k) p q ≡ true
    pub eleven : R.in_order (R.kind_of k) g.target ≡ true
    pub twelve : R.in_turn N n s (R.kind_of k) p q g ≡ true
    pub later : R.check_chain N n s (R.onward (R.kind_of k) g) rest ≡ R.fine

  pub link-fine : (index k p q : ℕ) (g : R.Progress) (rest : R.Chain) → R.check_chain N n s g (R.link index k p q rest) ≡ R.fine → LinkFine index k p q g rest
  unfolding R.check_chain
  link-fine index k p q g rest e =
      let a = required-passed (R.formed (R.kind_of k) p q) 10 index _ e in
      let b = required-passed (R.in_order (R.kind_of k) g.target) 11 index _ a.1 in
      let c = required-passed (R.in_turn N n s (R.kind_of k) p q g) 12 index _ b.1 in
      record { ten = a.0; eleven = b.0; twelve = c.0; later = c.1 }

  pub complete_now : is_sweep s ≡ false → (g : R.Progress) → complete N s (progress_now N g) ≡ R.complete N s g
  unfolding complete R.complete
  complete_now crout g = rw (complete, crout) (ap (λ b. b && (eqb g.c s && (eqb g.y N && eqb g.x N))) (idle_now g.target))
    where
      idle_now : (o : R.Open) → is_idle (open_now N g.c g.y g.x o) ≡ R.is_idle o
      idle_now R.idle = refl
      idle_now (R.busy t) = refl

  links_now : is_sweep s ≡ false → (g : R.Progress) (c : R.Chain) → R.check_chain N n s g c ≡ R.fine
      → check_links N n s (progress_now N g) (chain_now c).links (chain_now c).end ≡ fine
  unfolding check_links belongs allowed R.check_chain
  links_now crout g (R.link index k p q rest) e =
      let f = link-fine index k p q g rest e in
      let nine = nine_kinds k p q f.ten in
      let kind = kind-now k nine in
      let ten = sym (formed_now (R.kind_of k) p q) ∙ f.ten in
      let eleven = sym (order_now N g.c g.y g.x (R.kind_of k) g.target) ∙ f.eleven in
      let twelve = turn_now (R.kind_of k) p q g f.twelve in
      rw (check_links, belongs, crout, nine, kind, ten, kind, eleven, kind, allowed, crout, twelve, kind, ← onward_now (R.kind_of k) p q g f.twelve)
      (links_now crout (R.onward (R.kind_of k) g) rest f.later)
  links_now crout g R.whole e = rw (complete_now crout g, (required-passed (R.complete N s g) 13 0 R.fine e).0)
  links_now crout g (R.broken k) e = let z : ◌≡◌ {A = ℕ} 0 1 = cc in absurd (omega arith)

-- ---- the run

entry_now : (t : R.Tables) (u : R.Table) (k : ℕ) → R.entry t u k ≡ entry (tables_now t) (table_now u) k
unfolding R.entry entry
entry_now t R.C k = refl
entry_now t R.Y k = refl
entry_now t R.X k = refl

-- entry k of table u is the next one that release 1 closes
Next : R.Tables → R.Table → ℕ → Type 0
Next t R.C k = k ≡ suc (length t.c)
Next t R.Y k = Unit {0}
Next t R.X k = k + length t.x ≡ t.order

-- then it is closed as today
closed_now : (t : R.Tables) (u : R.Table) (k : ℕ) (v : Float) → Next t u k → closed (tables_now t) (table_now u) k v ≡ tables_now (R.closed t u v)
unfolding closed put_x R.closed Next
closed_now t R.C k v e = ap (λ c. record { order = t.order; c = c; y = t.y; x = t.x }) (put-end t.c (k - 1) v (omega arith))
closed_now t R.Y k v e = refl
closed_now t R.X k v e = rw (put_x, le-ltb (t.order - length t.x) k (omega arith))

OpenAt : R.State → R.Open → Type 0
OpenAt z R.idle = Unit {0}
OpenAt z (R.busy u) = (z.table ≡ u) × Next z.tables u z.target

-- the state of a run where the check's progress is g
record Reached (N : ℕ) (z : R.State) (g : R.Progress) : Type 0 where
  order : z.tables.order ≡ N
  c : length z.tables.c ≡ g.c
  x : length z.tables.x ≡ g.x
  target : OpenAt z g.target

closes-busy : (o : R.Open) → R.in_order R.closes o ≡ true → (u : R.Table) × (o ≡ R.busy u)
unfolding R.in_order
closes-busy R.idle e = absurd (true≢false (sym e))
closes-busy (R.busy u) e = (u, refl)

pivot-busy : (o : R.Open) → R.in_order R.closes_pivot o ≡ true → (u : R.Table) × (o ≡ R.busy u)
unfolding R.in_order
pivot-busy R.idle e = absurd (true≢false (sym e))
pivot-busy (R.busy u) e = (u, refl)

module _ {N : ℕ} {z : R.State} {g : R.Progress} (reached : Reached N z g) (u : R.Table) (open-so : g.target ≡ R.busy u) where
  open_at : (z.table ≡ u) × Next z.tables u z.target
  unfolding OpenAt
  open_at = rw open-so at reached.target

  -- closing is what it was
  taken_now : (vanished : ℕ) → closing (state_now vanished z) ≡ state_now vanished (R.taken z)
  unfolding R.taken
  taken_now vanished = ap (λ t. record {
    tables = t;
    table = table_now z.table;
    target = z.target;
    running = z.running;
    products = z.products;
    quotients = z.quotients;
    vanished = vanished;
  }) (closed_now z.tables z.table z.target z.running (rw open_at.0 open_at.1))

  taken-reached : Reached N (R.taken z) (R.counted g.target g)
  unfolding R.taken R.counted R.closed OpenAt
  taken-reached = subst (λ o. Reached N (R.taken z) (R.counted o g)) (sym open-so) (go u open_at.0)
    where
      go : (u : R.Table) → z.table ≡ u → Reached N (R.taken z) (R.counted (R.busy u) g)
      go R.C e = rw e record { order = reached.order; c = rw length-append (omega (arith, reached.c)); x = reached.x; target = tt }
      go R.Y e = rw e record { order = reached.order; c = reached.c; x = reached.x; target = tt }
      go R.X e = rw e record { order = reached.order; c = reached.c; x = ap suc reached.x; target = tt }

-- what a state that a step gives is
gives_is : {z w : R.State} → R.gives z ≡ R.gives w → z ≡ w
gives_is e = cc

pivot-gives : (small : Bool) {z w : R.State} → cond small R.zero_divisor (R.gives z) ≡ R.gives w → z ≡ w
pivot-gives true e = let z : ◌≡◌ {A = ℕ} 0 1 = cc in absurd (omega arith)
pivot-gives false e = cc

next-gives : (a : R.Answer Float) (f : Float → R.State) {z : R.State} → R.next a (λ v. R.gives (f v)) ≡ R.gives z → (v : Float) × (z ≡ f v)
unfolding R.next
next-gives (R.gives v) f e = (v, cc)
next-gives R.overflow f e = let z : ◌≡◌ {A = ℕ} 0 1 = cc in absurd (omega arith)
next-gives R.zero_divisor f e = let z : ◌≡◌ {A = ℕ} 0 1 = cc in absurd (omega arith)

moved_to : {N : ℕ} {z w : R.State} {g : R.Progress} → z ≡ w → Reached N z g → Reached N w g
moved_to {N} {g = g} e r = subst (λ w. Reached N w g) e r

module _ {N : ℕ} {z : R.State} {g : R.Progress} (reached : Reached N z g) where
  opened-reached : (t : R.Table) (k : ℕ) (v : Float) → Next z.tables t k
      → Reached N (R.opened z t k v) (record { target = R.busy t; c = g.c; y = g.y; x = g.x })
  unfolding R.opened OpenAt
  opened-reached t k v next = record { order = reached.order; c = reached.c; x = reached.x; target = (refl, next) }

  worked-reached : (v : Float) (products quotients : ℕ) → Reached N (R.worked z v products quotients) g
  unfolding R.worked OpenAt
  worked-reached v products quotients = record { order = reached.order; c = reached.c; x = reached.x; target = go g.target reached.target }
    where
      go : (o : R.Open) → OpenAt z o → OpenAt (R.worked z v products quotients) o
      go R.idle at = at
      go (R.busy u) at = at

stepped-now : (vanished : ℕ) (a : R.Answer Float) (f : Float → R.State)
    → settled_step (answer_now a) (λ v. state_now vanished (f v)) ≡ stepped_now vanished (R.next a (λ v. R.gives (f v)))
unfolding R.next
stepped-now vanished (R.gives v) f = refl
stepped-now vanished R.overflow f = refl
stepped-now vanished R.zero_divisor f = refl

module _ (A B : List Float) (N n s : ℕ) where
  -- one record does what it did, whatever has vanished
  step_now : (vanished : ℕ) (z : R.State) (g : R.Progress) (k : R.Kind) (p q : ℕ) → Reached N z g → R.in_order k g.target ≡ true
      → (gone : ℕ) × (step A B plus_zero (state_now vanished z) (kind_now k) p q ≡ stepped_now gone (R.step A B z k p q))
  unfolding R.step R.opened R.worked step starting
  step_now vanished z g (R.opens R.C) p q r e = (vanished, rw clean_frozen)
  step_now vanished z g (R.opens R.Y) p q r e = (vanished, rw clean_frozen)
  step_now vanished z g (R.opens R.X) p q r e = (vanished, rw entry_now)
  step_now vanished z g (R.subtracts t) p q r e =
      let a = entry (tables_now z.tables) C p in
      let b = entry (tables_now z.tables) (table_now t) q in
      let less-now : answer_now (R.less z.running (R.entry z.tables R.C p) (R.entry z.tables t q)) ≡ less z.running a b =
      simp (less_frozen, entry_now) in
      let after = subtracted (state_now vanished z) (vanishes a b) in
      (vanished + cond (vanishes a b) 1 0, ap (λ r. settled_step r after) (sym less-now) ∙ stepped-now _ _ _)
  step_now vanished z g R.divides p q r e =
      let over_now : answer_now (R.over z.running (R.entry z.tables R.C p)) ≡ quotient z.running (entry (tables_now z.tables) C p) =
      rw (over_frozen, entry_now) in
      (vanished, ap (λ r. settled_step r (divided_by (state_now vanished z))) (sym over_now) ∙ stepped-now vanished _ _)
  step_now vanished z g R.closes p q r e = let (u, o) = closes-busy g.target e in (vanished, ap going (taken_now r u o vanished))
  step_now vanished z g R.closes_pivot p q r e =
      let (u, o) = pivot-busy g.target e in
      (vanished, rw (small_zero, zero_frozen, cond_map (stepped_now vanished), taken_now r u o vanished))
  step_now vanished z g R.none p q r e = (vanished, refl)

  -- and the state is reached where the check goes on
  step-reached : (z z' : R.State) (g : R.Progress) (k : R.Kind) (p q : ℕ) → Reached N z g → R.in_order k g.target ≡ true → R.in_turn N n s k p q g ≡ true
      → R.step A B z k p q ≡ R.gives z' → Reached N z' (R.onward k g)
  unfolding R.step R.onward Next
  step-reached z z' g (R.opens R.C) p q r e f h = let next = next-c N n s p q g f in moved_to (gives_is h) (opened-reached r R.C q _ (omega (arith, r.c)))
  step-reached z z' g (R.opens R.Y) p q r e f h = moved_to (gives_is h) (opened-reached r R.Y p _ tt)
  step-reached z z' g (R.opens R.X) p q r e f h =
      let sum = x-sum N n s p q g f in
      moved_to (gives_is h) (opened-reached r R.X p _ (omega (arith, r.x, r.order)))
  step-reached z z' g (R.subtracts t) p q r e f h = let (v, o) = next-gives _ _ h in moved_to (sym o) (worked-reached r v _ _)
  step-reached z z' g R.divides p q r e f h = let (v, o) = next-gives _ _ h in moved_to (sym o) (worked-reached r v _ _)
  step-reached z z' g R.closes p q r e f h = let (u, o) = closes-busy g.target e in moved_to (gives_is h) (taken-reached r u o)
  step-reached z z' g R.closes_pivot p q r e f h =
      let (u, o) = pivot-busy g.target e in
      moved_to (pivot-gives (R.is_zero z.running) h) (taken-reached r u o)
  step-reached z z' g R.none p q r e f h = moved_to (gives_is h) r

  -- so the records of a chain that release 1's check passes do what they did
  follow_now : (vanished : ℕ) (z : R.State) (g : R.Progress) (c : R.Chain) → Reached N z g → R.check_chain N n s g c ≡ R.fine
      → outcome_then (followed (follow A B plus_zero (state_now vanished z) (chain_now c).links)) ≡ R.follow A B z c
  unfolding R.follow follow followed
  follow_now vanished z g (R.link index k p q rest) r e =
      let f = link-fine N n s index k p q g rest e in
      let (gone, now) = step_now vanished z g (R.kind_of k) p q r f.eleven in
      rw (follow, kind-now k (nine_kinds k p q f.ten), now) (go gone (R.step A B z (R.kind_of k) p q)
      (λ z' h. follow_now gone z' (R.onward (R.kind_of k) g) rest (step-reached z z' g (R.kind_of k) p q r f.eleven f.twelve h) f.later) refl)
    where
      go : (gone : ℕ) (a : R.Answer R.State)
          → ((z' : R.State) → R.step A B z (R.kind_of k) p q ≡ R.gives z'
          → outcome_then (followed (follow A B plus_zero (state_now gone z') (chain_now rest).links)) ≡ R.follow A B z' rest)
          → R.step A B z (R.kind_of k) p q ≡ a
          → outcome_then (followed (elim (stepped_now gone a) as (λ s. Followed) [
            | going z' ↦ follow A B plus_zero z' (chain_now rest).links
            | stop n ↦ halted n index (table_now z.table) z.target
          ]))
          ≡ elim a as (λ a. R.Outcome) [
            | R.gives z' ↦ R.follow A B z' rest
            | R.overflow ↦ R.stopped 16 index z.table z.target
            | R.zero_divisor ↦ R.stopped 17 index z.table z.target
          ]
      go gone (R.gives z') on h = on z' h
      go gone R.overflow on h = ap (λ t. R.stopped 16 index t z.target) (then_now z.table)
      go gone R.zero_divisor on h = ap (λ t. R.stopped 17 index t z.target) (then_now z.table)
  follow_now vanished z g R.whole r e = refl
  follow_now vanished z g (R.broken k) r e = refl

not_finite_frozen : (k : ℕ) (vs : List Float) → R.not_finite k vs ≡ not_finite k vs
unfolding R.not_finite not_finite
not_finite_frozen k [] = refl
not_finite_frozen k (v ∷ vs) = rw (finite_frozen, not_finite_frozen (suc k) vs)

fresh-reached : (N : ℕ) → Reached N (R.fresh N) begun_then
unfolding OpenAt
fresh-reached N = record { order = refl; c = refl; x = refl; target = tt }

-- what f makes of a check: of the refusal unless the test holds, then of what comes after
required_frozen : {T : Type 0} (f : R.Verdict → T) {test test' : Bool} (r d : ℕ) (v : R.Verdict) {w : T} → test ≡ test' → f v ≡ w
    → f (R.required test r d v) ≡ elim test' [ false ↦ f (R.refusal r d) | true ↦ w ]
unfolding R.required
required_frozen f {test' = test} r d v {w} same e = rw same (by test)
  where
    by : (b : Bool) → f (cond b v (R.refusal r d)) ≡ elim b [ false ↦ f (R.refusal r d) | true ↦ w ]
    by true = e
    by false = refl

-- 15 is release 1's, and 21 refuses nothing where the limit is +0
abbrev fifteen : List Float → List Float → R.Verdict
fifteen A B = R.required (eqb (R.not_finite 1 A) 0) 15 (R.not_finite 1 A) (R.required (eqb (R.not_finite 1 B) 0) 15 (R.not_finite 1 B) R.fine)

values_frozen : (A B : List Float) → verdict_now (fifteen A B) ≡ check_values A B plus_zero
unfolding check_values is_limit is_finite le lt eq
values_frozen A B =
    rw (not_finite_frozen 1 A, not_finite_frozen 1 B)
    (required_frozen verdict_now 15 (not_finite 1 A) _ refl (required_frozen verdict_now 15 (not_finite 1 B) R.fine refl refl))

-- 14, and then these, lead where they led
gated_frozen : (A B : List Float) (right : Bool) (now : Outcome) {past : R.Outcome} → outcome_then now ≡ past
    → outcome_then (gated (refused_by 14 0) refused_by right (check_values A B plus_zero) now) ≡ R.after (R.required right 14 0 (fifteen A B)) past
unfolding gated R.required
gated_frozen A B false now e = refl
gated_frozen A B true now {past} e = rw (← values_frozen A B) (by (fifteen A B))
  where
    by : (v : R.Verdict) → outcome_then (elim (verdict_now v) [ refusal r d ↦ refused_by r d | fine ↦ now ]) ≡ R.after v past
    by R.fine = e
    by (R.refusal r d) = refl

-- what the caller is told, without the new numbers
reply-then : (o : Outcome) → reply_then (reply o) ≡ R.reply (outcome_then o)
unfolding reply R.reply
reply-then (solution t products quotients vanished sweeps) = refl
reply-then (stopped r index C k) = refl
reply-then (stopped r index Y k) = refl
reply-then (stopped r index X k) = refl
reply-then (refused_by r d) = refl
reply-then (unsettled_at t) = refl

-- leaves what it left: 27 is a sweep's alone
leaves_then : (f : Followed) (t : R.Table) (vs : List Float) → leaves (followed f) (table_now t) vs ≡ R.leaves (outcome_then (followed f)) t vs
unfolding followed leaves R.leaves
leaves_then (through z) R.C vs = refl
leaves_then (through z) R.Y vs = refl
leaves_then (through z) R.X vs = refl
leaves_then (halted r index u k) t vs = refl

-- the test of release 1's 8
abbrev pub eight_then : List ℕ → Bool
eight_then W = R.within (R.word W 0) 600 && (leb (R.word W 1) (R.word W 0 * R.word W 0)
    && (leb (R.word W 0) (R.word W 2) && leb (R.word W 2) (R.word W 0 * R.word W 0)))

-- it asked for N slots or more, N being 1 or more
pub slots_then : (W : List ℕ) → eight_then W ≡ true → (1 ≤ word W 0) × (word W 0 ≤ word W 2)
slots_then W e =
    let order = both (within (word W 0) 600) _ e in
    let labels = both (leb (word W 1) (word W 0 * word W 0)) _ order.1 in
    ((within-range (word W 0) 600 order.0).0, leb-true (word W 0) (word W 2) (both (leb (word W 0) (word W 2)) _ labels.1).0)

-- what passes release 1's 7 to 13
pub record AcceptedThen (W : List ℕ) : Type 0 where
  pub seven : (ltb 0 (length W) && (eqb (length W % 4) 0 && leb (length W / 4) 100000000)) ≡ true
  pub eight : eight_then W ≡ true
  pub along : R.check_chain (R.word W 0) (R.word W 1) (R.word W 2) begun_then (R.chain W) ≡ R.fine

pub accepted : (W : List ℕ) → R.check W ≡ R.fine → AcceptedThen W
unfolding R.check
accepted W e =
    let a = required-passed (ltb 0 (length W) && (eqb (length W % 4) 0 && leb (length W / 4) 100000000)) 7 0 _ e in
    let b = required-passed _ 8 0 _ a.1 in
    record { seven = a.0; eight = b.0; along = b.1 }

module _ (W : List ℕ) (accepts : R.check W ≡ R.fine) where
  passed : AcceptedThen W
  passed = accepted W accepts

  -- it has slots, so it is no sweep
  crout : is_sweep (word W 2) ≡ false
  crout = ne_eqb (word W 2) 0 (λ e. omega (arith, slots_then W passed.eight))

  -- The headline for the checks: today's pass it.
  pub check-kept : check W ≡ fine
  check-kept =
      let some = both (ltb 0 (length W)) _ passed.seven in
      let size = both (eqb (length W % 4) 0) (leb (length W / 4) 100000000) some.1 in
      let order = both (within (word W 0) 600) _ passed.eight in
      let labels = both (leb (word W 1) (word W 0 * word W 0)) _ order.1 in
      let slots = both (leb (word W 0) (word W 2)) (leb (word W 2) (word W 0 * word W 0)) labels.1 in
      passed-fine W (record {
        some = ltb-true 0 (length W) some.0;
        fours = eqb-true (length W % 4) 0 size.0;
        few = leb-true (length W / 4) 100000000 size.1;
        head = rw (order.0, labels.0, le-leb 0 (word W 2) (omega arith), slots.1);
        links = rw (← chain_frozen W) (links_now (word W 0) (word W 1) (word W 2) crout _ (R.chain W) passed.along);
      })

  module _ (A B : List Float) (lc ly lx : ℕ) where
    abbrev along_then : R.Outcome
    along_then = R.follow A B (R.fresh (word W 0)) (R.chain W)

    abbrev along_now : Outcome
    along_now = followed (follow A B plus_zero (fresh (word W 0)) (chain W).links)

    along_kept : outcome_then along_now ≡ along_then
    along_kept =
        rw (← chain_frozen W) (follow_now A B (word W 0) (word W 1) (word W 2) 0 (R.fresh (word W 0)) _ (R.chain W) (fresh-reached (word W 0)) passed.along)

    -- 14's test
    abbrev right_then : Bool
    right_then = eqb (length A) (word W 1) && (eqb (length B) (word W 0) && (eqb lc (word W 2) && (eqb ly (word W 0) && eqb lx (word W 0))))

    ran_gated : ran W A B plus_zero lc ly lx ≡ gated (refused_by 14 0) refused_by right_then (check_values A B plus_zero) along_now
    unfolding done_by lengths_right
    ran_gated = ran-fine W A B plus_zero lc ly lx check-kept ∙ rw (crout, done_by)

    -- The headline for the run: with limit +0 it ends as it did,
    pub ran-kept : outcome_then (ran W A B plus_zero lc ly lx) ≡ R.ran W A B lc ly lx
    unfolding R.ran R.check_values
    ran-kept =
        ap outcome_then ran_gated ∙ gated_frozen A B right_then along_now along_kept
        ∙ ap (λ v. R.after v (R.after (R.check_values (word W 0) (word W 1) (word W 2) A B lc ly lx) along_then)) (sym accepts)

    -- tells the caller what it told,
    pub reply-kept : reply_then (reply (ran W A B plus_zero lc ly lx)) ≡ R.reply (R.ran W A B lc ly lx)
    reply-kept = reply-then (ran W A B plus_zero lc ly lx) ∙ ap R.reply ran-kept

    -- and leaves what it left.
    pub leaves_kept : (t : R.Table) (vs : List Float) → leaves (ran W A B plus_zero lc ly lx) (table_now t) vs ≡ R.leaves (R.ran W A B lc ly lx) t vs
    unfolding leaves R.leaves
    leaves_kept t vs =
        rw ran_gated (gated_each (refused_by 14 0) refused_by (λ o. leaves o (table_now t) vs ≡ R.leaves (outcome_then o) t vs) right_then _ along_now
        refl (λ r d e. refl) (leaves_then _ t vs)) ∙ ap (λ o. R.leaves o t vs) ran-kept
