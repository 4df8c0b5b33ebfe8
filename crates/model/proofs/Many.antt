-- Many right sides on one program: what is worked into C does not depend on the right side, so every side that is solved has the same C. Document 02, A.6.
use Prim.Native.Nat.{ℕ, ◌-◌, ◌≤◌}
use native.Mathlib.Omega.{arith}
use mathlib.Core.Path.{◌≡◌, refl, sym, ap, ap₂, subst, ◌∙◌}
use mathlib.Core.Bool.{Bool, true, false, cond, true≢false}
use mathlib.Core.List.{List, [], ◌∷◌, map, Memᴰ}
use lib.Dec.{leb}
use lib.ListN.{length, replicate}
use lib.Ieee.{Float}
use Rattle.model.specs.Arith.{plus_zero, clean, Answer, number, overflow, zero_divisor, quotient, vanishes, is_small}
use Rattle.model.specs.Formula.{Table, C, Y, X, Tables, put, entry, closed, starting, less}
use Rattle.model.specs.Sweep.{Sweeps, settled, unsettled, ended, sweeping, most_sweeps, loaded}
use Rattle.model.specs.Check.{Link, End, Open, idle, busy, Progress, begun, Verdict, fine, refusal, check, chain, word, check_links}
use Rattle.model.specs.Check.{Kind, opens, subtracts, divides, closes, closes_pivot, none, kind_of, is_sweep, same_table, in_order, counted, onward}
use Rattle.model.specs.Run.{State, Outcome, solution, stopped, refused_by, unsettled_at, started_on, fresh, Stepped, going, stop, opened}
use Rattle.model.specs.Run.{subtracted, divided_by, closing, settled_step, step, Followed, through, halted, follow, followed}
use Rattle.model.specs.Run.{only_x, swept_over, check_values, ran}
use Rattle.model.specs.Many.{read_by, read, shared_c, SharesC}
use Rattle.model.proofs.Lists.{Each}
use Rattle.model.proofs.Search.{kept-at_most}
use Rattle.model.proofs.Passing.{fine-passed, link-passed}
use Rattle.model.proofs.Runs.{gated_each, lengths_right, done_by, ran_by, ran_is}
use Rattle.model.proofs.Running.{SweptSo, once_from, moves_from, sweeps_so}

-- ---- two runs along one chain

-- Two states with the same C and the same open target, which is the checked one's; where it is in C, their running numbers are the same too.
pub record Shared (z w : State) (o : Open) : Type 0 where
  pub c : z.tables.c ≡ w.tables.c
  pub table : z.table ≡ w.table
  pub target : z.target ≡ w.target
  pub running : z.table ≡ C → z.running ≡ w.running
  pub open_in : (t : Table) (k : ℕ) → o ≡ busy t k → z.table ≡ t

-- tables with the same number are the same
pub same-table : (s t : Table) → same_table s t ≡ true → s ≡ t
same-table C C e = refl
same-table C Y e = absurd (true≢false (sym e))
same-table C X e = absurd (true≢false (sym e))
same-table Y C e = absurd (true≢false (sym e))
same-table Y Y e = refl
same-table Y X e = absurd (true≢false (sym e))
same-table X C e = absurd (true≢false (sym e))
same-table X Y e = absurd (true≢false (sym e))
same-table X X e = refl

-- an entry of C, and C with an entry closed, by what C is
entry-same : (t u : Tables) (k : ℕ) → t.c ≡ u.c → entry t C k ≡ entry u C k
unfolding entry
entry-same t u k e = rw e

closed_same : (t u : Tables) (tb : Table) (k : ℕ) (v w : Float) → t.c ≡ u.c → (tb ≡ C → v ≡ w) → (closed t tb k v).c ≡ (closed u tb k w).c
unfolding closed
closed_same t u C k v w e r = ap₂ (λ c v. put c (k - 1) v) e (r refl)
closed_same t u Y k v w e r = e
closed_same t u X k v w e r = e

-- a step that goes on after an answer had a number
settled-going : (a : Answer) (f : Float → State) (z : State) → settled_step a f ≡ going z → (v : Float) × (a ≡ number v) × (z ≡ f v)
settled-going (number v) f z e = (v, refl, cc)
settled-going overflow f z e = let z : ◌≡◌ {A = ℕ} 0 1 = cc in absurd (omega arith)
settled-going zero_divisor f z e = let z : ◌≡◌ {A = ℕ} 0 1 = cc in absurd (omega arith)

-- what a step goes on to, and that it then does not stop
going_is : (z w : State) → going z ≡ going w → w ≡ z
going_is z w e = cc

pivot-going : (small : Bool) (z w : State) → cond small (stop 17) (going z) ≡ going w → w ≡ z
pivot-going true z w e = let z : ◌≡◌ {A = ℕ} 0 1 = cc in absurd (omega arith)
pivot-going false z w e = cc

going-stop : (z : State) (r : ℕ) → going z ≡ stop r → ⊥
going-stop z r e = let z : ◌≡◌ {A = ℕ} 0 1 = cc in omega arith

-- the same answer, and the same pivot, stop another run too
settled-stop : (a a' : Answer) (f g : Float → State) (r : ℕ) → a ≡ a' → settled_step a f ≡ stop r → settled_step a' g ≡ stop r
settled-stop a a' f g r same e = rw (← same) (go a e)
  where
    go : (a : Answer) → settled_step a f ≡ stop r → settled_step a g ≡ stop r
    go (number v) e = absurd (going-stop (f v) r e)
    go overflow e = e
    go zero_divisor e = e

pivot-stop : (b b' : Bool) (z w : State) (r : ℕ) → b ≡ b' → cond b (stop 17) (going z) ≡ stop r → cond b' (stop 17) (going w) ≡ stop r
pivot-stop true b' z w r same e = rw (← same) e
pivot-stop false b' z w r same e = absurd (going-stop z r e)

module _ {z w : State} {o : Open} (s : Shared z w o) where
  -- both go on after answers that are the same if the target is in C
  answered : (a a' : Answer) (f g : Float → State) → (z.table ≡ C → a ≡ a')
      → ((v v' : Float) → (z.table ≡ C → v ≡ v') → Shared (f v) (g v') o) → (z' w' : State)
      → settled_step a f ≡ going z' → settled_step a' g ≡ going w' → Shared z' w' o
  answered a a' f g same on z' w' e e' =
      let (v, n, q) = settled-going a f z' e in
      let (v', n', q') = settled-going a' g w' e' in
      rw (q, q') (on v v' (λ t. let h = same t in cc))

  -- what each kind leaves shared
  opened_shared : (t : Table) (k : ℕ) (v v' : Float) → (t ≡ C → v ≡ v') → Shared (opened z t k v) (opened w t k v') (busy t k)
  opened_shared t k v v' same = record { c = s.c; table = refl; target = refl; running = same; open_in = λ u n e. cc }

  subtracted_shared : (b b' : Bool) (v v' : Float) → (z.table ≡ C → v ≡ v') → Shared (subtracted z b v) (subtracted w b' v') o
  subtracted_shared b b' v v' same = record { c = s.c; table = s.table; target = s.target; running = same; open_in = s.open_in }

  divided_shared : (v v' : Float) → (z.table ≡ C → v ≡ v') → Shared (divided_by z v) (divided_by w v') o
  divided_shared v v' same = record { c = s.c; table = s.table; target = s.target; running = same; open_in = s.open_in }

  closing_shared : Shared (closing z) (closing w) idle
  closing_shared = record {
    c = closed_same z.tables w.tables z.table z.target z.running w.running s.c s.running
        ∙ ap₂ (λ t k. (closed w.tables t k w.running).c) s.table s.target;
    table = s.table;
    target = s.target;
    running = s.running;
    open_in = λ u n e. let z : ◌≡◌ {A = ℕ} 0 1 = cc in absurd (omega arith);
  }

  -- what is open is of the table that the kind subtracts from
  pub subtracts_from : (t : Table) → in_order (subtracts t) o ≡ true → z.table ≡ t
  unfolding in_order
  subtracts_from t e = go o refl e
    where
      go : (o' : Open) → o ≡ o' → in_order (subtracts t) o' ≡ true → z.table ≡ t
      go idle p e = absurd (true≢false (sym e))
      go (busy u k) p e = s.open_in u k p ∙ sym (same-table t u e)

  -- so where it is in C, the product subtracted is of the same factors
  less-same : (t : Table) (p q : ℕ) → in_order (subtracts t) o ≡ true → z.table ≡ C
      → less z.running (entry z.tables C p) (entry z.tables t q) ≡ less w.running (entry w.tables C p) (entry w.tables t q)
  less-same t p q order c =
      let is : t ≡ C = sym (subtracts_from t order) ∙ c in
      rw (is, s.running c, entry-same z.tables w.tables p s.c, entry-same z.tables w.tables q s.c)

  -- and the divisor is the same
  quotient-same : (p : ℕ) → z.table ≡ C → quotient z.running (entry z.tables C p) ≡ quotient w.running (entry w.tables C p)
  quotient-same p c = ap₂ quotient (s.running c) (entry-same z.tables w.tables p s.c)

-- none is open once a target is closed
counted-idle : (g : Progress) → (counted g.target g).target ≡ idle
counted-idle g = go g.target refl
  where
    go : (o : Open) → g.target ≡ o → (counted o g).target ≡ idle
    go idle e = e
    go (busy C k) e = refl
    go (busy Y k) e = refl
    go (busy X k) e = refl

module _ (A b b' : List Float) (limit : Float) where
  -- a record that both go on after leaves them so
  pub step_shared : (k : Kind) (p q : ℕ) (g : Progress) (z w z' w' : State) → in_order k g.target ≡ true → Shared z w g.target
      → step A b limit z k p q ≡ going z' → step A b' limit w k p q ≡ going w' → Shared z' w' (onward k p q g).target
  unfolding step starting
  step_shared (opens C) p q g z w z' w' order s e e' = rw (going_is _ _ e, going_is _ _ e') (opened_shared s C q _ _ (λ t. refl))
  step_shared (opens Y) p q g z w z' w' order s e e' =
      rw (going_is _ _ e, going_is _ _ e') (opened_shared s Y p _ _ (λ t. let z : ◌≡◌ {A = ℕ} 0 1 = cc in absurd (omega arith)))
  step_shared (opens X) p q g z w z' w' order s e e' =
      rw (going_is _ _ e, going_is _ _ e') (opened_shared s X p _ _ (λ t. let z : ◌≡◌ {A = ℕ} 0 1 = cc in absurd (omega arith)))
  step_shared (subtracts t) p q g z w z' w' order s e e' =
      answered s _ _ _ _ (less-same s t p q order)
      (subtracted_shared s (vanishes (entry z.tables C p) (entry z.tables t q)) (vanishes (entry w.tables C p) (entry w.tables t q))) z' w' e e'
  step_shared divides p q g z w z' w' order s e e' = answered s _ _ _ _ (quotient-same s p) (divided_shared s) z' w' e e'
  step_shared closes p q g z w z' w' order s e e' = rw (going_is _ _ e, going_is _ _ e', counted-idle g) (closing_shared s)
  step_shared closes_pivot p q g z w z' w' order s e e' =
      rw (pivot-going (is_small limit z.running) (closing z) z' e, pivot-going (is_small limit w.running) (closing w) w' e', counted-idle g)
      (closing_shared s)
  step_shared none p q g z w z' w' order s e e' = rw (going_is _ _ e, going_is _ _ e') s

  -- where the target is in C, both are refused alike
  pub step-stopped : (k : Kind) (p q : ℕ) (g : Progress) (z w : State) (r : ℕ) → in_order k g.target ≡ true → Shared z w g.target → z.table ≡ C
      → step A b limit z k p q ≡ stop r → step A b' limit w k p q ≡ stop r
  unfolding step
  step-stopped (opens C) p q g z w r order s c e = absurd (going-stop _ r e)
  step-stopped (opens Y) p q g z w r order s c e = absurd (going-stop _ r e)
  step-stopped (opens X) p q g z w r order s c e = absurd (going-stop _ r e)
  step-stopped (subtracts t) p q g z w r order s c e = settled-stop _ _ _ _ r (less-same s t p q order c) e
  step-stopped divides p q g z w r order s c e = settled-stop _ _ _ _ r (quotient-same s p c) e
  step-stopped closes p q g z w r order s c e = absurd (going-stop _ r e)
  step-stopped closes_pivot p q g z w r order s c e =
      pivot-stop (is_small limit z.running) (is_small limit w.running) _ _ r (ap (is_small limit) (s.running c)) e
  step-stopped none p q g z w r order s c e = absurd (going-stop _ r e)

-- a run that gets through has passed its first record
first-through : (A b : List Float) (limit : Float) (z z' : State) (l : Link) (ls : List Link) → follow A b limit z (l ∷ ls) ≡ through z'
    → (u : State) × (step A b limit z (kind_of l.at.kind) l.at.p l.at.q ≡ going u) × (follow A b limit u ls ≡ through z')
unfolding follow
first-through A b limit z z' l ls e = go (step A b limit z (kind_of l.at.kind) l.at.p l.at.q) e
  where
    go : (x : Stepped) → elim x as (λ x. Followed) [ going u ↦ follow A b limit u ls | stop r ↦ halted r l.index z.table z.target ] ≡ through z'
        → (u : State) × (x ≡ going u) × (follow A b limit u ls ≡ through z')
    go (going u) e = (u, refl, e)
    go (stop r) e = let z : ◌≡◌ {A = ℕ} 0 1 = cc in absurd (omega arith)

-- and so the whole chain
pub follow_shared : (A b b' : List Float) (limit : Float) (N n s : ℕ) (g : Progress) (ls : List Link) (end : End) (z w z' w' : State)
    → check_links N n s g ls end ≡ fine → Shared z w g.target → follow A b limit z ls ≡ through z' → follow A b' limit w ls ≡ through w'
    → z'.tables.c ≡ w'.tables.c
unfolding follow
follow_shared A b b' limit N n s g [] end z w z' w' passes same e e' = let p : z ≡ z' = cc in let q : w ≡ w' = cc in rw (← p, ← q) same.c
follow_shared A b b' limit N n s g (l ∷ ls) end z w z' w' passes same e e' =
    let ok = link-passed N n s g l ls end passes in
    let (u, p, f) = first-through A b limit z z' l ls e in
    let (u', p', f') = first-through A b' limit w w' l ls e' in
    follow_shared A b b' limit N n s (onward (kind_of l.at.kind) l.at.p l.at.q g) ls end u u' z' w' ok.later
    (step_shared A b b' limit (kind_of l.at.kind) l.at.p l.at.q g z w u u' ok.eleven same p p') f f'

-- ---- two runs that are solved

-- a solution with nothing in C
abbrev NoneInC : Outcome → Type 0
NoneInC (solution t p q g k) = t.c ≡ []
NoneInC (stopped r index t k) = Unit {0}
NoneInC (refused_by r d) = Unit {0}
NoneInC (unsettled_at t) = Unit {0}

-- a program of sweeps leaves C empty
swept-none_in_c : (A B : List Float) (limit : Float) (N : ℕ) (ls : List Link) → NoneInC (swept_over A B limit N ls)
unfolding swept_over
swept-none_in_c A B limit N ls =
    go (sweeping (once_from A B limit N ls) (moves_from A B limit N ls) most_sweeps 0 first) (sweeps_so A B limit N ls most_sweeps 0 first)
  where
    first : State
    first = started_on (loaded N (map clean A) B)

    go : (s : Sweeps State Outcome) → SweptSo s → NoneInC (elim s as (λ s. Outcome) [
      | settled z k ↦ solution (only_x z.tables) z.products z.quotients z.vanished k
      | unsettled z ↦ unsettled_at (only_x z.tables)
      | ended e ↦ e
    ])
    go (settled z k) so = refl
    go (unsettled z) so = tt
    go (ended (stopped r k t n)) so = tt
    go (ended (solution _ _ _ _ _)) so = elim so [ ]
    go (ended (refused_by _ _)) so = elim so [ ]
    go (ended (unsettled_at _)) so = elim so [ ]

-- a side that is solved got through
pub followed-solved : (f : Followed) (t : Tables) (p q g k : ℕ) → followed f ≡ solution t p q g k → (z : State) × (f ≡ through z) × (z.tables ≡ t)
unfolding followed
followed-solved (through z) t p q g k e = (z, refl, cc)
followed-solved (halted r index tb n) t p q g k e = let z : ◌≡◌ {A = ℕ} 0 1 = cc in absurd (omega arith)

-- a run that is solved has passed every check
ran-solved : (W : List ℕ) (A B : List Float) (limit : Float) (c y x : ℕ) (t : Tables) (p q g k : ℕ) → ran W A B limit c y x ≡ solution t p q g k
    → (check W ≡ fine) × (done_by W A B limit (is_sweep (word W 2)) ≡ solution t p q g k)
unfolding ran_by
ran-solved W A B limit c y x t p q g k e = go (check W) refl (sym (ran_is W A B limit c y x) ∙ e)
  where
    done : Outcome
    done = done_by W A B limit (is_sweep (word W 2))

    refused : (r d : ℕ) → refused_by r d ≡ solution t p q g k → ⊥
    refused r d e = let z : ◌≡◌ {A = ℕ} 0 1 = cc in omega arith

    go : (v : Verdict) → check W ≡ v → ran_by W A B limit c y x v ≡ solution t p q g k → (check W ≡ fine) × (done ≡ solution t p q g k)
    go (refusal r d) h e = absurd (refused r d e)
    go fine h e = (
      h,
      gated_each (refused_by 14 0) refused_by (λ o. o ≡ solution t p q g k → done ≡ solution t p q g k)
          (lengths_right (word W 0) (word W 1) (word W 2) (length A) (length B) c y x) (check_values A B limit) done
          (λ e. absurd (refused 14 0 e)) (λ r d v e. absurd (refused r d e)) (λ e. e) e,
    )

-- two runs start so
pub shared_start : (N : ℕ) → Shared (fresh N) (fresh N) begun.target
shared_start N = record {
  c = refl;
  table = refl;
  target = refl;
  running = λ t. refl;
  open_in = λ u n e. let z : ◌≡◌ {A = ℕ} 0 1 = cc in absurd (omega arith);
}

-- The headline: C is the same for every right side that is solved.
pub shares_c : (W : List ℕ) (A b b' : List Float) (limit : Float) (c N : ℕ) → SharesC W A b b' limit c N
unfolding done_by
shares_c W A b b' limit c N t t' p p' q q' g g' k k' e e' =
    let first = ran-solved W A b limit c N N t p q g k e in
    let second = ran-solved W A b' limit c N N t' p' q' g' k' e' in
    go (is_sweep (word W 2)) first.1 second.1 (fine-passed W first.0).links
  where
    go : (sweep : Bool) → done_by W A b limit sweep ≡ solution t p q g k → done_by W A b' limit sweep ≡ solution t' p' q' g' k'
        → check_links (word W 0) (word W 1) (word W 2) begun (chain W).links (chain W).end ≡ fine → t.c ≡ t'.c
    go true e e' passes =
        subst NoneInC e (swept-none_in_c A b limit (word W 0) (chain W).links)
        ∙ sym (subst NoneInC e' (swept-none_in_c A b' limit (word W 0) (chain W).links))
    go false e e' passes =
        let (z, f, s) = followed-solved _ t p q g k e in
        let (z', f', s') = followed-solved _ t' p' q' g' k' e' in
        let same = follow_shared A b b' limit _ _ _ begun _ _ _ _ z z' passes (shared_start (word W 0)) f f' in
        ap (λ u. u.c) (sym s) ∙ same ∙ ap (λ u. u.c) s'

-- so what the call leaves in C is the C of any side that is solved
pub shared_c_is : (W : List ℕ) (A : List Float) (limit : Float) (c N : ℕ) (vs : List Float) {b : List Float} {bs : List (List Float)} → Memᴰ b bs
    → (t : Tables) (p q g k : ℕ) → ran W A b limit c N N ≡ solution t p q g k → shared_c (map (λ b. ran W A b limit c N N) bs) vs ≡ t.c
unfolding shared_c
shared_c_is W A limit c N vs (Memᴰ.head same) t p q g k e = rw (← same, e)
shared_c_is W A limit c N vs {b = b} (Memᴰ.tail {x = b'} {xs = bs} m) t p q g k e =
    go (ran W A b' limit c N N) refl (shared_c_is W A limit c N vs m t p q g k e)
  where
    rest : List Float
    rest = shared_c (map (λ b. ran W A b limit c N N) bs) vs

    go : (o : Outcome) → ran W A b' limit c N N ≡ o → rest ≡ t.c
        → elim o as (λ o. List Float) [ solution t p q g k ↦ t.c | stopped r index t k ↦ rest | refused_by r d ↦ rest | unsettled_at t ↦ rest ] ≡ t.c
    go (solution t' p' q' g' k') e' later = shares_c W A b' b limit c N t' t p' p q' q g' g k' k e' e
    go (stopped r index u n) e' later = later
    go (refused_by r d) e' later = later
    go (unsettled_at u) e' later = later

-- an ending that is no solution
abbrev pub Unsolved : Outcome → Type 0
Unsolved (solution t p q g k) = ⊥
Unsolved (stopped r index t k) = Unit {0}
Unsolved (refused_by r d) = Unit {0}
Unsolved (unsettled_at t) = Unit {0}

-- and +0 everywhere if none is
pub shared_c-none : (os : List Outcome) (vs : List Float) → Each Unsolved os → shared_c os vs ≡ replicate (length vs) plus_zero
unfolding shared_c
shared_c-none [] vs each = refl
shared_c-none (solution t p q g k ∷ os) vs each = absurd (each (solution t p q g k) (Memᴰ.head refl))
shared_c-none (stopped r index t k ∷ os) vs each = shared_c-none os vs (λ o m. each o (Memᴰ.tail m))
shared_c-none (refused_by r d ∷ os) vs each = shared_c-none os vs (λ o m. each o (Memᴰ.tail m))
shared_c-none (unsettled_at t ∷ os) vs each = shared_c-none os vs (λ o m. each o (Memᴰ.tail m))

-- ---- the records read

-- no more than the chain's are read, and no less than by any side
pub read_by_at_most : (ls : List Link) (o : Outcome) → read_by ls o ≤ length ls
unfolding read_by
read_by_at_most ls (solution t p q g k) = omega arith
read_by_at_most ls (stopped r index t k) = kept-at_most (λ l. leb l.index index) ls
read_by_at_most ls (refused_by r d) = omega arith
read_by_at_most ls (unsettled_at t) = omega arith

pub read-at_most : (ls : List Link) (os : List Outcome) → read ls os ≤ length ls
unfolding read
read-at_most ls [] = omega arith
read-at_most ls (o ∷ os) = omega (arith, read_by_at_most ls o, read-at_most ls os)

pub read-at_least : (ls : List Link) {o : Outcome} {os : List Outcome} → Memᴰ o os → read_by ls o ≤ read ls os
unfolding read
read-at_least ls (Memᴰ.head e) = rw e (omega arith)
read-at_least ls (Memᴰ.tail m) = omega (arith, read-at_least ls m)

-- they are the chain's length if any side is solved
pub read-solved : (ls : List Link) (os : List Outcome) (t : Tables) (p q g k : ℕ) → Memᴰ (solution t p q g k) os → read ls os ≡ length ls
unfolding read_by
read-solved ls os t p q g k m = omega (arith, read-at_most ls os, read-at_least ls m)
