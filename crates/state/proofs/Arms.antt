-- One record, kind by kind: what the code's step gives is the model's step, and the state stays sound.
use Prim.Native.Nat.{ℕ, suc, ◌≤◌}
use native.Mathlib.Omega.{arith}
use native.Mathlib.Nat.{add-zero}
use native.Mathlib.Numerals.{add-one}
use mathlib.Core.Path.{◌≡◌, refl, sym, ap, ap₂, subst, ◌∙◌}
use mathlib.Core.Bool.{Bool, true, false}
use mathlib.Core.List.{List}
use lib.Dec.{eqb}
use lib.ListN.{length}
use lib.Ieee.{Float}
use borrow.Author.Tests.{eqb-true, eqb-false}
use Rattle.model.specs.Label.{within}
use Rattle.model.specs.Arith.{Answer, number, overflow, zero_divisor, quotient, vanishes}
use Rattle.model.specs.Formula.{Table, C, Y, X, number_of, entry, starting, less}
use Rattle.model.specs.Check.{Kind, opens, subtracts, divides, kind_of}
use Rattle.model.specs.Run as Run
use Rattle.model.proofs.Within.{within-range}
use Rattle.state.specs.declared.State.{State}
use Rattle.state.specs.declared.Fault.{Fault}
use Rattle.std.specs.Prelude.{Result, Ok}
use Rattle.state.specs.States.{table_of, state_of, stepped_of, opened, subtracted, divided_by, answered, SoundStep, Sound, Allowed, Ready, WorksOn, works_in}

pub table-named : (t : Table) → table_of (number_of t) ≡ t
table-named C = refl
table-named Y = refl
table-named X = refl

-- what a kind relies on
pub allowed_as : {la lb lc ly lx : ℕ} {z : State} {kind : ℕ} {k : Kind} {p q : ℕ} → Ready la lb lc ly lx z kind p q → kind_of kind ≡ k
    → Allowed la lc ly lx z k p q
allowed_as {la = la} {lc = lc} {ly = ly} {lx = lx} {z = z} {p = p} {q = q} ready e = subst (λ k. Allowed la lc ly lx z k p q) e ready.allowed

-- a Crout program has no kind but 1 to 9
past : (k m : ℕ) → m ≤ k → (k ≡ m → ⊥) → suc m ≤ k
past k m low other = omega arith

pub no_kind : (k : ℕ) → within k 9 ≡ true → (k ≡ 1 → ⊥) → (k ≡ 2 → ⊥) → (k ≡ 3 → ⊥) → (k ≡ 4 → ⊥) → (k ≡ 5 → ⊥)
    → (k ≡ 6 → ⊥) → (k ≡ 7 → ⊥) → (k ≡ 8 → ⊥) → (k ≡ 9 → ⊥) → ⊥
no_kind k own a b c d e f g h i =
    let range = within-range k 9 own in
    let four = past k 4 (past k 3 (past k 2 (past k 1 range.0 a) b) c) d in
    let nine = past k 9 (past k 8 (past k 7 (past k 6 (past k 5 four e) f) g) h) i in
    no_more range.1 nine
  where
    no_more : k ≤ 9 → 10 ≤ k → ⊥
    no_more high low = omega arith

-- one that works in C and is none of 1, 4, 7 and 8 is 9
not_c : (t : Table) → (number_of t ≡ 1 → ⊥) → t ≡ C → ⊥
not_c t other e = other (ap number_of e)

pub pivot-left : (k : ℕ) (u : Table) → within k 9 ≡ true → works_in (kind_of k) u ≡ C → WorksOn (kind_of k) u → (k ≡ 1 → ⊥) → (k ≡ 4 → ⊥) → (k ≡ 7 → ⊥)
    → (k ≡ 8 → ⊥) → k ≡ 9
unfolding kind_of
pivot-left k u own in_c on one four seven eight = go (eqb k 9) refl
  where
    works : {m : ℕ} → k ≡ m → works_in (kind_of m) u ≡ C
    works e = subst (λ k. works_in (kind_of k) u ≡ C) e in_c

    works_on : {m : ℕ} → k ≡ m → WorksOn (kind_of m) u
    works_on e = subst (λ k. WorksOn (kind_of k) u) e on

    go : (b : Bool) → eqb k 9 ≡ b → k ≡ 9
    go true e = eqb-true k 9 e
    go false e =
        absurd (no_kind k own one (λ is. not_c Y (λ z. omega arith) (works is)) (λ is. not_c X (λ z. omega arith) (works is)) four
        (λ is. not_c Y (λ z. omega arith) (sym (works_on is) ∙ works is)) (λ is. not_c X (λ z. omega arith) (sym (works_on is) ∙ works is)) seven eight
        (eqb-false k 9 e))

module _ (A B : List Float) (limit : Float) (c y x : List Float) (z : State) (sound : Sound (length c) (length y) (length x) z) where
  -- r with the tables c', y' and x' is what a record of kind k gives
  abbrev pub Gives : Kind → ℕ → ℕ → Result State Fault → List Float → List Float → List Float → Type 0
  Gives k p q r c' y' x' = (stepped_of r c' y' x' ≡ Run.step A B limit (state_of z c y x) k p q) × SoundStep (length c) (length y) (length x) r

  -- an answer steps as the model's does, if the states after it are the model's
  answer-gives : (a : Answer) (f : Float → State) (g : Float → Run.State) → ((v : Float) → state_of (f v) c y x ≡ g v)
      → ((v : Float) → Sound (length c) (length y) (length x) (f v))
      → (stepped_of (answered a f) c y x ≡ Run.settled_step a g) × SoundStep (length c) (length y) (length x) (answered a f)
  answer-gives (number v) f g same still = (ap Run.going (same v), still v)
  answer-gives overflow f g same still = (refl, tt)
  answer-gives zero_divisor f g same still = (refl, tt)

  one_more : (gone : Bool) (v : Float) → state_of (subtracted z gone v) c y x ≡ Run.subtracted (state_of z c y x) gone v
  one_more true v = rw add-one
  one_more false v = rw (add-one, add-zero)

  module _ (k : Kind) (p q : ℕ) where
    -- the steps of kinds 1 to 3, 4 to 6, and 7
    pub gives_open : (t : Table) (n : ℕ) (v : Float) (r : State)
        → Run.step A B limit (state_of z c y x) (opens t) p q ≡ Run.going (Run.opened (state_of z c y x) t n (starting A B (state_of z c y x).tables t p))
        → k ≡ opens t → r ≡ opened z (number_of t) n v → v ≡ starting A B (state_of z c y x).tables t p → Gives k p q (Ok r) c y x
    gives_open t n v r clause e is from =
        rw (e, is) (
          ap₂ (λ u w. Run.going (Run.opened (state_of z c y x) u n w)) (table-named t) from ∙ sym clause,
          record { named = ap number_of (table-named t); in_c = sound.in_c; in_y = sound.in_y; in_x = sound.in_x },
        )

    pub gives_subtract : (t : Table) (u v : Float) (r : Result State Fault) → k ≡ subtracts t → r ≡ answered (less z.running u v) (subtracted z (vanishes u v))
        → u ≡ entry (state_of z c y x).tables C p → v ≡ entry (state_of z c y x).tables t q → Gives k p q r c y x
    unfolding Run.step
    gives_subtract t u v r e is left right =
        rw (e, is, ← left, ← right)
        (answer-gives (less z.running u v) (subtracted z (vanishes u v)) (Run.subtracted (state_of z c y x) (vanishes u v)) (one_more (vanishes u v))
        (λ w. record { named = sound.named; in_c = sound.in_c; in_y = sound.in_y; in_x = sound.in_x }))

    pub gives_divide : (v : Float) (r : Result State Fault) → k ≡ divides → r ≡ answered (quotient z.running v) (divided_by z) → v ≡ entry (state_of z c y x).tables C p
        → Gives k p q r c y x
    unfolding Run.step
    gives_divide v r e is by =
        rw (e, is, ← by)
        (answer-gives (quotient z.running v) (divided_by z) (Run.divided_by (state_of z c y x)) (λ w. rw add-one)
        (λ w. record { named = sound.named; in_c = sound.in_c; in_y = sound.in_y; in_x = sound.in_x }))
