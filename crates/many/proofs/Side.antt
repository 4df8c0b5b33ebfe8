-- One right side where its own run ended: what it tells, and what its parts of Y and X and the shared C hold.
use Prim.Native.Nat.{ℕ, ◌-◌, ◌<◌}
use native.Mathlib.Omega.{arith}
use mathlib.Core.Path.{◌≡◌, refl, sym, ap, ap₂, subst}
use mathlib.Core.Bool.{Bool, true, false, cond}
use mathlib.Core.List.{List, [], ◌∷◌, Memᴰ}
use borrow.Author.Tests.{eq-eqb, ne_eqb}
use lib.Dec.{eqb}
use lib.ListN.{length, drop, replicate, length-replicate}
use lib.Seq.{take_all}
use lib.Ieee.{Float}
use Rattle.model.specs.Arith.{plus_zero}
use Rattle.model.specs.Formula.{Y, X}
use Rattle.model.specs.Run.{Outcome, solution, stopped, refused_by, unsettled_at, Followed, through, halted, followed, reply, leaves}
use Rattle.model.specs.Many.{shared_c}
use Rattle.model.specs.Boundary.{refusal_number, side_numbers}
use Rattle.model.proofs.Lists.{Each}
use Rattle.model.proofs.Many.{Unsolved}
use Rattle.state.specs.declared.State.{State}
use Rattle.sides.specs.Cells.{Cell, if_going}
use Rattle.sides.specs.Standing.{StandsAt}
use Rattle.many.specs.Passes.{told}

-- a side's four numbers
abbrev pub numbers_of : Cell → List ℕ
numbers_of cell = cell.answer ∷ cell.table ∷ cell.target ∷ cell.gone ∷ []

-- to tell changes no answer
pub told-answer : (products quotients vanished : ℕ) (cell : Cell) → (if_going (told products quotients vanished) cell).answer ≡ cell.answer
told-answer products quotients vanished cell = go (eqb cell.answer 0)
  where
    go : (goes : Bool) → (cond goes (told products quotients vanished cell) cell).answer ≡ cell.answer
    go true = refl
    go false = refl

-- an ending by 16 or 17 is told by a number
refused : (n k : ℕ) {a : ℕ} → 0 < n → a ≡ refusal_number n k → a ≡ 0 → ⊥
refused n k some is none = omega arith

-- a run that is solved has this C, and the others stopped at a record
abbrev pub HoldsC : List Float → Outcome → Type 0
HoldsC c (solution t p q g k) = t.c ≡ c
HoldsC c (stopped r k t n) = Unit {0}
HoldsC c (refused_by r d) = ⊥
HoldsC c (unsettled_at t) = ⊥

module _ (z : State) (cell : Cell) (c y x : List Float) where
  -- its numbers, whatever its running number is
  pub tells : (v : Float) (f : Followed) → StandsAt z cell c y x f
      → numbers_of (if_going (told z.products z.quotients z.vanished)
      (record { running = v; answer = cell.answer; table = cell.table; target = cell.target; gone = cell.gone })) ≡ side_numbers (reply (followed f))
  unfolding followed reply
  tells v (through w) (goes, is) = rw (is, eq-eqb _ _ goes) (ap₂ (λ a g. a ∷ z.products ∷ z.quotients ∷ g ∷ []) goes (omega arith))
  tells v (halted n k t j) (some, is, table, target, gone) = rw (ne_eqb _ _ (refused n k some is), is, table, target, gone)

  -- a side that goes on is solved, and one that was refused is not
  pub going-solved : (f : Followed) → StandsAt z cell c y x f → cell.answer ≡ 0 → Unsolved (followed f) → ⊥
  unfolding followed
  going-solved (through w) s goes un = un
  going-solved (halted n k t j) s goes un = refused n k s.0 s.1 goes

  pub ended_unsolved : (f : Followed) → StandsAt z cell c y x f → (cell.answer ≡ 0 → ⊥) → Unsolved (followed f)
  unfolding followed
  ended_unsolved (through w) (goes, is) ended = ended goes
  ended_unsolved (halted n k t j) s ended = tt

  -- what it holds of C, if all of C is closed where a side goes on
  pub holds-c : (f : Followed) → StandsAt z cell c y x f → (cell.answer ≡ 0 → z.c ≡ length c) → HoldsC c (followed f)
  unfolding followed
  holds-c (through w) (goes, is) whole = rw is (take_all z.c c (omega (arith, whole goes)))
  holds-c (halted n k t j) s whole = tt

  -- and what its parts of Y and X hold once that of a refused side is cleared
  module _ (N : ℕ) where
    pub holds-y : (f : Followed) → StandsAt z cell c y x f → (cell.answer ≡ 0 → z.y ≡ N) → length y ≡ N
        → leaves (followed f) Y (replicate N plus_zero) ≡ cond (eqb cell.answer 0) y (replicate N plus_zero)
    unfolding followed leaves
    holds-y (through w) (goes, is) whole long = rw (is, eq-eqb _ _ goes) (take_all z.y y (omega (arith, whole goes)))
    holds-y (halted n k t j) s whole long = rw (ne_eqb _ _ (refused n k s.0 s.1), length-replicate)

    pub holds-x : (f : Followed) → StandsAt z cell c y x f → (cell.answer ≡ 0 → z.x ≡ N) → length x ≡ N
        → leaves (followed f) X (replicate N plus_zero) ≡ cond (eqb cell.answer 0) x (replicate N plus_zero)
    unfolding followed leaves
    holds-x (through w) (goes, is) whole long =
        let all : length x - z.x ≡ 0 = omega (arith, whole goes) in
        rw (is, eq-eqb _ _ goes) (ap (λ k. drop k x) all)
    holds-x (halted n k t j) s whole long = rw (ne_eqb _ _ (refused n k s.0 s.1), length-replicate)

-- C is that of the sides that are solved, if one is
pub shared_c-held : (os : List Outcome) (c vs : List Float) {o : Outcome} → Memᴰ o os → (Unsolved o → ⊥) → Each (HoldsC c) os → shared_c os vs ≡ c
unfolding shared_c
shared_c-held (solution t p q g k ∷ os) c vs m solved each = each (solution t p q g k) (Memᴰ.head refl)
shared_c-held (stopped r k t n ∷ os) c vs (Memᴰ.head e) solved each = absurd (solved (subst Unsolved (sym e) tt))
shared_c-held (stopped r k t n ∷ os) c vs (Memᴰ.tail m) solved each = shared_c-held os c vs m solved (λ o m. each o (Memᴰ.tail m))
shared_c-held (refused_by r d ∷ os) c vs m solved each = absurd (each (refused_by r d) (Memᴰ.head refl))
shared_c-held (unsettled_at t ∷ os) c vs m solved each = absurd (each (unsettled_at t) (Memᴰ.head refl))
shared_c-held [] c vs {o = o} m solved each = elim m [ ]
