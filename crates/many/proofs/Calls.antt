-- The checks of the call: what each refuses, and what a call that passes them all may rely on.
use Prim.Native.Nat.{ℕ, ◌*◌, ◌≤◌, ◌<◌}
use native.Mathlib.Omega.{arith}
use mathlib.Core.Path.{◌≡◌, refl, sym, ◌∙◌}
use mathlib.Core.Bool.{Bool, true, false}
use mathlib.Core.List.{List}
use borrow.Author.Tests.{eqb-true}
use lib.Dec.{eqb}
use lib.ListN.{length, replicate}
use lib.Ieee.{Float}
use Rattle.model.specs.Label.{is_order, within}
use Rattle.model.specs.Check.{word, Verdict, fine, refusal, check_from}
use Rattle.model.specs.Formula.{C, Y, X}
use Rattle.model.specs.Run.{check_values}
use Rattle.model.specs.Many.{Outcomes, sides, none_run, ran_many, replies, verdict, leaves_many}
use Rattle.model.specs.Boundary.{many_numbers}
use Rattle.model.proofs.Within.{within-range}
use Rattle.model.proofs.Passing.{both, from_passed}
use Rattle.model.proofs.Sides.{none-checked, none-counted, none_lengths, none_values, all_run}
use Rattle.many.specs.Passes.{lengths_fit, FitMany, endings}

-- record 0 is there, and the order is small
pub head-fits : (W : List ℕ) → check_from 1 W ≡ fine → (2 < length W) × (word W 0 ≤ 600)
head-fits W e =
    let p = from_passed 1 W e in
    (omega (arith, p.some, p.fours), (within-range (word W 0) 600 (both (is_order (word W 0)) _ p.head).0).1)

-- where 14 passes, the lengths are those that the pass relies on
pub fit-many : (W : List ℕ) (count la lb lc ly lx : ℕ) → check_from 1 W ≡ fine → within count 64 ≡ true → lengths_fit W count la lb lc ly lx ≡ true
    → FitMany W count la lb lc ly lx
fit-many W count la lb lc ly lx e few f =
    let a = both (eqb la (word W 1)) _ f in
    let b = both (eqb lb (count * word W 0)) _ a.1 in
    let s = both (eqb lc (word W 2)) _ b.1 in
    let n = both (eqb ly (count * word W 0)) (eqb lx (count * word W 0)) s.1 in
    record {
      checked = e;
      sides = few;
      in_a = eqb-true la (word W 1) a.0;
      in_b = eqb-true lb (count * word W 0) b.0;
      in_c = eqb-true lc (word W 2) s.0;
      in_y = eqb-true ly (count * word W 0) n.0;
      in_x = eqb-true lx (count * word W 0) n.1;
    }

-- a call that is refused runs no side
pub refused_is : (o : Outcomes) (r d : ℕ) → refusal r d ≡ verdict o → o ≡ none_run r d
unfolding verdict
refused_is (sides os) r d e = let z : ◌≡◌ {A = ℕ} 0 1 = cc in absurd (omega arith)
refused_is (none_run n k) r d e = cc

module _ (W : List ℕ) (count : ℕ) (A B : List Float) (limit : Float) (lc ly lx : ℕ) where
  abbrev Call : Outcomes
  Call = ran_many W count A B limit lc ly lx

  abbrev Fits : Bool
  Fits = lengths_fit W count (length A) (length B) lc ly lx

  -- 7 to 13, 25 and 14
  pub verdict-checked : (r d : ℕ) → check_from 1 W ≡ refusal r d → refusal r d ≡ verdict Call
  unfolding verdict
  verdict-checked r d e = rw (none-checked W count A B limit lc ly lx r d e)

  pub verdict-counted : check_from 1 W ≡ fine → within count 64 ≡ false → refusal 25 0 ≡ verdict Call
  unfolding verdict
  verdict-counted e few = rw (none-counted W count A B limit lc ly lx e few)

  pub verdict_lengths : check_from 1 W ≡ fine → within count 64 ≡ true → Fits ≡ false → refusal 14 0 ≡ verdict Call
  unfolding verdict
  verdict_lengths e few f = rw (none_lengths W count A B limit lc ly lx e few f)

  -- then 15 and 21 decide
  pub verdict_values : check_from 1 W ≡ fine → within count 64 ≡ true → Fits ≡ true → check_values A B limit ≡ verdict Call
  unfolding verdict
  verdict_values e few f = go (check_values A B limit) refl
    where
      go : (v : Verdict) → check_values A B limit ≡ v → check_values A B limit ≡ verdict Call
      go (refusal r d) v = rw (none_values W count A B limit lc ly lx r d e few f v) v
      go fine v = rw (all_run W count A B limit lc ly lx e few f v) v

  -- a call that passes all its checks
  pub call_fits : fine ≡ verdict Call → FitMany W count (length A) (length B) lc ly lx × (Call ≡ sides (endings W count A B limit))
  unfolding verdict
  call_fits ran = checked (check_from 1 W) refl
    where
      Passes : Type 0
      Passes = FitMany W count (length A) (length B) lc ly lx × (Call ≡ sides (endings W count A B limit))

      never : {r d : ℕ} → refusal r d ≡ verdict Call → Passes
      never e = let z : ◌≡◌ {A = ℕ} 0 1 = cc in absurd (omega arith)

      valued : (v : Verdict) → check_from 1 W ≡ fine → within count 64 ≡ true → Fits ≡ true → check_values A B limit ≡ v → Passes
      valued (refusal r d) e few f v = never (sym v ∙ verdict_values e few f)
      valued fine e few f v = (fit-many W count _ _ lc ly lx e few f, all_run W count A B limit lc ly lx e few f v)

      fitted : (b : Bool) → check_from 1 W ≡ fine → within count 64 ≡ true → Fits ≡ b → Passes
      fitted false e few f = never (verdict_lengths e few f)
      fitted true e few f = valued (check_values A B limit) e few f refl

      counted : (b : Bool) → check_from 1 W ≡ fine → within count 64 ≡ b → Passes
      counted false e few = never (verdict-counted e few)
      counted true e few = fitted Fits e few refl

      checked : (v : Verdict) → check_from 1 W ≡ v → Passes
      checked (refusal r d) e = never (verdict-checked r d e)
      checked fine e = counted (within count 64) e refl

-- ---- what the call leaves

module _ (W : List ℕ) (out : List ℕ) (c y x c' y' x' : List Float) where
  -- a call that ends so leaves its numbers and C, Y and X so
  abbrev pub Leaves : Outcomes → Type 0
  Leaves o = (out ≡ many_numbers (replies W o))
      × ((c' ≡ leaves_many o (word W 0) C c) × ((y' ≡ leaves_many o (word W 0) Y y) × (x' ≡ leaves_many o (word W 0) X x)))

-- one that is refused leaves zeros, and C, Y and X as they were
pub leaves_none : (W : List ℕ) (c y x : List Float) (r d : ℕ) → Leaves W (replicate 257 0) c y x c y x (none_run r d)
unfolding replies leaves_many many_numbers
leaves_none W c y x r d = (refl, (refl, (refl, refl)))
