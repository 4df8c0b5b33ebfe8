-- One record of a sweep, kind by kind: what the code's step gives is the model's, with A in C's place and B in Y's.
use Prim.Native.Nat.{ℕ, ◌-◌}
use native.Mathlib.Omega.{arith}
use mathlib.Core.Path.{◌≡◌, refl, sym, ap, subst, ◌∙◌}
use mathlib.Core.Bool.{Bool, true, false, ◌||◌, ◌&&◌, or-false}
use mathlib.Core.List.{List, map}
use lib.Dec.{eqb, leb, ltb}
use lib.ListN.{length, take, get_or, set, length-map, length-set, get_or-map}
use lib.Ieee.{Float}
use borrow.Author.Tests.{eqb-true, leb-true, lt-ltb}
use Rattle.model.specs.Arith.{plus_zero, clean, Answer, number, overflow, zero_divisor, quotient, vanishes}
use Rattle.model.specs.Formula.{X, put_x, closed, starting, less}
use Rattle.model.specs.Sweep.{moves_more}
use Rattle.model.specs.Check.{Kind, opens, subtracts, divides, closes, kind_of, belongs}
use Rattle.model.specs.Run as Run
use Rattle.model.proofs.Passing.{both}
use Rattle.state.specs.declared.State.{State}
use Rattle.state.specs.declared.Fault.{Fault}
use Rattle.std.specs.Prelude.{Result, Ok}
use Rattle.state.specs.States.{state_of, stepped_of, opened, subtracted, divided_by, settled, answered, Sound, SoundStep}
use Rattle.state.specs.States.{AllowedInRow, SweepReady, moves_by, MovesStep}
use Rattle.state.proofs.Tables.{put-set}
use Rattle.state.proofs.Steps.{entry-c, entry-y, entry-x}
use Rattle.state.proofs.Arms.{Gives, gives_open, gives_subtract, gives_divide}

-- what a kind relies on
pub allowed-row : {la lb lx : ℕ} {z : State} {kind : ℕ} {k : Kind} {p q : ℕ} → SweepReady la lb lx z kind p q → kind_of kind ≡ k
    → AllowedInRow la lb lx z k p q
allowed-row {la} {lb} {lx} {z} {p = p} {q = q} ready e = subst (λ k. AllowedInRow la lb lx z k p q) e ready.allowed

-- of a sweep's kinds only 8 is none of 10, 11 and 12
pub only_closes : {k : ℕ} → belongs 0 k ≡ true → (k ≡ 10 → ⊥) → (k ≡ 11 → ⊥) → (k ≡ 12 → ⊥) → kind_of k ≡ closes
unfolding belongs kind_of
only_closes {k} own ten eleven twelve = by (eqb k 8) refl own
  where
    by : (eight : Bool) → eqb k 8 ≡ eight → eight || (leb 10 k && leb k 12) ≡ true → kind_of k ≡ closes
    by true e own = ap kind_of (eqb-true k 8 e)
    by false e own =
        let range = both (leb 10 k) (leb k 12) own in
        absurd (omega (arith, leb-true 10 k range.0, leb-true k 12 range.1))

-- an entry as it is read stands in the row of those
pub read-entry : (vs : List Float) (k : ℕ) → clean (get_or vs k plus_zero) ≡ get_or (map clean vs) k plus_zero
unfolding clean
read-entry vs k = sym (get_or-map clean vs k plus_zero)

module _ (A B : List Float) (limit : Float) (x : List Float) (z : State) (kind p q : ℕ)
    (ready : SweepReady (length A) (length B) (length x) z kind p q) where
  abbrev cs : List Float
  cs = map clean A

  abbrev ys : List Float
  ys = map clean B

  sound : Sound (length cs) (length ys) (length x) z
  sound = record {
    named = ready.named;
    in_c = omega (arith, ready.in_c, length-map A clean);
    in_y = omega (arith, ready.in_y, length-map B clean);
    in_x = omega (arith, ready.in_x);
  }

  -- what a step of a sweep gives: the model's step, a sound state, and whether a row moved
  abbrev pub GivesRow : Result State Fault → List Float → Type 0
  GivesRow r x' = (stepped_of r cs ys x' ≡ Run.step A B limit (state_of z cs ys x) (kind_of kind) p q)
      × (SoundStep (length A) (length B) (length x) r × MovesStep limit z (kind_of kind) x r)

  row-sound : (r : Result State Fault) → SoundStep (length cs) (length ys) (length x) r → SoundStep (length A) (length B) (length x) r
  row-sound r s =
      subst (λ n. SoundStep n (length B) (length x) r) (length-map A clean)
      (subst (λ n. SoundStep (length cs) n (length x) r) (length-map B clean) s)

  row_gives : (r : Result State Fault) → Gives A B limit cs ys x z sound (kind_of kind) p q r cs ys x → MovesStep limit z (kind_of kind) x r → GivesRow r x
  row_gives r gives moves = (gives.0, (row-sound r gives.1, moves))

  -- a record that closes nothing moves nothing
  unmoved-answer : (a : Answer) (f : Float → State) → ((v : Float) → (f v).moved ≡ (z.moved || false)) → (k : Kind) → moves_by limit z k x ≡ false
      → MovesStep limit z k x (answered a f)
  unmoved-answer (number v) f still k none = rw none (still v)
  unmoved-answer overflow f still k none = tt
  unmoved-answer zero_divisor f still k none = tt

  -- kinds 10, 11, 12 and 8
  pub row_opens : (v : Float) (r : State) → kind_of kind ≡ opens X → r ≡ opened z 3 p v → v ≡ clean (get_or B (p - 1) plus_zero) → GivesRow (Ok r) x
  unfolding Run.step starting
  row_opens v r e is from =
      let of = (allowed-row ready e).1 in
      let start = from ∙ read-entry B (p - 1) ∙ entry-y z cs ys x p (omega (arith, of, ready.in_y)) in
      row_gives (Ok r) (gives_open A B limit cs ys x z sound (kind_of kind) p q X p v r refl e is start)
      (rw (e, is) (sym (or-false z.moved)))

  pub row-subtracts : (u v : Float) (r : Result State Fault) → kind_of kind ≡ subtracts X → r ≡ answered (less z.running u v) (subtracted z (vanishes u v))
      → u ≡ clean (get_or A (p - 1) plus_zero) → v ≡ get_or x (q - 1) plus_zero → GivesRow r x
  row-subtracts u v r e is left right =
      let of = allowed-row ready e in
      let a = left ∙ read-entry A (p - 1) ∙ entry-c z cs ys x p (omega (arith, of.1, ready.in_c)) in
      let b = right ∙ entry-x z cs ys x q (omega (arith, ready.in_x)) (omega (arith, of.2, ready.in_x)) of.2.1 in
      row_gives r (gives_subtract A B limit cs ys x z sound (kind_of kind) p q X u v r e is a b)
      (rw (e, is) (unmoved-answer (less z.running u v) (subtracted z (vanishes u v)) (λ w. sym (or-false z.moved)) (subtracts X) refl))

  pub row-divides : (v : Float) (r : Result State Fault) → kind_of kind ≡ divides → r ≡ answered (quotient z.running v) (divided_by z)
      → v ≡ clean (get_or A (p - 1) plus_zero) → GivesRow r x
  row-divides v r e is by =
      let of = allowed-row ready e in
      let a = by ∙ read-entry A (p - 1) ∙ entry-c z cs ys x p (omega (arith, of, ready.in_c)) in
      row_gives r (gives_divide A B limit cs ys x z sound (kind_of kind) p q v r e is a)
      (rw (e, is) (unmoved-answer (quotient z.running v) (divided_by z) (λ w. sym (or-false z.moved)) divides refl))

  -- the state with the row closed, and X as xs
  abbrev closed_as : List Float → Run.State
  closed_as xs = record {
    tables = record { order = length x; c = take z.c cs; y = take z.y ys; x = xs };
    table = X;
    target = z.target;
    running = z.running;
    products = z.products;
    quotients = z.quotients;
    vanished = z.vanished;
  }

  pub row_closes : (r : State) (x' : List Float) → kind_of kind ≡ closes
      → r ≡ settled z (moves_more limit (get_or x (z.target - 1) plus_zero) z.running) → x' ≡ set x (z.target - 1) z.running → GivesRow (Ok r) x'
  unfolding Run.step closed put_x
  row_closes r x' e is put_in =
      let of = allowed-row ready e in
      let same : length x' ≡ length x = ap length put_in ∙ length-set x (z.target - 1) z.running in
      let whole : length x - z.x ≡ 0 = omega (arith, ready.in_x) in
      let past : ltb (length x - length x) z.target ≡ true = lt-ltb (length x - length x) z.target (omega (arith, of.1)) in
      let at : z.target - 1 - (length x - length x) ≡ z.target - 1 = omega arith in
      let into = put_in ∙ sym (put-set x (z.target - 1) z.running (omega (arith, of.1))) in (
        rw (e, is, of.0, closed, same, whole, past, at) (ap (λ xs. Run.going (closed_as xs)) into),
        (
          rw is (record {
            named = ready.named;
            in_c = omega (arith, ready.in_c);
            in_y = omega (arith, ready.in_y);
            in_x = omega (arith, ready.in_x);
          }),
          rw (e, is),
        ),
      )
