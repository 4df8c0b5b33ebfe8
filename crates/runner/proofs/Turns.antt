-- The loop along the chain, by the program's method: what holds after a record, how it goes on, stops and ends, and that it gets on.
use Prim.Native.Nat.{ℕ, ◌+◌, ◌*◌, ◌/◌, ◌-◌, ◌≤◌, ◌<◌}
use native.Mathlib.Omega.{arith}
use mathlib.Core.Path.{◌≡◌, refl, sym, ap, ap₂, subst, ◌∙◌}
use mathlib.Core.Bool.{Bool, true, false, cond, ◌||◌}
use mathlib.Core.List.{List, map}
use lib.Dec.{eqb}
use lib.ListN.{length, take, drop, get_or, length-map}
use lib.Seq.{drop-length}
use lib.Ieee.{Float}
use borrow.Author.Tests.{eqb-true, eqb-false, ne_eqb}
use Rattle.model.specs.Arith.{plus_zero, clean}
use Rattle.model.specs.Sweep.{moves_more, moved}
use Rattle.model.specs.Check.{word, next_of, chain, is_idle, complete, Kind, opens, subtracts, divides, closes, closes_pivot, none, kind_of}
use Rattle.model.specs.Check.{is_sweep, length_y, belongs, allowed}
use Rattle.model.specs.Run as Run
use Rattle.model.proofs.Passing.{both, Passed, fine-passed}
use Rattle.model.proofs.SweepSteps.{Sized, partly_none, moves_in, whole-entry}
use Rattle.model.proofs.Running.{Tells, sweep_kind, RunAfter, RunBefore, run_begins, run_ends, next_fits, run_next, run_goes_on, run_stops}
use Rattle.std.specs.Prelude.{Result, Ok, Err}
use Rattle.state.specs.declared.State.{State}
use Rattle.state.specs.declared.Fault.{Fault}
use Rattle.state.specs.States.{number_of_fault, most_made, state_of, unopened, Sound, SoundStep, moves_by}
use Rattle.state.proofs.Steps.{counted}
use Rattle.runner.specs.declared.Stop.{Stop}
use Rattle.runner.specs.Following.{Fit, in_place, holding, stepped_by, followed_of, ReadyBy, MovesBy, BeginsWith, EndsWith}
use Rattle.runner.proofs.Relying.{relies, relies_row}

-- the tables have the lengths that they had
pub record SameLengths (c₀ y₀ x₀ c y x : List Float) : Type 0 where
  pub of_c : length c ≡ length c₀
  pub of_y : length y ≡ length y₀
  pub of_x : length x ≡ length x₀

-- so has what stands in their places
same_place : (sweep : Bool) (given lent lent' : List Float) → length lent' ≡ length lent
    → length (in_place sweep given lent') ≡ length (in_place sweep given lent)
same_place true given lent lent' e = refl
same_place false given lent lent' e = e

-- how many records the index `next` leaves to the loop, 0 at the end of the chain
abbrev pub left : List ℕ → ℕ → ℕ
left W next = cond (eqb next 0) 0 (length W / 4 - next)

-- the operations made in a state
abbrev made_in : State → ℕ
made_in z = z.products + z.quotients

-- a run that began with state z₀ and the tables c₀, y₀ and x₀
module _ (W : List ℕ) (A B : List Float) (limit : Float) (sweep : Bool) (z₀ : State) (c₀ y₀ x₀ : List Float) where
  -- record `last` was the last to run, or record 0 if none was, and led to z with the tables c, y and x
  pub record LastRan (c y x : List Float) (z : State) (last : ℕ) : Type 0 where
    pub fit : Fit W (length A) (length B) (length c) (length y) (length x)
    pub method : is_sweep (word W 2) ≡ sweep
    pub inside : last < length W / 4
    pub few : made_in z₀ ≤ 29900000000
    pub begins : BeginsWith sweep (length A) (length B) (length x₀) z₀
    pub sound : Sound (length (in_place sweep A c)) (length (in_place sweep B y)) (length x) z
    pub after : RunAfter A B limit W sweep (holding sweep A B c₀ y₀ x₀ z₀) (made_in z₀) (holding sweep A B c y x z) z.moved last

  -- `next` is to run next
  pub record NextRuns (c y x : List Float) (z : State) (next : ℕ) : Type 0 where
    pub last : ℕ
    pub is : next_of W last ≡ next
    pub ran : LastRan c y x z last

-- ---- the start

first-inside : (W : List ℕ) → Passed 0 W → 0 < length W / 4
first-inside W passed = omega (arith, passed.some, passed.fours)

pub fresh_state : (c y x : List Float) → state_of unopened c y x ≡ Run.fresh (length x)
fresh_state c y x =
    let all : length x - 0 ≡ length x = omega arith in
    rw (all, drop-length x)

module _ {W : List ℕ} {A B : List Float} {limit : Float} where
  -- nothing ran yet
  pub starts : (sweep : Bool) {c y x : List Float} {z : State} → Fit W (length A) (length B) (length c) (length y) (length x) → is_sweep (word W 2) ≡ sweep
      → BeginsWith sweep (length A) (length B) (length x) z → LastRan W A B limit sweep z c y x c y x z 0
  starts false {c} {y} {x} {z} fit method fresh =
      subst (λ z. LastRan W A B limit false z c y x c y x z 0) (sym fresh) (record {
        fit = fit;
        method = method;
        inside = first-inside W (fine-passed W fit.checked);
        few = omega arith;
        begins = refl;
        sound = record { named = refl; in_c = omega arith; in_y = omega arith; in_x = omega arith };
        after = run_begins (fine-passed W fit.checked) (rw (fresh_state c y x) (record { order = fit.in_x; same = refl; room = tt }))
            (omega arith) (omega arith);
      })
  starts true {c} {y} {x} {z} fit method (whole, still) =
      let in_c = length-map A clean in
      let in_y = length-map B clean in
      let sound : Sound (length (map clean A)) (length (map clean B)) (length x) z =
      record { named = whole.named; in_c = omega (arith, whole.in_c); in_y = omega (arith, whole.in_y); in_x = omega (arith, whole.in_x) } in
      let counts = counted z (map clean A) (map clean B) x sound in
      record {
        fit = fit;
        method = method;
        inside = first-inside W (fine-passed W fit.checked);
        few = whole.few;
        begins = (whole, still);
        sound = sound;
        after = subst (λ moves. RunAfter A B limit W true (holding true A B c y x z) (made_in z) (holding true A B c y x z) moves 0) (sym still)
            (run_begins (fine-passed W fit.checked) (record {
              sized = record {
                order = fit.in_x;
                in_c = omega (arith, counts.of_c, whole.in_c, fit.in_a);
                in_y = omega (arith, counts.of_y, whole.in_y, fit.in_b);
                in_x = omega (arith, counts.of_x, whole.in_x, fit.in_x);
              };
              row = tt;
              partly = partly_none limit (drop (length x - z.x) x);
            }) (omega arith) whole.gone);
      }

-- ---- a turn

-- in a sweep a record moves what the state says
moves_same : (limit : Float) (A B x : List Float) (z : State) (N n : ℕ) → Sized N n (state_of z (map clean A) (map clean B) x).tables
    → z.x ≡ length x → (k : Kind) → moves_by limit z k x ≡ moves_in limit (state_of z (map clean A) (map clean B) x) k
unfolding moves_in
moves_same limit A B x z N n sized whole (opens t) = refl
moves_same limit A B x z N n sized whole (subtracts t) = refl
moves_same limit A B x z N n sized whole divides = refl
moves_same limit A B x z N n sized whole closes =
    let all : length x - z.x ≡ 0 = omega arith in
    ap (λ old. moves_more limit old z.running) (ap (λ i. get_or (drop i x) (z.target - 1) plus_zero) (sym all) ∙ sym (whole-entry z.target sized))
moves_same limit A B x z N n sized whole closes_pivot = refl
moves_same limit A B x z N n sized whole none = refl

-- X is whole in a sweep
whole-x : (A B x : List Float) (z : State) (N n : ℕ) → Sound (length (map clean A)) (length (map clean B)) (length x) z → length x ≡ N
    → Sized N n (state_of z (map clean A) (map clean B) x).tables → z.x ≡ length x
whole-x A B x z N n sound in_x sized = omega (arith, (counted z (map clean A) (map clean B) x sound).of_x, sized.in_x)

module _ {W : List ℕ} {A B : List Float} {limit : Float} {sweep : Bool} {z₀ : State} {c₀ y₀ x₀ : List Float} where
  module _ {c y x : List Float} {z : State} {k : ℕ} (b : NextRuns W A B limit sweep z₀ c₀ y₀ x₀ c y x z k) (some : k ≡ 0 → ⊥) where
    follows_some : next_of W b.last ≡ 0 → ⊥
    follows_some e = some (sym b.is ∙ e)

    -- the next record stands within the words
    pub fits : k < length W / 4
    fits = subst (λ n. n < length W / 4) b.is (next_fits b.ran.after follows_some).1

    abbrev Before : ℕ → Type 0
    Before n = RunBefore A B limit W sweep (holding sweep A B c₀ y₀ x₀ z₀) (made_in z₀) (holding sweep A B c y x z) z.moved n
        (word W (4 * n)) (word W (4 * n + 1)) (word W (4 * n + 2))

    before : Before k
    before = subst Before b.is (run_next b.ran.after follows_some)

    -- few operations were made
    pub few : made_in z < most_made
    few = omega (arith, before.made, fits, (fine-passed W b.ran.fit.checked).few, b.ran.few)

module _ {W : List ℕ} {A B : List Float} {limit : Float} {z₀ : State} {c₀ y₀ x₀ : List Float} where
  -- its step has all that it relies on
  pub ready_by : (sweep : Bool) {c y x : List Float} {z : State} {k : ℕ} (b : NextRuns W A B limit sweep z₀ c₀ y₀ x₀ c y x z k) (some : k ≡ 0 → ⊥)
      → ReadyBy sweep (length A) (length B) (length c) (length y) (length x) z (word W (4 * k)) (word W (4 * k + 1)) (word W (4 * k + 2))
  unfolding belongs allowed
  ready_by false {c} {y} {x} {z} {k} b some =
      let fit = b.ran.fit in
      let method = b.ran.method in
      let here = before b some in
      let in_y : length y ≡ word W 0 = rw method at fit.in_y in
      record {
        own = rw (belongs, method) at here.own;
        sound = b.ran.sound;
        few = few b some;
        gone = here.gone;
        rows = fit.in_b ∙ sym in_y;
        allowed = relies (word W 0) (word W 1) (word W 2) A c y x z b.ran.sound fit.in_a fit.in_c in_y fit.in_x _ _
            here.progress _ here.order (rw (allowed, method) at here.turn) here.stands;
      }
  ready_by true {c} {y} {x} {z} {k} b some =
      let fit = b.ran.fit in
      let here = before b some in
      let sized = here.stands.sized in
      let none = eqb-true (word W 2) 0 b.ran.method in
      let own : belongs 0 (word W (4 * k)) ≡ true = subst (λ s. belongs s (word W (4 * k)) ≡ true) none here.own in
      let counts = counted z (map clean A) (map clean B) x b.ran.sound in
      record {
        named = b.ran.sound.named;
        in_c = omega (arith, counts.of_c, sized.in_c, fit.in_a);
        in_y = omega (arith, counts.of_y, sized.in_y, fit.in_b);
        in_x = omega (arith, counts.of_x, sized.in_x, fit.in_x);
        few = few b some;
        gone = here.gone;
        own = own;
        allowed = relies_row (word W 0) (word W 1) limit A B _ x z z.moved here.progress fit.in_a fit.in_b fit.in_x here.stands _ _
            (kind_of (word W (4 * k))) (sweep_kind _ own) here.order (rw (allowed, b.ran.method) at here.turn);
      }

  -- a move is told as the run keeps it
  told_by : (sweep : Bool) {c y x : List Float} {z : State} {k : ℕ} (b : NextRuns W A B limit sweep z₀ c₀ y₀ x₀ c y x z k) (some : k ≡ 0 → ⊥) (z' : State)
      → MovesBy sweep limit z (kind_of (word W (4 * k))) x (Ok z')
      → Tells sweep z'.moved (z.moved || moves_in limit (holding sweep A B c y x z) (kind_of (word W (4 * k))))
  told_by false b some z' moves = tt
  told_by true {c} {y} {x} {z} {k} b some z' moves =
      let sized = (before b some).stands.sized in
      moves
      ∙ ap (λ m. z.moved || m) (moves_same limit A B x z (word W 0) (word W 1) sized
      (whole-x A B x z (word W 0) (word W 1) b.ran.sound b.ran.fit.in_x sized) (kind_of (word W (4 * k))))

  -- at the end of the chain everything is closed
  ends_by : (sweep : Bool) {c y x : List Float} {z : State} → NextRuns W A B limit sweep z₀ c₀ y₀ x₀ c y x z 0
      → EndsWith sweep limit (length A) (length B) x₀ c y x z₀ (Ok z)
  unfolding complete
  ends_by false {c} {y} {x} {z} b =
      let fit = b.ran.fit in
      let counts = counted z c y x b.ran.sound in
      let closed = subst (λ g. complete (word W 0) (word W 2) g ≡ true) (sym b.ran.after.stands.same) (run_ends b.ran.after b.is).1 in
      let in_c = both (eqb (length (take z.c c)) (word W 2)) _ (both (is_idle b.ran.after.progress.target) _ closed).1 in
      let in_y = both (eqb (length (take z.y y)) (length_y (word W 0) (word W 2))) (eqb (length (drop (length x - z.x) x)) (word W 0)) in_c.1 in (
        sym counts.of_c ∙ eqb-true (length (take z.c c)) (word W 2) in_c.0 ∙ sym fit.in_c,
        sym counts.of_y ∙ eqb-true (length (take z.y y)) (length_y (word W 0) (word W 2)) in_y.0 ∙ sym fit.in_y,
        sym counts.of_x ∙ eqb-true (length (drop (length x - z.x) x)) (word W 0) in_y.1 ∙ sym fit.in_x,
      )
  ends_by true {c} {y} {x} {z} b =
      let fit = b.ran.fit in
      let g = b.ran.after.progress in
      let closed = (run_ends b.ran.after b.is).1 in
      let in_c = both (eqb g.c (word W 2)) _ (both (is_idle g.target) _ closed).1 in
      let in_y = both (eqb g.y (length_y (word W 0) (word W 2))) (eqb g.x (word W 0)) in_c.1 in
      let rows = eqb-true g.x (word W 0) in_y.1 in
      let within = b.ran.after.stands in
      let sized = within.sized in
      let counts = counted z (map clean A) (map clean B) x b.ran.sound in
      let none : length x - z.x ≡ 0 = omega (arith, counts.of_x, sized.in_x, fit.in_x) in
      let none₀ : length x₀ - z₀.x ≡ 0 = omega (arith, b.ran.begins.0.in_x) in (
        record {
          named = b.ran.sound.named;
          in_c = omega (arith, counts.of_c, sized.in_c, fit.in_a);
          in_y = omega (arith, counts.of_y, sized.in_y, fit.in_b);
          in_x = omega (arith, counts.of_x, sized.in_x, fit.in_x);
          few = omega (arith, b.ran.after.made, b.ran.inside, (fine-passed W fit.checked).few);
          gone = b.ran.after.gone;
        },
        within.partly.told
            ∙ ap (λ r. moved limit r (drop (length x₀ - z₀.x) x₀) (drop (length x - z.x) x)) (rows ∙ sym fit.in_x)
            ∙ ap₂ (λ i j. moved limit (length x) (drop i x₀) (drop j x)) none₀ none,
      )

-- ---- the whole loop

module _ (W : List ℕ) (A B : List Float) (limit : Float) (sweep : Bool) (z₀ : State) (c₀ y₀ x₀ : List Float) where
  -- what the run ends with: where its chain led, and with what
  abbrev pub RunEnds : List Float → List Float → List Float → Result State Stop → Type 0
  RunEnds c y x r = (followed_of sweep A B c y x r ≡ Run.follow A B limit (holding sweep A B c₀ y₀ x₀ z₀) (chain W).links)
      × EndsWith sweep limit (length A) (length B) x₀ c y x z₀ r

module _ {W : List ℕ} {A B : List Float} {limit : Float} {sweep : Bool} {z₀ : State} {c₀ y₀ x₀ : List Float} where
  pub ended : {c y x : List Float} {z : State} → NextRuns W A B limit sweep z₀ c₀ y₀ x₀ c y x z 0 → RunEnds W A B limit sweep z₀ c₀ y₀ x₀ c y x (Ok z)
  ended b = (sym (run_ends b.ran.after b.is).0, ends_by sweep b)

  module _ {c y x : List Float} {z : State} {k : ℕ} (b : NextRuns W A B limit sweep z₀ c₀ y₀ x₀ c y x z k) (some : k ≡ 0 → ⊥) where
    pub ready : ReadyBy sweep (length A) (length B) (length c) (length y) (length x) z (word W (4 * k)) (word W (4 * k + 1)) (word W (4 * k + 2))
    ready = ready_by sweep b some

    -- r is what the step at record k gave, with the tables c', y' and x'
    module _ {c' y' x' : List Float} {r : Result State Fault} (same : SameLengths c y x c' y' x')
        (is : stepped_by sweep A B c' y' x' r
        ≡ Run.step A B limit (holding sweep A B c y x z) (kind_of (word W (4 * k))) (word W (4 * k + 1)) (word W (4 * k + 2)))
        (sound : SoundStep (length (in_place sweep A c)) (length (in_place sweep B y)) (length x) r)
        (moves : MovesBy sweep limit z (kind_of (word W (4 * k))) x r) where
      -- the run goes on
      pub turned : {z' : State} → r ≡ Ok z' → LastRan W A B limit sweep z₀ c₀ y₀ x₀ c' y' x' z' k
      turned {z'} e =
          let fit = b.ran.fit in
          record {
            fit = record {
              checked = fit.checked;
              in_a = fit.in_a;
              in_b = fit.in_b;
              in_c = same.of_c ∙ fit.in_c;
              in_y = same.of_y ∙ fit.in_y;
              in_x = same.of_x ∙ fit.in_x;
            };
            method = b.ran.method;
            inside = fits b some;
            few = b.ran.few;
            begins = b.ran.begins;
            sound = rw (same_place sweep A c c' same.of_c, same_place sweep B y y' same.of_y, same.of_x)
                (subst (SoundStep (length (in_place sweep A c)) (length (in_place sweep B y)) (length x)) e sound);
            after = run_goes_on b.ran.method (before b some) (holding sweep A B c' y' x' z') z'.moved
                (ap (stepped_by sweep A B c' y' x') (sym e) ∙ is)
                (told_by sweep b some z' (subst (MovesBy sweep limit z (kind_of (word W (4 * k))) x) e moves));
          }

      -- or stops there
      pub stopped-at : {fault : Fault} → r ≡ Err fault
          → RunEnds W A B limit sweep z₀ c₀ y₀ x₀ c' y' x' (Err (record { fault = fault; «record» = k; table = z.table; target = z.target }))
      stopped-at {fault} e = (
        sym (run_stops b.ran.method (before b some) (number_of_fault fault) (ap (stepped_by sweep A B c' y' x') (sym e) ∙ is)),
        b.ran.sound.named,
      )

  -- the next record, if there is one, is a later one
  pub gets_on : {c y x : List Float} {z : State} {k₀ k next : ℕ} → (k₀ ≡ 0 → ⊥) → k₀ ≤ k → k < length W / 4
      → LastRan W A B limit sweep z₀ c₀ y₀ x₀ c y x z k → next_of W k ≡ next → left W next < left W k₀
  gets_on {k₀ = k₀} {next = next} some from low ran is = rw (ne_eqb k₀ 0 some) (by (eqb next 0) refl)
    where
      by : (b : Bool) → eqb next 0 ≡ b → cond b 0 (length W / 4 - next) < length W / 4 - k₀
      by true e = omega arith
      by false e =
          let later = next_fits ran.after (λ none. eqb-false next 0 e (sym is ∙ none)) in
          omega arith
