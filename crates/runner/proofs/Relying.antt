-- What the check says of a record is what the step relies on.
use Prim.Native.Nat.{ℕ, suc, ◌+◌, ◌-◌}
use native.Mathlib.Omega.{arith}
use mathlib.Core.Path.{◌≡◌, refl, sym, subst}
use mathlib.Core.Bool.{Bool, true, ◌&&◌, false≢true}
use mathlib.Core.List.{List, map}
use lib.Dec.{leb, ltb, eqb}
use lib.ListN.{length, take, drop}
use lib.Ieee.{Float}
use borrow.Author.Tests.{ltb-true, leb-true, eqb-true}
use Rattle.model.specs.Label as Label
use Rattle.model.specs.Label.{within}
use Rattle.model.specs.Arith.{clean}
use Rattle.model.specs.Formula.{Table, C, Y, X}
use Rattle.model.specs.Check.{Open, idle, busy, Progress, Kind, opens, subtracts, divides, closes, closes_pivot, none, in_order, in_turn, in_row}
use Rattle.model.proofs.Within.{within-range}
use Rattle.model.proofs.Passing.{both}
use Rattle.model.proofs.Stepping.{progress_in, OpenRoom, Counted}
use Rattle.model.proofs.SweepSteps.{OpenRow, Within, OfSweep}
use Rattle.state.specs.declared.State.{State}
use Rattle.state.specs.States.{state_of, Sound, Free, Allowed, AllowedInRow}
use Rattle.state.proofs.Steps.{Counts, counted}

module _ (N n s : ℕ) (A c y x : List Float) (z : State) (sound : Sound (length c) (length y) (length x) z)
    (in_a : length A ≡ n) (in_c : length c ≡ s) (in_y : length y ≡ N) (in_x : length x ≡ N) where
  counts : Counts z c y x
  counts = counted z c y x sound

  -- an open target has room
  room-free : (u : Table) (k : ℕ) → OpenRoom N s (busy u k) (state_of z c y x) → Free (length c) (length y) (length x) z
  room-free C k room = rw room.0 (omega (arith, counts.of_c, room.1))
  room-free Y k room = rw room.0 (omega (arith, counts.of_y, room.1))
  room-free X k room = rw room.0 (omega (arith, counts.of_x, room.1))

  module _ (p q : ℕ) where
    -- kind by kind
    relies_kind : (o : Open) (k : Kind) → in_order k o ≡ true → in_turn N n s k p q (progress_in o (state_of z c y x)) ≡ true → OpenRoom N s o (state_of z c y x)
        → Allowed (length A) (length c) (length y) (length x) z k p q
    unfolding in_order in_turn
    relies_kind o (opens C) order turn room =
        let t = both (leb p n) (within q s && leb q (suc (length (take z.c c)))) turn in
        omega (arith, leb-true p n t.0)
    relies_kind o (opens Y) order turn room =
        let t = both (eqb p (suc (length (take z.y y)))) (leb p N) turn in
        omega (arith, eqb-true p (suc (length (take z.y y))) t.0, leb-true p N t.1)
    relies_kind o (opens X) order turn room =
        let t = both (ltb 0 p && eqb (p + length (drop (length x - z.x) x)) N) (leb p (length (take z.y y))) turn in
        let u = both (ltb 0 p) (eqb (p + length (drop (length x - z.x) x)) N) t.0 in
        omega (arith, counts.of_y, ltb-true 0 p u.0, leb-true p (length (take z.y y)) t.1)
    relies_kind o (subtracts C) order turn room =
        let t = both (within p (length (take z.c c))) (within q (length (take z.c c))) turn in
        omega (arith, counts.of_c, within-range p (length (take z.c c)) t.0, within-range q (length (take z.c c)) t.1)
    relies_kind o (subtracts Y) order turn room =
        let t = both (within p (length (take z.c c))) (within q (length (take z.y y))) turn in
        omega (arith, counts.of_c, counts.of_y, within-range p (length (take z.c c)) t.0, within-range q (length (take z.y y)) t.1)
    relies_kind o (subtracts X) order turn room =
        let m = N - length (drop (length x - z.x) x) in
        let t = both (within p (length (take z.c c))) (ltb m q && leb q N) turn in
        let u = both (ltb m q) (leb q N) t.1 in
        omega (arith, counts.of_c, counts.of_x, within-range p (length (take z.c c)) t.0, ltb-true m q u.0, leb-true q N u.1)
    relies_kind o divides order turn room = omega (arith, counts.of_c, within-range p (length (take z.c c)) turn)
    relies_kind (busy u k) closes order turn room = room-free u k room
    relies_kind idle closes order turn room = absurd (false≢true order)
    relies_kind (busy u k) closes_pivot order turn room = room-free u k room
    relies_kind idle closes_pivot order turn room = absurd (false≢true order)
    relies_kind o none order turn room = tt

    pub relies : (g : Progress) (k : Kind) → in_order k g.target ≡ true → in_turn N n s k p q g ≡ true → Counted N s g (state_of z c y x)
        → Allowed (length A) (length c) (length y) (length x) z k p q
    relies g k order turn stands =
        relies_kind g.target k order (subst (λ h. in_turn N n s k p q h ≡ true) (sym stands.same) turn) stands.room

-- the same in a sweep, where A stands in C's place and B in Y's
module _ (N n : ℕ) (limit : Float) (A B olds x : List Float) (z : State) (moves : Bool) (g : Progress) (in_a : length A ≡ n) (in_b : length B ≡ N)
    (in_x : length x ≡ N) (within : Within N n limit olds g (state_of z (map clean A) (map clean B) x) moves) (p q : ℕ) where
  pub relies_row : (k : Kind) → OfSweep k → in_order k g.target ≡ true → in_row N n k p q g ≡ true → AllowedInRow (length A) (length B) (length x) z k p q
  unfolding in_row in_order
  relies_row (opens X) of order turn =
      let t = both (eqb p (suc g.x)) (leb p N) turn in
      (refl, omega (arith, eqb-true p (suc g.x) t.0, leb-true p N t.1))
  relies_row (subtracts X) of order turn =
      let t = both (Label.within p n) (Label.within q N) turn in
      (refl, omega (arith, within-range p n t.0), omega (arith, within-range q N t.1))
  relies_row divides of order turn = omega (arith, within-range p n turn)
  relies_row closes of order turn = by g.target order within.row
    where
      by : (o : Open) → in_order closes o ≡ true → OpenRow N g.x o (state_of z (map clean A) (map clean B) x)
          → AllowedInRow (length A) (length B) (length x) z closes p q
      by idle order row = absurd (false≢true order)
      by (busy C k) order row = absurd row
      by (busy Y k) order row = absurd row
      by (busy X k) order row = (row.0, omega (arith, row))
  relies_row (opens C) of order turn = elim of [ ]
  relies_row (opens Y) of order turn = elim of [ ]
  relies_row (subtracts C) of order turn = elim of [ ]
  relies_row (subtracts Y) of order turn = elim of [ ]
  relies_row closes_pivot of order turn = elim of [ ]
  relies_row none of order turn = elim of [ ]
