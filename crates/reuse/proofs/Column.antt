-- One place of a column after another: each that is held is given a slot.
use Prim.Native.Nat.{ℕ, zero, suc, ◌+◌, ◌-◌, ◌*◌, ◌≤◌, ◌<◌}
use native.Mathlib.Omega.{arith}
use mathlib.Core.Path.{◌≡◌, refl, ap, ◌∙◌}
use mathlib.Core.Bool.{Bool, true, false}
use mathlib.Core.List.{List}
use lib.ListN.{get_or}
use Rattle.model.specs.Label.{label}
use Rattle.model.specs.Fill.{Plan, held}
use Rattle.model.proofs.Plans.{pivot-held}
use Rattle.model.proofs.Labels.{Inside, label_down, label-range, label_in_column}
use Rattle.model.proofs.Reuse.{others}
use Rattle.model.proofs.Assign.{longer}
use Rattle.model.proofs.Assigned.{ColumnReached, column_passes, column-gives}
use Rattle.reuse.specs.Places.{Gave, ColumnAt}
use Rattle.reuse.specs.declared.Walk.{Walk}
use Rattle.reuse.proofs.Placed.{gave_passes, gave_gives, further, closed-few, others_fewer}
use Rattle.reuse.proofs.Freed.{gave-none}

module _ {n : ℕ} {L : Plan} {m t : ℕ} {given : List ℕ} {walk : Walk} (at : ColumnAt n L m t given walk) (low : 1 ≤ m) (below : m ≤ t)
    (high : t ≤ n) where
  here : Inside n t m
  here = omega arith

  -- what a place's number and the slots made are small enough for
  pub column_bounds : (walk.done < n * n) × (walk.made ≤ n * n)
  column_bounds =
      let r = at.reached.column in
      omega (arith, at.next, label-range n t m here, r.few, r.closed, closed-few n L walk.done)

  pub column-step : {given' : List ℕ} {after : Walk} → Gave given walk given' after → ColumnAt n L m (suc t) given' after
  column-step {given'} {after} gave = step (held n L t m) refl
    where
      pivots : (k : ℕ) → 1 ≤ k → k ≤ n → held n L k k ≡ true
      pivots = pivot-held n L at.good.complete

      next : suc after.done ≡ label n (suc t) m
      next = omega (arith, gave.passed, at.next, label_down n t m below)

      reached : {gs fs : List ℕ} {made : ℕ} → after.made ≡ made → ColumnReached n L m (suc t) (suc walk.done) gs fs made
          → ColumnReached n L m (suc t) after.done gs fs after.made
      reached e r = rw (gave.passed, e) r

      step : (b : Bool) → held n L t m ≡ b → ColumnAt n L m (suc t) given' after
      step true there =
          let h = gave_gives at.holds t m here at.next gave there at.reached.column.closed in
          record {
            gs = longer at.gs at.fs walk.made;
            fs = others at.fs;
            good = at.good;
            holds = h.0;
            next = next;
            reached = reached h.1 (column-gives n L pivots at.reached here below at.next there);
            few = omega (arith, at.few, others_fewer at.fs);
          }
      step false none =
          let h = gave_passes at.holds t m here at.next gave none in
          record {
            gs = at.gs;
            fs = at.fs;
            good = at.good;
            holds = h.0;
            next = next;
            reached = reached h.1 (column_passes n L pivots at.reached here below at.next none);
            few = at.few;
          }

-- after row t, the column's last place has a number
pub column-ends : {n : ℕ} {L : Plan} {m t : ℕ} {given : List ℕ} {walk : Walk} → ColumnAt n L m (suc t) given walk → 1 ≤ m → m ≤ t → t ≤ n
    → walk.done + (n - t) ≤ n * n
column-ends {n} {m = m} {t} at low below high =
    omega (arith, at.next, label_in_column n (suc t) m (omega arith), label_in_column n n m (omega arith), label-range n n m (omega arith))

-- a run of places without numbers
pub column-skips : {n : ℕ} {L : Plan} {m : ℕ} {given : List ℕ} (t r : ℕ) (walk : Walk) → ColumnAt n L m t given walk → 1 ≤ m → m ≤ t
    → t + r ≤ suc n → ((k : ℕ) → k < r → get_or given (walk.done + k) 0 ≡ 0) → ColumnAt n L m (t + r) given (further walk r)
column-skips t zero walk at-start low below high zeros =
    let places : t + 0 ≡ t = omega arith in
    let done : walk.done + 0 ≡ walk.done = omega arith in
    rw (places, done) at-start
column-skips {n} {L} {m} {given} t (suc r) walk at low below high zeros =
    let start : walk.done ≡ walk.done + 0 = omega arith in
    let first : get_or given walk.done 0 ≡ 0 = ap (λ q. get_or given q 0) start ∙ zeros 0 (omega arith) in
    let one = column-step at low below (omega arith) (gave-none refl at.holds.fits first) in
    let rest = column-skips (suc t) r (further walk 1) one low (omega arith) (omega arith) (λ k early. moved k (zeros (suc k) (omega arith))) in
    let places : suc t + r ≡ t + suc r = omega arith in
    let done : walk.done + 1 + r ≡ walk.done + suc r = omega arith in
    rw (places, done) at rest
  where
    moved : (k : ℕ) → get_or given (walk.done + suc k) 0 ≡ 0 → get_or given (walk.done + 1 + k) 0 ≡ 0
    moved k e = let same : walk.done + 1 + k ≡ walk.done + suc k = omega arith in ap (λ q. get_or given q 0) same ∙ e
