-- `sides::close_in_rows`: each right side's target takes its running number, in the table that all of them work in.
use Prim.Native.Nat.{ℕ, ◌+◌, ◌-◌, ◌<◌}
use mathlib.Core.Path.{◌≡◌, sym, ap, subst, ◌∙◌}
use native.Mathlib.Omega.{arith}
use lib.ListN.{length, set}
use Rattle.model.specs.Formula.{X}
use Rattle.model.specs.Many.{part}
use Rattle.model.proofs.Parts.{part_length}
use Rattle.state.specs.declared.State.{State}
use Rattle.state.specs.States.{table_of, FreeIn}
use Rattle.state.proofs.Steps.{is_x}
use Rattle.sides.specs.Standing.{CloseReady}
use Rattle.sides.proofs.InRows.{closes-y, closes-x}
use Rattle.sides.proofs.close_in_rows.Goals as goal

-- the open target may be closed
module _ {count N lr ly lx : ℕ} {z : State} (ready : CloseReady count N lr ly lx z) where
  free-y : z.table ≡ 2 → z.y < N
  free-y e = subst (FreeIn 0 N N z) (ap table_of e) (ready.free 0)

  table-x : (z.table ≡ 2 → ⊥) → table_of z.table ≡ X
  table-x other = is_x z.table (λ e. ready.in_rows (ap table_of e)) other

  free-x : (z.table ≡ 2 → ⊥) → (lc : ℕ) → FreeIn lc N N z X
  free-x other lc = subst (FreeIn lc N N z) (table-x other) (ready.free lc)

pub close_each-requires-clause-laid : goal.close_each-requires-clause-laid
close_each-requires-clause-laid c =
    record { order = c.requires.order; within = free-y c.requires c.if-z-eq2.true; length = c.requires.in_y }

pub overflow_add-z : goal.overflow_add-z
overflow_add-z c = omega (arith, free-y c.requires c.if-z-eq2.true)

pub overflow_add-closed : goal.overflow_add-closed
overflow_add-closed c = omega (arith, free-x c.requires c.if-z-eq2.false 0)

pub overflow_sub-order : goal.overflow_sub-order
overflow_sub-order c = omega (arith, free-x c.requires c.if-z-eq2.false 0)

pub close_each-requires-else-z-eq2-clause-laid : goal.close_each-requires-else-z-eq2-clause-laid
close_each-requires-else-z-eq2-clause-laid c =
    record { order = c.requires.order; within = omega (arith, free-x c.requires c.if-z-eq2.false 0); length = c.requires.in_x }

pub returns-then-z-eq2 : goal.returns-then-z-eq2
returns-then-z-eq2 c =
    let a = c.args in
    let free = free-y c.requires c.if-z-eq2.true in
    record {
      closes_in_rows = λ r l cell h is.
          closes-y a.z cell l (part a.order a.y.now r) (part a.order a.x.now r) c.requires.in_rows _ (ap table_of c.if-z-eq2.true)
          (omega (arith, free, part_length a.order a.count a.y.now r c.requires.in_y h))
          (c.close_each.ensures r h ∙ ap (set (part a.order a.y.now r) a.z.y) (sym is));
      sound_after = λ lc sound. record { named = sound.named; in_c = sound.in_c; in_y = omega (arith, free); in_x = sound.in_x };
    }

pub returns-else-z-eq2 : goal.returns-else-z-eq2
returns-else-z-eq2 c =
    let a = c.args in
    let free = free-x c.requires c.if-z-eq2.false in
    record {
      closes_in_rows = λ r l cell h is.
          let x = part a.order a.x.now r in
          let long = part_length a.order a.count a.x.now r c.requires.in_x h in
          closes-x a.z cell l (part a.order a.y.now r) x c.requires.in_rows _ (table-x c.requires c.if-z-eq2.false) (rw long (free (length l)))
          (c.close_each-else-z-eq2.ensures r h ∙ ap (set x (a.order - (a.z.x + 1))) (sym is) ∙ rw long);
      sound_after = λ lc sound. record { named = sound.named; in_c = sound.in_c; in_y = sound.in_y; in_x = omega (arith, free 0) };
    }
