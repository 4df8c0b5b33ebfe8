-- `many::clear_ended`: one side more, whose part is cleared, or which goes on.
use Prim.Native.Nat.{◌+◌, ◌-◌, ◌*◌}
use native.Mathlib.Omega.{arith}
use Rattle.many.proofs.Cleared.{cleared-going, cleared-ended}
use Rattle.many.proofs.clear_ended.Goals as goal
use Rattle.many.proofs.clear_ended.Goals.{then-out-r-ne0, else-out-r-ne0}

pub loop-r-preserved : goal.loop-r-preserved
loop-r-preserved c =
    let order = c.args.order in
    let first = c.loop-r.r * order in
    elim c.if-out-r-ne0.branch [
      | then-out-r-ne0 w ↦
          rw w.values-is
          (cleared-ended c.loop-r.invariant (first + order - first) _ c.loop-r-test.true w.if-out-r-ne0.true (omega arith) w.clear.ensures)
      | else-out-r-ne0 w ↦ rw w.values-is (cleared-going c.loop-r.invariant c.loop-r-test.true w.if-out-r-ne0.false)
    ]
