-- `sides::each::close_each`: one part more is closed.
use native.Mathlib.Omega.{arith}
use lib.Ieee.{nan}
use Rattle.model.specs.Arith.{plus_zero}
use Rattle.state.proofs.Tables.{get_or-within}
use Rattle.sides.proofs.Cells.{closed_more}
use Rattle.sides.proofs.each.close_each.Goals as goal

pub loop-r-preserved : goal.loop-r-preserved
loop-r-preserved c =
    closed_more c.loop-r.invariant (omega arith) c.requires.laid.within _ (get_or-within c.args.running.now _ nan plus_zero (omega arith))
