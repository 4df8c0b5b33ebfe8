-- `sides::each::subtract_each`: the product is subtracted at one side more.
use native.Mathlib.Omega.{arith}
use mathlib.Core.Path.{ap}
use lib.Ieee.{nan}
use Rattle.model.specs.Arith.{plus_zero}
use Rattle.state.proofs.Tables.{get_or-within}
use Rattle.sides.specs.Cells.{cell_of, if_going, subtracted}
use Rattle.sides.proofs.Cells.{one_as, changed_more, laid_within}
use Rattle.sides.proofs.each.subtract_each.Goals as goal

pub loop-r-preserved : goal.loop-r-preserved
loop-r-preserved c =
    let a = c.args in
    let l = c.loop-r in
    let value = get_or-within a.values.now _ nan plus_zero (laid_within l.r c.requires.laid (omega arith)) in
    changed_more l.invariant _ _ (omega arith) (omega arith) (omega arith)
    (one_as c.subtract_one.ensures _ (ap (λ v. if_going (subtracted a.at a.factor v) (cell_of l.running l.out l.r)) value))
