-- `sides::each::subtract_one`: the operation's case decides what is written.
use native.Mathlib.Omega.{arith}
use Rattle.sides.proofs.Cells.{one_goes, one-vanishes, one-subtracts}
use Rattle.sides.proofs.each.subtract_one.Goals as goal

pub returns-in-Number : goal.returns-in-Number
returns-in-Number c =
    one-subtracts _ _ _ _ (omega arith) c.if-out-r-ne0.false c.in-Number.is (one_goes _ _ _ _ (omega arith)) _ _
    c.less.ensures.answer c.less.ensures.vanished

pub returns-in-Vanished : goal.returns-in-Vanished
returns-in-Vanished c =
    one-subtracts _ _ _ _ (omega arith) c.if-out-r-ne0.false c.in-Vanished.is (one-vanishes _ _ _ _ (omega arith) (omega arith)) _ _
    c.less.ensures.answer c.less.ensures.vanished
