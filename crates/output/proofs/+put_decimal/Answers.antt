-- `output::put_decimal` puts the digits of a tenth, and then the last digit.
use Rattle.std.proofs.Common.{arith}
use Rattle.std.proofs.lemmas.Grind.{common_steps}
use Rattle.output.proofs.Digits.{decimal-one, decimal_more}
use Rattle.output.proofs.Places.{put_byte}
use Rattle.output.proofs.+put_decimal.Goals as goal

pub bounds-out-at : goal.bounds-out-at
bounds-out-at t c = grind (arith, common_steps, decimal-one)

pub returns-then-n-lt10 : goal.returns-then-n-lt10
returns-then-n-lt10 t c = grind (arith, common_steps, decimal-one)

pub put_decimal-end-requires : goal.put_decimal-end-requires
put_decimal-end-requires t c = grind (arith, common_steps, decimal_more)

-- the place after a tenth's digits lies in the buffer
pub bounds-out-end : goal.bounds-out-end
bounds-out-end t c = grind (arith, common_steps, decimal_more)

pub returns : goal.returns
returns t c = rw (decimal_more c.args.n c.ranges.n.fits c.if-n-lt10.false) (put_byte _ c.put_decimal-end.ensures (bounds-out-end t c))
