-- `arith::is_zero` meets its contract; `of_bits` opens the literal 0.0.
use lib.Ieee.{of_bits}
use Rattle.arith.proofs.Clean.{zero_test}
use Rattle.arith.proofs.is_zero.Statement.{statement}
use Rattle.arith.proofs.is_zero.Tie as tie

returns : tie.Need-returns
unfolding of_bits
returns c = zero_test c.args.value

pub is_zero_spec : {M : Type 1} → statement M
is_zero_spec = tie.close (tie.spec returns)
