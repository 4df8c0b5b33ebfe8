-- `arith::is_finite` meets its contract; `of_bits` opens the literal 0.0.
use lib.Ieee.{binary64, of_bits}
use Rattle.arith.proofs.Clean.{finite_test}
use Rattle.arith.proofs.is_finite.Statement.{statement}
use Rattle.arith.proofs.is_finite.Tie as tie

returns : tie.Need-returns
unfolding of_bits
returns c = finite_test binary64 c.args.value

pub is_finite_spec : {M : Type 1} → statement M
is_finite_spec = tie.close (tie.spec returns)
