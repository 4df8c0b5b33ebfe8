-- `arith::read` meets its contract. That an `f64` fits binary64 is known of a parameter.
use lib.Ieee.{binary64, of_bits}
use denote.Floats.{passes}
use Rattle.arith.proofs.Clean.{add_nought}
use Rattle.arith.proofs.read.Statement.{statement}
use Rattle.arith.proofs.read.Tie as tie

returns : tie.Need-returns
unfolding of_bits
returns c = add_nought binary64 c.args.value (passes _ c.well_formed.0.1)

pub read_spec : {M : Type 1} → statement M
read_spec = tie.close (tie.spec returns)
