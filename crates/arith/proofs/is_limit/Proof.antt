-- `arith::is_limit` meets its contract; `of_bits` opens the literal 0.0.
use borrow.Author.Rules.{rules}
use lib.Ieee.{of_bits}
use Rattle.model.specs.Arith.{is_limit}
use Rattle.arith.proofs.is_limit.Statement.{statement}
use Rattle.arith.proofs.is_limit.Tie as tie

is_finite-requires : tie.Need-is_finite-requires
is_finite-requires c κs = search rules

returns-then-is_finite : tie.Need-returns-then-is_finite
unfolding is_limit of_bits
returns-then-is_finite c = rw (is_limit, ← c.is_finite.ensures, c.if-is_finite.true)

returns-else-is_finite : tie.Need-returns-else-is_finite
unfolding is_limit
returns-else-is_finite c = rw (is_limit, ← c.is_finite.ensures, c.if-is_finite.false)

pub is_limit_spec : {M : Type 1} → statement M
is_limit_spec = tie.close (tie.spec is_finite-requires returns-then-is_finite returns-else-is_finite)
