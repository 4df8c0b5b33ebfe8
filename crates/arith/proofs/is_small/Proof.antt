-- `arith::is_small` meets its contract: the second comparison counts only where the first holds, as in `&&`.
use Rattle.model.specs.Arith.{is_small}
use Rattle.arith.proofs.is_small.Statement.{statement}
use Rattle.arith.proofs.is_small.Tie as tie

returns-then-limit-value : tie.Need-returns-then-limit-value
unfolding is_small
returns-then-limit-value c = rw (is_small, c.if-limit-value.true)

returns-else-limit-value : tie.Need-returns-else-limit-value
unfolding is_small
returns-else-limit-value c = rw (is_small, c.if-limit-value.false)

pub is_small_spec : {M : Type 1} → statement M
is_small_spec = tie.close (tie.spec returns-then-limit-value returns-else-limit-value)
