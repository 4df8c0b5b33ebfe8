-- `arith::answer` meets its contract: each arm is what `cond` picks.
use mathlib.Core.Path.{refl}
use borrow.Author.Rules.{rules}
use Rattle.arith.proofs.answer.Statement.{statement}
use Rattle.arith.proofs.answer.Tie as tie

is_finite-requires : tie.Need-is_finite-requires
is_finite-requires c κs = search rules

returns-then-is_finite : tie.Need-returns-then-is_finite
returns-then-is_finite c = (rw (← c.is_finite.ensures, c.if-is_finite.true), refl)

returns-else-is_finite : tie.Need-returns-else-is_finite
returns-else-is_finite c = (rw (← c.is_finite.ensures, c.if-is_finite.false), refl)

pub answer_spec : {M : Type 1} → statement M
answer_spec = tie.close (tie.spec is_finite-requires returns-then-is_finite returns-else-is_finite)
