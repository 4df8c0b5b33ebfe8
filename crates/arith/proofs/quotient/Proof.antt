-- `arith::quotient` meets its contract: a zero divisor is refused, and any other quotient is read, and settled.
use mathlib.Core.Path.{refl, ◌∙◌}
use borrow.Author.Rules.{rules}
use Rattle.model.specs.Arith.{quotient}
use Rattle.arith.proofs.Clean.{settles}
use Rattle.arith.proofs.quotient.Statement.{statement}
use Rattle.arith.proofs.quotient.Tie as tie

is_zero-requires : tie.Need-is_zero-requires
is_zero-requires c κs = search rules

read-requires : tie.Need-read-requires
read-requires c κs = search rules

answer-requires : tie.Need-answer-requires
answer-requires c κs = search rules

returns-then-is_zero : tie.Need-returns-then-is_zero
unfolding quotient
returns-then-is_zero c = (rw (← c.is_zero.ensures, c.if-is_zero.true), refl)

returns-else-is_zero : tie.Need-returns-else-is_zero
unfolding quotient
returns-else-is_zero c = (
  rw (← c.is_zero.ensures, c.if-is_zero.false) (c.answer.ensures.0 ∙ settles _ _ c.read.ensures),
  c.answer.ensures.1,
)

pub quotient_spec : {M : Type 1} → statement M
quotient_spec = tie.close (tie.spec is_zero-requires read-requires answer-requires returns-then-is_zero returns-else-is_zero)
