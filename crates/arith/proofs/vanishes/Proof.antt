-- `arith::vanishes` meets its contract: its tests are the definition's, that of the product first.
use mathlib.Core.Bool.{and-true, and-false}
use borrow.Author.Rules.{rules}
use Rattle.model.specs.Arith.{vanishes}
use Rattle.arith.proofs.vanishes.Statement.{statement}
use Rattle.arith.proofs.vanishes.Tie as tie

is_zero-requires : tie.Need-is_zero-requires
is_zero-requires c κs = search rules

is_zero-requires-then-is_zero : tie.Need-is_zero-requires-then-is_zero
is_zero-requires-then-is_zero c κs = search rules

is_zero-requires-then-not-is_zero : tie.Need-is_zero-requires-then-not-is_zero
is_zero-requires-then-not-is_zero c κs = search rules

returns-then-not-is_zero : tie.Need-returns-then-not-is_zero
unfolding vanishes
returns-then-not-is_zero c =
    let product = c.before.before.before.before in
    let first = c.before.before in
    rw (
      vanishes,
      ← product.is_zero.ensures,
      c.if-is_zero.true,
      ← first.is_zero-then-is_zero.ensures,
      c.if-not-is_zero.true,
      ← c.is_zero-then-not-is_zero.ensures,
      and-true,
    )

returns-else-not-is_zero : tie.Need-returns-else-not-is_zero
unfolding vanishes
returns-else-not-is_zero c = rw (vanishes, ← c.is_zero-then-is_zero.ensures, c.if-not-is_zero.false)

returns-else-is_zero : tie.Need-returns-else-is_zero
unfolding vanishes
returns-else-is_zero c = rw (vanishes, ← c.is_zero.ensures, c.if-is_zero.false, and-false, and-false)

pub vanishes_spec : {M : Type 1} → statement M
vanishes_spec = tie.close (tie.spec is_zero-requires is_zero-requires-then-is_zero is_zero-requires-then-not-is_zero returns-then-not-is_zero returns-else-not-is_zero returns-else-is_zero)
