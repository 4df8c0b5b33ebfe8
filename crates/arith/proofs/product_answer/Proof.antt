-- `arith::product_answer` meets its contract: each arm is what the tests pick.
use mathlib.Core.Path.{refl}
use borrow.Author.Rules.{rules}
use Rattle.arith.proofs.product_answer.Statement.{statement}
use Rattle.arith.proofs.product_answer.Tie as tie

is_finite-requires : tie.Need-is_finite-requires
is_finite-requires c κs = search rules

vanishes-requires : tie.Need-vanishes-requires
vanishes-requires c κs = search rules

returns-then-vanishes : tie.Need-returns-then-vanishes
returns-then-vanishes c =
    let tested = c.before.before in
    rw (← tested.is_finite.ensures, tested.if-is_finite.true, ← c.vanishes.ensures, c.if-vanishes.true) (refl, refl)

returns-else-vanishes : tie.Need-returns-else-vanishes
returns-else-vanishes c =
    let tested = c.before.before in
    rw (← tested.is_finite.ensures, tested.if-is_finite.true, ← c.vanishes.ensures, c.if-vanishes.false) (refl, refl)

returns-else-is_finite : tie.Need-returns-else-is_finite
returns-else-is_finite c = rw (← c.is_finite.ensures, c.if-is_finite.false) (refl, refl)

pub product_answer_spec : {M : Type 1} → statement M
product_answer_spec = tie.close (tie.spec is_finite-requires vanishes-requires returns-then-vanishes returns-else-vanishes returns-else-is_finite)
