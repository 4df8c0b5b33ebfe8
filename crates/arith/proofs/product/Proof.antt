-- `arith::product` meets its contract: the rounded product is read, and settled; and a product that vanishes is a number.
use mathlib.Core.Path.{◌∙◌}
use borrow.Author.Rules.{rules}
use Rattle.model.specs.Arith.{product}
use Rattle.arith.proofs.Clean.{settles, product_tells}
use Rattle.arith.proofs.product.Statement.{statement}
use Rattle.arith.proofs.product.Tie as tie

read-requires : tie.Need-read-requires
read-requires c κs = search rules

product_answer-requires : tie.Need-product_answer-requires
product_answer-requires c κs = search rules

returns : tie.Need-returns
unfolding product
returns c = (
  c.product_answer.ensures.0 ∙ settles _ _ c.read.ensures,
  c.product_answer.ensures.1 ∙ product_tells _ _ _ c.read.ensures,
)

pub product_spec : {M : Type 1} → statement M
product_spec = tie.close (tie.spec read-requires product_answer-requires returns)
