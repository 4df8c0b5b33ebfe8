-- `arith::less` meets its contract: a difference with the rounded product settles the product too, and a product that is no zero doesn't vanish.
use mathlib.Core.Path.{◌≡◌, sym, ap, ◌∙◌}
use mathlib.Core.Bool.{false, and-false}
use mathlib.Core.Logic.{⊎_elim}
use lib.Ieee.{binary64, add, sub, mul, neg, of_bits}
use lib.Ieee.Fits.{mul-fits, neg-fits}
use denote.Floats.{passes}
use borrow.Author.Rules.{rules}
use Rattle.model.specs.Arith.{is_zero, product, difference}
use Rattle.model.specs.Formula.{less}
use Rattle.arith.proofs.Clean.{add_clean, settles, difference-settles, difference-clean, below_nonzero, above_nonzero, nonzero_kept, less_tells}
use Rattle.arith.proofs.less.Statement.{statement}
use Rattle.arith.proofs.less.Tie as tie

answer-requires : tie.Need-answer-requires
answer-requires c κs = search rules

read-requires : tie.Need-read-requires
read-requires c κs = search rules

product_answer-requires : tie.Need-product_answer-requires
product_answer-requires c κs = search rules

-- a product that passed the test is no zero
nonzero : (c : tie.Then-product-2) → is_zero (mul binary64 c.args.a c.args.b) ≡ false
unfolding of_bits
nonzero c = ⊎_elim (λ w. below_nonzero _ w.if-product.true) (λ w. above_nonzero _ (sym w.value-is ∙ c.if-product-2.true)) c.if-product.branch-raw

returns-then-product-2 : tie.Need-returns-then-product-2
unfolding less product difference
returns-then-product-2 c =
    let fits = passes _ c.well_formed.0.1 in
    let some = nonzero c.before in (
      c.answer.ensures.0 ∙ settles _ _ (difference-clean _ _ fits (mul-fits binary64 _ _) some) ∙ difference-settles _ _ fits,
      c.answer.ensures.1 ∙ rw (nonzero_kept _ _ some, and-false),
    )

returns-else-product-2 : tie.Need-returns-else-product-2
unfolding less product difference sub
returns-else-product-2 c =
    let start = c.before.before.before.before in
    let x = start.args.acc in
    let p = mul binary64 start.args.a start.args.b in
    let fits = passes _ start.well_formed.0.1 in
    let value = ap (add binary64 x) c.read.ensures ∙ add_clean binary64 x (neg p) fits (neg-fits binary64 p (mul-fits binary64 _ _)) in (
      c.product_answer.ensures.0 ∙ settles _ _ value ∙ difference-settles _ _ fits,
      c.product_answer.ensures.1 ∙ less_tells _ _ _ _ fits value,
    )

pub less_spec : {M : Type 1} → statement M
less_spec = tie.close (tie.spec answer-requires read-requires product_answer-requires returns-then-product-2 returns-else-product-2)
