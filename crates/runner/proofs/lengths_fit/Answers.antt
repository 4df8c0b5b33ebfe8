-- `runner::lengths_fit` is 14.
use mathlib.Core.Path.{◌∙◌}
use borrow.Author.Tests.{eq-eqb, ne_eqb}
use Rattle.model.proofs.Runs.{lengths_right}
use Rattle.runner.proofs.lengths_fit.Goals as goal

pub returns-then-y-in_y : goal.returns-then-y-in_y
unfolding lengths_right
returns-then-y-in_y c =
    rw (
      ← (c.wide-in_y.ensures ∙ c.length_of_y.ensures),
      ← c.wide-order.ensures,
      ← c.wide.ensures,
      ← c.wide-then-b-order.ensures,
      eq-eqb _ _ c.if-a-wide.true,
      eq-eqb _ _ c.if-b-order.true,
      eq-eqb _ _ c.if-c-wide.true,
      eq-eqb _ _ c.if-y-in_y.true,
    )

pub returns-else-y-in_y : goal.returns-else-y-in_y
unfolding lengths_right
returns-else-y-in_y c =
    rw (
      ← (c.wide-in_y.ensures ∙ c.length_of_y.ensures),
      ← c.wide-order.ensures,
      ← c.wide.ensures,
      ← c.wide-then-b-order.ensures,
      eq-eqb _ _ c.if-a-wide.true,
      eq-eqb _ _ c.if-b-order.true,
      eq-eqb _ _ c.if-c-wide.true,
      ne_eqb _ _ c.if-y-in_y.false,
    )

pub returns-else-c-wide : goal.returns-else-c-wide
unfolding lengths_right
returns-else-c-wide c =
    rw (
      ← (c.wide-in_y.ensures ∙ c.length_of_y.ensures),
      ← c.wide-order.ensures,
      ← c.wide.ensures,
      ← c.wide-then-b-order.ensures,
      eq-eqb _ _ c.if-a-wide.true,
      eq-eqb _ _ c.if-b-order.true,
      ne_eqb _ _ c.if-c-wide.false,
    )

pub returns-else-b-order : goal.returns-else-b-order
unfolding lengths_right
returns-else-b-order c =
    rw (
      ← (c.wide-in_y.ensures ∙ c.length_of_y.ensures),
      ← c.wide-order.ensures,
      ← c.wide.ensures,
      eq-eqb _ _ c.if-a-wide.true,
      ne_eqb _ _ c.if-b-order.false,
    )

pub returns-else-a-wide : goal.returns-else-a-wide
unfolding lengths_right
returns-else-a-wide c =
    rw (
      ← (c.wide-in_y.ensures ∙ c.length_of_y.ensures),
      ← c.wide-order.ensures,
      ← c.wide.ensures,
      ne_eqb _ _ c.if-a-wide.false,
    )
