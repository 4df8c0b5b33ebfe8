-- `residual::residual` checks, starts the rows, and takes the products away.
use native.Mathlib.Omega.{arith}
use mathlib.Core.Path.{sym, ◌∙◌}
use Rattle.model.proofs.Measuring.{measurable, measured-refused, measured-fine}
use Rattle.model.proofs.Rows.{rows-stored}
use Rattle.model.proofs.Within.{within-range}
use Rattle.residual.proofs.Fitted.{measurable_fitted}
use Rattle.residual.proofs.residual.Goals as goal

pub returns-in_err-check-clause-words : goal.returns-in_err-check-clause-words
returns-in_err-check-clause-words c = sym (measured-refused _ _ _ _ _ _ _ _ (sym c.in_err-check.ensures))

pub start_rows-requires : goal.start_rows-requires
start_rows-requires c =
    let f = measurable_fitted (measurable _ _ _ _ _ _ (sym c.in_ok-check.ensures)) in
    (f.finite-b, omega (arith, f.rows, within-range c.args.n 600 f.order), omega (arith, f.rows, f.long))

pub less_products-requires : goal.less_products-requires
less_products-requires c =
    let f = measurable_fitted (measurable _ _ _ _ _ _ (sym c.in_ok-check.ensures)) in
    record {
      n_value = (f.order, f.labels);
      finite = (f.finite-a, f.coefficients);
      finite_2 = (f.finite_x, f.columns, c.start_rows.auto.words ∙ f.long ∙ omega arith);
    }

pub returns-clause-words : goal.returns-clause-words
returns-clause-words c =
    let fine = sym c.in_ok-check.ensures in
    let f = measurable_fitted (measurable _ _ _ _ _ _ fine) in
    let started = rw f.rows at c.start_rows.ensures in
    rows-stored (c.less_products.ensures _ started) (λ k below. (c.type_inv.words k).fits) ∙ sym (measured-fine _ _ _ _ _ _ fine)
