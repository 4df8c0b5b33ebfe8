-- `runner::run`: 7 to 13, then 14, 15 and 21, then the records.
use native.Mathlib.Omega.{arith}
use mathlib.Core.Path.{sym, ◌∙◌}
use Rattle.std.proofs.lemmas.Result.{err_from_is_err_and}
use Rattle.model.proofs.Passing.{fine-passed}
use Rattle.runner.proofs.Outcomes.{leaves-checked, leaves_14, leaves_values, leaves-records, fit_true}
use Rattle.runner.proofs.run.Goals as goal

pub returns-in_err-check : goal.returns-in_err-check
returns-in_err-check c =
    let p = err_from_is_err_and c.from_residual.result c.from_residual.ensures.1 in
    rw (p.1, p.2) (leaves-checked _ _ _ _ _ _ _ _ _ (sym c.in_err-check.ensures))

pub lengths_fit-requires : goal.lengths_fit-requires
lengths_fit-requires c = omega (arith, fine-passed c.args.words.now (sym c.in_ok-check.ensures))

pub returns-then-not-lengths_fit : goal.returns-then-not-lengths_fit
returns-then-not-lengths_fit c =
    leaves_14 _ _ _ _ _ _ _ (sym c.in_ok-check.ensures) (sym c.lengths_fit.ensures ∙ c.if-not-lengths_fit.true)

pub returns-in_err-check_values : goal.returns-in_err-check_values
returns-in_err-check_values c =
    let f = c.from_residual-in_err-check_values in
    let p = err_from_is_err_and f.result f.ensures.1 in
    let fits_now = sym c.lengths_fit.ensures ∙ c.if-not-lengths_fit.false in
    rw (p.1, p.2) (leaves_values _ _ _ _ _ _ _ (sym c.in_ok-check.ensures) fits_now _ _ (sym c.in_err-check_values.ensures))

pub run_records-requires : goal.run_records-requires
run_records-requires c =
    let fits_now = sym c.lengths_fit.ensures ∙ c.if-not-lengths_fit.false in
    let a = c.args in
    fit_true _ a.a.now a.b.now a.c.now a.y.now a.x.now (sym c.in_ok-check.ensures) fits_now

pub returns : goal.returns
returns c =
    let fits_now = sym c.lengths_fit.ensures ∙ c.if-not-lengths_fit.false in
    leaves-records _ _ _ _ _ _ _ (sym c.in_ok-check.ensures) fits_now (sym c.in_ok-check_values.ensures)
    _ _ _ _ c.run_records.ensures
