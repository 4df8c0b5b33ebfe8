-- `runner::check_values`: 15, in A, then in B, and then 21, each where the tests before it find nothing.
use mathlib.Core.Path.{sym, ◌∙◌}
use Rattle.std.proofs.lemmas.Result.{err_from_is_err_and}
use Rattle.model.proofs.Runs.{values_in_a, values_in_b, values_limit, finite_fine}
use Rattle.runner.proofs.Finite.{passes_15, refuses_15}
use Rattle.runner.proofs.check_values.Goals as goal

pub returns-in_err-all_finite : goal.returns-in_err-all_finite
returns-in_err-all_finite c =
    let f = c.from_residual in
    let p = err_from_is_err_and f.result f.ensures.1 in
    let in_a = refuses_15 _ _ _ c.in_err-all_finite.ensures in
    rw (p.1, p.2) (in_a.1 ∙ sym (values_in_a _ _ _ in_a.0))

pub returns-in_err-all_finite-2 : goal.returns-in_err-all_finite-2
returns-in_err-all_finite-2 c =
    let f = c.from_residual-in_err-all_finite-2 in
    let p = err_from_is_err_and f.result f.ensures.1 in
    let in_b = refuses_15 _ _ _ c.in_err-all_finite-2.ensures in
    rw (p.1, p.2) (in_b.1 ∙ sym (values_in_b _ _ _ (passes_15 _ c.in_ok-all_finite.ensures) in_b.0))

pub returns-then-not-is_limit : goal.returns-then-not-is_limit
returns-then-not-is_limit c =
    sym (values_limit _ _ _ (passes_15 _ c.in_ok-all_finite.ensures) (passes_15 _ c.in_ok-all_finite-2.ensures)
    (sym c.is_limit.ensures ∙ c.if-not-is_limit.true))

pub returns : goal.returns
returns c =
    sym (finite_fine _ _ _ (record {
      finite_a = passes_15 _ c.in_ok-all_finite.ensures;
      finite_b = passes_15 _ c.in_ok-all_finite-2.ensures;
      limited = sym c.is_limit.ensures ∙ c.if-not-is_limit.false;
    }))
