-- `compiler::sweeps::compile_rows` ends as the model says: each way out is a law of `Sweeping`.
use Rattle.std.proofs.Common.{◌*◌, sym, arith}
use native.Mathlib.Nat.{one-mul}
use Rattle.std.proofs.lemmas.Result.{err_from_is_err_and}
use Rattle.model.specs.Compile.{sweep}
use Rattle.model.proofs.Compiles.{orderly-good, ends-orderly}
use Rattle.compiler.proofs.Sweeping.{placed, covers, labels-few, bare_ends, labels_enough, short_sweep, rows-planned, sweep_ends}
use Rattle.compiler.proofs.sweeps.compile_rows.Goals as goal

pub returns-in_err-check : goal.returns-in_err-check
returns-in_err-check c =
    let p = err_from_is_err_and c.from_residual.result c.from_residual.ensures.1 in
    rw (p.1, p.2) (ends-orderly sweep _ _ _ _ _ _ (rw (one-mul (c.args.n * c.args.n)) at (sym c.in_err-check.ensures)))

pub mark-requires : goal.mark-requires
mark-requires c =
    let t = orderly-good _ _ _ _ (sym c.in_ok-check.ensures) in
    record { n_value = t.0; plan_value = t.1.0; n_in_bounds = omega (arith, t.1.1) }

pub first_bare-bare-requires : goal.first_bare-bare-requires
first_bare-bare-requires c = covers (placed c.in_ok-check.ensures c.mark.ensures)

pub overflow_mul-n : goal.overflow_mul-n
overflow_mul-n c = omega (arith, labels-few (placed c.in_ok-check.ensures c.mark.ensures))

pub clear-requires : goal.clear-requires
clear-requires c = omega (arith, covers (placed c.in_ok-check.ensures c.mark.ensures))

pub returns-then-bare-ne0 : goal.returns-then-bare-ne0
returns-then-bare-ne0 c =
    rw c.from.ensures (bare_ends (placed c.in_ok-check.ensures c.mark.ensures) c.first_bare-bare.ensures _ c.if-bare-ne0.true c.wide.ensures c.clear.ensures)

pub overflow_cast-labels : goal.overflow_cast-labels
overflow_cast-labels c = omega (arith, labels-few (placed c.in_ok-check.ensures c.mark.ensures))

pub overflow_mul-records : goal.overflow_mul-records
overflow_mul-records c = omega (arith, covers (placed c.in_ok-check.ensures c.mark.ensures))

pub overflow_add-records : goal.overflow_add-records
overflow_add-records c = omega (arith, covers (placed c.in_ok-check.ensures c.mark.ensures))

pub overflow_add-records-2 : goal.overflow_add-records-2
overflow_add-records-2 c =
    let p = placed c.in_ok-check.ensures c.mark.ensures in
    omega (arith, covers p, labels-few p)

pub returns-in_err-check_words : goal.returns-in_err-check_words
returns-in_err-check_words c =
    let f = c.from_residual-in_err-check_words in
    let p = err_from_is_err_and f.result f.ensures.1 in
    let e = c.in_err-check_words.ensures in
    rw (p.1, p.2, e.0) (short_sweep (placed c.in_ok-check.ensures c.mark.ensures) c.first_bare-bare.ensures c.if-bare-ne0.false _ e.1)

pub write_rows-requires : goal.write_rows-requires
write_rows-requires c =
    rows-planned (placed c.in_ok-check.ensures c.mark.ensures) c.first_bare-bare.ensures c.if-bare-ne0.false _ c.in_ok-check_words.ensures

pub overflow_sub-result : goal.overflow_sub-result
overflow_sub-result c =
    omega (arith, labels_enough (placed c.in_ok-check.ensures c.mark.ensures) c.first_bare-bare.ensures c.if-bare-ne0.false)

pub returns : goal.returns
returns c =
    sweep_ends (placed c.in_ok-check.ensures c.mark.ensures) c.first_bare-bare.ensures c.if-bare-ne0.false _ c.in_ok-check_words.ensures
    c.write_rows.ensures
