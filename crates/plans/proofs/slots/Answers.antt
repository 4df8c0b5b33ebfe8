-- `plans::slots` ends at the first check that refuses, or with the slots in the work numbers.
use Rattle.std.proofs.Common.{refl, sym, arith}
use Rattle.std.proofs.lemmas.Result.{err_from_is_err_and}
use Rattle.model.proofs.Compiles.{orderly-good}
use Rattle.plans.specs.Slotted.{early}
use Rattle.plans.proofs.Wanted.{sizes, places-some, zeros-left}
use Rattle.plans.proofs.slots.Goals as goal

pub returns-in_err-check : goal.returns-in_err-check
returns-in_err-check c =
    let p = err_from_is_err_and c.from_residual.result c.from_residual.ensures.1 in
    rw (p.1, p.2) (early (sym c.in_err-check.ensures) refl)

pub fill-filled-requires-clause-n_value : goal.fill-filled-requires-clause-n_value
fill-filled-requires-clause-n_value c = let t = orderly-good _ _ _ _ (sym c.in_ok-check.ensures) in (t.0, t.1.0)

pub fill-filled-requires-clause-n_in_bounds : goal.fill-filled-requires-clause-n_in_bounds
fill-filled-requires-clause-n_in_bounds c =
    let t = orderly-good _ _ _ _ (sym c.in_ok-check.ensures) in
    omega (arith, t.1.1, places-some c.args.each c.args.n c.requires.le_each.0)

pub overflow_mul-n : goal.overflow_mul-n
overflow_mul-n c =
    let t = orderly-good _ _ _ _ (sym c.in_ok-check.ensures) in
    omega (arith, sizes {N = c.args.n} c.requires.le_each.1 t.0)

pub overflow_mul-each : goal.overflow_mul-each
overflow_mul-each c =
    let t = orderly-good _ _ _ _ (sym c.in_ok-check.ensures) in
    omega (arith, sizes {N = c.args.n} c.requires.le_each.1 t.0)

pub clear-requires : goal.clear-requires
clear-requires c =
    let t = orderly-good _ _ _ _ (sym c.in_ok-check.ensures) in
    omega (arith, t.1.1)

pub returns-then-missing-ne0 : goal.returns-then-missing-ne0
returns-then-missing-ne0 c =
    zeros-left c.fill-filled.ensures (sym c.in_ok-check.ensures) c.if-missing-ne0.true c.requires.le_each.0 c.wide.ensures c.clear.ensures c.from.ensures
