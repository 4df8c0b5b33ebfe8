-- `runner::sweep`: the first sweep, and how the run ends or goes on after one.
use Prim.Native.Nat.{suc, ◌+◌, ◌-◌}
use native.Mathlib.Omega.{arith}
use mathlib.Core.Path.{◌≡◌}
use borrow.Author.Tests.{not-true, not-false}
use Rattle.std.proofs.lemmas.Result.{err_from_is_err_and}
use Rattle.runner.proofs.Sweeps.{sweeps_start, sweeps_end, sweep_begins, sweep_stopped, sweep_settles, sweep_again}
use Rattle.runner.proofs.sweep.Goals as goal

pub loop-sweeps-init : goal.loop-sweeps-init
loop-sweeps-init c =
    let a = c.args in
    sweeps_start a.c.now a.y.now a.x.now c.clear.new.values c.loaded-z.result c.requires.fit c.requires.words_value c.clear.ensures c.loaded-z.ensures

pub follow-requires : goal.follow-requires
follow-requires c =
    let s = c.loop-sweeps.invariant in
    record { fit = s.fit; words_value = s.method; begins_with = sweep_begins s (omega arith) }

pub returns-in_err-z : goal.returns-in_err-z
returns-in_err-z c =
    let e = c.follow.ensures in
    let kept = c.follow.auto in
    let p = err_from_is_err_and c.from_residual.result c.from_residual.ensures.1 in
    rw (p.1, p.2) (sweep_stopped c.loop-sweeps.invariant (omega arith) (record { of_c = kept.c; of_y = kept.y; of_x = kept.x }) c.follow.result
    e.result_after e.ends_with _ c.in_err-z.was)

pub returns-then-not-z : goal.returns-then-not-z
returns-then-not-z c =
    let e = c.follow.ensures in
    let kept = c.follow.auto in
    let made : suc (c.loop-sweeps.sweeps - 1) ≡ c.loop-sweeps.sweeps = omega arith in
    let settles = sweep_settles c.loop-sweeps.invariant (omega arith) (record { of_c = kept.c; of_y = kept.y; of_x = kept.x }) c.follow.result
    e.result_after e.ends_with _ c.in_ok-z.was (not-true _ c.if-not-z.true) in
    rw c.solved.ensures (rw made at settles)

pub loop-sweeps-preserved : goal.loop-sweeps-preserved
loop-sweeps-preserved c =
    let e = c.follow.ensures in
    let kept = c.follow.auto in
    let made : suc (c.loop-sweeps.sweeps - 1) ≡ c.loop-sweeps.sweeps + 1 - 1 = omega arith in
    let again = sweep_again c.loop-sweeps.invariant (omega arith) (record { of_c = kept.c; of_y = kept.y; of_x = kept.x }) c.follow.result
    e.result_after e.ends_with _ c.in_ok-z.was (not-false _ c.if-not-z.false) in
    rw c.again-z.ensures (rw made at again)

pub returns : goal.returns
returns c = sweeps_end c.loop-sweeps.invariant (omega arith)
