-- `paths::fill_path` is 1 to 4, then 22, 23 and the path, once the slots stand in the work numbers.
use Rattle.std.proofs.Common.{arith}
use Rattle.std.proofs.lemmas.Result.{err_from_is_err_and}
use Rattle.paths.proofs.Answers.{refuses, told, stood, unheld, leads, short, traced}
use Rattle.paths.proofs.fill_path.Goals as goal

pub returns-in_err-check : goal.returns-in_err-check
returns-in_err-check c =
    let a = c.args in
    let p = err_from_is_err_and c.from_residual.result c.from_residual.ensures.1 in
    let e = refuses a.n a.plan.now a.work.now c.in_err-check.ensures a.i a.j a.list.now in
    rw (p.1, p.2) (record { answer = e.0; work = e.1 })

pub fill-requires-clause-n_value : goal.fill-requires-clause-n_value
fill-requires-clause-n_value c =
    let a = c.args in
    let t = told a.n a.plan.now a.work.now c.in_ok-check.ensures in
    (t.0, t.1.0)

pub fill-requires-clause-n_in_bounds : goal.fill-requires-clause-n_in_bounds
fill-requires-clause-n_in_bounds c = let a = c.args in (told a.n a.plan.now a.work.now c.in_ok-check.ensures).1.1

pub is_held-requires : goal.is_held-requires
is_held-requires c = let a = c.args in (stood a.n a.plan.now a.work.now c.in_ok-check.ensures c.fill.ensures).stands.room

pub returns-then-not-is_held : goal.returns-then-not-is_held
returns-then-not-is_held c =
    let a = c.args in
    let s = stood a.n a.plan.now a.work.now c.in_ok-check.ensures c.fill.ensures in
    record { answer = unheld s a.i a.j c.is_held.ensures a.list.now c.if-not-is_held.true; work = s.written }

pub returns-then-list-wide : goal.returns-then-list-wide
returns-then-list-wide c =
    let a = c.args in
    let s = stood a.n a.plan.now a.work.now c.in_ok-check.ensures c.fill.ensures in
    record { answer = short s a.i a.j c.is_held.ensures c.if-not-is_held.false a.list.now (omega arith); work = s.written }

pub trace-requires : goal.trace-requires
trace-requires c =
    let a = c.args in
    let s = stood a.n a.plan.now a.work.now c.in_ok-check.ensures c.fill.ensures in
    record { stands = s.stands; leads = leads s a.i a.j c.is_held.ensures c.if-not-is_held.false; n_in_bounds = omega arith }

pub returns : goal.returns
returns c =
    let a = c.args in
    let s = stood a.n a.plan.now a.work.now c.in_ok-check.ensures c.fill.ensures in
    record { answer = traced s a.i a.j c.is_held.ensures c.if-not-is_held.false (omega arith) c.trace.ensures.shown; work = s.written }
