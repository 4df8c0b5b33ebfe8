-- `paths::is_held` asks for a place's label and its work number.
use Rattle.std.proofs.Common.{◌≡◌, ◌-◌, sym, arith}
use borrow.Author.Tests.{le-ltb}
use Rattle.model.specs.Label.{label}
use Rattle.model.proofs.Labels.{label-range}
use Rattle.labels.proofs.Range.{is_place_true}
use Rattle.plans.proofs.Places.{labelled, unlabelled}
use Rattle.paths.proofs.is_held.Goals as goal

pub bounds-work-wide : goal.bounds-work-wide
bounds-work-wide c =
    let l = labelled _ _ _ c.label-k.ensures c.if-k-gt0.true in
    omega (arith, l.1, label-range _ _ _ (is_place_true _ _ _ (sym l.0)).1)

pub returns-then-k-gt0 : goal.returns-then-k-gt0
returns-then-k-gt0 c =
    let l = labelled _ _ _ c.label-k.ensures c.if-k-gt0.true in
    let a = c.args in
    let there : c.wide.result ≡ label a.n a.i a.j - 1 = omega arith in
    rw (l.0, there)

pub returns-else-k-gt0 : goal.returns-else-k-gt0
returns-else-k-gt0 c = rw (unlabelled _ _ _ c.label-k.ensures c.if-k-gt0.false, le-ltb _ _ c.if-k-gt0.false)
