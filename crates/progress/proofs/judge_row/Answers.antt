-- `progress::judge_row` is 10 to 12 of one record of a sweep.
use mathlib.Core.Path.{refl, ap, ◌∙◌}
use mathlib.Core.Bool.{not}
use native.Mathlib.Omega.{arith}
use lib.Dec.{eqb}
use Rattle.model.specs.Formula.{X}
use Rattle.model.specs.Check.{kind_of, belongs, formed, in_row}
use Rattle.progress.proofs.Judging.{idle-now, opens-order, divides-order, closes-order, subtracts-order, known, not_in_row, no_kind, row_arm}
use Rattle.progress.proofs.judge_row.Goals as goal

pub returns-in-8 : goal.returns-in-8
unfolding kind_of belongs formed in_row
returns-in-8 c =
    let a = c.args in
    c.first_of.ensures ∙ row_arm a.h a.g a.r.kind a.r.p a.r.q c.requires.0 (known c.in-8.is refl)
    c.unused.ensures (ap not (idle-now a.g.target a.g.number c.open_number-open.ensures) ∙ closes-order _) refl

pub returns-in-10 : goal.returns-in-10
unfolding kind_of belongs formed in_row
returns-in-10 c =
    let a = c.args in
    c.first_of-in-10.ensures ∙ row_arm a.h a.g a.r.kind a.r.p a.r.q c.requires.0 (known c.in-10.is refl)
    refl (idle-now a.g.target a.g.number c.open_number-open.ensures ∙ opens-order X _) c.turn_of_row.ensures

pub returns-in-11 : goal.returns-in-11
unfolding kind_of belongs formed in_row
returns-in-11 c =
    let a = c.args in
    c.first_of-in-11.ensures ∙ row_arm a.h a.g a.r.kind a.r.p a.r.q c.requires.0 (known c.in-11.is refl)
    refl (ap (λ m. eqb m 3) c.open_number-open.ensures ∙ subtracts-order X a.g.target a.g.number) c.readable_in_row.ensures

pub returns-in-12 : goal.returns-in-12
unfolding kind_of belongs formed in_row
returns-in-12 c =
    let a = c.args in
    c.first_of-in-12.ensures ∙ row_arm a.h a.g a.r.kind a.r.p a.r.q c.requires.0 (known c.in-12.is refl)
    refl (ap not (idle-now a.g.target a.g.number c.open_number-open.ensures) ∙ divides-order _) c.within.ensures

pub returns-in_default : goal.returns-in_default
returns-in_default c =
    let a = c.args in
    no_kind a.h a.g a.r.kind a.r.p a.r.q
    (not_in_row a.h.slots a.r.kind c.requires.0 (λ e. omega arith) (λ e. omega arith) (λ e. omega arith) (λ e. omega arith))
