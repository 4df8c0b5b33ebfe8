-- `progress::opens_rightly`: while nothing is open, kinds 1 to 3 make their tests, and no other kind is right.
use mathlib.Core.Path.{refl, sym, ◌∙◌}
use borrow.Author.Tests.{eq-eqb, ne_eqb}
use Rattle.model.specs.Formula.{C, Y, X}
use Rattle.model.specs.Check.{kind_of, formed, in_turn}
use Rattle.progress.proofs.Judging.{known}
use Rattle.progress.proofs.Right.{opens-idle, right_arm, idle_wrong}
use Rattle.progress.proofs.opens_rightly.Goals as goal

pub returns-then-r-eq1 : goal.returns-then-r-eq1
unfolding kind_of formed
returns-then-r-eq1 c =
    let a = c.args in
    right_arm a.h a.g a.r.kind a.r.p a.r.q c.requires.0 (known c.if-r-eq1.true refl) refl (opens-idle C _ c.requires.1) c.turn_of_c.ensures

pub returns-then-r-eq0 : goal.returns-then-r-eq0
unfolding kind_of formed in_turn
returns-then-r-eq0 c =
    let a = c.args in
    right_arm a.h a.g a.r.kind a.r.p a.r.q c.requires.0 (known c.if-r-eq2.true refl) (sym (eq-eqb _ 0 c.if-r-eq0.true)) (opens-idle Y _ c.requires.1)
    c.turn_of_y.ensures

pub returns-else-r-eq0 : goal.returns-else-r-eq0
unfolding kind_of formed
returns-else-r-eq0 c =
    let a = c.args in
    let other = ne_eqb a.r.q 0 c.if-r-eq0.false in
    other ∙ right_arm a.h a.g a.r.kind a.r.p a.r.q c.requires.0 (known c.if-r-eq2.true refl) (sym other) (opens-idle Y _ c.requires.1) refl

pub returns-then-r-eq0-2 : goal.returns-then-r-eq0-2
unfolding kind_of formed in_turn
returns-then-r-eq0-2 c =
    let a = c.args in
    right_arm a.h a.g a.r.kind a.r.p a.r.q c.requires.0 (known c.if-r-eq3.true refl) (sym (eq-eqb _ 0 c.if-r-eq0-2.true)) (opens-idle X _ c.requires.1)
    c.turn_of_x.ensures

pub returns-else-r-eq0-2 : goal.returns-else-r-eq0-2
unfolding kind_of formed
returns-else-r-eq0-2 c =
    let a = c.args in
    let other = ne_eqb a.r.q 0 c.if-r-eq0-2.false in
    other ∙ right_arm a.h a.g a.r.kind a.r.p a.r.q c.requires.0 (known c.if-r-eq3.true refl) (sym other) (opens-idle X _ c.requires.1) refl

pub returns : goal.returns
returns c =
    let a = c.args in
    idle_wrong a.h a.g a.r.kind a.r.p a.r.q c.requires.0 c.requires.1 c.if-r-eq1.false c.if-r-eq2.false c.if-r-eq3.false
