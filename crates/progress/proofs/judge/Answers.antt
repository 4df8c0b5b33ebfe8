-- `progress::judge` is 10 to 12 of one record: each kind makes its own tests, and `first_of` puts them in order.
use Prim.Native.Nat.{ℕ, ◌-◌, ◌<◌}
use mathlib.Core.Path.{◌≡◌, refl, ap, ◌∙◌}
use mathlib.Core.Bool.{false, not, and-false}
use native.Mathlib.Omega.{arith}
use lib.Dec.{ltb, eqb}
use borrow.Author.Tests.{lt-leb}
use Rattle.model.specs.Formula.{C, Y, X}
use Rattle.model.specs.Check.{kind_of, formed, in_turn}
use Rattle.progress.specs.declared.Head.{Head}
use Rattle.progress.specs.declared.Progress.{Progress}
use Rattle.progress.specs.Steps.{progress_of, refusal_of}
use Rattle.progress.proofs.Judging.{idle-now, opens-order, divides-order, closes-order, subtracts-order, pivot-order}
use Rattle.progress.proofs.Judging.{known, is_crout, subtracting, not_crout, no_kind, crout_arm}
use Rattle.progress.proofs.judge.Goals as goal

pub returns-in-1 : goal.returns-in-1
unfolding kind_of formed in_turn
returns-in-1 c =
    let a = c.args in
    c.first_of.ensures ∙ crout_arm a.h a.g a.r.kind a.r.p a.r.q (omega arith) (known c.in-1.is refl) refl
    (idle-now a.g.target a.g.number c.open_number-open.ensures ∙ opens-order C _) c.turn_of_c.ensures

pub returns-in-2 : goal.returns-in-2
unfolding kind_of formed in_turn
returns-in-2 c =
    let a = c.args in
    c.first_of-in-2.ensures ∙ crout_arm a.h a.g a.r.kind a.r.p a.r.q (omega arith) (known c.in-2.is refl) refl
    (idle-now a.g.target a.g.number c.open_number-open.ensures ∙ opens-order Y _) c.turn_of_y.ensures

pub returns-in-3 : goal.returns-in-3
unfolding kind_of formed in_turn
returns-in-3 c =
    let a = c.args in
    c.first_of-in-3.ensures ∙ crout_arm a.h a.g a.r.kind a.r.p a.r.q (omega arith) (known c.in-3.is refl) refl
    (idle-now a.g.target a.g.number c.open_number-open.ensures ∙ opens-order X _) c.turn_of_x.ensures

pub returns-in-7 : goal.returns-in-7
unfolding kind_of formed in_turn
returns-in-7 c =
    let a = c.args in
    c.first_of-in-7.ensures ∙ crout_arm a.h a.g a.r.kind a.r.p a.r.q (omega arith) (known c.in-7.is refl) refl
    (ap not (idle-now a.g.target a.g.number c.open_number-open.ensures) ∙ divides-order _) c.within.ensures

pub returns-in-8 : goal.returns-in-8
unfolding kind_of formed in_turn
returns-in-8 c =
    let a = c.args in
    c.first_of-in-8.ensures ∙ crout_arm a.h a.g a.r.kind a.r.p a.r.q (omega arith) (known c.in-8.is refl) c.unused.ensures
    (ap not (idle-now a.g.target a.g.number c.open_number-open.ensures) ∙ closes-order _) refl

pub returns-in-9 : goal.returns-in-9
unfolding kind_of formed in_turn
returns-in-9 c =
    let a = c.args in
    c.first_of-in-9.ensures ∙ crout_arm a.h a.g a.r.kind a.r.p a.r.q (omega arith) (known c.in-9.is refl)
    c.unused-in-9.ensures (ap (λ m. eqb m 1) c.open_number-open.ensures ∙ pivot-order a.g.target a.g.number) refl

pub returns-in-4 : goal.returns-in-4
unfolding formed
returns-in-4 c =
    let a = c.args in
    let sub = subtracting a.r.kind (omega arith) (omega arith) in
    c.first_of-in-4.ensures ∙ crout_arm a.h a.g a.r.kind a.r.p a.r.q (omega arith) sub.kind_is refl
    (ap (λ m. eqb m (a.r.kind - 3)) c.open_number-open.ensures ∙ ap (eqb _) sub.number_is ∙ subtracts-order sub.table a.g.target a.g.number)
    (c.readable.ensures ∙ ap (λ k. in_turn a.h.order a.h.coefficients a.h.slots k a.r.p a.r.q (progress_of a.g)) sub.kind_is.is)

-- a kind that is none of 1 to 9
other-kind : (h : Head) (g : Progress) (kind p q : ℕ) → 0 < h.slots → is_crout kind ≡ false → 10 ≡ refusal_of h g kind p q
other-kind h g kind p q some other = no_kind h g kind p q (not_crout h.slots kind some other)

pub returns-in-0 : goal.returns-in-0
returns-in-0 c =
    let a = c.args in
    let none : a.r.kind ≡ 0 = omega arith in
    other-kind a.h a.g a.r.kind a.r.p a.r.q (omega arith) (ap is_crout none)

pub returns-in-0-2 : goal.returns-in-0-2
returns-in-0-2 c =
    let a = c.args in
    other-kind a.h a.g a.r.kind a.r.p a.r.q (omega arith) (rw (lt-leb a.r.kind 9 (omega arith)) (and-false (ltb 0 a.r.kind)))
