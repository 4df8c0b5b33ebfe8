-- `progress::is_right` tells a right record by what is open.
use Prim.Native.Nat.{ℕ, ◌+◌}
use mathlib.Core.Path.{◌≡◌, refl, sym, ap, ◌∙◌}
use mathlib.Core.Bool.{true, not, and_comm, and-false}
use native.Mathlib.Omega.{arith}
use lib.Dec.{eqb}
use borrow.Author.Tests.{eq-eqb, ne_eqb}
use Rattle.model.specs.Check.{closes_pivot, kind_of, formed, in_order, in_turn, is_idle}
use Rattle.progress.specs.Steps.{open_number, progress_of}
use Rattle.progress.proofs.Judging.{idle-number, divides-order, closes-order, subtracts-order, pivot-order, known, subtracting}
use Rattle.progress.proofs.Right.{number-few, is-busy, right_arm, busy_wrong}
use Rattle.progress.specs.declared.Progress.{Progress}
use Rattle.progress.proofs.is_right.Goals as goal

-- something is open
open-now : (g : Progress) {n : ℕ} → n ≡ open_number g.target → (n ≡ 0 → ⊥) → true ≡ not (is_idle (progress_of g).target)
open-now g {n} is some = sym (ap not (ne_eqb n 0 some)) ∙ ap (λ m. not (eqb m 0)) is ∙ ap not (idle-number g.target g.number)

-- 11 of kind 9
pivot_now : (g : Progress) {n : ℕ} → n ≡ open_number g.target → eqb n 1 ≡ in_order closes_pivot (progress_of g).target
pivot_now g is = ap (λ m. eqb m 1) is ∙ pivot-order g.target g.number

pub returns-then-r-open : goal.returns-then-r-open
unfolding formed
returns-then-r-open c =
    let a = c.args in
    let few = number-few a.g.target in
    let now = c.open_number-open.ensures in
    let sub = subtracting a.r.kind (omega (arith, now, few)) (omega (arith, now, few)) in
    right_arm a.h a.g a.r.kind a.r.p a.r.q (omega arith) sub.kind_is refl
    (sym (eq-eqb (open_number a.g.target) _ (omega (arith, now, sub.number_is))) ∙ subtracts-order sub.table a.g.target a.g.number)
    (c.readable.ensures ∙ ap (λ k. in_turn a.h.order a.h.coefficients a.h.slots k a.r.p a.r.q (progress_of a.g)) sub.kind_is.is)

pub returns-then-r-eq0 : goal.returns-then-r-eq0
unfolding kind_of formed in_turn
returns-then-r-eq0 c =
    let a = c.args in
    right_arm a.h a.g a.r.kind a.r.p a.r.q (omega arith) (known c.if-r-eq7.true refl) (sym (eq-eqb _ 0 c.if-r-eq0.true))
    (open-now a.g c.open_number-open.ensures c.if-open-eq0.false ∙ divides-order _) c.within.ensures

pub returns-else-r-eq0 : goal.returns-else-r-eq0
unfolding kind_of formed
returns-else-r-eq0 c =
    let a = c.args in
    let other = ne_eqb a.r.q 0 c.if-r-eq0.false in
    other
    ∙ right_arm a.h a.g a.r.kind a.r.p a.r.q (omega arith) (known c.if-r-eq7.true refl) (sym other)
    (open-now a.g c.open_number-open.ensures c.if-open-eq0.false ∙ divides-order _) refl

pub returns-then-r-eq8 : goal.returns-then-r-eq8
unfolding kind_of formed in_turn
returns-then-r-eq8 c =
    let a = c.args in
    and_comm true _ ∙ right_arm a.h a.g a.r.kind a.r.p a.r.q (omega arith) (known c.if-r-eq8.true refl) c.unused.ensures
    (open-now a.g c.open_number-open.ensures c.if-open-eq0.false ∙ closes-order _) refl

pub returns-then-open-eq1 : goal.returns-then-open-eq1
unfolding kind_of formed in_turn
returns-then-open-eq1 c =
    let a = c.args in
    and_comm true _ ∙ right_arm a.h a.g a.r.kind a.r.p a.r.q (omega arith) (known c.if-r-eq9.true refl) c.unused-then-open-eq1.ensures
    (sym (eq-eqb _ 1 c.if-open-eq1.true) ∙ pivot_now a.g c.open_number-open.ensures) refl

pub returns-else-open-eq1 : goal.returns-else-open-eq1
unfolding kind_of formed in_turn
returns-else-open-eq1 c =
    let a = c.args in
    let other = ne_eqb _ 1 c.if-open-eq1.false in
    other ∙ sym (and-false (formed closes_pivot a.r.p a.r.q))
    ∙ right_arm a.h a.g a.r.kind a.r.p a.r.q (omega arith) (known c.if-r-eq9.true refl) refl (sym other ∙ pivot_now a.g c.open_number-open.ensures) refl

pub returns-else-r-eq9 : goal.returns-else-r-eq9
returns-else-r-eq9 c =
    let a = c.args in
    let now = c.open_number-open.ensures in
    let b = is-busy a.g.target a.g.number (λ idle. c.if-open-eq0.false (now ∙ idle)) in
    ne_eqb _ 9 c.if-r-eq9.false
    ∙ busy_wrong a.h a.g a.r.kind a.r.p a.r.q (omega arith) b.table b.is c.if-r-eq7.false c.if-r-eq8.false c.if-r-eq9.false
    (λ same. c.if-r-open.false (same ∙ ap (λ m. m + 3) (sym (now ∙ b.number_is))))
