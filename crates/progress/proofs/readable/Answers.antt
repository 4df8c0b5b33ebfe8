-- `progress::readable` is check 12 of kinds 4 to 6.
use Prim.Native.Nat.{ℕ, ◌-◌}
use mathlib.Core.Path.{◌≡◌, refl, sym, ap, ◌∙◌}
use mathlib.Core.Bool.{Bool, true, ◌&&◌}
use native.Mathlib.Omega.{arith}
use lib.Dec.{ltb}
use Rattle.model.specs.Label.{within}
use Rattle.model.specs.Formula.{C, Y, X}
use Rattle.model.specs.Check.{kind_of, in_turn}
use Rattle.progress.specs.declared.Head.{Head}
use Rattle.progress.specs.declared.Progress.{Progress}
use Rattle.progress.specs.Steps.{progress_of}
use Rattle.progress.proofs.Judging.{subtracting, readable_is, closed-x}
use Rattle.progress.proofs.readable.Goals as goal

pub returns-then-not-within : goal.returns-then-not-within
returns-then-not-within c =
    let a = c.args in
    let sub = subtracting a.r.kind c.requires.0 c.requires.1 in
    readable_is a.h a.g a.r.kind a.r.p a.r.q sub.table sub.kind_is.is (sym c.if-not-within.true ∙ c.within.ensures) refl

pub returns-in-4 : goal.returns-in-4
unfolding kind_of
returns-in-4 c =
    let a = c.args in
    readable_is a.h a.g a.r.kind a.r.p a.r.q C (ap kind_of c.in-4.is) (sym c.if-not-within.false ∙ c.within.ensures) c.within-in-4.ensures

pub returns-in-5 : goal.returns-in-5
unfolding kind_of
returns-in-5 c =
    let a = c.args in
    readable_is a.h a.g a.r.kind a.r.p a.r.q Y (ap kind_of c.in-5.is) (sym c.if-not-within.false ∙ c.within.ensures) c.within-in-5.ensures

-- the test of the last arm, which is kind 6
of_x : (h : Head) (g : Progress) (kind p q : ℕ) {b : Bool} → kind ≡ 6 → true ≡ within p g.c → b ≡ within q h.order
    → b && ltb (h.order - q) g.x ≡ in_turn h.order h.coefficients h.slots (kind_of kind) p q (progress_of g)
unfolding kind_of
of_x h g kind p q is first second =
    readable_is h g kind p q X (ap kind_of is) first (ap (λ v. v && ltb (h.order - q) g.x) second ∙ closed-x h.order g.x q)

pub returns-then-within : goal.returns-then-within
returns-then-within c =
    let a = c.args in
    of_x a.h a.g a.r.kind a.r.p a.r.q (omega arith) (sym c.if-not-within.false ∙ c.within.ensures)
    (sym c.if-within.true ∙ c.within-in_default.ensures)

pub returns-else-within : goal.returns-else-within
returns-else-within c =
    let a = c.args in
    c.if-within.false ∙ of_x a.h a.g a.r.kind a.r.p a.r.q (omega arith) (sym c.if-not-within.false ∙ c.within.ensures)
    (sym c.if-within.false ∙ c.within-in_default.ensures)
