-- `residual::check`: each check where the checks before it find nothing.
use native.Mathlib.Nat.{zero-mul}
use mathlib.Core.Path.{◌≡◌, sym, ◌∙◌}
use mathlib.Core.Bool.{true}
use Rattle.std.proofs.lemmas.Result.{err_from_is_err_and}
use Rattle.model.specs.Compile.{good, orderly}
use Rattle.model.specs.Run.{not_finite}
use Rattle.model.proofs.Measuring.{fitting, measuring-early, measuring_lengths, measuring_a, measuring_b, measuring-x, measuring-words, measuring-fine}
use Rattle.runner.proofs.Finite.{passes_15, refuses_15}
use Rattle.residual.proofs.check.Goals as goal
use Rattle.residual.proofs.check.Goals.{After-lengths_fit, Else-not-lengths_fit, In_ok-all_finite, In_ok-all_finite-2, In_ok-all_finite-3}

pub returns-in_err-check : goal.returns-in_err-check
returns-in_err-check c =
    let p = err_from_is_err_and c.from_residual.result c.from_residual.ensures.1 in
    rw (p.1, p.2) (sym (measuring-early _ _ _ _ _ _ _ _ (rw (zero-mul _) at (sym c.in_err-check.ensures))))

-- past the plan's checks
orders : (c : After-lengths_fit) → orderly 0 c.args.n c.args.plan.now 0 ≡ good
orders c = rw (zero-mul _) at (sym c.in_ok-check.ensures)

pub returns-then-not-lengths_fit : goal.returns-then-not-lengths_fit
returns-then-not-lengths_fit c =
    let o = orders (goal.at.returns-then-not-lengths_fit c).After-lengths_fit in
    sym (measuring_lengths _ _ _ _ _ _ o (sym (rw c.wide.ensures at c.lengths_fit.ensures) ∙ c.if-not-lengths_fit.true))

-- past that of the lengths they fit
fits : (c : Else-not-lengths_fit) → let v = c.args in fitting v.n v.plan.now v.a.now v.b.now v.x.now ≡ true
fits c = sym (rw c.wide.ensures at c.lengths_fit.ensures) ∙ c.if-not-lengths_fit.false

pub returns-in_err-all_finite : goal.returns-in_err-all_finite
returns-in_err-all_finite c =
    let past = goal.at.returns-in_err-all_finite c in
    let p = err_from_is_err_and c.from_residual-in_err-all_finite.result c.from_residual-in_err-all_finite.ensures.1 in
    let r = refuses_15 _ _ _ c.in_err-all_finite.ensures in
    rw (p.1, p.2) (r.1 ∙ sym (measuring_a _ _ _ _ _ _ (orders past.After-lengths_fit) (fits past.Else-not-lengths_fit) r.0))

-- past that of A no value of it is other than finite
in_a : (c : In_ok-all_finite) → not_finite 1 c.args.a.now ≡ 0
in_a c = passes_15 _ c.in_ok-all_finite.ensures

pub returns-in_err-all_finite-2 : goal.returns-in_err-all_finite-2
returns-in_err-all_finite-2 c =
    let past = goal.at.returns-in_err-all_finite-2 c in
    let p = err_from_is_err_and c.from_residual-in_err-all_finite-2.result c.from_residual-in_err-all_finite-2.ensures.1 in
    let r = refuses_15 _ _ _ c.in_err-all_finite-2.ensures in
    rw (p.1, p.2) (r.1 ∙ sym (measuring_b _ _ _ _ _ _ (orders past.After-lengths_fit) (fits past.Else-not-lengths_fit) (in_a past.In_ok-all_finite) r.0))

-- past that of B, neither of B
in_b : (c : In_ok-all_finite-2) → not_finite 1 c.args.b.now ≡ 0
in_b c = passes_15 _ c.in_ok-all_finite-2.ensures

pub returns-in_err-all_finite-3 : goal.returns-in_err-all_finite-3
returns-in_err-all_finite-3 c =
    let past = goal.at.returns-in_err-all_finite-3 c in
    let p = err_from_is_err_and c.from_residual-in_err-all_finite-3.result c.from_residual-in_err-all_finite-3.ensures.1 in
    let r = refuses_15 _ _ _ c.in_err-all_finite-3.ensures in
    rw (p.1, p.2) (r.1 ∙ sym (measuring-x _ _ _ _ _ _ (orders past.After-lengths_fit) (fits past.Else-not-lengths_fit) (in_a past.In_ok-all_finite) (in_b past.In_ok-all_finite-2) r.0))

-- past that of X, neither of X
in_x : (c : In_ok-all_finite-3) → not_finite 1 c.args.x.now ≡ 0
in_x c = passes_15 _ c.in_ok-all_finite-3.ensures

pub returns-then-words-wide : goal.returns-then-words-wide
returns-then-words-wide c =
    let past = goal.at.returns-then-words-wide c in
    sym (measuring-words _ _ _ _ _ _ (orders past.After-lengths_fit) (fits past.Else-not-lengths_fit) (in_a past.In_ok-all_finite) (in_b past.In_ok-all_finite-2)
    (in_x past.In_ok-all_finite-3) (rw c.wide-2.ensures at c.if-words-wide.true))

pub returns : goal.returns
returns c =
    let past = goal.at.returns c in
    sym (measuring-fine _ _ _ _ _ _ (orders past.After-lengths_fit) (fits past.Else-not-lengths_fit) (in_a past.In_ok-all_finite) (in_b past.In_ok-all_finite-2)
    (in_x past.In_ok-all_finite-3) (rw c.wide-2.ensures at c.if-words-wide.false))
