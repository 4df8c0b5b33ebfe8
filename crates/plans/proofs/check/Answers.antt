-- `plans::check` answers by the first check that fails, as the model does.
use Rattle.std.proofs.Common.{sym, ap, ◌∙◌, arith}
use Rattle.model.specs.Compile.{bad}
use Rattle.model.proofs.Compiles.{orderly-order, orderly-room, orderly-labels}
use Rattle.plans.proofs.check.Goals as goal

pub returns-then-not-within : goal.returns-then-not-within
returns-then-not-within c = sym (orderly-order _ _ _ _ (sym c.within.ensures ∙ c.if-not-within.true))

pub returns-then-work-wide : goal.returns-then-work-wide
returns-then-work-wide c =
    let order = sym c.within.ensures ∙ c.if-not-within.false in
    ap (bad 2) c.from.ensures ∙ sym (orderly-room _ _ _ _ order (omega arith))

pub returns : goal.returns
returns c =
    let order = sym c.within.ensures ∙ c.if-not-within.false in
    c.judge.ensures ∙ sym (orderly-labels _ _ _ _ order (omega arith))
