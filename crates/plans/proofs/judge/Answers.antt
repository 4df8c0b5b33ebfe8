-- `plans::judge` ends at the first label that 3 or 4 refuses, or after the last.
use Rattle.std.proofs.Common.{sym, ap, ◌∙◌, add-one, arith}
use Rattle.model.specs.Compile.{bad}
use Rattle.model.proofs.Judging.{judged-end, judged-outside, judged_fallen, judged-onward}
use Rattle.plans.proofs.judge.Goals as goal

pub returns-then-not-within : goal.returns-then-not-within
returns-then-not-within c =
    let out = sym c.within.ensures ∙ c.if-not-within.true in
    ap (bad 3) (omega arith) ∙ sym (c.loop-k.invariant ∙ judged-outside _ _ _ _ c.loop-k-test.true out)

pub returns-then-label-before : goal.returns-then-label-before
returns-then-label-before c =
    let within = sym c.within.ensures ∙ c.if-not-within.false in
    ap (bad 4) (omega arith) ∙ sym (c.loop-k.invariant ∙ judged_fallen _ _ _ _ c.loop-k-test.true within c.if-label-before.true)

pub loop-k-preserved : goal.loop-k-preserved
loop-k-preserved c =
    let within = sym c.within.ensures ∙ c.if-not-within.false in
    rw add-one (c.loop-k.invariant ∙ judged-onward _ _ _ _ c.loop-k-test.true within c.if-label-before.false)

pub returns : goal.returns
returns c = sym (c.loop-k.invariant ∙ judged-end _ _ _ _ (omega arith))
