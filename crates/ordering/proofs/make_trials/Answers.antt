-- One trial more each turn, until a round has kept nothing.
use Rattle.std.proofs.Common.{arith, inl, inr, refl, sym, ◌∙◌, add-one}
use Rattle.model.proofs.Trials.{turn_is, after_none, idle-none}
use Rattle.ordering.proofs.Trials.{tried_more, tried-settled}
use Rattle.ordering.proofs.make_trials.Goals as goal
use Rattle.ordering.proofs.make_trials.Goals.{then-after-slots, else-after-slots}

pub loop-k-init : goal.loop-k-init
loop-k-init c =
    let p = c.requires.numbering_value in
    record { reached = p.0 ∙ sym (after_none _ _); numbers = p.1; rest = refl; idle = idle-none }

pub loop-k-preserved : goal.loop-k-preserved
loop-k-preserved c =
    let t = c.try_exchange-after.ensures in
    let kept = rw (turn_is c.args.n c.loop-k.k) at t.numbering_after in
    rw add-one (tried_more c.loop-k.invariant kept t.numbered_2 t.work_unchanged (elim c.if-after-slots.branch [
      | then-after-slots w ↦ inl (w.if-after-slots.true, w.idle-is)
      | else-after-slots w ↦ inr (w.if-after-slots.false, w.idle-is ∙ add-one _)
    ]))

pub returns-then-idle-n-clause-numbering_after : goal.returns-then-idle-n-clause-numbering_after
returns-then-idle-n-clause-numbering_after c =
    tried-settled (c.requires.lt_n (omega arith)) c.loop-k.invariant (omega arith) (omega arith)
