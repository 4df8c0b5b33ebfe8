-- `runner::run_records`: the records, and then the tables cleared if they stopped.
use mathlib.Core.Path.{sym, subst, ◌∙◌}
use Rattle.std.proofs.Common.{Err}
use Rattle.model.proofs.Running.{done_not_refused}
use Rattle.runner.specs.declared.Failure.{Failure}
use Rattle.runner.specs.Outcome.{reply_of}
use Rattle.runner.proofs.Outcomes.{StoppedReply, leaves_final, leaves-cleared}
use Rattle.runner.proofs.run_records.Goals as goal

pub returns-in-Ok : goal.returns-in-Ok
returns-in-Ok c = leaves_final _ _ _ _ _ _ _ _ (λ stops. stops) (done_not_refused _ _ _ _ _) c.in-Ok.ensures

pub returns-in-Stopped : goal.returns-in-Stopped
returns-in-Stopped c =
    let f = c.by_method in
    let told = subst (λ (failure : Failure). StoppedReply (reply_of (Err failure))) (sym c.in-Stopped.is) tt in
    let l = leaves-cleared c.args.c.now c.args.y.now c.args.x.now f.new.c f.new.y f.new.x _ _ told c.in-Err.ensures.0 f.auto.c f.auto.y f.auto.x in
    (l.0, (c.clear.ensures ∙ l.1.0, (c.clear-in-Stopped.ensures ∙ l.1.1.0, c.clear-in-Stopped-2.ensures ∙ l.1.1.1)))

pub returns-in_default : goal.returns-in_default
returns-in_default c =
    let stops_not = subst (λ (failure : Failure). StoppedReply (reply_of (Err failure)) → ⊥) (sym c.in_default.is) (λ stops. stops) in
    leaves_final _ _ _ _ _ _ _ _ stops_not (done_not_refused _ _ _ _ _) c.in-Err.ensures
