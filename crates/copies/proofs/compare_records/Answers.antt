-- `copies::compare_records` leads from record 0 through the batches' records and the solution's to the end.
use mathlib.Core.Path.{◌∙◌}
use Rattle.std.specs.Prelude.{Ok, Err}
use Rattle.std.proofs.lemmas.Result.{err_from_is_err_and}
use Rattle.copies.proofs.Leading.{leads_on, leads_over}
use Rattle.copies.proofs.Answers.{led-through, led-over}
use Rattle.copies.proofs.compare_records.Goals as goal

pub returns-in_err-batches : goal.returns-in_err-batches
returns-in_err-batches c =
    let r = err_from_is_err_and c.from_residual.result c.from_residual.ensures.1 in
    rw (r.1, r.2) (led-over _ _ _ (leads_over _ _ _ _ _ c.in_err-batches.ensures.leads))

pub returns-in_err-solution : goal.returns-in_err-solution
returns-in_err-solution c =
    let r = err_from_is_err_and c.from_residual-in_err-solution.result c.from_residual-in_err-solution.ensures.1 in
    let leads = leads_on _ _ _ _ c.in_ok-batches.batches (Err c.in_err-solution.field-0.0) c.in_ok-batches.ensures.leads c.in_err-solution.ensures.leads in
    rw (r.1, r.2) (led-over _ _ _ leads)

pub returns : goal.returns
returns c =
    c.at_end.ensures ∙ led-through _ _ _ (leads_on _ _ _ _ c.in_ok-batches.batches (Ok c.in_ok-solution.solution) c.in_ok-batches.ensures.leads c.in_ok-solution.ensures.leads)
