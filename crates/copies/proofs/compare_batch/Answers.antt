-- `copies::compare_batch` compares a column, y(m) and a row, one after another.
use native.Mathlib.Omega.{arith}
use mathlib.Core.Path.{refl, sym, ◌∙◌}
use Rattle.std.specs.Prelude.{Ok, Err}
use Rattle.std.proofs.lemmas.Result.{err_from_is_err_and, IfOk-weaker}
use Rattle.writer.specs.Line.{y_at}
use Rattle.writer.proofs.Line.{number-here, forward-none, place_bounds, turned, onward}
use Rattle.copies.proofs.Written.{formula_leads, formula_fits, forward-room}
use Rattle.copies.proofs.Batch.{column_over, forward_over, batch-leads, before_like}
use Rattle.copies.proofs.compare_batch.Goals as goal

pub bounds-slotted-wide : goal.bounds-slotted-wide
bounds-slotted-wide c = let p = c.requires in omega (arith, place_bounds c.args.slotted.now.ready p.inside p.before)

-- what is read is the pivot's work number
pub write_forward-count-requires-clause-pivot_value : goal.write_forward-count-requires-clause-pivot_value
write_forward-count-requires-clause-pivot_value c = sym (number-here _ _ _ _ _ (omega (arith, c.wide.ensures, c.requires.before.here)))

pub write_forward-count-requires-clause-none_below : goal.write_forward-count-requires-clause-none_below
write_forward-count-requires-clause-none_below c = forward-none c.args.slotted.now.ready _ _ _ c.requires.inside c.wide-2.ensures refl

-- after the column there is room for y(m)
pub write_forward-count-requires-clause-room : goal.write_forward-count-requires-clause-room
unfolding y_at
write_forward-count-requires-clause-room c =
    let p = c.requires in
    forward-room c.args.slotted.now.ready.covers _ p.inside (c.compare_line.auto.formula ∙ p.formula_len)

pub compare_formula-requires-clause-count_in_bounds : goal.compare_formula-requires-clause-count_in_bounds
unfolding y_at
compare_formula-requires-clause-count_in_bounds c =
    let p = c.requires in
    let long = c.compare_line.auto.formula ∙ p.formula_len in
    formula_fits c.write_forward-count.ensures (forward-room c.args.slotted.now.ready.covers _ p.inside long) long

pub compare_line-requires-2-clause-divisor_value : goal.compare_line-requires-2-clause-divisor_value
compare_line-requires-2-clause-divisor_value c = sym (number-here _ _ _ _ _ (omega (arith, c.wide.ensures, c.requires.before.here)))

-- the row comes next
pub compare_line-requires-2-clause-before : goal.compare_line-requires-2-clause-before
compare_line-requires-2-clause-before c = before_like c.in_ok-forward.ensures.done_value (turned c.requires.inside 0 c.in_ok-column.ensures.before_2)

pub returns-in_err-column-clause-leads : goal.returns-in_err-column-clause-leads
returns-in_err-column-clause-leads c =
    let r = err_from_is_err_and c.from_residual.result c.from_residual.ensures.1 in
    rw (r.1, r.2) (column_over _ _ _ _ _ _ _ c.in_err-column.ensures.leads)

pub returns-in_err-forward-clause-leads : goal.returns-in_err-forward-clause-leads
unfolding y_at
returns-in_err-forward-clause-leads c =
    let r = err_from_is_err_and c.from_residual-in_err-forward.result c.from_residual-in_err-forward.ensures.1 in
    let refused = Err c.in_err-forward.field-0.0 in
    let forward = formula_leads c.write_forward-count.ensures _ c.in_ok-column.column refused c.in_err-forward.ensures.leads in
    rw (r.1, r.2) (forward_over _ _ _ _ _ _ _ c.in_ok-column.ensures.leads _ forward)

pub returns-clause-leads : goal.returns-clause-leads
unfolding y_at
returns-clause-leads c =
    let forward = formula_leads c.write_forward-count.ensures _ c.in_ok-column.column (Ok c.in_ok-forward.forward) c.in_ok-forward.ensures.leads in
    batch-leads _ _ _ _ _ _ _ c.in_ok-column.ensures.leads _ _ forward c.compare_line-2.ensures.leads

pub returns-clause-before_2 : goal.returns-clause-before_2
returns-clause-before_2 c = IfOk-weaker c.compare_line-2.result _ _ (λ _ before. onward c.requires.inside before) c.compare_line-2.ensures.before_2
