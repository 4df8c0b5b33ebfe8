-- Each place that `compare_line` writes is the line's t-th, has room in `formula`, and leads on.
use native.Mathlib.Omega.{arith}
use Rattle.std.proofs.lemmas.Result.{err_from_is_err_and}
use Rattle.writer.proofs.Line.{line-long}
use Rattle.copies.proofs.Written.{formula_fits}
use Rattle.copies.proofs.Line.{led-ends, led-place, led_over, led_more}
use Rattle.copies.proofs.compare_line.Goals as goal

pub write_next-at-requires-clause-room : goal.write_next-at-requires-clause-room
write_next-at-requires-clause-room c =
    let p = c.requires in
    (led-place c.loop-t.invariant c.args.slotted.now.ready p.inside (omega arith) c.row_of-i.ensures c.column_of-j.ensures p.divisor_value).1.1

pub zeros-empty-requires : goal.zeros-empty-requires
zeros-empty-requires c =
    let p = c.requires in
    let v = c.loop-t.invariant in
    omega (arith, line-long c.args.across c.args.slotted.now.ready p.inside v.low (omega arith) v.before)

pub compare_formula-requires-clause-count_in_bounds : goal.compare_formula-requires-clause-count_in_bounds
compare_formula-requires-clause-count_in_bounds c =
    let p = c.requires in
    let v = c.loop-t.invariant in
    let place = led-place v c.args.slotted.now.ready p.inside (omega arith) c.row_of-i.ensures c.column_of-j.ensures p.divisor_value in
    formula_fits c.write_next-at.ensures.wrote place.1.1 v.long

pub overflow_add-reached : goal.overflow_add-reached
overflow_add-reached c =
    let p = c.requires in
    let v = c.loop-t.invariant in
    omega (arith, line-long c.args.across c.args.slotted.now.ready p.inside v.low (omega arith) v.before)

pub loop-t-preserved : goal.loop-t-preserved
loop-t-preserved c =
    let p = c.requires in
    let w = c.write_next-at.ensures in
    let f = c.in_ok-z.ensures in
    led_more c.loop-t.invariant c.args.slotted.now.ready p.inside (omega arith) c.row_of-i.ensures c.column_of-j.ensures p.divisor_value
    _ w.wrote w.done_value
    c.zeros-empty.result (omega arith) (λ k early. rw c.wide.ensures at (c.zeros-empty.ensures.1 k early))
    _ f.on_chain_2 f.leads f.done_value

pub returns-in_err-z-clause-leads : goal.returns-in_err-z-clause-leads
returns-in_err-z-clause-leads c =
    let p = c.requires in
    let w = c.write_next-at.ensures in
    let r = err_from_is_err_and c.from_residual.result c.from_residual.ensures.1 in
    rw (r.1, r.2) (
    led_over c.loop-t.invariant c.args.slotted.now.ready p.inside (omega arith) c.row_of-i.ensures c.column_of-j.ensures p.divisor_value
    _ w.wrote w.done_value
    c.zeros-empty.result (omega arith) (λ k early. rw c.wide.ensures at (c.zeros-empty.ensures.1 k early))
    _ c.in_err-z.ensures.leads
    )

pub returns-clause-leads : goal.returns-clause-leads
returns-clause-leads c = (led-ends c.loop-t.invariant (omega arith)).0
