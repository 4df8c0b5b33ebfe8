-- Each x(i) that `compare_solution` writes has room in `formula`, and leads on.
use native.Mathlib.Omega.{arith}
use mathlib.Core.Path.{◌∙◌}
use Rattle.std.specs.Prelude.{Ok, Err}
use Rattle.std.proofs.lemmas.Result.{err_from_is_err_and}
use Rattle.writer.specs.Line.{x_at}
use Rattle.writer.proofs.Products.{falling-joined, falling-none}
use Rattle.copies.proofs.Written.{formula_leads, formula_fits, backward-room}
use Rattle.copies.proofs.Leading.{comparing_more, comparing_ends, comparing_over}
use Rattle.copies.proofs.compare_solution.Goals as goal

pub write_backward-count-requires-clause-room : goal.write_backward-count-requires-clause-room
unfolding x_at
write_backward-count-requires-clause-room c = backward-room c.args.slotted.now.ready.covers _ (omega arith) c.loop-i.invariant.long

pub compare_formula-requires-clause-count_in_bounds : goal.compare_formula-requires-clause-count_in_bounds
unfolding x_at
compare_formula-requires-clause-count_in_bounds c =
    let long = c.loop-i.invariant.long in
    formula_fits c.write_backward-count.ensures (backward-room c.args.slotted.now.ready.covers _ (omega arith) long) long

pub loop-i-preserved : goal.loop-i-preserved
unfolding x_at
loop-i-preserved c =
    let i = c.loop-i.invariant in
    let e = c.in_ok-z.ensures in
    record {
      comparing =
          comparing_more i.comparing (x_at _ _ _) _ (falling-joined _ _ _ (omega arith)) (formula_leads c.write_backward-count.ensures _ c.loop-i.z (Ok c.in_ok-z.z) e.leads);
      chain = e.on_chain_2;
      long = c.write_backward-count.auto.rest ∙ i.long;
    }

pub returns-in_err-z-clause-leads : goal.returns-in_err-z-clause-leads
unfolding x_at
returns-in_err-z-clause-leads c =
    let r = err_from_is_err_and c.from_residual.result c.from_residual.ensures.1 in
    let refused = c.in_err-z.field-0.0 in
    let leads = formula_leads c.write_backward-count.ensures _ c.loop-i.z (Err refused) c.in_err-z.ensures.leads in
    rw (r.1, r.2) (comparing_over c.loop-i.invariant.comparing (x_at _ _ _) _ refused (falling-joined _ _ _ (omega arith)) leads)

pub returns-clause-leads : goal.returns-clause-leads
returns-clause-leads c = comparing_ends c.loop-i.invariant.comparing (falling-none _ _ _ (omega arith))
