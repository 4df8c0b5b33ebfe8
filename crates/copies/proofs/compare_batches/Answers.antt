-- The invariant of `compare_batches`' loop holds, and gives where the batches lead.
use native.Mathlib.Numerals.{add-one}
use Rattle.std.proofs.lemmas.Result.{err_from_is_err_and}
use native.Mathlib.Omega.{arith}
use mathlib.Core.Path.{sym, ◌∙◌}
use Rattle.model.proofs.Labels.{label-first}
use Rattle.model.proofs.Pointer.{passed_none}
use Rattle.writer.specs.Line.{batch_at}
use Rattle.writer.proofs.Products.{rising-joined, rising_none}
use Rattle.copies.proofs.Leading.{comparing_starts, comparing_more, comparing_ends, comparing_over}
use Rattle.copies.proofs.compare_batches.Goals as goal

pub loop-m-init : goal.loop-m-init
loop-m-init c =
    let p = c.requires in
    record {
      comparing = comparing_starts;
      before = record { here = sym (label-first _); passed = sym (passed_none _ _ c.args.slotted.now.ready.rises) };
      chain = p.on_chain;
      long = p.formula_len;
    }

pub loop-m-preserved : goal.loop-m-preserved
loop-m-preserved c =
    let i = c.loop-m.invariant in
    let e = c.in_ok-z.ensures in
    record {
      comparing = comparing_more i.comparing (batch_at _ _ _ _) _ (rising-joined _ _ _ (omega arith)) e.leads;
      before = rw add-one e.before_2;
      chain = e.on_chain_2;
      long = c.compare_batch.auto.formula ∙ i.long;
    }

pub returns-in_err-z-clause-leads : goal.returns-in_err-z-clause-leads
returns-in_err-z-clause-leads c =
    let r = err_from_is_err_and c.from_residual.result c.from_residual.ensures.1 in
    rw (r.1, r.2) (comparing_over c.loop-m.invariant.comparing (batch_at _ _ _ _) _ _ (rising-joined _ _ _ (omega arith)) c.in_err-z.ensures.leads)

pub returns-clause-leads : goal.returns-clause-leads
returns-clause-leads c = comparing_ends c.loop-m.invariant.comparing (rising_none _ _ _ (omega arith))

pub returns-in_ok-z-clause-leads : goal.returns-in_ok-z-clause-leads
returns-in_ok-z-clause-leads c =
    let i = c.loop-m.invariant in
    let last = comparing_more i.comparing (batch_at _ _ _ _) _ (rising-joined _ _ _ (omega arith)) c.in_ok-z.ensures.leads in
    comparing_ends last (rising_none _ _ _ (omega arith))
