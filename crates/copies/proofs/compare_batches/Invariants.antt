-- `copies::compare_batches` compares the batches. The invariant: those from m on are left to compare.
use Prim.Native.Nat.{suc, ◌-◌}
use mathlib.Core.Path.{◌≡◌}
use lib.ListN.{length}
use Rattle.model.specs.Lists.{rising, joined}
use Rattle.writer.specs.Line.{Before, batch_at, batch_records}
use Rattle.copies.specs.Beside.{OnChain, cursor_of, begun}
use Rattle.copies.proofs.Leading.{Comparing}
use Rattle.copies.proofs.compare_batches.Given as goal

abbrev pub invariant-loop-m : goal.invariant-loop-m
invariant-loop-m l =
    record {
      comparing : Comparing l.words (batch_records l.slotted.n l.slotted.plan.now l.slotted.work.now) begun (joined (rising (batch_at l.slotted.n l.slotted.plan.now l.slotted.work.now) l.m (suc l.slotted.n - l.m))) l.z;
      before : Before l.slotted.n l.slotted.plan.now l.m l.m (cursor_of l.z);
      chain : OnChain l.words l.z.last;
      long : length l.formula ≡ 2412;
    }
