-- From batch to batch.
use Rattle.std.proofs.Common.{arith, sym, add-one}
use Rattle.model.proofs.Labels.{label-first}
use Rattle.model.proofs.Pointer.{passed_none}
use Rattle.writer.proofs.Products.{rising_starts, rising-room, rising-more, rising-ends}
use Rattle.writer.proofs.write_batches.Goals as goal

pub loop-m-init : goal.loop-m-init
loop-m-init c =
    record {
      rising = rising_starts c.requires;
      before = record { here = sym (label-first _); passed = sym (passed_none _ _ c.args.slotted.now.ready.rises) };
    }

pub write_batch-at-requires-clause-room : goal.write_batch-at-requires-clause-room
write_batch-at-requires-clause-room c = rising-room c.loop-m.invariant.rising (omega arith)

pub loop-m-preserved : goal.loop-m-preserved
loop-m-preserved c =
    let w = c.write_batch-at.ensures in
    record { rising = rising-more c.loop-m.invariant.rising (omega arith) w.wrote; before = rw add-one w.before_2 }

pub returns-2 : goal.returns-2
returns-2 c = rising-ends (rising-more c.loop-m.invariant.rising (omega arith) c.write_batch-at.ensures.wrote) (omega arith)
