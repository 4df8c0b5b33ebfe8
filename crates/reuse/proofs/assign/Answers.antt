-- From batch to batch: laws of `Batch`.
use Rattle.std.proofs.Common.{arith, ◌≡◌}
use Rattle.reuse.proofs.Batch.{batch-begins, batches_end}
use Rattle.reuse.proofs.assign.Goals as goal

pub loop-m-init : goal.loop-m-init
loop-m-init c L p = batch-begins p c.requires.count

pub returns-2 : goal.returns-2
returns-2 c L p =
    let end : c.loop-m.m ≡ c.args.n = omega arith in
    batches_end (rw end at (c.assign_batch-walk.ensures L (c.loop-m.invariant L p)))
