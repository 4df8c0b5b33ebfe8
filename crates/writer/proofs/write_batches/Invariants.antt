-- The loop's invariant: the batches from m on are left to write.
use Rattle.std.proofs.Common.{suc}
use Rattle.writer.specs.Line.{Before, batch_at}
use Rattle.writer.proofs.Products.{Rising}
use Rattle.writer.proofs.write_batches.Given as goal

abbrev pub invariant-loop-m : goal.invariant-loop-m
invariant-loop-m l = record {
  rising : Rising (batch_at l.slotted.n l.slotted.plan.now l.slotted.work.now) 1 0 1 (suc l.slotted.n) l.fn.words l.at.next l.m l.words;
  before : Before l.slotted.n l.slotted.plan.now l.m l.m l.at;
}
