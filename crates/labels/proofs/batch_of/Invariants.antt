-- `labels::batch_of` goes from batch to batch: label k is none before the one that it has come to, and end is that one's last.
use Rattle.std.proofs.Common.{◌≡◌, ◌+◌, ◌-◌, ◌*◌}
use Rattle.labels.specs.Batches.{Reaches}
use Rattle.labels.proofs.batch_of.Given as goal

abbrev pub invariant-loop-end : goal.invariant-loop-end
invariant-loop-end l = record {
  reaches : Reaches l.n l.k l.batch;
  last : l.end ≡ l.batch.before + (2 * (l.n - l.batch.number) + 1);
}

abbrev pub decreases-loop-end : goal.decreases-loop-end
decreases-loop-end l = l.k - l.batch.before
