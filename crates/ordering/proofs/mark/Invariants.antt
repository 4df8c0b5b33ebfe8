-- The loop marks the labels. Its invariant: the first k are marked, and the batch is none past the next.
use Rattle.std.proofs.Common.{ℕ, ◌≤◌, ◌<◌, length, get_or, take}
use Rattle.labels.specs.Batches.{Reaches}
use Rattle.ordering.proofs.Marking.{MarkedBy}
use Rattle.ordering.proofs.mark.Given as goal

abbrev pub invariant-loop-label : goal.invariant-loop-label
invariant-loop-label l = record {
  marked : MarkedBy l.n l.numbering (take l.label-index l.plan) l.initial.work l.work;
  reaches : (j : ℕ) → l.label-index ≤ j → j < length l.plan → Reaches l.n (get_or l.plan j 0) l.batch;
}
