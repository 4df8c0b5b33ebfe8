-- `slots::empty_run` counts: the places from the t-th to before the k-th are empty.
use Rattle.std.proofs.Common.{◌-◌}
use Rattle.slots.specs.Walked.{EmptyRun}
use Rattle.slots.proofs.empty_run.Given as goal

abbrev pub invariant-loop-k : goal.invariant-loop-k
invariant-loop-k l = EmptyRun l.n l.across l.m l.t l.done l.work l.firsts.rows l.firsts.columns (l.k - l.t)
