-- The loop goes along both lines. Its invariant: the places before k are counted.
use Rattle.std.proofs.Common.{suc, ◌≤◌}
use Rattle.model.specs.Numbering.{renumbered}
use Rattle.exchange.proofs.Counting.{Counting}
use Rattle.exchange.proofs.Trial.count_past.Given as goal

abbrev pub invariant-loop-k : goal.invariant-loop-k
invariant-loop-k l = record {
  counted : Counting l.self.n (renumbered l.self.n l.self.plan.now l.self.numbering.now) l.self.t l.across l.before l.after l.k;
  within : l.k ≤ suc l.self.n;
}
