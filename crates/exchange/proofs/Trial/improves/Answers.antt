-- Whether the exchanged plan is accepted, and then the slots of both batches, decide the trial.
use Rattle.std.proofs.Common.{arith, ◌≤◌}
use Rattle.exchange.proofs.Counting.{counts_few}
use Rattle.exchange.proofs.Verdict.{not_accepted, improved}
use Rattle.exchange.proofs.Trial.improves.Goals as goal
use Rattle.exchange.proofs.Trial.improves.Goals.{After-count_past-right}

pub returns-then-not-is_accepted : goal.returns-then-not-is_accepted
returns-then-not-is_accepted c = not_accepted c.args.self.now.stood c.args.self.now.neighbours c.is_accepted.ensures c.if-not-is_accepted.true

-- the counts are small
small : (c : After-count_past-right) → let d = c.count_past-down.result in let r = c.count_past-right.result in
    (d.before ≤ 1200) × (d.after ≤ 1200) × (r.before ≤ 1200) × (r.after ≤ 1200)
small c =
    let high = c.args.self.now.stood.stands.high in
    omega (arith, counts_few high c.count_past-down.ensures, counts_few high c.count_past-right.ensures)

pub overflow_add-result : goal.overflow_add-result
overflow_add-result c = omega (arith, small (goal.at.overflow_add-result c).After-count_past-right)

pub overflow_add-result-2 : goal.overflow_add-result-2
overflow_add-result-2 c = omega (arith, small (goal.at.overflow_add-result-2 c).After-count_past-right)

pub returns : goal.returns
returns c =
    improved c.args.self.now.stood c.args.self.now.neighbours c.is_accepted.ensures c.if-not-is_accepted.false c.count_past-down.ensures c.count_past-right.ensures
