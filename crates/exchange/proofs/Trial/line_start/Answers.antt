-- The pivot has a label, and a row starts past those of its column.
use Rattle.std.proofs.Common.{arith, ◌≡◌, ◌≤◌}
use Rattle.model.specs.Label.{label}
use Rattle.plans.proofs.Places.{place-label}
use Rattle.exchange.proofs.Trial.line_start.Goals as goal
use Rattle.exchange.proofs.Trial.line_start.Goals.{After-label}

pivot : (c : After-label) → let t = c.args.self.now in (c.label.result ≡ label t.n c.args.m c.args.m) × (1 ≤ c.label.result)
pivot c =
    let q = c.requires in
    place-label _ _ _ c.label.ensures c.args.self.now.stood.stands.high (record { row_low = q.0; row-high = q.1; column-low = q.0; column-high = q.1 })

pub overflow_sub-label : goal.overflow_sub-label
overflow_sub-label c = (pivot (goal.at.overflow_sub-label c).After-label).1

pub returns-then-across : goal.returns-then-across
returns-then-across c = rw c.if-across.true (omega (arith, pivot (goal.at.returns-then-across c).After-label))

pub returns-else-across : goal.returns-else-across
returns-else-across c = rw c.if-across.false (omega (arith, pivot (goal.at.returns-else-across c).After-label))
