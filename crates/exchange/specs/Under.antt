-- A trial's plan under the numbering that is kept so far. Definitions only.
use Rattle.model.specs.Fill.{Plan}
use Rattle.model.specs.Numbering.{renumbered}
use Rattle.exchange.specs.declared.Trial.{Trial}

abbrev pub plan_of : Trial → Plan
plan_of t = renumbered t.n t.plan.now t.numbering.now
