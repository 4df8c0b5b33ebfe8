-- `slots::index_of` is one below the label, which is at least 1.
use Rattle.std.proofs.Common.{arith, ◌∙◌}
use Rattle.model.proofs.Labels.{label-range}
use Rattle.labels.proofs.Range.{label-answered}
use Rattle.slots.proofs.index_of.Goals as goal

pub overflow_sub-label : goal.overflow_sub-label
overflow_sub-label c = let p = c.requires in omega (arith, label-range _ _ _ p.1, c.label.ensures ∙ label-answered _ _ _ p.0 p.1)

pub returns : goal.returns
returns c = let p = c.requires in omega (arith, label-range _ _ _ p.1, c.label.ensures ∙ label-answered _ _ _ p.0 p.1, c.wide.ensures)
