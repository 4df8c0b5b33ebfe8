-- `labels::label_within` is (2.8).
use Rattle.std.proofs.Common.{sym}
use Rattle.model.proofs.Labels.{label-lower, label-upper}
use Rattle.labels.proofs.label_within.Goals as goal

pub returns-then-j-i : goal.returns-then-j-i
returns-then-j-i c = sym (label-lower _ _ _ c.if-j-i.true)

pub returns-else-j-i : goal.returns-else-j-i
returns-else-j-i c = sym (label-upper _ _ _ c.if-j-i.false)
