-- `labels::place_within` finds the batch of a label, and the place there.
use Rattle.std.proofs.Common.{sym, ap, ◌∙◌}
use Rattle.model.specs.Label.{place}
use Rattle.model.proofs.Labels.{place_of_label}
use Rattle.labels.proofs.Seeking.{first-batch}
use Rattle.labels.proofs.place_within.Goals as goal

pub batch_of-requires : goal.batch_of-requires
batch_of-requires c = let p = c.requires in ((p.0.1, p.1.1), first-batch _ _ p.0.0 p.1.0)

pub returns : goal.returns
returns c =
    let found = c.place_in.ensures in
    sym (place_of_label _ _ _ found.0) ∙ ap (place _) found.1
