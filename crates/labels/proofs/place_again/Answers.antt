-- `labels::place_again` gives a place in range back, and none for any other.
use Rattle.std.proofs.Common.{ap, ◌∙◌}
use Rattle.model.specs.Label.{sought}
use Rattle.labels.proofs.Round.{place-again}
use Rattle.labels.proofs.place_again.Goals as goal

pub returns : goal.returns
returns c = c.place.ensures ∙ ap (sought _) c.label.ensures ∙ place-again _ _ _
