-- The set is marked, and its places are filled.
use Rattle.census.proofs.Marking.{set-marks}
use Rattle.census.proofs.first_missing.Goals as goal

pub returns : goal.returns
returns c = (c.fill-filled.ensures _ (set-marks c.args.n c.args.set c.requires c.mark_set.ensures)).missing_is
