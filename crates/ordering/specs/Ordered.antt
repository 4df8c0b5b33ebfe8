-- The answer of a call for a better numbering, as the model's. Definitions only.
use Rattle.std.specs.Prelude.{Result, Ok, Err}
use Rattle.model.specs.Numbering.{Renumbering, numbered, refused}
use Rattle.refusal.specs.Named.{number_of, detail_of}
use Rattle.refusal.specs.declared.Refusal.{Refusal}
use Rattle.ordering.specs.declared.Renumbered.{Renumbered}

abbrev pub ordered_of : Result Renumbered Refusal → Renumbering
ordered_of (Ok r) = numbered r.slots r.trials r.distance
ordered_of (Err r) = refused (number_of r) (detail_of r)
