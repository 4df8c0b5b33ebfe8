-- The answer of a call that asks whether a plan costs most, as the model's. Definitions only.
use Rattle.std.specs.Prelude.{Bool, true, false, Result, Ok, Err}
use Rattle.model.specs.Dearest as Dearest
use Rattle.model.specs.Dearest.{yes, no, refused}
use Rattle.refusal.specs.Named.{number_of, detail_of}
use Rattle.refusal.specs.declared.Refusal.{Refusal}

abbrev pub costs_of : Result Bool Refusal → Dearest.Costs
costs_of (Ok true) = yes
costs_of (Ok false) = no
costs_of (Err r) = refused (number_of r) (detail_of r)
