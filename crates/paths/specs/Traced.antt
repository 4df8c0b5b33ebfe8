-- The answer of a call for a path as the model's. Definitions only.
use Rattle.std.specs.Prelude.{ℕ, Result, Ok, Err}
use Rattle.model.specs.Path.{Traced, found, refused}
use Rattle.refusal.specs.Named.{number_of, detail_of}
use Rattle.refusal.specs.declared.Refusal.{Refusal}

abbrev pub traced_of : Result ℕ Refusal → Traced
traced_of (Ok entries) = found entries
traced_of (Err r) = refused (number_of r) (detail_of r)
