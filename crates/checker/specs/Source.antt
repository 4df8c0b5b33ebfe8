-- A program's records as the code reads them. Definitions only.
use Rattle.std.specs.Prelude.{ℕ, ◌+◌, ◌*◌, List}
use Rattle.model.specs.Check.{word}
use Rattle.progress.specs.declared.Record.{Record}

abbrev pub record_of : List ℕ → ℕ → Record
record_of W k = record { kind = word W (4 * k); p = word W (4 * k + 1); q = word W (4 * k + 2); next = word W (4 * k + 3) }
