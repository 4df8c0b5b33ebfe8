-- The answer of `place` as the model's. Definitions only.
use Rattle.std.specs.Prelude.{ℕ, cond, Option, Some, None}
use Rattle.model.specs.Label.{is_place, Sought, at, outside}
use Rattle.labels.specs.declared.Entry.{Entry}

abbrev pub place_of : Entry → ℕ × ℕ
place_of entry = (entry.row, entry.column)

abbrev pub sought_of : Option Entry → Sought
sought_of (Some entry) = at (place_of entry)
sought_of None = outside

-- (i, j) itself, or that it is no place of a table of order N
abbrev pub placed : ℕ → ℕ → ℕ → Sought
placed N i j = cond (is_place N i j) (at (i, j)) outside
