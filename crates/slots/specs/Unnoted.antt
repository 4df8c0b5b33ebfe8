-- Nothing is noted of any row or column. Definitions only.
use Rattle.std.specs.Prelude.{◌≡◌, replicate}
use Rattle.slots.specs.declared.Firsts.{Firsts}

abbrev pub Unnoted : Firsts → Type 0
Unnoted firsts = (firsts.rows ≡ replicate 601 601) × (firsts.columns ≡ replicate 601 601)
