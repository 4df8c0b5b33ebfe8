-- A reading and the numbers lent with it as the model's text, and its end as the model's. Definitions only.
use Rattle.std.specs.Prelude.{ℕ, suc, ◌≤◌, ◌<◌, min, ◌≡◌, Bool, true, false, List, take, drop, Result, Ok, Err}
use Rattle.model.specs.Text as Text
use Rattle.text.specs.declared.Stage.{Stage}
use Rattle.text.specs.declared.Stage.TheVariants.{Between, Within, Faulty}
use Rattle.text.specs.declared.Reading.{Reading}
use Rattle.refusal.specs.declared.Refusal.{Refusal}
use Rattle.refusal.specs.Named.{number_of, detail_of}
use Rattle.text.specs.declared.Listed.{Listed}

abbrev pub stage_of : Stage → Text.Stage
stage_of Between = Text.between
stage_of (Within start value) = Text.within start value
stage_of (Faulty at) = Text.faulty at

-- the numbers that have ended are the first ones of the slice
abbrev pub text_of : Reading → List ℕ → Text.Text
text_of r numbers = record { position = r.position; numbers = take r.count numbers; stage = stage_of r.stage }

abbrev pub is_faulty : Text.Stage → Bool
is_faulty Text.between = false
is_faulty (Text.within s v) = false
is_faulty (Text.faulty at) = true

-- N is the first number of the slice, and the labels follow it; a fault's position is its refusal's detail
abbrev pub scanned_of : Result Listed Refusal → List ℕ → Text.Scanned
scanned_of (Ok l) numbers = Text.scanned l.order (take l.labels (drop 1 numbers))
scanned_of (Err r) numbers = Text.bad_at (detail_of r)

-- The lent slice after a call: the numbers past those that have ended are as they were. The counts before and after the call.
pub record Kept (before after : ℕ) (entry exit : List ℕ) : Type 0 where
  pub grown : before ≤ after
  pub rest : drop after exit ≡ drop after entry

-- the same at the end of the input: the numbers past N and the labels; a fault leaves all as they were
abbrev pub Untouched : Result Listed Refusal → List ℕ → List ℕ → Type 0
Untouched (Ok l) entry exit = drop (suc l.labels) exit ≡ drop (suc l.labels) entry
Untouched (Err r) entry exit = exit ≡ entry

-- N and the labels are as many of the first numbers as stand in a slice of this length
abbrev pub Counted : Result Listed Refusal → ℕ → ℕ → Type 0
Counted (Ok l) count size = suc l.labels ≡ min count size
Counted (Err r) count size = (min count size ≡ 0) × (number_of r ≡ 20)

-- the labels stand in a slice of this length, after N; a fault is refusal 20
abbrev pub Standing : Result Listed Refusal → ℕ → Type 0
Standing (Ok l) size = l.labels < size
Standing (Err r) size = number_of r ≡ 20
