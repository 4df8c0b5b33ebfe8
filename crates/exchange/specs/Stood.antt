-- A plan under a numbering that the trials keep, with its slots in the work numbers. Definitions only.
use Rattle.std.specs.Prelude.{ℕ, suc, ◌-◌, ◌≤◌, ◌<◌, ◌≡◌, Bool, true, not, List}
use Rattle.model.specs.Label.{is_order}
use Rattle.model.specs.Fill.{Plan, held}
use Rattle.model.specs.Compile.{judged, good}
use Rattle.model.specs.Numbering.{Numbering, renumbered}
use Rattle.model.proofs.Labels.{Inside}
use Rattle.model.proofs.Reach.{reach}
use Rattle.model.proofs.Exchanged.{pairs}
use Rattle.model.proofs.Trials.{Kept}
use Rattle.slots.specs.Batch.{row_of, column_of}
use Rattle.plans.specs.Stands.{Stands}
use Rattle.exchange.specs.declared.Past.{Past}

pub record Stood (N : ℕ) (L : Plan) (p : Numbering) (work in_rows in_columns : List ℕ) : Type 0 where
  pub order : is_order N ≡ true
  pub labels : judged N 0 1 L ≡ good
  pub kept : Kept N L p
  pub stands : Stands N (renumbered N L p) work in_rows in_columns

-- rooms t and t + 1 are there
abbrev pub Neighbours : ℕ → ℕ → Type 0
Neighbours N t = (1 ≤ t) × (t < N)

-- (i, j) is held, past t
pub record Beyond (N : ℕ) (P : Plan) (t i j : ℕ) : Type 0 where
  pub inside : Inside N i j
  pub row-past : t < i
  pub column-past : t < j
  pub holds : held N P i j ≡ true

-- a line of each room: of room t what is held, of room t + 1 what is reached through rooms below t
abbrev pub first_line : ℕ → Plan → ℕ → Bool → ℕ → Bool
first_line N P t across k = held N P (row_of across t k) (column_of across t k)

abbrev pub second_line : ℕ → Plan → ℕ → Bool → ℕ → Bool
second_line N P t across k = reach N P (t - 1) (row_of across (suc t) k) (column_of across (suc t) k)

-- whether the second goes on through the first
abbrev pub linked : ℕ → Plan → ℕ → Bool → Bool
linked N P t across = held N P (row_of across (suc t) t) (column_of across (suc t) t)

-- the slots of both lines, and what they would be
pub record Counts (N : ℕ) (P : Plan) (t : ℕ) (across : Bool) (r : Past) : Type 0 where
  pub before_is : r.before ≡ pairs N (t - 1) (first_line N P t across) (second_line N P t across) (linked N P t across)
  pub after_is : r.after ≡ pairs N (t - 1) (second_line N P t across) (first_line N P t across) (linked N P t (not across))
