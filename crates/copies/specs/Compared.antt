-- What is compared: a formula's records in a row of words, the head, and the whole program for an admitted plan. Definitions only.
use Rattle.std.specs.Prelude.{ℕ, ◌≡◌, Bool, ◌&&◌, List, eqb}
use Rattle.model.specs.Lists.{rising}
use Rattle.model.specs.Fill.{Plan, slots}
use Rattle.model.specs.Program.{Record, compiled_records}
use Rattle.model.specs.Check.{Verdict, word, record_at}
use Rattle.model.specs.Compile.{good, plain, admits}
use Rattle.model.specs.Compare.{compares}
use Rattle.writer.specs.Line.{Ready, plan_records}

-- the first records of a row of words
abbrev pub first_records : List ℕ → ℕ → List Record
first_records words count = rising (record_at words) 0 count

-- record 0 is N, n and s
abbrev pub head_is : List ℕ → ℕ → ℕ → ℕ → Bool
head_is W N n s = eqb (word W 0) N && (eqb (word W 1) n && eqb (word W 2) s)

-- the plan's slots stand in the work numbers, so that the compiler's records are those that the work numbers give
pub record SlotsStand (N : ℕ) (L : Plan) (work in_rows in_columns : List ℕ) (s : ℕ) : Type 0 where
  pub ready : Ready N L work in_rows in_columns
  pub records : plan_records N L work ≡ compiled_records N L
  pub slots-are : s ≡ slots N L

-- the verdict on a program, for every number of work numbers with which the plan is admitted
abbrev pub Compares : ℕ → Plan → List ℕ → Verdict → Type 0
Compares N L W v = (work : ℕ) → admits plain N L work ≡ good → v ≡ compares N L work W
