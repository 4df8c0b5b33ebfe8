-- A plan under a numbering, marked or with its slots in the work numbers. Definitions only.
use Rattle.std.specs.Prelude.{ℕ, suc, ◌*◌, ◌≤◌, ◌<◌, ◌≡◌, List, length, get_or, take, drop}
use Rattle.model.specs.Label.{label}
use Rattle.model.specs.Fill.{Plan, slots}
use Rattle.model.specs.Compile.{slot_numbers}
use Rattle.model.specs.Numbering.{Numbering, renumbered}
use Rattle.model.proofs.Labels.{Inside}
use Rattle.slots.specs.Marks.{Marks}
use Rattle.exchange.specs.Stood.{Stood}

-- the slots of a numbering that the trials keep stand in the work numbers, and there are so many
pub record Numbered (N : ℕ) (L : Plan) (p : Numbering) (work in_rows in_columns : List ℕ) (s : ℕ) : Type 0 where
  pub stood : Stood N L p work in_rows in_columns
  pub written : take (N * N) work ≡ slot_numbers N (renumbered N L p)
  pub slots-are : s ≡ slots N (renumbered N L p)

-- each of the first k rooms of a numbering has its position noted
pub record Inverse (p : Numbering) (k : ℕ) (positions : List ℕ) : Type 0 where
  pub size : length positions ≡ 601
  pub noted : (a : ℕ) → a < k → get_or positions (get_or p a 0) 0 ≡ suc a

-- the positions of 1..N are in 1..N
abbrev pub Ranged : ℕ → List ℕ → Type 0
Ranged N positions = (r : ℕ) → 1 ≤ r → r ≤ N → (1 ≤ get_or positions r 0) × (get_or positions r 0 ≤ N)

-- label x goes to the work number with this index, by the positions of its row and its column
pub record Moved (N x : ℕ) (positions : List ℕ) (index : ℕ) : Type 0 where
  pub row : ℕ
  pub column : ℕ
  pub inside : Inside N row column
  pub label_is : label N row column ≡ x
  pub index_is : suc index ≡ label N (get_or positions row 0) (get_or positions column 0)

-- the first N² work numbers mark a plan, and the others are as they came
pub record MarksAnew (N : ℕ) (P : Plan) (before work : List ℕ) : Type 0 where
  pub marked : Marks N P 0 work
  pub size : length work ≡ length before
  pub rest : drop (N * N) work ≡ drop (N * N) before
