-- A plan marked in the work numbers. Definitions only.
use Rattle.std.specs.Prelude.{ℕ, suc, ◌*◌, ◌≤◌, ◌<◌, ◌≡◌, List, ltb, length, get_or, take, drop}
use Rattle.model.specs.Fill.{Plan, position}
use Rattle.model.specs.Sweep.{position_numbers}

-- after the first q, a work number isn't 0 exactly where its label is in the plan
pub record Marks (N : ℕ) (L : Plan) (q : ℕ) (work : List ℕ) : Type 0 where
  pub marks : (k : ℕ) → q ≤ k → k < N * N → ltb 0 (get_or work k 0) ≡ ltb 0 (position L (suc k))

-- the first N² work numbers are the positions in the plan, which mark it, and the others are as they came
pub record Marked (N : ℕ) (L : Plan) (before work : List ℕ) : Type 0 where
  pub positions : take (N * N) work ≡ position_numbers N L
  pub marked : Marks N L 0 work
  pub size : length work ≡ length before
  pub rest : drop (N * N) work ≡ drop (N * N) before
