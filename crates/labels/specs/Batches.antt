-- Where a batch of labels begins, and which it has. Definitions only.
use Rattle.std.specs.Prelude.{ℕ, suc, ◌+◌, ◌-◌, ◌*◌, ◌≤◌, ◌<◌, ◌≡◌}
use Rattle.model.specs.Label.{label}
use Rattle.labels.specs.declared.Batch.{Batch}

-- label k is none before the batch
pub record Reaches (N k : ℕ) (b : Batch) : Type 0 where
  pub low : 1 ≤ b.number
  pub high : b.number ≤ N
  pub begins : suc b.before ≡ label N b.number b.number
  pub past : b.before < k

-- nor one after it
pub record Holds (N k : ℕ) (b : Batch) : Type 0 where
  pub reaches : Reaches N k b
  pub ends : k ≤ b.before + (2 * (N - b.number) + 1)
