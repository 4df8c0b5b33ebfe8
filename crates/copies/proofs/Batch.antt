-- Batch m beside the chain: its column, y(m) and its row.
use Prim.Native.Nat.{ℕ}
use mathlib.Core.Path.{◌≡◌}
use mathlib.Core.Bool.{true, false}
use mathlib.Core.List.{List}
use Rattle.model.specs.Fill.{Plan}
use Rattle.writer.specs.Line.{Before, line_records, y_at, batch_at}
use Rattle.std.specs.Prelude.{Result, Ok, Err}
use Rattle.refusal.specs.declared.Refusal.{Refusal}
use Rattle.copies.specs.Beside.{Leads}
use Rattle.copies.specs.declared.Compared.{Compared}
use Rattle.copies.proofs.Leading.{leads_on, leads_over}

module _ (W : List ℕ) (n : ℕ) (L : Plan) (work : List ℕ) (m : ℕ) (z : Compared) where
  pub column_over : (r : Refusal) → Leads W (line_records n L work false m) z (Err r) → Leads W (batch_at n L work m) z (Err r)
  unfolding batch_at
  column_over r column = leads_over W (line_records n L work false m) _ z r column

  module _ (z₁ : Compared) (column : Leads W (line_records n L work false m) z (Ok z₁)) where
    pub forward_over : (r : Refusal) → Leads W (y_at n work m) z₁ (Err r) → Leads W (batch_at n L work m) z (Err r)
    unfolding batch_at
    forward_over r forward = leads_on W (line_records n L work false m) _ z z₁ (Err r) column (leads_over W (y_at n work m) _ z₁ r forward)

    pub batch-leads : (z₂ : Compared) (then : Result Compared Refusal) → Leads W (y_at n work m) z₁ (Ok z₂) → Leads W (line_records n L work true m) z₂ then
        → Leads W (batch_at n L work m) z then
    unfolding batch_at
    batch-leads z₂ then forward row =
        leads_on W (line_records n L work false m) _ z z₁ then column (leads_on W (y_at n work m) _ z₁ z₂ then forward row)

-- no place is done meanwhile
pub before_like : {n : ℕ} {L : Plan} {i j next done done' passed passed' : ℕ} → (done' ≡ done) × (passed' ≡ passed)
    → Before n L i j (record { next = next; done = done; passed = passed }) → Before n L i j (record { next = next; done = done'; passed = passed' })
before_like same before = rw (same.0, same.1) before
