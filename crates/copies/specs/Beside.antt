-- A chain beside the compiler's records: how far it is compared, and what 28 says of the rest. Document 02, A.10. Definitions only.
use Rattle.std.specs.Prelude.{ℕ, ◌/◌, ◌≤◌, ◌<◌, ◌≡◌, List, ◌++◌, length, Result, Ok, Err}
use Rattle.model.specs.Program.{Record}
use Rattle.model.specs.Check.{Verdict, refusal, whole}
use Rattle.model.specs.Compare.{compared}
use Rattle.model.proofs.Following.{chain_from}
use Rattle.writer.specs.declared.Cursor.{Cursor}
use Rattle.refusal.specs.Named.{number_of, detail_of}
use Rattle.refusal.specs.declared.Refusal.{Refusal}
use Rattle.copies.specs.declared.Compared.{Compared}

-- record k, or 0 before the first, stands on a chain that ends whole
pub record OnChain (W : List ℕ) (k : ℕ) : Type 0 where
  pub few : length W / 4 ≤ 100000000
  pub inside : k < length W / 4
  pub ends : (chain_from W k).end ≡ whole

-- what 28 says of the chain after the last record compared, beside the records rs
unfoldable pub told : List ℕ → Compared → List Record → Verdict
told W z rs = compared z.last rs (chain_from W z.last).links

-- what is said of these records once those before them are compared, or refused
abbrev pub said : List ℕ → Result Compared Refusal → List Record → Verdict
said W (Ok z) rs = told W z rs
said W (Err r) rs = refusal (number_of r) (detail_of r)

-- comparing rs leads from z on: what is said from z on of rs and more is what is said then of more
abbrev pub Leads : List ℕ → List Record → Compared → Result Compared Refusal → Type 0
Leads W rs z then = (more : List Record) → told W z (rs ++ more) ≡ said W then more

-- where the writer of the next place's formula stands: it writes from record 0 on
abbrev pub cursor_of : Compared → Cursor
cursor_of z = record { next = 0; done = z.done; passed = z.passed }

-- before the first record
abbrev pub begun : Compared
begun = record { done = 0; passed = 0; last = 0 }
