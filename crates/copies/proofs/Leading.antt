-- Comparing records one part after another: where each part leads, and what is left to compare.
use Prim.Native.Nat.{ℕ}
use mathlib.Core.Path.{◌≡◌, refl, sym, ap, ◌∙◌}
use mathlib.Core.List.{List, [], ◌++◌, append_assoc}
use Rattle.std.specs.Prelude.{Result, Ok, Err}
use Rattle.model.specs.Program.{Record}
use Rattle.refusal.specs.declared.Refusal.{Refusal}
use Rattle.copies.specs.Beside.{told, said, Leads}
use Rattle.copies.specs.declared.Compared.{Compared}

-- of where the comparison stands, only the last record matters
told_like : (W : List ℕ) (z z' : Compared) (rs : List Record) → z.last ≡ z'.last → told W z rs ≡ told W z' rs
unfolding told
told_like W z z' rs last = rw last

pub leads_like : (W : List ℕ) (rs : List Record) (z₁ z₂ : Compared) (then : Result Compared Refusal) → z₁.last ≡ z₂.last → Leads W rs z₁ then
    → Leads W rs z₂ then
leads_like W rs z₁ z₂ then last leads more = told_like W z₂ z₁ (rs ++ more) (sym last) ∙ leads more

-- one part after another
pub leads_on : (W : List ℕ) (rs rs' : List Record) (z z' : Compared) (then : Result Compared Refusal) → Leads W rs z (Ok z') → Leads W rs' z' then
    → Leads W (rs ++ rs') z then
leads_on W rs rs' z z' then first second more = ap (told W z) (append_assoc rs rs' more) ∙ first (rs' ++ more) ∙ second more

-- a refusal stands, whatever comes after
pub leads_over : (W : List ℕ) (rs rs' : List Record) (z : Compared) (r : Refusal) → Leads W rs z (Err r) → Leads W (rs ++ rs') z (Err r)
leads_over W rs rs' z r first more = ap (told W z) (append_assoc rs rs' more) ∙ first (rs' ++ more)

-- ---- a loop

-- Comparing under way: of `all`, compared from z₀ on, `left` is still to be compared, from z on.
pub record Comparing (W : List ℕ) (all : List Record) (z₀ : Compared) (left : List Record) (z : Compared) : Type 0 where
  pub goes_on : (more : List Record) → told W z₀ (all ++ more) ≡ told W z (left ++ more)

pub comparing_starts : {W : List ℕ} {all : List Record} {z : Compared} → Comparing W all z all z
comparing_starts = record { goes_on = λ more. refl }

module _ {W : List ℕ} {all left : List Record} {z₀ z : Compared} (c : Comparing W all z₀ left z) where
  -- the records rs are compared, as far as `then`
  onward : (rs rest : List Record) (then : Result Compared Refusal) → left ≡ rs ++ rest → Leads W rs z then
      → (more : List Record) → told W z₀ (all ++ more) ≡ said W then (rest ++ more)
  onward rs rest then e leads more =
      c.goes_on more ∙ ap (λ l. told W z (l ++ more)) e ∙ ap (told W z) (append_assoc rs rest more) ∙ leads (rest ++ more)

  pub comparing_more : (rs rest : List Record) {z' : Compared} → left ≡ rs ++ rest → Leads W rs z (Ok z') → Comparing W all z₀ rest z'
  comparing_more rs rest {z'} e leads = record { goes_on = onward rs rest (Ok z') e leads }

  -- nothing is left, or a record is refused
  pub comparing_ends : left ≡ [] → Leads W all z₀ (Ok z)
  comparing_ends none more = c.goes_on more ∙ ap (λ l. told W z (l ++ more)) none

  pub comparing_over : (rs rest : List Record) (r : Refusal) → left ≡ rs ++ rest → Leads W rs z (Err r) → Leads W all z₀ (Err r)
  comparing_over rs rest r e leads = onward rs rest (Err r) e leads
