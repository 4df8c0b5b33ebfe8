-- Check 7, before the chain, and the chain. Definitions only.
use Rattle.std.specs.Prelude.{ℕ, ◌/◌, ◌%◌, Bool, true, false, ◌&&◌, List, leb, ltb, eqb}
use Rattle.model.specs.Check as Check
use Rattle.model.specs.Check.{check_links, chain, Verdict, refusal}
use Rattle.progress.specs.declared.Head.{Head}

-- 7: a count of words that a program can have
abbrev pub count_fits : ℕ → Bool
count_fits n = ltb 0 n && (eqb (n % 4) 0 && leb (n / 4) 100000000)

-- what follows a record k that is refused by r, or not if r is 0
abbrev pub unless : ℕ → ℕ → Verdict → Verdict
unless r k v = elim (eqb r 0) [ true ↦ v | false ↦ refusal r k ]

-- the records along the chain, and its end
abbrev pub followed : Head → List ℕ → Verdict
followed h W = check_links h.order h.coefficients h.slots Check.begun (chain W).links (chain W).end
