-- The checker of programs edited by hand: what it accepts, and how that runs. Document 02, A.10.
use Prim.Native.Nat.{ℕ}
use mathlib.Core.Path.{◌≡◌, refl, sym, ap, ap₂, ◌∙◌}
use mathlib.Core.Bool.{Bool, true, false, ◌&&◌}
use mathlib.Core.List.{List, [], ◌∷◌}
use borrow.Author.Tests.{eqb-true, eq-eqb}
use lib.Dec.{eqb}
use lib.ListN.{length}
use lib.Ieee.{Float}
use Rattle.model.specs.Fill.{Plan, slots}
use Rattle.model.specs.Program.{Record, compiled_records}
use Rattle.model.specs.Check.{Link, Verdict, fine, refusal, check, chain, word}
use Rattle.model.specs.Compile.{Labels, good, bad, plain, admits}
use Rattle.model.specs.Run.{fresh, follow, followed}
use Rattle.model.specs.Agreement.{seen}
use Rattle.model.specs.Compare.{same_record, compared, compares, Copies, AcceptsExactly, AcceptedRuns}
use Rattle.model.proofs.Within.{within-range}
use Rattle.model.proofs.Passing.{refused-fine, both}
use Rattle.model.proofs.Links.{links_from}
use Rattle.model.proofs.Chain.{program-chain}
use Rattle.model.proofs.Agreement.{runs_as, runs, agreement}
use Rattle.model.proofs.ByRecords.{records_on, run_by_records}

-- three numbers that are found the same are the same
three_same : (a b c a' b' c' : ℕ) → eqb a a' && (eqb b b' && eqb c c') ≡ true → (a ≡ a') × (b ≡ b') × (c ≡ c')
three_same a b c a' b' c' e =
    let first = both (eqb a a') _ e in
    let others = both (eqb b b') (eqb c c') first.1 in
    (eqb-true a a' first.0, eqb-true b b' others.0, eqb-true c c' others.1)

-- ---- the records

same-record : (r s : Record) → same_record r s ≡ true → s ≡ r
unfolding same_record
same-record r s e =
    let same = three_same r.kind r.p r.q s.kind s.p s.q e in
    sym (λ i. record { kind = same.0 i; p = same.1 i; q = same.2 i })

record_same : (r : Record) → same_record r r ≡ true
unfolding same_record
record_same r = rw (eq-eqb r.kind r.kind refl, eq-eqb r.p r.p refl, eq-eqb r.q r.q refl)

-- the comparison finds nothing exactly where the chain's records are these
compared_same : (last : ℕ) (rs : List Record) (ls : List Link) → compared last rs ls ≡ fine → records_on ls ≡ rs
unfolding compared
compared_same last [] [] e = refl
compared_same last [] (l ∷ ls) e = absurd (refused-fine _ _ e)
compared_same last (r ∷ rs) [] e = absurd (refused-fine _ _ e)
compared_same last (r ∷ rs) (l ∷ ls) e = go (same_record r l.at) refl e (compared_same l.index rs ls)
  where
    go : (b : Bool) → same_record r l.at ≡ b → elim b as (λ b. Verdict) [ false ↦ refusal 28 l.index | true ↦ compared l.index rs ls ] ≡ fine
        → (compared l.index rs ls ≡ fine → records_on ls ≡ rs) → records_on (l ∷ ls) ≡ r ∷ rs
    go true same e rest = ap₂ ◌∷◌ (same-record r l.at same) (rest e)
    go false same e rest = absurd (refused-fine _ _ e)

compared-fine : (last : ℕ) (ls : List Link) → compared last (records_on ls) ls ≡ fine
unfolding compared
compared-fine last [] = refl
compared-fine last (l ∷ ls) = rw (compared, record_same l.at) (compared-fine l.index ls)

-- ---- the checker

module _ (N : ℕ) (L : Plan) (work : ℕ) (W : List ℕ) where
  pub copies_accepted : Copies N L work W → compares N L work W ≡ fine
  unfolding compares
  copies_accepted c =
      rw (
        compares,
        c.admitted,
        c.checked,
        eq-eqb (word W 0) N c.order,
        eq-eqb (word W 1) (length L) c.labels,
        eq-eqb (word W 2) (slots N L) c.slots-are,
        ← c.records,
      )
      (compared-fine 0 (chain W).links)

  pub accepted_copies : compares N L work W ≡ fine → Copies N L work W
  unfolding compares
  accepted_copies e = go (admits plain N L work) (check W) head refl refl refl e
    where
      head : Bool
      head = eqb (word W 0) N && (eqb (word W 1) (length L) && eqb (word W 2) (slots N L))

      go : (a : Labels) (v : Verdict) (h : Bool) → admits plain N L work ≡ a → check W ≡ v → head ≡ h
          → elim a as (λ a. Verdict) [
            | bad r d ↦ refusal r d
            | good ↦ elim v [
              | refusal r d ↦ refusal r d
              | fine ↦ elim h [ false ↦ refusal 28 0 | true ↦ compared 0 (compiled_records N L) (chain W).links ]
            ]
          ] ≡ fine → Copies N L work W
      go (bad r d) v h p q s e = absurd (refused-fine _ _ e)
      go good (refusal r d) h p q s e = absurd (refused-fine _ _ e)
      go good fine false p q s e = absurd (refused-fine _ _ e)
      go good fine true p q s e =
          let same = three_same (word W 0) (word W 1) (word W 2) N (length L) (slots N L) s in
          record {
            admitted = p;
            checked = q;
            order = same.0;
            labels = same.1;
            slots-are = same.2;
            records = compared_same 0 (compiled_records N L) (chain W).links e;
          }

  -- The headline: it accepts exactly the copies.
  pub accepts_exactly : AcceptsExactly N L work W
  accepts_exactly = (accepted_copies, copies_accepted)

-- What it accepts runs as the compiled program does, and so like dense Crout, with refusals at the same formula.
pub accepted_runs : (N : ℕ) (L : Plan) (work : ℕ) (W : List ℕ) (A B : List Float) (limit : Float) → AcceptedRuns N L work W A B limit
accepted_runs N L work W A B limit accepted e =
    let copy = accepted_copies N L work W e in
    let first = (within-range N 600 accepted.given.order).0 in
    ap seen (runs_as accepted W copy.order copy.labels copy.slots-are copy.checked)
    ∙ run_by_records A B limit (fresh N) 1 (chain W).links
    ∙ ap (λ ls. seen (followed (follow A B limit (fresh N) ls))) (ap (links_from 1) copy.records ∙ sym (ap (λ c. c.links) (program-chain N L first)))
    ∙ sym (ap seen (runs accepted))
    ∙ agreement N L A B limit accepted
