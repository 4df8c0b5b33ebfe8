-- The checker of programs edited by hand: document 02, A.10. Definitions only.
use Rattle.std.specs.Prelude.{ℕ, ◌/◌, ◌%◌, ◌<◌, ◌≤◌, Bool, true, false, ◌&&◌, ◌↔◌, ◌≡◌, List, [], ◌∷◌, map, eqb, length, Float}
use Rattle.model.specs.Fill.{Plan, slots}
use Rattle.model.specs.Crout.{dense}
use Rattle.model.specs.Program.{Record, compiled_records, compiled}
use Rattle.model.specs.Check.{Link, Verdict, fine, refusal, check, chain, word, record_at, next_of}
use Rattle.model.specs.Compile.{good, bad, plain, admits, work_left}
use Rattle.model.specs.Run.{ran}
use Rattle.model.specs.Agreement.{Accepted, seen, compressed}

-- "the compiler's kinds and operands": the same kind, p and q
unfoldable pub same_record : Record → Record → Bool
same_record r s = eqb r.kind s.kind && (eqb r.p s.p && eqb r.q s.q)

-- 28 along the chain, beside the compiler's records: it names "the first chained record that differs or comes after the compiler's last, or the last one if
-- the chain is too short". last is the index of the chained record before.
unfoldable pub compared : ℕ → List Record → List Link → Verdict
compared last [] [] = fine
compared last [] (l ∷ ls) = refusal 28 l.index
compared last (r ∷ rs) [] = refusal 28 last
compared last (r ∷ rs) (l ∷ ls) = elim (same_record r l.at) [ false ↦ refusal 28 l.index | true ↦ compared l.index rs ls ]

-- "It runs the compiler's checks 1 to 5 first, then 7 to 13, and 28, last of all, names record 0 if N, n or s differs". The slice of work numbers has length
-- work.
unfoldable pub compares : ℕ → Plan → ℕ → List ℕ → Verdict
compares N L work W =
    let rest = compared 0 (compiled_records N L) (chain W).links in
    elim (admits plain N L work) [
      | bad r d ↦ refusal r d
      | good ↦ elim (check W) [
        | refusal r d ↦ refusal r d
        | fine ↦ elim (eqb (word W 0) N && (eqb (word W 1) (length L) && eqb (word W 2) (slots N L))) [ false ↦ refusal 28 0 | true ↦ rest ]
      ]
    ]

-- "After 7 to 13, 28 and success the work slice holds the plan's slots as the compiler leaves them", and after 1 to 5 what it leaves there then
unfoldable pub work_compared : ℕ → Plan → List ℕ → List ℕ
work_compared N L work = work_left plain (admits plain N L (length work)) N L work

-- ---- the statements; their proofs stand in proofs/

-- "of those that pass 1 to 5 and 7 to 13, accepts exactly those whose chain, read in order, has the compiler's kinds and operands and whose N, n and s are the
-- plan's"
pub record Copies (N : ℕ) (L : Plan) (work : ℕ) (W : List ℕ) : Type 0 where
  pub admitted : admits plain N L work ≡ good
  pub checked : check W ≡ fine
  pub order : word W 0 ≡ N
  pub labels : word W 1 ≡ length L
  pub slots-are : word W 2 ≡ slots N L
  pub records : map (λ l. l.at) (chain W).links ≡ compiled_records N L

abbrev pub AcceptsExactly : ℕ → Plan → ℕ → List ℕ → Type 0
AcceptsExactly N L work W = (compares N L work W ≡ fine) ↔ Copies N L work W

-- "What it accepts runs like dense Crout, with refusals at the same formula."
abbrev pub AcceptedRuns : ℕ → Plan → ℕ → List ℕ → List Float → List Float → Float → Type 0
AcceptedRuns N L work W A B limit = Accepted N L A B limit → compares N L work W ≡ fine
    → seen (ran W A B limit (slots N L) N N) ≡ compressed N L (dense N L A B limit)

-- W is the program P "with unused records put between, its chain led round them and at most 100,000,000 records in all": record k of P stands at `to k`, and
-- the other records may be anything.
pub record Spaced (P W : List ℕ) (to : ℕ → ℕ) : Type 0 where
  pub fours : length W % 4 ≡ 0
  pub few : length W / 4 ≤ 100000000
  pub head : to 0 ≡ 0
  pub rises : (j k : ℕ) → j < k → k < length P / 4 → to j < to k
  pub inside : (k : ℕ) → k < length P / 4 → to k < length W / 4
  pub same : (k : ℕ) → k < length P / 4 → record_at W (to k) ≡ record_at P k
  pub led : (k : ℕ) → k < length P / 4 → next_of W (to k) ≡ to (next_of P k)

-- "Every program written for that plan by document 01's compiler", so edited, "is accepted."
abbrev pub SpacedAccepted : ℕ → Plan → ℕ → List ℕ → (ℕ → ℕ) → Type 0
SpacedAccepted N L work W to = admits plain N L work ≡ good → Spaced (compiled N L) W to → compares N L work W ≡ fine
