-- Refusals are small: a number of at most 30 and a detail that is at most a record count, a length or a number of records, so both fit one 64-bit number.
use Prim.Native.Nat.{ℕ, zero, suc, ◌+◌, ◌-◌, ◌*◌, ◌/◌, ◌%◌, ◌≤◌}
use mathlib.Core.Path.{◌≡◌, refl, sym}
use mathlib.Core.Bool.{Bool, true, false, cond, ◌&&◌}
use mathlib.Core.List.{List, [], ◌∷◌, map}
use native.Mathlib.Omega.{arith}
use native.Mathlib.Nat.{mul-le-mul}
use native.Mathlib.Decide.{dec_le}
use lib.Dec.{eqb, leb, ltb}
use lib.ListN.{length}
use lib.Ieee.{Float}
use borrow.Author.Tests.{ltb-true, eqb-false}
use Rattle.model.specs.Label.{is_order, within, label, is_place}
use Rattle.model.specs.Fill.{Plan, slots, position, held, missing, product_count}
use Rattle.model.specs.Check as Check
use Rattle.model.specs.Check.{Link, Kind, opens, subtracts, divides, closes, closes_pivot, none, Progress, Verdict, fine}
use Rattle.model.specs.Check.{End, whole, broken, Chain, chain_after, chain, next_of, record_at, before}
use Rattle.model.specs.Check.{kind_of, is_sweep, belongs, formed, in_order, allowed, onward, complete, check_links, check_from, check, begun, word}
use Rattle.model.specs.Arith.{Answer, number, overflow, zero_divisor, clean, quotient, is_finite, vanishes, is_small}
use Rattle.model.specs.Formula.{C, Y, X, entry, less}
use Rattle.model.specs.Sweep.{bare_from, bare, Once, swept, ends, Sweeps, settled, unsettled, ended, sweeping, moved, most_sweeps, loaded}
use Rattle.model.specs.Run.{State, Outcome, solution, refused_by, unsettled_at, started_on, fresh, Stepped, going, stop}
use Rattle.model.specs.Run.{closing, subtracted, divided_by, settled_step, step, Followed, through, halted, follow, followed}
use Rattle.model.specs.Run.{once_more, only_x, swept_over, not_finite, check_values, ran, Reply, solves, stops, refuses, reply}
use Rattle.model.specs.Many.{sides, none_run, ran_many, verdict}
use Rattle.model.specs.Compile as Compile
use Rattle.model.specs.Compile.{Compiled, written, Labels, good, bad, judged, Compiler, plain, compact, sweep, wanted, gap, gap_at}
use Rattle.model.specs.Compile.{slots_by, products_by, records_by, orderly, admits, compiles_by, compiles}
use Rattle.model.specs.Program.{Record, compiled_records, compiled}
use Rattle.model.specs.Compare.{same_record, compared, compares}
use Rattle.model.specs.Path.{tracing}
use Rattle.model.specs.Dearest as Dearest
use Rattle.model.specs.Dearest.{Costs, full_plan, costs}
use Rattle.model.specs.Census.{countable}
use Rattle.model.specs.Numbering as Numbering
use Rattle.model.specs.Numbering.{Renumbering, numbered, renumbered, trials_made, kept_numbering, numbering_checks, renumbers}
use Rattle.model.specs.Residual.{measuring}
use Rattle.model.specs.Solve.{replied}
use Rattle.model.specs.File as File
use Rattle.model.specs.File.{Filed, filed, writes, reads, words_of, check_file}
use Rattle.model.proofs.Bytes.{words-length}
use Rattle.model.proofs.Within.{within-range}
use Rattle.model.proofs.Plans.{missing-free}
use Rattle.model.proofs.Compiles.{ordered_by, admitted_by, answered_by, compiles_is, compiles_success}
use Rattle.model.proofs.Passing.{refused-fine}
use Rattle.model.proofs.Runs.{gated_each, values_each, lengths_right, done_by, ran_by, ran_is}
use Rattle.model.proofs.Sides.{along_chain, lengths_fit, own_runs, many_by, many_is}
use Rattle.model.proofs.Counts.{words-counted}
use Rattle.model.proofs.Bounds.{records-at_most}
use Rattle.model.proofs.Tracing.{tracing-early, tracing_unheld, tracing-short, tracing-fine}

-- a refusal's number is at most 30 and its detail at most b
abbrev pub Small : ℕ → ℕ → ℕ → Type 0
Small b r d = (r ≤ 30) × (d ≤ b)

-- ---- checks 7 to 13, and 18

abbrev pub SmallVerdict : ℕ → Verdict → Type 0
SmallVerdict b fine = Unit {0}
SmallVerdict b (Check.refusal r d) = Small b r d

abbrev LinksUpTo : ℕ → List Link → Type 0
LinksUpTo b [] = Unit {0}
LinksUpTo b (l ∷ ls) = (l.index ≤ b) × LinksUpTo b ls

abbrev EndUpTo : ℕ → End → Type 0
EndUpTo b whole = Unit {0}
EndUpTo b (broken k) = k ≤ b

abbrev ChainUpTo : ℕ → Chain → Type 0
ChainUpTo b c = LinksUpTo b c.links × EndUpTo b c.end

chain_up_to : (d : ℕ) (W : List ℕ) (k : ℕ) → k ≤ length W / 4 → ChainUpTo (length W / 4) (chain_after d W k)
unfolding chain_after
chain_up_to zero W k h = step (eqb (next_of W k) 0)
  where
    step : (b : Bool) → ChainUpTo (length W / 4) (record { links = []; end = cond b whole (broken k) })
    step true = (tt, tt)
    step false = (tt, h)
chain_up_to (suc d) W k h = step (eqb (next_of W k) 0) (ltb k (next_of W k)) (ltb (next_of W k) (length W / 4)) refl (chain_up_to d W (next_of W k))
  where
    step : (none above below : Bool) → ltb (next_of W k) (length W / 4) ≡ below
        → (next_of W k ≤ length W / 4 → ChainUpTo (length W / 4) (chain_after d W (next_of W k)))
        → ChainUpTo (length W / 4) (elim none as (λ b. Chain) [
          | true ↦ record { links = []; end = whole }
          | false ↦ elim (above && below) as (λ b. Chain) [
            | true ↦ before (record { index = next_of W k; at = record_at W (next_of W k) }) (chain_after d W (next_of W k))
            | false ↦ record { links = []; end = broken k }
          ]
        ])
    step true above below e rest = (tt, tt)
    step false false below e rest = (tt, h)
    step false true false e rest = (tt, h)
    step false true true e rest =
        let low = ltb-true (next_of W k) (length W / 4) e in
        let r = rest (omega arith) in
        ((omega arith, r.0), r.1)

-- a program's records have indices up to its record count
chain-links_up_to : (W : List ℕ) → LinksUpTo (length W / 4) (chain W).links
unfolding chain
chain-links_up_to W = (chain_up_to (length W / 4) W 0 (omega arith)).0

links_small : (b N n s : ℕ) (g : Progress) (ls : List Link) (e : End) → LinksUpTo b ls → EndUpTo b e → SmallVerdict b (check_links N n s g ls e)
unfolding check_links
links_small b N n s g [] whole ls e = step (complete N s g)
  where
    step : (c : Bool) → SmallVerdict b (cond c fine (Check.refusal 13 0))
    step true = tt
    step false = omega arith
links_small b N n s g [] (broken k) ls e = omega arith
links_small b N n s g (l ∷ ls) end (h, hs) e =
    step (belongs s l.at.kind && formed (kind_of l.at.kind) l.at.p l.at.q) (in_order (kind_of l.at.kind) g.target)
    (allowed N n s (kind_of l.at.kind) l.at.p l.at.q g) (links_small b N n s (onward (kind_of l.at.kind) l.at.p l.at.q g) ls end hs e)
  where
    rest : Verdict
    rest = check_links N n s (onward (kind_of l.at.kind) l.at.p l.at.q g) ls end

    step : (f o t : Bool) → SmallVerdict b rest → SmallVerdict b (elim f as (λ b. Verdict) [
      | false ↦ Check.refusal 10 l.index
      | true ↦ elim o as (λ b. Verdict) [
        | false ↦ Check.refusal 11 l.index
        | true ↦ elim t as (λ b. Verdict) [ false ↦ Check.refusal 12 l.index | true ↦ rest ]
      ]
    ])
    step false o t r = omega arith
    step true false t r = omega arith
    step true true false r = omega arith
    step true true true r = r

-- a program's record count bounds what its check answers
pub check_from_small : (least : ℕ) (W : List ℕ) → SmallVerdict (length W / 4) (check_from least W)
unfolding check_from chain
check_from_small least W =
    step (ltb 0 (length W) && (eqb (length W % 4) 0 && leb (length W / 4) 100000000))
    (is_order (word W 0) && (leb (word W 1) (word W 0 * word W 0) && (leb least (word W 2) && leb (word W 2) (word W 0 * word W 0))))
    (chain_up_to (length W / 4) W 0 (omega arith))
  where
    linked : Chain
    linked = chain_after (length W / 4) W 0

    rest : Verdict
    rest = check_links (word W 0) (word W 1) (word W 2) begun linked.links linked.end

    step : (c h : Bool) → ChainUpTo (length W / 4) linked
        → SmallVerdict (length W / 4)
        (elim c as (λ b. Verdict) [ false ↦ Check.refusal 7 0 | true ↦ elim h as (λ b. Verdict) [ false ↦ Check.refusal 8 0 | true ↦ rest ] ])
    step false h up = omega arith
    step true false up = omega arith
    step true true up = links_small (length W / 4) (word W 0) (word W 1) (word W 2) begun linked.links linked.end up.0 up.1

pub check_small : (W : List ℕ) → SmallVerdict (length W / 4) (check W)
unfolding check
check_small W = check_from_small 0 W

pub check_file_small : (bytes : List ℕ) → SmallVerdict (length bytes) (check_file bytes)
unfolding check_file
check_file_small bytes = step (eqb (length bytes % 4) 0)
  where
    wider : (v : Verdict) → SmallVerdict (length (words_of bytes) / 4) v → SmallVerdict (length bytes) v
    wider fine s = tt
    wider (Check.refusal r d) s = omega (arith, words-length bytes)

    step : (b : Bool) → SmallVerdict (length bytes) (elim b as (λ b. Verdict) [ false ↦ Check.refusal 18 0 | true ↦ check (words_of bytes) ])
    step false = omega arith
    step true = wider (check (words_of bytes)) (check_small (words_of bytes))

-- ---- the file calls

abbrev pub SmallFiled : ℕ → Filed → Type 0
SmallFiled b (filed k) = k ≤ b
SmallFiled b (File.refusal r d) = Small b r d

pub writes_small : (words bytes : ℕ) → SmallFiled (4 * words) (writes words bytes)
unfolding writes
writes_small words bytes = step (leb words 400000000) (leb (4 * words) bytes)
  where
    step : (c d : Bool) → SmallFiled (4 * words) (elim c as (λ b. Filed) [
      | false ↦ File.refusal 7 0
      | true ↦ elim d as (λ b. Filed) [ false ↦ File.refusal 19 (4 * words) | true ↦ filed (4 * words) ]
    ])
    step false d = omega arith
    step true false = omega arith
    step true true = omega arith

pub reads_small : (bytes words : ℕ) → SmallFiled bytes (reads bytes words)
unfolding reads
reads_small bytes words = step (eqb (bytes % 4) 0) (leb (bytes / 4) words)
  where
    step : (c d : Bool) → SmallFiled bytes (elim c as (λ b. Filed) [
      | false ↦ File.refusal 18 0
      | true ↦ elim d as (λ b. Filed) [ false ↦ File.refusal 19 (bytes / 4) | true ↦ filed (bytes / 4) ]
    ])
    step false d = omega arith
    step true false = omega arith
    step true true = omega arith

-- ---- the compiler

abbrev pub SmallCompiled : ℕ → Compiled → Type 0
SmallCompiled b (written s p r) = Unit {0}
SmallCompiled b (Compile.refusal r d) = Small b r d

-- a bad label's refusal is 3 or 4, and its position is one of the plan's
judged_small : (N before k : ℕ) (L : Plan) (r d : ℕ) → judged N before k L ≡ bad r d → Small (k + length L) r d
unfolding judged
judged_small N before k [] r d e = let z : ◌≡◌ {A = ℕ} 0 1 = cc in absurd (omega arith)
judged_small N before k (x ∷ L) r d e = step (within x (N * N)) (ltb before x) (judged_small N x (suc k) L r d) e
  where
    step : (w a : Bool) → (judged N x (suc k) L ≡ bad r d → Small (suc k + length L) r d)
        → elim w as (λ b. Labels) [ false ↦ bad 3 k | true ↦ elim a as (λ b. Labels) [ false ↦ bad 4 k | true ↦ judged N x (suc k) L ] ] ≡ bad r d
        → Small (k + suc (length L)) r d
    step false a rest e = let r : 3 ≡ r = cc in let d : k ≡ d = cc in omega arith
    step true false rest e = let r : 4 ≡ r = cc in let d : k ≡ d = cc in omega arith
    step true true rest e = omega (arith, rest e)

-- so is the position of a row without its diagonal coefficient
bare_small : (r d N : ℕ) (L : Plan) → bare_from r d N L ≤ r + d
unfolding bare_from
bare_small r zero N L = omega arith
bare_small r (suc d) N L = step (eqb (position L (label N r r)) 0) (bare_small (suc r) d N L)
  where
    step : (b : Bool) → bare_from (suc r) d N L ≤ suc r + d → cond b r (bare_from (suc r) d N L) ≤ r + suc d
    step true h = omega arith
    step false h = omega arith

wanted_small : (c : Compiler) (N : ℕ) → N ≤ 600 → wanted c N ≤ 100000000
wanted_small plain N n = omega (arith, mul-le-mul {n₂ = 600} {m₂ = 600} n n)
wanted_small compact N n = omega (arith, mul-le-mul {n₂ = 600} {m₂ = 600} n n)
wanted_small sweep N n = omega (arith, mul-le-mul {n₂ = 600} {m₂ = 600} n n)

gap_small : (c : Compiler) (N : ℕ) (L : Plan) → N ≤ 600 → eqb (gap_at c N L) 0 ≡ false → Small 100000000 (gap c) (gap_at c N L)
unfolding bare
gap_small plain N L n v = omega (arith, (missing-free N L (eqb-false (missing N L) 0 v)).high)
gap_small compact N L n v = omega (arith, (missing-free N L (eqb-false (missing N L) 0 v)).high)
gap_small sweep N L n v = omega (arith, bare_small 1 N N L)

records_small : (c : Compiler) (N : ℕ) (L : Plan) → N ≤ 600 → records_by c N L ≤ 100000000 + length L
records_small plain N L n = omega (arith, records-at_most N L n)
records_small compact N L n = omega (arith, records-at_most N L n)
records_small sweep N L n = omega arith

pub compiles_small : (c : Compiler) (N : ℕ) (L : Plan) (work words : ℕ) → SmallCompiled (100000000 + length L) (compiles_by c N L work words)
unfolding ordered_by admitted_by answered_by
compiles_small c N L work words =
    rw (compiles_is c N L work words)
    (step (is_order N) (leb (wanted c N) work) (judged N 0 1 L) (eqb (gap_at c N L) 0) (leb (4 * records_by c N L) words) refl refl refl)
  where
    done : Compiled
    done = written (slots_by c N L) (products_by c N L) (records_by c N L)

    step : (order room : Bool) (labels : Labels) (complete fits : Bool) → is_order N ≡ order → judged N 0 1 L ≡ labels → eqb (gap_at c N L) 0 ≡ complete
        → SmallCompiled (100000000 + length L)
        (answered_by (admitted_by (ordered_by order room labels (wanted c N)) complete (gap c) (gap_at c N L)) fits (records_by c N L) done)
    step false room labels complete fits o j v = omega arith
    step true false labels complete fits o j v = omega (arith, wanted_small c N (within-range N 600 o).1)
    step true true (bad r d) complete fits o j v = omega (arith, judged_small N 0 1 L r d j)
    step true true good false fits o j v = omega (arith, gap_small c N L (within-range N 600 o).1 v)
    step true true good true false o j v = omega (arith, records_small c N L (within-range N 600 o).1)
    step true true good true true o j v = tt

-- ---- a program beside a plan: 1 to 5, 7 to 13, and 28

-- what 1 to 5 refuse of a plan, the compiler refuses so too
admits_small : (N : ℕ) (L : Plan) (work r d : ℕ) → admits plain N L work ≡ bad r d → Small (100000000 + length L) r d
unfolding compiles_by
admits_small N L work r d e = rw (compiles_by, e) at (compiles_small plain N L work 0)

-- 28 names one of the chain's records, or the last one before them
compared_small : (b last : ℕ) (rs : List Record) (ls : List Link) → last ≤ b → LinksUpTo b ls → SmallVerdict b (compared last rs ls)
unfolding compared
compared_small b last [] [] h up = tt
compared_small b last [] (l ∷ ls) h up = omega (arith, up.0)
compared_small b last (r ∷ rs) [] h up = omega arith
compared_small b last (r ∷ rs) (l ∷ ls) h (here, up) = step (same_record r l.at) (compared_small b l.index rs ls here up)
  where
    step : (same : Bool) → SmallVerdict b (compared l.index rs ls)
        → SmallVerdict b (elim same as (λ b. Verdict) [ false ↦ Check.refusal 28 l.index | true ↦ compared l.index rs ls ])
    step false rest = omega arith
    step true rest = rest

pub compares_small : (N : ℕ) (L : Plan) (work : ℕ) (W : List ℕ) → SmallVerdict (100000000 + length L + length W / 4) (compares N L work W)
unfolding compares
compares_small N L work W =
    go (admits plain N L work) (check W) (eqb (word W 0) N && (eqb (word W 1) (length L) && eqb (word W 2) (slots N L)))
    (admits_small N L work) (check_small W)
  where
    rest : Verdict
    rest = compared 0 (compiled_records N L) (chain W).links

    wider : (v : Verdict) → SmallVerdict (length W / 4) v → SmallVerdict (100000000 + length L + length W / 4) v
    wider fine s = tt
    wider (Check.refusal r d) s = omega arith

    go : (a : Labels) (v : Verdict) (head : Bool) → ((r d : ℕ) → a ≡ bad r d → Small (100000000 + length L) r d) → SmallVerdict (length W / 4) v
        → SmallVerdict (100000000 + length L + length W / 4) (elim a as (λ a. Verdict) [
          | bad r d ↦ Check.refusal r d
          | good ↦ elim v as (λ v. Verdict) [
            | Check.refusal r d ↦ Check.refusal r d
            | fine ↦ elim head as (λ b. Verdict) [ false ↦ Check.refusal 28 0 | true ↦ rest ]
          ]
        ])
    go (bad r d) v head plan program = omega (arith, plan r d refl)
    go good (Check.refusal r d) head plan program = omega arith
    go good fine false plan program = omega arith
    go good fine true plan program = wider rest (compared_small (length W / 4) 0 (compiled_records N L) (chain W).links (omega arith) (chain-links_up_to W))

-- ---- a path: 1 to 4, 22 and 23

pub tracing_small : (N : ℕ) (L : Plan) (i j work entries : ℕ) → SmallVerdict (100000000 + length L) (tracing N L i j work entries)
unfolding admits
tracing_small N L i j work entries =
    go (orderly (N * N) N L work) (is_place N i j && held N L i j) refl refl (λ r d e. admits_small N L work r d (rw (e, admits)))
  where
    go : (a : Labels) (there : Bool) → orderly (N * N) N L work ≡ a → (is_place N i j && held N L i j) ≡ there
        → ((r d : ℕ) → orderly (N * N) N L work ≡ bad r d → Small (100000000 + length L) r d)
        → SmallVerdict (100000000 + length L) (tracing N L i j work entries)
    go (bad r d) there e h plan = rw (tracing-early N L i j work entries r d e) (plan r d e)
    go good false e h plan = rw (tracing_unheld N L i j work entries e h) (omega arith)
    go good true e h plan = elim (dec_le entries N) [
      | yes few ↦ rw (tracing-short N L i j work entries e h few) (omega arith)
      | no more ↦ rw (tracing-fine N L i j work entries e h (omega arith)) tt
    ]

-- ---- whether a plan costs most: 1 to 5

abbrev pub SmallCosts : ℕ → Costs → Type 0
SmallCosts b Dearest.yes = Unit {0}
SmallCosts b Dearest.no = Unit {0}
SmallCosts b (Dearest.refused r d) = Small b r d

pub costs_small : (N : ℕ) (L : Plan) (work : ℕ) → SmallCosts (100000000 + length L) (costs N L work)
unfolding costs
costs_small N L work = go (admits plain N L work) (eqb (product_count N L) (product_count N (full_plan N))) (admits_small N L work)
  where
    go : (a : Labels) (most : Bool) → ((r d : ℕ) → a ≡ bad r d → Small (100000000 + length L) r d)
        → SmallCosts (100000000 + length L)
        (elim a as (λ a. Costs) [ bad r d ↦ Dearest.refused r d | good ↦ elim most as (λ b. Costs) [ true ↦ Dearest.yes | false ↦ Dearest.no ] ])
    go (bad r d) most plan = plan r d refl
    go good true plan = tt
    go good false plan = tt

abbrev pub SmallRenumbering : ℕ → Renumbering → Type 0
SmallRenumbering b (numbered s trials distance) = Unit {0}
SmallRenumbering b (Numbering.refused r d) = Small b r d

pub renumbers_small : (N : ℕ) (L : Plan) (trials work numbering : ℕ) → SmallRenumbering (100000000 + length L) (renumbers N L trials work numbering)
unfolding renumbers numbering_checks
renumbers_small N L trials work numbering =
    go (admits plain N L work) (eqb numbering N) (slots N (renumbered N L (kept_numbering N L trials))) (admits_small N L work)
  where
    go : (a : Labels) (same : Bool) (s : ℕ) → ((r d : ℕ) → a ≡ bad r d → Small (100000000 + length L) r d)
        → SmallRenumbering (100000000 + length L)
        (elim (elim a as (λ a. Verdict) [
          | bad r d ↦ Check.refusal r d
          | good ↦ elim same as (λ b. Verdict) [ false ↦ Check.refusal 29 0 | true ↦ fine ]
        ]) as (λ v. Renumbering) [ Check.refusal r d ↦ Numbering.refused r d | fine ↦ numbered s (trials_made N trials) (s - length L) ])
    go (bad r d) same s plan = plan r d refl
    go good false s plan = omega arith
    go good true s plan = tt

-- ---- counting plans: 30

pub countable_small : (N : ℕ) → SmallVerdict 0 (countable N)
unfolding countable
countable_small N = go (within N 4)
  where
    go : (few : Bool) → SmallVerdict 0 (elim few as (λ b. Verdict) [ true ↦ fine | false ↦ Check.refusal 30 0 ])
    go true = tt
    go false = omega arith

-- ---- the run

abbrev pub SmallReply : ℕ → Reply → Type 0
SmallReply b (solves products quotients vanished sweeps) = Unit {0}
SmallReply b (stops r index t k) = Small b r index
SmallReply b (refuses r d) = Small b r d

abbrev SmallStep : Stepped → Type 0
SmallStep (going z) = Unit {0}
SmallStep (stop r) = r ≤ 30

settled_small : (a : Answer) (f : Float → State) → SmallStep (settled_step a f)
settled_small (number v) f = tt
settled_small overflow f = omega arith
settled_small zero_divisor f = omega arith

step_small : (A B : List Float) (limit : Float) (z : State) (k : Kind) (p q : ℕ) → SmallStep (step A B limit z k p q)
unfolding step
step_small A B limit z (opens C) p q = tt
step_small A B limit z (opens Y) p q = tt
step_small A B limit z (opens X) p q = tt
step_small A B limit z (subtracts t) p q =
    let a = entry z.tables C p in
    let b = entry z.tables t q in
    settled_small (less z.running a b) (subtracted z (vanishes a b))
step_small A B limit z divides p q = settled_small (quotient z.running (entry z.tables C p)) (divided_by z)
step_small A B limit z closes p q = tt
step_small A B limit z closes_pivot p q = test (is_small limit z.running)
  where
    test : (b : Bool) → SmallStep (cond b (stop 17) (going (closing z)))
    test true = omega arith
    test false = tt
step_small A B limit z none p q = tt

abbrev SmallFollowed : ℕ → Followed → Type 0
SmallFollowed b (through z) = Unit {0}
SmallFollowed b (halted r index t k) = Small b r index

follow_small : (b : ℕ) (A B : List Float) (limit : Float) (z : State) (ls : List Link) → LinksUpTo b ls → SmallFollowed b (follow A B limit z ls)
unfolding follow
follow_small b A B limit z [] up = tt
follow_small b A B limit z (l ∷ ls) up =
    go (step A B limit z (kind_of l.at.kind) l.at.p l.at.q) (step_small A B limit z (kind_of l.at.kind) l.at.p l.at.q)
    (λ y. follow_small b A B limit y ls up.1)
  where
    go : (s : Stepped) → SmallStep s → ((y : State) → SmallFollowed b (follow A B limit y ls))
        → SmallFollowed b (elim s as (λ s. Followed) [ going y ↦ follow A B limit y ls | stop r ↦ halted r l.index z.table z.target ])
    go (going y) small rest = rest y
    go (stop r) small rest = omega arith

followed_small : (b : ℕ) (f : Followed) → SmallFollowed b f → SmallReply b (reply (followed f))
unfolding followed reply
followed_small b (through z) h = tt
followed_small b (halted r index t k) h = h

-- what one sweep ends in, and what sweeps end in
abbrev SmallOnce : ℕ → Once State Outcome → Type 0
SmallOnce b (swept z) = Unit {0}
SmallOnce b (ends o) = SmallReply b (reply o)

abbrev SmallSweeps : ℕ → Sweeps State Outcome → Type 0
SmallSweeps b (settled z k) = Unit {0}
SmallSweeps b (unsettled z) = Unit {0}
SmallSweeps b (ended o) = SmallReply b (reply o)

once_small : (b : ℕ) (f : Followed) → SmallFollowed b f → SmallOnce b (once_more f)
unfolding reply
once_small b (through z) h = tt
once_small b (halted r index t k) h = h

sweeping_small : (b : ℕ) (once : State → Once State Outcome) (moves : State → State → Bool) → ((z : State) → SmallOnce b (once z)) → (d k : ℕ) (z : State)
    → SmallSweeps b (sweeping once moves d k z)
unfolding sweeping
sweeping_small b once moves small zero k z = tt
sweeping_small b once moves small (suc d) k z = go (once z) (small z) (λ w. sweeping_small b once moves small d (suc k) w)
  where
    go : (o : Once State Outcome) → SmallOnce b o → ((w : State) → SmallSweeps b (sweeping once moves d (suc k) w))
        → SmallSweeps b (elim o as (λ o. Sweeps State Outcome) [
          | ends e ↦ ended e
          | swept w ↦ elim (moves z w) as (λ m. Sweeps State Outcome) [ true ↦ sweeping once moves d (suc k) w | false ↦ settled w (suc k) ]
        ])
    go (ends e) h rest = h
    go (swept w) h rest = test (moves z w)
      where
        test : (m : Bool) → SmallSweeps b (elim m as (λ m. Sweeps State Outcome) [ true ↦ sweeping once moves d (suc k) w | false ↦ settled w (suc k) ])
        test true = rest w
        test false = tt

swept_small : (b : ℕ) (A B : List Float) (limit : Float) (N : ℕ) (ls : List Link) → LinksUpTo b ls → SmallReply b (reply (swept_over A B limit N ls))
unfolding swept_over reply
swept_small b A B limit N ls up =
    go (sweeping once moves most_sweeps 0 (started_on (loaded N (map clean A) B)))
    (sweeping_small b once moves (λ z. once_small b (follow A B limit z ls) (follow_small b A B limit z ls up)) most_sweeps 0
    (started_on (loaded N (map clean A) B)))
  where
    once : State → Once State Outcome
    once z = once_more (follow A B limit z ls)

    moves : State → State → Bool
    moves z w = moved limit N z.tables.x w.tables.x

    go : (s : Sweeps State Outcome) → SmallSweeps b s
        → SmallReply b (reply (elim s as (λ s. Outcome) [
          | settled z k ↦ solution (only_x z.tables) z.products z.quotients z.vanished k
          | unsettled z ↦ unsettled_at (only_x z.tables)
          | ended e ↦ e
        ]))
    go (settled z k) h = tt
    go (unsettled z) h = omega arith
    go (ended e) h = h

-- the position of a value that isn't finite is one of its list's
not_finite_small : (k : ℕ) (vs : List Float) → not_finite k vs ≤ k + length vs
unfolding not_finite
not_finite_small k [] = omega arith
not_finite_small k (v ∷ vs) = go (is_finite v) (not_finite_small (suc k) vs)
  where
    go : (b : Bool) → not_finite (suc k) vs ≤ suc k + length vs → cond b (not_finite (suc k) vs) k ≤ k + suc (length vs)
    go true h = omega arith
    go false h = omega arith

-- ---- what is left over: 1, 3, 4, 14, 15 and 24

pub measuring_small : (N : ℕ) (L : Plan) (A B E : List Float) (words : ℕ) → SmallVerdict (1 + length L + length A + length B + length E) (measuring N L A B E words)
unfolding measuring orderly
measuring_small N L A B E words =
    go (is_order N) (judged N 0 1 L) (eqb (length A) (length L) && (eqb (length B) N && eqb (length E) N)) (eqb (not_finite 1 A) 0) (eqb (not_finite 1 B) 0)
    (eqb (not_finite 1 E) 0) (eqb words (66 * N)) refl
  where
    go : (order : Bool) (labels : Labels) (fits a b x w : Bool) → judged N 0 1 L ≡ labels
        → SmallVerdict (1 + length L + length A + length B + length E)
        (elim (elim order as (λ b. Labels) [ false ↦ bad 1 0 | true ↦ labels ]) as (λ l. Verdict) [
          | bad r d ↦ Check.refusal r d
          | good ↦ elim fits as (λ b. Verdict) [
            | false ↦ Check.refusal 14 0
            | true ↦ elim a as (λ b. Verdict) [
              | false ↦ Check.refusal 15 (not_finite 1 A)
              | true ↦ elim b as (λ b. Verdict) [
                | false ↦ Check.refusal 15 (not_finite 1 B)
                | true ↦ elim x as (λ b. Verdict) [
                  | false ↦ Check.refusal 15 (not_finite 1 E)
                  | true ↦ elim w as (λ b. Verdict) [ false ↦ Check.refusal 24 0 | true ↦ fine ]
                ]
              ]
            ]
          ]
        ])
    go false labels fits a b x w j = omega arith
    go true (bad r d) fits a b x w j = omega (arith, judged_small N 0 1 L r d j)
    go true good false a b x w j = omega arith
    go true good true false b x w j = omega (arith, not_finite_small 1 A)
    go true good true true false x w j = omega (arith, not_finite_small 1 B)
    go true good true true true false w j = omega (arith, not_finite_small 1 E)
    go true good true true true true false j = omega arith
    go true good true true true true true j = tt

-- the detail of 15 is one of these, that of 21 is 0
values_small : (A B : List Float) (limit : Float) (r d : ℕ) → check_values A B limit ≡ Check.refusal r d → Small (1 + length A + length B) r d
values_small A B limit r d =
    values_each A B limit (λ v. v ≡ Check.refusal r d → Small (1 + length A + length B) r d)
    (λ a. at 15 (not_finite 1 A) (omega (arith, not_finite_small 1 A)))
    (λ a b. at 15 (not_finite 1 B) (omega (arith, not_finite_small 1 B)))
    (λ a b l. at 21 0 (omega arith))
    (λ f e. absurd (refused-fine r d (sym e)))
  where
    at : (n k : ℕ) → Small (1 + length A + length B) n k → Check.refusal n k ≡ Check.refusal r d → Small (1 + length A + length B) r d
    at n k small e = let same : n ≡ r = cc in let same-detail : k ≡ d = cc in omega arith

-- what a side ends in that goes along the chain
pub along_small : (W : List ℕ) (A : List Float) (limit : Float) (b : List Float) → SmallReply (length W / 4) (reply (along_chain W A limit b))
along_small W A limit b =
    followed_small (length W / 4) _ (follow_small (length W / 4) A b limit (fresh (word W 0)) (chain W).links (chain-links_up_to W))

pub ran_small : (W : List ℕ) (A B : List Float) (limit : Float) (c y x : ℕ) → SmallReply (1 + length W + length A + length B) (reply (ran W A B limit c y x))
unfolding ran_by reply done_by
ran_small W A B limit c y x = rw (ran_is W A B limit c y x) (go (check W) (check_small W))
  where
    wider : (r : Reply) → SmallReply (length W / 4) r → SmallReply (1 + length W + length A + length B) r
    wider (solves p q g k) s = tt
    wider (stops r k t n) s = omega arith
    wider (refuses r d) s = omega arith

    done : (sweep : Bool) → SmallReply (length W / 4) (reply (done_by W A B limit sweep))
    done true = swept_small (length W / 4) A B limit (word W 0) (chain W).links (chain-links_up_to W)
    done false = along_small W A limit B

    go : (v : Verdict) → SmallVerdict (length W / 4) v → SmallReply (1 + length W + length A + length B) (reply (ran_by W A B limit c y x v))
    go (Check.refusal r d) s = omega arith
    go fine s =
        gated_each (refused_by 14 0) refused_by (λ o. SmallReply (1 + length W + length A + length B) (reply o))
        (lengths_right (word W 0) (word W 1) (word W 2) (length A) (length B) c y x) (check_values A B limit)
        (done_by W A B limit (is_sweep (word W 2))) (omega arith) (λ r d e. omega (arith, values_small A B limit r d e))
        (wider (reply (done_by W A B limit (is_sweep (word W 2)))) (done (is_sweep (word W 2))))

-- many right sides: the call's own answer; that of each side is `along_small`'s
pub many_small : (W : List ℕ) (count : ℕ) (A B : List Float) (limit : Float) (lc ly lx : ℕ)
    → SmallVerdict (1 + length W + length A + length B) (verdict (ran_many W count A B limit lc ly lx))
unfolding many_by verdict
many_small W count A B limit lc ly lx = rw (many_is W count A B limit lc ly lx) (go (check_from 1 W) (within count 64) (check_from_small 1 W))
  where
    go : (v : Verdict) (few : Bool) → SmallVerdict (length W / 4) v → SmallVerdict (1 + length W + length A + length B)
        (verdict (many_by W count A B limit lc ly lx v few (lengths_fit W count A B limit lc ly lx) (check_values A B limit)))
    go (Check.refusal r d) few s = omega arith
    go fine false s = omega arith
    go fine true s =
        gated_each (none_run 14 0) none_run (λ o. SmallVerdict (1 + length W + length A + length B) (verdict o))
        (lengths_fit W count A B limit lc ly lx) (check_values A B limit) (sides (own_runs W count A B limit lc ly lx))
        (omega arith) (λ r d e. omega (arith, values_small A B limit r d e)) tt

-- ---- compiling and running

pub replied_small : (N : ℕ) (L : Plan) (A B : List Float) (limit : Float) (work words c y x : ℕ)
    → SmallReply (400000001 + length L + length A + length B) (replied N L A B limit work words c y x)
unfolding replied
replied_small N L A B limit work words c y x = go (compiles N L work words) refl (compiles_small plain N L work words)
  where
    wider : (r : Reply) (k : ℕ) → k ≤ 400000000 → SmallReply (1 + k + length A + length B) r → SmallReply (400000001 + length L + length A + length B) r
    wider (solves p q g i) k h s = tt
    wider (stops r i t n) k h s = omega arith
    wider (refuses r d) k h s = omega arith

    go : (v : Compiled) → compiles N L work words ≡ v → SmallCompiled (100000000 + length L) v
        → SmallReply (400000001 + length L + length A + length B)
        (elim v as (λ v. Reply) [ Compile.refusal r d ↦ refuses r d | written s p r ↦ reply (ran (compiled N L) A B limit c y x) ])
    go (Compile.refusal r d) e small = omega arith
    go (written s p r) e small =
        let k = compiles_success plain N L work words s p r e in
        let few : length (compiled N L) ≤ 400000000 = omega (arith, words-counted N L k.whole, records-at_most N L (within-range N 600 k.order).1) in
        wider (reply (ran (compiled N L) A B limit c y x)) (length (compiled N L)) few (ran_small (compiled N L) A B limit c y x)
