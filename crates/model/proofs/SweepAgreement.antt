-- A.7 on the definitions: the run of the compiled sweep ends as the dense sweep does, sweep by sweep.
use Prim.Native.Nat.{ℕ, zero, suc, ◌+◌, ◌-◌, ◌*◌}
use native.Mathlib.Omega.{arith}
use mathlib.Core.Path.{◌≡◌, refl, sym, ap, ap₂, subst, ◌∙◌}
use mathlib.Core.Bool.{Bool, true, false, cond}
use mathlib.Core.List.{List, [], ◌∷◌, map}
use borrow.Author.Tests.{eqb-true}
use lib.Dec.{eqb}
use lib.ListN.{length, get_or, replicate, get_or-map}
use lib.Ieee.{Float}
use Rattle.model.specs.Lists.{joined}
use Rattle.model.specs.Fill.{Plan}
use Rattle.model.specs.Arith.{plus_zero, clean}
use Rattle.model.specs.Formula.{X, Tables, Ended, solved, refused, worked}
use Rattle.model.specs.Program.{Record, records_of}
use Rattle.model.specs.Sweep.{row_formula, row_formulas, planned_rows, dense_rows, sweep_record, sweep_records, compiled_sweep, bare}
use Rattle.model.specs.Sweep.{moved, most_sweeps, loaded, Once, swept, ends, Sweeps, settled, unsettled, ended, sweeping}
use Rattle.model.specs.Sweep.{Swept, Settled, settles, refused_at, unsettles, full_table, dense_once, dense_sweep}
use Rattle.model.specs.Check.{kind_of, chain}
use Rattle.model.specs.Run.{State, Stepped, going, stop, step, Followed, through, halted, follow, followed}
use Rattle.model.specs.Run.{Outcome, solution, unsettled_at, started_on, once_more, only_x, swept_over, ran}
use Rattle.model.specs.Agreement as Agreement
use Rattle.model.specs.Agreement.{Given, late, seen, on_x, swept_as, SweepAgrees}
use Rattle.model.proofs.Lists.{Each, rising-each}
use Rattle.model.proofs.Within.{within-range}
use Rattle.model.proofs.Arith.{Good, nought}
use Rattle.model.proofs.Values.{AllGood, reads-good}
use Rattle.model.proofs.Links.{links_from}
use Rattle.model.proofs.Machine.{machine, Started, shown}
use Rattle.model.proofs.Runs.{done_by, runs_open, finite_fine, lengths-right}
use Rattle.model.proofs.SweepCounts.{diagonal_planned, sweep_products, sweep_quotients}
use Rattle.model.proofs.SweepChecked.{sweep_chain, sweep_fine}
use Rattle.model.proofs.Sweeping.{OnceAlike, SweepsAlike, sweeping_alike}
use Rattle.model.proofs.SweepValues.{sparse, Dense, SameEnding, rows_same}

-- ---- 10, 11 and 12 do what 3, 6 and 7 do

-- a number that stands in for a does what a does
kind_swapped : (k a b c : ℕ) → kind_of b ≡ kind_of a → kind_of c ≡ kind_of k → kind_of (cond (eqb k a) b c) ≡ kind_of k
kind_swapped k a b c same rest = by (eqb k a) refl
  where
    by : (t : Bool) → eqb k a ≡ t → kind_of (cond t b c) ≡ kind_of k
    by true e = same ∙ ap kind_of (sym (eqb-true k a e))
    by false e = rest

-- a sweep's record has its formula record's kind
kind-same : (r : Record) → kind_of (sweep_record r).kind ≡ kind_of r.kind
unfolding sweep_record kind_of
kind-same r = let k = r.kind in kind_swapped k 3 10 _ refl (kind_swapped k 6 11 _ refl (kind_swapped k 7 12 k refl refl))

-- so the records of a sweep are followed as its formulas' records are
follow-same : (A B : List Float) (limit : Float) (z : State) (i : ℕ) (rs : List Record)
    → follow A B limit z (links_from i (map sweep_record rs)) ≡ follow A B limit z (links_from i rs)
unfolding follow links_from sweep_record
follow-same A B limit z i [] = refl
follow-same A B limit z i (r ∷ rs) =
    ap (λ k. onward (step A B limit z k r.p r.q) (λ w. follow A B limit w (links_from (suc i) (map sweep_record rs)))) (kind-same r)
    ∙ by (step A B limit z (kind_of r.kind) r.p r.q) (λ w. follow-same A B limit w (suc i) rs)
  where
    onward : Stepped → (State → Followed) → Followed
    onward s rest = elim s [ going w ↦ rest w | stop n ↦ halted n i z.table z.target ]

    by : (s : Stepped) → ((w : State) → follow A B limit w (links_from (suc i) (map sweep_record rs)) ≡ follow A B limit w (links_from (suc i) rs))
        → onward s (λ w. follow A B limit w (links_from (suc i) (map sweep_record rs))) ≡ onward s (λ w. follow A B limit w (links_from (suc i) rs))
    by (going w) rest = rest w
    by (stop n) rest = refl

-- what `machine` asks
rows_started : (N : ℕ) (L : Plan) → Each Started (planned_rows N L)
unfolding planned_rows row_formulas row_formula Started
rows_started N L = rising-each Started _ 1 N (λ r low high. refl)

-- ---- good values at the start

-- a row of +0 is good, and so are finite values as they are read
noughts : (n : ℕ) → AllGood (replicate n plus_zero)
noughts n = record { at = each n }
  where
    each : (n k : ℕ) → Good (get_or (replicate n plus_zero) k plus_zero)
    each zero k = nought
    each (suc n) zero = nought
    each (suc n) (suc k) = each n k

cleaned_good : (vs : List Float) → ((k : ℕ) → Good (clean (get_or vs k plus_zero))) → AllGood (map clean vs)
unfolding clean
cleaned_good vs reads = record { at = λ k. subst Good (sym (get_or-map clean vs k plus_zero)) (reads k) }

-- one sweep more makes d more
once_more_is : (k d n p : ℕ) → n ≡ k * d → p ≡ d → n + p ≡ suc k * d
once_more_is k d n p e h = omega arith

module _ {N : ℕ} {L : Plan} {A B : List Float} {limit : Float} (given : Given N L A B limit) (diagonals : bare N L ≡ 0) where
  -- ---- one sweep

  -- the runner's state after k sweeps beside the dense sweep's
  record Level (k : ℕ) (z : State) (s : Swept) : Type 0 where
    tables : z.tables ≡ sparse A s.tables
    products : z.products ≡ k * (length L - N)
    quotients : z.quotients ≡ k * N
    vanished : z.vanished ≡ s.vanished
    dense : Dense N L A s.tables

  -- a refusal within a sweep has the same number and row
  abbrev SameRefusal : Outcome → ℕ × ℕ → Type 0
  SameRefusal o e = seen o ≡ Agreement.ended e.0 X e.1

  abbrev run_once : State → Once State Outcome
  run_once z = once_more (follow A B limit z (links_from 1 (sweep_records N L)))

  abbrev dense_ends : Ended → Once Swept (ℕ × ℕ)
  dense_ends e = elim e [ solved t g ↦ swept (record { tables = t; vanished = g }) | refused r t k ↦ ends (r, k) ]

  -- what is seen of a sweep's run says what it leads to
  once-seen : (k : ℕ) (f : Followed) (e d : Ended) → seen (followed f) ≡ shown (suc k * (length L - N)) (suc k * N) e → SameEnding N L A B limit e d
      → OnceAlike Level SameRefusal (suc k) (once_more f) (dense_ends d)
  unfolding seen followed shown
  once-seen k (through z) (solved u g) (solved t h) q (same, count, dense) = record { tables = cc; products = cc; quotients = cc; vanished = cc; dense = dense }
  once-seen k (halted r i tb m) (refused s ub l) (refused s' ub' l') q (number, table, target) = cc
  once-seen k (through z) (refused s ub l) (refused s' ub' l') q b = let z : ◌≡◌ {A = ℕ} 0 1 = cc in absurd (omega arith)
  once-seen k (halted r i tb m) (solved u g) (solved t h) q b = let z : ◌≡◌ {A = ℕ} 0 1 = cc in absurd (omega arith)
  once-seen k f (solved u g) (refused s ub l) q b = elim b [ ]
  once-seen k f (refused s ub l) (solved t h) q b = elim b [ ]

  -- one sweep of the run leads where a dense one does
  once_alike : (k : ℕ) (z : State) (s : Swept) → Level k z s → OnceAlike Level SameRefusal (suc k) (run_once z) (dense_once N A B limit s)
  unfolding sweep_records dense_once planned_rows dense_rows row_formulas
  once_alike k z s level =
      let rows = planned_rows N L in
      let products = once_more_is k (length L - N) z.products _ level.products (sweep_products N L diagonals given.labels) in
      let quotients = once_more_is k N z.quotients _ level.quotients (sweep_quotients N L diagonals given.labels) in
      once-seen k _ (worked A B limit s.vanished (sparse A s.tables) rows) (worked A B limit s.vanished s.tables (dense_rows N))
      (ap (λ f. seen (followed f)) (follow-same A B limit z 1 (joined (map records_of rows))) ∙ machine A B limit rows (rows_started N L) z 1
      ∙ rw (products, quotients, level.vanished, level.tables))
      (rows_same N L A B limit (diagonal_planned N L diagonals) 1 N s.vanished s.tables (omega arith) (omega arith) level.dense)

  -- ---- all sweeps

  abbrev moves : Tables → Tables → Bool
  moves t u = moved limit N t.x u.x

  -- entries move alike on both sides
  moves_alike : (k : ℕ) (z u : State) (s v : Swept) → Level k z s → Level (suc k) u v → moves z.tables u.tables ≡ moves s.tables v.tables
  unfolding sparse
  moves_alike k z u s v before after = ap₂ moves before.tables after.tables

  -- "X starts at +0", on both sides
  abbrev run_start : State
  run_start = started_on (loaded N (map clean A) B)

  abbrev dense_start : Swept
  dense_start = record { tables = loaded N (full_table N L A) B; vanished = 0 }

  -- the two starts are level
  start_alike : Level 0 run_start dense_start
  unfolding sparse
  start_alike = record { tables = refl; products = omega arith; quotients = omega arith; vanished = refl; dense = dense }
    where
      dense : Dense N L A (loaded N (full_table N L A) B)
      dense = record { order_is = refl; table_is = refl; good-y = cleaned_good B (reads-good B given.values_b given.finite_b); good-x = noughts N }

  abbrev run_sweeps : Sweeps State Outcome
  run_sweeps = sweeping run_once (λ z w. moves z.tables w.tables) most_sweeps 0 run_start

  abbrev dense_sweeps : Sweeps Swept (ℕ × ℕ)
  dense_sweeps = sweeping (dense_once N A B limit) (λ z w. moves z.tables w.tables) most_sweeps 0 dense_start

  -- so the sweeps end alike
  sweeps_alike : SweepsAlike Level SameRefusal run_sweeps dense_sweeps
  sweeps_alike = sweeping_alike Level SameRefusal run_once (dense_once N A B limit) _ _ once_alike moves_alike most_sweeps 0 run_start dense_start start_alike

  -- ---- the endings

  abbrev run_ending : Sweeps State Outcome → Outcome
  run_ending (settled z k) = solution (only_x z.tables) z.products z.quotients z.vanished k
  run_ending (unsettled z) = unsettled_at (only_x z.tables)
  run_ending (ended e) = e

  abbrev dense_ending : Sweeps Swept (ℕ × ℕ) → Settled
  dense_ending (settled z k) = settles z.tables.x z.vanished k
  dense_ending (unsettled z) = unsettles z.tables.x
  dense_ending (ended e) = refused_at e.0 e.1

  -- X is the same
  same-x : {k : ℕ} {z : State} {s : Swept} → Level k z s → only_x z.tables ≡ on_x N s.tables.x
  unfolding sparse
  same-x {s = s} level = ap only_x level.tables ∙ ap (λ n. on_x n s.tables.x) level.dense.order_is

  -- and so is all that is seen of the ending
  ending_alike : (a : Sweeps State Outcome) (b : Sweeps Swept (ℕ × ℕ)) → SweepsAlike Level SameRefusal a b → seen (run_ending a) ≡ swept_as N L (dense_ending b)
  unfolding seen swept_as
  ending_alike (settled z j) (settled s k) (e, level) = rw (e, same-x level, level.products, level.quotients, level.vanished)
  ending_alike (unsettled z) (unsettled s) (k, level) = ap late (same-x level)
  ending_alike (ended o) (ended e) q = q
  ending_alike (settled z j) (unsettled s) q = elim q [ ]
  ending_alike (settled z j) (ended e) q = elim q [ ]
  ending_alike (unsettled z) (settled s k) q = elim q [ ]
  ending_alike (unsettled z) (ended e) q = elim q [ ]
  ending_alike (ended o) (settled s k) q = elim q [ ]
  ending_alike (ended o) (unsettled s) q = elim q [ ]

  swept_alike : seen (swept_over A B limit N (links_from 1 (sweep_records N L))) ≡ swept_as N L (dense_sweep N L A B limit)
  unfolding swept_over dense_sweep
  swept_alike = ending_alike run_sweeps dense_sweeps sweeps_alike

  -- the checks before the first record let the run through
  pub sweep_runs : ran (compiled_sweep N L) A B limit 0 0 N ≡ swept_over A B limit N (chain (compiled_sweep N L)).links
  unfolding compiled_sweep done_by
  sweep_runs =
      runs_open (compiled_sweep N L) A B limit 0 0 N (sweep_fine N L given.order given.labels diagonals)
      (lengths-right N (length L) 0 _ _ _ _ _ given.length_a given.length_b refl refl refl)
      (finite_fine A B limit (record { finite_a = given.finite_a; finite_b = given.finite_b; limited = given.limited }))

-- The headline: "Compiled sweep and dense sweep over the full table .. agree bit for bit, on results and refusals."
pub sweep_agreement : (N : ℕ) (L : Plan) (A B : List Float) (limit : Float) → SweepAgrees N L A B limit
sweep_agreement N L A B limit given diagonals =
    ap seen (sweep_runs given diagonals) ∙ ap (λ c. seen (swept_over A B limit N c.links)) (sweep_chain N L (within-range N 600 given.order).0)
    ∙ swept_alike given diagonals
