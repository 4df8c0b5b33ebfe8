-- The run of a checked program along its chain, Crout's or one sweep: at each record the check says what the run relies on.
use Prim.Native.Nat.{ℕ, zero, suc, ◌+◌, ◌*◌, ◌/◌, ◌≤◌, ◌<◌}
use native.Mathlib.Omega.{arith}
use mathlib.Core.Path.{◌≡◌, refl, sym, ap, subst, ◌∙◌}
use mathlib.Core.Bool.{Bool, true, false, ◌||◌, ◌&&◌}
use mathlib.Core.List.{List, ◌∷◌, map}
use lib.Dec.{eqb, leb}
use lib.ListN.{length}
use lib.Ieee.{Float}
use borrow.Author.Tests.{eqb-true, eqb-false, leb-true}
use Rattle.model.specs.Program.{Record}
use Rattle.model.specs.Arith.{clean}
use Rattle.model.specs.Sweep.{Once, swept, ends, Sweeps, settled, unsettled, ended, sweeping, moved, most_sweeps, loaded}
use Rattle.model.specs.Check.{Link, word, record_at, next_of, Chain, chain, Progress, begun, fine, refusal, kind_of}
use Rattle.model.specs.Check.{is_sweep, belongs, in_order, allowed, onward, complete, check_links}
use Rattle.model.specs.Run.{State, Stepped, going, stop, step, Followed, through, halted, follow, followed, started_on, fresh}
use Rattle.model.specs.Run.{Outcome, solution, stopped, refused_by, unsettled_at, once_more, only_x, swept_over}
use Rattle.model.proofs.Following.{follows, chain_from, chain-from, chain-ends, chain_breaks, chain_goes}
use Rattle.model.proofs.Runs.{done_by}
use Rattle.model.proofs.Passing.{both, refused-fine, next-range, Passed, link-passed, end-passed}
use Rattle.model.proofs.Stepping.{Counted, AfterStep, crout_after}
use Rattle.model.proofs.SweepSteps.{Within, moves_in, OfSweep, sweep_after}

-- ---- what the check's progress says of a run's state, by the method

-- olds is X before the sweep, and moves whether a row of it moved; Crout has neither
abbrev pub Stands : Bool → ℕ → ℕ → ℕ → Float → List Float → Progress → State → Bool → Type 0
Stands false N n s limit olds g z moves = Counted N s g z
Stands true N n s limit olds g z moves = Within N n limit olds g z moves

-- what a sweep keeps of a record's move
abbrev pub Tells : Bool → Bool → Bool → Type 0
Tells false moves is = Unit {0}
Tells true moves is = moves ≡ is

-- the kinds of a program of sweeps
pub sweep_kind : (k : ℕ) → belongs 0 k ≡ true → OfSweep (kind_of k)
unfolding belongs kind_of
sweep_kind k e = by (eqb k 8) (eqb k 10) (eqb k 11) refl refl refl e
  where
    one : (m : ℕ) → k ≡ m → OfSweep (kind_of m) → OfSweep (kind_of k)
    one m e of = subst (λ m. OfSweep (kind_of m)) (sym e) of

    by : (eight ten eleven : Bool) → eqb k 8 ≡ eight → eqb k 10 ≡ ten → eqb k 11 ≡ eleven → eight || (leb 10 k && leb k 12) ≡ true → OfSweep (kind_of k)
    by true ten eleven a b c e = one 8 (eqb-true k 8 a) tt
    by false true eleven a b c e = one 10 (eqb-true k 10 b) tt
    by false false true a b c e = one 11 (eqb-true k 11 c) tt
    by false false false a b c e =
        let range = both (leb 10 k) (leb k 12) e in
        one 12 (omega (arith, eqb-false k 10 b, eqb-false k 11 c, leb-true 10 k range.0, leb-true k 12 range.1)) tt

module _ (A B : List Float) (limit : Float) (N n s : ℕ) (olds : List Float) (z : State) (p q : ℕ) where
  -- a record that passes 10, 11 and 12 leads to a state for which the check's progress says the same
  after-record : (sweep : Bool) → is_sweep s ≡ sweep → (g : Progress) (kind : ℕ) (moves : Bool) → belongs s kind ≡ true
      → in_order (kind_of kind) g.target ≡ true → allowed N n s (kind_of kind) p q g ≡ true → Stands sweep N n s limit olds g z moves
      → AfterStep z (λ z'. Stands sweep N n s limit olds (onward (kind_of kind) p q g) z' (moves || moves_in limit z (kind_of kind)))
      (step A B limit z (kind_of kind) p q)
  unfolding allowed
  after-record false method g kind moves own eleven twelve stands =
      crout_after A B limit N n s z p q g (kind_of kind) eleven (rw (allowed, method) at twelve) stands
  after-record true method g kind moves own eleven twelve stands =
      sweep_after A B limit N n olds z p q moves g (kind_of kind) (sweep_kind kind (rw (eqb-true s 0 method) at own)) eleven
      (rw (allowed, method) at twelve) stands

-- ---- along the chain

-- how a run goes on after a step at record k
abbrev continued : List Float → List Float → Float → List ℕ → State → ℕ → Stepped → Followed
continued A B limit W z k (going z') = follow A B limit z' (chain_from W k).links
continued A B limit W z k (stop r) = halted r k z.table z.target

-- a run of W from state z₀ on, with so many operations made before it
module _ (A B : List Float) (limit : Float) (W : List ℕ) (sweep : Bool) (z₀ : State) (base : ℕ) where
  -- z is the run's state after record k: the rest of the chain passes the check, and decides how the run ends
  pub record RunAfter (z : State) (moves : Bool) (k : ℕ) : Type 0 where
    pub progress : Progress
    pub stands : Stands sweep (word W 0) (word W 1) (word W 2) limit z₀.tables.x progress z moves
    pub checks : check_links (word W 0) (word W 1) (word W 2) progress (chain_from W k).links (chain_from W k).end ≡ fine
    pub leads : follow A B limit z₀ (chain W).links ≡ follow A B limit z (chain_from W k).links
    pub made : z.products + z.quotients ≤ base + k
    pub gone : z.vanished ≤ z.products

  -- z is the run's state before record k, of this kind
  pub record RunBefore (z : State) (moves : Bool) (k kind p q : ℕ) : Type 0 where
    pub progress : Progress
    pub stands : Stands sweep (word W 0) (word W 1) (word W 2) limit z₀.tables.x progress z moves
    pub own : belongs (word W 2) kind ≡ true
    pub order : in_order (kind_of kind) progress.target ≡ true
    pub turn : allowed (word W 0) (word W 1) (word W 2) (kind_of kind) p q progress ≡ true
    pub checks : check_links (word W 0) (word W 1) (word W 2) (onward (kind_of kind) p q progress) (chain_from W k).links (chain_from W k).end ≡ fine
    pub leads : follow A B limit z₀ (chain W).links ≡ continued A B limit W z k (step A B limit z (kind_of kind) p q)
    pub made : z.products + z.quotients < base + k
    pub gone : z.vanished ≤ z.products

follow-link : (A B : List Float) (limit : Float) (W : List ℕ) (z : State) (k : ℕ) (r : Record)
    → follow A B limit z (record { index = k; at = r } ∷ (chain_from W k).links) ≡ continued A B limit W z k (step A B limit z (kind_of r.kind) r.p r.q)
unfolding follow
follow-link A B limit W z k r = by (step A B limit z (kind_of r.kind) r.p r.q)
  where
    by : (s : Stepped) → elim s [ going z' ↦ follow A B limit z' (chain_from W k).links | stop n ↦ halted n k z.table z.target ]
        ≡ continued A B limit W z k s
    by (going z') = refl
    by (stop n) = refl

module _ {A B : List Float} {limit : Float} {W : List ℕ} {sweep : Bool} {z₀ : State} {base : ℕ} where
  -- before the first record
  pub run_begins : Passed 0 W → Stands sweep (word W 0) (word W 1) (word W 2) limit z₀.tables.x begun z₀ false → z₀.products + z₀.quotients ≤ base
      → z₀.vanished ≤ z₀.products → RunAfter A B limit W sweep z₀ base z₀ false 0
  run_begins p stands made gone = record {
    progress = begun;
    stands = stands;
    checks = rw chain-from at p.links;
    leads = ap (λ c. follow A B limit z₀ c.links) (chain-from W);
    made = omega arith;
    gone = gone;
  }

  module _ {z : State} {moves : Bool} {k : ℕ} (after : RunAfter A B limit W sweep z₀ base z moves k) where
    -- what the check says, once the rest of the chain is known
    checked_as : {c : Chain} → chain_from W k ≡ c → check_links (word W 0) (word W 1) (word W 2) after.progress c.links c.end ≡ fine
    checked_as e = subst (λ c. check_links (word W 0) (word W 1) (word W 2) after.progress c.links c.end ≡ fine) e after.checks

    -- no record is left: the run ends, and all entries are closed
    pub run_ends : next_of W k ≡ 0 → (follow A B limit z₀ (chain W).links ≡ through z) × (complete (word W 0) (word W 2) after.progress ≡ true)
    unfolding follow check_links
    run_ends e = (
      after.leads ∙ ap (λ c. follow A B limit z c.links) (chain-ends W k e),
      end-passed (word W 0) (word W 2) after.progress (checked_as (chain-ends W k e)),
    )

    -- else the next record is a later one, and its check says what the run relies on
    pub next_fits : (next_of W k ≡ 0 → ⊥) → (k < next_of W k) × (next_of W k < length W / 4)
    unfolding check_links
    next_fits some = fits (follows W k (next_of W k)) refl (λ bad. checked_as (chain_breaks W k some bad))
      where
        fits : (b : Bool) → follows W k (next_of W k) ≡ b → (follows W k (next_of W k) ≡ false → refusal 9 k ≡ fine)
            → (k < next_of W k) × (next_of W k < length W / 4)
        fits true e checks = next-range k (next_of W k) (length W / 4) e
        fits false e checks = absurd (refused-fine 9 k (checks e))

    pub run_next : (next_of W k ≡ 0 → ⊥) → let n = next_of W k in
        RunBefore A B limit W sweep z₀ base z moves n (word W (4 * n)) (word W (4 * n + 1)) (word W (4 * n + 2))
    run_next some =
        let fits = next_fits some in
        let is = chain_goes W k fits.0 fits.1 in
        let passed = link-passed _ _ _ _ _ _ _ (checked_as is) in
        record {
          progress = after.progress;
          stands = after.stands;
          own = (both _ _ passed.ten).0;
          order = passed.eleven;
          turn = passed.twelve;
          checks = passed.later;
          leads = after.leads ∙ ap (λ c. follow A B limit z c.links) is ∙ follow-link A B limit W z (next_of W k) (record_at W (next_of W k));
          made = omega (arith, after.made);
          gone = after.gone;
        }

  module _ {z : State} {moves : Bool} {k kind p q : ℕ} (method : is_sweep (word W 2) ≡ sweep)
      (before : RunBefore A B limit W sweep z₀ base z moves k kind p q) where
    -- a step leads on, or ends the run
    pub run_goes_on : (z' : State) (moves' : Bool) → going z' ≡ step A B limit z (kind_of kind) p q → Tells sweep moves' (moves || moves_in limit z (kind_of kind))
        → RunAfter A B limit W sweep z₀ base z' moves' k
    run_goes_on z' moves' e tells =
        let steps = after-record A B limit (word W 0) (word W 1) (word W 2) z₀.tables.x z p q sweep method before.progress kind moves
        before.own before.order before.turn before.stands in
        let after = subst (AfterStep z _) (sym e) steps in
        record {
          progress = onward (kind_of kind) p q before.progress;
          stands = told sweep _ tells after.0;
          checks = before.checks;
          leads = before.leads ∙ ap (continued A B limit W z k) (sym e);
          made = omega (arith, after.1.made, before.made);
          gone = after.1.gone before.gone;
        }
      where
        told : (sweep : Bool) (g : Progress) → Tells sweep moves' (moves || moves_in limit z (kind_of kind))
            → Stands sweep (word W 0) (word W 1) (word W 2) limit z₀.tables.x g z' (moves || moves_in limit z (kind_of kind))
            → Stands sweep (word W 0) (word W 1) (word W 2) limit z₀.tables.x g z' moves'
        told false g tells stands = stands
        told true g tells stands = rw tells stands

    pub run_stops : (r : ℕ) → stop r ≡ step A B limit z (kind_of kind) p q → follow A B limit z₀ (chain W).links ≡ halted r k z.table z.target
    run_stops r e = before.leads ∙ ap (continued A B limit W z k) (sym e)

-- ---- the records refuse by 16, 17 and 27 alone

abbrev pub NotRefused : Outcome → Type 0
NotRefused (solution t p q g k) = Unit {0}
NotRefused (stopped r k t n) = Unit {0}
NotRefused (refused_by r d) = ⊥
NotRefused (unsettled_at t) = Unit {0}

-- refused at a record
abbrev pub Stops : Outcome → Type 0
Stops (solution t p q g k) = ⊥
Stops (stopped r k t n) = Unit {0}
Stops (refused_by r d) = ⊥
Stops (unsettled_at t) = ⊥

-- no other ending comes before the sweeps' own
abbrev pub SweptSo : Sweeps State Outcome → Type 0
SweptSo (settled z k) = Unit {0}
SweptSo (unsettled z) = Unit {0}
SweptSo (ended e) = Stops e

module _ (A B : List Float) (limit : Float) (N : ℕ) (ls : List Link) where
  abbrev pub once_from : State → Once State Outcome
  once_from z = once_more (follow A B limit z ls)

  abbrev pub moves_from : State → State → Bool
  moves_from z w = moved limit N z.tables.x w.tables.x

  pub sweeps_so : (d k : ℕ) (z : State) → SweptSo (sweeping once_from moves_from d k z)
  unfolding sweeping
  sweeps_so zero k z = tt
  sweeps_so (suc d) k z = by (follow A B limit z ls) (λ w. sweeps_so d (suc k) w)
    where
      after : (w : State) (b : Bool) → SweptSo (sweeping once_from moves_from d (suc k) w)
          → SweptSo (elim b as (λ b. Sweeps State Outcome) [ true ↦ sweeping once_from moves_from d (suc k) w | false ↦ settled w (suc k) ])
      after w true rest = rest
      after w false rest = tt

      by : (f : Followed) → ((w : State) → SweptSo (sweeping once_from moves_from d (suc k) w))
          → SweptSo (elim (once_more f) as (λ o. Sweeps State Outcome) [
            | ends e ↦ ended e
            | swept w ↦ elim (moves_from z w) as (λ b. Sweeps State Outcome) [ true ↦ sweeping once_from moves_from d (suc k) w | false ↦ settled w (suc k) ]
          ])
      by (through w) rest = after w (moves_from z w) (rest w)
      by (halted r i t n) rest = tt

pub done_not_refused : (W : List ℕ) (A B : List Float) (limit : Float) (sweep : Bool) → NotRefused (done_by W A B limit sweep)
unfolding done_by swept_over followed
done_not_refused W A B limit false = by (follow A B limit (fresh (word W 0)) (chain W).links)
  where
    by : (f : Followed) → NotRefused (followed f)
    by (through z) = tt
    by (halted r k t n) = tt
done_not_refused W A B limit true =
    by (sweeping (once_from A B limit (word W 0) (chain W).links) (moves_from A B limit (word W 0) (chain W).links) most_sweeps 0 first)
    (sweeps_so A B limit (word W 0) (chain W).links most_sweeps 0 first)
  where
    first : State
    first = started_on (loaded (word W 0) (map clean A) B)

    by : (s : Sweeps State Outcome) → SweptSo s → NotRefused (elim s as (λ s. Outcome) [
      | settled z k ↦ solution (only_x z.tables) z.products z.quotients z.vanished k
      | unsettled z ↦ unsettled_at (only_x z.tables)
      | ended e ↦ e
    ])
    by (settled z k) so = tt
    by (unsettled z) so = tt
    by (ended (stopped r k t n)) so = tt
    by (ended (solution _ _ _ _ _)) so = elim so [ ]
    by (ended (refused_by _ _)) so = elim so [ ]
    by (ended (unsettled_at _)) so = elim so [ ]
