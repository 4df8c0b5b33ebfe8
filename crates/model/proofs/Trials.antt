-- The numbering that the trials keep: document 02, A.12.
use Prim.Native.Nat.{ℕ, zero, suc, ◌+◌, ◌-◌, ◌%◌, ◌≤◌, ◌<◌}
use native.Mathlib.Nat.{zero-add, suc-add, le-suc_iff, eq-or-lt_of_le, mod-lt, mod-eq-sub-mod}
use native.Mathlib.Decide.{dec_le}
use native.Mathlib.Numerals.{add-one}
use native.Mathlib.Omega.{arith}
use mathlib.Core.Path.{◌≡◌, refl, sym, ap, ◌∙◌}
use mathlib.Core.Bool.{Bool, true, false, cond, ◌&&◌}
use mathlib.Core.Logic.{◌⊎◌, inl, inr, ⊎_elim}
use borrow.Author.Tests.{ltb-true, ltb-false, eqb-true, eqb-false, eq-eqb, ne_eqb}
use lib.Dec.{ltb, eqb}
use Rattle.model.specs.Fill.{Plan, missing, slots}
use Rattle.model.specs.Compile.{judged, good}
use Rattle.model.specs.Numbering.{
  Numbering,
  given_numbering,
  renumbered,
  exchanged,
  turn,
  tried,
  after_trials,
  trials_made,
  kept_numbering,
  IsNumbering,
  KeptNumbering,
  TrialsNoBetter,
}
use Rattle.model.proofs.Within.{within-range}
use Rattle.model.proofs.Permutation.{exchange_keeps, given-numbering}
use Rattle.model.proofs.Reach.{reach}
use Rattle.model.proofs.Exchanged.{down_before, right_before, down_after, right_after, exchange_kept}
use Rattle.model.proofs.Renumbered.{given-plan, exchanged-planned}

-- the rooms of a trial are there
pub turn_is : (N k : ℕ) → k % (N - 1) + 1 ≡ turn N k
unfolding turn
turn_is N k = add-one (k % (N - 1))

pub turn_inside : (N k : ℕ) → 1 < N → (1 ≤ turn N k) × (turn N k < N)
unfolding turn
turn_inside N k h = let position = mod-lt k {m = N - 1} (omega arith) in (omega arith, omega arith)

module _ (N : ℕ) (L : Plan) where
  -- the slots of a numbering's plan, and the first pivot that it misses
  abbrev slots_of : Numbering → ℕ
  slots_of p = slots N (renumbered N L p)

  abbrev missing_of : Numbering → ℕ
  missing_of p = missing N (renumbered N L p)

  -- what a trial keeps, by its two tests
  abbrev pub keeps : Bool → Bool → Numbering → Numbering → Numbering
  keeps accepted fewer p q = elim accepted as (λ b. Numbering) [ false ↦ p | true ↦ elim fewer as (λ b. Numbering) [ false ↦ p | true ↦ q ] ]

  pub tried_is : (t : ℕ) (p : Numbering) → let q = exchanged p t in tried N L t p ≡ keeps (eqb (missing_of q) 0) (ltb (slots_of q) (slots_of p)) p q
  unfolding tried
  tried_is t p = refl

  -- ---- it has no more slots than it was given, nor than the exchange if that is accepted

  trial_falls : (t : ℕ) (p : Numbering) → slots_of (tried N L t p) ≤ slots_of p
  trial_falls t p = rw (tried_is t p) (step (eqb (missing_of (exchanged p t)) 0) (ltb (slots_of (exchanged p t)) (slots_of p)) refl)
    where
      step : (a f : Bool) → ltb (slots_of (exchanged p t)) (slots_of p) ≡ f → slots_of (keeps a f p (exchanged p t)) ≤ slots_of p
      step false f e = omega arith
      step true false e = omega arith
      step true true e = omega (arith, ltb-true (slots_of (exchanged p t)) (slots_of p) e)

  -- one that has no fewer is the one it was given
  pub trial_stays : (t : ℕ) (p : Numbering) → slots_of p ≤ slots_of (tried N L t p) → tried N L t p ≡ p
  trial_stays t p h =
      tried_is t p
      ∙ step (eqb (missing_of (exchanged p t)) 0) (ltb (slots_of (exchanged p t)) (slots_of p)) refl (rw (tried_is t p) at h)
    where
      step : (a f : Bool) → ltb (slots_of (exchanged p t)) (slots_of p) ≡ f → slots_of p ≤ slots_of (keeps a f p (exchanged p t)) → keeps a f p (exchanged p t) ≡ p
      step false f e h = refl
      step true false e h = refl
      step true true e h = absurd (omega (arith, ltb-true (slots_of (exchanged p t)) (slots_of p) e))

  trial_best : (t : ℕ) (p : Numbering) → missing_of (exchanged p t) ≡ 0 → slots_of (tried N L t p) ≤ slots_of (exchanged p t)
  trial_best t p accepted =
      rw (tried_is t p, eq-eqb (missing_of (exchanged p t)) 0 accepted) (step (ltb (slots_of (exchanged p t)) (slots_of p)) refl)
    where
      step : (f : Bool) → ltb (slots_of (exchanged p t)) (slots_of p) ≡ f → slots_of (keeps true f p (exchanged p t)) ≤ slots_of (exchanged p t)
      step false e = ltb-false (slots_of (exchanged p t)) (slots_of p) e
      step true e = omega arith

  after_falls : (k d : ℕ) → slots_of (after_trials N L (d + k)) ≤ slots_of (after_trials N L k)
  unfolding after_trials
  after_falls k zero = rw (zero-add k) (omega arith)
  after_falls k (suc d) = rw (suc-add d k) (omega (arith, trial_falls (turn N (d + k)) (after_trials N L (d + k)), after_falls k d))

  -- ---- it stays a numbering, with all pivots

  pub record Kept (p : Numbering) : Type 0 where
    pub numbers : IsNumbering N p
    pub pivots : missing_of p ≡ 0

  tried_keeps : (t : ℕ) (p : Numbering) → IsNumbering N (exchanged p t) → Kept p → Kept (tried N L t p)
  tried_keeps t p n k = rw (tried_is t p) (step (eqb (missing_of (exchanged p t)) 0) refl (ltb (slots_of (exchanged p t)) (slots_of p)))
    where
      step : (a : Bool) → eqb (missing_of (exchanged p t)) 0 ≡ a → (f : Bool) → Kept (keeps a f p (exchanged p t))
      step false e f = k
      step true e false = k
      step true e true = record { numbers = n; pivots = eqb-true (missing_of (exchanged p t)) 0 e }

  pub trial_keeps : (t : ℕ) (p : Numbering) → 1 ≤ t → t < N → Kept p → Kept (tried N L t p)
  trial_keeps t p low high k =
      let next : suc (t - 1) ≡ t = omega arith in
      tried_keeps t p (rw next at (exchange_keeps N p (t - 1) (omega arith) k.numbers)) k

  pub after_keeps : (k : ℕ) → 1 < N → Kept (given_numbering N) → Kept (after_trials N L k)
  unfolding after_trials
  after_keeps zero h g = g
  after_keeps (suc k) h g = let t = turn_inside N k h in trial_keeps (turn N k) (after_trials N L k) t.0 t.1 (after_keeps k h g)

  pub after_none : after_trials N L 0 ≡ given_numbering N
  unfolding after_trials
  after_none = refl

  pub after_more : (k : ℕ) → after_trials N L (suc k) ≡ tried N L (turn N k) (after_trials N L k)
  unfolding after_trials
  after_more k = refl

  -- ---- and what it keeps is told by two batches

  pub tried_by_batches : (d : ℕ) (p : Numbering) → suc (suc d) ≤ N → Kept p → let P = renumbered N L p in
      tried N L (suc d) p
      ≡ cond (reach N P d (suc (suc d)) (suc (suc d)) && ltb (down_after N d P + right_after N d P) (down_before N d P + right_before N d P)) (exchanged p (suc d)) p
  tried_by_batches d p h k =
      let q = exchanged p (suc d) in
      tried_is (suc d) p
      ∙ both (eqb (missing_of q) 0) (ltb (slots_of q) (slots_of p)) q
      ∙ ap (λ b. cond b q p) (exchange_kept N d (renumbered N L p) (renumbered N L q) (exchanged-planned N L p d k.numbers h) h k.pivots)
    where
      both : (a f : Bool) (q : Numbering) → keeps a f p q ≡ cond (a && f) q p
      both true true q = refl
      both true false q = refl
      both false f q = refl

-- ---- and order 1 makes none

pub made_none : (N trials : ℕ) → N ≡ 1 → 0 ≡ trials_made N trials
unfolding trials_made
made_none N trials e = rw (trials_made, eq-eqb N 1 e)

pub made_all : (N trials : ℕ) → (N ≡ 1 → ⊥) → trials ≡ trials_made N trials
unfolding trials_made
made_all N trials d = rw (trials_made, ne_eqb N 1 d)

pub kept-after : (N : ℕ) (L : Plan) (trials : ℕ) → after_trials N L (trials_made N trials) ≡ kept_numbering N L trials
unfolding kept_numbering
kept-after N L trials = refl

pub made_two : (N trials : ℕ) → 1 ≤ N → 0 < trials_made N trials → 1 < N
made_two N trials low h = ⊎_elim (λ e. absurd (omega (arith, made_none N trials (sym e)))) (λ l. l) (eq-or-lt_of_le low)

-- ---- once a round has kept nothing no later trial does

-- of the trials before the k-th the last d, made from p, keep p
pub record Idle (N : ℕ) (L : Plan) (p : Numbering) (k d : ℕ) : Type 0 where
  pub few : d ≤ k
  pub stays : (j : ℕ) → k ≤ j + d → j < k → tried N L (turn N j) p ≡ p

module _ {N : ℕ} {L : Plan} {p : Numbering} {k : ℕ} where
  pub idle-none : Idle N L p k 0
  idle-none = record { few = omega arith; stays = λ j from below. absurd (omega arith) }

  pub idle_more : {d : ℕ} → Idle N L p k d → tried N L (turn N k) p ≡ p → Idle N L p (suc k) (suc d)
  idle_more {d} i e = record { few = omega (arith, i.few); stays = λ j from below. step j from (le-suc_iff.0 below) }
    where
      step : (j : ℕ) → suc k ≤ j + suc d → (suc j ≤ k) ⊎ (suc j ≡ suc k) → tried N L (turn N j) p ≡ p
      step j from (inl earlier) = i.stays j (omega arith) earlier
      step j from (inr last) = let here : j ≡ k = omega arith in rw here e

  pub idle_fewer : {d e : ℕ} → e ≤ d → Idle N L p k d → Idle N L p k e
  idle_fewer h i = record { few = omega (arith, i.few); stays = λ j from below. i.stays j (omega arith) below }

  module _ (two : 1 < N) (round : Idle N L p k (N - 1)) where
    idle-later : (f j : ℕ) → j < f → k ≤ j + (N - 1) → tried N L (turn N j) p ≡ p
    unfolding turn
    idle-later zero j h from = absurd (omega arith)
    idle-later (suc f) j h from = elim (dec_le k j) [
      | no earlier ↦ round.stays j from (omega arith)
      | yes later ↦
          let again : j % (N - 1) ≡ (j - (N - 1)) % (N - 1) = mod-eq-sub-mod (omega (arith, round.few)) in
          ap (λ t. tried N L (suc t) p) again ∙ idle-later f (j - (N - 1)) (omega arith) (omega (arith, round.few))
    ]

    pub settled : after_trials N L k ≡ p → (d : ℕ) → after_trials N L (d + k) ≡ p
    unfolding after_trials
    settled e zero = rw (zero-add k) e
    settled e (suc d) = rw (suc-add d k, settled e d) (idle-later (suc (d + k)) (d + k) (omega arith) (omega arith))

pub trials_no_better : TrialsNoBetter
unfolding after_trials kept_numbering
trials_no_better N L trials k h accepted =
    let later : trials_made N trials ≡ trials_made N trials - suc k + suc k = omega arith in
    rw later (omega (arith, after_falls N L (suc k) (trials_made N trials - suc k), trial_best N L (turn N k) (after_trials N L k) accepted))

pub given-kept : (N : ℕ) (L : Plan) → judged N 0 1 L ≡ good → missing N L ≡ 0 → Kept N L (given_numbering N)
given-kept N L labels pivots = record { numbers = given-numbering N; pivots = ap (missing N) (given-plan N L labels) ∙ pivots }

pub kept-numbering : KeptNumbering
unfolding kept_numbering trials_made after_trials
kept-numbering N L trials order labels pivots = let s = step (eqb N 1) refl in (s.numbers, s.pivots)
  where
    step : (b : Bool) → eqb N 1 ≡ b → Kept N L (after_trials N L (elim b as (λ b. ℕ) [ true ↦ 0 | false ↦ trials ]))
    step true e = given-kept N L labels pivots
    step false e =
        after_keeps N L trials (⊎_elim (λ q. absurd (eqb-false N 1 e (sym q))) (λ q. q) (eq-or-lt_of_le (within-range N 600 order).0))
        (given-kept N L labels pivots)
