-- Where a numbering's slots stand in the work numbers, from trial to trial.
use Prim.Native.Nat.{ℕ, suc, ◌+◌, ◌-◌, ◌*◌, ◌≤◌, ◌<◌}
use native.Mathlib.Omega.{arith}
use mathlib.Core.Path.{◌≡◌, sym, ap, ◌∙◌}
use mathlib.Core.Bool.{Bool, true, cond}
use mathlib.Core.Logic.{◌⊎◌, inl, inr}
use mathlib.Core.List.{List, [], ◌∷◌}
use lib.ListN.{length, take, drop}
use lib.Seq.{take_at, drop_at}
use Rattle.std.specs.List.{swap}
use Rattle.model.specs.Label.{is_order}
use Rattle.model.specs.Fill.{Plan}
use Rattle.model.specs.Compile.{judged, good, slot_numbers}
use Rattle.model.specs.Numbering.{Numbering, renumbered, exchanged, turn, tried, after_trials}
use Rattle.model.proofs.WorkNumbers.{get_or_any, slot-numbers-length}
use Rattle.model.proofs.Renumbered.{renumbered-plan}
use Rattle.model.proofs.Trials.{Kept, Idle, trial_stays, after_more, idle-none, idle_more, idle_fewer, settled}
use Rattle.slots.specs.Walked.{FillsPlan}
use Rattle.slots.specs.declared.Filled.{Filled}
use Rattle.plans.proofs.Standing.{slots_stand}
use Rattle.ordering.specs.Numbered.{Numbered}

pub filled-rest : {N : ℕ} {P : Plan} {before work in_rows in_columns : List ℕ} {r : Filled} → FillsPlan N P before work in_rows in_columns r
    → drop (N * N) work ≡ drop (N * N) before
filled-rest {N} {P} f = ap (drop (N * N)) f.written ∙ drop_at (slot_numbers N P) _ (N * N) (slot-numbers-length N P)

module _ {N : ℕ} {L : Plan} {p : Numbering} {before work in_rows in_columns : List ℕ} {r : Filled}
    (fills : FillsPlan N (renumbered N L p) before work in_rows in_columns r) where
  pub filled-numbered : is_order N ≡ true → judged N 0 1 L ≡ good → Kept N L p → Numbered N L p work in_rows in_columns r.slots
  filled-numbered order labels kept = record {
    stood = record {
      order = order;
      labels = labels;
      kept = kept;
      stands = slots_stand order (renumbered-plan N L p labels kept.numbers).0 fills;
    };
    written = ap (take (N * N)) fills.written ∙ take_at (slot_numbers N (renumbered N L p)) _ (N * N) (slot-numbers-length N (renumbered N L p));
    slots-are = fills.slots-are;
  }

-- the library's exchange of neighbours is the model's
pub swapped : (p : Numbering) (t : ℕ) → 1 ≤ t → t < length p → swap p (t - 1) t ≡ exchanged p t
unfolding exchanged
swapped [] t low high = absurd (omega arith)
swapped (d ∷ p) t low high =
    let back : suc t - 1 ≡ t = omega arith in
    rw (back, get_or_any (d ∷ p) t d 0 high, get_or_any (d ∷ p) (t - 1) d 0 (omega arith))

-- a trial that keeps the exchange
module _ (N : ℕ) (L : Plan) (t : ℕ) (p : Numbering) (b : Bool) (decided : tried N L t p ≡ cond b (exchanged p t) p) where
  pub kept-exchanged : {q : Numbering} → b ≡ true → q ≡ exchanged p t → q ≡ tried N L t p
  kept-exchanged e f = f ∙ sym (decided ∙ ap (λ b. cond b (exchanged p t) p) e)

-- how long nothing was kept, after one trial more: s' slots follow on s
abbrev pub Since : ℕ → ℕ → ℕ → ℕ → Type 0
Since s s' d r = ((s' < s) × (r ≡ 0)) ⊎ ((s ≤ s') × (r ≡ suc d))

pub idle_since : {N : ℕ} {L : Plan} {p q : Numbering} {work in_rows in_columns work' in_rows' in_columns' : List ℕ} {k d s s' r : ℕ} → Idle N L p k d
    → Numbered N L p work in_rows in_columns s → Numbered N L q work' in_rows' in_columns' s' → q ≡ tried N L (turn N k) p → Since s s' d r
    → Idle N L q (suc k) r
idle_since idle before after e (inl fewer) = rw fewer.1 idle-none
idle_since {N} {L} {p} {k = k} idle before after e (inr same) =
    let stays : tried N L (turn N k) p ≡ p = trial_stays N L (turn N k) p (rw (sym before.slots-are, sym e, sym after.slots-are) same.0) in
    rw (same.1, e, stays) (idle_more idle stays)

-- where the trials stand after k of them, of which the last kept nothing, d of them
pub record Tried (N : ℕ) (L : Plan) (before work in_rows in_columns : List ℕ) (p : Numbering) (s d k : ℕ) : Type 0 where
  pub reached : p ≡ after_trials N L k
  pub numbers : Numbered N L p work in_rows in_columns s
  pub rest : drop (N * N) work ≡ drop (N * N) before
  pub idle : Idle N L p k d

pub tried_more : {N : ℕ} {L : Plan} {before work in_rows in_columns work' in_rows' in_columns' : List ℕ} {p q : Numbering} {s s' d r k : ℕ}
    → Tried N L before work in_rows in_columns p s d k → q ≡ tried N L (turn N k) p → Numbered N L q work' in_rows' in_columns' s'
    → drop (N * N) work' ≡ drop (N * N) work → Since s s' d r → Tried N L before work' in_rows' in_columns' q s' r (suc k)
tried_more {N} {L} {k = k} t e n rest f = record {
  reached = e ∙ ap (tried N L (turn N k)) t.reached ∙ sym (after_more N L k);
  numbers = n;
  rest = rest ∙ t.rest;
  idle = idle_since t.idle t.numbers n e f;
}

-- after a round that kept nothing they are where all of them end
pub tried-settled : {N : ℕ} {L : Plan} {before work in_rows in_columns : List ℕ} {p : Numbering} {s d k trials : ℕ} → 1 < N
    → Tried N L before work in_rows in_columns p s d k → N - 1 ≤ d → k ≤ trials → p ≡ after_trials N L trials
tried-settled {N} {L} {k = k} {trials = trials} two t round few =
    let all : trials - k + k ≡ trials = omega arith in
    sym (rw all at (settled two (idle_fewer round t.idle) (sym t.reached) (trials - k)))
