-- The counts of the first b sets, which a loop over them works out: document 02, A.13.
use Prim.Native.Nat.{ℕ, zero, suc, ◌+◌, ◌*◌, ◌^◌, ◌≤◌, ◌<◌}
use native.Mathlib.Nat.{zero-add}
use native.Mathlib.Omega.{arith}
use mathlib.Core.Path.{◌≡◌, refl, sym, ap, ap₂, ◌∙◌}
use mathlib.Core.Bool.{Bool, true, false, cond}
use mathlib.Core.List.{List, [], ◌∷◌, ◌++◌}
use borrow.Author.Tests.{eq-eqb, ne_eqb}
use lib.Dec.{eqb}
use lib.ListN.{length, length-append, get_or, set, replicate}
use Rattle.model.specs.Lists.{rising, kept}
use Rattle.model.specs.Label.{within}
use Rattle.model.specs.Fill.{Plan, missing}
use Rattle.model.specs.Check.{fine, refusal}
use Rattle.model.specs.Census.{plans, plans_missing, countable, plan_counts}
use Rattle.model.proofs.Lists.{kept_append, rising_add, rising_agree, get_or-rising, length-rising}
use Rattle.model.proofs.Search.{kept-at_most}
use Rattle.model.proofs.Sets.{marked, sets-marked}
use Rattle.model.proofs.Census.{missing-at_most}

-- how many of them have m as the first pivot that is missing
unfoldable pub tally : ℕ → ℕ → ℕ → ℕ
tally N b m = length (kept (λ L. eqb (missing N L) m) (rising (marked (N * N)) 0 b))

abbrev pub tallies : ℕ → ℕ → List ℕ
tallies N b = rising (tally N b) 0 5

pub tallies_none : (N : ℕ) → replicate 5 0 ≡ tallies N 0
unfolding tally rising kept
tallies_none N = refl

pub tallies_few : (N b : ℕ) {m : ℕ} {out : List ℕ} → out ≡ tallies N b → m < 5 → get_or out m 0 ≤ b
unfolding tally
tallies_few N b {m = m} e h =
    let few = kept-at_most (λ L. eqb (missing N L) m) (rising (marked (N * N)) 0 b) in
    rw (e, get_or-rising (tally N b) 0 5 m 0 h, zero-add m) (omega (arith, few, length-rising (marked (N * N)) 0 b))

tally_more : (N b m : ℕ) → tally N (b + 1) m ≡ tally N b m + cond (eqb (missing N (marked (N * N) b)) m) 1 0
unfolding tally kept rising
tally_more N b m =
    rw (rising_add (marked (N * N)) 0 b 1, kept_append (λ L. eqb (missing N L) m) (rising (marked (N * N)) 0 b) (marked (N * N) (0 + b) ∷ []), zero-add b)
    (step (kept (λ L. eqb (missing N L) m) (rising (marked (N * N)) 0 b)) (eqb (missing N (marked (N * N) b)) m))
  where
    step : (l : List Plan) (t : Bool) → length (l ++ cond t (marked (N * N) b ∷ []) []) ≡ length l + cond t 1 0
    step l true = length-append l (marked (N * N) b ∷ [])
    step l false = length-append l []

-- one entry of a row is changed
set-rising : (v w : ℕ → ℕ) (a n e : ℕ) {x : ℕ} → x ≡ w (a + e) → ((k : ℕ) → (k ≡ a + e → ⊥) → v k ≡ w k) → e < n → set (rising v a n) e x ≡ rising w a n
unfolding rising
set-rising v w a zero e here others h = absurd (omega arith)
set-rising v w a (suc n) zero here others h =
    ap₂ ◌∷◌ (here ∙ ap w (omega arith)) (rising_agree v w (suc a) (suc a) n (λ k l. others (suc a + k) (λ z. omega arith)))
set-rising v w a (suc n) (suc e) here others h =
    let next : a + suc e ≡ suc a + e = omega arith in
    ap₂ ◌∷◌ (others a (λ z. omega arith)) (set-rising v w (suc a) n e (here ∙ ap w next) (λ k z. others k (λ q. z (omega arith))) (omega arith))

pub tallies_more : (N b : ℕ) {m : ℕ} {out : List ℕ} → N ≤ 4 → out ≡ tallies N b → m ≡ missing N (marked (N * N) b)
    → set out m (get_or out m 0 + 1) ≡ tallies N (b + 1)
tallies_more N b h e f = rw (e, f) (set-rising (tally N b) (tally N (b + 1)) 0 5 _ counted others low)
  where
    low : missing N (marked (N * N) b) < 5
    low = omega (arith, missing-at_most N (marked (N * N) b))

    counted : get_or (tallies N b) (missing N (marked (N * N) b)) 0 + 1 ≡ tally N (b + 1) (0 + missing N (marked (N * N) b))
    counted = let m = missing N (marked (N * N) b) in rw (get_or-rising (tally N b) 0 5 m 0 low, tally_more N b (0 + m), zero-add m, eq-eqb m m refl)

    others : (k : ℕ) → (k ≡ 0 + missing N (marked (N * N) b) → ⊥) → tally N b k ≡ tally N (b + 1) k
    others k z = rw (tally_more N b k, ne_eqb (missing N (marked (N * N) b)) k (λ q. z (omega arith))) (omega arith)

pub tallies_all : (N : ℕ) → tallies N (2 ^ (N * N)) ≡ rising (plans_missing N) 0 5
unfolding tally plans_missing plans
tallies_all N =
    rising_agree (tally N (2 ^ (N * N))) (plans_missing N) 0 0 5
    (λ k h. ap (λ l. length (kept (λ L. eqb (missing N L) (0 + k)) l)) (sym (sets-marked (N * N))))

-- the call's two cases
pub counts_refused : (N : ℕ) → within N 4 ≡ false → (refusal 30 0 ≡ countable N) × (replicate 5 0 ≡ plan_counts N)
unfolding countable plan_counts
counts_refused N h = (rw (countable, h), rw (plan_counts, h))

pub counts_taken : (N : ℕ) → within N 4 ≡ true → (fine ≡ countable N) × (rising (plans_missing N) 0 5 ≡ plan_counts N)
unfolding countable plan_counts
counts_taken N h = (rw (countable, h), rw (plan_counts, h))
