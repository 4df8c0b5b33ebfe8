-- A plan's labels by name: they are all different, and they are what is kept of the row 1, 2, .. by naming them. For document 02, A.13.
use Prim.Native.Nat.{ℕ, zero, suc, ◌+◌, ◌*◌, ◌≤◌, ◌<◌}
use native.Mathlib.Nat.{eq-or-lt_of_le}
use native.Mathlib.Omega.{arith}
use mathlib.Core.Path.{◌≡◌, refl, sym, ap₂, ◌∙◌}
use mathlib.Core.Bool.{Bool, true, false, cond, ◌||◌}
use mathlib.Core.List.{List, [], ◌∷◌}
use mathlib.Core.Logic.{⊎_elim}
use borrow.Author.Tests.{lt-ltb, eq-eqb, ne_eqb}
use lib.Dec.{ltb, eqb}
use Rattle.model.specs.Lists.{rising, kept}
use Rattle.model.specs.Fill.{Plan, position_from}
use Rattle.model.specs.Compile.{judged, good}
use Rattle.model.specs.Path.{named}
use Rattle.model.proofs.Lists.{rising-each}
use Rattle.model.proofs.Search.{kept_same, kept-none}
use Rattle.model.proofs.Within.{range-within}
use Rattle.model.proofs.Plans.{judged-passed}
use Rattle.model.proofs.Route.{named_cases, named_here, named-later}

pub position-named : (p : ℕ) (L : Plan) (k : ℕ) → ltb 0 (position_from (suc p) L k) ≡ named k L
unfolding position_from named
position-named p [] k = refl
position-named p (x ∷ L) k = step (eqb x k) (position-named (suc p) L k)
  where
    step : (b : Bool) → ltb 0 (position_from (suc (suc p)) L k) ≡ named k L → ltb 0 (cond b (suc p) (position_from (suc (suc p)) L k)) ≡ (b || named k L)
    step true e = lt-ltb 0 (suc p) (omega arith)
    step false e = e

-- labels that pass 3 and 4 lie past the one before and in range
abbrev pub Past : ℕ → ℕ → Plan → Type 0
Past N before L = (x : ℕ) → named x L ≡ true → (before < x) × (x ≤ N * N)

pub labels-past : (N before k : ℕ) (L : Plan) → judged N before k L ≡ good → Past N before L
unfolding named
labels-past N before k [] e x m = let z : ◌≡◌ {A = ℕ} 0 1 = cc in absurd (omega arith)
labels-past N before k (y ∷ L) e x m =
    let s = judged-passed N before k y L e in
    let later = labels-past N y (suc k) L s.rest in
    ⊎_elim (λ q. (omega (arith, s.above), omega (arith, s.high))) (λ q. (omega (arith, s.above, (later x q).0), (later x q).1)) (named_cases x y L m)

not_past : (N before x : ℕ) (L : Plan) → Past N before L → x ≤ before → named x L ≡ false
not_past N before x L past h = step (named x L) refl
  where
    step : (b : Bool) → named x L ≡ b → b ≡ false
    step true m = absurd (omega (arith, (past x m).0))
    step false m = refl

-- the row of labels a, a + 1, ..
abbrev pub row : ℕ → ℕ → List ℕ
row a d = rising (λ x. x) a d

-- ---- what is kept of it is a plan

judged_cons : (N b k a : ℕ) (L : Plan) → 1 ≤ a → a ≤ N * N → b < a → judged N b k (a ∷ L) ≡ judged N a (suc k) L
unfolding judged
judged_cons N b k a L low high h = rw (judged, range-within a (N * N) low high, lt-ltb b a h)

pub kept-judged : (N : ℕ) (t : ℕ → Bool) (a d b k : ℕ) → b < a → a + d ≤ suc (N * N) → judged N b k (kept t (row a d)) ≡ good
unfolding kept rising judged
kept-judged N t a zero b k l h = refl
kept-judged N t a (suc d) b k l h =
    step (t a) (kept-judged N t (suc a) d a (suc k) (omega arith) (omega arith)) (kept-judged N t (suc a) d b k (omega arith) (omega arith))
  where
    step : (c : Bool) → judged N a (suc k) (kept t (row (suc a) d)) ≡ good → judged N b k (kept t (row (suc a) d)) ≡ good
        → judged N b k (cond c (a ∷ kept t (row (suc a) d)) (kept t (row (suc a) d))) ≡ good
    step true p q = judged_cons N b k a (kept t (row (suc a) d)) (omega arith) (omega arith) l ∙ p
    step false p q = q

-- of which those are named that are kept
kept-below : (t : ℕ → Bool) (a d x : ℕ) → x < a → named x (kept t (row a d)) ≡ false
unfolding named kept rising
kept-below t a zero x h = refl
kept-below t a (suc d) x h = step (t a) (kept-below t (suc a) d x (omega arith))
  where
    step : (b : Bool) → named x (kept t (row (suc a) d)) ≡ false → named x (cond b (a ∷ kept t (row (suc a) d)) (kept t (row (suc a) d))) ≡ false
    step true rest = rw (ne_eqb a x (λ e. omega arith)) rest
    step false rest = rest

pub kept_names : (t : ℕ → Bool) (a d x : ℕ) → a ≤ x → x < a + d → named x (kept t (row a d)) ≡ t x
unfolding named kept rising
kept_names t a zero x low high = absurd (omega arith)
kept_names t a (suc d) x low high =
    ⊎_elim (λ e. rw (← e) (here (t a))) (λ l. later (t a) l (kept_names t (suc a) d x l (omega arith))) (eq-or-lt_of_le low)
  where
    here : (b : Bool) → named a (cond b (a ∷ kept t (row (suc a) d)) (kept t (row (suc a) d))) ≡ b
    here true = rw (eq-eqb a a refl)
    here false = kept-below t (suc a) d a (omega arith)

    later : (b : Bool) → a < x → named x (kept t (row (suc a) d)) ≡ t x → named x (cond b (a ∷ kept t (row (suc a) d)) (kept t (row (suc a) d))) ≡ t x
    later true l rest = rw (ne_eqb a x (λ e. omega arith)) rest
    later false l rest = rest

-- ---- and a plan is what is kept of it by naming its labels

pub kept-named : (N b k a d : ℕ) (L : Plan) → judged N b k L ≡ good → ((x : ℕ) → named x L ≡ true → (a ≤ x) × (x < a + d))
    → kept (λ x. named x L) (row a d) ≡ L
unfolding kept rising
kept-named N b k a zero [] e inside = refl
kept-named N b k a zero (y ∷ L) e inside = absurd (omega (arith, inside y (named_here y L)))
kept-named N b k a (suc d) [] e inside = kept-none (λ x. named x []) (row a (suc d)) (λ x m. unfold named in refl)
kept-named N b k a (suc d) (y ∷ L) e inside =
    let past = labels-past N y (suc k) L (judged-passed N b k y L e).rest in
    let rest = kept-named N y (suc k) (suc a) d L (judged-passed N b k y L e).rest in
    let whole = kept-named N b k (suc a) d (y ∷ L) e in
    ⊎_elim
    (λ q. here q (rest (λ x m. (omega (arith, (past x m).0), omega (arith, (inside x (named-later x y L m)).1)))))
    (λ q. later q past (whole (λ x m. (⊎_elim (λ z. omega arith) (λ z. omega (arith, (past x z).0)) (named_cases x y L m), omega (arith, (inside x m).1)))))
    (eq-or-lt_of_le (inside y (named_here y L)).0)
  where
    cons_named : (x : ℕ) → named x (y ∷ L) ≡ (eqb y x || named x L)
    cons_named x = unfold named in refl

    Whole : Type 0
    Whole = cond (named a (y ∷ L)) (a ∷ kept (λ x. named x (y ∷ L)) (row (suc a) d)) (kept (λ x. named x (y ∷ L)) (row (suc a) d)) ≡ y ∷ L

    here : a ≡ y → kept (λ x. named x L) (row (suc a) d) ≡ L → Whole
    here q rest =
        let same = kept_same (λ x. named x (y ∷ L)) (λ x. named x L) (row (suc a) d)
        (rising-each _ (λ x. x) (suc a) d (λ x l h. rw (cons_named x, ne_eqb y x (λ z. omega arith)))) in
        rw (cons_named a, eq-eqb y a (sym q)) (ap₂ ◌∷◌ q (same ∙ rest))

    later : a < y → Past N y L → kept (λ x. named x (y ∷ L)) (row (suc a) d) ≡ y ∷ L → Whole
    later q past whole = rw (cons_named a, ne_eqb y a (λ z. omega arith), not_past N y a L past (omega arith)) whole
