-- The reduction: the reduced formulas worked out end as dense Crout does, with C compressed and labels as slots; and where a pivot is missing
-- dense Crout never ends solved.
use Prim.Native.Nat.{ℕ, suc, ◌+◌, ◌*◌}
use native.Mathlib.Nat.{add-zero}
use native.Mathlib.Omega.{arith}
use mathlib.Core.Path.{◌≡◌, refl, sym, ap, ap₂, subst, ◌∙◌}
use mathlib.Core.Bool.{Bool, true, false, cond, true≢false}
use mathlib.Core.List.{List, [], ◌∷◌}
use borrow.Author.Tests.{ne_eqb}
use lib.Dec.{leb}
use lib.Ieee.{Float}
use Rattle.model.specs.Label.{label, place}
use Rattle.model.specs.Fill.{Plan, held, slot, missing}
use Rattle.model.specs.Arith.{plus_zero, Answer, number, overflow, zero_divisor, is_zero}
use Rattle.model.specs.Formula.{Table, C, Y, X, Tables, Formula, closed, value, Ended, solved, refused, worked}
use Rattle.model.specs.Crout.{lower, upper, forward, backward, reduced_formulas, nothing, dense}
use Rattle.model.specs.Agreement.{Given, Accepted, packed, NeverSolved}
use Rattle.model.proofs.Labels.{Inside, label-range, place_of_label}
use Rattle.model.proofs.Plans.{pivot-held, missing-free}
use Rattle.model.proofs.Picked.{picked, shrunk, shrunk_y, shrunk_x, shrunk_held, shrunk_unheld, shrunk_packed}
use Rattle.model.proofs.Tally.{vanished_by}
use Rattle.model.proofs.Values.{Sound, sound-nothing, sound-c, sound-y, sound-x, Reads, reads-good, number-good, place_entered}
use Rattle.model.proofs.Values.{place_same, forward-same, backward-same, unheld_value}
use Rattle.model.proofs.Values.{place-vanished, forward-vanished, backward-vanished, unheld_vanished}
use Rattle.model.proofs.Beside.{formula_of, dense_of, beside, Beside, done, on_both, left_out, into_y, into_x}

-- dense Crout's ending, with C compressed and a refusal in C by the slot of its place
unfoldable pub squeezed : ℕ → Plan → Ended → Ended
squeezed N L (solved t g) = solved (shrunk N L t) g
squeezed N L (refused r C k) = refused r C (slot N L (place N k).0 (place N k).1)
squeezed N L (refused r Y k) = refused r Y k
squeezed N L (refused r X k) = refused r X k

-- how a row ends whose first formula has this answer and target
abbrev onward : Answer → Table → ℕ → (Float → Ended) → Ended
onward a tb k rest = elim a [ number v ↦ rest v | overflow ↦ refused 16 tb k | zero_divisor ↦ refused 17 tb k ]

-- what a formula's answer goes to
record Targets (f : Formula) (tb : Table) (k : ℕ) : Type 0 where
  table_is : f.table ≡ tb
  target_is : f.target ≡ k

worked_cons : {f : Formula} {tb : Table} {k : ℕ} → Targets f tb k → (A B : List Float) (limit : Float) (g : ℕ) (t : Tables) (fs : List Formula)
    → worked A B limit g t (f ∷ fs) ≡ onward (value A B limit t f) tb k (λ v. worked A B limit (g + vanished_by t f) (closed t tb k v) fs)
unfolding worked
worked_cons {f} to A B limit g t fs =
    ap₂ (λ tb k. onward (value A B limit t f) tb k (λ v. worked A B limit (g + vanished_by t f) (closed t tb k v) fs)) to.table_is to.target_is

place_targets : (N : ℕ) (L : Plan) (index : ℕ → ℕ → ℕ) (keep : ℕ → ℕ → Bool) (i j : ℕ) → Targets (formula_of N L index keep i j) C (index i j)
unfolding formula_of lower upper
place_targets N L index keep i j = step (leb j i)
  where
    step : (b : Bool) → Targets (cond b (lower N L index keep i j) (upper N L index keep i j)) C (index i j)
    step true = record { table_is = refl; target_is = refl }
    step false = record { table_is = refl; target_is = refl }

forward_targets : (N : ℕ) (L : Plan) (index : ℕ → ℕ → ℕ) (keep : ℕ → ℕ → Bool) (m : ℕ) → Targets (forward N L index keep m) Y m
unfolding forward
forward_targets N L index keep m = record { table_is = refl; target_is = refl }

backward_targets : (N : ℕ) (L : Plan) (index : ℕ → ℕ → ℕ) (keep : ℕ → ℕ → Bool) (i : ℕ) → Targets (backward N L index keep i) X i
unfolding backward
backward_targets N L index keep i = record { table_is = refl; target_is = refl }

worked_nil : (A B : List Float) (limit : Float) (g : ℕ) (t : Tables) → worked A B limit g t [] ≡ solved t g
unfolding worked
worked_nil A B limit g t = refl

-- a row that ends solved goes on after a number
onward-solved : (P : Type 0) (a : Answer) (tb : Table) (k : ℕ) (rest : Float → Ended) (t : Tables) (g : ℕ) → onward a tb k rest ≡ solved t g
    → ((v : Float) → a ≡ number v → rest v ≡ solved t g → P) → P
onward-solved P (number v) tb k rest t g e go = go v refl e
onward-solved P overflow tb k rest t g e go = let z : ◌≡◌ {A = ℕ} 0 1 = cc in absurd (omega arith)
onward-solved P zero_divisor tb k rest t g e go = let z : ◌≡◌ {A = ℕ} 0 1 = cc in absurd (omega arith)

-- one that ends refused goes on after a number too, or is refused here
onward-refused : (P : Type 0) (a : Answer) (tb tb' : Table) (k k' r : ℕ) (rest : Float → Ended) → onward a tb k rest ≡ refused r tb' k'
    → ((v : Float) → a ≡ number v → rest v ≡ refused r tb' k' → P) → (tb ≡ tb' → k ≡ k' → P) → P
onward-refused P (number v) tb tb' k k' r rest e go here = go v refl e
onward-refused P overflow tb tb' k k' r rest e go here = here (cc) (cc)
onward-refused P zero_divisor tb tb' k k' r rest e go here = here (cc) (cc)

onward-same : (N : ℕ) (L : Plan) (a : Answer) (tb : Table) (k k' : ℕ) (rest rest' : Float → Ended) → ((r : ℕ) → refused r tb k' ≡ squeezed N L (refused r tb k))
    → ((v : Float) → a ≡ number v → rest' v ≡ squeezed N L (rest v)) → onward a tb k' rest' ≡ squeezed N L (onward a tb k rest)
onward-same N L (number v) tb k k' rest rest' ends go = go v refl
onward-same N L overflow tb k k' rest rest' ends go = ends 16
onward-same N L zero_divisor tb k k' rest rest' ends go = ends 17

worked-solved : {f : Formula} {tb : Table} {k : ℕ} → Targets f tb k
    → (P : Type 0) (A B : List Float) (limit : Float) (g g' : ℕ) (t t' : Tables) (fs : List Formula)
    → worked A B limit g t (f ∷ fs) ≡ solved t' g'
    → ((v : Float) → value A B limit t f ≡ number v → worked A B limit (g + vanished_by t f) (closed t tb k v) fs ≡ solved t' g' → P) → P
worked-solved to P A B limit g g' t t' fs e go = onward-solved P _ _ _ _ t' g' (sym (worked_cons to A B limit g t fs) ∙ e) go

worked-refused : {f : Formula} {tb : Table} {k : ℕ} → Targets f tb k
    → (P : Type 0) (A B : List Float) (limit : Float) (g r : ℕ) (t : Tables) (tb' : Table) (k' : ℕ) (fs : List Formula)
    → worked A B limit g t (f ∷ fs) ≡ refused r tb' k'
    → ((v : Float) → value A B limit t f ≡ number v → worked A B limit (g + vanished_by t f) (closed t tb k v) fs ≡ refused r tb' k' → P)
    → (tb ≡ tb' → k ≡ k' → P) → P
worked-refused to P A B limit g r t tb' k' fs e go here = onward-refused P _ _ tb' _ k' r _ (sym (worked_cons to A B limit g t fs) ∙ e) go here

-- label k is that of a held place
pub record HeldLabel (N : ℕ) (L : Plan) (k : ℕ) : Type 0 where
  pub inside : Inside N (place N k).0 (place N k).1
  pub holds : held N L (place N k).0 (place N k).1 ≡ true

held-label : {N : ℕ} {L : Plan} (i j k : ℕ) → Inside N i j → held N L i j ≡ true → label N i j ≡ k → HeldLabel N L k
held-label {N} {L} i j k inside h e =
    let there : place N k ≡ (i, j) = ap (place N) (sym e) ∙ place_of_label N i j inside in
    record { inside = rw there inside; holds = rw there h }

module _ {N : ℕ} {L : Plan} {A B : List Float} {limit : Float} (given : Given N L A B limit) where
  reads : Reads A B limit
  reads = record { a = reads-good A given.values_a given.finite_a; b = reads-good B given.values_b given.finite_b; limited = given.limited }

  place-sound : {n : ℕ} {t : Tables} (i j : ℕ) → Inside N i j → suc n ≡ label N i j → Sound N L n t
      → (v : Float) → value A B limit t (dense_of N L i j) ≡ number v → Sound N L (suc n) (closed t C (label N i j) v)
  place-sound i j inside turn s v e = sound-c s i j inside turn (place_entered reads s i j inside (sym turn) v e)

  -- dense Crout's tables stay sound to the end
  pub sound-end : {n y x g' : ℕ} {ds rs : List Formula} {t t' : Tables} (g : ℕ)
      → Beside N L n y x ds rs → Sound N L n t → worked A B limit g t ds ≡ solved t' g' → Sound N L (N * N) t'
  sound-end {t = t} {t'} g done s e = let same : t ≡ t' = cc (worked_nil A B limit g t) in subst (Sound N L (N * N)) same s
  sound-end {g' = g'} {t = t} {t'} g (on_both i j inside turn h rest) s e =
      worked-solved (place_targets N L (label N) _ i j) _ A B limit g g' t t' _ e (λ v q r. sound-end _ rest (place-sound i j inside turn s v q) r)
  sound-end {g' = g'} {t = t} {t'} g (left_out i j inside turn h rest) s e =
      worked-solved (place_targets N L (label N) _ i j) _ A B limit g g' t t' _ e (λ v q r. sound-end _ rest (place-sound i j inside turn s v q) r)
  sound-end {g' = g'} {t = t} {t'} g (into_y h p rest) s e =
      worked-solved (forward_targets N L (label N) _ _) _ A B limit g g' t t' _ e (λ v q r. sound-end _ rest (sound-y s (number-good reads s _ q) _) r)
  sound-end {g' = g'} {t = t} {t'} g (into_x i l p rest) s e =
      worked-solved (backward_targets N L (label N) _ i) _ A B limit g g' t t' _ e (λ v q r. sound-end _ rest (sound-x s (number-good reads s _ q) _) r)

  -- both sides have the same first answer and go on alike
  both : {d r : Formula} {tb : Table} {k k' : ℕ} → Targets d tb k → Targets r tb k' → (g : ℕ) (t u : Tables) (ds rs : List Formula)
      → value A B limit u r ≡ value A B limit t d → vanished_by u r ≡ vanished_by t d
      → ((n : ℕ) → refused n tb k' ≡ squeezed N L (refused n tb k))
      → ((v : Float) → value A B limit t d ≡ number v
      → worked A B limit (g + vanished_by t d) (closed u tb k' v) rs ≡ squeezed N L (worked A B limit (g + vanished_by t d) (closed t tb k v) ds))
      → worked A B limit g u (r ∷ rs) ≡ squeezed N L (worked A B limit g t (d ∷ ds))
  both {tb = tb} {k} {k'} to to' g t u ds rs e w ends go =
      worked_cons to' A B limit g u rs
      ∙ ap₂ (λ a n. onward a tb k' (λ v. worked A B limit (g + n) (closed u tb k' v) rs)) e w
      ∙ onward-same N L _ tb k k' _ _ ends go
      ∙ ap (squeezed N L) (sym (worked_cons to A B limit g t ds))

  module _ (pivots : missing N L ≡ 0) where
    off-diagonal : (i j : ℕ) → Inside N i j → held N L i j ≡ false → i ≡ j → ⊥
    off-diagonal i j inside h p =
        let pivot : held N L i j ≡ true = rw (← p) (pivot-held N L pivots i inside.row_low inside.row-high) in
        let z : ◌≡◌ {A = ℕ} 0 1 = cc in
        omega arith

    -- a place that isn't held gets +0
    unheld_nought : {n : ℕ} {t : Tables} → Sound N L n t → (i j : ℕ) → Inside N i j → suc n ≡ label N i j → held N L i j ≡ false
        → value A B limit t (dense_of N L i j) ≡ number plus_zero
    unheld_nought s i j inside turn h = unheld_value reads s i j inside (sym turn) h ∙ rw (ne_eqb i j (off-diagonal i j inside h))

    -- from any point on, the reduced formulas end as dense Crout does
    pub reduction : {n y x : ℕ} {ds rs : List Formula} {t : Tables} (g : ℕ) → Beside N L n y x ds rs → Sound N L n t
        → worked A B limit g (shrunk N L t) rs ≡ squeezed N L (worked A B limit g t ds)
    unfolding squeezed
    reduction {t = t} g done s = rw (worked_nil A B limit g t, worked_nil A B limit g (shrunk N L t))
    reduction {t = t} g (on_both i j inside turn h rest) s =
        both (place_targets N L (label N) _ i j) (place_targets N L (slot N L) _ i j) g t (shrunk N L t) _ _
        (place_same reads s (pivot-held N L pivots) i j inside) (place-vanished s i j inside)
        (λ r. rw (place_of_label N i j inside))
        (λ v q. rw (← shrunk_held N L i j inside t v (ap suc s.count ∙ turn) h) (reduction _ rest (place-sound i j inside turn s v q)))
    reduction {t = t} g (left_out i j inside turn h rest) s =
        let e = unheld_nought s i j inside turn h in
        rw (
          worked_cons (place_targets N L (label N) _ i j) A B limit g t _,
          e,
          unheld_vanished s i j inside h,
          add-zero,
          ← shrunk_unheld N L i j inside t plus_zero (ap suc s.count ∙ turn) h,
        )
        (reduction _ rest (place-sound i j inside turn s plus_zero e))
    reduction {t = t} g (into_y h p rest) s =
        both (forward_targets N L (label N) _ _) (forward_targets N L (slot N L) _ _) g t (shrunk N L t) _ _
        (forward-same reads s (pivot-held N L pivots) _ (omega arith) h) (forward-vanished s _ (omega arith) h)
        (λ r. refl)
        (λ v q. rw (← shrunk_y N L t _ v) (reduction _ rest (sound-y s (number-good reads s _ q) _)))
    reduction {t = t} g (into_x i l p rest) s =
        both (backward_targets N L (label N) _ i) (backward_targets N L (slot N L) _ i) g t (shrunk N L t) _ _
        (backward-same reads s (pivot-held N L pivots) i l (omega arith)) (backward-vanished s i l (omega arith))
        (λ r. refl)
        (λ v q. rw (← shrunk_x N L t _ v) (reduction _ rest (sound-x s (number-good reads s _ q) _)))

    -- dense Crout refuses in C at held places alone
    refused-held : {n y x r k : ℕ} {ds rs : List Formula} {t : Tables} (g : ℕ) → Beside N L n y x ds rs → Sound N L n t
        → worked A B limit g t ds ≡ refused r C k → HeldLabel N L k
    refused-held {t = t} g done s e = let z : ◌≡◌ {A = ℕ} 0 1 = cc (worked_nil A B limit g t) in absurd (omega arith)
    refused-held {r = r} {k} {t = t} g (on_both i j inside turn h rest) s e =
        worked-refused (place_targets N L (label N) _ i j) _ A B limit g r t C k _ e
        (λ v q f. refused-held _ rest (place-sound i j inside turn s v q) f) (λ p q. held-label i j k inside h q)
    refused-held {t = t} g (left_out {ds = ds} i j inside turn h rest) s e =
        let q = unheld_nought s i j inside turn h in
        let on = ap (λ a. onward a C (label N i j) (λ v. worked A B limit (g + vanished_by t (dense_of N L i j)) (closed t C (label N i j) v) ds)) q in
        refused-held _ rest (place-sound i j inside turn s plus_zero q) (sym on ∙ sym (worked_cons (place_targets N L (label N) _ i j) A B limit g t ds) ∙ e)
    refused-held {r = r} {k} {t = t} g (into_y h p rest) s e =
        worked-refused (forward_targets N L (label N) _ _) _ A B limit g r t C k _ e
        (λ v q f. refused-held _ rest (sound-y s (number-good reads s _ q) _) f) (λ p q. let z : ◌≡◌ {A = ℕ} 0 1 = cc in absurd (omega arith))
    refused-held {r = r} {k} {t = t} g (into_x i l p rest) s e =
        worked-refused (backward_targets N L (label N) _ i) _ A B limit g r t C k _ e
        (λ v q f. refused-held _ rest (sound-x s (number-good reads s _ q) _) f) (λ p q. let z : ◌≡◌ {A = ℕ} 0 1 = cc in absurd (omega arith))

-- The headlines: the reduced formulas end as dense Crout does;
pub reduced_is_dense : {N : ℕ} {L : Plan} {A B : List Float} {limit : Float} → Accepted N L A B limit
    → worked A B limit 0 (nothing N) (reduced_formulas N L) ≡ squeezed N L (dense N L A B limit)
unfolding dense shrunk picked
reduced_is_dense {N} {L} accepted = reduction accepted.given accepted.pivots 0 (beside N L) (sound-nothing N L)

-- it refuses in C at held places alone;
pub refusal-held : {N : ℕ} {L : Plan} {A B : List Float} {limit : Float} → Accepted N L A B limit → (r k : ℕ) → dense N L A B limit ≡ refused r C k
    → HeldLabel N L k
unfolding dense
refusal-held {N} {L} accepted r k e = refused-held accepted.given accepted.pivots 0 (beside N L) (sound-nothing N L) e

module _ {N : ℕ} {L : Plan} {A B : List Float} {limit : Float} (given : Given N L A B limit) where
  pub solved-sound : (t : Tables) (g : ℕ) → dense N L A B limit ≡ solved t g → Sound N L (N * N) t
  unfolding dense
  solved-sound t g e = sound-end given 0 (beside N L) (sound-nothing N L) e

  -- where it ends solved, the tables squeezed are those compressed;
  pub solved-packed : (t : Tables) (g : ℕ) → dense N L A B limit ≡ solved t g → shrunk N L t ≡ packed N L t
  solved-packed t g e = shrunk_packed N L t (solved-sound t g e).count

-- and where a pivot is missing, it never ends solved.
pub never_solved : (N : ℕ) (L : Plan) (A B : List Float) (limit : Float) → NeverSolved N L A B limit
unfolding is_zero
never_solved N L A B limit given gap t g e =
    let s = solved-sound given t g e in
    let m = missing-free N L gap in
    let inside : Inside N (missing N L) (missing N L) = omega arith in
    true≢false (rw (s.unheld _ _ inside m.free) at (s.pivot _ m.low m.high (label-range N _ _ inside).1))
