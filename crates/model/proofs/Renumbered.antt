-- A renumbered plan is a plan, of as many labels: document 02, A.12.
use Prim.Native.Nat.{ℕ, suc, ◌-◌, ◌*◌, ◌≤◌, ◌<◌}
use native.Mathlib.Omega.{arith}
use mathlib.Core.Path.{◌≡◌, refl, sym, ap, ap₂, ◌∙◌}
use mathlib.Core.Bool.{Bool, true, false, cond}
use mathlib.Core.List.{map, map-map}
use borrow.Author.Tests.{ltb-true, eqb-true, eqb-false}
use lib.Dec.{ltb, eqb}
use lib.ListN.{length, length-set, get_or, set}
use lib.Seq.{get_or-set_same, get_or-set_other}
use Rattle.model.specs.Lists.{rising, kept, total}
use Rattle.model.specs.Label.{Place, label, place, places}
use Rattle.model.specs.Fill.{Plan, in_plan, position, held, held_places, slots}
use Rattle.model.specs.Compile.{judged, good}
use Rattle.model.specs.Path.{named}
use Rattle.model.specs.Numbering.{Numbering, given_at, given_numbering, renumbered, exchanged, IsNumbering, RenumberedPlan, GivenPlan, NoNumberingFewer}
use Rattle.model.proofs.Lists.{map-rising, rising-each}
use Rattle.model.proofs.Search.{kept_same}
use Rattle.model.proofs.Sums.{total-same, total_grows, rising-same, length-kept, length-kept-rising}
use Rattle.model.proofs.Within.{range-within}
use Rattle.model.proofs.Labels.{Inside, labels_in_order, places-inside, place_of_label, place-range, label_of_place, label-range}
use Rattle.model.proofs.Fill.{held_in_plan}
use Rattle.model.proofs.Counts.{places_by_rows}
use Rattle.model.proofs.Named.{row, position-named, labels-past, kept-judged, kept_names, kept-named}
use Rattle.model.proofs.Permutation.{given-range, permuted, given_itself, exchange_keeps}
use Rattle.model.proofs.Exchange.{other, other-range}

pub planned-named : (N : ℕ) (L : Plan) (i j : ℕ) → Inside N i j → in_plan N L i j ≡ named (label N i j) L
unfolding in_plan position
planned-named N L i j s =
    rw (range-within i N s.row_low s.row-high, range-within j N s.column-low s.column-high) (position-named 0 L (label N i j))

-- the place that (i, j) was
pub given_inside : (N : ℕ) (p : Numbering) → IsNumbering N p → (i j : ℕ) → Inside N i j → Inside N (given_at p i) (given_at p j)
given_inside N p n i j s =
    let a = given-range N p n i s.row_low s.row-high in
    let b = given-range N p n j s.column-low s.column-high in
    record { row_low = a.0; row-high = a.1; column-low = b.0; column-high = b.1 }

-- whether label k is in the plan renumbered
abbrev test : ℕ → Plan → Numbering → ℕ → Bool
test N L p k = in_plan N L (given_at p (place N k).0) (given_at p (place N k).1)

-- it is where the place that it was is in the plan
pub renumbered-named : (N : ℕ) (L : Plan) (p : Numbering) → IsNumbering N p → (i j : ℕ) → Inside N i j
    → named (label N i j) (renumbered N L p) ≡ named (label N (given_at p i) (given_at p j)) L
unfolding renumbered
renumbered-named N L p n i j s =
    let r = label-range N i j s in
    kept_names (test N L p) 1 (N * N) (label N i j) r.0 (omega (arith, r.1))
    ∙ ap (λ q. in_plan N L (given_at p q.0) (given_at p q.1)) (place_of_label N i j s)
    ∙ planned-named N L (given_at p i) (given_at p j) (given_inside N p n i j s)

-- ---- the given numbering

pub given-plan : GivenPlan
unfolding renumbered
given-plan N L e =
    kept_same _ (λ k. named k L) (row 1 (N * N)) (rising-each _ (λ k. k) 1 (N * N) (λ k l h. same k l (omega arith)))
    ∙ kept-named N 0 1 1 (N * N) L e (λ x m. let past = labels-past N 0 1 L e x m in (past.0, omega (arith, past.1)))
  where
    same : (k : ℕ) → 1 ≤ k → k ≤ N * N → test N L (given_numbering N) k ≡ named k L
    same k l h =
        let s = place-range N k l h in
        rw (given_itself N (place N k).0 s.row_low s.row-high, given_itself N (place N k).1 s.column-low s.column-high)
        (planned-named N L (place N k).0 (place N k).1 s ∙ ap (λ x. named x L) (label_of_place N k l h))

-- ---- as many labels

-- 1 where a place is in the plan
abbrev one : ℕ → Plan → Place → ℕ
one N L q = cond (named (label N q.0 q.1) L) 1 0

kept-counted : (N : ℕ) (t : ℕ → Bool) → length (kept t (row 1 (N * N))) ≡ total (map (λ q. cond (t (label N q.0 q.1)) 1 0) (places N))
kept-counted N t =
    length-kept-rising t 1 (N * N)
    ∙ ap total
    (sym (map-rising (λ k. cond (t k) 1 0) (λ k. k) 1 (N * N)) ∙ ap (map (λ k. cond (t k) 1 0)) (sym (labels_in_order N)) ∙ map-map _ _ (places N))

labels-counted : (N : ℕ) (L : Plan) → judged N 0 1 L ≡ good → length L ≡ total (map (one N L) (places N))
labels-counted N L e =
    let whole = kept-named N 0 1 1 (N * N) L e (λ x m. let past = labels-past N 0 1 L e x m in (past.0, omega (arith, past.1))) in
    sym (ap length whole) ∙ kept-counted N (λ k. named k L)

-- the labels of the plan, counted by the places that they get
moved : (N : ℕ) (L : Plan) (p : Numbering) → judged N 0 1 L ≡ good → IsNumbering N p
    → length L ≡ total (map (λ q. one N L (given_at p q.0, given_at p q.1)) (places N))
moved N L p e n =
    labels-counted N L e ∙ places_by_rows N (one N L)
    ∙ sym (permuted N p n (λ i. total (rising (λ j. one N L (i, j)) 1 N)))
    ∙ rising-same _ _ 1 N (λ i low high. sym (permuted N p n (λ j. one N L (given_at p i, j))))
    ∙ sym (places_by_rows N (λ q. one N L (given_at p q.0, given_at p q.1)))

pub renumbered-plan : RenumberedPlan
unfolding renumbered
renumbered-plan N L p e n = (kept-judged N (test N L p) 1 (N * N) 0 1 (omega arith) (omega arith), counted)
  where
    counted : length (kept (test N L p) (row 1 (N * N))) ≡ length L
    counted =
        kept-counted N (test N L p)
        ∙ total-same _ _ (places N) (λ q m. let s = places-inside N q m in
        rw (place_of_label N q.0 q.1 s, planned-named N L (given_at p q.0) (given_at p q.1) (given_inside N p n q.0 q.1 s)))
        ∙ sym (moved N L p e n)

-- ---- and at least as many slots

labels-held : (N : ℕ) (L : Plan) → judged N 0 1 L ≡ good → length L ≤ slots N L
unfolding slots held_places position
labels-held N L e = rw (labels-counted N L e, length-kept) (total_grows _ _ (λ q. each q.0 q.1 (named (label N q.0 q.1) L) refl) (places N))
  where
    each : (i j : ℕ) (b : Bool) → named (label N i j) L ≡ b → cond b 1 0 ≤ cond (held N L i j) 1 0
    each i j true m = rw (held_in_plan N L i j (ltb-true 0 (position L (label N i j)) (position-named 0 L (label N i j) ∙ m))) (omega arith)
    each i j false m = omega arith

pub slots_enough : (N : ℕ) (L : Plan) (p : Numbering) → judged N 0 1 L ≡ good → IsNumbering N p → length L ≤ slots N (renumbered N L p)
slots_enough N L p labels n =
    let plan = renumbered-plan N L p labels n in
    omega (arith, plan.1, labels-held N (renumbered N L p) plan.0)

pub no_numbering_fewer : NoNumberingFewer
no_numbering_fewer N L trials p labels n = omega (arith, slots_enough N L p labels n)

-- ---- an exchange of rooms t and t + 1

pub exchanged-at : (p : Numbering) (t i : ℕ) → 1 ≤ t → t < length p → 1 ≤ i → given_at (exchanged p t) i ≡ given_at p (other t i)
unfolding exchanged
exchanged-at p t i low high from = step (eqb i t) refl (eqb i (suc t)) refl
  where
    first : Numbering
    first = set p (t - 1) (given_at p (suc t))

    second : ℕ → ℕ
    second k = get_or (set first t (given_at p t)) k 0

    step : (a : Bool) → eqb i t ≡ a → (b : Bool) → eqb i (suc t) ≡ b → second (i - 1) ≡ given_at p (cond a (suc t) (cond b t i))
    step true e b f =
        let here : i - 1 ≡ t - 1 = ap (λ k. k - 1) (eqb-true i t e) in
        ap second here ∙ get_or-set_other first t (t - 1) (given_at p t) 0 (λ z. omega arith) ∙ get_or-set_same p (t - 1) (given_at p (suc t)) 0 (omega arith)
    step false e true f =
        let here : i - 1 ≡ t = omega (arith, eqb-true i (suc t) f) in
        ap second here ∙ get_or-set_same first t (given_at p t) 0 (omega (arith, length-set p (t - 1) (given_at p (suc t))))
    step false e false f =
        get_or-set_other first t (i - 1) (given_at p t) 0 (λ z. eqb-false i (suc t) f (omega arith))
        ∙ get_or-set_other p (t - 1) (i - 1) (given_at p (suc t)) 0 (λ z. eqb-false i t e (omega arith))

-- the plan then has (i, j) where it had the exchanged place
pub exchanged-planned : (N : ℕ) (L : Plan) (p : Numbering) (d : ℕ) → IsNumbering N p → suc (suc d) ≤ N → (i j : ℕ) → Inside N i j
    → ltb 0 (position (renumbered N L (exchanged p (suc d))) (label N i j)) ≡ ltb 0 (position (renumbered N L p) (label N (other (suc d) i) (other (suc d) j)))
unfolding position
exchanged-planned N L p d n h i j s =
    let q = exchanged p (suc d) in
    let a = other-range N (suc d) i (omega arith) h s.row_low s.row-high in
    let b = other-range N (suc d) j (omega arith) h s.column-low s.column-high in
    let moved : Inside N (other (suc d) i) (other (suc d) j) = record { row_low = a.0; row-high = a.1; column-low = b.0; column-high = b.1 } in
    let row = exchanged-at p (suc d) i (omega arith) (omega (arith, n.size)) s.row_low in
    let column = exchanged-at p (suc d) j (omega arith) (omega (arith, n.size)) s.column-low in
    position-named 0 (renumbered N L q) (label N i j)
    ∙ renumbered-named N L q (exchange_keeps N p d h n) i j s
    ∙ ap₂ (λ x y. named (label N x y) L) row column
    ∙ sym (renumbered-named N L p n (other (suc d) i) (other (suc d) j) moved)
    ∙ sym (position-named 0 (renumbered N L p) (label N (other (suc d) i) (other (suc d) j)))
