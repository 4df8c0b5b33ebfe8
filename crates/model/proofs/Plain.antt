-- Plain records: each in its place, reading what is closed, and opening the slots 1, 2, .., s in this order, each once. A compiled program's are.
use Prim.Native.Nat.{ℕ, suc, ◌+◌, ◌-◌, ◌*◌, ◌≤◌, ◌<◌}
use native.Mathlib.Omega.{arith}
use mathlib.Core.Path.{◌≡◌, refl}
use mathlib.Core.Bool.{Bool, true, false, cond, ◌&&◌, and-eq-true_iff}
use mathlib.Core.List.Memᴰ
use mathlib.Core.List.{List, [], ◌∷◌, ◌++◌, map, append_assoc}
use lib.Dec.{eqb, leb, ltb}
use lib.ListN.{length}
use borrow.Author.Tests.{leb-true, leb-false, le-leb, lt-ltb, eq-eqb}
use Rattle.model.specs.Lists.{joined, kept}
use Rattle.model.specs.Label.{label, within}
use Rattle.model.specs.Fill.{Plan, position, held, slot, slots}
use Rattle.model.specs.Formula.{Formula, Table, C, Y, X, number_of}
use Rattle.model.specs.Crout.{inner, lower, forward, upper, backward}
use Rattle.model.specs.Program.{Record, rec, opening, records_of, compiled_records}
use Rattle.model.proofs.Lists.{Each, rising-each, falling-each, map_each, kept_where}
use Rattle.model.proofs.Labels.{Inside, label-range, label_in_column, label_in_row, label_earlier}
use Rattle.model.proofs.Slots.{closed_slots, closed_all, closed-next, slot-range, slot-closed, slot_new}
use Rattle.model.proofs.Within.{range-within}
use Rattle.model.proofs.Plans.{position-at_most}
use Rattle.model.proofs.Beside.{beside, Beside, done, left_out, into_y, into_x, on_both, reduced_of, formula_of}

-- between two formulas, or within one for a table
pub data Phase : Type 0 where
  between : Phase
  on : Table → Phase

-- a closed entry of C
abbrev pub Closed : ℕ → ℕ → Type 0
Closed c p = (1 ≤ p) × (p ≤ c)

-- Plain ph c y x rs: with c, y and x entries closed, rs is left of plain records. N, n and s are record 0's.
pub data Plain (N n s : ℕ) : Phase → ℕ → ℕ → ℕ → List Record → Type 0 where
  ends : Plain N n s between s N N []
  opens-c : {c y x : ℕ} {rs : List Record} (a : ℕ) → leb a n ≡ true → suc c ≤ s → Plain N n s (on C) c y x rs
      → Plain N n s between c y x (rec 1 a (suc c) ∷ rs)
  opens-y : {c y x : ℕ} {rs : List Record} (p : ℕ) → (eqb p (suc y) && leb p N) ≡ true → Plain N n s (on Y) c y x rs
      → Plain N n s between c y x (rec 2 p 0 ∷ rs)
  opens-x : {c y x : ℕ} {rs : List Record} (p : ℕ) → (ltb 0 p && eqb (p + x) N && leb p y) ≡ true → Plain N n s (on X) c y x rs
      → Plain N n s between c y x (rec 3 p 0 ∷ rs)
  subtracts-c : {c y x : ℕ} {rs : List Record} (p q : ℕ) → Closed c p → Closed c q → Plain N n s (on C) c y x rs
      → Plain N n s (on C) c y x (rec 4 p q ∷ rs)
  subtracts-y : {c y x : ℕ} {rs : List Record} (p q : ℕ) → Closed c p → within q y ≡ true → Plain N n s (on Y) c y x rs
      → Plain N n s (on Y) c y x (rec 5 p q ∷ rs)
  subtracts-x : {c y x : ℕ} {rs : List Record} (p q : ℕ) → Closed c p → (ltb (N - x) q && leb q N) ≡ true → Plain N n s (on X) c y x rs
      → Plain N n s (on X) c y x (rec 6 p q ∷ rs)
  divides : {t : Table} {c y x : ℕ} {rs : List Record} (p : ℕ) → Closed c p → Plain N n s (on t) c y x rs → Plain N n s (on t) c y x (rec 7 p 0 ∷ rs)
  closes-c : {c y x : ℕ} {rs : List Record} → Plain N n s between (suc c) y x rs → Plain N n s (on C) c y x (rec 8 0 0 ∷ rs)
  closes-pivot : {c y x : ℕ} {rs : List Record} → Plain N n s between (suc c) y x rs → Plain N n s (on C) c y x (rec 9 0 0 ∷ rs)
  closes-y : {c y x : ℕ} {rs : List Record} → Plain N n s between c (suc y) x rs → Plain N n s (on Y) c y x (rec 8 0 0 ∷ rs)
  closes-x : {c y x : ℕ} {rs : List Record} → Plain N n s between c y (suc x) rs → Plain N n s (on X) c y x (rec 8 0 0 ∷ rs)

-- ---- the records of one formula

-- a product for table t may be read: its entry of C is closed, and so is its other factor
abbrev Reads : ℕ → Table → ℕ → ℕ → ℕ → ℕ × ℕ → Type 0
Reads N C c y x pq = Closed c pq.0 × Closed c pq.1
Reads N Y c y x pq = Closed c pq.0 × (within pq.1 y ≡ true)
Reads N X c y x pq = Closed c pq.0 × ((ltb (N - x) pq.1 && leb pq.1 N) ≡ true)

module _ (N n s : ℕ) where
  -- one product, and all of a formula's
  subtract_plain : (t : Table) {c y x : ℕ} (pq : ℕ × ℕ) (rs : List Record) → Reads N t c y x pq → Plain N n s (on t) c y x rs
      → Plain N n s (on t) c y x (rec (3 + number_of t) pq.0 pq.1 ∷ rs)
  subtract_plain C pq rs h rest = subtracts-c pq.0 pq.1 h.0 h.1 rest
  subtract_plain Y pq rs h rest = subtracts-y pq.0 pq.1 h.0 h.1 rest
  subtract_plain X pq rs h rest = subtracts-x pq.0 pq.1 h.0 h.1 rest

  products-plain : (t : Table) {c y x : ℕ} (ps : List (ℕ × ℕ)) (rs : List Record) → Each (Reads N t c y x) ps → Plain N n s (on t) c y x rs
      → Plain N n s (on t) c y x (map (λ pq. rec (3 + number_of t) pq.0 pq.1) ps ++ rs)
  products-plain t [] rs each rest = rest
  products-plain t (pq ∷ ps) rs each rest =
      subtract_plain t pq _ (each pq (Memᴰ.head refl)) (products-plain t ps rs (λ q m. each q (Memᴰ.tail m)) rest)

  -- the division, if there is one, and the closing of an entry of C
  divide_plain : (t : Table) {c y x : ℕ} (d : ℕ) (rs : List Record) → Closed c d → Plain N n s (on t) c y x rs
      → Plain N n s (on t) c y x (cond (eqb d 0) [] (rec 7 d 0 ∷ []) ++ rs)
  divide_plain t {c} {y} {x} d rs h rest = step (eqb d 0)
    where
      step : (b : Bool) → Plain N n s (on t) c y x (cond b [] (rec 7 d 0 ∷ []) ++ rs)
      step true = rest
      step false = divides d h rest

  close_plain : {c y x : ℕ} (b : Bool) (rs : List Record) → Plain N n s between (suc c) y x rs → Plain N n s (on C) c y x (rec (cond b 9 8) 0 0 ∷ rs)
  close_plain true rs rest = closes-pivot rest
  close_plain false rs rest = closes-c rest

-- ---- the formulas of a plan whose pivots are held

module _ (N : ℕ) (L : Plan) (pivots : (m : ℕ) → 1 ≤ m → m ≤ N → held N L m m ≡ true) where
  -- plain records are left, once n places are done
  abbrev Left : ℕ → ℕ → ℕ → List Record → Type 0
  Left n y x rs = Plain N (length L) (slots N L) between (closed_slots N L n) y x rs

  -- the formula of the place of label n + 1
  module _ (n y x i j : ℕ) (inside : Inside N i j) (now : suc n ≡ label N i j) (e : held N L i j ≡ true) where
    -- its products read what is closed
    inner-reads : (m : ℕ) → m ≤ i → m ≤ j → Each (Reads N C (closed_slots N L n) y x) (inner N L (slot N L) (held N L) i j m)
    unfolding inner
    inner-reads m a b = map_each _ _ _ (kept_where _ _ _ (rising-each _ _ 1 (m - 1) λ h low high p.
        let q = (and-eq-true_iff (held N L i h) (held N L h j)).0 p in
        let l = label_earlier N i h i j (omega arith) inside (omega arith) in
        let u = label_earlier N h j i j (omega arith) inside (omega arith) in
        (slot-closed N L i h n (omega arith) q.0 (omega arith), slot-closed N L h j n (omega arith) q.1 (omega arith))))

    -- its slot is the next, and its start stands in the plan
    next : slot N L i j ≡ suc (closed_slots N L n)
    next = slot_new N L n i j inside now e

    start : leb (position L (label N i j)) (length L) ≡ true
    start = le-leb (position L (label N i j)) (length L) (position-at_most L (label N i j))

    last : suc (closed_slots N L n) ≤ slots N L
    last = omega (arith, next, slot-range N L i j inside e)

    abbrev Next : List Record → Type 0
    Next rs = Plain N (length L) (slots N L) between (suc (closed_slots N L n)) y x rs

    -- the records of l, of u, and of whichever it is
    lower-plain : (rs : List Record) → j ≤ i → Next rs → Left n y x (records_of (lower N L (slot N L) (held N L) i j) ++ rs)
    unfolding lower records_of opening
    lower-plain rs h rest = simp append_assoc (rw next (opens-c (position L (label N i j)) start last
        (products-plain N (length L) (slots N L) C (inner N L (slot N L) (held N L) i j j) _ (inner-reads j h (omega arith))
        (close_plain N (length L) (slots N L) (eqb i j) rs rest))))

    upper-plain : (rs : List Record) → i < j → Next rs → Left n y x (records_of (upper N L (slot N L) (held N L) i j) ++ rs)
    unfolding upper records_of opening
    upper-plain rs h rest =
        let earlier = label_in_row N i j (omega arith) (omega arith) h in
        let pivot = slot-closed N L i i n (omega arith) (pivots i (omega arith) (omega arith)) (omega arith) in
        simp append_assoc (rw next (opens-c (position L (label N i j)) start last
        (products-plain N (length L) (slots N L) C (inner N L (slot N L) (held N L) i j i) _ (inner-reads i (omega arith) (omega arith))
        (divide_plain N (length L) (slots N L) C (slot N L i i) _ pivot (closes-c rest)))))

    place-plain : (rs : List Record) → Left (suc n) y x rs → Left n y x (records_of (reduced_of N L i j) ++ rs)
    unfolding formula_of
    place-plain rs rest = step (leb j i) refl (rw (closed-next N L n i j inside now, e) at rest)
      where
        step : (b : Bool) → leb j i ≡ b → Next rs
            → Left n y x (records_of (cond b (lower N L (slot N L) (held N L) i j) (upper N L (slot N L) (held N L) i j)) ++ rs)
        step true h = lower-plain rs (leb-true j i h)
        step false h = upper-plain rs (leb-false j i h)

  -- y(m), once column m is closed
  forward-reads : (n y x : ℕ) → suc y ≤ N → n ≡ label N N (suc y)
      → Each (Reads N Y (closed_slots N L n) y x) (forward N L (slot N L) (held N L) (suc y)).products
  unfolding forward
  forward-reads n y x high now = map_each _ _ _ (kept_where _ _ _ (rising-each _ _ 1 (suc y - 1) λ h low below e.
      let l = label_earlier N (suc y) h N (suc y) (omega arith) (omega arith) (omega arith) in
      (slot-closed N L (suc y) h n (omega arith) e (omega arith), range-within h y low (omega arith))))

  forward-plain : (n y x : ℕ) (rs : List Record) → suc y ≤ N → n ≡ label N N (suc y) → Left n (suc y) x rs
      → Left n y x (records_of (forward N L (slot N L) (held N L) (suc y)) ++ rs)
  unfolding records_of forward opening
  forward-plain n y x rs high now rest =
      let turn : (eqb (suc y) (suc y) && leb (suc y) N) ≡ true = rw (eq-eqb (suc y) (suc y) refl, le-leb) in
      let pivot = slot-closed N L (suc y) (suc y) n (omega arith) (pivots (suc y) (omega arith) high) (omega (arith, label_in_column N N (suc y) high)) in
      simp append_assoc (opens-y (suc y) turn (products-plain N (length L) (slots N L) Y _ _ (forward-reads n y x high now)
      (divide_plain N (length L) (slots N L) Y (slot N L (suc y) (suc y)) _ pivot (closes-y rest))))

  -- x(i), once C and Y are closed
  backward-reads : (x i : ℕ) → 1 ≤ i → x + i ≡ N → Each (Reads N X (closed_slots N L (N * N)) N x) (backward N L (slot N L) (held N L) i).products
  unfolding backward
  backward-reads x i low now = map_each _ _ _ (kept_where _ _ _ (falling-each _ _ N (N - i) λ h high above e.
      (slot-closed N L i h (N * N) (omega arith) e (label-range N i h (omega arith)).1, rw (lt-ltb (N - x) h (omega arith), le-leb))))

  backward-plain : (x i : ℕ) (rs : List Record) → 1 ≤ i → x + i ≡ N → Left (N * N) N (suc x) rs
      → Left (N * N) N x (records_of (backward N L (slot N L) (held N L) i) ++ rs)
  unfolding records_of backward opening
  backward-plain x i rs low now rest =
      let turn : (ltb 0 i && eqb (i + x) N && leb i N) ≡ true = rw (lt-ltb, eq-eqb (i + x) N (omega arith), le-leb i N (omega arith)) in
      simp append_assoc (opens-x i turn (products-plain N (length L) (slots N L) X _ _ (backward-reads x i low now) (closes-x rest)))

  -- all of them, along the formulas of dense Crout
  beside_plain : {n y x : ℕ} {ds rs : List Formula} → Beside N L n y x ds rs → Left n y x (joined (map records_of rs))
  unfolding joined
  beside_plain done = rw (closed_all N L) ends
  beside_plain (on_both {n} {y} {x} i j inside now e b) = place-plain n y x i j inside now e _ (beside_plain b)
  beside_plain (left_out {n} i j inside now e b) = rw (closed-next N L n i j inside now, e) at (beside_plain b)
  beside_plain (into_y {n} {y} {x} high now b) = forward-plain n y x _ high now (beside_plain b)
  beside_plain (into_x {x} i low now b) = backward-plain x i _ low now (beside_plain b)

  -- The headline: a compiled program's records are plain.
  pub records-plain : Plain N (length L) (slots N L) between 0 0 0 (compiled_records N L)
  unfolding compiled_records kept
  records-plain = beside_plain (beside N L)
