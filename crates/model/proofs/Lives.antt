-- How long the slots of a plan's places are used: those of l(m,h) up to the last u(m,j) with (h,j) held, or y(m) where there is none, those of a pivot up to
-- the end of its batch, and those of u up to the solution.
use Prim.Native.Nat.{ℕ, zero, suc, ◌-◌, ◌≤◌, ◌<◌}
use native.Mathlib.Omega.{arith}
use native.Mathlib.Decide.{dec_le}
use mathlib.Core.Path.{◌≡◌, refl, sym, ap, ◌∙◌}
use mathlib.Core.Bool.{Bool, true, false, cond, ◌&&◌, or-true, true≢false}
use mathlib.Core.List.Memᴰ
use mathlib.Core.List.{List, ◌∷◌, ◌++◌, map, Memᴰ}
use lib.Dec.{eqb, ltb}
use borrow.Author.Tests.{eq-eqb, ne_eqb, eqb-true, eqb-false, lt-ltb, le-ltb, ltb-true}
use Rattle.model.specs.Lists.{rising, falling, joined, kept}
use Rattle.model.specs.Fill.{Plan, held, slot}
use Rattle.model.specs.Formula.{Formula, C, Y, X}
use Rattle.model.specs.Crout.{inner, lower, forward, upper, backward, batch}
use Rattle.model.specs.Program.{records_of}
use Rattle.model.specs.Compact.{needed}
use Rattle.model.proofs.Lists.{Each, cons_each, rising-each, falling-each, append-each, map_each, kept_where, joined-each}
use Rattle.model.proofs.Lists.{rising_member, falling_member, joined_member, kept_member}
use Rattle.model.proofs.Labels.{Inside}
use Rattle.model.proofs.Fill.{not_held}
use Rattle.model.proofs.Slots.{slot-range, slot_injective}
use Rattle.model.proofs.Passing.{both}
use Rattle.model.proofs.Within.{both_true}
use Rattle.model.proofs.Uses.{read_by, used_by, read_none, read_some, needed-none, needed-some}

-- ---- the last number that passes

-- the largest of 1..n that passes t, 0 if none does
pub last_by : (ℕ → Bool) → ℕ → ℕ
last_by t zero = 0
last_by t (suc n) = cond (t (suc n)) (suc n) (last_by t n)

pub last_none : (t : ℕ → Bool) → last_by t 0 ≡ 0
unfolding last_by
last_none t = refl

pub last_next : (t : ℕ → Bool) (n : ℕ) → last_by t (suc n) ≡ cond (t (suc n)) (suc n) (last_by t n)
unfolding last_by
last_next t n = refl

-- it is one of them, and passes
pub last_passes : (t : ℕ → Bool) (n : ℕ) → 1 ≤ last_by t n → (t (last_by t n) ≡ true) × (last_by t n ≤ n)
unfolding last_by
last_passes t zero h = absurd (omega arith)
last_passes t (suc n) h = step (t (suc n)) refl (last_passes t n) h
  where
    step : (b : Bool) → t (suc n) ≡ b → (1 ≤ last_by t n → (t (last_by t n) ≡ true) × (last_by t n ≤ n))
        → 1 ≤ cond b (suc n) (last_by t n) → (t (cond b (suc n) (last_by t n)) ≡ true) × (cond b (suc n) (last_by t n) ≤ suc n)
    step true e rest h = (e, omega arith)
    step false e rest h = let r = rest h in (r.0, omega (arith, r.1))

-- and none above it does
pub last_above : (t : ℕ → Bool) (n k : ℕ) → t k ≡ true → 1 ≤ k → k ≤ n → k ≤ last_by t n
unfolding last_by
last_above t zero k e low high = absurd (omega arith)
last_above t (suc n) k e low high = step (t (suc n)) refl (last_above t n k e low)
  where
    step : (b : Bool) → t (suc n) ≡ b → (k ≤ n → k ≤ last_by t n) → k ≤ cond b (suc n) (last_by t n)
    step true f rest = high
    step false f rest = let other : k ≡ suc n → ⊥ = λ z. true≢false (sym e ∙ ap t z ∙ f) in rest (omega (arith, other))

-- ---- the formulas that are left

module _ (N : ℕ) (L : Plan) where
  abbrev pub lower_at : ℕ → ℕ → Formula
  lower_at i m = lower N L (slot N L) (held N L) i m

  abbrev pub upper_at : ℕ → ℕ → Formula
  upper_at m j = upper N L (slot N L) (held N L) m j

  abbrev pub forward_at : ℕ → Formula
  forward_at m = forward N L (slot N L) (held N L) m

  -- x(N)..x(1); the batches after batch m, and all that comes after it
  abbrev pub solution : List Formula
  solution = falling (backward N L (slot N L) (held N L)) N N

  abbrev pub batches_after : ℕ → List Formula
  batches_after m = joined (rising (batch N L (slot N L) (held N L)) (suc m) (N - m))

  abbrev pub after_batch : ℕ → List Formula
  after_batch m = batches_after m ++ solution

  -- the places of row m from column t on, with what comes after them, and those of column m from row t on, with y(m) and what comes after it
  abbrev pub row_places : ℕ → ℕ → List Formula
  row_places m t = map (upper_at m) (kept (held N L m) (rising (λ j. j) t (suc N - t)))

  abbrev pub row_from : ℕ → ℕ → List Formula
  row_from m t = row_places m t ++ after_batch m

  abbrev pub column_places : ℕ → ℕ → List Formula
  column_places m t = map (λ i. lower_at i m) (kept (λ i. held N L i m) (rising (λ i. i) t (suc N - t)))

  abbrev pub column_from : ℕ → ℕ → List Formula
  column_from m t = column_places m t ++ (forward_at m ∷ row_from m (suc m))

  -- the last held place of row h right of the diagonal, by its column
  abbrev pub last_right : ℕ → ℕ
  last_right h = last_by (λ j. ltb h j && held N L h j) N

  pub last_held : (h : ℕ) → 1 ≤ last_right h → (h < last_right h) × (held N L h (last_right h) ≡ true) × (last_right h ≤ N)
  last_held h some =
      let p = last_passes (λ j. ltb h j && held N L h j) N some in
      let t = both (ltb h (last_right h)) (held N L h (last_right h)) p.0 in
      (ltb-true h (last_right h) t.0, t.1, p.1)

  pub last-right : (h j : ℕ) → h < j → j ≤ N → held N L h j ≡ true → j ≤ last_right h
  last-right h j above high e = last_above (λ j. ltb h j && held N L h j) N j (both_true (lt-ltb h j above) e) (omega arith) high

  -- a place is held where its row and its column meet one below both
  held_fills : (i j h : ℕ) → 1 ≤ h → h < i → h < j → held N L i h ≡ true → held N L h j ≡ true → held N L i j ≡ true
  held_fills i j h low a b e f = step (held N L i j) refl
    where
      step : (c : Bool) → held N L i j ≡ c → c ≡ true
      step true g = refl
      step false g = absurd (true≢false (sym (both_true e f) ∙ (not_held N L i j g).1 h low a b))

  -- ---- which of them use the slot of place (m, h)

  module _ (m h : ℕ) (inside : Inside N m h) (there : held N L m h ≡ true) where
    abbrev here : ℕ
    here = slot N L m h

    pub low : 1 ≤ here
    low = (slot-range N L m h inside there).0

    -- another held place has another slot
    pub other : (a b : ℕ) → Inside N a b → held N L a b ≡ true → ((a ≡ m) × (b ≡ h) → ⊥) → eqb here (slot N L a b) ≡ false
    other a b k e differs = ne_eqb here (slot N L a b) (λ z. let s = slot_injective N L a b m h k inside e there (sym z) in differs s)

    none : eqb here 0 ≡ false
    none = ne_eqb here 0 (λ z. omega (arith, low))

    -- the products of place (i, j) up to k read other places
    inner_unread : (i j k : ℕ) → i ≤ N → j ≤ N → k ≤ i → k ≤ j
        → ((q : ℕ) → q < k → held N L q j ≡ true → ((i ≡ m) × (q ≡ h) → ⊥) × ((q ≡ m) × (j ≡ h) → ⊥))
        → read_by C here (inner N L (slot N L) (held N L) i j k) ≡ false
    unfolding inner
    inner_unread i j k hi hj ki kj differs = read_none C here _ (map_each _ _ _ (kept_where _ _ _ (rising-each _ _ 1 (k - 1) λ q a b p.
        let e = both (held N L i q) (held N L q j) p in
        let d = differs q (omega arith) e.1 in
        (other i q (omega arith) e.0 d.0, other q j (omega arith) e.1 d.1))))

    lower_unused : (i k : ℕ) → m < k → h < k → k ≤ i → i ≤ N → held N L i k ≡ true → used_by here (lower_at i k) ≡ false
    unfolding used_by lower
    lower_unused i k mk hk ki high e =
        rw (inner_unread i k k high (omega arith) ki (omega arith) (λ q a f. (omega arith, omega arith)), none, other i k (omega arith) e (omega arith))

    forward_unused : (k : ℕ) → m < k → k ≤ N → held N L k k ≡ true → used_by here (forward_at k) ≡ false
    unfolding used_by forward
    forward_unused k mk high e =
        let reads : read_by Y here (forward_at k).products ≡ false = read_none Y here _ (map_each _ _ _ (kept_where _ _ _ (rising-each _ _ 1 (k - 1) λ q a b p.
        (other k q (omega arith) p (omega arith), none)))) in
        rw (reads, other k k (omega arith) e (omega arith), none)

    upper_unused : (k j : ℕ) → (k ≡ m → h < m × (held N L h j ≡ false)) → m ≤ k → h < j → k < j → j ≤ N → held N L k k ≡ true → held N L k j ≡ true
        → used_by here (upper_at k j) ≡ false
    unfolding used_by upper
    upper_unused k j last mk hj kj high p e =
        rw (
          inner_unread k j k (omega arith) high (omega arith) (omega arith) (λ q a f.
              (λ z. let l = last z.0 in absurd (true≢false (sym f ∙ ap (λ x. held N L x j) z.1 ∙ l.1)), omega arith)),
          other k k (omega arith) p (λ z. let l = last z.0 in omega (arith, l.0, z)),
          other k j (omega arith) e (omega arith),
        )

    backward_unused : (i : ℕ) → h ≤ m → 1 ≤ i → i ≤ N → used_by here (backward N L (slot N L) (held N L) i) ≡ false
    unfolding used_by backward
    backward_unused i hm low high =
        let reads : read_by X here (backward N L (slot N L) (held N L) i).products ≡ false =
        read_none X here _ (map_each _ _ _ (kept_where _ _ _ (falling-each _ _ N (N - i) λ q a b p. (other i q (omega arith) p (omega arith), none)))) in
        rw (reads, none)

  module _ (pivots : (m : ℕ) → 1 ≤ m → m ≤ N → held N L m m ≡ true) where
    -- once its batch is done the slot of l(m,h), or of the pivot, is used no more
    module _ (m h : ℕ) (inside : Inside N m h) (there : held N L m h ≡ true) (left : h ≤ m) where
      batch_unused : (k : ℕ) → m < k → k ≤ N → Each (λ f. used_by (slot N L m h) f ≡ false) (batch N L (slot N L) (held N L) k)
      unfolding batch
      batch_unused k mk high =
          append-each _ _ _
          (map_each _ _ _ (kept_where _ _ _ (rising-each _ _ k (suc N - k) λ i a b e. lower_unused m h inside there i k mk (omega arith) a (omega arith) e)))
          (cons_each _ (forward_unused m h inside there k mk high (pivots k (omega arith) high))
          (map_each _ _ _ (kept_where _ _ _ (rising-each _ _ (suc k) (N - k) λ j a b e.
          upper_unused m h inside there k j (λ z. absurd (omega arith)) (omega arith) (omega arith) a (omega arith) (pivots k (omega arith) high) e))))

      after_unused : Each (λ f. used_by (slot N L m h) f ≡ false) (after_batch m)
      after_unused =
          append-each _ _ _
          (joined-each _ _ (rising-each _ _ (suc m) (N - m) λ k a b. batch_unused k a (omega arith)))
          (falling-each _ _ N N λ i a b. backward_unused m h inside there i left (omega arith) a)

      -- Within it, once y(m) and the places of row m up to column t are done, it is used if a later place of row h is held.
      row_unused : (t : ℕ) → m ≤ t → last_right h ≤ t → Each (λ f. used_by (slot N L m h) f ≡ false) (row_from m (suc t))
      row_unused t mt done = append-each _ _ _
          (map_each _ _ _ (kept_where _ _ _ (rising-each _ _ (suc t) (suc N - suc t) λ j a b e.
          upper_unused m h inside there m j (λ z. ended j a (omega arith) e) (omega arith) (omega arith) (omega arith) (omega arith)
          (pivots m (omega arith) (omega arith)) e)))
          after_unused
        where
          -- no place of row h is held right of column t
          past : (j : ℕ) → t < j → j ≤ N → held N L h j ≡ true → ⊥
          past j a b e = omega (arith, last-right h j (omega arith) b e)

          unheld : (j : ℕ) → t < j → j ≤ N → held N L h j ≡ false
          unheld j a b = step (held N L h j) refl
            where
              step : (c : Bool) → held N L h j ≡ c → c ≡ false
              step true e = absurd (past j a b e)
              step false e = refl

          ended : (j : ℕ) → t < j → j ≤ N → held N L m j ≡ true → (h < m) × (held N L h j ≡ false)
          ended j a b e = let below : h ≡ m → ⊥ = λ z. past j a b (rw z e) in (omega arith, unheld j a b)

      -- the last held place of row h meets row m, and its formula uses the slot: as that of a factor, or of the divisor
      row_meets : (b : Bool) → eqb h m ≡ b → 1 ≤ last_right h → held N L m (last_right h) ≡ true
      row_meets true e some = rw (← eqb-true h m e) (last_held h some).1
      row_meets false e some =
          let last = last_held h some in
          held_fills m (last_right h) h inside.column-low (omega (arith, eqb-false h m e)) last.0 there last.1

      row_uses : (b : Bool) → eqb h m ≡ b → 1 ≤ last_right h → used_by (slot N L m h) (upper_at m (last_right h)) ≡ true
      unfolding used_by upper inner
      row_uses true e some =
          rw (eqb-true h m e, eq-eqb (slot N L m m) (slot N L m m) refl) (or-true (read_by C (slot N L m m) (upper_at m (last_right m)).products))
      row_uses false e some =
          let factor = rising_member (λ q. q) 1 (m - 1) h inside.column-low (omega (arith, eqb-false h m e)) in
          let pair = kept_member (λ q. held N L m q && held N L q (last_right h)) (both_true there (last_held h some).1) factor in
          let reads = read_some C (slot N L m h) (Memᴰ.map (λ q. (slot N L m q, slot N L q (last_right h))) pair) (eq-eqb (slot N L m h) (slot N L m h) refl) in
          rw reads

      pub row_needs : (t : ℕ) → m ≤ t → needed 0 (slot N L m h) (joined (map records_of (row_from m (suc t)))) ≡ ltb t (last_right h)
      row_needs t mt = elim (dec_le (last_right h) t) [
        | yes done ↦ needed-none (slot N L m h) (low m h inside there) _ (row_unused t mt done) ∙ sym (le-ltb t (last_right h) done)
        | no more ↦ used (omega arith) ∙ sym (lt-ltb t (last_right h) (omega arith))
      ]
        where
          used : t < last_right h → needed 0 (slot N L m h) (joined (map records_of (row_from m (suc t)))) ≡ true
          used more =
              let some : 1 ≤ last_right h = omega arith in
              let column = rising_member (λ j. j) (suc t) (suc N - suc t) (last_right h) more (omega (arith, last_held h some)) in
              needed-some (slot N L m h) (low m h inside there)
              (Memᴰ.append_left _ (Memᴰ.map (upper_at m) (kept_member (held N L m) (row_meets (eqb h m) refl some) column)))
              (row_uses (eqb h m) refl some)

    -- the slot of u(h,j) is used by x(h), at the end
    upper-needed : (h j : ℕ) → Inside N h j → held N L h j ≡ true → h < j → (fs : List Formula)
        → ((f : Formula) → Memᴰ f solution → Memᴰ f fs) → needed 0 (slot N L h j) (joined (map records_of fs)) ≡ true
    unfolding used_by backward
    upper-needed h j inside there right fs last =
        let factor = falling_member (λ q. q) N (N - h) j inside.column-high (omega arith) in
        let pair = kept_member (held N L h) there factor in
        let reads = read_some X (slot N L h j) (Memᴰ.map (λ q. (slot N L h q, q)) pair) (eq-eqb (slot N L h j) (slot N L h j) refl) in
        needed-some (slot N L h j) (slot-range N L h j inside there).0
        (last _ (falling_member (backward N L (slot N L) (held N L)) N N h inside.row-high (omega (arith, inside)))) (rw reads)

    -- what is left has the solution at its end
    after-ends : (m : ℕ) (f : Formula) → Memᴰ f solution → Memᴰ f (after_batch m)
    after-ends m f k = Memᴰ.append_right (batches_after m) k

    row_ends : (m t : ℕ) (f : Formula) → Memᴰ f solution → Memᴰ f (row_from m t)
    row_ends m t f k = Memᴰ.append_right (row_places m t) (after-ends m f k)

    column-ends : (m t : ℕ) (f : Formula) → Memᴰ f solution → Memᴰ f (column_from m t)
    column-ends m t f k = Memᴰ.append_right (column_places m t) (Memᴰ.tail (row_ends m (suc m) f k))

    pub row_needs_upper : (m t h j : ℕ) → Inside N h j → held N L h j ≡ true → h < j
        → needed 0 (slot N L h j) (joined (map records_of (row_from m t))) ≡ true
    row_needs_upper m t h j inside there right = upper-needed h j inside there right (row_from m t) (row_ends m t)

    pub column_needs_upper : (m t h j : ℕ) → Inside N h j → held N L h j ≡ true → h < j
        → needed 0 (slot N L h j) (joined (map records_of (column_from m t))) ≡ true
    column_needs_upper m t h j inside there right = upper-needed h j inside there right (column_from m t) (column-ends m t)

    -- the slot of l(i,h), or of a pivot, is used by y(i), in the same batch or in a later one
    forward_uses : (i h : ℕ) → Inside N i h → held N L i h ≡ true → h ≤ i → (b : Bool) → eqb h i ≡ b → used_by (slot N L i h) (forward_at i) ≡ true
    unfolding used_by forward
    forward_uses i h inside there left true e =
        rw (eqb-true h i e, eq-eqb (slot N L i i) (slot N L i i) refl) (or-true (read_by Y (slot N L i i) (forward_at i).products))
    forward_uses i h inside there left false e =
        let factor = rising_member (λ q. q) 1 (i - 1) h inside.column-low (omega (arith, eqb-false h i e)) in
        let pair = kept_member (held N L i) there factor in
        let reads = read_some Y (slot N L i h) (Memᴰ.map (λ q. (slot N L i q, q)) pair) (eq-eqb (slot N L i h) (slot N L i h) refl) in
        rw reads

    forward-left : (m t i : ℕ) → m ≤ i → i ≤ N → (b : Bool) → eqb m i ≡ b → Memᴰ (forward_at i) (column_from m t)
    unfolding batch
    forward-left m t i low high true e = Memᴰ.append_right (column_places m t) (Memᴰ.head (ap forward_at (sym (eqb-true m i e))))
    forward-left m t i low high false e =
        let later = rising_member (batch N L (slot N L) (held N L)) (suc m) (N - m) i (omega (arith, eqb-false m i e)) (omega arith) in
        let in-batch = joined_member later (Memᴰ.append_right (column_places i i) (Memᴰ.head refl)) in
        Memᴰ.append_right (column_places m t) (Memᴰ.tail (Memᴰ.append_right (row_places m (suc m)) (Memᴰ.append_left solution in-batch)))

    pub column_needs_lower : (m t i h : ℕ) → Inside N i h → held N L i h ≡ true → h ≤ i → m ≤ i
        → needed 0 (slot N L i h) (joined (map records_of (column_from m t))) ≡ true
    column_needs_lower m t i h inside there left late =
        needed-some (slot N L i h) (slot-range N L i h inside there).0 (forward-left m t i late inside.row-high (eqb m i) refl)
        (forward_uses i h inside there left (eqb h i) refl)
