-- The slots that the second compiler gives to the places of a plan, place by place, and that there is room for the free ones.
use Prim.Native.Nat.{ℕ, zero, suc, ◌+◌, ◌-◌, ◌≤◌, ◌<◌}
use native.Mathlib.Omega.{arith}
use native.Mathlib.Decide.{dec_le}
use mathlib.Core.Path.{◌≡◌, refl, sym, ap, subst, ◌∙◌}
use mathlib.Core.Bool.{Bool, true, false, cond, true≢false}
use mathlib.Core.List.Memᴰ
use mathlib.Core.List.{List, [], ◌∷◌, ◌++◌, map, append_assoc, append-nil}
use lib.Dec.{ltb}
use lib.ListN.{length, length-append}
use borrow.Author.Tests.{lt-ltb, le-ltb}
use Rattle.model.specs.Lists.{rising, joined, kept}
use Rattle.model.specs.Label.{label}
use Rattle.model.specs.Fill.{Plan, held, slot}
use Rattle.model.specs.Formula.{Formula}
use Rattle.model.specs.Crout.{backward, batch, formulas, reduced_formulas}
use Rattle.model.specs.Program.{Record, rec, opening, records_of, compiled_records}
use Rattle.model.specs.Check.{kind_of}
use Rattle.model.specs.Compact.{Renaming, unnamed, renamed, after_record, openings, compacting, compact_slots, compact_records}
use Rattle.model.proofs.Lists.{Each, cons_each, append-each, map_each, joined-each, falling-each}
use Rattle.model.proofs.Labels.{Inside, label_in_column, label_in_row}
use Rattle.model.proofs.Passing.{both}
use Rattle.model.proofs.Slots.{closed_slots, closed_none, closed-next, slot-closed}
use Rattle.model.proofs.Reuse.{taken, others, made_with}
use Rattle.model.proofs.Renaming.{standing}
use Rattle.model.proofs.Lives.{last_right, lower_at, upper_at, forward_at, solution, after_batch, row_from, column_from, last_held, last-right}
use Rattle.model.proofs.Assign.{final, freed_row, Positive, longer, longer_positive, all, room_in, dies_at, row_freed, label-row}
use Rattle.model.proofs.Assign.{final_lower, final_forward, final_upper}

-- ---- the formulas that are left, one after another

module _ (N : ℕ) (L : Plan) where
  column-next : (m t : ℕ) → t ≤ N → column_from N L m t ≡ cond (held N L t m) (lower_at N L t m ∷ column_from N L m (suc t)) (column_from N L m (suc t))
  unfolding kept rising
  column-next m t high =
      let more : suc N - t ≡ suc (N - t) = omega arith in
      let rest : suc N - suc t ≡ N - t = omega arith in
      rw (more, rest) (step (held N L t m))
    where
      step : (b : Bool) → let ks = kept (λ i. held N L i m) (rising (λ i. i) (suc t) (N - t)) in let rs = forward_at N L m ∷ row_from N L m (suc m) in
          map (λ i. lower_at N L i m) (cond b (t ∷ ks) ks) ++ rs
          ≡ cond b (lower_at N L t m ∷ (map (λ i. lower_at N L i m) ks ++ rs)) (map (λ i. lower_at N L i m) ks ++ rs)
      step true = refl
      step false = refl

  row_next : (m t : ℕ) → t ≤ N → row_from N L m t ≡ cond (held N L m t) (upper_at N L m t ∷ row_from N L m (suc t)) (row_from N L m (suc t))
  unfolding kept rising
  row_next m t high =
      let more : suc N - t ≡ suc (N - t) = omega arith in
      let rest : suc N - suc t ≡ N - t = omega arith in
      rw (more, rest) (step (held N L m t))
    where
      step : (b : Bool) → let ks = kept (held N L m) (rising (λ j. j) (suc t) (N - t)) in
          map (upper_at N L m) (cond b (t ∷ ks) ks) ++ after_batch N L m
          ≡ cond b (upper_at N L m t ∷ (map (upper_at N L m) ks ++ after_batch N L m)) (map (upper_at N L m) ks ++ after_batch N L m)
      step true = refl
      step false = refl

  column-done : (m : ℕ) → column_from N L m (suc N) ≡ forward_at N L m ∷ row_from N L m (suc m)
  unfolding kept rising
  column-done m = let none : suc N - suc N ≡ 0 = omega arith in rw none

  row_done : (m : ℕ) → row_from N L m (suc N) ≡ after_batch N L m
  unfolding kept rising
  row_done m = let none : suc N - suc N ≡ 0 = omega arith in rw none

  batch-next : (m : ℕ) → m < N → after_batch N L m ≡ column_from N L (suc m) (suc m)
  unfolding joined rising batch
  batch-next m below =
      let more : N - m ≡ suc (N - suc m) = omega arith in
      let rest : suc N - suc (suc m) ≡ N - suc m = omega arith in
      rw (more, rest) (simp append_assoc)

  batches_done : after_batch N L N ≡ solution N L
  unfolding joined rising
  batches_done = let none : N - N ≡ 0 = omega arith in rw none

  all-formulas : reduced_formulas N L ≡ after_batch N L 0
  unfolding reduced_formulas formulas
  all-formulas = let all : N - 0 ≡ N = omega arith in rw all

-- ---- the slots given so far

-- the kinds of the solution's records
data Quiet : Record → Type 0 where
  starts : (p : ℕ) → Quiet (rec 3 p 0)
  takes : (p q : ℕ) → Quiet (rec 6 p q)
  closes : Quiet (rec 8 0 0)

-- they open no slot
final_quiet : (z : Renaming) (rs : List Record) → Each Quiet rs → final z rs ≡ (z.made, z.given)
unfolding renamed after_record kind_of kept
final_quiet z [] each = ap (λ l. (z.made, l)) (append-nil z.given)
final_quiet z (r ∷ rs) each = step (each r (Memᴰ.head refl)) (λ w. final_quiet w rs (λ s m. each s (Memᴰ.tail m)))
  where
    step : {r : Record} → Quiet r → ((w : Renaming) → final w rs ≡ (w.made, w.given)) → final z (r ∷ rs) ≡ (z.made, z.given)
    step (starts p) rest = rest (after_record z (rec 3 p 0) rs)
    step (takes p q) rest = rest (after_record z (rec 6 p q) rs)
    step closes rest = rest (after_record z (rec 8 0 0) rs)

backward_quiet : (N : ℕ) (L : Plan) (i : ℕ) → Each Quiet (records_of (backward N L (slot N L) (held N L) i))
unfolding records_of backward opening
backward_quiet N L i =
    let products = (backward N L (slot N L) (held N L) i).products in
    cons_each _ (starts i)
    (append-each _ _ _ (map_each _ _ products (λ pq m. takes pq.0 pq.1)) (cons_each _ closes (λ r m. absurd (Memᴰ.not-nil m))))

solution_final : (N : ℕ) (L : Plan) (given free : List ℕ) (made : ℕ) → final (standing 0 given free made) (all (solution N L)) ≡ (made, given)
solution_final N L given free made =
    final_quiet (standing 0 given free made) (all (solution N L)) (joined-each _ _ (map_each _ _ _ (falling-each _ _ N N λ i high low. backward_quiet N L i)))

-- what is left of the free slots, and what is added to them, are slots
others-some : (free : List ℕ) → Each (λ k. 1 ≤ k) free → Each (λ k. 1 ≤ k) (others free)
others-some [] each = each
others-some (k ∷ ks) each = λ j m. each j (Memᴰ.tail m)

freed-some : (room : ℕ → ℕ) (dies : ℕ → Bool) (a d : ℕ) (free : List ℕ) → ((h : ℕ) → a ≤ h → h < a + d → dies h ≡ true → 1 ≤ room h)
    → Each (λ k. 1 ≤ k) free → Each (λ k. 1 ≤ k) (freed_row room dies a d free)
unfolding freed_row
freed-some room dies a zero free rooms each = each
freed-some room dies a (suc d) free rooms each =
    freed-some room dies (suc a) d _ (λ h low high. rooms h (omega arith) (omega arith)) (step (dies a) (rooms a (omega arith) (omega arith)))
  where
    step : (b : Bool) → (b ≡ true → 1 ≤ room a) → Each (λ k. 1 ≤ k) (cond b (room a ∷ free) free)
    step true one = cons_each _ (one refl) each
    step false one = each

-- With the n first places done and the formulas fs left: the slots given to the held ones, in order, those that are free, the one freed last first, and how
-- many there are of all.
pub record Reached (N : ℕ) (L : Plan) (fs : List Formula) (n : ℕ) (given free : List ℕ) (made : ℕ) : Type 0 where
  pub leads : final unnamed (compiled_records N L) ≡ final (standing 0 given free made) (all fs)
  pub closed : length given ≡ closed_slots N L n
  pub positive : Positive given
  pub some : Each (λ k. 1 ≤ k) free
  pub few : made ≤ length given

-- In row m, once y(m) and the places up to column t are done, the free slots are those of a stack, and the pivot's once its last held place is done.
abbrev pub pending : ℕ → Plan → ℕ → ℕ → List ℕ → List ℕ → List ℕ
pending N L m t given stack = cond (ltb t (last_right N L m)) stack (room_in N L given m m ∷ stack)

-- column m is done up to row t - 1; row m up to column t; and batch m
pub record ColumnReached (N : ℕ) (L : Plan) (m t n : ℕ) (given free : List ℕ) (made : ℕ) : Type 0 where
  pub column : Reached N L (column_from N L m t) n given free made

pub record RowReached (N : ℕ) (L : Plan) (m t n : ℕ) (given stack : List ℕ) (made : ℕ) : Type 0 where
  pub row : Reached N L (row_from N L m (suc t)) n given (pending N L m t given stack) made

pub record BatchReached (N : ℕ) (L : Plan) (m n : ℕ) (given free : List ℕ) (made : ℕ) : Type 0 where
  pub batch : Reached N L (after_batch N L m) n given free made

module _ (N : ℕ) (L : Plan) (pivots : (m : ℕ) → 1 ≤ m → m ≤ N → held N L m m ≡ true) where
  pub reached-begins : BatchReached N L 0 0 [] [] 0
  unfolding compiled_records
  reached-begins = record {
    batch = record {
      leads = ap (λ fs. final unnamed (all fs)) (all-formulas N L);
      closed = sym (closed_none N L);
      positive = λ k low high. absurd (omega arith);
      some = λ k m. absurd (Memᴰ.not-nil m);
      few = omega arith;
    };
  }

  -- the formulas left, written otherwise
  reached_as : {fs gs : List Formula} {n : ℕ} {given free : List ℕ} {made : ℕ} → fs ≡ gs → Reached N L fs n given free made → Reached N L gs n given free made
  reached_as {n = n} {given} {free} {made} e r = subst (λ fs. Reached N L fs n given free made) e r

  -- a place that is not held is passed over, of a column and of a row
  module _ {n : ℕ} {given free : List ℕ} {made : ℕ} (i j : ℕ) (inside : Inside N i j) (next : suc n ≡ label N i j) where
    reached_passes : {fs gs : List Formula} → held N L i j ≡ false → fs ≡ gs → Reached N L fs n given free made → Reached N L gs (suc n) given free made
    reached_passes none e r = record {
      leads = r.leads ∙ ap (λ fs. final (standing 0 given free made) (all fs)) e;
      closed = r.closed ∙ sym (closed-next N L n i j inside next ∙ rw none);
      positive = r.positive;
      some = r.some;
      few = r.few;
    }

    -- one that is held is given a slot
    reached-gives : {fs gs : List Formula} {free' : List ℕ} → held N L i j ≡ true → Each (λ k. 1 ≤ k) free'
        → final (standing 0 given free made) (all fs) ≡ final (standing 0 (longer given free made) free' (made_with free made)) (all gs)
        → Reached N L fs n given free made → Reached N L gs (suc n) (longer given free made) free' (made_with free made)
    reached-gives there some' e r = record {
      leads = r.leads ∙ e;
      closed = omega (arith, length-append given (taken free made ∷ []), r.closed, closed_more);
      positive = longer_positive N L pivots given free made r.positive r.some;
      some = some';
      few = omega (arith, length-append given (taken free made ∷ []), r.few, made_more free);
    }
      where
        closed_more : closed_slots N L (suc n) ≡ suc (closed_slots N L n)
        closed_more = closed-next N L n i j inside next ∙ rw there

        made_more : (free : List ℕ) → made_with free made ≤ suc made
        made_more [] = omega arith
        made_more (k ∷ ks) = omega arith

  -- column m
  module _ {n m t : ℕ} {given free : List ℕ} {made : ℕ} (c : ColumnReached N L m t n given free made) (inside : Inside N t m) (below : m ≤ t)
      (next : suc n ≡ label N t m) where
    pub column_passes : held N L t m ≡ false → ColumnReached N L m (suc t) (suc n) given free made
    column_passes none = record { column = reached_passes t m inside next none (column-next N L m t inside.row-high ∙ rw none) c.column }

    pub column-gives : held N L t m ≡ true → ColumnReached N L m (suc t) (suc n) (longer given free made) (others free) (made_with free made)
    column-gives there =
        let r = c.column in
        let place : column_from N L m t ≡ lower_at N L t m ∷ column_from N L m (suc t) = column-next N L m t inside.row-high ∙ rw there in
        record {
          column =
              reached-gives t m inside next there (others-some free r.some)
              (final_lower N L pivots n given free made r.closed (longer_positive N L pivots given free made r.positive r.some)
              m t inside below there next)
              (reached_as place r);
        }

  -- the slots of row m up to the diagonal were given
  pub row-given : (m n : ℕ) (given : List ℕ) → 1 ≤ m → m ≤ N → length given ≡ closed_slots N L n → Positive given → label N N m ≤ n
      → (h : ℕ) → 1 ≤ h → h ≤ m → held N L m h ≡ true → 1 ≤ room_in N L given m h
  row-given m n given low high closed positive done h some left there =
      let r = slot-closed N L m h n (omega arith) there (omega (arith, label-row N L pivots m h low left high some)) in
      positive (slot N L m h) r.0 (omega (arith, r.1, closed))

  pending_some : (m t : ℕ) (given stack : List ℕ) → 1 ≤ room_in N L given m m → Each (λ k. 1 ≤ k) stack → Each (λ k. 1 ≤ k) (pending N L m t given stack)
  pending_some m t given stack pivot each = step (ltb t (last_right N L m))
    where
      step : (b : Bool) → Each (λ k. 1 ≤ k) (cond b stack (room_in N L given m m ∷ stack))
      step true = each
      step false = cons_each _ pivot each

  row-freed-some : (m t : ℕ) (given free : List ℕ) → ((h : ℕ) → 1 ≤ h → h ≤ m → held N L m h ≡ true → 1 ≤ room_in N L given m h)
      → Each (λ k. 1 ≤ k) free → Each (λ k. 1 ≤ k) (row_freed N L given m t free)
  row-freed-some m t given free rooms each = freed-some (room_in N L given m) (dies_at N L m t) 1 (m - 1) free
      (λ h low high dies. rooms h low (omega arith) (both (held N L m h) _ dies).0) each

  pub row_starts : {n m : ℕ} {given free : List ℕ} {made : ℕ} → 1 ≤ m → m ≤ N → n ≡ label N N m → ColumnReached N L m (suc N) n given free made
      → RowReached N L m m n given (row_freed N L given m m free) made
  row_starts {n} {m} {given} {free} {made} low high done c =
      let r = c.column in
      let rooms = row-given m n given low high r.closed r.positive (omega arith) in
      record {
        row = record {
          leads =
              (reached_as (column-done N L m) r).leads
              ∙ final_forward N L pivots given free made r.positive m low high (r.closed ∙ ap (closed_slots N L) done);
          closed = r.closed;
          positive = r.positive;
          some = pending_some m m given _ (rooms m low (omega arith) (pivots m low high)) (row-freed-some m m given free rooms r.some);
          few = r.few;
        };
      }

  module _ {n m t : ℕ} {given stack : List ℕ} {made : ℕ} (r : RowReached N L m t n given stack made) (inside : Inside N m (suc t)) (right : m ≤ t)
      (next : suc n ≡ label N m (suc t)) where
    -- a place that is not held is not the last held one
    pub row_passes : held N L m (suc t) ≡ false → RowReached N L m (suc t) (suc n) given stack made
    row_passes none =
        record { row = rw same (reached_passes m (suc t) inside next none (row_next N L m (suc t) inside.column-high ∙ rw none) r.row) }
      where
        other : last_right N L m ≡ suc t → ⊥
        other e = true≢false (sym (rw e at (last_held N L m (omega arith)).1) ∙ none)

        same : ltb (suc t) (last_right N L m) ≡ ltb t (last_right N L m)
        same = elim (dec_le (last_right N L m) t) [
          | yes done ↦ le-ltb (suc t) (last_right N L m) (omega arith) ∙ sym (le-ltb t (last_right N L m) done)
          | no more ↦ lt-ltb (suc t) (last_right N L m) (omega (arith, other)) ∙ sym (lt-ltb t (last_right N L m) (omega arith))
        ]

    -- before one that is held the pivot's slot is not free yet
    row_stack : held N L m (suc t) ≡ true → pending N L m t given stack ≡ stack
    row_stack there = rw (lt-ltb t (last_right N L m) (omega (arith, last-right N L m (suc t) (omega arith) inside.column-high there)))

    pub row_gives : held N L m (suc t) ≡ true → let now = longer given stack made in
        RowReached N L m (suc t) (suc n) now (row_freed N L now m (suc t) (others stack)) (made_with stack made)
    row_gives there =
        let s : Reached N L (row_from N L m (suc t)) n given stack made = rw (row_stack there) at r.row in
        let place : row_from N L m (suc t) ≡ upper_at N L m (suc t) ∷ row_from N L m (suc (suc t)) = row_next N L m (suc t) inside.column-high ∙ rw there in
        let now = longer given stack made in
        let positive = longer_positive N L pivots given stack made s.positive s.some in
        let freed = row-freed-some m (suc t) now (others stack) (rooms positive s.closed) (others-some stack s.some) in
        let pivot = rooms positive s.closed m inside.row_low (omega arith) (pivots m inside.row_low inside.row-high) in
        record {
          row =
              reached-gives m (suc t) inside next there (pending_some m (suc t) now _ pivot freed)
              (final_upper N L pivots n given stack made s.closed positive m (suc t) inside (omega arith) there next)
              (reached_as place s);
        }
      where
        rooms : Positive (longer given stack made) → length given ≡ closed_slots N L n
            → (h : ℕ) → 1 ≤ h → h ≤ m → held N L m h ≡ true → 1 ≤ room_in N L (longer given stack made) m h
        rooms positive closed h low left e =
            let before = label-row N L pivots m h inside.row_low left inside.row-high low in
            let ends = label_in_column N N m inside.row-high in
            let turns = label_in_row N m (suc t) inside.row_low inside.row-high (omega arith) in
            let slot = slot-closed N L m h n (omega (arith, inside)) e (omega arith) in
            positive _ slot.0 (omega (arith, slot.1, closed, length-append given (taken stack made ∷ [])))

  last_right_most : (m : ℕ) → last_right N L m ≤ N
  last_right_most m = elim (dec_le 1 (last_right N L m)) [ yes some ↦ (last_held N L m some).2 | no none ↦ omega arith ]

  -- at the row's end the pivot's slot is free, and the next batch begins
  pub row_ends : {n m : ℕ} {given stack : List ℕ} {made : ℕ} → RowReached N L m N n given stack made
      → BatchReached N L m n given (room_in N L given m m ∷ stack) made
  row_ends {n} {m} {given} {stack} {made} r =
      let last : ltb N (last_right N L m) ≡ false = le-ltb N (last_right N L m) (last_right_most m) in
      record { batch = reached_as (row_done N L m) (rw last at r.row) }

  pub batch_starts : {n m : ℕ} {given free : List ℕ} {made : ℕ} → m < N → BatchReached N L m n given free made
      → ColumnReached N L (suc m) (suc m) n given free made
  batch_starts below b = record { column = reached_as (batch-next N L _ below) b.batch }

  -- The headline: after the last batch the slots given are those of the compact program, and so is their number.
  pub reached-ends : {n : ℕ} {given free : List ℕ} {made : ℕ} → BatchReached N L N n given free made
      → (compact_slots N L ≡ made) × (openings (compact_records N L) ≡ given)
  unfolding compact_slots compact_records compacting
  reached-ends {given = given} {free} {made} b =
      let e = (reached_as (batches_done N L) b.batch).leads ∙ solution_final N L given free made in
      (ap (λ p. p.0) e, ap (λ p. p.1) e)
