-- A batch from its parts: its column, y(m), its row, and the pivot's slot.
use Prim.Native.Nat.{ℕ, zero, suc, ◌+◌, ◌-◌, ◌*◌, ◌≤◌, ◌<◌, max}
use native.Mathlib.Omega.{arith}
use native.Mathlib.Decide.{dec_le}
use native.Mathlib.Nat.{suc-mul}
use mathlib.Core.Path.{◌≡◌, sym, ap, ◌∙◌}
use mathlib.Core.Bool.{Bool, true, false, ◌&&◌}
use mathlib.Core.List.{List, [], ◌∷◌}
use lib.Dec.{ltb}
use lib.ListN.{length, get_or, drop, replicate, length-drop, length-replicate, get_or-replicate, get_or-eq_default}
use lib.Seq.{drop-length}
use borrow.Author.Tests.{le-ltb}
use Rattle.model.specs.Label.{label}
use Rattle.model.specs.Fill.{Plan, held}
use Rattle.model.proofs.Plans.{pivot-held}
use Rattle.model.proofs.Labels.{label-first, label-range, label_down, label-turn, label-next, label-end, label_in_row}
use Rattle.model.proofs.Slots.{closed_slots, closed_all}
use Rattle.model.proofs.Lives.{last_by, last_none, last_next}
use Rattle.model.proofs.Assign.{room_in, row_freed, label-row}
use Rattle.model.proofs.Assigned.{reached-begins, batch_starts, row-given, row_starts, row_ends, reached-ends}
use Rattle.model.proofs.Stacked.{few_starts, few-ends}
use Rattle.reuse.specs.Places.{Notes, ColumnAt, RowAt, BatchAt, Planned, Given, freed_along}
use Rattle.reuse.specs.declared.Walk.{Walk}
use Rattle.reuse.proofs.Placed.{freeing, holds-freed, room_enough}
use Rattle.reuse.proofs.Freed.{released-row}

-- batch m begins with its column
pub batch-column : {n : ℕ} {L : Plan} {m : ℕ} {in_rows last given : List ℕ} {walk : Walk} → 1 ≤ m → m ≤ n → BatchAt n L (m - 1) in_rows last given walk
    → ColumnAt n L m m given walk
batch-column {n} {L} {m} low high b =
    let back : suc (m - 1) ≡ m = omega arith in
    record {
      gs = b.gs;
      fs = b.fs;
      good = b.good;
      holds = b.holds;
      next = rw back at b.next;
      reached = rw back at (batch_starts n L (pivot-held n L b.good.complete) (omega arith) b.reached);
      few = b.few;
    }

-- there is room for the slots that y(m) frees
pub column-room : {n : ℕ} {L : Plan} {m t : ℕ} {given : List ℕ} {walk : Walk} → 1 ≤ m → m ≤ n → ColumnAt n L m t given walk → n * n + m ≤ walk.top
column-room {n} {m = m} {given = given} {walk} low high c =
    omega (
      arith,
      room_enough (m - 1) n (omega arith),
      c.few,
      ap length c.holds.stacked,
      length-drop walk.top given,
      c.holds.count,
    )

-- y(m) is done, and row m begins: the slots of row m that it reads last are free
pub column-row : {n : ℕ} {L : Plan} {m from : ℕ} {in_rows last given₀ given given' : List ℕ} {walk₀ walk : Walk} {top : ℕ} → 1 ≤ m → m ≤ n
    → BatchAt n L (m - 1) in_rows last given₀ walk₀ → ColumnAt n L m (suc n) given walk → from ≡ get_or in_rows m 0
    → length given' ≡ length given → n * n ≤ top → top ≤ length given → ((k : ℕ) → k < n * n → get_or given' k 0 ≡ get_or given k 0)
    → drop top given' ≡ freed_along n last given m m (max 1 from) (drop walk.top given)
    → RowAt n L m m from last given' (freeing walk top)
column-row {n} {L} {m} {from} {last = last} {given = given} {walk = walk} low high b c noted same above fits kept freed = record {
  gs = c.gs;
  fs = row_freed n L c.gs m m c.fs;
  good = c.good;
  holds = holds-freed c.holds same above fits kept (freed ∙ ap (freed_along n last given m m (max 1 from)) c.holds.stacked
      ∙ released-row L m last given c.gs c.fs low high (λ h some left. c.holds.placed m h (omega arith) (done h some left))
      (λ h some left. room h some (omega arith)) notes.before skips);
  next = c.next ∙ sym (label-turn n m low high);
  reached = row_starts n L pivots low high ends c.reached;
  few = few_starts n L m c.gs c.fs c.few;
  notes = notes;
  skips = skips;
}
  where
    pivots : (k : ℕ) → 1 ≤ k → k ≤ n → held n L k k ≡ true
    pivots = pivot-held n L c.good.complete

    notes : Notes n L m m last
    notes = let back : suc (m - 1) ≡ m = omega arith in rw back at b.notes

    ends : walk.done ≡ label n n m
    ends = omega (arith, c.next, label_down n n m high)

    done : (h : ℕ) → 1 ≤ h → h < m → label n m h ≤ walk.done
    done h some left = omega (arith, ends, label-row n L pivots m h low (omega arith) high some)

    room : (h : ℕ) → 1 ≤ h → h ≤ m → held n L m h ≡ true → 1 ≤ room_in n L c.gs m h
    room = row-given n L pivots m walk.done c.gs low high c.reached.column.closed c.reached.column.positive (omega (arith, ends))

    skips : (h : ℕ) → 1 ≤ h → h < from → h ≤ m → held n L m h ≡ false
    skips h some early left = b.skips m h (omega arith) (omega (arith, noted))

-- no number up to n is above h
none_last : (h n : ℕ) (t : ℕ → Bool) → n ≤ h → last_by (λ j. ltb h j && t j) n ≡ 0
none_last h zero t past = last_none (λ j. ltb h j && t j)
none_last h (suc n) t past = last_next (λ j. ltb h j && t j) n ∙ rw (le-ltb h (suc n) past) (none_last h n t (omega arith))

-- there is room for the pivot's slot
pub row_room : {n : ℕ} {L : Plan} {m t from : ℕ} {last given : List ℕ} {walk : Walk} → 1 ≤ m → m ≤ n → RowAt n L m t from last given walk
    → (n * n < walk.top) × (walk.top ≤ length given)
row_room {n} {L} {m} {t} {given = given} {walk} low high r =
    omega (
      arith,
      room_enough (m - 1) n (omega arith),
      few-ends n L m t r.fs r.few,
      ap length r.holds.stacked,
      length-drop walk.top given,
      r.holds.count,
      r.holds.fits,
    )

-- row m is done, and with it the batch: the pivot's slot is free
pub row-batch : {n : ℕ} {L : Plan} {m from : ℕ} {in_rows last₀ last given₀ given given' : List ℕ} {walk₀ walk : Walk} {at top : ℕ} → 1 ≤ m → m ≤ n
    → BatchAt n L (m - 1) in_rows last₀ given₀ walk₀ → RowAt n L m n from last given walk → at ≡ walk₀.done
    → length given' ≡ length given → top ≤ walk.top → walk.top ≤ suc top → ((k : ℕ) → suc k < walk.top → get_or given' k 0 ≡ get_or given k 0)
    → drop top given' ≡ get_or given at 0 ∷ drop walk.top given → BatchAt n L m in_rows last given' (freeing walk top)
row-batch {n} {L} {m} {given = given} {walk₀ = walk₀} {walk} {at} low high b r pivot same below near kept pushed =
    let room = row_room low high r in
    record {
      gs = r.gs;
      fs = room_in n L r.gs m m ∷ r.fs;
      good = r.good;
      holds = holds-freed r.holds same (omega (arith, room)) (omega (arith, room)) (λ k early. kept k (omega (arith, room)))
          (pushed ∙ ap (λ k. k ∷ drop walk.top given) here ∙ ap (λ f. room_in n L r.gs m m ∷ f) r.holds.stacked);
      next = r.next ∙ sym (label-next n m low high);
      reached = row_ends n L (pivot-held n L r.good.complete) r.reached;
      few = omega (arith, few-ends n L m n r.fs r.few, rows);
      notes = record {
        last_count = r.notes.last_count;
        before = λ h some early. elim (dec_le m h) [
          | yes e ↦ let same : h ≡ m = omega arith in rw same r.notes.here
          | no e ↦ r.notes.before h some (omega arith)
        ];
        here = r.notes.after (suc m) (omega arith) ∙ sym (none_last (suc m) (suc m) (held n L (suc m)) (omega arith));
        after = λ h past. r.notes.after h (omega arith);
      };
      row_count = b.row_count;
      skips = b.skips;
    }
  where
    rows : m * n ≡ (m - 1) * n + n
    rows = let back : m ≡ suc (m - 1) = omega arith in ap (λ k. k * n) back ∙ (suc-mul (m - 1) n ∙ omega arith)

    -- the pivot's label was the next before the batch
    first : suc walk₀.done ≡ label n m m
    first = let back : suc (m - 1) ≡ m = omega arith in rw back at b.next

    here : get_or given at 0 ≡ room_in n L r.gs m m
    here =
        let place : walk₀.done ≡ label n m m - 1 = omega (arith, first) in
        ap (λ k. get_or given k 0) (pivot ∙ place)
        ∙ r.holds.placed m m (omega arith) (omega (arith, r.next, label-next n m low high, label_in_row n m (suc n) low high (omega arith)))

-- ---- before the first batch, and after the last

abbrev pub zeros : ℕ → List ℕ
zeros k = replicate k 0

none-noted : (k h : ℕ) → get_or (zeros k) h 0 ≡ 0
none-noted k h = elim (dec_le k h) [
  | yes past ↦ get_or-eq_default (zeros k) 0 (rw length-replicate past)
  | no below ↦ get_or-replicate k h 0 0 (omega arith)
]

pub batch-begins : {n : ℕ} {L : Plan} {in_rows given : List ℕ} → Planned n L in_rows given → length given ≡ 3 * (n * n)
    → BatchAt n L 0 in_rows (zeros 601) given (record { done = 0; top = length given; made = 0 })
batch-begins {n} {L} {given = given} p count = record {
  gs = [];
  fs = [];
  good = p.good;
  holds = record {
    count = count;
    placed = λ i j inside done. absurd (omega (arith, label-range n i j inside));
    ahead = λ i j inside late. p.numbered i j inside;
    apart = omega arith;
    fits = omega arith;
    stacked = drop-length given;
  };
  next = sym (label-first n);
  reached = reached-begins n L (pivot-held n L p.good.complete);
  few = omega arith;
  notes = record {
    last_count = length-replicate {A = ℕ} 601 0;
    before = λ h some early. absurd (omega arith);
    here = none-noted 601 1 ∙ sym (none_last 1 1 (held n L 1) (omega arith));
    after = λ h past. none-noted 601 h;
  };
  row_count = p.row_count;
  skips = p.skips;
}

pub batches_end : {n : ℕ} {L : Plan} {in_rows last given : List ℕ} {walk : Walk} → BatchAt n L n in_rows last given walk → Given n L given walk.made
batches_end {n} {L} {walk = walk} b =
    let (made, gs) = reached-ends n L (pivot-held n L b.good.complete) b.reached in
    let r = b.reached.batch in
    let all : walk.done ≡ n * n = omega (arith, b.next, label-end n) in
    record {
      slots-are = sym made;
      given-are = λ i j inside. b.holds.placed i j inside (omega (arith, all, label-range n i j inside)) ∙ ap (λ g. room_in n L g i j) (sym gs);
      positive = λ k some high. rw gs (r.positive k some (omega (arith, r.closed, ap (closed_slots n L) all, closed_all n L)));
    }
