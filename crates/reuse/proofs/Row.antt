-- Along row m: from one of its places to the next, what the walk holds and what is noted of the row, and that there is room.
use Prim.Native.Nat.{ℕ, zero, suc, ◌+◌, ◌-◌, ◌*◌, ◌≤◌, ◌<◌, max}
use native.Mathlib.Nat.{add-zero}
use native.Mathlib.Omega.{arith}
use mathlib.Core.Path.{◌≡◌, refl, sym, ap, ◌∙◌}
use mathlib.Core.Bool.{true, false}
use mathlib.Core.List.{List}
use lib.Dec.{ltb}
use lib.ListN.{length, get_or, set, drop, length-set, length-drop}
use lib.Seq.{get_or-set_same, get_or-set_other}
use borrow.Author.Tests.{lt-ltb}
use Rattle.model.specs.Label.{label}
use Rattle.model.specs.Fill.{Plan, held, slot}
use Rattle.model.proofs.Labels.{Inside, label-range, label_right, label_in_column, label_in_row}
use Rattle.model.proofs.Plans.{pivot-held}
use Rattle.model.proofs.Slots.{slot-closed}
use Rattle.model.proofs.Reuse.{others, made_with}
use Rattle.model.proofs.Lives.{last_next}
use Rattle.model.proofs.Assign.{room_in, longer, row_freed, label-row}
use Rattle.model.proofs.Assigned.{RowReached, row_passes, row_gives}
use Rattle.model.proofs.Stacked.{few_passes, few_frees, few-ends}
use Rattle.reuse.specs.Places.{Gave, freed_along, Holding, Notes, RowAt}
use Rattle.reuse.specs.declared.Walk.{Walk}
use Rattle.reuse.proofs.Placed.{place-held, gave_passes, gave_gives, freeing, further, holds-freed, sizes, closed-few, others_fewer, room_enough}
use Rattle.reuse.proofs.Freed.{gave-none, released-row}

-- ---- the row's last held place

module _ {n : ℕ} {L : Plan} {m t : ℕ} {last : List ℕ} (notes : Notes n L m t last) (right : m ≤ t) where
  notes_pass : held n L m (suc t) ≡ false → Notes n L m (suc t) last
  notes_pass none = record {
    last_count = notes.last_count;
    before = notes.before;
    here = notes.here ∙ sym (last_next _ t ∙ rw (lt-ltb m (suc t) (omega arith), none));
    after = notes.after;
  }

  notes-take : m ≤ 600 → held n L m (suc t) ≡ true → Notes n L m (suc t) (set last m (suc t))
  notes-take high there = record {
    last_count = length-set last m (suc t) ∙ notes.last_count;
    before = λ h low below. get_or-set_other last m h (suc t) 0 (λ e. omega arith) ∙ notes.before h low below;
    here = get_or-set_same last m (suc t) 0 (omega (arith, notes.last_count)) ∙ sym (last_next _ t ∙ rw (lt-ltb m (suc t) (omega arith), there));
    after = λ h above. get_or-set_other last m h (suc t) 0 (λ e. omega arith) ∙ notes.after h above;
  }

-- ---- the next place of row m, (m, t + 1)

module _ {n : ℕ} {L : Plan} {m t from : ℕ} {last given : List ℕ} {walk : Walk} (row : RowAt n L m t from last given walk) where
  pivots : (k : ℕ) → 1 ≤ k → k ≤ n → held n L k k ≡ true
  pivots = pivot-held n L row.good.complete

  -- how large all is
  pub row_sizes : (n ≤ 600) × (n * n ≤ 360000) × (n * n ≤ length given) × (walk.made ≤ n * n)
  row_sizes =
      let size = sizes row.good in
      let r = row.reached.row in
      (size.1, size.2, omega (arith, row.holds.count), omega (arith, r.few, r.closed, closed-few n L walk.done))

  -- the labels go on up to the row's end
  pub row-long : 1 ≤ m → m ≤ t → m < n → t ≤ n → walk.done + (n - t) ≤ n * n
  row-long low right below high =
      omega (
        arith,
        row.next,
        label_in_row n m (suc t) low (omega arith) (omega arith),
        label_in_row n m n low (omega arith) below,
        label-range n m n (omega arith),
      )

  module _ (inside : Inside n m (suc t)) (right : m ≤ t) {given' : List ℕ} {after : Walk} (gave : Gave given walk given' after) where
    next-label : suc after.done ≡ label n m (suc (suc t))
    next-label = ap suc (gave.passed ∙ row.next) ∙ sym (label_right n m (suc t) (omega arith))

    number_says : {at : ℕ} → at ≡ walk.done → ltb 0 (get_or given at 0) ≡ held n L m (suc t)
    number_says here = rw here (place-held row.holds m (suc t) inside row.next)

    -- it has no number
    row-passed : {at : ℕ} → at ≡ walk.done → get_or given at 0 ≡ 0 → RowAt n L m (suc t) from last given' after
    row-passed here empty =
        let none : held n L m (suc t) ≡ false = sym (number_says here) ∙ ap (ltb 0) empty in
        let (holds, made) = gave_passes row.holds m (suc t) inside row.next gave none in
        record {
          gs = row.gs;
          fs = row.fs;
          good = row.good;
          holds = holds;
          next = next-label;
          reached = rw (gave.passed, made) (row_passes n L pivots row.reached inside right row.next none);
          few = few_passes n L m t row.fs row.few;
          notes = notes_pass row.notes right none;
          skips = row.skips;
        }

    -- it has one: a slot is given to it, and those are freed that it uses last
    module _ {at : ℕ} (here : at ≡ walk.done) (some : get_or given at 0 ≡ 0 → ⊥) where
      there : held n L m (suc t) ≡ true
      there = sym (number_says here) ∙ lt-ltb 0 (get_or given at 0) (omega (arith, some))

      -- the slots given now, and those that are free
      abbrev now : List ℕ
      now = longer row.gs row.fs walk.made

      abbrev freed : List ℕ
      freed = row_freed n L now m (suc t) (others row.fs)

      holds_now : Holding n L given' after now (others row.fs) × (after.made ≡ made_with row.fs walk.made)
      holds_now = gave_gives row.holds m (suc t) inside row.next gave there row.reached.row.closed

      reached_now : RowReached n L m (suc t) after.done now freed after.made
      reached_now = rw (gave.passed, holds_now.1) (row_gives n L pivots row.reached inside right row.next there)

      -- the places of row m left of the diagonal come before
      left-done : (h : ℕ) → 1 ≤ h → h < m → label n m h ≤ after.done
      left-done h low left =
          omega (
            arith,
            gave.passed,
            row.next,
            label-row n L pivots m h inside.row_low (omega arith) inside.row-high low,
            label_in_column n n m inside.row-high,
            label_in_row n m (suc t) inside.row_low inside.row-high (omega arith),
          )

      left-given : (h : ℕ) → 1 ≤ h → h < m → held n L m h ≡ true → 1 ≤ room_in n L now m h
      left-given h low left e =
          let r = reached_now.row in
          let s = slot-closed n L m h after.done (omega (arith, inside)) e (left-done h low left) in
          r.positive (slot n L m h) s.0 (omega (arith, s.1, r.closed))

      -- there is room for the slots that it frees
      row_top : n * n + m ≤ after.top
      row_top =
          omega (
            arith,
            room_enough (m - 1) n (omega (arith, inside)),
            few-ends n L m t row.fs row.few,
            others_fewer row.fs,
            ap length holds_now.0.stacked,
            length-drop after.top given',
            holds_now.0.count,
          )

      row_took : {given'' : List ℕ} {top : ℕ} → length given'' ≡ length given' → n * n ≤ top → top ≤ length given'
          → ((k : ℕ) → k < n * n → get_or given'' k 0 ≡ get_or given' k 0)
          → drop top given'' ≡ freed_along n (set last m (suc t)) given' m (suc t) (max 1 from) (drop after.top given')
          → RowAt n L m (suc t) from (set last m (suc t)) given'' (freeing after top)
      row_took same above fits kept free-are =
          let h = holds_now.0 in
          let noted = notes-take row.notes right (omega (arith, inside, row_sizes)) there in
          record {
            gs = now;
            fs = freed;
            good = row.good;
            holds = holds-freed h same above fits kept (free-are
                ∙ ap (freed_along n (set last m (suc t)) given' m (suc t) (max 1 from)) h.stacked
                ∙ released-row L (suc t) (set last m (suc t)) given' now (others row.fs) inside.row_low inside.row-high
                (λ k low left. h.placed m k (omega (arith, inside)) (left-done k low left)) left-given noted.before row.skips);
            next = next-label;
            reached = reached_now;
            few = few_frees n L m t now (others row.fs) (omega (arith, row.few, others_fewer row.fs));
            notes = noted;
            skips = row.skips;
          }

-- ---- places without a number are passed over

module _ {n : ℕ} {L : Plan} {m from : ℕ} {last given : List ℕ} (inside : Inside n m m) where
  row_skip : {t : ℕ} {walk : Walk} → RowAt n L m t from last given walk → m ≤ t → t < n → get_or given walk.done 0 ≡ 0
      → RowAt n L m (suc t) from last given (further walk 1)
  row_skip row right below empty =
      row-passed row (omega (arith, inside)) right (gave-none refl row.holds.fits empty) refl empty

  pub row-skips : {t : ℕ} {walk : Walk} (r : ℕ) → RowAt n L m t from last given walk → m ≤ t → t + r ≤ n
      → ((k : ℕ) → k < r → get_or given (walk.done + k) 0 ≡ 0)
      → RowAt n L m (t + r) from last given (further walk r)
  row-skips {t} {walk} zero row right far none = rw (add-zero t, add-zero walk.done) row
  row-skips {t} {walk} (suc r) row right far none =
      let on : t + suc r ≡ suc t + r = omega arith in
      let more : (k : ℕ) → walk.done + suc k ≡ walk.done + 1 + k = λ k. omega arith in
      let first = row_skip row right (omega arith) (rw (add-zero walk.done) at (none 0 (omega arith))) in
      rw (on, more r) (row-skips {t = suc t} {walk = further walk 1} r first (omega arith) (omega arith) (λ k below. rw (more k) at (none (suc k) (omega arith))))

-- ---- the place (m, t), by its column

module _ {n : ℕ} {L : Plan} {m from : ℕ} {last given : List ℕ} {walk : Walk} where
  before-next : (t : ℕ) → RowAt n L m (suc t - 1) from last given walk → RowAt n L m t from last given walk
  before-next t row = let back : suc t - 1 ≡ t = omega arith in rw back at row

  module _ {given' : List ℕ} {after : Walk} (gave : Gave given walk given' after) {at : ℕ} (here : at ≡ walk.done) where
    pub place-passed : (t : ℕ) → Inside n m t → m < t → RowAt n L m (t - 1) from last given walk → get_or given at 0 ≡ 0
        → RowAt n L m t from last given' after
    place-passed zero inside right row empty = elim right [ ]
    place-passed (suc t) inside right row empty = row-passed (before-next t row) inside (omega arith) gave here empty

    pub place-room : (t : ℕ) → Inside n m t → m < t → RowAt n L m (t - 1) from last given walk → (get_or given at 0 ≡ 0 → ⊥) → n * n + m ≤ after.top
    place-room zero inside right row some = elim right [ ]
    place-room (suc t) inside right row some = row_top (before-next t row) inside (omega arith) gave here some

    pub place_took : (t : ℕ) → Inside n m t → m < t → RowAt n L m (t - 1) from last given walk → (get_or given at 0 ≡ 0 → ⊥)
        → {given'' : List ℕ} {top k : ℕ} → k ≡ m → length given'' ≡ length given' → n * n ≤ top → top ≤ length given'
        → ((i : ℕ) → i < n * n → get_or given'' i 0 ≡ get_or given' i 0)
        → drop top given'' ≡ freed_along n (set last k t) given' m t (max 1 from) (drop after.top given')
        → RowAt n L m t from (set last k t) given'' (freeing after top)
    place_took zero inside right row some {top = top} {k = k} e = elim right [ ]
    place_took (suc t) inside right row some e = rw e (row_took (before-next t row) inside (omega arith) gave here some)
