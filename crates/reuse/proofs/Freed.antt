-- Free slots: those that a row's places leave, and how the code walks along them.
use Prim.Native.Nat.{ℕ, zero, suc, ◌+◌, ◌-◌, ◌*◌, ◌≤◌, ◌<◌, max}
use native.Mathlib.Decide.{dec_le}
use native.Mathlib.Nat.{add-zero, add-suc, mul-le-mul}
use native.Mathlib.Numerals.{add-one}
use native.Mathlib.Omega.{arith}
use mathlib.Core.Path.{◌≡◌, refl, sym, ap, ap₂, ◌∙◌}
use mathlib.Core.Bool.{Bool, true, false, cond, not, ◌&&◌}
use mathlib.Core.List.{List, ◌∷◌}
use lib.Dec.{ltb, eqb}
use lib.ListN.{length, get_or, set, drop}
use lib.Seq.{drop-cons}
use borrow.Author.Tests.{lt-ltb}
use Rattle.model.specs.Label.{label}
use Rattle.model.specs.Fill.{Plan, held}
use Rattle.model.proofs.Labels.{label-range}
use Rattle.model.proofs.Lines.{label-lower-step}
use Rattle.model.proofs.Slots.{slot_zero}
use Rattle.model.proofs.Lives.{last_right}
use Rattle.model.proofs.Renaming.{slot_in}
use Rattle.model.proofs.Assign.{freed_row, dies_at, room_in, row_freed}
use Rattle.reuse.specs.Places.{Gave, given_at, freed_along}
use Rattle.reuse.specs.declared.Walk.{Walk}

-- ---- one slot

has_number : (slots : List ℕ) {at k : ℕ} → at ≡ k → (get_or slots at 0 ≡ 0 → ⊥) → ltb 0 (get_or slots k 0) ≡ true
has_number slots {at} e some = rw e at (lt-ltb 0 (get_or slots at 0) (omega (arith, some)))

-- a place without a number is passed; another takes the slot on top
module _ {given : List ℕ} {walk : Walk} {at : ℕ} (here : at ≡ walk.done) where
  pub gave-none : walk.top ≤ length given → get_or given at 0 ≡ 0
      → Gave given walk given (record { done = walk.done + 1; top = walk.top; made = walk.made })
  gave-none fits empty =
      let none : ltb 0 (get_or given walk.done 0) ≡ false = ap (ltb 0) (rw here at empty) in
      record { passed = add-one _; near = omega arith; fits = fits; slot_is = rw none; free-are = rw none; made-are = rw none }

  pub gave_again : walk.top < length given → (get_or given at 0 ≡ 0 → ⊥)
      → Gave given walk (set given at (get_or given walk.top 0)) (record { done = walk.done + 1; top = walk.top + 1; made = walk.made })
  gave_again below some =
      let numbered = has_number given here some in
      let first = drop-cons given walk.top 0 below in
      record {
        passed = add-one _;
        near = omega arith;
        fits = omega arith;
        slot_is = rw (here, numbered, first);
        free-are = rw (numbered, first, add-one);
        made-are = rw (numbered, first);
      }

-- ---- a row's free slots

module _ (room : ℕ → ℕ) (dies : ℕ → Bool) where
  freed-next : (h m : ℕ) (fs : List ℕ) → h < m
      → freed_row room dies h (m - h) fs ≡ freed_row room dies (suc h) (m - suc h) (cond (dies h) (room h ∷ fs) fs)
  unfolding freed_row
  freed-next h m fs below =
      let more : m - h ≡ suc (m - suc h) = omega arith in
      rw more

  freed-done : (h m : ℕ) (fs : List ℕ) → m ≤ h → freed_row room dies h (m - h) fs ≡ fs
  unfolding freed_row
  freed-done h m fs past =
      let none : m - h ≡ 0 = omega arith in
      rw none

  -- those that free nothing may be skipped
  freed_skip : (h m : ℕ) (fs : List ℕ) → (h < m → dies h ≡ false) → freed_row room dies h (m - h) fs ≡ freed_row room dies (suc h) (m - suc h) fs
  freed_skip h m fs none = elim (dec_le m h) [
    | yes past ↦ freed-done h m fs past ∙ sym (freed-done (suc h) m fs (omega arith))
    | no below ↦ freed-next h m fs (omega arith) ∙ ap (λ b. freed_row room dies (suc h) (m - suc h) (cond b (room h ∷ fs) fs)) (none (omega arith))
  ]

  freed-skips : (a d m : ℕ) (fs : List ℕ) → ((h : ℕ) → a ≤ h → h < a + d → h < m → dies h ≡ false)
      → freed_row room dies a (m - a) fs ≡ freed_row room dies (a + d) (m - (a + d)) fs
  freed-skips a zero m fs none = rw add-zero
  freed-skips a (suc d) m fs none =
      rw add-suc (freed-skips a d m fs (λ h low high. none h low (omega arith)) ∙ freed_skip (a + d) m fs (none (a + d) (omega arith) (omega arith)))

-- those with the same slots, used last at the same places
freed-same : (room room' : ℕ → ℕ) (dies dies' : ℕ → Bool) (a n : ℕ) (fs : List ℕ)
    → ((h : ℕ) → a ≤ h → h < a + n → (room h ≡ room' h) × (dies h ≡ dies' h)) → freed_row room dies a n fs ≡ freed_row room' dies' a n fs
unfolding freed_row
freed-same room room' dies dies' a zero fs same = refl
freed-same room room' dies dies' a (suc n) fs same =
    let here = same a (omega arith) (omega arith) in
    rw (here.0, here.1) (freed-same room room' dies dies' (suc a) n _ (λ h low high. same h (omega arith) (omega arith)))

-- ---- the walk along a row

-- Of row m, those before column h that are used last by (m, t) stand on top of the free ones, and the slots given are as they were; `across` is the label
-- of (m, h).
pub record Releasing (n m t a : ℕ) (last given₀ : List ℕ) (top₀ : ℕ) (given : List ℕ) (top h across : ℕ) : Type 0 where
  pub low : 1 ≤ h
  pub later : freed_along n last given₀ m t h (drop top given) ≡ freed_along n last given₀ m t a (drop top₀ given₀)
  pub same : length given ≡ length given₀
  pub kept : (k : ℕ) → k < n * n → get_or given k 0 ≡ get_or given₀ k 0
  pub fits : top ≤ length given₀
  pub above : n * n ≤ top
  pub room : n * n + m ≤ top + h
  pub label_is : h < m → across ≡ label n m h

module _ {n m t a : ℕ} {last given₀ : List ℕ} {top₀ : ℕ} where
  pub releasing_starts : {h across : ℕ} → h ≡ a → 1 ≤ h → n * n + m ≤ top₀ → top₀ ≤ length given₀ → (h < m → across ≡ label n m h)
      → Releasing n m t a last given₀ top₀ given₀ top₀ h across
  releasing_starts e low some fits label_is =
      record { low = low; later = rw e; same = refl; kept = λ k below. refl; fits = fits; above = omega arith; room = omega arith; label_is = label_is }

  module _ {given : List ℕ} {top h across : ℕ} (r : Releasing n m t a last given₀ top₀ given top h across) where
    -- the label of (m, h) is a place's
    pub releasing_place : h < m → m ≤ n → n ≤ 600 → (1 ≤ across) × (across ≤ n * n) × (across ≤ length given) × (across ≤ 360000)
    releasing_place below inside small =
        let square = mul-le-mul {n₂ = 600} {m₂ = 600} small small in
        omega (arith, r.low, r.label_is below, label-range n m h (omega (arith, r.low)), r.above, r.fits, r.same)

    -- the slot of (m, h), and whether it is free after (m, t): a held place has one, and (m, t) is the last to use it
    abbrev slot-here : ℕ
    slot-here = get_or given (across - 1) 0

    abbrev dies_here : Bool
    dies_here = ltb 0 slot-here && eqb (max m (get_or last h 0)) t

    pub dies_if_last : {x y : ℕ} {dies : Bool} → (slot-here ≡ 0 → ⊥) → x ≡ h → y ≡ max m (get_or last x 0) → dies ≡ eqb y t → dies ≡ dies_here
    dies_if_last some e f g = rw (lt-ltb 0 slot-here (omega (arith, some)), ← e, ← f) g

    pub dies_not : {dies : Bool} → slot-here ≡ 0 → dies ≡ not (eqb slot-here 0) → dies ≡ dies_here
    dies_not none g = g ∙ rw none

    pub releasing_more : {given' : List ℕ} {top' s : ℕ} {dies : Bool} → h < m → m ≤ n → n ≤ 600 → s ≡ n - h → dies ≡ dies_here
        → drop top' given' ≡ cond dies (slot-here ∷ drop top given) (drop top given)
        → length given' ≡ length given → top' ≤ top → top ≤ suc top' → ((k : ℕ) → suc k < top → get_or given' k 0 ≡ get_or given k 0)
        → Releasing n m t a last given₀ top₀ given' top' (h + 1) (across + 2 * s)
    releasing_more below inside small size dies-is pushed same fits near kept = record {
      low = omega arith;
      later = rw (add-one, pushed, dies-is, first, r.label_is below) (sym (freed-next _ _ h m (drop top given) below) ∙ r.later);
      same = same ∙ r.same;
      kept = λ k early. kept k (omega (arith, r.room, r.low)) ∙ r.kept k early;
      fits = omega (arith, r.fits);
      above = omega (arith, r.room, r.low);
      room = omega (arith, r.room);
      label_is = λ more. rw add-one (omega (arith, label-lower-step n m h r.low below (omega arith), r.label_is below));
    }
      where
        -- the slot stands as it did before the walk
        first : slot-here ≡ get_or given₀ (across - 1) 0
        first = r.kept (across - 1) (omega (arith, releasing_place below inside small))

    pub releasing_ends : m ≤ h → drop top given ≡ freed_along n last given₀ m t a (drop top₀ given₀)
    releasing_ends past = sym (freed-done _ _ h m (drop top given) past) ∙ r.later

-- ---- a plan's row

-- what `release` leaves is what the law of the formulas asks: the free slots after (m, t) of the row's places
pub released-row : {n : ℕ} (L : Plan) {m : ℕ} (t : ℕ) {from : ℕ} (last given gs fs : List ℕ)
    → 1 ≤ m → m ≤ n
    → ((h : ℕ) → 1 ≤ h → h < m → given_at n given m h ≡ room_in n L gs m h)
    → ((h : ℕ) → 1 ≤ h → h < m → held n L m h ≡ true → 1 ≤ room_in n L gs m h)
    → ((h : ℕ) → 1 ≤ h → h < m → get_or last h 0 ≡ last_right n L h)
    → ((h : ℕ) → 1 ≤ h → h < from → h ≤ m → held n L m h ≡ false)
    → freed_along n last given m t (max 1 from) fs ≡ row_freed n L gs m t fs
released-row {n} L {m} t {from} last given gs fs low high rooms some noted skips =
    freed-same _ (room_in n L gs m) _ (dies_at n L m t) (max 1 from) (m - max 1 from) fs
    (λ h above below. (rooms h (omega arith) (omega arith), dies_same h (omega arith) (omega arith)))
    ∙ sym (rw start at (freed-skips (room_in n L gs m) (dies_at n L m t) 1 (max 1 from - 1) m fs none))
  where
    start : 1 + (max 1 from - 1) ≡ max 1 from
    start = omega arith

    none : (h : ℕ) → 1 ≤ h → h < 1 + (max 1 from - 1) → h < m → dies_at n L m t h ≡ false
    none h above below inside = rw (skips h above (omega arith) (omega arith))

    -- a place that was given a slot is held
    given-held : (h : ℕ) (b : Bool) → 1 ≤ h → h < m → held n L m h ≡ b → ltb 0 (room_in n L gs m h) ≡ b
    given-held h true above below e = lt-ltb 0 _ (some h above below e)
    given-held h false above below e = ap (λ k. ltb 0 (slot_in gs k)) (slot_zero n L m h e)

    dies_same : (h : ℕ) → 1 ≤ h → h < m → (ltb 0 (given_at n given m h) && eqb (max m (get_or last h 0)) t) ≡ dies_at n L m t h
    dies_same h above below =
        ap₂ (λ k b. k && eqb (max m b) t) (ap (ltb 0) (rooms h above below) ∙ given-held h (held n L m h) above below refl) (noted h above below)
