-- Loops that write what is kept for each h, h rising or falling; and the labels that they step along.
use Prim.Native.Nat.{ℕ, zero, suc, ◌+◌, ◌-◌, ◌*◌, ◌≤◌, ◌<◌, max}
use native.Mathlib.Nat.{mul-le-mul}
use native.Mathlib.Numerals.{add-one}
use native.Mathlib.Decide.{dec_le}
use native.Mathlib.Omega.{arith}
use mathlib.Core.Path.{◌≡◌, sym, ap, ap₂, ◌∙◌}
use mathlib.Core.List.{List, [], ◌++◌}
use lib.ListN.{length, get_or}
use Rattle.model.specs.Lists.{rising, falling, joined}
use Rattle.model.specs.Label.{label}
use Rattle.model.specs.Program.{Record}
use Rattle.model.proofs.Labels.{Inside, label-range, label_right}
use Rattle.model.proofs.Lines.{label-lower-step, label-upper-step}
use Rattle.writer.specs.Written.{Room, Wrote, product_of}
use Rattle.writer.specs.Worked.{number_at, Covers, inner_at, product_at, up_to, down_to, NoneBelow}
use Rattle.writer.proofs.Written.{Writing, writing_starts, writing_room, writing_more, writing_ends, wrote_none}

-- ---- labels

-- x is the label of (i, j): it has a work number, and is small
pub record Stands (n : ℕ) (work : List ℕ) (i j x : ℕ) : Type 0 where
  pub is : x ≡ label n i j
  pub low : 1 ≤ x
  pub high : x ≤ length work
  pub small : x ≤ 360000

pub stands : {n : ℕ} {work : List ℕ} {i j x : ℕ} → Covers n work → Inside n i j → x ≡ label n i j → Stands n work i j x
stands {n} {work} {i} {j} {x} covers inside e =
    let square = mul-le-mul {n₂ = 600} {m₂ = 600} covers.high covers.high in
    omega (arith, label-range n i j inside)

-- where their labels are known, the work numbers stand there
pub number-at : {n : ℕ} {work : List ℕ} {i j x : ℕ} → Stands n work i j x → number_at n work i j ≡ get_or work (x - 1) 0
unfolding number_at
number-at {n} {work} {i} {j} {x} here = ap (λ y. get_or work (y - 1) 0) (sym here.is)

pub inner-at : {n : ℕ} {work : List ℕ} {i j h x y : ℕ} → Stands n work i h x → Stands n work h j y
    → inner_at n work i j h ≡ product_of 4 (get_or work (x - 1) 0) (get_or work (y - 1) 0)
unfolding inner_at
inner-at left right = ap₂ (product_of 4) (number-at left) (number-at right)

pub product_at_is : (kind : ℕ) {n : ℕ} {work : List ℕ} {i h x : ℕ} → Stands n work i h x → product_at n work kind i h ≡ product_of kind (get_or work (x - 1) 0) h
unfolding product_at
product_at_is kind {h = h} here = ap (λ p. product_of kind p h) (number-at here)

-- one to the left in a row, right of the diagonal
pub label-left : (n i h x : ℕ) → x ≡ label n i h → i < h - 1 → x - 1 ≡ label n i (h - 1)
label-left n i h x e above =
    let back : suc (h - 1) ≡ h = omega arith in
    omega (arith, rw back at (label_right n i (h - 1) above))

-- one to the right in a row, left of the diagonal, and one down in a column, above it
pub label_across : (n i h x s : ℕ) → x ≡ label n i h → s ≡ n - h → 1 ≤ h → h < i → i ≤ n → x + 2 * s ≡ label n i (h + 1)
label_across n i h x s e f low below inside = rw add-one (omega (arith, label-lower-step n i h low below (omega arith)))

pub label_downward : (n h j x s : ℕ) → x ≡ label n h j → s ≡ n - h → 1 ≤ h → h + 1 < j → j ≤ n → x + (2 * s - 1) ≡ label n (h + 1) j
label_downward n h j x s e f low below inside = rw add-one (omega (arith, label-upper-step n h j low (omega arith) (omega arith)))

-- ---- h rising

module _ (f : ℕ → List Record) where
  pub rising-joined : (h m : ℕ) → h < m → joined (rising f h (m - h)) ≡ f h ++ joined (rising f (h + 1) (m - (h + 1)))
  unfolding joined rising
  rising-joined h m below =
      let more : m - h ≡ suc (m - suc h) = omega arith in
      rw (more, add-one)

  pub rising_none : (h m : ℕ) → m ≤ h → joined (rising f h (m - h)) ≡ []
  unfolding joined rising
  rising_none h m past =
      let none : m - h ≡ 0 = omega arith in
      rw none

  -- what is left out may be skipped
  pub skipped : (h d m : ℕ) → ((k : ℕ) → h ≤ k → k < h + d → k < m → f k ≡ []) → joined (rising f h (m - h)) ≡ joined (rising f (h + d) (m - (h + d)))
  skipped h zero m none = let same : h + 0 ≡ h = omega arith in rw same
  skipped h (suc d) m none = elim (dec_le m h) [
    | yes past ↦ ended past
    | no below ↦ onward (omega arith) (skipped (h + 1) d m (λ k low high. none k (omega arith) (omega arith)))
  ]
    where
      ended : m ≤ h → joined (rising f h (m - h)) ≡ joined (rising f (h + suc d) (m - (h + suc d)))
      ended past = rising_none h m past ∙ sym (rising_none (h + suc d) m (omega arith))

      onward : h < m → joined (rising f (h + 1) (m - (h + 1))) ≡ joined (rising f (h + 1 + d) (m - (h + 1 + d)))
          → joined (rising f h (m - h)) ≡ joined (rising f (h + suc d) (m - (h + suc d)))
      onward below rest =
          let on : h + suc d ≡ h + 1 + d = omega arith in
          rw (rising-joined h m below, none h (omega arith) (omega arith) below, on) rest

-- Of the records for h = a..m-1, which go into ws₀ from record k₀ on, those from h on are left, from record k on into ws.
pub record Rising (f : ℕ → List Record) (a o k₀ m : ℕ) (ws₀ : List ℕ) (k h : ℕ) (ws : List ℕ) : Type 0 where
  pub low : a ≤ h
  pub writing : Writing o k₀ (joined (rising f a (m - a))) ws₀ k (joined (rising f h (m - h))) ws

module _ {f : ℕ → List Record} {o k₀ m : ℕ} {ws₀ : List ℕ} where
  pub rising-skips : (from : ℕ) → NoneBelow f from m → Room o k₀ (up_to f m) ws₀ → Rising f 1 o k₀ m ws₀ k₀ (max from 1) ws₀
  rising-skips from none room =
      let start : 1 + (max from 1 - 1) ≡ max from 1 = omega arith in
      record {
        low = omega arith;
        writing = writing_more (writing_starts room) wrote_none
            (rw start at (skipped f 1 (max from 1 - 1) m (λ k low high below. none k low (omega arith) below)));
      }

module _ {f : ℕ → List Record} {a o k₀ m : ℕ} {ws₀ : List ℕ} where
  pub rising_starts : Room o k₀ (joined (rising f a (m - a))) ws₀ → Rising f a o k₀ m ws₀ k₀ a ws₀
  rising_starts room = record { low = omega arith; writing = writing_starts room }

  module _ {k h : ℕ} {ws : List ℕ} (r : Rising f a o k₀ m ws₀ k h ws) where
    pub rising-room : h < m → Room o k (f h) ws
    rising-room below = writing_room r.writing _ (rising-joined f h m below)

    pub rising-more : {ws' : List ℕ} {k' : ℕ} → h < m → Wrote o k (f h) ws ws' k' → Rising f a o k₀ m ws₀ k' (h + 1) ws'
    rising-more below wrote = record { low = omega arith; writing = writing_more r.writing wrote (rising-joined f h m below) }

    -- over d that have none
    pub rising-over : (d : ℕ) → ((k : ℕ) → h ≤ k → k < h + d → k < m → f k ≡ []) → Rising f a o k₀ m ws₀ k (h + d) ws
    rising-over d none = record { low = omega arith; writing = writing_more r.writing wrote_none (skipped f h d m none) }

    pub rising-ends : m ≤ h → Wrote o k₀ (joined (rising f a (m - a))) ws₀ ws k
    rising-ends past = writing_ends r.writing wrote_none (rising_none f h m past)

-- ---- h falling

-- Of the records for h = n..i+1, which go into ws₀ from record k₀ on, those from h down are left, from record k on into ws.
pub record Falling (f : ℕ → List Record) (o k₀ n i : ℕ) (ws₀ : List ℕ) (k h : ℕ) (ws : List ℕ) : Type 0 where
  pub low : i ≤ h
  pub high : h ≤ n
  pub writing : Writing o k₀ (down_to f n i) ws₀ k (joined (falling f h (h - i))) ws

module _ (f : ℕ → List Record) where
  pub falling-joined : (h i : ℕ) → i < h → joined (falling f h (h - i)) ≡ f h ++ joined (falling f (h - 1) (h - 1 - i))
  unfolding joined falling
  falling-joined h i above =
      let more : h - i ≡ suc (h - 1 - i) = omega arith in
      rw more

  pub falling-none : (h i : ℕ) → h ≤ i → joined (falling f h (h - i)) ≡ []
  unfolding joined falling
  falling-none h i past =
      let none : h - i ≡ 0 = omega arith in
      rw none

module _ {f : ℕ → List Record} {o k₀ n i : ℕ} {ws₀ : List ℕ} where
  pub falling_starts : i ≤ n → Room o k₀ (down_to f n i) ws₀ → Falling f o k₀ n i ws₀ k₀ n ws₀
  falling_starts inside room = record { low = inside; high = omega arith; writing = writing_starts room }

  module _ {k h : ℕ} {ws : List ℕ} (r : Falling f o k₀ n i ws₀ k h ws) where
    pub falling-room : i < h → Room o k (f h) ws
    falling-room above = writing_room r.writing _ (falling-joined f h i above)

    pub falling_more : {ws' : List ℕ} {k' : ℕ} → i < h → Wrote o k (f h) ws ws' k' → Falling f o k₀ n i ws₀ k' (h - 1) ws'
    falling_more above wrote =
        record { low = omega arith; high = omega arith; writing = writing_more r.writing wrote (falling-joined f h i above) }

    pub falling-ends : h ≤ i → Wrote o k₀ (down_to f n i) ws₀ ws k
    falling-ends past = writing_ends r.writing wrote_none (falling-none f h i past)
