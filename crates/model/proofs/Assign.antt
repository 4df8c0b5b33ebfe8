-- The slots that the renaming gives, formula by formula: what each formula takes from the free slots, and what it adds to them.
use Prim.Native.Nat.{ℕ, zero, suc, ◌+◌, ◌-◌, ◌≤◌, ◌<◌, min, max}
use native.Mathlib.Omega.{arith}
use mathlib.Core.Path.{◌≡◌, refl, sym, ap, ap₂, ◌∙◌}
use mathlib.Core.Bool.{Bool, true, false, cond, not, ◌&&◌, ◌||◌, or-true, true≢false}
use mathlib.Core.List.Memᴰ
use mathlib.Core.List.{List, [], ◌∷◌, ◌++◌, map, append_assoc}
use lib.Dec.{eqb, ltb}
use lib.ListN.{length, length-append}
use native.Mathlib.Decide.{dec_le}
use borrow.Author.Tests.{eq-eqb, ne_eqb, eqb-true, lt-ltb, le-ltb}
use Rattle.model.specs.Lists.{rising, joined, kept}
use Rattle.model.specs.Label.{label}
use Rattle.model.specs.Fill.{Plan, position, held, slot}
use Rattle.model.specs.Formula.{Formula, Table, C, Y, X, number_of}
use Rattle.model.specs.Crout.{inner, lower, forward, upper}
use Rattle.model.specs.Program.{Record, rec, opening, records_of}
use Rattle.model.specs.Check.{kind_of}
use Rattle.model.specs.Compact.{needed, Renaming, released, after_record, renamed, openings}
use Rattle.model.proofs.Reuse.{taken, others, made_with}
use Rattle.model.proofs.Renaming.{standing, slot_in, slot-before, slot_last}
use Rattle.model.proofs.Lists.{Each, map_each, kept_where, rising-each}
use Rattle.model.proofs.Passing.{both}
use Rattle.model.proofs.Labels.{Inside, label_earlier, label_in_column, label_in_row}
use Rattle.model.proofs.Slots.{closed_slots, slot-closed, slot_new, slot-range}
use Rattle.model.proofs.Lives.{last_right, row_from, column_from, lower_at, upper_at, forward_at, other, row_needs, row_needs_upper}
use Rattle.model.proofs.Lives.{column_needs_upper, column_needs_lower, last_held, last-right}
use Rattle.model.proofs.Uses.{in_c, read_by, read_none, product_records, ending, needed-closing, needed_ending, needed-products}

-- how a renaming ends that stands at z before the records rs: the slots made, and the one given to each plain slot
abbrev pub final : Renaming → List Record → ℕ × List ℕ
final z rs = ((renamed z rs).slots, z.given ++ openings (renamed z rs).records)

-- ---- one record

-- the slot of one that is needed no more, else 0
abbrev unless : Bool → ℕ → ℕ
unless needs k = cond needs 0 k

unless_none : (b : Bool) → unless b 0 ≡ 0
unless_none true = refl
unless_none false = refl

-- none is freed, or one alone
released-none : {a b : ℕ} (free : List ℕ) → a ≡ 0 → b ≡ 0 → released a b free ≡ free
released-none free e f = ap₂ (λ a b. released a b free) e f

released-alone : (k : ℕ) (free : List ℕ) → 1 ≤ k → released k 0 free ≡ k ∷ free
released-alone k free h =
    let most : max k 0 ≡ k = omega arith in
    let least : min k 0 ≡ 0 = omega arith in
    rw (most, least, ne_eqb k 0 (λ e. omega arith))

released-one : (b : Bool) (k : ℕ) {second : ℕ} (free : List ℕ) → 1 ≤ k → second ≡ 0 → released (unless b k) second free ≡ cond b free (k ∷ free)
released-one true k free h e = released-none free refl e
released-one false k free h e = ap (λ s. released k s free) e ∙ released-alone k free h

-- where the renaming stands once the next plain slot, q, is given one and open
abbrev opening-at : List ℕ → List ℕ → ℕ → ℕ → List Record → Renaming
opening-at given free made q rs =
    standing q (given ++ (taken free made ∷ [])) (released (unless (needed q 0 rs) 0) (unless (needed q 0 rs) 0) (others free))
    (made_with free made)

final_begins : (given free : List ℕ) (made a q : ℕ) (rs : List Record) → let ends = renamed (opening-at given free made q rs) rs in
    final (standing 0 given free made) (rec 1 a q ∷ rs) ≡ (ends.slots, given ++ (slot_in (given ++ (taken free made ∷ [])) q ∷ openings ends.records))
unfolding renamed after_record kind_of kept
final_begins given [] made a q rs = refl
final_begins given (k ∷ ks) made a q rs = refl

module _ (given free : List ℕ) (made : ℕ) where
  abbrev pub longer : List ℕ
  longer = given ++ (taken free made ∷ [])

  final_opens : (a q : ℕ) (rs : List Record) → q ≡ suc (length given)
      → final (standing 0 given free made) (rec 1 a q ∷ rs) ≡ final (standing q longer (others free) (made_with free made)) rs
  final_opens a q rs e =
      let ends = renamed (opening-at given free made q rs) rs in
      final_begins given free made a q rs
      ∙ ap (λ k. (ends.slots, given ++ (k ∷ openings ends.records))) (ap (slot_in longer) e ∙ slot_last given (taken free made))
      ∙ ap (λ l. (ends.slots, l)) (sym (append_assoc given (taken free made ∷ []) (openings ends.records)))
      ∙ ap (λ f. final (standing q longer f (made_with free made)) rs) (released-none (others free) (unless_none (needed q 0 rs)) (unless_none (needed q 0 rs)))

  final_product : (t : Table) (o p q : ℕ) (rs : List Record) → final (standing o given free made) (rec (3 + number_of t) p q ∷ rs)
      ≡ final (standing o given (released (unless (needed o p rs) (slot_in given p)) (unless (needed o (in_c t q) rs) (slot_in given (in_c t q))) free) made) rs
  unfolding renamed after_record kind_of kept
  final_product C o p q rs = refl
  final_product Y o p q rs = refl
  final_product X o p q rs = refl

  -- a division frees its divisor if that is needed no more,
  final_divides : (o p : ℕ) (rs : List Record) → 1 ≤ slot_in given p → final (standing o given free made) (rec 7 p 0 ∷ rs)
      ≡ final (standing o given (cond (needed o p rs) free (slot_in given p ∷ free)) made) rs
  unfolding renamed after_record kind_of kept
  final_divides o p rs h =
      ap (λ f. final (standing o given f made) rs) (released-one (needed o p rs) (slot_in given p) free h (unless_none (needed o 0 rs)))

  -- and a closing nothing, where what is open is needed or none of C
  final_closes : (o : ℕ) (b : Bool) (rs : List Record) → unless (needed 0 o rs) (slot_in given o) ≡ 0
      → final (standing o given free made) (rec (cond b 9 8) 0 0 ∷ rs) ≡ final (standing 0 given free made) rs
  unfolding renamed after_record kind_of kept
  final_closes o true rs e = ap (λ f. final (standing 0 given f made) rs) (released-none free e (unless_none (needed 0 0 rs)))
  final_closes o false rs e = ap (λ f. final (standing 0 given f made) rs) (released-none free e (unless_none (needed 0 0 rs)))

-- ---- the products of a formula

-- the free slots after those of the n numbers from a on that are used last are added, in order
unfoldable pub freed_row : (ℕ → ℕ) → (ℕ → Bool) → ℕ → ℕ → List ℕ → List ℕ
freed_row room dies a zero free = free
freed_row room dies a (suc n) free = freed_row room dies (suc a) n (cond (dies a) (room a ∷ free) free)

pub freed-none : (room : ℕ → ℕ) (dies : ℕ → Bool) (a n : ℕ) (free : List ℕ) → ((h : ℕ) → a ≤ h → h < a + n → dies h ≡ false)
    → freed_row room dies a n free ≡ free
unfolding freed_row
freed-none room dies a zero free none = refl
freed-none room dies a (suc n) free none =
    rw (none a (omega arith) (omega arith)) (freed-none room dies (suc a) n free (λ h low high. none h (omega arith) (omega arith)))

-- The product of h is `pair h`, if h is kept; `dies` says where its first factor is used last. Its second factor is needed later, or none of C.
module _ (t : Table) (o : ℕ) (given : List ℕ) (made : ℕ) (pair : ℕ → ℕ × ℕ) (keep dies : ℕ → Bool) (rs : List Record) where
  -- the records after the product of h, of those up to below e
  abbrev after : ℕ → ℕ → List Record
  after e h = product_records t (map pair (kept keep (rising (λ k. k) (suc h) (e - suc h)))) ++ rs

  record Lasting (e h : ℕ) : Type 0 where
    first : needed o (pair h).0 (after e h) ≡ not (dies h)
    second : unless (needed o (in_c t (pair h).1) (after e h)) (slot_in given (in_c t (pair h).1)) ≡ 0
    given-one : 1 ≤ slot_in given (pair h).0

  final_products : (e a n : ℕ) (free : List ℕ) → a + n ≡ e
      → ((h : ℕ) → a ≤ h → h < e → keep h ≡ true → Lasting e h) → ((h : ℕ) → a ≤ h → h < e → keep h ≡ false → dies h ≡ false)
      → final (standing o given free made) (product_records t (map pair (kept keep (rising (λ k. k) a n))) ++ rs)
      ≡ final (standing o given (freed_row (λ h. slot_in given (pair h).0) dies a n free) made) rs
  unfolding freed_row rising kept
  final_products e a zero free end lasting none = refl
  final_products e a (suc n) free end lasting none =
      step (keep a) refl ∙ final_products e (suc a) n _ (omega arith) (λ h low. lasting h (omega arith)) (λ h low. none h (omega arith))
    where
      rest : n ≡ e - suc a
      rest = omega arith

      step : (b : Bool) → keep a ≡ b
          → final (standing o given free made)
          (product_records t (map pair (cond b (a ∷ kept keep (rising (λ k. k) (suc a) n)) (kept keep (rising (λ k. k) (suc a) n)))) ++ rs)
          ≡ final (standing o given (cond (dies a) (slot_in given (pair a).0 ∷ free) free) made)
          (product_records t (map pair (kept keep (rising (λ k. k) (suc a) n))) ++ rs)
      step true k =
          let l = lasting a (omega arith) (omega arith) k in
          let alone = released-one (needed o (pair a).0 (after e a)) (slot_in given (pair a).0) free l.given-one l.second in
          let dead = ap (λ b. cond b free (slot_in given (pair a).0 ∷ free)) l.first ∙ turned (dies a) in
          rw rest (final_product given free made t o (pair a).0 (pair a).1 (after e a) ∙ ap (λ f. final (standing o given f made) (after e a)) (alone ∙ dead))
        where
          turned : (b : Bool) → cond (not b) free (slot_in given (pair a).0 ∷ free) ≡ cond b (slot_in given (pair a).0 ∷ free) free
          turned true = refl
          turned false = refl
      step false k = rw (none a (omega arith) (omega arith) k)

-- ---- the formulas of a plan

-- what the tail of a formula needs that has still these products to subtract
tail_needed : (t : Table) (o d : ℕ) (b : Bool) (j : ℕ) (ps : List (ℕ × ℕ)) (rs : List Record) → 1 ≤ j
    → needed o j (product_records t ps ++ (ending d b ++ rs)) ≡ (read_by t j ps || (eqb j d || (eqb j o || needed 0 j rs)))
tail_needed t o d b j ps rs low = needed-products j low t o ps (ending d b ++ rs) ∙ ap (λ n. read_by t j ps || n) (needed_ending j low o d b rs)

tail_keeps : (t : Table) (o d : ℕ) (b : Bool) (j : ℕ) (ps : List (ℕ × ℕ)) (rs : List Record) → 1 ≤ j → needed 0 j rs ≡ true
    → needed o j (product_records t ps ++ (ending d b ++ rs)) ≡ true
tail_keeps t o d b j ps rs low e =
    tail_needed t o d b j ps rs low ∙ rw (e, or-true (eqb j o), or-true (eqb j d)) (or-true (read_by t j ps))

ending_divides : (d : ℕ) (b : Bool) (rs : List Record) → 1 ≤ d → ending d b ++ rs ≡ rec 7 d 0 ∷ rec (cond b 9 8) 0 0 ∷ rs
ending_divides d b rs low = rw (ne_eqb d 0 (λ e. omega arith))

-- every plain slot given one has a slot
abbrev pub Positive : List ℕ → Type 0
Positive given = (k : ℕ) → 1 ≤ k → k ≤ length given → 1 ≤ slot_in given k

-- of a row whose last held column is j: used in or after column t, it is used after it unless that is the last use
used_last : (m t j : ℕ) → m ≤ t → t ≤ max m j → ltb t j ≡ not (eqb (max m j) t)
used_last m t j low high = elim (dec_le j t) [
  | yes done ↦ le-ltb t j done ∙ sym (ap not (eq-eqb (max m j) t (omega arith)))
  | no more ↦ lt-ltb t j (omega arith) ∙ sym (ap not (ne_eqb (max m j) t (λ e. omega arith)))
]

-- the records of a row of formulas
abbrev pub all : List Formula → List Record
all fs = joined (map records_of fs)

module _ (N : ℕ) (L : Plan) where
  -- (m, h) is used last in the formula of (m, t), or in y(m) for t = m
  abbrev pub dies_at : ℕ → ℕ → ℕ → Bool
  dies_at m t h = held N L m h && eqb (max m (last_right N L h)) t

  -- the slot given for place (i, j)
  abbrev pub room_in : List ℕ → ℕ → ℕ → ℕ
  room_in given i j = slot_in given (slot N L i j)

  -- the free slots after a formula of row m, its pivot's apart
  abbrev pub row_freed : List ℕ → ℕ → ℕ → List ℕ → List ℕ
  row_freed given m t free = freed_row (room_in given m) (dies_at m t) 1 (m - 1) free

module _ (N : ℕ) (L : Plan) (pivots : (m : ℕ) → 1 ≤ m → m ≤ N → held N L m m ≡ true) where
  -- y(m), for t = m, or u(m,t): o is open, and the product of h is l(m,h) times `second h`
  module _ (m t o : ℕ) (tb : Table) (second : ℕ → ℕ) (keep : ℕ → Bool) (b : Bool) (given : List ℕ) (made : ℕ) where
    abbrev left_over : List Record
    left_over = all (row_from N L m (suc t))

    abbrev pair : ℕ → ℕ × ℕ
    pair h = (slot N L m h, second h)

    -- the products after that of h, and the records after it
    abbrev above : ℕ → List (ℕ × ℕ)
    above h = map pair (kept keep (rising (λ k. k) (suc h) (m - suc h)))

    abbrev later : ℕ → List Record
    later h = product_records tb (above h) ++ (ending (slot N L m m) b ++ left_over)

    record Row : Type 0 where
      inside : (1 ≤ m) × (m ≤ t) × (t ≤ N)
      given-all : (h : ℕ) → 1 ≤ h → h ≤ m → held N L m h ≡ true → 1 ≤ room_in N L given m h
      apart : (h : ℕ) → 1 ≤ h → h ≤ m → held N L m h ≡ true → eqb (slot N L m h) o ≡ false
      others_apart : (h q : ℕ) → 1 ≤ h → h < q → q < m → held N L m h ≡ true → keep q ≡ true → eqb (slot N L m h) (in_c tb (second q)) ≡ false
      lives : (h : ℕ) → 1 ≤ h → h < m → keep h ≡ true → (held N L m h ≡ true) × (t ≤ max m (last_right N L h))
      dead : (h : ℕ) → 1 ≤ h → h < m → keep h ≡ false → dies_at N L m t h ≡ false
      second_stays : (h : ℕ) → 1 ≤ h → h < m → keep h ≡ true → unless (needed o (in_c tb (second h)) (later h)) (slot_in given (in_c tb (second h))) ≡ 0
      target_stays : unless (needed 0 o left_over) (slot_in given o) ≡ 0

    module _ (row : Row) where
      -- none of its later products reads l(m,h) again
      unread : (h : ℕ) → 1 ≤ h → h < m → held N L m h ≡ true → read_by tb (slot N L m h) (above h) ≡ false
      unread h low high there = read_none tb (slot N L m h) _ (map_each _ _ _ (kept_where _ _ _ (rising-each _ _ (suc h) (m - suc h) λ q a c k. (
        other N L m h (omega (arith, row.inside)) there m q (omega (arith, row.inside)) (row.lives q (omega arith) (omega arith) k).0 (omega arith),
        row.others_apart h q low a (omega arith) there k,
      ))))

      -- it is used last where no later place of its row is held
      first_dies : (h : ℕ) → 1 ≤ h → h < m → keep h ≡ true → needed o (slot N L m h) (later h) ≡ not (dies_at N L m t h)
      first_dies h low high k =
          let lives = row.lives h low high k in
          let there = lives.0 in
          let here : Inside N m h = omega (arith, row.inside) in
          let pivot = other N L m h here there m m (omega (arith, row.inside)) (pivots m row.inside.0 (omega (arith, row.inside))) (omega arith) in
          tail_needed tb o (slot N L m m) b (slot N L m h) (above h) left_over (slot-range N L m h here there).0
          ∙ rw (unread h low high there, pivot, row.apart h low (omega arith) there, there)
          (row_needs N L pivots m h here there (omega arith) t row.inside.1 ∙ used_last m t (last_right N L h) row.inside.1 lives.1)

      final_row : (free : List ℕ) → let F = row_freed N L given m t free in
          final (standing o given free made) (product_records tb (map pair (kept keep (rising (λ k. k) 1 (m - 1)))) ++ (ending (slot N L m m) b ++ left_over))
          ≡ final (standing 0 given (cond (ltb t (last_right N L m)) F (room_in N L given m m ∷ F)) made) left_over
      final_row free =
          let F = row_freed N L given m t free in
          let pivot = pivots m row.inside.0 (omega (arith, row.inside)) in
          let here : Inside N m m = omega (arith, row.inside) in
          let some = (slot-range N L m m here pivot).0 in
          let closing = rec (cond b 9 8) 0 0 ∷ left_over in
          let last : needed o (slot N L m m) closing ≡ ltb t (last_right N L m) =
          needed-closing (slot N L m m) some o b left_over
          ∙ rw (row.apart m row.inside.0 (omega arith) pivot) (row_needs N L pivots m m here pivot (omega arith) t row.inside.1) in
          final_products tb o given made pair keep (dies_at N L m t) (ending (slot N L m m) b ++ left_over) m 1 (m - 1) free (omega (arith, row.inside))
          (λ h low high k. record {
            first = first_dies h low high k;
            second = row.second_stays h low high k;
            given-one = row.given-all h low (omega arith) (row.lives h low high k).0;
          }) (λ h low high k. row.dead h low high k)
          ∙ ap (final (standing o given F made)) (ending_divides (slot N L m m) b left_over some)
          ∙ final_divides given F made o (slot N L m m) closing (row.given-all m row.inside.0 (omega arith) pivot)
          ∙ ap (λ n. final (standing o given (cond n F (room_in N L given m m ∷ F)) made) closing) last
          ∙ final_closes given (cond (ltb t (last_right N L m)) F (room_in N L given m m ∷ F)) made o b left_over row.target_stays

  -- ---- y(m)

  -- the labels of row m up to the diagonal come before the end of column m
  pub label-row : (m h : ℕ) → 1 ≤ m → h ≤ m → m ≤ N → 1 ≤ h → label N m h ≤ label N N m
  label-row m h low left high some = elim (dec_le m h) [
    | yes e ↦ let same : h ≡ m = omega arith in rw same (omega (arith, label_in_column N N m high))
    | no e ↦ omega (arith, label_earlier N m h N m (omega arith) (omega arith) (omega arith))
  ]

  -- an opening of Y takes and frees nothing
  final_starts : (given free : List ℕ) (made p : ℕ) (rs : List Record)
      → final (standing 0 given free made) (rec 2 p 0 ∷ rs) ≡ final (standing 0 given free made) rs
  unfolding renamed after_record kind_of kept
  final_starts given free made p rs =
      ap (λ f. final (standing 0 given f made) rs) (released-none free (unless_none (needed 0 0 rs)) (unless_none (needed 0 0 rs)))

  module _ (given free : List ℕ) (made : ℕ) (positive : Positive given) where
    -- a place before label n + 1 was given a slot
    given-one : (n i j : ℕ) → length given ≡ closed_slots N L n → Inside N i j → held N L i j ≡ true → label N i j ≤ n → 1 ≤ room_in N L given i j
    given-one n i j opened inside there done = let r = slot-closed N L i j n inside there done in positive (slot N L i j) r.0 (omega arith)

    pub final_forward : (m : ℕ) → 1 ≤ m → m ≤ N → length given ≡ closed_slots N L (label N N m) → let F = row_freed N L given m m free in
        final (standing 0 given free made) (all (forward_at N L m ∷ row_from N L m (suc m)))
        ≡ final (standing 0 given (cond (ltb m (last_right N L m)) F (room_in N L given m m ∷ F)) made) (all (row_from N L m (suc m)))
    unfolding joined records_of forward opening
    final_forward m low high opened =
        ap (final (standing 0 given free made)) (ap (λ l. rec 2 m 0 ∷ l) (append_assoc products (ending (slot N L m m) false) (all (row_from N L m (suc m)))))
        ∙ final_starts given free made m _
        ∙ final_row m m 0 Y (λ h. h) (held N L m) false given made row free
      where
        products : List Record
        products = product_records Y (map (λ h. (slot N L m h, h)) (kept (held N L m) (rising (λ h. h) 1 (m - 1))))

        row : Row m m 0 Y (λ h. h) (held N L m) false given made
        row = record {
          inside = omega arith;
          given-all = λ h a b e. given-one (label N N m) m h opened (omega arith) e (label-row m h low b high a);
          apart = λ h a b e. ne_eqb (slot N L m h) 0 (λ z. omega (arith, slot-range N L m h (omega arith) e));
          others_apart = λ h q a b c e k. ne_eqb (slot N L m h) 0 (λ z. omega (arith, slot-range N L m h (omega arith) e));
          lives = λ h a b k. (k, omega arith);
          dead = λ h a b k. rw k;
          second_stays = λ h a b k. unless_none (needed 0 0 _);
          target_stays = unless_none (needed 0 0 _);
        }

  -- ---- u(m,t) and l(i,m): the next place, of label n + 1, is given a slot

  -- with the next slot given, the earlier ones stay
  pub longer_positive : (given free : List ℕ) (made : ℕ) → Positive given → Each (λ k. 1 ≤ k) free → Positive (longer given free made)
  longer_positive given free made positive some k low high = elim (dec_le k (length given)) [
    | yes old ↦ rw (slot-before given (taken free made) k low old) (positive k low old)
    | no new ↦ rw (last k (omega (arith, high, length-append given (taken free made ∷ [])))) (taken-some free some)
  ]
    where
      last : (k : ℕ) → k ≡ suc (length given) → slot_in (longer given free made) k ≡ taken free made
      last k e = ap (slot_in (longer given free made)) e ∙ slot_last given (taken free made)

      taken-some : (free : List ℕ) → Each (λ k. 1 ≤ k) free → 1 ≤ taken free made
      taken-some [] each = omega arith
      taken-some (k ∷ ks) each = each k (Memᴰ.head refl)

  -- where (m, h) and (h, t) are not both held, no factor is used last
  none_dies : (m t h : ℕ) → m < t → h < m → (held N L m h && held N L h t) ≡ false → dies_at N L m t h ≡ false
  none_dies m t h right below k = step (held N L m h) (eqb (max m (last_right N L h)) t) refl k
    where
      step : (a b : Bool) → eqb (max m (last_right N L h)) t ≡ b → (a && held N L h t) ≡ false → (a && b) ≡ false
      step false b e k = refl
      step true false e k = refl
      step true true e k =
          let last : last_right N L h ≡ t = omega (arith, eqb-true (max m (last_right N L h)) t e) in
          absurd (true≢false (sym (rw last at (last_held N L h (omega arith)).1) ∙ k))

  module _ (n : ℕ) (given free : List ℕ) (made : ℕ) (closed : length given ≡ closed_slots N L n) (positive : Positive (longer given free made)) where
    abbrev now : List ℕ
    now = longer given free made

    -- the slots of the places before it, and its own
    before-given : (i j : ℕ) → Inside N i j → held N L i j ≡ true → label N i j ≤ n → 1 ≤ room_in N L now i j
    before-given i j inside there done =
        let r = slot-closed N L i j n inside there done in
        positive (slot N L i j) r.0 (omega (arith, r.1, closed, length-append given (taken free made ∷ [])))

    pub final_upper : (m t : ℕ) → Inside N m t → m < t → held N L m t ≡ true → suc n ≡ label N m t → let F = row_freed N L now m t (others free) in
        final (standing 0 given free made) (all (upper_at N L m t ∷ row_from N L m (suc t)))
        ≡ final (standing 0 now (cond (ltb t (last_right N L m)) F (room_in N L now m m ∷ F)) (made_with free made)) (all (row_from N L m (suc t)))
    unfolding joined records_of upper opening inner
    final_upper m t inside right there next =
        ap (final (standing 0 given free made))
        (ap (λ l. rec 1 (position L (label N m t)) (slot N L m t) ∷ l)
        (append_assoc products (ending (slot N L m m) false) (all (row_from N L m (suc t)))))
        ∙ final_opens given free made (position L (label N m t)) (slot N L m t) _ (slot_new N L n m t inside next there ∙ ap suc (sym closed))
        ∙ final_row m t (slot N L m t) C (λ h. slot N L h t) keep false now (made_with free made) row (others free)
      where
        keep : ℕ → Bool
        keep h = held N L m h && held N L h t

        pairs : ℕ → ℕ → List (ℕ × ℕ)
        pairs a d = map (λ h. (slot N L m h, slot N L h t)) (kept keep (rising (λ h. h) a d))

        products : List Record
        products = product_records C (pairs 1 (m - 1))

        row : Row m t (slot N L m t) C (λ h. slot N L h t) keep false now (made_with free made)
        row = record {
          inside = omega arith;
          given-all = λ h a b e. before-given m h (omega arith) e
              (omega (
                arith,
                label-row m h (omega arith) b (omega arith) a,
                label_in_column N N m (omega arith),
                label_in_row N m t (omega arith) (omega arith) right,
              ));
          apart = λ h a b e. other N L m h (omega arith) e m t inside there (omega arith);
          others_apart = λ h q a b c e k. other N L m h (omega arith) e q t (omega arith) (both (held N L m q) (held N L q t) k).1 (omega arith);
          lives = λ h a b k. let e = both (held N L m h) (held N L h t) k in (e.0, omega (arith, last-right N L h t (omega arith) (omega arith) e.1));
          dead = λ h a b k. none_dies m t h right b k;
          second_stays = λ h a b k. let e = both (held N L m h) (held N L h t) k in
              let stays = row_needs_upper N L pivots m (suc t) h t (omega arith) e.1 (omega arith) in
              ap (λ n. unless n (room_in N L now h t)) (tail_keeps C (slot N L m t) (slot N L m m) false (slot N L h t) (pairs (suc h) (m - suc h))
              (all (row_from N L m (suc t))) (slot-range N L h t (omega arith) e.1).0 stays);
          target_stays = ap (λ n. unless n (room_in N L now m t)) (row_needs_upper N L pivots m (suc t) m t inside there right);
        }

    -- and l(i,m) frees nothing
    pub final_lower : (m i : ℕ) → Inside N i m → m ≤ i → held N L i m ≡ true → suc n ≡ label N i m
        → final (standing 0 given free made) (all (lower_at N L i m ∷ column_from N L m (suc i)))
        ≡ final (standing 0 now (others free) (made_with free made)) (all (column_from N L m (suc i)))
    unfolding joined records_of lower opening inner
    final_lower m i inside left there next =
        ap (final (standing 0 given free made))
        (ap (λ l. rec 1 (position L (label N i m)) (slot N L i m) ∷ l) (append_assoc (product_records C (pairs 1 (m - 1))) (ending 0 (eqb i m)) rest))
        ∙ final_opens given free made (position L (label N i m)) (slot N L i m) _ (slot_new N L n i m inside next there ∙ ap suc (sym closed))
        ∙ final_products C (slot N L i m) now (made_with free made) (λ h. (slot N L i h, slot N L h m)) keep (λ h. false) (ending 0 (eqb i m) ++ rest)
        m 1 (m - 1) (others free) (omega (arith, inside)) lasting (λ h a b k. refl)
        ∙ ap (λ f. final (standing (slot N L i m) now f (made_with free made)) (ending 0 (eqb i m) ++ rest))
        (freed-none (room_in N L now i) (λ h. false) 1 (m - 1) (others free) (λ h a b. refl))
        ∙ final_closes now (others free) (made_with free made) (slot N L i m) (eqb i m) rest
        (ap (λ n. unless n (room_in N L now i m)) (column_needs_lower N L pivots m (suc i) i m inside there left left))
      where
        keep : ℕ → Bool
        keep h = held N L i h && held N L h m

        rest : List Record
        rest = all (column_from N L m (suc i))

        pairs : ℕ → ℕ → List (ℕ × ℕ)
        pairs a d = map (λ h. (slot N L i h, slot N L h m)) (kept keep (rising (λ h. h) a d))

        tail : (h j : ℕ) → 1 ≤ j → needed 0 j rest ≡ true
            → needed (slot N L i m) j (product_records C (pairs (suc h) (m - suc h)) ++ (ending 0 (eqb i m) ++ rest)) ≡ true
        tail h j low e = tail_keeps C (slot N L i m) 0 (eqb i m) j (pairs (suc h) (m - suc h)) rest low e

        lasting : (h : ℕ) → 1 ≤ h → h < m → keep h ≡ true
            → Lasting C (slot N L i m) now (made_with free made) (λ h. (slot N L i h, slot N L h m)) keep (λ h. false) (ending 0 (eqb i m) ++ rest) m h
        lasting h a b k =
            let e = both (held N L i h) (held N L h m) k in
            let first : Inside N i h = omega (arith, inside) in
            let second : Inside N h m = omega (arith, inside) in
            record {
              first = tail h (slot N L i h) (slot-range N L i h first e.0).0 (column_needs_lower N L pivots m (suc i) i h first e.0 (omega arith) left);
              second = ap (λ n. unless n (room_in N L now h m))
                  (tail h (slot N L h m) (slot-range N L h m second e.1).0 (column_needs_upper N L pivots m (suc i) h m second e.1 b));
              given-one = before-given i h first e.0 (omega (arith, label_earlier N i h i m first inside (omega arith)));
            }
