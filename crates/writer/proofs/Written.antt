-- Writing records one after another: what is written piece by piece is what the pieces are together.
use Prim.Native.Nat.{ℕ, suc, ◌+◌, ◌-◌, ◌*◌, ◌≤◌}
use native.Mathlib.Omega.{arith}
use native.Mathlib.Numerals.{add-one, add-two, add-three}
use mathlib.Core.Path.{◌≡◌, refl, sym, ap, ◌∙◌}
use mathlib.Core.List.{List, [], ◌∷◌, ◌++◌, append_assoc, append-nil}
use mathlib.Core.Bool.{and-false}
use mathlib.Core.Logic.{◌⊎◌, ⊎_elim}
use borrow.Author.Tests.{lt-ltb}
use lib.Dec.{ltb}
use lib.ListN.{length, take, drop, set, length-append, length-drop, take-append-drop, drop_of_length-le}
use lib.Seq.{length-take-le, take_all, take_at, drop-drop, drop-append-add, sets-eq}
use Rattle.model.specs.Program.{Record, rec}
use Rattle.writer.specs.Written.{linked, pasted, Room, Wrote, product_of}

pub linked-length : (k : ℕ) (rs : List Record) → length (linked k rs) ≡ 4 * length rs
unfolding linked
linked-length k [] = refl
linked-length k (r ∷ rs) = omega (arith, linked-length (suc k) rs)

linked-append : (k : ℕ) (rs ss : List Record) → linked k (rs ++ ss) ≡ linked k rs ++ linked (k + length rs) ss
unfolding linked
linked-append k [] ss = ap (λ n. linked n ss) (omega arith)
linked-append k (r ∷ rs) ss =
    ap (λ ws. r.kind ∷ r.p ∷ r.q ∷ suc k ∷ ws) (linked-append (suc k) rs ss ∙ ap (λ n. linked (suc k) rs ++ linked n ss) (omega arith))

-- ---- lists of words

pasted_length : (a : ℕ) (xs ws : List ℕ) → a + length xs ≤ length ws → length (pasted a xs ws) ≡ length ws
unfolding pasted
pasted_length a xs ws fits = rw (length-append, length-append, length-take-le a ws (omega arith), length-drop) (omega arith)

pasted-none : (a : ℕ) (ws : List ℕ) → pasted a [] ws ≡ ws
unfolding pasted
pasted-none a ws = let same : a + 0 ≡ a = omega arith in rw same (take-append-drop a ws)

pasted-pasted : (a : ℕ) (xs ys ws : List ℕ) → a + length xs ≤ length ws → pasted (a + length xs) ys (pasted a xs ws) ≡ pasted a (xs ++ ys) ws
unfolding pasted
pasted-pasted a xs ys ws fits =
    rw (← append_assoc (take a ws) xs (drop (a + length xs) ws), take_at (take a ws ++ xs) (drop (a + length xs) ws) (a + length xs) long, rest)
    (simp append_assoc)
  where
    long : length (take a ws ++ xs) ≡ a + length xs
    long = rw (length-append, length-take-le a ws (omega arith))

    rest : drop (a + length xs + length ys) ((take a ws ++ xs) ++ drop (a + length xs) ws) ≡ drop (a + length (xs ++ ys)) ws
    rest =
        let whole : a + length (xs ++ ys) ≡ a + length xs + length ys = omega (arith, length-append xs ys) in
        rw (whole, ← long, drop-append-add, long, drop-drop)

-- ---- records

module _ {o k : ℕ} {ws : List ℕ} where
  pub wrote_length : {rs : List Record} {ws' : List ℕ} {k' : ℕ} → Room o k rs ws → Wrote o k rs ws ws' k' → length ws' ≡ length ws
  wrote_length {rs} room wrote = ap length wrote.words ∙ pasted_length _ (linked k rs) ws (omega (arith, linked-length k rs))

  -- nothing written
  pub wrote_none : Wrote o k [] ws ws k
  unfolding linked
  wrote_none = record { words = sym (pasted-none _ ws); next-is = omega arith }

  -- four words set
  pub wrote_one : (kind p q : ℕ) → Room o k (rec kind p q ∷ []) ws → (at : ℕ) → at ≡ 4 * (k - o)
      → Wrote o k (rec kind p q ∷ []) ws (set (set (set (set ws at kind) (at + 1) p) (at + 2) q) (at + 3) (k + 1)) (k + 1)
  unfolding linked pasted
  wrote_one kind p q room at e =
      record {
        words = rw (add-one, add-two, add-three, add-one, e)
            (sets-eq (kind ∷ p ∷ q ∷ suc k ∷ []) ws (4 * (k - o)) (omega arith) ∙ append_assoc (take (4 * (k - o)) ws) _ _);
        next-is = refl;
      }

  -- one part after another
  pub wrote_more : {rs ss : List Record} {ws' ws'' : List ℕ} {k' k'' : ℕ} → Room o k (rs ++ ss) ws
      → Wrote o k rs ws ws' k' → Wrote o k' ss ws' ws'' k'' → Wrote o k (rs ++ ss) ws ws'' k''
  wrote_more {rs} {ss} {k' = k'} room front back =
      let long = length-append rs ss in
      let start : 4 * (k' - o) ≡ 4 * (k - o) + length (linked k rs) = omega (arith, linked-length k rs) in
      record {
        words = back.words ∙ rw (front.words, start, front.next-is, linked-append) (pasted-pasted _ (linked k rs) _ ws (omega arith));
        next-is = omega arith;
      }

  pub room-front : {rs : List Record} (ss : List Record) → Room o k (rs ++ ss) ws → Room o k rs ws
  room-front {rs} ss room = omega (arith, length-append rs ss)

  pub room_back : {rs ss : List Record} {ws' : List ℕ} {k' : ℕ} → Room o k (rs ++ ss) ws → Wrote o k rs ws ws' k' → Room o k' ss ws'
  room_back {rs} {ss} room wrote = omega (arith, length-append rs ss, wrote_length (room-front ss room) wrote)

-- Writing under way: of `all`, which goes into ws₀ from record k₀ on, `left` is still to be written, from record k on into ws.
pub record Writing (o k₀ : ℕ) (all : List Record) (ws₀ : List ℕ) (k : ℕ) (left : List Record) (ws : List ℕ) : Type 0 where
  pub room : Room o k left ws
  pub goes_on : (ws' : List ℕ) (k' : ℕ) → Wrote o k left ws ws' k' → Wrote o k₀ all ws₀ ws' k'

pub writing_starts : {o k : ℕ} {all : List Record} {ws : List ℕ} → Room o k all ws → Writing o k all ws k all ws
writing_starts room = record { room = room; goes_on = λ ws' k' wrote. wrote }

-- what is left is the records rs and then more: there is room for rs; rs is written; and rs is written, the last of all
module _ {o k₀ k : ℕ} {all left rs : List Record} {ws₀ ws : List ℕ} (w : Writing o k₀ all ws₀ k left ws) where
  pub writing_room : (more : List Record) → left ≡ rs ++ more → Room o k rs ws
  writing_room more e = room-front more (rw e at w.room)

  pub writing_more : {more : List Record} {ws' : List ℕ} {k' : ℕ} → Wrote o k rs ws ws' k' → left ≡ rs ++ more → Writing o k₀ all ws₀ k' more ws'
  writing_more {more} wrote e =
      let room : Room o k (rs ++ more) ws = rw e at w.room in
      record {
        room = room_back room wrote;
        goes_on = λ ws'' k'' rest. w.goes_on ws'' k'' (rw e (wrote_more room wrote rest));
      }

  pub writing_ends : {ws' : List ℕ} {k' : ℕ} → Wrote o k rs ws ws' k' → left ≡ rs → Wrote o k₀ all ws₀ ws' k'
  writing_ends {ws'} {k'} wrote e = w.goes_on ws' k' (rw e wrote)

-- four parts, one after another
pub record Parts (all first second third fourth : List Record) : Type 0 where
  pub are : all ≡ first ++ (second ++ (third ++ fourth))

module _ {o k : ℕ} {all first second third fourth : List Record} {ws : List ℕ} (parts : Parts all first second third fourth) (room : Room o k all ws) where
  pub first-room : Room o k first ws
  first-room = writing_room (writing_starts room) _ parts.are

  module _ {ws₁ : List ℕ} {k₁ : ℕ} (a : Wrote o k first ws ws₁ k₁) where
    after_first : Writing o k all ws k₁ (second ++ (third ++ fourth)) ws₁
    after_first = writing_more (writing_starts room) a parts.are

    pub second_room : Room o k₁ second ws₁
    second_room = writing_room after_first _ refl

    module _ {ws₂ : List ℕ} {k₂ : ℕ} (b : Wrote o k₁ second ws₁ ws₂ k₂) where
      after_second : Writing o k all ws k₂ (third ++ fourth) ws₂
      after_second = writing_more after_first b refl

      pub third_room : Room o k₂ third ws₂
      third_room = writing_room after_second _ refl

      module _ {ws₃ : List ℕ} {k₃ : ℕ} (c : Wrote o k₂ third ws₂ ws₃ k₃) where
        after_third : Writing o k all ws k₃ fourth ws₃
        after_third = writing_more after_second c refl

        pub fourth_room : Room o k₃ fourth ws₃
        fourth_room = after_third.room

        pub parts-written : {ws₄ : List ℕ} {k₄ : ℕ} → Wrote o k₃ fourth ws₃ ws₄ k₄ → Wrote o k all ws ws₄ k₄
        parts-written d = writing_ends after_third d refl

-- ---- the rest of the words, lent from record k on

lent_whole : (ws : List ℕ) (a : ℕ) → take (length ws - a) (drop a ws) ≡ drop a ws
lent_whole ws a = take_all (length ws - a) (drop a ws) (omega (arith, length-drop a ws))

module _ {k : ℕ} {rs : List Record} {ws : List ℕ} {a : ℕ} (at : a ≡ 4 * k) where
  pub lent_room : Room 0 k rs ws → Room k k rs (take (length ws - a) (drop a ws))
  lent_room room = rw (lent_whole ws a) (omega (arith, length-drop a ws))

  pub lent_back : {part : List ℕ} {k' : ℕ} → Wrote k k rs (take (length ws - a) (drop a ws)) part k'
      → Wrote 0 k rs ws (take a ws ++ (part ++ drop (length ws - a) (drop a ws))) k'
  unfolding pasted
  lent_back wrote =
      let nothing : drop (length ws - a) (drop a ws) ≡ [] = drop_of_length-le (drop a ws) {i = length ws - a} (omega (arith, length-drop a ws)) in
      let here : 4 * (k - k) ≡ 0 = omega arith in
      let there : 4 * (k - 0) ≡ a = omega arith in
      let none : 0 + length (linked k rs) ≡ length (linked k rs) = omega arith in
      record {
        words = rw (nothing, append-nil, there, wrote.words, lent_whole ws a, here, none) (rw drop-drop);
        next-is = wrote.next-is;
      }

-- ---- one product

pub product-kept : (kind p q : ℕ) → (p ≡ 0 → ⊥) → (q ≡ 0 → ⊥) → product_of kind p q ≡ rec kind p q ∷ []
product-kept kind p q some-p some-q = rw (lt-ltb 0 p (omega arith), lt-ltb 0 q (omega arith))

pub product-left_out : (kind p q : ℕ) → (p ≡ 0) ⊎ (q ≡ 0) → product_of kind p q ≡ []
product-left_out kind p q = ⊎_elim (λ none. rw none) (λ none. rw (none, and-false (ltb 0 p)))
