-- One turn of each loop: four bytes stored for a word, and a word for four bytes.
use Prim.Native.Nat.{ℕ, zero, suc, ◌+◌, ◌*◌, ◌/◌, ◌%◌, ◌≤◌, ◌<◌}
use native.Mathlib.Omega.{arith}
use mathlib.Core.Path.{◌≡◌, refl, sym, ap, ◌∙◌}
use mathlib.Core.List.{List, [], ◌∷◌, ◌++◌}
use lib.ListN.{length, get_or, take, drop, set}
use lib.Seq.{take_all, drop-nil, drop-cons, get_or-drop}
use Rattle.model.specs.File.{bytes_of, words_of}
use Rattle.model.proofs.Bytes.{bytes_length, words-length}
use Rattle.model.proofs.Reading.{four_at, word_read}

-- the list d with the first n entries of s in front
abbrev pub copied : List ℕ → List ℕ → ℕ → List ℕ
copied s d n = take n s ++ drop n d

pub copied_all : (s d : List ℕ) (n : ℕ) → length s ≡ n → copied s d n ≡ s ++ drop n d
copied_all s d n e = ap (λ l. l ++ drop n d) (take_all n s (omega arith))

-- the next entry is stored
stored : (s d : List ℕ) (k : ℕ) → k < length s → k < length d → set (copied s d k) k (get_or s k 0) ≡ copied s d (suc k)
stored [] d k hs hd = absurd (omega arith)
stored (x ∷ s) [] k hs hd = absurd (omega arith)
stored (x ∷ s) (y ∷ d) zero hs hd = refl
stored (x ∷ s) (y ∷ d) (suc k) hs hd = ap (λ l. x ∷ l) (stored s d k (omega arith) (omega arith))

copy_more : (s d : List ℕ) (k m v : ℕ) → m ≡ suc k → get_or s k 0 ≡ v → m ≤ length s → m ≤ length d → set (copied s d k) k v ≡ copied s d m
copy_more s d k m v next entry hs hd = rw (next, ← entry) (stored s d k (omega arith) (omega arith))

bytes_drop : (ws : List ℕ) (k : ℕ) → drop (4 * k) (bytes_of ws) ≡ bytes_of (drop k ws)
unfolding bytes_of
bytes_drop [] k = drop-nil (4 * k) ∙ ap bytes_of (sym (drop-nil k))
bytes_drop (w ∷ ws) zero = refl
bytes_drop (w ∷ ws) (suc k) =
    let four : 4 * suc k ≡ suc (suc (suc (suc (4 * k)))) = omega arith in
    rw four (bytes_drop ws k)

-- the bytes of the word at k stand from 4 k on
byte_read : (ws : List ℕ) (k j n : ℕ) → k < length ws → n ≡ 4 * k + j → get_or (bytes_of ws) n 0 ≡ get_or (bytes_of (get_or ws k 0 ∷ drop (suc k) ws)) j 0
byte_read ws k j n h e =
    ap (λ i. get_or (bytes_of ws) i 0) e ∙ sym (get_or-drop (4 * k) (bytes_of ws) j 0) ∙
    ap (λ l. get_or l j 0) (bytes_drop ws k ∙ ap bytes_of (drop-cons ws k 0 h))

-- the writer's turn
abbrev pub word_stored : List ℕ → ℕ → ℕ → List ℕ
word_stored bytes at w =
    set (set (set (set bytes at (w % 256)) (at + 1) (w / 256 % 256)) (at + 2) (w / 65536 % 256)) (at + 3) (w / 16777216 % 256)

module _ (ws d : List ℕ) (k : ℕ) (below : k < length ws) (fits : 4 * length ws ≤ length d) where
  put_byte : (i j v : ℕ) → i ≡ 4 * k + j → j < 4 → get_or (bytes_of (get_or ws k 0 ∷ drop (suc k) ws)) j 0 ≡ v
      → set (copied (bytes_of ws) d i) i v ≡ copied (bytes_of ws) d (4 * k + suc j)
  put_byte i j v i-is small byte =
      let whole = bytes_length ws in
      copy_more (bytes_of ws) d i (4 * k + suc j) v (omega arith) (byte_read ws k j i below i-is ∙ byte) (omega arith) (omega arith)

  pub put-turn : word_stored (copied (bytes_of ws) d (4 * k)) (4 * k) (get_or ws k 0) ≡ copied (bytes_of ws) d (4 * (k + 1))
  unfolding bytes_of
  put-turn =
      let next : 4 * (k + 1) ≡ 4 * k + 4 = omega arith in
      rw (
        put_byte (4 * k) 0 _ (omega arith) (omega arith) refl,
        put_byte (4 * k + 1) 1 _ refl (omega arith) refl,
        put_byte (4 * k + 2) 2 _ refl (omega arith) refl,
        put_byte (4 * k + 3) 3 _ refl (omega arith) refl,
        next,
      )

-- the reader's turn
pub take-turn : (bs d : List ℕ) (k : ℕ) → k < length bs / 4 → k < length d
    → set (copied (words_of bs) d k) k (four_at bs (4 * k)) ≡ copied (words_of bs) d (k + 1)
take-turn bs d k below fits =
    let whole = words-length bs in
    copy_more (words_of bs) d k (k + 1) _ (omega arith) (word_read bs k (omega arith)) (omega arith) (omega arith)
