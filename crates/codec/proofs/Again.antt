-- Two calls in a row: what the first wrote is given to the second, which gives the first one's input back.
use Prim.Native.Nat.{ℕ, ◌*◌, ◌/◌, ◌%◌, ◌≤◌, ◌^◌}
use native.Mathlib.Omega.{arith}
use mathlib.Core.Path.{◌≡◌, sym, ap, ap₂, ◌∙◌}
use mathlib.Core.List.{List, ◌++◌}
use lib.ListN.{length, take, drop, length-append}
use lib.Seq.{take_at}
use Rattle.model.specs.File.{bytes_of, words_of, Filed, filed, writes, reads, bytes_after, words_after}
use Rattle.model.proofs.Bytes.{Below, bytes_length, words-length, words_of_bytes, bytes_of_words}
use Rattle.refusal.specs.declared.Refusal.{Refusal}
use Rattle.std.proofs.Common.{Result, Err}
use Rattle.codec.specs.Filing.{filed_of, and_then, words_again, bytes_again, lent_after}
use Rattle.codec.proofs.Outcome.{writes-done, reads-done, written_count, made-count}

-- the first k entries of a slice are these
pub record Front (k : ℕ) (part whole : List ℕ) : Type 0 where
  pub inside : k ≤ length whole
  pub front : take k whole ≡ part
  pub count : k ≡ length (take k whole)

front_of : {part whole : List ℕ} (k : ℕ) (rest : List ℕ) → length part ≡ k → whole ≡ part ++ rest → Front k part whole
front_of {part} {whole} k rest size e =
    let front : take k whole ≡ part = ap (take k) e ∙ take_at part rest k size in
    record { inside = omega (arith, ap length e ∙ length-append part rest); front = front; count = sym (ap length front ∙ size) }

pub written-front : (ws bs : List ℕ) {whole : List ℕ} (k : ℕ) → filed k ≡ writes (length ws) (length bs) → whole ≡ bytes_after ws bs → Front k (bytes_of ws) whole
unfolding bytes_after
written-front ws bs k done e =
    front_of k (drop k bs) (bytes_length ws ∙ sym (written_count (length ws) (length bs) done)) (e ∙ ap (λ r. lent_after r (bytes_of ws) bs) (sym done))

pub made-front : (bs ws : List ℕ) {whole : List ℕ} (k : ℕ) → filed k ≡ reads (length bs) (length ws) → whole ≡ words_after bs ws → Front k (words_of bs) whole
unfolding words_after
made-front bs ws k done e =
    front_of k (drop k ws) (words-length bs ∙ sym (made-count (length bs) (length ws) done).1) (e ∙ ap (λ r. lent_after r (words_of bs) ws) (sym done))

-- the answer of both calls, and the slice lent to the second, by the first answer
module _ (answer : Filed) (next : ℕ → Filed) (content lent : List ℕ) where
  pub first-refused : {r : Result ℕ Refusal} {e y : Refusal} → r ≡ Err y → y ≡ e → filed_of (Err e) ≡ answer
      → (filed_of r ≡ and_then answer next) × (lent ≡ lent_after (and_then answer next) content lent)
  first-refused {r} {e} {y} is same told =
      let both : filed_of (Err e) ≡ and_then answer next = ap (λ r. and_then r next) told in
      (ap filed_of is ∙ ap (λ y. filed_of (Err y)) same ∙ both, ap (λ r. lent_after r content lent) both)

  pub first_done : {r : Filed} {later : List ℕ} (k : ℕ) → filed k ≡ answer → r ≡ next k → later ≡ lent_after (next k) content lent
      → (r ≡ and_then answer next) × (later ≡ lent_after (and_then answer next) content lent)
  first_done k e second after =
      let both = ap (λ r. and_then r next) e in
      (second ∙ both, after ∙ ap (λ r. lent_after r content lent) both)

-- what was written reads back as the same words, and a file that was read is written as the same bytes
pub words_back : (ws lent : List ℕ) {whole : List ℕ} (k : ℕ) → Below (2 ^ 32) ws → Front k (bytes_of ws) whole
    → (reads (length (take k whole)) (length lent) ≡ reads k (length lent)) × (words_after (take k whole) lent ≡ lent_after (reads k (length lent)) ws lent)
unfolding words_after
words_back ws lent k below f =
    let count = ap (λ n. reads n (length lent)) (sym f.count) in
    (count, ap₂ (λ r words. lent_after r words lent) count (ap words_of f.front ∙ words_of_bytes ws below))

pub bytes_back : (bs lent : List ℕ) {whole : List ℕ} (k : ℕ) → Below 256 bs → length bs % 4 ≡ 0 → Front k (words_of bs) whole
    → (writes (length (take k whole)) (length lent) ≡ writes k (length lent)) × (bytes_after (take k whole) lent ≡ lent_after (writes k (length lent)) bs lent)
unfolding bytes_after
bytes_back bs lent k below even f =
    let count = ap (λ n. writes n (length lent)) (sym f.count) in
    (count, ap₂ (λ r bytes. lent_after r bytes lent) count (ap bytes_of f.front ∙ bytes_of_words bs below even))

-- neither way is refused where the slices hold what they are to take
pub words_again_done : (words bytes again : ℕ) → words ≤ 400000000 → 4 * words ≤ bytes → words ≤ again → filed words ≡ words_again words bytes again
unfolding words_again
words_again_done words bytes again few fits room =
    let count : words ≡ 4 * words / 4 = omega arith in
    ap filed count ∙ reads-done (4 * words) again (omega arith) (omega arith) ∙ ap (λ r. and_then r (λ k. reads k again)) (writes-done words bytes few fits)

pub bytes_again_done : (bytes words again : ℕ) → bytes ≤ 1600000000 → bytes % 4 ≡ 0 → bytes / 4 ≤ words → bytes ≤ again
    → filed bytes ≡ bytes_again bytes words again
unfolding bytes_again
bytes_again_done bytes words again few even fits room =
    let count : bytes ≡ 4 * (bytes / 4) = omega arith in
    ap filed count ∙ writes-done (bytes / 4) again (omega arith) (omega arith) ∙ ap (λ r. and_then r (λ k. writes k again)) (reads-done bytes words even fits)
