-- What is carried on: the laws of a row of words and of a shifted number. Document 02, A.4.
use Rattle.std.proofs.Common.{◌≡◌, ℕ, zero, suc, ◌+◌, ◌-◌, ◌*◌, ◌^◌, ◌<◌, ◌≤◌, Bool, true, false, List, [], ◌∷◌, ◌++◌, length, get_or, set, take, drop, sym, refl, ap, ◌∙◌, add-zero, arith, length-set, length-append, length-take, length-drop, append-nil, pow-add}
use lib.ListN.{drop_of_length-le}
use lib.Seq.{take_all}
use Rattle.model.specs.Residual.{joined64}
use Rattle.sums.specs.Added.{Changed, Carrying, three_at}

-- ---- a row of words

weight_next : (i next : ℕ) → next ≡ i + 1 → 2 ^ (64 * next) ≡ 2 ^ 64 * 2 ^ (64 * i)
weight_next i next h = let e : 64 * next ≡ 64 + 64 * i = omega arith in ap (λ k. 2 ^ k) e ∙ pow-add 2 64 (64 * i)

-- a word put at i: what the row changes by
set-joined : (words : List ℕ) (i word : ℕ) → i < length words
    → joined64 (set words i word) + get_or words i 0 * 2 ^ (64 * i) ≡ joined64 words + word * 2 ^ (64 * i)
unfolding joined64
set-joined [] i word h = absurd (omega arith)
set-joined (w ∷ words) zero word h = omega arith
set-joined (w ∷ words) (suc i) word h =
    go w (2 ^ 64) _ _ (get_or words i 0) word (2 ^ (64 * i)) _ (weight_next i (suc i) (omega arith)) (set-joined words i word (omega arith))
  where
    go : (w b new old g v p q : ℕ) → q ≡ b * p → new + g * p ≡ old + v * p → w + b * new + g * q ≡ w + b * old + v * q
    go w b new old g v p q e h = rw e (omega (arith, ap (λ n. b * n) h))

-- nothing is changed yet, and the whole number is to be carried
pub start : (minus : Bool) (a n : ℕ) → Carrying minus a n a n
start false a n = refl
start true a n = refl

-- a turn of the carry: the word at i is changed, and what it carries on stands at the index after i
pub carry_on : (minus : Bool) (before words : List ℕ) (n i j carry word next : ℕ) → j ≡ i + 1 → i < length words
    → Carrying minus (joined64 before) n (joined64 words) (carry * 2 ^ (64 * i)) → Carrying minus (get_or words i 0) carry word (2 ^ 64 * next)
    → Carrying minus (joined64 before) n (joined64 (set words i word)) (next * 2 ^ (64 * j))
carry_on minus before words n i j carry word next e h all one =
    go minus _ _ _ _ _ _ _ next (2 ^ 64) (2 ^ (64 * i)) _ (weight_next i j e) (set-joined words i word h) all one
  where
    go : (minus : Bool) (a n b b' w c w' c' k p q : ℕ) → q ≡ k * p → b' + w * p ≡ b + w' * p
        → Carrying minus a n b (c * p) → Carrying minus w c w' (k * c') → Carrying minus a n b' (c' * q)
    go false a n b b' w c w' c' k p q e s all one = rw e (omega (arith, ap (λ x. x * p) one))
    go true a n b b' w c w' c' k p q e s all one = rw e (omega (arith, ap (λ x. x * p) one))

-- more to carry on: a further word of what the row is changed by
carry_more : (minus : Bool) (before n after carry more weight : ℕ) → Carrying minus before n after (carry * weight)
    → Carrying minus before (n + more * weight) after ((more + carry) * weight)
carry_more false before n after carry more weight h = omega arith
carry_more true before n after carry more weight h = omega arith

-- three words in a row, each changed by its part and by what the one before carries on
pub three_changed : (minus : Bool) (words : List ℕ) (i low middle high first second third c d e : ℕ) → i + 2 < length words
    → Carrying minus (get_or words i 0) (low + 0) first (2 ^ 64 * c)
    → Carrying minus (get_or (set words i first) (i + 1) 0) (middle + c) second (2 ^ 64 * d)
    → Carrying minus (get_or (set (set words i first) (i + 1) second) (i + 2) 0) (high + d) third (2 ^ 64 * e)
    → Carrying minus (joined64 words) (three_at i low middle high)
    (joined64 (set (set (set words i first) (i + 1) second) (i + 2) third)) (e * 2 ^ (64 * (i + 3)))
three_changed minus words i low middle high first second third c d e h p q r =
    let one = set words i first in
    let two = set one (i + 1) second in
    let at_one = carry_on minus words words _ i (i + 1) low first c refl (omega arith) (start minus _ _) (rw add-zero at p) in
    let at_two = carry_on minus words one _ (i + 1) (i + 2) (middle + c) second d (omega arith) (simp length-set (omega arith))
    (carry_more minus _ _ _ c middle _ at_one) q in
    carry_on minus words two _ (i + 2) (i + 3) (high + d) third e (omega arith) (simp length-set (omega arith)) (carry_more minus _ _ _ d high _ at_two) r

-- where what is left to carry stands past the end, the row is changed
pub row-changed : (minus : Bool) (before words : List ℕ) (n carry over : ℕ) → length words ≡ length before → carry ≡ over * 2 ^ (64 * length before)
    → Carrying minus (joined64 before) n (joined64 words) carry → Changed minus before n words
row-changed false before words n carry over size e all = record { over = over; size = size; sum = ap (λ c. joined64 words + c) (sym e) ∙ all }
row-changed true before words n carry over size e all =
    record { over = over; size = sym size; sum = ap (λ l. joined64 before + over * 2 ^ (64 * l)) size ∙ ap (λ c. joined64 before + c) (sym e) ∙ all }

-- other words from at on: what the row changes by
rest-joined : (words rest : List ℕ) (at : ℕ) → at ≤ length words
    → joined64 (take at words ++ rest) + joined64 (drop at words) * 2 ^ (64 * at) ≡ joined64 words + joined64 rest * 2 ^ (64 * at)
unfolding joined64
rest-joined words rest zero h = omega arith
rest-joined [] rest (suc at) h = absurd (omega arith)
rest-joined (w ∷ words) rest (suc at) h =
    go w (2 ^ 64) _ _ (joined64 (drop at words)) (joined64 rest) (2 ^ (64 * at)) _ (weight_next at (suc at) (omega arith)) (rest-joined words rest at (omega arith))
  where
    go : (w b new old g v p q : ℕ) → q ≡ b * p → new + g * p ≡ old + v * p → w + b * new + g * q ≡ w + b * old + v * q
    go w b new old g v p q e h = rw e (omega (arith, ap (λ n. b * n) h))

-- the words from at on are changed
rest_changed : (minus : Bool) (words rest : List ℕ) (at n : ℕ) → at ≤ length words → Changed minus (drop at words) n rest
    → Changed minus words (n * 2 ^ (64 * at)) (take at words ++ rest)
rest_changed minus words rest at n h = by_sign minus
  where
    size : length rest ≡ length (drop at words) → length (take at words ++ rest) ≡ length words
    size e = simp (length-append, length-take, e, length-drop) (omega arith)

    weight : (k : ℕ) → k ≡ length words → 2 ^ (64 * k) ≡ 2 ^ (64 * length (drop at words)) * 2 ^ (64 * at)
    weight k e =
        let parts : 64 * k ≡ 64 * length (drop at words) + 64 * at = simp length-drop (omega arith) in
        ap (λ x. 2 ^ x) parts ∙ pow-add 2 (64 * length (drop at words)) (64 * at)

    by_sign : (minus : Bool) → Changed minus (drop at words) n rest → Changed minus words (n * 2 ^ (64 * at)) (take at words ++ rest)
    by_sign false p = record {
      over = p.over;
      size = size p.size;
      sum = rw (weight (length words) refl) (omega (arith, rest-joined words rest at h, ap (λ x. x * 2 ^ (64 * at)) p.sum));
    }
    by_sign true p = record {
      over = p.over;
      size = sym (size (sym p.size));
      sum = rw (weight (length (take at words ++ rest)) (size (sym p.size)))
          (omega (arith, rest-joined words rest at h, ap (λ x. x * 2 ^ (64 * at)) (rw (← p.size) at p.sum)));
    }

-- the same as a loop over the words from at on leaves them
pub rest-changed : (minus : Bool) (words rest : List ℕ) (at n : ℕ) → at ≤ length words → Changed minus (take (length words - at) (drop at words)) n rest
    → Changed minus words (n * 2 ^ (64 * at)) (take at words ++ (rest ++ drop (length words - at) (drop at words)))
rest-changed minus words rest at n h p =
    let size : length (drop at words) ≤ length words - at = simp length-drop (omega arith) in
    rw (drop_of_length-le (drop at words) size, append-nil) (rest_changed minus words rest at n h (rw (take_all (length words - at) (drop at words) size) at p))

-- ---- a shifted number

-- two words at a shift are three words
pub three_words : (a b low middle high more at by shift : ℕ) → shift ≡ by + 64 * at → low + more * 2 ^ 64 ≡ a * 2 ^ by + 0
    → middle + high * 2 ^ 64 ≡ b * 2 ^ by + more → three_at at low middle high ≡ (a + 2 ^ 64 * b) * 2 ^ shift
three_words a b low middle high more at by shift e f g =
    go _ _ _ _ _ _ _ (2 ^ 64) _ (2 ^ by) _ (weight_next at (at + 1) refl) (weight_next (at + 1) (at + 2) (omega arith))
    (ap (λ k. 2 ^ k) e ∙ pow-add 2 by (64 * at)) f g
  where
    go : (a b low middle high more p k q w s : ℕ) {r : ℕ} → q ≡ k * p → r ≡ k * q → s ≡ w * p → low + more * k ≡ a * w + 0 → middle + high * k ≡ b * w + more
        → low * p + middle * q + high * r ≡ (a + k * b) * s
    go a b low middle high more p k q w s eq er es f g = rw (er, eq, es) (omega (arith, ap (λ x. x * p) f, ap (λ x. x * (k * p)) g))

-- a change that carries on past an index, and the change by what is carried
pub changed_on : (minus : Bool) (a b c : List ℕ) (n m carry : ℕ) → n ≡ m → length b ≡ length a
    → Carrying minus (joined64 a) n (joined64 b) carry → Changed minus b carry c → Changed minus a m c
changed_on false a b c n m carry e size p q =
    record { over = q.over; size = q.size ∙ size; sum = go _ _ _ _ _ _ e p (ap (λ l. joined64 c + q.over * 2 ^ (64 * l)) (sym size) ∙ q.sum) }
  where
    go : (a b n m carry r : ℕ) → n ≡ m → b + carry ≡ a + n → r ≡ b + carry → r ≡ a + m
    go a b n m carry r e p q = omega arith
changed_on true a b c n m carry e size p q =
    record { over = q.over; size = sym size ∙ q.size; sum = go _ _ _ _ _ _ _ e p q.sum }
  where
    go : (a b c n m carry r : ℕ) → n ≡ m → a + carry ≡ b + n → b + r ≡ c + carry → a + r ≡ c + m
    go a b c n m carry r e p q = omega arith
