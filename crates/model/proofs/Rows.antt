-- The residuals of the rows, label by label, and the words that hold one: document 02, A.4.
use Prim.Native.Nat.{ℕ, zero, suc, ◌+◌, ◌-◌, ◌*◌, ◌/◌, ◌%◌, ◌^◌, ◌≤◌, ◌<◌}
use native.Mathlib.Nat.{div-add-mod', mul-le-mul_right, eq-or-lt_of_le, mul-zero, zero-mul}
use native.Mathlib.Decide.{ℕ_discrete, dec_le}
use native.Mathlib.Omega.{arith}
use mathlib.Core.Path.{◌≡◌, refl, sym, ap, ap₂, ◌∙◌}
use mathlib.Core.Bool.{Bool, true, false, not, cond}
use mathlib.Core.Logic.{⊎_elim}
use mathlib.Core.List.{List, [], ◌∷◌}
use borrow.Author.Tests.{eq-eqb, ne_eqb}
use lib.Dec.{eqb}
use lib.ListN.{length, get_or, take}
use lib.IntN.{ℤ, pos, neg_ℤ, ◌+ℤ◌, ◌-ℤ◌, ◌*ℤ◌, neg_ℤ-neg_ℤ}
use lib.Pow.{pow-add}
use lib.Ieee.{Float}
use Rattle.model.specs.Label.{place}
use Rattle.model.specs.Fill.{Plan}
use Rattle.model.specs.Arith.{plus_zero}
use Rattle.model.specs.Residual.{exact, less_row, residue, words64, stored, joined64}
use Rattle.model.specs.Lists.{rising, joined}
use Rattle.model.specs.Many.{part}
use Rattle.model.proofs.Lists.{rising_agree}
use Rattle.model.proofs.Parts.{part_length, part-entry, joined_is, with_part, with_length, with_same, with_others}
use Rattle.model.proofs.Residual.{mod_is, residue_add, residue_sub, residue-below}

-- ---- one label more

-- what a label takes from row r
abbrev pub less_one : ℕ → List Float → ℕ → ℤ → ℕ → Float → ℤ
less_one N X r z k a = cond (eqb (place N k).0 r) (z -ℤ exact a *ℤ exact (get_or X ((place N k).1 - 1) plus_zero)) z

pub less_more : (N : ℕ) (X : List Float) (r : ℕ) (acc : ℤ) (L : Plan) (A : List Float) (k : ℕ) → length A ≡ length L → k < length L
    → less_row N X r acc (take (suc k) L) (take (suc k) A) ≡ less_one N X r (less_row N X r acc (take k L) (take k A)) (get_or L k 0) (get_or A k plus_zero)
unfolding less_row
less_more N X r acc [] A k e h = absurd (omega arith)
less_more N X r acc (y ∷ L) [] k e h = absurd (omega arith)
less_more N X r acc (y ∷ L) (a ∷ A) zero e h = refl
less_more N X r acc (y ∷ L) (a ∷ A) (suc k) e h = less_more N X r (less_one N X r acc y a) L A k (omega arith) (omega arith)

-- ---- the words of a number

-- each word is below 2^64
abbrev pub Words : List ℕ → Type 0
Words ws = (k : ℕ) → k < length ws → get_or ws k 0 < 2 ^ 64

rest-words : (w : ℕ) (ws : List ℕ) → Words (w ∷ ws) → Words ws
rest-words w ws h k l = h (suc k) (omega arith)

-- a number in two parts, the lower below b
module _ (b w j : ℕ) (h : w < b) where
  low_part : (w + b * j) % b ≡ w
  low_part = mod_is b (w + b * j) w j (omega arith) h

  high_part : (w + b * j) / b ≡ j
  high_part = same ((w + b * j) / b) (omega (arith, div-add-mod' (w + b * j) b, low_part))
    where
      over : (q : ℕ) → suc j ≤ q → suc j * b ≤ q * b
      over q l = mul-le-mul_right b l

      under : (q : ℕ) → suc q ≤ j → suc q * b ≤ j * b
      under q l = mul-le-mul_right b l

      same : (q : ℕ) → q * b ≡ b * j → q ≡ j
      same q e = elim (dec_le q j) [
        | no more ↦ absurd (omega (arith, over q (omega arith)))
        | yes l ↦ ⊎_elim (λ e. e) (λ less. absurd (omega (arith, under q less))) (eq-or-lt_of_le l)
      ]

-- words are the words of the number that they stand for
pub words-again : (ws : List ℕ) → Words ws → words64 (length ws) (joined64 ws) ≡ ws
unfolding words64 joined64
words-again [] h = refl
words-again (w ∷ ws) h =
    let first = h 0 (omega arith) in
    ap₂ (λ (x : ℕ) (xs : List ℕ). x ∷ xs) (low_part (2 ^ 64) w (joined64 ws) first)
    (ap (words64 (length ws)) (high_part (2 ^ 64) w (joined64 ws) first) ∙ words-again ws (rest-words w ws h))

pub joined-below : (ws : List ℕ) → Words ws → joined64 ws < 2 ^ (64 * length ws)
unfolding joined64
joined-below [] h = omega arith
joined-below (w ∷ ws) h =
    let split : 64 * suc (length ws) ≡ 64 + 64 * length ws = omega arith in
    rw (split, pow-add 2 64 (64 * length ws)) (step (2 ^ 64) (2 ^ (64 * length ws)) w (joined64 ws) (h 0 (omega arith)) (joined-below ws (rest-words w ws h)))
  where
    step : (b p w j : ℕ) → w < b → j < p → w + b * j < b * p
    step b p w j h k = let whole : suc j * b ≤ p * b = mul-le-mul_right b k in omega arith

-- ---- a row of words whose number is changed

module _ (m : ℕ) (some : 0 < m) where
  same_rest : (a b p q : ℕ) → a < m → b < m → a + p * m ≡ b + q * m → a ≡ b
  same_rest a b p q h k e = sym (mod_is m (a + p * m) a p (omega arith) h) ∙ mod_is m (a + p * m) b q (omega arith) k

  -- n more, and n less, but for what runs over the end
  pub row_more : (z : ℤ) (n before after over : ℕ) → after < m → after + over * m ≡ before + n → before ≡ residue m z → after ≡ residue m (z +ℤ pos n)
  row_more z n before after over small sum e =
      sym (residue_add m some z n ∙ ap (λ k. (k + n) % m) (sym e) ∙ mod_is m (before + n) after over (omega arith) small)

  pub row-less : (z : ℤ) (n before after over : ℕ) → before < m → after < m → before + over * m ≡ after + n → before ≡ residue m z → after ≡ residue m (z -ℤ pos n)
  row-less z n before after over low small sum e =
      let r = residue m (z -ℤ pos n) in
      let back : (r + n) % m ≡ before = residue_sub m some z n ∙ sym e in
      same_rest after r ((r + n) / m) over small (residue-below m some (z -ℤ pos n)) (omega (arith, div-add-mod' (r + n) m))

-- ---- a product of two signed numbers

-- n or, minus, its negative
abbrev pub signed : Bool → ℕ → ℤ
signed minus n = cond minus (neg_ℤ (pos n)) (pos n)

abbrev pub alike : Bool → Bool → Bool
alike a b = cond a b (not b)

times_signed : (s t : Bool) (m n : ℕ) → signed s m *ℤ signed t n ≡ signed (not (alike s t)) (m * n)
times_signed false false m n = refl
times_signed false true m zero = rw (mul-zero m)
times_signed false true m (suc n) = refl
times_signed true false zero n = rw (zero-mul n)
times_signed true false (suc m) n = refl
times_signed true true zero zero = refl
times_signed true true zero (suc n) = rw (zero-mul (suc n))
times_signed true true (suc m) zero = rw (mul-zero (suc m))
times_signed true true (suc m) (suc n) = refl

pub less_signed : (z : ℤ) (s t : Bool) (m n : ℕ) → z -ℤ signed s m *ℤ signed t n ≡ cond (alike s t) (z -ℤ pos (m * n)) (z +ℤ pos (m * n))
less_signed z s t m n = ap (λ k. z -ℤ k) (times_signed s t m n) ∙ step (alike s t)
  where
    step : (b : Bool) → z -ℤ signed (not b) (m * n) ≡ cond b (z -ℤ pos (m * n)) (z +ℤ pos (m * n))
    step true = refl
    step false = ap (λ k. z +ℤ k) (neg_ℤ-neg_ℤ (pos (m * n)))

-- ---- rows of 66 words

-- 66 words hold a whole number, modulo 2^4224
pub record Held (ws : List ℕ) (z : ℤ) : Type 0 where
  pub size : length ws ≡ 66
  pub value : joined64 ws ≡ residue (2 ^ 4224) z

pub held-stored : {ws : List ℕ} {z : ℤ} → Words ws → Held ws z → stored z ≡ ws
unfolding stored
held-stored {ws} h held = ap₂ words64 (sym held.size) (sym held.value) ∙ words-again ws h

-- N of them hold z 1, .., z N
pub record HeldRows (N : ℕ) (z : ℕ → ℤ) (words : List ℕ) : Type 0 where
  pub long : length words ≡ N * 66
  pub each : (r : ℕ) → r < N → Held (part 66 words r) (z (suc r))

module _ {N : ℕ} {z : ℕ → ℤ} {words : List ℕ} (rows : HeldRows N z words) where
  -- a row was lent and holds another number now
  pub row_back : (r : ℕ) (back : List ℕ) (w : ℤ) → r < N → Held back w → HeldRows N (λ i. cond (eqb (suc r) i) w (z i)) (with_part 66 r words back)
  row_back r back w h held =
      let within : r * 66 + 66 ≤ length words = omega (arith, rows.long) in
      record { long = with_length 66 r words back within held.size ∙ rows.long; each = λ i l. step i l (ℕ_discrete i r) }
    where
      step : (i : ℕ) → i < N → Dec (i ≡ r) → Held (part 66 (with_part 66 r words back) i) (cond (eqb (suc r) (suc i)) w (z (suc i)))
      step i l (yes e) = rw (e, eq-eqb (suc r) (suc r) refl, with_same 66 r words back (omega (arith, rows.long)) held.size) held
      step i l (no d) =
          rw (ne_eqb (suc r) (suc i) (λ e. d (omega arith)), with_others 66 r words back (omega (arith, rows.long)) held.size i d) (rows.each i l)

  pub rows-stored : Words words → words ≡ joined (rising (λ r. stored (z r)) 1 N)
  rows-stored h = sym (ap joined shifted ∙ joined_is 66 (λ r. stored (z (suc r))) N words rows.long (λ r l. held-stored (words-part r l) (rows.each r l)))
    where
      shifted : rising (λ r. stored (z r)) 1 N ≡ rising (λ r. stored (z (suc r))) 0 N
      shifted = rising_agree (λ r. stored (z r)) (λ r. stored (z (suc r))) 1 0 N (λ k l. let same : 1 + k ≡ suc (0 + k) = omega arith in ap (λ i. stored (z i)) same)

      words-part : (r : ℕ) → r < N → Words (part 66 words r)
      words-part r l k below =
          let size = part_length 66 N words r rows.long l in
          rw (part-entry 66 words r k 0 (omega arith)) (h (r * 66 + k) (omega (arith, rows.long)))
