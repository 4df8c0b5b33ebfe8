-- A row of words that was changed holds another whole number.
use Prim.Native.Nat.{ℕ, zero, suc, ◌+◌, ◌*◌, ◌^◌, ◌<◌}
use native.Mathlib.Nat.{zero-mul}
use native.Mathlib.Omega.{arith}
use mathlib.Core.Path.{◌≡◌, refl, sym, ap, ap₂, ◌∙◌}
use mathlib.Core.Bool.{Bool, true, false, cond, beq}
use mathlib.Core.List.{List}
use lib.ListN.{length, replicate, length-replicate, get_or-replicate}
use lib.IntN.{ℤ, pos, ◌+ℤ◌, ◌-ℤ◌, ◌*ℤ◌, +ℤ_idl}
use lib.Pow.{pow-add, pow_pos}
use lib.Ieee.{Float}
use Rattle.model.specs.Residual.{exact, joined64, residue}
use Rattle.model.proofs.Rows.{Words, Held, joined-below, row_more, row-less, signed, alike, less_signed}
use Rattle.sums.specs.Added.{Changed}
use Rattle.digits.specs.Parted.{Parted}
use Rattle.digits.specs.declared.Shifted.{Shifted}

-- 66 words stand for less than 2^4224
below : (ws : List ℕ) → length ws ≡ 66 → Words ws → joined64 ws < 2 ^ 4224
below ws e h = rw e at (joined-below ws h)

pub changed-held : (minus : Bool) (before after : List ℕ) (n : ℕ) {z : ℤ} → Words before → Words after → Changed minus before n after → Held before z
    → Held after (cond minus (z -ℤ pos n) (z +ℤ pos n))
changed-held false before after n {z} wb wa c h =
    let size : length after ≡ 66 = c.size ∙ h.size in
    record { size = size; value = row_more (2 ^ 4224) (pow_pos 4224) z n (joined64 before) (joined64 after) c.over (below after size wa) (rw h.size at c.sum) h.value }
changed-held true before after n {z} wb wa c h =
    let size : length after ≡ 66 = sym c.size ∙ h.size in
    record { size = size; value = row-less (2 ^ 4224) (pow_pos 4224) z n (joined64 before) (joined64 after) c.over (below before h.size wb) (below after size wa) (rw size at c.sum) h.value }

-- the digits of a product, shifted by both shifts
shifts : (d e s t : ℕ) → d * 2 ^ s * (e * 2 ^ t) ≡ d * e * 2 ^ (s + t)
shifts d e s t = rw (pow-add 2 s t) (go (2 ^ s) (2 ^ t))
  where
    go : (p q : ℕ) → d * p * (e * q) ≡ d * e * (p * q)
    go p q = omega arith

-- whether both signs are the same
pub same_signs : (p q : Bool) → beq p q ≡ alike p q
same_signs true true = refl
same_signs true false = refl
same_signs false true = refl
same_signs false false = refl

-- a times x taken away, by their parts
pub product-taken : {a x : Float} {p q : Shifted} (minus : Bool) (low high shift : ℕ) (before after : List ℕ) {z : ℤ} → Parted a p → Parted x q
    → minus ≡ alike p.minus q.minus → low + 2 ^ 64 * high ≡ p.digits * q.digits → shift ≡ p.shift + q.shift → Words before → Words after
    → Changed minus before ((low + 2 ^ 64 * high) * 2 ^ shift) after → Held before z → Held after (z -ℤ exact a *ℤ exact x)
product-taken {a} {x} {p} {q} minus low high shift before after {z} pa px m e s wb wa c h =
    let n = p.digits * 2 ^ p.shift * (q.digits * 2 ^ q.shift) in
    let number = ap₂ (λ d k. d * 2 ^ k) e s ∙ sym (shifts p.digits q.digits p.shift q.shift) in
    let taken : z -ℤ exact a *ℤ exact x ≡ cond (alike p.minus q.minus) (z -ℤ pos n) (z +ℤ pos n) =
    ap₂ (λ u v. z -ℤ u *ℤ v) pa.value px.value ∙ less_signed z p.minus q.minus (p.digits * 2 ^ p.shift) (q.digits * 2 ^ q.shift) in
    rw taken (changed-held (alike p.minus q.minus) before after n wb wa (rw (m, number) at c) h)

-- b in cleared words, shifted by 1074 more
zeros-held : {zeros : List ℕ} → zeros ≡ replicate 66 0 → Held zeros (pos 0)
unfolding joined64 residue
zeros-held e = rw e (record { size = refl; value = refl })

zeros-words : {zeros : List ℕ} → zeros ≡ replicate 66 0 → Words zeros
zeros-words e k h = rw (e, get_or-replicate {A = ℕ} 66 k 0 0 (rw (e, length-replicate) at h)) (pow_pos 64)

scaled : (s : Bool) (m n : ℕ) → signed s m *ℤ pos n ≡ signed s (m * n)
scaled false m n = refl
scaled true zero n = rw (zero-mul n)
scaled true (suc m) n = refl

from_zero : (s : Bool) (n : ℕ) → cond s (pos 0 -ℤ pos n) (pos 0 +ℤ pos n) ≡ signed s n
from_zero true n = +ℤ_idl _
from_zero false n = +ℤ_idl _

pub value-put : {b : Float} {p : Shifted} (shift : ℕ) (zeros after : List ℕ) → Parted b p → shift ≡ p.shift + 1074 → zeros ≡ replicate 66 0 → Words after
    → Changed p.minus zeros ((p.digits + 2 ^ 64 * 0) * 2 ^ shift) after → Held after (exact b *ℤ pos (2 ^ 1074))
value-put {b} {p} shift zeros after pb s z wa c =
    let n = p.digits * 2 ^ p.shift * 2 ^ 1074 in
    let number : (p.digits + 2 ^ 64 * 0) * 2 ^ shift ≡ n =
    ap₂ (λ d k. d * 2 ^ k) (one_word p.digits) s ∙ ap (λ k. p.digits * k) (pow-add 2 p.shift 1074) ∙ grouped p.digits (2 ^ p.shift) (2 ^ 1074) in
    let value : exact b *ℤ pos (2 ^ 1074) ≡ cond p.minus (pos 0 -ℤ pos n) (pos 0 +ℤ pos n) =
    ap (λ k. k *ℤ pos (2 ^ 1074)) pb.value ∙ scaled p.minus (p.digits * 2 ^ p.shift) (2 ^ 1074) ∙ sym (from_zero p.minus n) in
    rw value (changed-held p.minus zeros after n (zeros-words z) wa (rw number at c) (zeros-held z))
  where
    one_word : (d : ℕ) → d + 2 ^ 64 * 0 ≡ d
    one_word d = omega arith

    grouped : (d u v : ℕ) → d * (u * v) ≡ d * u * v
    grouped d u v = omega arith
