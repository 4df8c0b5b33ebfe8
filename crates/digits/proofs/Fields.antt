-- What the three fields of a float's bits say of its value: its sign, and its digits shifted by one less than the exponent.
use Prim.Native.Nat.{ℕ, zero, suc, ◌+◌, ◌-◌, ◌*◌, ◌/◌, ◌%◌, ◌^◌, ◌<◌}
use native.Mathlib.Nat.{mul-div_cancel}
use native.Mathlib.Omega.{arith}
use mathlib.Core.Path.{◌≡◌, refl, sym, ap, ◌∙◌}
use mathlib.Core.Bool.{Bool, true, false, cond, not, false≢true}
use lib.Dec.{T, leb, eqb}
use Rattle.std.specs.Prelude.{bit_and}
use Rattle.std.proofs.lemmas.Nat.{and_mask}
use Rattle.std.proofs.lemmas.Bool.Decides.{nat_tests}
use Rattle.std.specs.Int.Bits.{mask_lt}
use lib.Ieee.{Float, nan, inf, fin, binary64, down, odd, fits, is_nan, of_fields, of_bits, to_bits}
use lib.Ieee.Fits.{down_pos}
use lib.Ieee.Exact.{HasValue, odd_sign}
use lib.Ieee.Bits.{of_bits-to_bits}
use Rattle.model.specs.Arith.{is_finite}
use Rattle.model.specs.Residual.{exact}
use Rattle.model.proofs.Rows.{signed}

-- a finite value is a number
pub not_nan : (v : Float) → is_finite v ≡ true → T (not (is_nan v))
unfolding is_finite is_nan
not_nan nan f = absurd (false≢true f)
not_nan (inf s) f = tt
not_nan (fin s m e) f = tt

-- what a value of size n / 2^1074 is exactly
exact_of : (v : Float) (s : Bool) (n : ℕ) → HasValue v s n (2 ^ 1074) → exact v ≡ signed s n
unfolding exact
exact_of nan s n v = absurd v
exact_of (inf t) s n v = absurd v
exact_of (fin t m e) s n v = ap (λ x. signed t (x / down e)) v.1 ∙ ap (signed t) (mul-div_cancel n (down_pos e)) ∙ ap (λ b. signed b n) v.0

less_one : (x : ℕ) → suc x - 1 ≡ x
less_one x = omega arith

-- ---- by the fields: the exponent x and the fraction t

-- an exponent of 0 has no leading digit
small : (s : Bool) (x t : ℕ) → x ≡ 0 → exact (of_fields binary64 s x t) ≡ signed s (t * 2 ^ 0)
unfolding of_fields
small s zero t e = exact_of (odd 53 s t 0 1074) s (t * 2 ^ 0) (odd_sign 53 s t 0 1074)
small s (suc x) t e = absurd (omega arith)

large : (s : Bool) (x t : ℕ) → (x ≡ 0 → ⊥) → is_finite (of_fields binary64 s x t) ≡ true → exact (of_fields binary64 s x t) ≡ signed s ((2 ^ 52 + t) * 2 ^ (x - 1))
unfolding of_fields is_finite
large s zero t n f = absurd (n refl)
large s (suc x) t n f = rw (less_one x) (go (eqb (suc x) 2047) (eqb t 0) f)
  where
    go : (top none : Bool) → let v = cond top (cond none (inf s) nan) (odd 53 s (2 ^ 52 + t) x 1074) in is_finite v ≡ true → exact v ≡ signed s ((2 ^ 52 + t) * 2 ^ x)
    go true true f = absurd (false≢true f)
    go true false f = absurd (false≢true f)
    go false none f = exact_of (odd 53 s (2 ^ 52 + t) x 1074) s ((2 ^ 52 + t) * 2 ^ x) (odd_sign 53 s (2 ^ 52 + t) x 1074)

-- ---- by the bits, with shifts and masks of them

abbrev negative : ℕ → Bool
negative bits = not (eqb (bits / 2 ^ 63) 0)

abbrev exponent : ℕ → ℕ
exponent bits = bit_and (bits / 2 ^ 52) (2 ^ 11 - 1)

abbrev fraction : ℕ → ℕ
fraction bits = bit_and bits (2 ^ 52 - 1)

negative-is : (bits : ℕ) → negative bits ≡ leb (2 ^ 63) bits
negative-is bits = grind (arith, nat_tests)

exponent-is : (bits : ℕ) → exponent bits ≡ bits % 2 ^ 63 / 2 ^ 52
exponent-is bits = and_mask (bits / 2 ^ 52) 11 ∙ omega arith

pub few_digits : (bits : ℕ) → fraction bits < 2 ^ 52
few_digits bits = mask_lt bits 52

pub exponent_below : (bits : ℕ) → exponent bits < 2 ^ 11
exponent_below bits = mask_lt (bits / 2 ^ 52) 11

module _ (v : Float) (held : T (fits binary64 v)) where
  fields : let b = to_bits binary64 v in of_fields binary64 (negative b) (exponent b) (fraction b) ≡ v
  unfolding of_bits
  fields = let b = to_bits binary64 v in rw (negative-is b, exponent-is b, and_mask b 52) (of_bits-to_bits binary64 v held)

  pub exact_small : let b = to_bits binary64 v in exponent b ≡ 0 → exact v ≡ signed (negative b) (fraction b * 2 ^ 0)
  exact_small e = let b = to_bits binary64 v in ap exact (sym fields) ∙ small (negative b) (exponent b) (fraction b) e

  pub exact-large : let b = to_bits binary64 v in is_finite v ≡ true → (exponent b ≡ 0 → ⊥) → exact v ≡ signed (negative b) ((2 ^ 52 + fraction b) * 2 ^ (exponent b - 1))
  exact-large f n =
      let b = to_bits binary64 v in ap exact (sym fields) ∙ large (negative b) (exponent b) (fraction b) n (ap is_finite fields ∙ f)
