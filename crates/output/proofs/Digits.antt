-- Decimal digits are those of the library: the last one after those of a tenth, and how many there are.
use Prim.Native.Nat.{ℕ, ◌+◌, ◌/◌, ◌%◌, ◌≤◌, ◌<◌, ◌^◌}
use native.Mathlib.Omega.{arith}
use mathlib.Core.Path.{◌≡◌}
use mathlib.Core.List.{[], ◌∷◌, ◌++◌}
use lib.ListN.{length}
use borrow.Author.Rules.{rules}
use Rattle.std.specs.Fmt as Fmt
use Rattle.std.proofs.lemmas.Fmt.{decimal_digit, decimal_step, length-decimal-le, AppendsLastDigit, decimal_from_appends}
use Rattle.model.specs.Text.{digits, decimal}

digits_append : AppendsLastDigit digits
unfolding digits
digits_append = search rules

module _ (n : ℕ) where
  decimal-is : n < 2 ^ 64 → decimal n ≡ Fmt.decimal n
  unfolding decimal
  decimal-is fits = decimal_from_appends digits digits_append 20 n fits (length-decimal-le 20 n (omega arith) (omega arith) fits)

  pub decimal-one : n < 10 → decimal n ≡ (48 + n) ∷ []
  decimal-one h = rw (decimal-is (omega arith)) (decimal_digit n h)

  pub decimal-short : n < 2 ^ 32 → length (decimal n) ≤ 10
  decimal-short h = rw (decimal-is (omega arith)) (length-decimal-le 10 n (omega arith) (omega arith) (omega arith))

  pub decimal-long : n < 2 ^ 64 → length (decimal n) ≤ 20
  decimal-long h = rw (decimal-is h) (length-decimal-le 20 n (omega arith) (omega arith) h)

pub decimal_more : (n : ℕ) → n < 2 ^ 64 → 10 ≤ n → decimal n ≡ decimal (n / 10) ++ ((48 + n % 10) ∷ [])
decimal_more n fits h = rw (decimal-is n fits, decimal-is (n / 10) (omega arith)) (decimal_step n h fits)
