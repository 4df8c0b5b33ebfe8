-- One float operation: document 01, "Dense Crout" ("rounded once", "a zero result becomes +0", 16 and 17) and "Running"; document 02, A.1 and A.5.
-- Definitions only.
use Rattle.std.specs.Prelude.{zero, suc, Bool, true, false, cond, not, ◌&&◌, pos, Float}
use Rattle.std.specs.Float.Ieee as Ieee
use Rattle.std.specs.Float.{nan, inf, fin, binary64}

abbrev pub plus_zero : Float
plus_zero = fin false 0 (pos 0)

-- "One operation gives a number, an overflow or a zero divisor."
pub data Answer : Type 0 where
  number : Float → Answer
  overflow : Answer
  zero_divisor : Answer

-- a value as it is read: "An input -0 is read as +0"
unfoldable pub clean : Float → Float
clean nan = nan
clean (inf s) = inf s
clean (fin s zero e) = plus_zero
clean (fin s (suc m) e) = fin s (suc m) e

-- a rounded result as an answer: "a zero result becomes +0", "A result that isn't finite is refused"
unfoldable pub settled : Float → Answer
settled nan = overflow
settled (inf s) = overflow
settled (fin s zero e) = number plus_zero
settled (fin s (suc m) e) = number (fin s (suc m) e)

unfoldable pub is_zero : Float → Bool
is_zero nan = false
is_zero (inf s) = false
is_zero (fin s zero e) = true
is_zero (fin s (suc m) e) = false

unfoldable pub is_finite : Float → Bool
is_finite nan = false
is_finite (inf s) = false
is_finite (fin s m e) = true

-- "Each product, difference and quotient is rounded once."
unfoldable pub product : Float → Float → Answer
product a b = settled (Ieee.mul binary64 a b)

unfoldable pub difference : Float → Float → Answer
difference a b = settled (Ieee.sub binary64 a b)

unfoldable pub quotient : Float → Float → Answer
quotient a b = cond (is_zero b) zero_divisor (settled (Ieee.div binary64 a b))

-- "when two non-zero factors gave zero": what a product tells beside its answer, which is +0 then (A.5)
unfoldable pub vanishes : Float → Float → Bool
vanishes a b = not (is_zero a) && (not (is_zero b) && is_zero (Ieee.mul binary64 a b))

-- "A pivot l with -t ≤ l ≤ t", t being the threshold, here called the limit: by value, so that -0 is 0 (A.1)
unfoldable pub is_small : Float → Float → Bool
is_small t l = Ieee.le (Ieee.neg t) l && Ieee.le l t

-- 21 refuses "a threshold that is negative or not finite"; -0 is neither
unfoldable pub is_limit : Float → Bool
is_limit t = is_finite t && Ieee.le plus_zero t

-- an operation on an answer: the first refusal stays
unfoldable pub next : Answer → (Float → Answer) → Answer
next (number x) f = f x
next overflow f = overflow
next zero_divisor f = zero_divisor
