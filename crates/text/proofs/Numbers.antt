-- The numbers that have ended as the first ones of a slice, and those past them.
use Prim.Native.Nat.{ℕ, min}
use native.Mathlib.Omega.{arith}
use mathlib.Core.Path.{◌≡◌}
use mathlib.Core.List.{List}
use lib.Dec.{ltb}
use lib.ListN.{length, take, drop, drop_of_length-le}
use Rattle.std.specs.Prelude.{Result, Ok, Err}
use Rattle.std.proofs.lemmas.Grind.{common_steps}
use Rattle.model.proofs.Lists.{drop-later}
use Rattle.refusal.specs.declared.Refusal.{Refusal}
use Rattle.text.specs.declared.Listed.{Listed}
use Rattle.text.specs.Readings.{Kept, Untouched, Counted}

-- there is room for a number where the count is below the slice's length
pub room : (xs : List ℕ) (k : ℕ) → ltb k (length xs) ≡ ltb (length (take k xs)) (length xs)
room xs k = grind (arith, common_steps)

-- the numbers past those that have ended, one call after another
pub kept_more : {a b c : ℕ} {xs ys zs : List ℕ} → Kept a b xs ys → Kept b c ys zs → Kept a c xs zs
kept_more p q = grind (arith, common_steps, drop-later)

-- the end of the input
module _ {k m : ℕ} {xs ys : List ℕ} (p : Kept k m xs ys) (size : length ys ≡ length xs) where
  -- as many as stand in the slice
  least_kept : (n : ℕ) → n ≡ min m (length ys) → drop n ys ≡ drop n xs
  least_kept n e = grind (arith, common_steps, drop_of_length-le {A = ℕ})

  pub untouched_joined : (r : Result Listed Refusal) → Counted r m (length ys) → Untouched r xs ys
  untouched_joined (Ok l) e = least_kept _ e
  untouched_joined (Err r) e = grind (arith, common_steps, least_kept 0)
