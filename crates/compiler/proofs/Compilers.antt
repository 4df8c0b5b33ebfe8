-- The work numbers that check 2 wants, by their parts; and what the compilers of Crout share.
use Prim.Native.Nat.{ℕ, ◌+◌, ◌*◌}
use native.Mathlib.Nat.{one-mul}
use native.Mathlib.Omega.{arith}
use mathlib.Core.Path.{◌≡◌, refl}
use Rattle.model.specs.Fill.{Plan, missing, product_count, record_count}
use Rattle.model.specs.Compile.{Compiler, plain, compact, sweep, wanted, spare, gap, gap_at, products_by, records_by, slot_numbers, numbers_by}

pub wanted-is : (c : Compiler) (N : ℕ) → N * N + spare c N ≡ wanted c N
wanted-is plain N = omega arith
wanted-is compact N = omega arith
wanted-is sweep N = omega arith

-- the work numbers that check 2 wants for each place of the table; 5, for a missing pivot; the counts; and the slots in the work numbers
pub record Crout (c : Compiler) (each N : ℕ) (L : Plan) : Type 0 where
  pub wants : each * (N * N) ≡ wanted c N
  pub gap_is : gap c ≡ 5
  pub gap_at_is : gap_at c N L ≡ missing N L
  pub products-are : products_by c N L ≡ product_count N L
  pub records-are : records_by c N L ≡ record_count N L
  pub numbers-are : numbers_by c N L ≡ slot_numbers N L

pub of_plain : (N : ℕ) (L : Plan) → Crout plain 1 N L
of_plain N L = record { wants = one-mul (N * N); gap_is = refl; gap_at_is = refl; products-are = refl; records-are = refl; numbers-are = refl }

pub of_compact : (N : ℕ) (L : Plan) → Crout compact 4 N L
of_compact N L = record { wants = refl; gap_is = refl; gap_at_is = refl; products-are = refl; records-are = refl; numbers-are = refl }
