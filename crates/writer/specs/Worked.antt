-- The formulas as the work numbers give them: the work number of a label is its slot, 0 where the place is not held. Definitions only.
use Rattle.std.specs.Prelude.{ℕ, ◌-◌, ◌*◌, ◌≤◌, ◌<◌, min, ◌≡◌, Bool, List, [], ltb, eqb, length, get_or}
use Rattle.model.specs.Lists.{rising, falling, joined}
use Rattle.model.specs.Label.{label}
use Rattle.model.specs.Formula.{Formula, C}
use Rattle.model.specs.Crout.{inner}
use Rattle.model.specs.Program.{Record}
use Rattle.writer.specs.Written.{product_of}

-- the work number of place (i, j), and whether it is kept
unfoldable pub number_at : ℕ → List ℕ → ℕ → ℕ → ℕ
number_at n work i j = get_or work (label n i j - 1) 0

unfoldable pub kept_at : ℕ → List ℕ → ℕ → ℕ → Bool
kept_at n work i j = ltb 0 (number_at n work i j)

-- n is an order, and there is a work number for each label
pub record Covers (n : ℕ) (work : List ℕ) : Type 0 where
  pub low : 1 ≤ n
  pub high : n ≤ 600
  pub long : n * n ≤ length work

-- the record of the product l(i,h) u(h,j), if it is kept
unfoldable pub inner_at : ℕ → List ℕ → ℕ → ℕ → ℕ → List Record
inner_at n work i j h = product_of 4 (number_at n work i h) (number_at n work h j)

-- and of that of place (i, h) with entry h of another table: of l(i,h) y(h) by kind 5, of u(i,h) x(h) by 6, of a(i,h) x(h) by 11
unfoldable pub product_at : ℕ → List ℕ → ℕ → ℕ → ℕ → List Record
product_at n work kind i h = product_of kind (number_at n work i h) h

-- the records for h = 1..m-1, and for h = n..i+1
abbrev pub up_to : (ℕ → List Record) → ℕ → List Record
up_to f m = joined (rising f 1 (m - 1))

abbrev pub down_to : (ℕ → List Record) → ℕ → ℕ → List Record
down_to f n i = joined (falling f n (n - i))

-- of the h below m, none below `from` has a record
abbrev pub NoneBelow : (ℕ → List Record) → ℕ → ℕ → Type 0
NoneBelow f from m = (h : ℕ) → 1 ≤ h → h < from → h < m → f h ≡ []

-- the formula of place (i, j), its slot, its position in the plan and its divisor given
unfoldable pub formula_at : ℕ → List ℕ → ℕ → ℕ → ℕ → ℕ → ℕ → Formula
formula_at n work slot position divisor i j = record {
  table = C;
  target = slot;
  start = position;
  products = inner n [] (number_at n work) (kept_at n work) i j (min i j);
  divisor = divisor;
  pivot = eqb i j;
}
