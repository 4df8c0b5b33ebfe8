-- A plan with more places than another, zeros standing there: document 02, A.9, as statements. Definitions only.
use Rattle.std.specs.Prelude.{ℕ, ◌-◌, ◌≤◌, ◌<◌, true, false, ◌≡◌, List, map, get_or, Float}
use Rattle.model.specs.Label.{Place, places}
use Rattle.model.specs.Fill.{Plan, position, held, held_places, slot, slots, missing}
use Rattle.model.specs.Arith.{plus_zero, is_zero}
use Rattle.model.specs.Formula.{Table, C, Y, X, Tables, entry}
use Rattle.model.specs.Program.{compiled}
use Rattle.model.specs.Run.{solution, ran}
use Rattle.model.specs.Agreement.{Given, Accepted, Seen, whole, ended, early, late, seen}

-- "the second holds all labels of the first, with the same finite coefficients and zeros as the added ones": plan M with coefficients Z beside plan L with A. A
-- zero is one of either sign.
pub record Marked (L M : Plan) (A Z : List Float) : Type 0 where
  pub all : (k : ℕ) → 0 < position L k → 0 < position M k
  pub same : (k : ℕ) → 0 < position L k → get_or Z (position M k - 1) plus_zero ≡ get_or A (position L k - 1) plus_zero
  pub zeros : (k : ℕ) → position L k ≡ 0 → 0 < position M k → is_zero (get_or Z (position M k - 1) plus_zero) ≡ true

-- an ending with "slots compared by the places they stand for", the products and quotients made left out
pub data Placed : Type 0 where
  -- l or u of each place in dense order, +0 where one is not held; Y; X; and the products that vanished
  solved_as : List Float → List Float → List Float → ℕ → Placed
  -- 16 or 17, and the place in C, or the number in Y or X
  refused_at : ℕ → Place → Placed
  refused_in : ℕ → Table → ℕ → Placed
  -- any other refusal; no accepted plan's run ends so
  other : ℕ → Placed

-- what stands in C for a place: the entry of its slot, +0 where it has none
unfoldable pub value_at : ℕ → Plan → Tables → Place → Float
value_at N L t p = elim (held N L p.0 p.1) [ true ↦ entry t C (slot N L p.0 p.1) | false ↦ plus_zero ]

-- what is seen of a run, by places
unfoldable pub placed : ℕ → Plan → Seen → Placed
placed N L (whole t products quotients vanished sweeps) = solved_as (map (value_at N L t) (places N)) t.y t.x vanished
placed N L (ended r C k) = refused_at r (get_or (held_places N L) (k - 1) (0, 0))
placed N L (ended r Y k) = refused_in r Y k
placed N L (ended r X k) = refused_in r X k
placed N L (early r d) = other r
placed N L (late t) = other 27

-- the products of a solution, 0 without one
unfoldable pub products_made : Seen → ℕ
products_made (whole t products quotients vanished sweeps) = products
products_made (ended r t k) = 0
products_made (early r d) = 0
products_made (late t) = 0

-- ---- the statements; their proofs stand in proofs/

-- "if both are accepted, their runs give the same solution or refuse alike at the same place, and the second makes no fewer products on a solution"
abbrev pub MarkedAlike : ℕ → Plan → Plan → List Float → List Float → List Float → Float → Type 0
MarkedAlike N L M A Z B limit =
    let first = seen (ran (compiled N L) A B limit (slots N L) N N) in
    let second = seen (ran (compiled N M) Z B limit (slots N M) N N) in
    Marked L M A Z → Accepted N L A B limit → Accepted N M Z B limit → (placed N L first ≡ placed N M second) × (products_made first ≤ products_made second)

-- "If only the second is accepted, its run never ends in a solution."
abbrev pub MarkedNever : ℕ → Plan → Plan → List Float → List Float → List Float → Float → Type 0
MarkedNever N L M A Z B limit = Marked L M A Z → Given N L A B limit → (missing N L ≡ 0 → ⊥) → Accepted N M Z B limit
    → (t : Tables) (p q g k : ℕ) → ran (compiled N M) Z B limit (slots N M) N N ≡ solution t p q g k → ⊥
