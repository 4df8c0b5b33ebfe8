-- What holds while a path is written, entry by entry. Definitions only.
use Prim.Native.Nat.{ℕ, ◌+◌, ◌*◌, ◌≤◌, ◌<◌}
use mathlib.Core.Path.{◌≡◌}
use mathlib.Core.List.{List, [], ◌∷◌, ◌++◌}
use lib.ListN.{length, take, drop}
use Rattle.model.specs.Fill.{Plan}
use Rattle.model.specs.Route.{leg}
use Rattle.plans.specs.Stands.{Leads}

-- How far a path is written: its last entry, the number of its entries, and where in the stack those that it still has to reach begin, the nearest first.
pub record Trail : Type 0 where
  pub last : ℕ
  pub count : ℕ
  pub next : ℕ

-- from a to each of these entries in turn
pub data Legs (N : ℕ) (L : Plan) : ℕ → List ℕ → Type 0 where
  none : {a : ℕ} → Legs N L a []
  next : {a e : ℕ} {es : List ℕ} → Leads N L a e → Legs N L e es → Legs N L a (e ∷ es)

-- the entries of the path that are then still to be written
unfoldable pub ahead : ℕ → Plan → ℕ → List ℕ → List ℕ
ahead N L a [] = []
ahead N L a (e ∷ es) = leg N L a e ++ ahead N L e es

-- after so many entries: those still to be written
abbrev pub left : ℕ → Plan → List ℕ → Trail → List ℕ
left N L stack z = ahead N L z.last (drop z.next stack)

-- the entries still to be reached stand in the stack, and there is room for the rest of the path
pub record On (N : ℕ) (L : Plan) (list stack : List ℕ) (z : Trail) : Type 0 where
  pub legs : Legs N L z.last (drop z.next stack)
  pub fits : z.count + length (left N L stack z) ≤ length list
  pub short : length (left N L stack z) ≤ 600
  pub deep : length stack ≡ 601

-- the same path, with an entry more written, or one more to be reached
pub record Onward (N : ℕ) (L : Plan) (list stack : List ℕ) (z : Trail) (list' stack' : List ℕ) (z' : Trail) : Type 0 where
  pub same : take z'.count list' ++ left N L stack' z' ≡ take z.count list ++ left N L stack z
  pub total : z'.count + length (left N L stack' z') ≡ z.count + length (left N L stack z)
  pub legs : Legs N L z'.last (drop z'.next stack')
  pub later : drop z'.count list' ≡ drop z'.count list
  pub long : length list' ≡ length list
  pub deep : length stack' ≡ 601
  pub ends : z'.next ≤ 601
  pub written : z.count ≤ z'.count
  pub less : 2 * length (left N L stack' z') + z'.next < 2 * length (left N L stack z) + z.next
