-- The path that is given for a held place: by the smallest h of its sentence, at each step. Document 02, A.2, takes any path, so what is told of it is `Path`'s;
-- the contracts of the functions that find it speak of this one. Definitions only.
use Rattle.std.specs.Prelude.{ℕ, zero, suc, ◌-◌, min, Bool, true, false, cond, ◌&&◌, List, [], ◌∷◌, ◌++◌, eqb}
use Rattle.model.specs.Fill.{Plan, in_plan, held}

-- the smallest number from 1 to n that passes t, 0 if none does
unfoldable pub smallest : (ℕ → Bool) → ℕ → ℕ
smallest t zero = 0
smallest t (suc n) = let r = smallest t n in elim (eqb r 0) [ false ↦ r | true ↦ cond (t (suc n)) (suc n) 0 ]

-- the smallest h for which (i, h) and (h, j) are held
unfoldable pub middle : ℕ → Plan → ℕ → ℕ → ℕ
middle N L i j = smallest (λ h. held N L i h && held N L h j) (min i j - 1)

-- the path of a held place, within d steps, without its first entry: the place itself where it is in the plan, else by way of the middle
unfoldable pub leg_within : ℕ → ℕ → Plan → ℕ → ℕ → List ℕ
leg_within zero N L i j = j ∷ []
leg_within (suc d) N L i j =
    let h = middle N L i j in
    elim (in_plan N L i j) [ true ↦ j ∷ [] | false ↦ leg_within d N L i h ++ leg_within d N L h j ]

unfoldable pub leg : ℕ → Plan → ℕ → ℕ → List ℕ
leg N L i j = leg_within (min i j) N L i j

abbrev pub route : ℕ → Plan → ℕ → ℕ → List ℕ
route N L i j = i ∷ leg N L i j
