-- Why a place is held: a path through places of the plan. Document 02, A.2. Definitions only.
use Rattle.std.specs.Prelude.{ℕ, suc, ◌*◌, ◌≤◌, min, Bool, true, false, not, ◌&&◌, ◌||◌, ◌↔◌, ◌≡◌, List, [], ◌∷◌, ◌++◌, leb, ltb, eqb, length, drop}
use Rattle.model.specs.Label.{is_place}
use Rattle.model.specs.Fill.{Plan, in_plan, held}
use Rattle.model.specs.Compile.{good, bad, plain, orderly, work_left}
use Rattle.model.specs.Check.{Verdict, fine, refusal}

-- x stands among these entries
unfoldable pub named : ℕ → List ℕ → Bool
named x [] = false
named x (e ∷ es) = eqb e x || named x es

-- no entry stands twice
unfoldable pub distinct : List ℕ → Bool
distinct [] = true
distinct (e ∷ es) = not (named e es) && distinct es

-- The entries after a lead from a to j: "Each consecutive pair is a place of the plan, and each room between the ends is numbered below both i and j", that is
-- below b, the smaller of them.
unfoldable pub leads : ℕ → Plan → ℕ → ℕ → ℕ → List ℕ → Bool
leads N L b j a [] = false
leads N L b j a (e ∷ []) = eqb e j && in_plan N L a e
leads N L b j a (e ∷ f ∷ es) = ltb e b && (in_plan N L a e && leads N L b j e (f ∷ es))

-- "a list of rooms, from i to j, at least two entries", and "No room is named twice except i as j": the entries after the first are all different, and those
-- between the ends are below i.
unfoldable pub is_path : ℕ → Plan → ℕ → ℕ → List ℕ → Bool
is_path N L i j [] = false
is_path N L i j (e ∷ es) = eqb e i && (leads N L (min i j) j i es && distinct es)

-- "22, checked after 4, means the place isn't held or lies outside the table, and 23, checked last, means the lent list has fewer than N+1 entries."
unfoldable pub tracing : ℕ → Plan → ℕ → ℕ → ℕ → ℕ → Verdict
tracing N L i j work entries =
    let there : Bool = elim (is_place N i j) [ false ↦ false | true ↦ held N L i j ] in
    elim (orderly (N * N) N L work) [
      | bad r d ↦ refusal r d
      | good ↦ elim there [ false ↦ refusal 22 0 | true ↦ elim (leb (suc N) entries) [ false ↦ refusal 23 0 | true ↦ fine ] ]
    ]

-- what the caller is told
pub data Traced : Type 0 where
  -- "The number of entries is returned"
  found : ℕ → Traced
  -- a refusal's number and its detail
  refused : ℕ → ℕ → Traced

-- "Any such list will do": after k entries were returned the lent list, which was before, begins with a path of k entries, and "later entries .. keep their
-- content".
pub record Shown (N : ℕ) (L : Plan) (i j k : ℕ) (before after : List ℕ) : Type 0 where
  pub entries : List ℕ
  pub path : is_path N L i j entries ≡ true
  pub count : length entries ≡ k
  pub list : after ≡ entries ++ drop k before

-- the answer is what the checks decide
abbrev pub traced_verdict : Traced → Verdict
traced_verdict (found k) = fine
traced_verdict (refused r d) = refusal r d

-- the lent list after an answer: a path, and "on a refusal all" entries keep their content
abbrev pub Listed : ℕ → Plan → ℕ → ℕ → List ℕ → Traced → List ℕ → Type 0
Listed N L i j before (found k) after = Shown N L i j k before after
Listed N L i j before (refused r d) after = after ≡ before

-- what holds of the answer and of the lent list, which was before
pub record Traces (N : ℕ) (L : Plan) (i j work : ℕ) (before : List ℕ) (answer : Traced) (after : List ℕ) : Type 0 where
  pub decided : tracing N L i j work (length before) ≡ traced_verdict answer
  pub list : Listed N L i j before answer after

-- "after them the work slice ends with the slot of each label or 0, even where a pivot is missing"
unfoldable pub work_traced : ℕ → Plan → List ℕ → List ℕ
work_traced N L work = work_left plain (orderly (N * N) N L (length work)) N L work

-- ---- the statements; their proofs stand in proofs/

-- "Proved is that such a list exists exactly when the place is held."
pub record HasPath (N : ℕ) (L : Plan) (i j : ℕ) : Type 0 where
  pub entries : List ℕ
  pub path : is_path N L i j entries ≡ true

abbrev pub PathExactlyHeld : ℕ → Plan → ℕ → ℕ → Type 0
PathExactlyHeld N L i j = is_place N i j ≡ true → HasPath N L i j ↔ (held N L i j ≡ true)

-- a list of N + 1 entries is long enough for every path
abbrev pub PathFits : ℕ → Plan → ℕ → ℕ → Type 0
PathFits N L i j = (es : List ℕ) → is_path N L i j es ≡ true → length es ≤ suc N
