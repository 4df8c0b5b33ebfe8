-- What a writer of records leaves in a row of words. Definitions only.
use Rattle.std.specs.Prelude.{ℕ, suc, ◌+◌, ◌-◌, ◌*◌, ◌^◌, ◌≤◌, ◌<◌, ◌≡◌, cond, ◌&&◌, List, [], ◌∷◌, ◌++◌, ltb, eqb, length, take, drop}
use Rattle.model.specs.Program.{Record, rec}

-- the words of a row of records, the first of index k: each next is the following index
unfoldable pub linked : ℕ → List Record → List ℕ
linked k [] = []
linked k (r ∷ rs) = r.kind ∷ r.p ∷ r.q ∷ suc k ∷ linked (suc k) rs

-- the words ws with xs from index a on
unfoldable pub pasted : ℕ → List ℕ → List ℕ → List ℕ
pasted a xs ws = take a ws ++ (xs ++ drop (a + length xs) ws)

-- the words ws, whose first record has index o, with rs from record k on
abbrev pub written : ℕ → ℕ → List Record → List ℕ → List ℕ
written o k rs ws = pasted (4 * (k - o)) (linked k rs) ws

-- there is room for rs from record k on
pub record Room (o k : ℕ) (rs : List Record) (ws : List ℕ) : Type 0 where
  pub start : o ≤ k
  pub words : 4 * (k - o + length rs) ≤ length ws
  pub index : k + length rs < 2 ^ 32

-- rs was written from record k on, and `next` is the index after its last record
pub record Wrote (o k : ℕ) (rs : List Record) (before after : List ℕ) (next : ℕ) : Type 0 where
  pub words : after ≡ written o k rs before
  pub next-is : next ≡ k + length rs

-- the record of one product, if neither factor is left out
abbrev pub product_of : ℕ → ℕ → ℕ → List Record
product_of kind p q = cond (ltb 0 p && ltb 0 q) (rec kind p q ∷ []) []

-- the record of the division, if there is a divisor
abbrev pub quotient_of : ℕ → ℕ → List Record
quotient_of kind d = cond (eqb d 0) [] (rec kind d 0 ∷ [])
