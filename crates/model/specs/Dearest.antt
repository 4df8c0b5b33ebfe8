-- Whether a plan costs as many products as a full table: document 02, A.14. Definitions only.
use Rattle.std.specs.Prelude.{ℕ, ◌+◌, ◌-◌, ◌*◌, ◌/◌, ◌≤◌, ◌≡◌, true, false, ◌↔◌, List, eqb, length}
use Rattle.model.specs.Lists.{rising}
use Rattle.model.specs.Fill.{Plan, in_plan, missing, product_count}
use Rattle.model.specs.Compile.{good, bad, plain, admits, work_left}

-- the plan of a full table: every label
unfoldable pub full_plan : ℕ → Plan
full_plan N = rising (λ k. k) 1 (N * N)

-- what the caller is told
pub data Costs : Type 0 where
  yes no : Costs
  -- a refusal's number and its detail
  refused : ℕ → ℕ → Costs

-- "For a plan checked by 1 to 5, a call says yes if its products are as many as the full table's, else no"
unfoldable pub costs : ℕ → Plan → ℕ → Costs
costs N L work =
    let most = eqb (product_count N L) (product_count N (full_plan N)) in
    elim (admits plain N L work) [ bad r d ↦ refused r d | good ↦ elim most [ true ↦ yes | false ↦ no ] ]

-- "and leaves the work slice as the compiler does"
unfoldable pub work_costed : ℕ → Plan → List ℕ → List ℕ
work_costed N L work = work_left plain (admits plain N L (length work)) N L work

-- ---- the statements; their proofs stand in proofs/

-- N(N−1)(2N−1)/6 + N(N−1)
unfoldable pub most_products : ℕ → ℕ
most_products N = N * (N - 1) * (2 * N - 1) / 6 + N * (N - 1)

-- "no plan of order N has more products", which is what a full table has
abbrev pub ProductsAtMost : ℕ → Plan → Type 0
ProductsAtMost N L = product_count N L ≤ most_products N

abbrev pub FullProducts : ℕ → Type 0
FullProducts N = product_count N (full_plan N) ≡ most_products N

-- "its first row and first column are whole"
abbrev pub FirstWhole : ℕ → Plan → Type 0
FirstWhole N L = (k : ℕ) → 1 ≤ k → k ≤ N → (in_plan N L 1 k ≡ true) × (in_plan N L k 1 ≡ true)

-- "an accepted plan reaches it exactly when"
abbrev pub DearestExactly : ℕ → Plan → Type 0
DearestExactly N L = missing N L ≡ 0 → (product_count N L ≡ most_products N) ↔ FirstWhole N L
