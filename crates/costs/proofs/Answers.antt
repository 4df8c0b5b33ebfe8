-- What a call that asks whether a plan costs most answers and leaves in the work slice, once 1 to 5 are decided.
use Prim.Native.Nat.{ℕ}
use mathlib.Core.Path.{◌≡◌, refl}
use mathlib.Core.Bool.{Bool, true, false}
use mathlib.Core.List.{List}
use lib.Dec.{eqb}
use lib.ListN.{length}
use Rattle.std.specs.Prelude.{Ok, Err}
use Rattle.model.specs.Fill.{Plan, product_count}
use Rattle.model.specs.Dearest.{Costs, yes, no, costs, work_costed, most_products}
use Rattle.model.proofs.Dearest.{full-products}
use Rattle.slots.specs.declared.Filled.{Filled}
use Rattle.refusal.specs.declared.Refusal.{Refusal}
use Rattle.plans.specs.Slotted.{Slotted, Refuses}
use Rattle.plans.proofs.Refused.{refused, admitted}
use Rattle.costs.specs.Costed.{costs_of}

-- an answer, and the work slice then
abbrev Answers : ℕ → Plan → List ℕ → Costs → List ℕ → Type 0
Answers N L work answer work' = (answer ≡ costs N L (length work)) × (work' ≡ work_costed N L work)

module _ {N : ℕ} {L : Plan} {work work' : List ℕ} where
  -- 1 to 5 refuse
  pub refuses : {r : Refusal} → Refuses 1 N L work work' r → Answers N L work (costs_of (Err r)) work'
  unfolding costs work_costed
  refuses d = let a = refused d in (rw (costs, a.answer_is), a.work_is)

  -- or the products are compared
  pub says : {in_rows in_columns : List ℕ} {r : Filled} {k : ℕ} → Slotted 1 N L work work' in_rows in_columns r → k ≡ most_products N
      → Answers N L work (costs_of (Ok (eqb r.products k))) work'
  unfolding costs work_costed
  says {r = r} {k = k} s most =
      let a = admitted s in
      let products : eqb (product_count N L) (most_products N) ≡ eqb r.products k = rw (s.filled.products-are, most) in
      (rw (costs, a.answer_is, full-products N, products) (step (eqb r.products k)), a.work_is)
    where
      step : (b : Bool) → costs_of (Ok b) ≡ elim b as (λ b. Costs) [ true ↦ yes | false ↦ no ]
      step true = refl
      step false = refl
