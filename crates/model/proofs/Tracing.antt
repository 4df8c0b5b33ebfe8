-- What a call for a path answers, and what it leaves in the work slice, by the first check that refuses: document 02, A.2.
use Prim.Native.Nat.{ℕ, suc, ◌*◌, ◌≤◌, ◌<◌}
use native.Mathlib.Omega.{arith}
use mathlib.Core.Path.{◌≡◌, refl, ap, ◌∙◌}
use mathlib.Core.Bool.{Bool, true, false, ◌&&◌}
use mathlib.Core.List.{List, ◌++◌}
use borrow.Author.Tests.{le-leb, lt-leb, ne_eqb}
use lib.Dec.{leb}
use lib.ListN.{length, drop}
use Rattle.model.specs.Label.{is_place}
use Rattle.model.specs.Fill.{Plan, held}
use Rattle.model.specs.Compile.{good, bad, orderly, slot_numbers, work_left}
use Rattle.model.specs.Check.{Verdict, fine, refusal}
use Rattle.model.specs.Path.{tracing, work_traced}
use Rattle.model.proofs.Compiles.{orderly-number}

module _ (N : ℕ) (L : Plan) (i j work entries : ℕ) where
  -- 1 to 4
  pub tracing-early : (r d : ℕ) → orderly (N * N) N L work ≡ bad r d → tracing N L i j work entries ≡ refusal r d
  unfolding tracing
  tracing-early r d e = rw (e, tracing)

  module _ (orders : orderly (N * N) N L work ≡ good) where
    past : Bool → Verdict
    past b = elim b [ false ↦ refusal 22 0 | true ↦ elim (leb (suc N) entries) [ false ↦ refusal 23 0 | true ↦ fine ] ]

    tracing-past : {b : Bool} → (is_place N i j && held N L i j) ≡ b → tracing N L i j work entries ≡ past b
    unfolding tracing past
    tracing-past e = rw (orders, tracing) (ap past (step (is_place N i j)) ∙ ap past e)
      where
        step : (b : Bool) → elim b as (λ b. Bool) [ false ↦ false | true ↦ held N L i j ] ≡ (b && held N L i j)
        step true = refl
        step false = refl

    -- 22, 23, and neither
    pub tracing_unheld : (is_place N i j && held N L i j) ≡ false → tracing N L i j work entries ≡ refusal 22 0
    unfolding past
    tracing_unheld none = tracing-past none

    module _ (holds : (is_place N i j && held N L i j) ≡ true) where
      pub tracing-short : entries ≤ N → tracing N L i j work entries ≡ refusal 23 0
      unfolding past
      tracing-short few = tracing-past holds ∙ rw (lt-leb (suc N) entries (omega arith), past)

      pub tracing-fine : N < entries → tracing N L i j work entries ≡ fine
      unfolding past
      tracing-fine enough = tracing-past holds ∙ rw (le-leb (suc N) entries enough, past)

module _ (N : ℕ) (L : Plan) (work : List ℕ) where
  -- past 1 to 4 the slots stand there, and these change nothing
  pub work_slotted : orderly (N * N) N L (length work) ≡ good → work_traced N L work ≡ slot_numbers N L ++ drop (N * N) work
  unfolding work_traced work_left
  work_slotted e = rw (e, work_left)

  pub work_early : (r d : ℕ) → orderly (N * N) N L (length work) ≡ bad r d → work_traced N L work ≡ work
  unfolding work_traced work_left
  work_early r d e =
      let low = orderly-number (N * N) N L (length work) r d e in
      rw (e, work_left, ne_eqb r 5 (λ q. omega arith))
