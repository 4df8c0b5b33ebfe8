-- What 1 to 5 answer, or 26 for 5, and what they leave in the work slice, by the first of them that refuses: document 01; document 02, A.7 and A.11.
use Prim.Native.Nat.{ℕ, ◌*◌}
use native.Mathlib.Omega.{arith}
use mathlib.Core.Path.{◌≡◌}
use mathlib.Core.List.{List}
use borrow.Author.Tests.{eq-eqb, ne_eqb}
use lib.ListN.{length, replicate}
use Rattle.model.specs.Fill.{Plan}
use Rattle.model.specs.Compile.{Labels, good, bad, Compiler, wanted, gap, gap_at, orderly, admits, numbers_by, work_with, work_left}
use Rattle.model.proofs.Compiles.{orderly-number, gap-high, gap_self}

-- an answer, with what then stands in the work slice, which held work
pub record Admits (c : Compiler) (N : ℕ) (L : Plan) (work : List ℕ) (answer : Labels) (work' : List ℕ) : Type 0 where
  pub answer_is : admits c N L (length work) ≡ answer
  pub work_is : work' ≡ work_left c (admits c N L (length work)) N L work

module _ (c : Compiler) (N : ℕ) (L : Plan) (work : List ℕ) where
  -- 1 to 4 change nothing
  pub admits-early : (r d : ℕ) → orderly (wanted c N) N L (length work) ≡ bad r d → Admits c N L work (bad r d) work
  unfolding admits work_left
  admits-early r d e =
      let low = orderly-number (wanted c N) N L (length work) r d e in
      let answer : admits c N L (length work) ≡ bad r d = rw (admits, e) in
      record { answer_is = answer; work_is = rw (answer, work_left, ne_eqb r (gap c) (λ q. omega (arith, gap-high c))) }

  module _ (orders : orderly (wanted c N) N L (length work) ≡ good) where
    -- 5 and 26 clear the work numbers
    pub admits-gap : (gap_at c N L ≡ 0 → ⊥) → Admits c N L work (bad (gap c) (gap_at c N L)) (work_with c N (replicate (N * N) 0) work)
    unfolding admits work_left
    admits-gap some =
        let answer : admits c N L (length work) ≡ bad (gap c) (gap_at c N L) = rw (admits, orders, ne_eqb (gap_at c N L) 0 some) in
        record { answer_is = answer; work_is = rw (answer, work_left, gap_self c) }

    -- past them the slots or the positions stand there
    pub admits-good : gap_at c N L ≡ 0 → Admits c N L work good (work_with c N (numbers_by c N L) work)
    unfolding admits work_left
    admits-good none =
        let answer : admits c N L (length work) ≡ good = rw (admits, orders, eq-eqb (gap_at c N L) 0 none) in
        record { answer_is = answer; work_is = rw (answer, work_left) }
