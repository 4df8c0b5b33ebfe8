-- What `solve` answers and leaves, by the checks 1 to 6, 14, 15 and 21 and by dense Crout alone: document 01, "Set beside dense Crout"; document 02,
-- A.1 and A.5. Definitions only.
use Rattle.std.specs.Prelude.{ℕ, true, false, ◌&&◌, List, eqb, length, replicate, Float}
use Rattle.model.specs.Arith.{plus_zero}
use Rattle.model.specs.Fill.{Plan, slots}
use Rattle.model.specs.Formula.{Table, number_of}
use Rattle.model.specs.Crout.{dense}
use Rattle.model.specs.Program.{compiled}
use Rattle.model.specs.Compile.{compiles, written, refusal}
use Rattle.model.specs.Check as Check
use Rattle.model.specs.Check.{fine}
use Rattle.model.specs.Run.{entries_of, check_values, ran, Reply, solves, stops, refuses, reply}
use Rattle.model.specs.Agreement.{Seen, whole, ended, early, late, compressed}

-- How solving ends, with slices of work numbers, words, C, Y and X of these lengths: the compiler's checks, the lengths (14), the values (15),
-- the limit (21), then dense Crout with C compressed.
unfoldable pub solving : ℕ → Plan → List Float → List Float → Float → ℕ → ℕ → ℕ → ℕ → ℕ → Seen
solving N L A B limit work words c y x =
    let done = compressed N L (dense N L A B limit) in
    elim (compiles N L work words) [
      | refusal r d ↦ early r d
      | written s p r ↦ elim (eqb (length A) (length L) && (eqb (length B) N && (eqb c (slots N L) && (eqb y N && eqb x N)))) [
        | false ↦ early 14 0
        | true ↦ elim (check_values A B limit) [ Check.refusal r d ↦ early r d | fine ↦ done ]
      ]
    ]

-- what the caller is told of it, the record of a refusal left out, which dense Crout has no counterpart of
pub data Told : Type 0 where
  -- the products, the quotients and the products that vanished
  solved : ℕ → ℕ → ℕ → Told
  -- 16 or 17, and the table's number and the number of the target
  stopped : ℕ → ℕ → ℕ → Told
  -- 1 to 15 or 21, and the detail
  refused : ℕ → ℕ → Told

unfoldable pub told : Seen → Told
told (whole t products quotients vanished sweeps) = solved products quotients vanished
told (ended r t k) = stopped r (number_of t) k
told (early r d) = refused r d
told (late t) = refused 27 0

-- a reply without its record
abbrev pub tells_of : Reply → Told
tells_of (solves products quotients vanished sweeps) = solved products quotients vanished
tells_of (stops r index t k) = stopped r t k
tells_of (refuses r d) = refused r d

-- the reply with its record: the compiler's refusal, or the reply of the compiled program's run
unfoldable pub replied : ℕ → Plan → List Float → List Float → Float → ℕ → ℕ → ℕ → ℕ → ℕ → Reply
replied N L A B limit work words c y x = elim (compiles N L work words) [
  | refusal r d ↦ refuses r d
  | written s p r ↦ reply (ran (compiled N L) A B limit c y x)
]

-- what it leaves in the lent table t, which held vs
unfoldable pub left_in : Seen → Table → List Float → List Float
left_in (whole t products quotients vanished sweeps) u vs = entries_of t u
left_in (late t) u vs = entries_of t u
left_in (ended r u k) t vs = replicate (length vs) plus_zero
left_in (early r d) t vs = vs
