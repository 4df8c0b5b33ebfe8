-- Demand 3 as a statement: what the run of a compiled program is beside dense Crout, and that of a sweep program beside the dense sweep. Document 01, "Set
-- beside dense Crout"; document 02, A.1, A.5, A.7 and A.11. Definitions only.
use Rattle.std.specs.Prelude.{ℕ, ◌+◌, ◌-◌, ◌*◌, true, ◌≡◌, List, [], map, T, length, get_or, Float}
use Rattle.std.specs.Float.{nan, binary64}
use Rattle.std.specs.Float.Ieee.{fits}
use Rattle.model.specs.Label.{is_order, label, place}
use Rattle.model.specs.Fill.{Plan, held_places, slot, slots, missing, above, product_count}
use Rattle.model.specs.Arith.{is_limit}
use Rattle.model.specs.Formula.{Table, C, Y, X, Tables, entry, Ended, solved, refused}
use Rattle.model.specs.Crout.{dense}
use Rattle.model.specs.Program.{compiled_records, compiled}
use Rattle.model.specs.Compact.{compact_slots, compact_records, compacted, openings, closed_into, most_alive}
use Rattle.model.specs.Sweep.{Settled, settles, refused_at, unsettles, bare, compiled_sweep, dense_sweep}
use Rattle.model.specs.Compile.{judged, good}
use Rattle.model.specs.Check.{check, fine}
use Rattle.model.specs.Run.{Outcome, solution, stopped, refused_by, unsettled_at, not_finite, ran}

-- every entry is a value of binary64, as those of an f64 slice are; past the end stands nan, which is one
abbrev pub Values : List Float → Type 0
Values vs = (k : ℕ) → T (fits binary64 (get_or vs k nan))

-- an order, a plan whose labels rise strictly within 1..N², finite values of the right lengths, and a limit: "every finite t that isn't negative" (A.1)
pub record Given (N : ℕ) (L : Plan) (A B : List Float) (limit : Float) : Type 0 where
  pub order : is_order N ≡ true
  pub labels : judged N 0 1 L ≡ good
  pub length_a : length A ≡ length L
  pub length_b : length B ≡ N
  pub values_a : Values A
  pub values_b : Values B
  pub finite_a : not_finite 1 A ≡ 0
  pub finite_b : not_finite 1 B ≡ 0
  pub limited : is_limit limit ≡ true

-- "and no pivot is missing"
pub record Accepted (N : ℕ) (L : Plan) (A B : List Float) (limit : Float) : Type 0 where
  pub given : Given N L A B limit
  pub pivots : missing N L ≡ 0

-- what is compared of two endings
pub data Seen : Type 0 where
  -- the tables, the products, the quotients, the products that vanished, and the sweeps, 0 for Crout
  whole : Tables → ℕ → ℕ → ℕ → ℕ → Seen
  -- 16 or 17, and the table and number of the target
  ended : ℕ → Table → ℕ → Seen
  -- a refusal before the first record
  early : ℕ → ℕ → Seen
  -- 27, and the tables then
  late : Tables → Seen

-- a run's ending, but for the record of its refusal
unfoldable pub seen : Outcome → Seen
seen (solution t products quotients vanished sweeps) = whole t products quotients vanished sweeps
seen (stopped r index t k) = ended r t k
seen (refused_by r d) = early r d
seen (unsettled_at t) = late t

-- dense Crout's tables with C compressed: C(J) is the entry of the J-th held place
unfoldable pub packed : ℕ → Plan → Tables → Tables
packed N L t = record { order = t.order; c = map (λ p. entry t C (label N p.0 p.1)) (held_places N L); y = t.y; x = t.x }

-- Dense Crout's ending as the run has to show it: X and Y as they are, C(J) the entry of the J-th held place, the plan's product count, and a
-- quotient for each y and each held place above the diagonal; of the products that vanish, "program and dense method agree on the number" (A.5); a refusal
-- in C by the slot of its place.
unfoldable pub compressed : ℕ → Plan → Ended → Seen
compressed N L (solved t vanished) = whole (packed N L t) (product_count N L) (N + above N L) vanished 0
compressed N L (refused r C k) = ended r C (slot N L (place N k).0 (place N k).1)
compressed N L (refused r Y k) = ended r Y k
compressed N L (refused r X k) = ended r X k

-- ---- the statements; their proofs stand in proofs/

-- Demand 3, with A.1's limit and A.5's count: the run of the compiled program is dense Crout.
abbrev pub Agrees : ℕ → Plan → List Float → List Float → Float → Type 0
Agrees N L A B limit = Accepted N L A B limit
    → seen (ran (compiled N L) A B limit (slots N L) N N) ≡ compressed N L (dense N L A B limit)

-- where a pivot is missing, "dense Crout ends in 16 or 17 on all finite A and B", for every limit
abbrev pub NeverSolved : ℕ → Plan → List Float → List Float → Float → Type 0
NeverSolved N L A B limit = Given N L A B limit → (missing N L ≡ 0 → ⊥)
    → (t : Tables) (g : ℕ) → dense N L A B limit ≡ solved t g → ⊥

-- A.11. What is the same in a plain program's run and its compact program's: X, Y, the counts, and a refusal's number, record and table. "A refusal's number in
-- table 1 is here the slot", and "C holds what each slot closed last".
pub data Common : Type 0 where
  solves : List Float → List Float → ℕ → ℕ → ℕ → Common
  stops : ℕ → ℕ → Table → ℕ → Common
  other : Common

-- the number of a refusal's target, but for that of table 1
abbrev pub number_in : Table → ℕ → ℕ
number_in C k = 0
number_in Y k = k
number_in X k = k

unfoldable pub common : Outcome → Common
common (solution t products quotients vanished sweeps) = solves t.y t.x products quotients vanished
common (stopped r index t k) = stops r index t (number_in t k)
common (refused_by r d) = other
common (unsettled_at t) = other

abbrev pub CompactAgrees : ℕ → Plan → List Float → List Float → Float → Type 0
CompactAgrees N L A B limit = Accepted N L A B limit
    → common (ran (compacted N L) A B limit (compact_slots N L) N N) ≡ common (ran (compiled N L) A B limit (slots N L) N N)

-- "C holds what each slot closed last": the j-th slot opened closes the value of plain slot j.
abbrev pub CompactC : ℕ → Plan → List Float → List Float → Float → Type 0
CompactC N L A B limit = Accepted N L A B limit
    → (t u : Tables) (p q g k p' q' g' k' : ℕ)
    → ran (compiled N L) A B limit (slots N L) N N ≡ solution t p q g k
    → ran (compacted N L) A B limit (compact_slots N L) N N ≡ solution u p' q' g' k'
    → u.c ≡ closed_into [] (openings (compact_records N L)) t.c

-- what is compared of two endings, but for C and a refusal's number in table 1
unfoldable pub besides : Seen → Seen
besides (whole t products quotients vanished sweeps) =
    whole (record { order = t.order; c = []; y = t.y; x = t.x }) products quotients vanished sweeps
besides (ended r t k) = ended r t (number_in t k)
besides (early r d) = early r d
besides (late t) = late t

-- in these the compact program's run is dense Crout too
abbrev pub CompactDense : ℕ → Plan → List Float → List Float → Float → Type 0
CompactDense N L A B limit = Accepted N L A B limit
    → besides (seen (ran (compacted N L) A B limit (compact_slots N L) N N)) ≡ besides (compressed N L (dense N L A B limit))

abbrev pub CompactFine : ℕ → Plan → Type 0
CompactFine N L = is_order N ≡ true → judged N 0 1 L ≡ good → missing N L ≡ 0 → check (compacted N L) ≡ fine

-- "s must equal the largest number alive at any record"
abbrev pub CompactLeast : ℕ → Plan → Type 0
CompactLeast N L = is_order N ≡ true → judged N 0 1 L ≡ good → missing N L ≡ 0 → compact_slots N L ≡ most_alive 0 0 (compiled_records N L)

-- A.7. The dense sweep's ending as the run has to show it: X as it is, n - N products and N quotients for each sweep; a refusal by its row.
abbrev pub on_x : ℕ → List Float → Tables
on_x N x = record { order = N; c = []; y = []; x = x }

unfoldable pub swept_as : ℕ → Plan → Settled → Seen
swept_as N L (settles x vanished sweeps) = whole (on_x N x) (sweeps * (length L - N)) (sweeps * N) vanished sweeps
swept_as N L (refused_at r k) = ended r X k
swept_as N L (unsettles x) = late (on_x N x)

abbrev pub SweepAgrees : ℕ → Plan → List Float → List Float → Float → Type 0
SweepAgrees N L A B limit = Given N L A B limit → bare N L ≡ 0
    → seen (ran (compiled_sweep N L) A B limit 0 0 N) ≡ swept_as N L (dense_sweep N L A B limit)

abbrev pub SweepFine : ℕ → Plan → Type 0
SweepFine N L = is_order N ≡ true → judged N 0 1 L ≡ good → bare N L ≡ 0 → check (compiled_sweep N L) ≡ fine
