-- Document 01's "Known plans and values" and its listing, and values for document 02's A.1, A.2, A.4 to A.7 and A.9 to A.14, as one theorem about the
-- definitions.
use Rattle.std.specs.Prelude.{ℕ, suc, ◌*◌, ◌-◌, ◌^◌, true, false, ◌≡◌, refl, List, [], ◌∷◌, ◌++◌, map, pos, negsuc, neg_ℤ, take, drop, replicate, Float}
use Rattle.std.specs.Float.{nan, inf, fin, binary64}
use Rattle.std.specs.Float.Ieee.{of_int, mul, sub, div, neg, lt, eq, le}
use Rattle.model.specs.Lists.{rising, falling, joined, kept, total, some, count}
use Rattle.model.specs.Label.{is_place, label, column, row, places, place}
use Rattle.model.specs.Fill.{Plan, position_from, position, in_plan, held_within, held, held_places, slots, slot}
use Rattle.model.specs.Fill.{missing_from, missing, pairs_at, below, above, product_count, record_count}
use Rattle.model.specs.Arith.{plus_zero, clean, settled, is_zero, is_finite, product, difference, quotient, vanishes, is_small, is_limit, next}
use Rattle.model.specs.Formula.{C, Y, X, Tables, solved, refused, put, put_x, entry, closed, starting}
use Rattle.model.specs.Formula.{less, less_all, over, tested, value, vanished_in, worked}
use Rattle.model.specs.Crout.{inner, lower, forward, upper, backward, batch, formulas, dense_formulas, reduced_formulas, dense}
use Rattle.model.specs.Program.{Record, rec, opening, records_of, chained, compiled_records, compiled}
use Rattle.model.specs.Compact.{needed, after_record, unnamed, renamed, compacting, compact_slots, compact_records, compacted, openings}
use Rattle.model.specs.Sweep.{row_formula, row_formulas, planned_rows, dense_rows, sweep_record, sweep_records, compiled_sweep, bare_from, bare}
use Rattle.model.specs.Sweep.{position_numbers, moves_more, moved, sweeping, full_table, settles, refused_at, unsettles, dense_once, dense_sweep}
use Rattle.model.specs.Compile.{written, refusal, judged, compact, sweep, orderly, admits, compiles_by, compiles, slot_numbers, work_left, work_after_by}
use Rattle.model.specs.Check as Check
use Rattle.model.specs.Check.{fine, chain_after, chain, kind_of, belongs, formed, in_order, in_turn, in_row, allowed, complete, check_links, check_from, check}
use Rattle.model.specs.Run.{Outcome, solution, stopped, refused_by, unsettled_at, step, follow, followed, not_finite, check_values, swept_over, ran}
use Rattle.model.specs.Run.{solves, stops, reply, leaves}
use Rattle.model.specs.Many.{parts, Outcomes, none_run, ran_many, read_by, read, each, replies, shared_c, leaves_many}
use Rattle.model.specs.Agreement.{Seen, seen}
use Rattle.model.specs.Compare.{same_record, compared, compares, work_compared}
use Rattle.model.specs.Path.{named, distinct, leads, is_path, tracing, work_traced}
use Rattle.model.specs.Dearest as Dearest
use Rattle.model.specs.Dearest.{yes, no, full_plan, costs, work_costed, most_products}
use Rattle.model.specs.Census.{sets, plans, plans_missing, countable, plan_counts}
use Rattle.model.specs.Numbering as Numbering
use Rattle.model.specs.Numbering.{
  given_numbering,
  renumbered,
  exchanged,
  turn,
  tried,
  after_trials,
  trials_made,
  kept_numbering,
  numbering_checks,
  numbered,
  renumbers,
  numbering_after,
  renumbered_work,
}
use Rattle.model.specs.Residual.{exact, less_row, residual, residue, words64, stored, measuring, measured}
use Rattle.model.specs.Marked.{Placed, solved_as, refused_at, value_at, placed, products_made}

abbrev int : ℕ → Float
int n = of_int binary64 (pos n)

abbrev ints : List ℕ → List Float
ints = map int

-- 1/2, -1, 2^1000 and 2^-1000
abbrev half : Float
half = fin false 1 (negsuc 0)

abbrev minus_one : Float
minus_one = fin true 1 (pos 0)

abbrev huge : Float
huge = fin false 1 (pos 1000)

abbrev tiny : Float
tiny = fin false 1 (negsuc 999)

-- 1/2 - 2^-54, 2^-1074, 1 + 2^-52 and 10^-9
abbrev below_half : Float
below_half = fin false 9007199254740991 (negsuc 53)

abbrev smallest : Float
smallest = fin false 1 (negsuc 1073)

abbrev above_one : Float
above_one = fin false 4503599627370497 (negsuc 51)

abbrev nano : Float
nano = fin false 4835703278458517 (negsuc 81)

-- 1 as it is stored, 10^-200, 10^300 and 10^-300
abbrev plus_one : Float
plus_one = fin false 1 (pos 0)

abbrev e₋₂₀₀ : Float
e₋₂₀₀ = fin false 1723641332219371 (negsuc 714)

abbrev e₃₀₀ : Float
e₃₀₀ = fin false 1681218273811815 (pos 946)

abbrev e₋₃₀₀ : Float
e₋₃₀₀ = fin false 6032057205060441 (negsuc 1048)

-- the plan of document 002, the full plan of order 2 and the plan of order 1
abbrev plan₈ : Plan
plan₈ = 1 ∷ 2 ∷ 4 ∷ 8 ∷ 10 ∷ 12 ∷ 15 ∷ 21 ∷ 28 ∷ 30 ∷ 33 ∷ 36 ∷ []

abbrev full₂ : Plan
full₂ = 1 ∷ 2 ∷ 3 ∷ 4 ∷ []

abbrev one : Plan
one = 1 ∷ []

-- four rooms, of which the first touches the others
abbrev star : Plan
star = 1 ∷ 2 ∷ 3 ∷ 4 ∷ 5 ∷ 6 ∷ 7 ∷ 8 ∷ 13 ∷ 16 ∷ []

-- the diagonal of order 2, seven places of order 4, and all places of order N
abbrev diagonal₂ : Plan
diagonal₂ = 1 ∷ 4 ∷ []

abbrev plan₄ : Plan
plan₄ = 1 ∷ 3 ∷ 5 ∷ 8 ∷ 13 ∷ 15 ∷ 16 ∷ []

abbrev full : ℕ → Plan
full N = rising (λ k. k) 1 (N * N)

-- records that no compiler writes: C(3) less C(1) times C(2), neither read later; C(4), which nobody reads; and C(5) less C(3) times itself
abbrev ties : List Record
ties =
    rec 1 0 1 ∷ rec 8 0 0
    ∷ rec 1 0 2 ∷ rec 8 0 0
    ∷ rec 1 0 3 ∷ rec 4 1 2 ∷ rec 8 0 0
    ∷ rec 1 0 4 ∷ rec 8 0 0
    ∷ rec 1 0 5 ∷ rec 4 3 3 ∷ rec 8 0 0
    ∷ []

-- the compiled run of order 2 on A and B with a limit, and that of order 1
abbrev ran₂ : List Float → List Float → Float → Outcome
ran₂ A B limit = ran (compiled 2 full₂) A B limit 4 2 2

abbrev ran₁ : List Float → List Float → Float → Outcome
ran₁ A B limit = ran (compiled 1 one) A B limit 1 1 1

-- the compact run of the diagonal
abbrev ran_diagonal : List Float → List Float → Outcome
ran_diagonal A B = ran (compacted 2 diagonal₂) A B plus_zero 1 2 2

-- the compiled sweep of order 2, and the tables that hold its X alone
abbrev swept₂ : List Float → List Float → Float → Outcome
swept₂ A B limit = ran (compiled_sweep 2 full₂) A B limit 0 0 2

abbrev on_x₂ : List Float → Tables
on_x₂ x = record { order = 2; c = []; y = []; x = x }

-- the coefficients of T3, and those of G1, G2 and G3
abbrev nearly_equal : List Float
nearly_equal = int 1 ∷ int 1 ∷ int 1 ∷ above_one ∷ []

abbrev weak : Float → List Float
weak v = plus_one ∷ v ∷ v ∷ plus_one ∷ []

abbrev strong : List Float
strong = e₃₀₀ ∷ plus_zero ∷ neg e₋₃₀₀ ∷ plus_one ∷ []

-- the coefficients of S3, S4 and S5, and the X of S3
abbrev settling : List Float
settling = ints (4 ∷ 2 ∷ 1 ∷ 4 ∷ [])

abbrev settled_x : List Float
settled_x = fin false 9 (negsuc 2) ∷ fin false 27 (negsuc 3) ∷ []

abbrev drifting : List Float
drifting = int 1 ∷ minus_one ∷ minus_one ∷ int 1 ∷ []

abbrev bottomless : List Float
bottomless = int 1 ∷ int 1 ∷ int 1 ∷ neg plus_zero ∷ []

-- S6: a plan of order 3 where x(1) jumps from 1.5 · 10^308 to its negative, and 10^308
abbrev plan₃ : Plan
plan₃ = 1 ∷ 4 ∷ 5 ∷ 6 ∷ 9 ∷ []

abbrev large : Float
large = fin false 469726959377103 (pos 975)

abbrev e₃₀₈ : Float
e₃₀₈ = fin false 156575653125701 (pos 976)

-- the tables of V1 and of V4, of T2, T3 and T4, and of G1, G2 and G3
abbrev tables₁ : Tables
tables₁ = record { order = 2; c = int 2 ∷ int 4 ∷ half ∷ int 2 ∷ []; y = ints (2 ∷ 2 ∷ []); x = ints (1 ∷ 2 ∷ []) }

abbrev tables₄ : Tables
tables₄ = record { order = 1; c = minus_one ∷ []; y = plus_zero ∷ []; x = plus_zero ∷ [] }

abbrev halves : Tables
halves = record { order = 1; c = half ∷ []; y = int 2 ∷ []; x = int 2 ∷ [] }

abbrev nearly : Tables
nearly = record {
  order = 2;
  c = int 1 ∷ int 1 ∷ int 1 ∷ fin false 1 (negsuc 51) ∷ [];
  y = int 4 ∷ fin false 1 (pos 55) ∷ [];
  x = fin true 9007199254740991 (pos 2) ∷ fin false 1 (pos 55) ∷ [];
}

abbrev noughts : Tables
noughts = record { order = 1; c = smallest ∷ []; y = plus_zero ∷ []; x = plus_zero ∷ [] }

abbrev ones : Tables
ones = record { order = 2; c = weak e₋₂₀₀; y = plus_one ∷ plus_one ∷ []; x = plus_one ∷ plus_one ∷ [] }

abbrev cut : Tables
cut = record { order = 2; c = weak tiny; y = tiny ∷ tiny ∷ []; x = tiny ∷ tiny ∷ [] }

abbrev flat : Tables
flat = record { order = 2; c = e₃₀₀ ∷ plus_zero ∷ plus_zero ∷ plus_one ∷ []; y = plus_zero ∷ plus_one ∷ []; x = plus_zero ∷ plus_one ∷ [] }

-- the tables of C3: the one slot holds the second pivot
abbrev only_last : Tables
only_last = record { order = 2; c = int 4 ∷ []; y = ints (1 ∷ 3 ∷ []); x = ints (1 ∷ 3 ∷ []) }

-- right sides for the plan 1 4 of order 2, with lent Y and X of so many rows
abbrev many₂ : ℕ → List Float → List Float → ℕ → Outcomes
many₂ count A B rows = ran_many (compiled 2 diagonal₂) count A B plus_zero 2 rows rows

abbrev three_sides : Outcomes
three_sides = many₂ 3 (tiny ∷ int 1 ∷ []) (int 1 ∷ int 1 ∷ huge ∷ int 1 ∷ int 5 ∷ int 6 ∷ []) 6

-- words with word i changed to v, and the program of order 1 with a spare record put first
abbrev changed : ℕ → ℕ → List ℕ → List ℕ
changed i v W = take i W ++ (v ∷ drop (suc i) W)

abbrev spaced₁ : List ℕ
spaced₁ =
    1 ∷ 1 ∷ 1 ∷ 2
    ∷ 99 ∷ 99 ∷ 99 ∷ 99
    ∷ 1 ∷ 1 ∷ 1 ∷ 3
    ∷ 9 ∷ 0 ∷ 0 ∷ 4
    ∷ 2 ∷ 1 ∷ 0 ∷ 5
    ∷ 7 ∷ 1 ∷ 0 ∷ 6
    ∷ 8 ∷ 0 ∷ 0 ∷ 7
    ∷ 3 ∷ 1 ∷ 0 ∷ 8
    ∷ 8 ∷ 0 ∷ 0 ∷ 0
    ∷ []

-- what is seen of the run of the plan 1 4 of order 2, and of all places, on right side 2 12
abbrev apart : List Float → Seen
apart A = seen (ran (compiled 2 diagonal₂) A (ints (2 ∷ 12 ∷ [])) plus_zero 2 2 2)

abbrev walled : List Float → Seen
walled A = seen (ran₂ A (ints (2 ∷ 12 ∷ [])) plus_zero)

-- the coefficients of W1 with two places marked, and how both plans end on them
abbrev marked₁ : List Float
marked₁ = int 2 ∷ plus_zero ∷ neg plus_zero ∷ int 4 ∷ []

abbrev placed₁ : Placed
placed₁ = solved_as (int 2 ∷ plus_zero ∷ plus_zero ∷ int 4 ∷ []) (ints (1 ∷ 3 ∷ [])) (ints (1 ∷ 3 ∷ [])) 0

-- the places (3, 1) and (1, 2) of order 3, and those of a way round in order 4: (4, 1), (1, 2), (2, 3) and (3, 4)
abbrev corner : Plan
corner = 3 ∷ 4 ∷ []

abbrev round : Plan
round = 4 ∷ 5 ∷ 11 ∷ 15 ∷ []

pub record Known : Type 0 where
  p1 : (label 6 5 2 ≡ 15) × (label 6 1 6 ≡ 11) × (label 6 6 6 ≡ 36) × (place 6 15 ≡ (5, 2)) × (place 6 11 ≡ (1, 6)) × (place 6 36 ≡ (6, 6))
  p2 : compiles 2 (1 ∷ 2 ∷ 3 ∷ []) 4 92 ≡ written 4 3 23
  p3 : compiles 2 (1 ∷ 2 ∷ 4 ∷ []) 4 72 ≡ written 3 1 18
  p4 : compiles 2 (2 ∷ 3 ∷ []) 4 92 ≡ refusal 5 1
  p5 : compiles 3 [] 9 400 ≡ refusal 5 1
  p6 : (compiles 2 (1 ∷ 1 ∷ []) 4 92 ≡ refusal 4 2) × (compiles 2 (5 ∷ []) 4 92 ≡ refusal 3 1)
  p7 : (compiles 0 [] 0 0 ≡ refusal 1 0) × (compiles 601 [] 361201 0 ≡ refusal 1 0)
  p8 : compiles 6 plan₈ 36 364 ≡ written 18 19 91
  v1 : (dense 2 full₂ (ints (2 ∷ 4 ∷ 1 ∷ 4 ∷ [])) (ints (4 ∷ 12 ∷ [])) plus_zero ≡ solved tables₁ 0)
      × (ran₂ (ints (2 ∷ 4 ∷ 1 ∷ 4 ∷ [])) (ints (4 ∷ 12 ∷ [])) plus_zero ≡ solution tables₁ 3 3 0 0)
  v2 : (dense 2 full₂ (ints (1 ∷ 1 ∷ 1 ∷ 1 ∷ [])) (ints (4 ∷ 12 ∷ [])) plus_zero ≡ refused 17 C 4)
      × (ran₂ (ints (1 ∷ 1 ∷ 1 ∷ 1 ∷ [])) (ints (4 ∷ 12 ∷ [])) plus_zero ≡ stopped 17 13 C 4)
  v3 : (dense 1 one (tiny ∷ []) (huge ∷ []) plus_zero ≡ refused 16 Y 1) × (ran₁ (tiny ∷ []) (huge ∷ []) plus_zero ≡ stopped 16 4 Y 1)
  v4 : (dense 1 one (minus_one ∷ []) (plus_zero ∷ []) plus_zero ≡ solved tables₄ 0)
      × (ran₁ (minus_one ∷ []) (plus_zero ∷ []) plus_zero ≡ solution tables₄ 0 1 0 0)
  -- A.1: a pivot of exactly -t, one just above t, and a second pivot near 0, also without a limit; a limit -0, one that is negative, and one with a
  -- value that is not finite
  t1 : (dense 1 one (neg half ∷ []) (ints (1 ∷ [])) half ≡ refused 17 C 1) × (ran₁ (neg half ∷ []) (ints (1 ∷ [])) half ≡ stopped 17 2 C 1)
  t2 : (dense 1 one (half ∷ []) (ints (1 ∷ [])) below_half ≡ solved halves 0) × (ran₁ (half ∷ []) (ints (1 ∷ [])) below_half ≡ solution halves 0 1 0 0)
  t3 : (dense 2 full₂ nearly_equal (ints (4 ∷ 12 ∷ [])) nano ≡ refused 17 C 4)
      × (ran₂ nearly_equal (ints (4 ∷ 12 ∷ [])) nano ≡ stopped 17 13 C 4)
      × (ran₂ nearly_equal (ints (4 ∷ 12 ∷ [])) plus_zero ≡ solution nearly 3 3 0 0)
  t4 : (dense 1 one (smallest ∷ []) (plus_zero ∷ []) (neg plus_zero) ≡ solved noughts 0)
      × (ran₁ (smallest ∷ []) (plus_zero ∷ []) (neg plus_zero) ≡ solution noughts 0 1 0 0)
  t5 : ran₁ (ints (1 ∷ [])) (ints (1 ∷ [])) (neg smallest) ≡ refused_by 21 0
  t6 : ran₁ (ints (1 ∷ [])) (inf false ∷ []) minus_one ≡ refused_by 15 1
  -- A.5: one product that vanishes; one in each of kinds 4, 5 and 6; and none where two quotients round to zero and the products have a factor that is zero
  g1 : (dense 2 full₂ (weak e₋₂₀₀) (plus_one ∷ plus_one ∷ []) plus_zero ≡ solved ones 1)
      × (ran₂ (weak e₋₂₀₀) (plus_one ∷ plus_one ∷ []) plus_zero ≡ solution ones 3 3 1 0)
  g2 : (dense 2 full₂ (weak tiny) (tiny ∷ tiny ∷ []) plus_zero ≡ solved cut 3) × (ran₂ (weak tiny) (tiny ∷ tiny ∷ []) plus_zero ≡ solution cut 3 3 3 0)
  g3 : (dense 2 full₂ strong (e₋₃₀₀ ∷ plus_one ∷ []) plus_zero ≡ solved flat 0) × (ran₂ strong (e₋₃₀₀ ∷ plus_one ∷ []) plus_zero ≡ solution flat 3 3 0 0)
  -- A.11: the answer and the work slice of the second compiler, also after 5; the run of its program, and a refusal; the slots opened, also where one
  -- record frees two slots, or a closing one; and how many slots there are
  c1 : compiles_by compact 2 diagonal₂ 16 60 ≡ written 1 0 15
  c2 : (work_after_by compact 2 diagonal₂ (replicate 17 9) 60 ≡ 1 ∷ 0 ∷ 0 ∷ 2 ∷ replicate 12 0 ++ (9 ∷ []))
      × (work_after_by compact 2 (2 ∷ 3 ∷ []) (replicate 17 9) 60 ≡ replicate 16 0 ++ (9 ∷ []))
  c3 : ran_diagonal (ints (2 ∷ 4 ∷ [])) (ints (2 ∷ 12 ∷ [])) ≡ solution only_last 0 2 0 0
  c4 : ran_diagonal (ints (2 ∷ 0 ∷ [])) (ints (2 ∷ 12 ∷ [])) ≡ stopped 17 7 C 1
  c5 : (openings (compact_records 2 full₂) ≡ 1 ∷ 2 ∷ 3 ∷ 1 ∷ []) × (openings (compact_records 4 plan₄) ≡ 1 ∷ 2 ∷ 3 ∷ 1 ∷ 4 ∷ 1 ∷ 4 ∷ 1 ∷ [])
  c6 : openings (renamed unnamed ties).records ≡ 1 ∷ 2 ∷ 3 ∷ 2 ∷ 2 ∷ []
  c7 : (compact_slots 6 plan₈ ≡ 10) × (compact_slots 3 (full 3) ≡ 7) × (compact_slots 4 (full 4) ≡ 12) × (compact_slots 5 (full 5) ≡ 18)
  -- A.7: the answer, the words and the work slice of the sweep's compiler, also after 26; a run and the dense sweep that settle, that do not and that are
  -- refused; a move that overflows, and one of exactly the tolerance
  s1 : compiles_by sweep 2 full₂ 4 36 ≡ written 0 2 9
  s2 : (compiled_sweep 2 full₂
      ≡ 2 ∷ 4 ∷ 0 ∷ 1
      ∷ 10 ∷ 1 ∷ 0 ∷ 2
      ∷ 11 ∷ 3 ∷ 2 ∷ 3
      ∷ 12 ∷ 1 ∷ 0 ∷ 4
      ∷ 8 ∷ 0 ∷ 0 ∷ 5
      ∷ 10 ∷ 2 ∷ 0 ∷ 6
      ∷ 11 ∷ 2 ∷ 1 ∷ 7
      ∷ 12 ∷ 4 ∷ 0 ∷ 8
      ∷ 8 ∷ 0 ∷ 0 ∷ 0
      ∷ [])
      × (map (λ r. r.q) (sweep_records 3 (full 3))
      ≡ 0 ∷ 2 ∷ 3 ∷ 0 ∷ 0
      ∷ 0 ∷ 1 ∷ 3 ∷ 0 ∷ 0
      ∷ 0 ∷ 1 ∷ 2 ∷ 0 ∷ 0
      ∷ [])
  s3 : (swept₂ settling (ints (6 ∷ 9 ∷ [])) half ≡ solution (on_x₂ settled_x) 4 4 0 2)
      × (dense_sweep 2 full₂ settling (ints (6 ∷ 9 ∷ [])) half ≡ settles settled_x 0 2)
  s4 : (swept₂ drifting (ints (1 ∷ 1 ∷ [])) plus_zero ≡ unsettled_at (on_x₂ (ints (599 ∷ 600 ∷ []))))
      × (dense_sweep 2 full₂ drifting (ints (1 ∷ 1 ∷ [])) plus_zero ≡ unsettles (ints (599 ∷ 600 ∷ [])))
  s5 : (swept₂ bottomless (ints (1 ∷ 0 ∷ [])) plus_zero ≡ stopped 17 7 X 2)
      × (dense_sweep 2 full₂ bottomless (ints (1 ∷ 0 ∷ [])) plus_zero ≡ refused_at 17 2)
  s6 : ran (compiled_sweep 3 plan₃) (ints (1 ∷ 1 ∷ 1 ∷ 1 ∷ 1 ∷ [])) (large ∷ large ∷ large ∷ []) e₃₀₈ 0 0 3
      ≡ solution (record { order = 3; c = []; y = []; x = neg large ∷ large ∷ large ∷ [] }) 6 9 0 3
  s7 : swept₂ settling (ints (6 ∷ 9 ∷ [])) (fin false 3 (negsuc 2)) ≡ solution (on_x₂ settled_x) 4 4 0 2
  s8 : (compiles_by sweep 2 (1 ∷ 2 ∷ 3 ∷ []) 4 36 ≡ refusal 26 2)
      × (work_after_by sweep 2 (1 ∷ 2 ∷ 3 ∷ []) (replicate 5 9) 36 ≡ 0 ∷ 0 ∷ 0 ∷ 0 ∷ 9 ∷ [])
      × (work_after_by sweep 2 (1 ∷ 3 ∷ 4 ∷ []) (replicate 5 9) 36 ≡ 1 ∷ 0 ∷ 2 ∷ 3 ∷ 9 ∷ [])
  -- A.6: right sides that are all refused, each at its own record, and C; right sides of which one is refused, and C, Y and X; a program of sweeps, 0 and 65
  -- right sides, lengths of one right side for two, and a value that is not finite in the second one
  m1 : (replies (compiled 2 diagonal₂) (many₂ 2 (tiny ∷ tiny ∷ []) (int 1 ∷ huge ∷ huge ∷ int 1 ∷ []) 4) ≡ each 9 (stops 16 9 2 2 ∷ stops 16 4 2 1 ∷ []))
      × (leaves_many (many₂ 2 (tiny ∷ tiny ∷ []) (int 1 ∷ huge ∷ huge ∷ int 1 ∷ []) 4) 2 C (ints (7 ∷ 7 ∷ [])) ≡ plus_zero ∷ plus_zero ∷ [])
  m2 : (replies (compiled 2 diagonal₂) three_sides ≡ each 14 (solves 0 2 0 0 ∷ stops 16 4 2 1 ∷ solves 0 2 0 0 ∷ []))
      × (leaves_many three_sides 2 C (ints (7 ∷ 7 ∷ [])) ≡ tiny ∷ int 1 ∷ [])
      × (leaves_many three_sides 2 Y (replicate 6 half) ≡ huge ∷ int 1 ∷ plus_zero ∷ plus_zero ∷ fin false 5 (pos 1000) ∷ int 6 ∷ [])
      × (leaves_many three_sides 2 X (replicate 6 half) ≡ huge ∷ int 1 ∷ plus_zero ∷ plus_zero ∷ fin false 5 (pos 1000) ∷ int 6 ∷ [])
  m3 : (ran_many (compiled_sweep 2 full₂) 0 [] [] minus_one 0 0 0 ≡ none_run 8 0)
      × (many₂ 0 [] [] 0 ≡ none_run 25 0)
      × (many₂ 65 [] [] 0 ≡ none_run 25 0)
      × (many₂ 2 (ints (1 ∷ 1 ∷ [])) (ints (1 ∷ 1 ∷ [])) 2 ≡ none_run 14 0)
      × (many₂ 2 (ints (1 ∷ 1 ∷ [])) (int 1 ∷ int 1 ∷ inf false ∷ int 1 ∷ []) 4 ≡ none_run 15 3)
  -- A.10: a spare record put first; records after the compiler's last; another kind, p and q; another N, n and s, and a program of sweeps; what 5, 7 and 13
  -- refuse; and the work slice, also after 5
  e1 : compares 1 one 1 spaced₁ ≡ fine
  e2 : compares 1 one 1 (changed 31 8 (compiled 1 one) ++ (1 ∷ 1 ∷ 1 ∷ 9 ∷ 9 ∷ 0 ∷ 0 ∷ 0 ∷ [])) ≡ Check.refusal 28 8
  e3 : (compares 1 one 1 (changed 8 8 (compiled 1 one)) ≡ Check.refusal 28 2)
      × (compares 2 full₂ 4 (changed 49 3 (compiled 2 full₂)) ≡ Check.refusal 28 12)
      × (compares 2 full₂ 4 (changed 50 2 (compiled 2 full₂)) ≡ Check.refusal 28 12)
  e4 : (compares 2 diagonal₂ 4 (compiled 1 one) ≡ Check.refusal 28 0)
      × (compares 2 full₂ 4 (compiled 2 (1 ∷ 2 ∷ 3 ∷ [])) ≡ Check.refusal 28 0)
      × (compares 2 diagonal₂ 4 (compacted 2 diagonal₂) ≡ Check.refusal 28 0)
      × (compares 2 full₂ 4 (compiled_sweep 2 full₂) ≡ Check.refusal 28 0)
  e5 : (compares 2 (2 ∷ 3 ∷ []) 4 [] ≡ Check.refusal 5 1)
      × (compares 1 one 1 [] ≡ Check.refusal 7 0)
      × (compares 1 one 1 (changed 23 0 (compiled 1 one)) ≡ Check.refusal 13 0)
  e6 : (work_compared 2 diagonal₂ (replicate 5 9) ≡ 1 ∷ 0 ∷ 0 ∷ 2 ∷ 9 ∷ []) × (work_compared 2 (2 ∷ 3 ∷ []) (replicate 5 9) ≡ 0 ∷ 0 ∷ 0 ∷ 0 ∷ 9 ∷ [])
  -- A.9: two plans that end alike, in a solution, with the products of each, and in a refusal; and a plan that misses a pivot, with that pivot marked
  w1 : (placed 2 diagonal₂ (apart (ints (2 ∷ 4 ∷ []))) ≡ placed₁)
      × (placed 2 full₂ (walled marked₁) ≡ placed₁)
      × (products_made (apart (ints (2 ∷ 4 ∷ []))) ≡ 0)
      × (products_made (walled marked₁) ≡ 3)
  w2 : (placed 2 diagonal₂ (apart (ints (2 ∷ 0 ∷ []))) ≡ refused_at 17 (2, 2))
      × (placed 2 full₂ (walled (int 2 ∷ neg plus_zero ∷ plus_zero ∷ int 0 ∷ [])) ≡ refused_at 17 (2, 2))
  w3 : (missing 2 (2 ∷ 3 ∷ []) ≡ 1) × (placed 2 full₂ (walled (plus_zero ∷ int 4 ∷ int 1 ∷ neg plus_zero ∷ [])) ≡ refused_at 17 (1, 1))
  -- A.2: a path, also one that goes round; what is none: a room named twice, one that is not below both, a pair that is not in the plan, or that is the
  -- wrong way round, and another end; a place that is not held, or outside, and a list that is too short; and the work slice, with pivots missing
  f1 : (tracing 3 corner 3 2 9 4 ≡ fine) × (is_path 3 corner 3 2 (3 ∷ 1 ∷ 2 ∷ []) ≡ true) × (is_path 4 round 4 4 (4 ∷ 1 ∷ 2 ∷ 3 ∷ 4 ∷ []) ≡ true)
  f2 : (is_path 3 (full 3) 3 3 (3 ∷ 1 ∷ 1 ∷ 3 ∷ []) ≡ false)
      × (is_path 3 (full 3) 2 2 (2 ∷ 3 ∷ 2 ∷ []) ≡ false)
      × (is_path 3 corner 3 2 (3 ∷ 2 ∷ []) ≡ false)
      × (is_path 3 corner 2 3 (2 ∷ 1 ∷ 3 ∷ []) ≡ false)
      × (is_path 3 corner 3 2 (3 ∷ 1 ∷ []) ≡ false)
      × (is_path 3 corner 3 2 (3 ∷ []) ≡ false)
  f3 : (tracing 3 corner 2 3 9 4 ≡ Check.refusal 22 0) × (tracing 3 corner 3 4 9 3 ≡ Check.refusal 22 0) × (tracing 3 corner 3 2 9 3 ≡ Check.refusal 23 0)
  f4 : work_traced 3 corner (replicate 10 9) ≡ 0 ∷ 0 ∷ 1 ∷ 2 ∷ 0 ∷ 0 ∷ 3 ∷ 0 ∷ 0 ∷ 9 ∷ []
  -- A.14: the full table's products are reached by the first row and column alone; without the first pivot too, but such a plan is refused
  d1 : (costs 2 (1 ∷ 2 ∷ 3 ∷ []) 4 ≡ yes) × (costs 2 (1 ∷ 2 ∷ 4 ∷ []) 4 ≡ no) × (costs 1 one 1 ≡ yes) × (costs 3 (1 ∷ 2 ∷ 3 ∷ 4 ∷ 5 ∷ []) 9 ≡ yes)
  d2 : (product_count 2 (2 ∷ 3 ∷ []) ≡ 3) × (costs 2 (2 ∷ 3 ∷ []) 4 ≡ Dearest.refused 5 1)
  d3 : (most_products 1 ≡ 0) × (most_products 2 ≡ 3) × (most_products 3 ≡ 11)
  d4 : (work_costed 2 (1 ∷ 2 ∷ 3 ∷ []) (replicate 5 9) ≡ 1 ∷ 2 ∷ 3 ∷ 4 ∷ 9 ∷ []) × (work_costed 2 (2 ∷ 3 ∷ []) (replicate 5 9) ≡ 0 ∷ 0 ∷ 0 ∷ 0 ∷ 9 ∷ [])
  -- A.13: the handbook's counts up to order 3, and 30
  h1 : (plan_counts 1 ≡ 1 ∷ 1 ∷ 0 ∷ 0 ∷ 0 ∷ []) × (plan_counts 2 ≡ 5 ∷ 8 ∷ 3 ∷ 0 ∷ 0 ∷ []) × (plan_counts 3 ≡ 121 ∷ 256 ∷ 96 ∷ 39 ∷ 0 ∷ [])
  h2 : (countable 4 ≡ fine) × (countable 0 ≡ Check.refusal 30 0) × (countable 5 ≡ Check.refusal 30 0) × (plan_counts 5 ≡ replicate 5 0)
  -- A.12: a star of four rooms whose middle comes first; an exchange that would miss a pivot; order 1, 29 and 5; what is left after 29 and 5
  r1 : (renumbers 4 star 2 16 4 ≡ numbered 10 2 0) × (kept_numbering 4 star 2 ≡ 2 ∷ 3 ∷ 1 ∷ 4 ∷ [])
      × (renumbers 4 star 1 16 4 ≡ numbered 12 1 2) × (kept_numbering 4 star 1 ≡ 2 ∷ 1 ∷ 3 ∷ 4 ∷ [])
  r2 : (renumbers 2 (1 ∷ 2 ∷ 3 ∷ []) 5 4 2 ≡ numbered 4 5 1) × (kept_numbering 2 (1 ∷ 2 ∷ 3 ∷ []) 5 ≡ 1 ∷ 2 ∷ [])
  r3 : (renumbers 1 one 7 1 1 ≡ numbered 1 0 0) × (renumbers 2 (1 ∷ 2 ∷ 3 ∷ []) 5 4 3 ≡ Numbering.refused 29 0) × (renumbers 2 (2 ∷ 3 ∷ []) 5 4 3 ≡ Numbering.refused 5 1)
  r4 : (renumbered_work 2 (1 ∷ 2 ∷ 3 ∷ []) 5 (replicate 5 9) 3 ≡ 1 ∷ 2 ∷ 3 ∷ 4 ∷ 9 ∷ []) × (numbering_after 2 (1 ∷ 2 ∷ 3 ∷ []) 5 4 (7 ∷ 7 ∷ 7 ∷ []) ≡ 7 ∷ 7 ∷ 7 ∷ [])
      × (renumbered_work 2 (2 ∷ 3 ∷ []) 5 (replicate 5 9) 2 ≡ 0 ∷ 0 ∷ 0 ∷ 0 ∷ 9 ∷ [])
  -- A.4: rows of a plan without a pivot; a half, and the smallest product, as words; 1, 14, 15 in X and 24
  q1 : (residual 2 (2 ∷ 3 ∷ []) (ints (1 ∷ 3 ∷ [])) (ints (5 ∷ 7 ∷ [])) (ints (2 ∷ 4 ∷ [])) 1 ≡ neg_ℤ (pos (7 * 2 ^ 2148)))
      × (residual 2 (2 ∷ 3 ∷ []) (ints (1 ∷ 3 ∷ [])) (ints (5 ∷ 7 ∷ [])) (ints (2 ∷ 4 ∷ [])) 2 ≡ pos (5 * 2 ^ 2148))
  q2 : (measured 1 one (half ∷ []) (plus_zero ∷ []) (int 1 ∷ []) (replicate 66 9) ≡ replicate 33 0 ++ ((2 ^ 64 - 2 ^ 35) ∷ replicate 32 (2 ^ 64 - 1)))
      × (measured 1 one (smallest ∷ []) (plus_zero ∷ []) (smallest ∷ []) (replicate 66 9) ≡ replicate 66 (2 ^ 64 - 1))
  q3 : (measuring 0 [] [] [] [] 0 ≡ Check.refusal 1 0) × (measuring 1 one [] (int 1 ∷ []) (int 1 ∷ []) 66 ≡ Check.refusal 14 0)
      × (measuring 1 one (int 1 ∷ []) (int 1 ∷ []) (nan ∷ []) 65 ≡ Check.refusal 15 1) × (measuring 1 one (int 1 ∷ []) (int 1 ∷ []) (int 1 ∷ []) 65 ≡ Check.refusal 24 0)
  -- the listing for input `1 1`, a record a line
  listing : compiled 1 one
      ≡ 1 ∷ 1 ∷ 1 ∷ 1
      ∷ 1 ∷ 1 ∷ 1 ∷ 2
      ∷ 9 ∷ 0 ∷ 0 ∷ 3
      ∷ 2 ∷ 1 ∷ 0 ∷ 4
      ∷ 7 ∷ 1 ∷ 0 ∷ 5
      ∷ 8 ∷ 0 ∷ 0 ∷ 6
      ∷ 3 ∷ 1 ∷ 0 ∷ 7
      ∷ 8 ∷ 0 ∷ 0 ∷ 0
      ∷ []

pub known : Known
unfolding rising falling joined kept total some count label column row places place
    position_from position held_within held held_places slots slot missing_from missing pairs_at below above product_count record_count
    clean settled is_zero is_finite product difference quotient vanishes is_small is_limit next
    put put_x entry closed starting less less_all over tested value vanished_in worked
    inner lower forward upper backward batch formulas dense_formulas reduced_formulas dense
    opening records_of chained compiled_records compiled needed after_record renamed compacting compact_slots compact_records compacted
    row_formula row_formulas planned_rows dense_rows sweep_record sweep_records compiled_sweep bare_from bare position_numbers
    moves_more moved sweeping full_table dense_once dense_sweep
    judged orderly admits compiles_by slot_numbers work_left work_after_by
    chain_after chain kind_of belongs formed in_order in_turn in_row allowed complete check_links check_from check
    step follow followed not_finite check_values swept_over ran reply leaves
    parts ran_many read_by read replies shared_c leaves_many same_record compared compares work_compared seen value_at placed products_made
    is_place in_plan named distinct leads is_path tracing work_traced full_plan costs work_costed most_products sets plans plans_missing countable plan_counts
    given_numbering renumbered exchanged turn tried after_trials trials_made kept_numbering numbering_checks renumbers numbering_after renumbered_work
    exact less_row residual residue words64 stored measuring measured
    mul sub div neg lt eq le of_int
known = record {
  p1 = (refl, refl, refl, refl, refl, refl);
  p2 = refl;
  p3 = refl;
  p4 = refl;
  p5 = refl;
  p6 = (refl, refl);
  p7 = (refl, refl);
  p8 = refl;
  v1 = (refl, refl);
  v2 = (refl, refl);
  v3 = (refl, refl);
  v4 = (refl, refl);
  t1 = (refl, refl);
  t2 = (refl, refl);
  t3 = (refl, refl, refl);
  t4 = (refl, refl);
  t5 = refl;
  t6 = refl;
  g1 = (refl, refl);
  g2 = (refl, refl);
  g3 = (refl, refl);
  c1 = refl;
  c2 = (refl, refl);
  c3 = refl;
  c4 = refl;
  c5 = (refl, refl);
  c6 = refl;
  c7 = (refl, refl, refl, refl);
  s1 = refl;
  s2 = (refl, refl);
  s3 = (refl, refl);
  s4 = (refl, refl);
  s5 = (refl, refl);
  s6 = refl;
  s7 = refl;
  s8 = (refl, refl, refl);
  m1 = (refl, refl);
  m2 = (refl, refl, refl, refl);
  m3 = (refl, refl, refl, refl, refl);
  e1 = refl;
  e2 = refl;
  e3 = (refl, refl, refl);
  e4 = (refl, refl, refl, refl);
  e5 = (refl, refl, refl);
  e6 = (refl, refl);
  w1 = (refl, refl, refl, refl);
  w2 = (refl, refl);
  w3 = (refl, refl);
  f1 = (refl, refl, refl);
  f2 = (refl, refl, refl, refl, refl, refl);
  f3 = (refl, refl, refl);
  f4 = refl;
  d1 = (refl, refl, refl, refl);
  d2 = (refl, refl);
  d3 = (refl, refl, refl);
  d4 = (refl, refl);
  h1 = (refl, refl, refl);
  h2 = (refl, refl, refl, refl);
  r1 = (refl, refl, refl, refl);
  r2 = (refl, refl);
  r3 = (refl, refl, refl);
  r4 = (refl, refl, refl);
  q1 = (refl, refl);
  q2 = (refl, refl);
  q3 = (refl, refl, refl, refl);
  listing = refl;
}
