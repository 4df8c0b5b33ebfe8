-- Many right sides on one program: document 02, A.6. Definitions only.
use Rattle.std.specs.Prelude.{ℕ, ◌*◌, max, true, false, ◌&&◌, ◌≡◌, List, [], ◌∷◌, map, leb, eqb, length, take, drop, replicate, Float}
use Rattle.model.specs.Lists.{rising, joined, kept}
use Rattle.model.specs.Label.{within}
use Rattle.model.specs.Arith.{plus_zero}
use Rattle.model.specs.Formula.{Table, C, Y, X, Tables}
use Rattle.model.specs.Check.{Link, Verdict, fine, refusal, check_from, chain, word}
use Rattle.model.specs.Run.{Outcome, solution, stopped, refused_by, unsettled_at, check_values, ran, Reply, reply, leaves}

-- the parts of N entries of a row, "laid one after another"; the r-th counts from 0
abbrev pub part : {A : Type 0} → ℕ → List A → ℕ → List A
part N vs r = take N (drop (r * N) vs)

unfoldable pub parts : {A : Type 0} → ℕ → ℕ → List A → List (List A)
parts N count vs = rising (part N vs) 0 count

-- how the call ends: each right side's ending, or a refusal
pub data Outcomes : Type 0 where
  sides : List Outcome → Outcomes
  none_run : ℕ → ℕ → Outcomes

-- 7 to 13, where the call "takes Crout programs only and refuses s = 0 by 8" (A.7); 25, "checked before 14", "a number of right sides outside 1..64"; 14, "the
-- lengths of B, Y and X multiplied accordingly"; 15, "with its position in the whole list"; 21. Then "each right side ends as it would in its own run".
-- lc, ly and lx are the lengths of the lent C, Y and X.
unfoldable pub ran_many : List ℕ → ℕ → List Float → List Float → Float → ℕ → ℕ → ℕ → Outcomes
ran_many W count A B limit lc ly lx =
    let N = word W 0 in
    let s = word W 2 in
    let all = count * N in
    let done = sides (map (λ b. ran W A b limit s N N) (parts N count B)) in
    elim (check_from 1 W) [
      | refusal r d ↦ none_run r d
      | fine ↦ elim (within count 64) [
        | false ↦ none_run 25 0
        | true ↦ elim (eqb (length A) (word W 1) && (eqb (length B) all && (eqb lc s && (eqb ly all && eqb lx all)))) [
          | false ↦ none_run 14 0
          | true ↦ elim (check_values A B limit) [ refusal r d ↦ none_run r d | fine ↦ done ]
        ]
      ]
    ]

-- the chained records up to where a right side ended: all if it is solved, else "the count up to" the one that refused it
unfoldable pub read_by : List Link → Outcome → ℕ
read_by ls (solution t p q g k) = length ls
read_by ls (stopped r index t k) = length (kept (λ l. leb l.index index) ls)
read_by ls (refused_by r d) = 0
read_by ls (unsettled_at t) = 0

-- "the chained records read: the chain's length if any right side is solved, else the count up to the latest record that refused one"
unfoldable pub read : List Link → List Outcome → ℕ
read ls [] = 0
read ls (o ∷ os) = max (read_by ls o) (read ls os)

-- what the caller is told: the chained records read and each right side's reply, or the refusal
pub data Replies : Type 0 where
  each : ℕ → List Reply → Replies
  refuses : ℕ → ℕ → Replies

unfoldable pub replies : List ℕ → Outcomes → Replies
replies W (sides os) = each (read (chain W).links os) (map reply os)
replies W (none_run r d) = refuses r d

-- the answer of the call itself: that it ran, or the refusal
unfoldable pub verdict : Outcomes → Verdict
verdict (sides os) = fine
verdict (none_run r d) = refusal r d

-- "C holds its values if any right side is solved, else +0": the first such one's
unfoldable pub shared_c : List Outcome → List Float → List Float
shared_c [] vs = replicate (length vs) plus_zero
shared_c (o ∷ os) vs = elim o [
  | solution t p q g k ↦ t.c
  | stopped r index t k ↦ shared_c os vs
  | refused_by r d ↦ shared_c os vs
  | unsettled_at t ↦ shared_c os vs
]

-- what the call leaves in the lent table t, which held vs; N is the order. Each right side's Y and X are as after its own run, "its solution, or its first
-- refusal with its own Y and X set to +0".
unfoldable pub leaves_many : Outcomes → ℕ → Table → List Float → List Float
leaves_many (sides os) N C vs = shared_c os vs
leaves_many (sides os) N Y vs = joined (map (λ o. leaves o Y (replicate N plus_zero)) os)
leaves_many (sides os) N X vs = joined (map (λ o. leaves o X (replicate N plus_zero)) os)
leaves_many (none_run r d) N t vs = vs

-- ---- the statement; its proof stands in proofs/

-- C is the same for every right side that is solved, whichever of them it is taken from
abbrev pub SharesC : List ℕ → List Float → List Float → List Float → Float → ℕ → ℕ → Type 0
SharesC W A b b' limit c N = (t t' : Tables) (p p' q q' g g' k k' : ℕ)
    → ran W A b limit c N N ≡ solution t p q g k → ran W A b' limit c N N ≡ solution t' p' q' g' k' → t.c ≡ t'.c
