-- One pass of many right sides along the chain, and what it leaves to tell. Definitions only.
use Rattle.std.specs.Prelude.{ℕ, ◌+◌, ◌*◌, ◌≤◌, ◌<◌, ◌≡◌, Bool, true, cond, List, map, eqb, length, get_or, replicate, Float}
use Rattle.model.specs.Label.{within}
use Rattle.model.specs.Arith.{plus_zero}
use Rattle.model.specs.Check.{word, chain, check_from, fine}
use Rattle.model.specs.Run.{Outcome, Followed, follow, fresh}
use Rattle.model.specs.Many.{part, parts, read}
use Rattle.model.proofs.Sides.{along_chain, lengths_of}
use Rattle.state.specs.declared.State.{State}
use Rattle.state.specs.States.{most_made}
use Rattle.sides.specs.Cells.{Cell, any_going}
use Rattle.sides.specs.Standing.{Stands}

-- 14's test of the lengths of A, B, C, Y and X, by record 0 and the number of right sides
abbrev pub lengths_fit : List ℕ → ℕ → ℕ → ℕ → ℕ → ℕ → ℕ → Bool
lengths_fit W count la lb lc ly lx = lengths_of count (word W 0) (word W 1) (word W 2) la lb lc ly lx

-- 7 to 14 and 25 passed
pub record FitMany (W : List ℕ) (count la lb lc ly lx : ℕ) : Type 0 where
  pub checked : check_from 1 W ≡ fine
  pub sides : within count 64 ≡ true
  pub in_a : la ≡ word W 1
  pub in_b : lb ≡ count * word W 0
  pub in_c : lc ≡ word W 2
  pub in_y : ly ≡ count * word W 0
  pub in_x : lx ≡ count * word W 0

-- a right side's own way along the chain
abbrev pub side_along : List ℕ → List Float → Float → List Float → Followed
side_along W A limit b = follow A b limit (fresh (word W 0)) (chain W).links

-- how every right side ends
abbrev pub endings : List ℕ → ℕ → List Float → List Float → Float → List Outcome
endings W count A B limit = map (along_chain W A limit) (parts (word W 0) count B)

-- no count of a side that goes on overflows
abbrev pub FewTold : ℕ → ℕ → List ℕ → Type 0
FewTold count vanished out = (r : ℕ) → r < count → get_or out (4 * r + 1) 0 ≡ 0 → vanished + get_or out (4 * r + 4) 0 ≤ most_made

-- After the pass each right side stands where its own run ends; the first number is how many records were read; a side that is solved has closed all; no
-- count overflows; and the numbers past the sides' are as before.
pub record Passed (W : List ℕ) (count : ℕ) (A B : List Float) (limit : Float) (z : State) (c y x running : List Float) (out₀ out : List ℕ) : Type 0 where
  pub stands : (r : ℕ) → r < count → Stands (word W 0) z c y x running out r (side_along W A limit (part (word W 0) B r))
  pub records : get_or out 0 0 ≡ read (chain W).links (endings W count A B limit)
  pub whole : any_going count out ≡ true → (z.c ≡ length c) × (z.y ≡ word W 0) × (z.x ≡ word W 0)
  pub few : FewTold count z.vanished out
  pub past : (j : ℕ) → 4 * count < j → get_or out j 0 ≡ get_or out₀ j 0

-- what a side that is solved tells: its products and quotients, and all its products that vanished
abbrev pub told : ℕ → ℕ → ℕ → Cell → Cell
told products quotients vanished cell = record {
  running = cell.running;
  answer = cell.answer;
  table = products;
  target = quotients;
  gone = cell.gone + vanished;
}

-- the parts of the right sides that were refused are +0
abbrev pub ClearedEnded : ℕ → ℕ → List ℕ → List Float → List Float → Type 0
ClearedEnded count N out values values' = (r : ℕ) → r < count
    → part N values' r ≡ cond (eqb (get_or out (4 * r + 1) 0) 0) (part N values r) (replicate N plus_zero)
