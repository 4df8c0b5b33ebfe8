-- Where the walk over a plan's places stands: the slots given, in the order of the labels, the free ones, and what is noted of the rows. Definitions only.
use Rattle.std.specs.Prelude.{ℕ, suc, ◌-◌, ◌*◌, ◌≤◌, ◌<◌, max, ◌≡◌, true, false, cond, ◌&&◌, List, ltb, eqb, length, get_or, set, drop}
use Rattle.model.specs.Label.{label, is_order}
use Rattle.model.specs.Fill.{Plan, held, slots, missing}
use Rattle.model.specs.Compact.{openings, compact_slots, compact_records}
use Rattle.model.proofs.Labels.{Inside}
use Rattle.model.proofs.Reuse.{taken, others, made_with}
use Rattle.model.proofs.Renaming.{slot_in}
use Rattle.model.proofs.Lives.{last_by, last_right}
use Rattle.model.proofs.Assign.{freed_row, room_in}
use Rattle.model.proofs.Assigned.{ColumnReached, RowReached, BatchReached}
use Rattle.model.proofs.Stacked.{Few}
use Rattle.reuse.specs.declared.Walk.{Walk}

-- ---- one place, and one row's free slots

-- the next place is passed, and given the slot that was freed last, or a new one, if it has a number
pub record Gave (given : List ℕ) (walk : Walk) (given' : List ℕ) (after : Walk) : Type 0 where
  pub passed : after.done ≡ suc walk.done
  pub near : walk.top ≤ after.top
  pub fits : after.top ≤ length given
  pub slot_is : given' ≡ cond (ltb 0 (get_or given walk.done 0)) (set given walk.done (taken (drop walk.top given) walk.made)) given
  pub free-are : drop after.top given ≡ cond (ltb 0 (get_or given walk.done 0)) (others (drop walk.top given)) (drop walk.top given)
  pub made-are : after.made ≡ cond (ltb 0 (get_or given walk.done 0)) (made_with (drop walk.top given) walk.made) walk.made

-- the slot given to (m, h), by its label; and the free ones after those of row m, from column a on, that are used last by (m, t)
abbrev pub given_at : ℕ → List ℕ → ℕ → ℕ → ℕ
given_at n given m h = get_or given (label n m h - 1) 0

abbrev pub freed_along : ℕ → List ℕ → List ℕ → ℕ → ℕ → ℕ → List ℕ → List ℕ
freed_along n last given m t a free =
    freed_row (given_at n given m) (λ h. ltb 0 (given_at n given m h) && eqb (max m (get_or last h 0)) t) a (m - a) free

-- ---- the walk

-- an order, and a plan whose pivots are all held
pub record Good (n : ℕ) (L : Plan) : Type 0 where
  pub order : is_order n ≡ true
  pub complete : missing n L ≡ 0

-- Each place done has the slot given to it, each later one a number if it is held, and the free slots stand from the top on.
pub record Holding (n : ℕ) (L : Plan) (given : List ℕ) (walk : Walk) (gs fs : List ℕ) : Type 0 where
  pub count : length given ≡ 3 * (n * n)
  pub placed : (i j : ℕ) → Inside n i j → label n i j ≤ walk.done → given_at n given i j ≡ room_in n L gs i j
  pub ahead : (i j : ℕ) → Inside n i j → walk.done < label n i j → ltb 0 (given_at n given i j) ≡ held n L i j
  pub apart : n * n ≤ walk.top
  pub fits : walk.top ≤ length given
  pub stacked : drop walk.top given ≡ fs

-- Of the rows before row m the last held place is noted, and of row m that of its places up to column t.
pub record Notes (n : ℕ) (L : Plan) (m t : ℕ) (last : List ℕ) : Type 0 where
  pub last_count : length last ≡ 601
  pub before : (h : ℕ) → 1 ≤ h → h < m → get_or last h 0 ≡ last_right n L h
  pub here : get_or last m 0 ≡ last_by (λ j. ltb m j && held n L m j) t
  pub after : (h : ℕ) → m < h → get_or last h 0 ≡ 0

-- column m is done up to row t - 1
pub record ColumnAt (n : ℕ) (L : Plan) (m t : ℕ) (given : List ℕ) (walk : Walk) : Type 0 where
  pub gs : List ℕ
  pub fs : List ℕ
  pub good : Good n L
  pub holds : Holding n L given walk gs fs
  pub next : suc walk.done ≡ label n t m
  pub reached : ColumnReached n L m t walk.done gs fs walk.made
  pub few : length fs ≤ (m - 1) * n

-- row m is done up to column t; none of it is held before column `from`
pub record RowAt (n : ℕ) (L : Plan) (m t from : ℕ) (last given : List ℕ) (walk : Walk) : Type 0 where
  pub gs : List ℕ
  pub fs : List ℕ
  pub good : Good n L
  pub holds : Holding n L given walk gs fs
  pub next : suc walk.done ≡ label n m (suc t)
  pub reached : RowReached n L m t walk.done gs fs walk.made
  pub few : Few n L m t fs
  pub notes : Notes n L m t last
  pub skips : (h : ℕ) → 1 ≤ h → h < from → h ≤ m → held n L m h ≡ false

-- batch m is done
pub record BatchAt (n : ℕ) (L : Plan) (m : ℕ) (in_rows last given : List ℕ) (walk : Walk) : Type 0 where
  pub gs : List ℕ
  pub fs : List ℕ
  pub good : Good n L
  pub holds : Holding n L given walk gs fs
  pub next : suc walk.done ≡ label n (suc m) (suc m)
  pub reached : BatchReached n L m walk.done gs fs walk.made
  pub few : length fs ≤ m * n
  pub notes : Notes n L (suc m) (suc m) last
  pub row_count : length in_rows ≡ 601
  pub skips : (i h : ℕ) → Inside n i h → h < get_or in_rows i 0 → held n L i h ≡ false

-- for some plan
pub record SomeColumn (n m t : ℕ) (given : List ℕ) (walk : Walk) : Type 0 where
  pub plan : Plan
  pub column : ColumnAt n plan m t given walk

pub record SomeRow (n m t from : ℕ) (last given : List ℕ) (walk : Walk) : Type 0 where
  pub plan : Plan
  pub row : RowAt n plan m t from last given walk

pub record SomeBatch (n m : ℕ) (in_rows last given : List ℕ) (walk : Walk) : Type 0 where
  pub plan : Plan
  pub batch : BatchAt n plan m in_rows last given walk

-- ---- before the first place, and after the last

-- the places with numbers are those that a plan holds, and the rows' notes are right
pub record Planned (n : ℕ) (L : Plan) (in_rows given : List ℕ) : Type 0 where
  pub good : Good n L
  pub numbered : (i j : ℕ) → Inside n i j → ltb 0 (given_at n given i j) ≡ held n L i j
  pub row_count : length in_rows ≡ 601
  pub skips : (i h : ℕ) → Inside n i h → h < get_or in_rows i 0 → held n L i h ≡ false

pub record Numbered (n : ℕ) (in_rows given : List ℕ) : Type 0 where
  pub plan : Plan
  pub planned : Planned n plan in_rows given
  pub count : length given ≡ 3 * (n * n)

-- each place has the slot given to it in the compact program, whose slots are counted
pub record Given (n : ℕ) (L : Plan) (given : List ℕ) (made : ℕ) : Type 0 where
  pub slots-are : made ≡ compact_slots n L
  pub given-are : (i j : ℕ) → Inside n i j → given_at n given i j ≡ room_in n L (openings (compact_records n L)) i j
  pub positive : (k : ℕ) → 1 ≤ k → k ≤ slots n L → 1 ≤ slot_in (openings (compact_records n L)) k

abbrev pub Gives : ℕ → Plan → List ℕ → List ℕ → List ℕ → ℕ → Type 0
Gives n L in_rows given given' made = Planned n L in_rows given → Given n L given' made
