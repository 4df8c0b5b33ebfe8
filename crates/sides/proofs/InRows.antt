-- One record on a right side whose target is in Y or X: its numbers after the record stand where its own run does.
use Prim.Native.Nat.{◌+◌, ◌-◌, ◌<◌}
use native.Mathlib.Omega.{arith}
use native.Mathlib.Nat.{add-zero, add_assoc}
use native.Mathlib.Numerals.{add-one}
use mathlib.Core.Path.{◌≡◌, refl, sym, ap, ◌∙◌}
use mathlib.Core.Bool.{Bool, true, false}
use mathlib.Core.List.{List}
use lib.Dec.{eqb}
use lib.ListN.{length, get_or, set}
use lib.Ieee.{Float}
use borrow.Author.Tests.{eq-eqb, ne_eqb}
use Rattle.model.specs.Arith.{plus_zero, clean, Answer, number, overflow, zero_divisor, quotient, vanishes}
use Rattle.model.specs.Formula.{Table, C, Y, X, number_of, entry, starting, less}
use Rattle.model.specs.Check.{Link, opens, subtracts, divides, closes, kind_of}
use Rattle.model.specs.Run as Run
use Rattle.model.specs.Run.{Followed, through, halted}
use Rattle.model.proofs.Reached.{stepped, advance}
use Rattle.state.specs.declared.State.{State}
use Rattle.state.specs.States.{table_of, state_of, opened, subtracted, divided_by, FreeIn}
use Rattle.state.proofs.Steps.{counting, close_y, close_x}
use Rattle.sides.specs.declared.each.At.{At}
use Rattle.sides.specs.Cells as Cells
use Rattle.sides.specs.Cells.{Cell, if_going, gone_on}
use Rattle.sides.specs.Standing.{own, StandsAt}

-- where the target is not in C a right side has a running number of its own
not_first : (z : State) → (table_of z.table ≡ C → ⊥) → eqb z.table 1 ≡ false
not_first z rows = ne_eqb z.table 1 (λ e. rows (ap table_of e))

own-running : (z : State) (cell : Cell) → (table_of z.table ≡ C → ⊥) → (own z cell).running ≡ cell.running
own-running z cell rows = rw (not_first z rows)

-- a right side's numbers with another running number
abbrev running_as : Float → Cell → Cell
running_as v cell = record { running = v; answer = cell.answer; table = cell.table; target = cell.target; gone = cell.gone }

-- the closed target takes the right side's running number, in its part of Y or X
module _ (z : State) (cell : Cell) (c y x : List Float) (rows : table_of z.table ≡ C → ⊥) where
  pub closes-y : (y' : List Float) → table_of z.table ≡ Y → z.y < length y → y' ≡ set y z.y cell.running
      → state_of (own (counting z c y x z.c (z.y + 1) z.x) cell) c y' x ≡ Run.closing (state_of (own z cell) c y x)
  closes-y y' e h is =
      ap (λ l. state_of (own (counting z c y x z.c (z.y + 1) z.x) cell) c l x) (is ∙ ap (set y z.y) (sym (own-running z cell rows)))
      ∙ close_y (own z cell) c y x e h

  pub closes-x : (x' : List Float) → table_of z.table ≡ X → FreeIn (length c) (length y) (length x) z X → x' ≡ set x (length x - (z.x + 1)) cell.running
      → state_of (own (counting z c y x z.c z.y (z.x + 1)) cell) c y x' ≡ Run.closing (state_of (own z cell) c y x)
  closes-x x' e h is =
      ap (λ l. state_of (own (counting z c y x z.c z.y (z.x + 1)) cell) c y l)
      (is ∙ ap (set x (length x - (z.x + 1))) (sym (own-running z cell rows)))
      ∙ close_x (own z cell) c y x e h

module _ (A b : List Float) (limit : Float) (l : Link) (z z' : State) (c y x y' x' : List Float) (cell : Cell) where
  -- where the record leads the right side if it goes on
  abbrev Leads : Cell → Type 0
  Leads cell' = StandsAt z' cell' c y' x' (advance A b limit l (through (state_of (own z cell) c y x)))

  -- only its running number is another, and a refused one stands with any
  with_running : (v : Float) → (cell.answer ≡ 0 → Leads (running_as v cell)) → (f : Followed) → StandsAt z cell c y x f
      → StandsAt z' (running_as v cell) c y' x' (advance A b limit l f)
  with_running v leads (through w) at = rw at.1 (leads at.0)
  with_running v leads (halted n k t j) at = at

  -- it is changed only if it goes on
  if-going : (g : Cell → Cell) → (cell.answer ≡ 0 → Leads (g cell)) → (f : Followed) → StandsAt z cell c y x f
      → StandsAt z' (if_going g cell) c y' x' (advance A b limit l f)
  if-going g leads (through w) at = rw (at.1, eq-eqb cell.answer 0 at.0) (leads at.0)
  if-going g leads (halted n k t j) at = rw (ne_eqb cell.answer 0 (omega arith)) at

  -- kind 8: what the close leaves is the closed target
  pub closes_in : kind_of l.at.kind ≡ closes → state_of (own z' cell) c y' x' ≡ Run.closing (state_of (own z cell) c y x)
      → (f : Followed) → StandsAt z cell c y x f → StandsAt z' cell c y' x' (advance A b limit l f)
  unfolding Run.step
  closes_in e is = with_running cell.running (λ going. rw e (going, sym is))

module _ (A b : List Float) (limit : Float) (l : Link) (z : State) (c y x : List Float) (cell : Cell) where
  -- the state that the right side's run has
  abbrev from : Run.State
  from = state_of (own z cell) c y x

  -- the record takes it on from f, with its parts as they are
  abbrev Takes : State → Cell → Followed → Type 0
  Takes z' cell' f = StandsAt z cell c y x f → StandsAt z' cell' c y x (advance A b limit l f)

  -- kinds 2 and 3: it starts from an entry of its part of B, or of Y
  pub opens-y : (v : Float) → kind_of l.at.kind ≡ opens Y → v ≡ clean (get_or b (l.at.p - 1) plus_zero)
      → (f : Followed) → Takes (opened z 2 l.at.p z.running) (running_as v cell) f
  unfolding Run.step starting
  opens-y v e is = with_running A b limit l z (opened z 2 l.at.p z.running) c y x y x cell v (λ going. rw e (going, ap (Run.opened from Y l.at.p) (sym is)))

  pub opens-x : (v : Float) → kind_of l.at.kind ≡ opens X → v ≡ entry from.tables Y l.at.p
      → (f : Followed) → Takes (opened z 3 l.at.p z.running) (running_as v cell) f
  unfolding Run.step starting
  opens-x v e is = with_running A b limit l z (opened z 3 l.at.p z.running) c y x y x cell v (λ going. rw e (going, ap (Run.opened from X l.at.p) (sym is)))

  module _ (named : number_of (table_of z.table) ≡ z.table) (rows : table_of z.table ≡ C → ⊥) where
    -- where a refusal stands
    abbrev place : At
    place = record { «record» = l.index; table = z.table; target = z.target }

    -- an operation's answer: it goes on with a number, and is refused otherwise
    answer-leads : (z' : State) (a o : Answer) (gone : Bool) (g : Float → Run.State) → o ≡ a
        → ((v : Float) → g v ≡ state_of (own z' (gone_on gone v cell)) c y x) → cell.answer ≡ 0
        → StandsAt z' (Cells.answered place a gone cell) c y x (stepped l from (Run.settled_step o g))
    answer-leads z' (number v) o gone g e same going = rw e (going, same v)
    answer-leads z' overflow o gone g e same going = rw e (omega arith, refl, sym named, refl, refl)
    answer-leads z' zero_divisor o gone g e same going = rw e (omega arith, refl, sym named, refl, refl)

    -- a product is counted for all, and one that vanished for the right side
    one_more : (gone : Bool) (v : Float) → Run.subtracted from gone v ≡ state_of (own (subtracted z false z.running) (gone_on gone v cell)) c y x
    one_more true v = rw (not_first z rows, add-one z.products, add_assoc)
    one_more false v = rw (not_first z rows, add-one z.products, add-zero)

    -- kinds 5 and 6: a product is subtracted
    pub subtracts_in : (t : Table) (u v : Float) → kind_of l.at.kind ≡ subtracts t
        → u ≡ entry from.tables C l.at.p → v ≡ entry from.tables t l.at.q
        → (f : Followed) → Takes (subtracted z false z.running) (if_going (Cells.subtracted place u v) cell) f
    unfolding Run.step
    subtracts_in t u v e left right =
        if-going A b limit l z (subtracted z false z.running) c y x y x cell (Cells.subtracted place u v)
        (λ going. rw (e, ← left, ← right)
        (answer-leads (subtracted z false z.running) (less cell.running u v) (less (own z cell).running u v) (vanishes u v)
        (Run.subtracted from (vanishes u v)) (ap (λ r. less r u v) (own-running z cell rows)) (one_more (vanishes u v)) going))

    -- kind 7: a quotient is formed
    pub divides_in : (v : Float) → kind_of l.at.kind ≡ divides → v ≡ entry from.tables C l.at.p
        → (f : Followed) → Takes (divided_by z z.running) (if_going (Cells.divided place v) cell) f
    unfolding Run.step
    divides_in v e by =
        if-going A b limit l z (divided_by z z.running) c y x y x cell (Cells.divided place v)
        (λ going. rw (e, ← by)
        (answer-leads (divided_by z z.running) (quotient cell.running v) (quotient (own z cell).running v) false (Run.divided_by from)
        (ap (λ r. quotient r v) (own-running z cell rows)) (λ w. rw (not_first z rows, add-one)) going))
