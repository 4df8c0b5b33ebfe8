-- One record on all right sides, whose target is in Y or X: what the operations leave takes each side on as its own run goes on.
use Prim.Native.Nat.{ℕ, ◌+◌, ◌-◌, ◌*◌, ◌≤◌, ◌<◌}
use native.Mathlib.Omega.{arith}
use mathlib.Core.Path.{◌≡◌, refl, sym, ap, subst, ◌∙◌}
use mathlib.Core.Bool.{Bool, true, false}
use mathlib.Core.List.{List}
use lib.Dec.{eqb}
use lib.ListN.{length, get_or}
use lib.Ieee.{Float}
use borrow.Author.Tests.{eqb-true, eqb-false}
use Rattle.model.specs.Arith.{plus_zero, clean}
use Rattle.model.specs.Formula.{Table, C, Y, X, number_of, Tables, entry}
use Rattle.model.specs.Program.{rec}
use Rattle.model.specs.Check.{Link, Kind, opens, subtracts, divides, closes, kind_of}
use Rattle.model.specs.Run.{Followed}
use Rattle.model.specs.Many.{part}
use Rattle.model.proofs.Reached.{advance}
use Rattle.model.proofs.Parts.{part_length, part-entry}
use Rattle.state.specs.declared.State.{State}
use Rattle.state.specs.States.{most_made, table_of, state_of, opened, subtracted, divided_by, Sound, Of, FreeIn, Allowed, WorksOn, works_in}
use Rattle.state.proofs.Steps.{entry-c, entry-y, entry-x}
use Rattle.state.proofs.Arms.{table-named, allowed_as, no_kind}
use Rattle.sides.specs.declared.each.At.{At}
use Rattle.sides.specs.Cells as Cells
use Rattle.sides.specs.Cells.{Cell, cell_of, if_going, Each, Started, read_as, Laid, FewGone}
use Rattle.sides.specs.Standing.{own, StandsAt, Kept, ReadyInRows, StepsInRows, CloseReady, ClosesInRows, SoundAfter}
use Rattle.sides.proofs.InRows.{opens-y, opens-x, subtracts_in, divides_in, closes_in}

-- a target that is not in C may be closed whatever the length of C is
free_any : (lc lc' N : ℕ) (z : State) (t : Table) → (t ≡ C → ⊥) → FreeIn lc N N z t → FreeIn lc' N N z t
free_any lc lc' N z C rows free = absurd (rows refl)
free_any lc lc' N z Y rows free = free
free_any lc lc' N z X rows free = free

module _ {count N lb lc ly lx lr : ℕ} {out : List ℕ} {z : State} {kind p q : ℕ} (ready : ReadyInRows count N lb lc ly lx lr out z kind p q) where
  -- what a kind relies on, and the table that it works in
  pub allowed_in_rows : {k : Kind} → kind_of kind ≡ k → Allowed 0 lc N N z k p q
  allowed_in_rows e = allowed_as (ready.sides 0).ready e

  rows_as : {k : Kind} → kind_of kind ≡ k → works_in k (table_of z.table) ≡ C → ⊥
  rows_as e is = ready.in_rows (ap (λ k. works_in k (table_of z.table)) e ∙ is)

  works_on_as : {k : Kind} → kind_of kind ≡ k → WorksOn k (table_of z.table)
  works_on_as e = subst (λ k. WorksOn k (table_of z.table)) e (ready.sides 0).works_on

  -- what they read of B, Y and X, by an index i that is p or q, stands there in every part, and few products vanished
  pub laid_b : {i : ℕ} → kind_of kind ≡ opens Y → i ≡ p → Laid count N (i - 1) lb
  laid_b e at =
      let of = allowed_in_rows e in
      record { order = (ready.sides 0).order; within = omega arith; length = (ready.sides 0).in_b }

  pub laid_y : {i : ℕ} (j : ℕ) → Of z.y j → i ≡ j → Laid count N (i - 1) ly
  laid_y j of at = record { order = (ready.sides 0).order; within = omega (arith, (ready.sides 0).ready.sound); length = (ready.sides 0).in_y }

  pub laid_x : {i : ℕ} → kind_of kind ≡ subtracts X → i ≡ q → Laid count N (i - 1) lx
  laid_x e at =
      let of = allowed_in_rows e in
      record { order = (ready.sides 0).order; within = omega arith; length = (ready.sides 0).in_x }

  pub few-gone : FewGone count most_made out
  few-gone r h = omega (arith, (ready.sides 0).few-gone r h, (ready.sides 0).ready.few)

  -- kinds 1, 4 and 9 work in C, so one that is none of the others here is 8
  pub closes-left : (kind ≡ 2 → ⊥) → (kind ≡ 3 → ⊥) → (kind ≡ 5 → ⊥) → (kind ≡ 6 → ⊥) → (kind ≡ 7 → ⊥) → kind_of kind ≡ closes
  unfolding kind_of
  closes-left two three five six seven = go (eqb kind 8) refl
    where
      go : (b : Bool) → eqb kind 8 ≡ b → kind_of kind ≡ closes
      go true e = ap kind_of (eqb-true kind 8 e)
      go false e =
          absurd (no_kind kind (ready.sides 0).ready.own (λ is. rows_as (ap kind_of is) refl) two three
          (λ is. rows_as (ap kind_of is) (works_on_as (ap kind_of is))) five six seven (eqb-false kind 8 e)
          (λ is. rows_as (ap kind_of is) (works_on_as (ap kind_of is))))

  pub close_ready : kind_of kind ≡ closes → CloseReady count N lr ly lx z
  close_ready e =
      let sides = ready.sides 0 in
      record {
        few = sides.room.few;
        order = sides.order;
        in_running = sides.room.in_running;
        in_y = sides.in_y;
        in_x = sides.in_x;
        in_rows = rows_as e;
        free = λ lc'. free_any lc lc' N z (table_of z.table) (rows_as e) (allowed_in_rows e);
      }

module _ {count N : ℕ} (B c y x running : List Float) {out : List ℕ} {z : State} (k : ℕ) {kind p q : ℕ}
    (ready : ReadyInRows count N (length B) (length c) (length y) (length x) (length running) out z kind p q) where
  -- what the record has to give
  abbrev Takes : State → List Float → List Float → List Float → List ℕ → Type 0
  Takes z' y' x' running' out' = StepsInRows count N B k kind p q z c y x running out z' y' x' running' out'

  abbrev Gives : State → List Float → List Float → List Float → List ℕ → Type 0
  Gives z' y' x' running' out' = Takes z' y' x' running' out' × (Sound (length c) N N z' × Kept count out out')

  -- the record, where a refusal at it stands, and the numbers of right side r before it
  abbrev link : Link
  link = record { index = k; at = rec kind p q }

  abbrev place : At
  place = record { «record» = k; table = z.table; target = z.target }

  sound : Sound (length c) N N z
  sound = (ready.sides 0).ready.sound

  abbrev cell : ℕ → Cell
  cell r = cell_of running out r

  -- the closed entries of right side r, which the code reads by an index i that is j
  abbrev tables : ℕ → Tables
  tables r = (state_of (own z (cell r)) c (part N y r) (part N x r)).tables

  at_c : (r j : ℕ) → Of z.c j → get_or c (j - 1) plus_zero ≡ entry (tables r) C j
  at_c r j of = entry-c (own z (cell r)) c (part N y r) (part N x r) j of

  at_y : (r i j : ℕ) → i ≡ j → Of z.y j → get_or y (r * N + (i - 1)) plus_zero ≡ entry (tables r) Y j
  at_y r i j e of = rw e (sym (part-entry N y r (j - 1) plus_zero (omega (arith, sound))))
      ∙ entry-y (own z (cell r)) c (part N y r) (part N x r) j of

  at_x : (r i j : ℕ) → r < count → i ≡ j → N - z.x < j → j ≤ N → get_or x (r * N + (i - 1)) plus_zero ≡ entry (tables r) X j
  at_x r i j h e low high =
      let long = part_length N count x r (ready.sides 0).in_x h in
      rw e (sym (part-entry N x r (j - 1) plus_zero (omega arith)))
      ∙ entry-x (own z (cell r)) c (part N y r) (part N x r) j (omega (arith, sound)) (omega arith) (omega arith)

  -- kinds 2 and 3: each right side starts from an entry of its part of B, or of Y
  opens-gives : (t : Table) (running' : List Float) → Takes (opened z (number_of t) p z.running) y x running' out
      → Gives (opened z (number_of t) p z.running) y x running' out
  opens-gives t running' takes = (
    takes,
    (
      record { named = ap number_of (table-named t); in_c = sound.in_c; in_y = sound.in_y; in_x = sound.in_x },
      record { first = refl; past = λ j h. refl },
    ),
  )

  pub starts_y : (i : ℕ) (running' : List Float) → kind_of kind ≡ opens Y → i ≡ p
      → Started count (λ r. read_as true (get_or B (r * N + (i - 1)) plus_zero)) running' → Gives (opened z 2 p z.running) y x running' out
  starts_y i running' e at started =
      let of = allowed_in_rows ready e in
      opens-gives Y running' (λ A limit r f h. opens-y A (part N B r) limit link z c (part N y r) (part N x r) (cell r) _ e
      (started r h ∙ rw at (ap clean (sym (part-entry N B r (p - 1) plus_zero (omega arith))))) f)

  pub starts_x : (i : ℕ) (running' : List Float) → kind_of kind ≡ opens X → i ≡ p
      → Started count (λ r. read_as false (get_or y (r * N + (i - 1)) plus_zero)) running' → Gives (opened z 3 p z.running) y x running' out
  starts_x i running' e at started =
      opens-gives X running' (λ A limit r f h. opens-x A (part N B r) limit link z c (part N y r) (part N x r) (cell r) _ e
      (started r h ∙ at_y r i p at (allowed_in_rows ready e)) f)

  -- each right side's numbers are changed by an operation
  each-gives : (z' : State) (g : ℕ → Cell → Cell) {running' : List Float} {out' : List ℕ} → Sound (length c) N N z'
      → ((A : List Float) (limit : Float) (r : ℕ) (f : Followed) → r < count → StandsAt z (cell r) c (part N y r) (part N x r) f
      → StandsAt z' (g r (cell r)) c (part N y r) (part N x r) (advance A (part N B r) limit link f))
      → Each count g running out running' out' → Gives z' y x running' out'
  each-gives z' g still takes each = (
    λ A limit r f h at.
        subst (λ cell. StandsAt z' cell c (part N y r) (part N x r) (advance A (part N B r) limit link f)) (sym (each.changed r h)) (takes A limit r f h at),
    (still, record { first = each.first; past = each.past }),
  )

  -- kinds 5 and 6: a product with an entry of its part of the open table is subtracted
  subtracts-each : (t : Table) (u : Float) (v : ℕ → Float) {running' : List Float} {out' : List ℕ} → kind_of kind ≡ subtracts t
      → Of z.c p → u ≡ get_or c (p - 1) plus_zero → ((r : ℕ) → r < count → v r ≡ entry (tables r) t q)
      → Each count (λ r. if_going (Cells.subtracted place u (v r))) running out running' out' → Gives (subtracted z false z.running) y x running' out'
  subtracts-each t u v e of left right =
      each-gives _ (λ r. if_going (Cells.subtracted place u (v r)))
      (record { named = sound.named; in_c = sound.in_c; in_y = sound.in_y; in_x = sound.in_x })
      (λ A limit r f h. subtracts_in A (part N B r) limit link z c (part N y r) (part N x r) (cell r) sound.named (rows_as ready e)
      t u (v r) e (left ∙ at_c r p of) (right r h) f)

  pub subtracts-y : (i : ℕ) (u : Float) {running' : List Float} {out' : List ℕ} → kind_of kind ≡ subtracts Y → i ≡ q → u ≡ get_or c (p - 1) plus_zero
      → Each count (λ r. if_going (Cells.subtracted place u (get_or y (r * N + (i - 1)) plus_zero))) running out running' out'
      → Gives (subtracted z false z.running) y x running' out'
  subtracts-y i u e at is =
      let of = allowed_in_rows ready e in
      subtracts-each Y u (λ r. get_or y (r * N + (i - 1)) plus_zero) e of.0 is (λ r h. at_y r i q at of.1)

  pub subtracts-x : (i : ℕ) (u : Float) {running' : List Float} {out' : List ℕ} → kind_of kind ≡ subtracts X → i ≡ q → u ≡ get_or c (p - 1) plus_zero
      → Each count (λ r. if_going (Cells.subtracted place u (get_or x (r * N + (i - 1)) plus_zero))) running out running' out'
      → Gives (subtracted z false z.running) y x running' out'
  subtracts-x i u e at is =
      let of = allowed_in_rows ready e in
      subtracts-each X u (λ r. get_or x (r * N + (i - 1)) plus_zero) e of.0 is (λ r h. at_x r i q h at of.1.0 of.1.1)

  -- kind 7: a quotient is formed
  pub divides-each : (u : Float) {running' : List Float} {out' : List ℕ} → kind_of kind ≡ divides → u ≡ get_or c (p - 1) plus_zero
      → Each count (λ r. if_going (Cells.divided place u)) running out running' out' → Gives (divided_by z z.running) y x running' out'
  divides-each u e is =
      each-gives _ (λ r. if_going (Cells.divided place u)) (record { named = sound.named; in_c = sound.in_c; in_y = sound.in_y; in_x = sound.in_x })
      (λ A limit r f h. divides_in A (part N B r) limit link z c (part N y r) (part N x r) (cell r) sound.named (rows_as ready e)
      u e (is ∙ at_c r p (allowed_in_rows ready e)) f)

  -- kind 8: the target is closed
  pub closes-each : (z' : State) (y' x' : List Float) → kind_of kind ≡ closes → ClosesInRows count N z running y x z' y' x' → SoundAfter N z z'
      → Gives z' y' x' running out
  closes-each z' y' x' e is still = (
    λ A limit r f h.
        closes_in A (part N B r) limit link z z' c (part N y r) (part N x r) (part N y' r) (part N x' r) (cell r) e (is r c (cell r) h refl) f,
    (still (length c) sound, record { first = refl; past = λ j h. refl }),
  )
