-- Along a line: the places before the t-th are done, and the work numbers after them are as they came.
use Prim.Native.Nat.{ℕ, zero, suc, ◌+◌, ◌-◌, ◌≤◌, ◌<◌, max}
use native.Mathlib.Nat.{add-zero, mul-le-mul}
use native.Mathlib.Omega.{arith}
use mathlib.Core.Path.{◌≡◌, refl, sym, ap, ◌∙◌}
use mathlib.Core.Bool.{Bool, true, false, and-eq-true_iff}
use mathlib.Core.List.{List}
use borrow.Author.Tests.{leb-true, eqb-true}
use lib.Dec.{leb, ltb, eqb}
use lib.ListN.{length, get_or, drop}
use Rattle.model.specs.Fill.{Plan, held}
use Rattle.model.proofs.Lists.{drop-later}
use Rattle.model.proofs.Search.{some-none}
use Rattle.slots.specs.Walked.{Sized, Reached, Standing, EmptyRun, Settled}
use Rattle.slots.specs.Batch.{row_of, column_of, first_of, noted_of, pair_at, empty_at}
use Rattle.slots.specs.declared.Walk.{Walk}
use Rattle.slots.proofs.Here.{Here, here, line-next, line-rest}
use Rattle.slots.proofs.Search.{none_before, held_by_work}
use Rattle.slots.proofs.Settling.{settled-length, settled-rest, settled-walked}

pub sized_again : {N : ℕ} {work work' : List ℕ} → Sized N work → length work' ≡ length work → Sized N work'
sized_again s e = record { low = s.low; high = s.high; room = omega (arith, s.room) }

pub record Along (N : ℕ) (L : Plan) (before : List ℕ) (across : Bool) (m t : ℕ) (walk : Walk) (work in_rows in_columns : List ℕ) : Type 0 where
  pub from : first_of across m ≤ t
  pub to : t ≤ suc N
  pub size : length work ≡ length before
  pub reached : Reached N L across m t walk work in_rows in_columns
  pub rest : drop walk.done work ≡ drop walk.done before

pub along_start : {N : ℕ} {L : Plan} {across : Bool} {m : ℕ} {walk : Walk} {work in_rows in_columns : List ℕ} (t : ℕ) → t ≡ first_of across m → m ≤ N
    → Reached N L across m (first_of across m) walk work in_rows in_columns → Along N L work across m t walk work in_rows in_columns
along_start {N} {across = across} {m} t e high reached =
    record { from = omega arith; to = omega (arith, first across); size = refl; reached = rw e reached; rest = refl }
  where
    first : (b : Bool) → first_of b m ≤ suc m
    first true = omega arith
    first false = omega arith

-- what a place's other line notes is noted of one of its two lines
far_enough : (across : Bool) (m t : ℕ) (in_rows in_columns : List ℕ) → m ≤ noted_of across in_rows in_columns t
    → m ≤ max (get_or in_rows (row_of across m t) 0) (get_or in_columns (column_of across m t) 0)
far_enough true m t in_rows in_columns noted = omega arith
far_enough false m t in_rows in_columns noted = omega arith

module _ {N : ℕ} {L : Plan} {before : List ℕ} {across : Bool} {m : ℕ} (sized : Sized N before) (low : 1 ≤ m) (high : m ≤ N) where
  -- the t-th place
  pub along_here : {t : ℕ} {walk : Walk} {work in_rows in_columns : List ℕ} (i j : ℕ) → Along N L before across m t walk work in_rows in_columns → t ≤ N
      → i ≡ row_of across m t → j ≡ column_of across m t → Here N L m i j walk work in_rows in_columns
  along_here i j along inside = here i j (sized_again sized along.size) low high along.from inside along.reached

  -- the rest of the line has work numbers, and its lines have notes
  pub along_room : {t : ℕ} {walk : Walk} {work in_rows in_columns : List ℕ} → Along N L before across m t walk work in_rows in_columns
      → (walk.done + (suc N - t) ≤ 360000) × (walk.done + (suc N - t) ≤ length work) × (N < length in_rows) × (N < length in_columns)
  along_room {t} along =
      let w = along.reached.walked in
      let square = mul-le-mul {n₂ = 600} {m₂ = 600} sized.high sized.high in
      omega (
        arith,
        line-rest N m t across low high along.from along.to,
        along.reached.next,
        along.size,
        square,
        sized.room,
        sized.high,
        w.row_count,
        w.column-count,
      )

  pub along_next : {t i j : ℕ} {walk after : Walk} {work in_rows in_columns work' in_rows' in_columns' : List ℕ} {taken : Bool}
      → Along N L before across m t walk work in_rows in_columns → t ≤ N → i ≡ row_of across m t → j ≡ column_of across m t → taken ≡ held N L i j
      → Settled i j taken walk after work in_rows in_columns work' in_rows' in_columns' → Along N L before across m (suc t) after work' in_rows' in_columns'
  along_next {t} {i} {j} {walk} {after} {work} along inside row column taken s =
      let at = along_here i j along inside row column in
      record {
        from = omega (arith, along.from);
        to = omega arith;
        size = settled-length at taken s ∙ along.size;
        reached = record { next = rw (s.done, line-next N m t across along.from) (ap suc along.reached.next); walked = settled-walked at taken s };
        rest = settled-rest at taken s ∙ drop-later work before walk.done after.done (omega (arith, s.done)) along.rest;
      }

  -- an empty place isn't held, so the place after it is reached with nothing written
  along_empty : {t : ℕ} {walk : Walk} {work in_rows in_columns : List ℕ} → Along N L before across m t walk work in_rows in_columns
      → empty_at N across m work in_rows in_columns t walk.done ≡ true
      → Along N L before across m (suc t) (record { done = suc walk.done; used = walk.used }) work in_rows in_columns
  along_empty {t} {walk} {work} {in_rows} {in_columns} along empty =
      let tests = (and-eq-true_iff (leb t N) _).0 empty in
      let free = (and-eq-true_iff (eqb (get_or work walk.done 0) 0) _).0 tests.1 in
      let inside = leb-true t N tests.0 in
      let far = far_enough across m t in_rows in_columns (leb-true m (noted_of across in_rows in_columns t) free.1) in
      let i = row_of across m t in
      let j = column_of across m t in
      let at = along_here i j along inside refl refl in
      let unmarked : false ≡ ltb 0 (get_or work walk.done 0) = ap (ltb 0) (sym (eqb-true (get_or work walk.done 0) 0 free.0)) in
      let none = some-none (pair_at N work i j) (m - 1) (λ h from below. none_before at h from (omega (arith, far)) (omega arith)) in
      along_next along inside refl refl (sym (held_by_work at unmarked ∙ none))
      (record { done = refl; used = refl; written = refl; noted-row = record { noted = refl }; noted-column = record { noted = refl } })

  pub along_run : {t : ℕ} {walk : Walk} {work in_rows in_columns : List ℕ} (r : ℕ) → Along N L before across m t walk work in_rows in_columns
      → EmptyRun N across m t walk.done work in_rows in_columns r
      → Along N L before across m (t + r) (record { done = walk.done + r; used = walk.used }) work in_rows in_columns
  along_run {t} {walk} zero along run = rw (add-zero t, add-zero walk.done) along
  along_run {t} {walk} (suc r) along run =
      let one_on : t + suc r ≡ suc (t + r) = omega arith in
      let done : walk.done + suc r ≡ suc (walk.done + r) = omega arith in
      rw (one_on, done) (along_empty
      (along_run r along (record { inside = omega (arith, run.inside); empty = λ k below. run.empty k (omega arith) })) (run.empty r (omega arith)))

pub along_end : {N : ℕ} {L : Plan} {before : List ℕ} {across : Bool} {m t : ℕ} {walk : Walk} {work in_rows in_columns : List ℕ}
    → Along N L before across m t walk work in_rows in_columns → N < t → Reached N L across m (suc N) walk work in_rows in_columns
along_end {N} {t = t} along past = let e : suc N ≡ t = omega (arith, along.to) in rw e along.reached

-- the place of a turn, for the plan that the line's places stand for
pub along_at : {N m t i j : ℕ} {across : Bool} {start walk : Walk} {before rows_before columns_before work in_rows in_columns : List ℕ}
    → Sized N before × (1 ≤ m) × (m ≤ N)
    → (standing : Standing N across m (first_of across m) start before rows_before columns_before)
    → ((L : Plan) → Reached N L across m (first_of across m) start before rows_before columns_before
    → Along N L before across m t walk work in_rows in_columns)
    → t ≤ N → i ≡ row_of across m t → j ≡ column_of across m t → Here N standing.plan m i j walk work in_rows in_columns
along_at p standing along inside row column = along_here p.0 p.1 p.2 _ _ (along standing.plan standing.reached) inside row column
