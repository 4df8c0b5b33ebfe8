-- The loop along the chain with all right sides: what holds after a record, what the next one's step relies on and leads to, and what the loop ends with.
use Prim.Native.Nat.{ℕ, ◌+◌, ◌*◌, ◌/◌, ◌≤◌, ◌<◌}
use native.Mathlib.Omega.{arith}
use mathlib.Core.Path.{◌≡◌, refl, sym, ap, subst, subst₂, ◌∙◌}
use mathlib.Core.Bool.{Bool, true, false, false≢true}
use mathlib.Core.List.{List, [], ◌∷◌, ◌++◌}
use lib.Dec.{eqb}
use lib.ListN.{length, get_or, set, replicate, length-replicate, get_or-replicate, length-append}
use lib.Seq.{get_or-set_same, get_or-set_other}
use lib.Ieee.{Float}
use borrow.Author.Tests.{eqb-true, eqb-false}
use Rattle.model.specs.Label.{is_order}
use Rattle.model.specs.Check.{Link, word, next_of, chain, kind_of, is_idle, is_sweep, length_y, complete, belongs, allowed}
use Rattle.model.specs.Run as Run
use Rattle.model.specs.Run.{Followed, through, halted, fresh, step, Stepped, going, stop}
use Rattle.model.specs.Many.{part, read}
use Rattle.model.proofs.Within.{within-range}
use Rattle.model.proofs.Parts.{part_length}
use Rattle.model.proofs.Passing.{both, Passed, fine-passed, crout_only}
use Rattle.model.proofs.Stepping.{progress_in}
use Rattle.model.proofs.Running.{RunAfter, run_begins, run_ends, next_fits, run_next, run_goes_on}
use Rattle.model.proofs.Reached.{stepped, advance, advanced, advanced_next, follow_advanced, Halted, link_at, Seen, seen_none, seen_next, seen_all, seen-halted}
use Rattle.model.proofs.Reached.{side_after, read-stopped, read_through}
use Rattle.state.specs.declared.State.{State}
use Rattle.state.specs.States.{most_made, state_of, unopened, Sound, Allowed}
use Rattle.state.proofs.Steps.{counted}
use Rattle.runner.proofs.Relying.{relies}
use Rattle.runner.proofs.Turns.{SameLengths, fresh_state}
use Rattle.sides.specs.Cells.{Cell, cell_of, any_going, Room}
use Rattle.sides.specs.Standing.{own, Stands, StandsAt, Steps, Kept, SidesReady}
use Rattle.many.specs.Passes as Passes
use Rattle.many.specs.Passes.{FitMany, side_along, endings}
use Rattle.sides.proofs.Cells.{any_found}
use Rattle.many.proofs.Going.{some_goes, none_goes, going-first, cell_first}
use Rattle.many.proofs.Own.{goes_through, stands-halted, own-sound, allowed-own, works_on}

-- right side r's own run, with state w after record k
abbrev SideRan : List ℕ → List Float → List Float → Float → ℕ → Run.State → ℕ → Type 0
SideRan W A B limit r w k = RunAfter A (part (word W 0) B r) limit W false (fresh (word W 0)) 0 w false k

module _ (W : List ℕ) (count : ℕ) (A B : List Float) (limit : Float) (out₀ : List ℕ) where
  -- The records `links` are done, of which k is the last, or 0 if there is none: each right side stands where its own run does.
  pub record Done (c y x running : List Float) (out : List ℕ) (z : State) (links : List Link) (k : ℕ) : Type 0 where
    pub fit : FitMany W count (length A) (length B) (length c) (length y) (length x)
    pub room : Room count (length running) (length out)
    pub inside : k < length W / 4
    pub seen : Seen W links k
    pub sound : Sound (length c) (word W 0) (word W 0) z
    pub stands : (r : ℕ) → r < count → Stands (word W 0) z c y x running out r (side_after W A B limit links r)
    pub ran : (r : ℕ) → r < count → (w : Run.State) → side_after W A B limit links r ≡ through w → SideRan W A B limit r w k
    pub kept : Kept count out₀ out

  -- how the loop goes on: with the record after k, while a side does; or not at all, and so many records were read
  pub data Way (out : List ℕ) (links : List Link) (k next : ℕ) : Type 0 where
    on : any_going count out ≡ true → next_of W k ≡ next → Way out links k next
    over : any_going count out ≡ false → next ≡ 0 → read (chain W).links (endings W count A B limit) ≡ length links → Way out links k next

  -- the loop's invariant
  pub record Turn (c y x running : List Float) (out : List ℕ) (z : State) (records next : ℕ) : Type 0 where
    pub links : List Link
    pub last : ℕ
    pub done : Done c y x running out z links last
    pub counts : records ≡ length links
    pub way : Way out links last next

-- the next record and the number of those that are done stand within the words, which are few
pub record InWords (W : List ℕ) (records next : ℕ) : Type 0 where
  pub comes : next < length W / 4
  pub made : records < length W / 4
  pub few : length W / 4 ≤ 100000000

-- ---- the program

module _ {W : List ℕ} {count la lb lc ly lx : ℕ} (fit : FitMany W count la lb lc ly lx) where
  -- it passed the checks, it is Crout's, and its order is in range
  passed : Passed 0 W
  passed = fine-passed W (crout_only W fit.checked).0

  method : is_sweep (word W 2) ≡ false
  method = (crout_only W fit.checked).1

  pub few-records : length W / 4 ≤ 100000000
  few-records = passed.few

  pub some_words : 3 < length W
  some_words = omega (arith, passed.some, passed.fours)

  pub few-sides : (1 ≤ count) × (count ≤ 64)
  few-sides = within-range count 64 fit.sides

  order : word W 0 ≤ 600
  order = (within-range (word W 0) 600 (both (is_order (word W 0)) _ passed.head).0).1

-- ---- the start

-- a side's own state before the first record
own_fresh : (cell : Cell) (c y x : List Float) → cell.gone ≡ 0 → fresh (length x) ≡ state_of (own unopened cell) c y x
own_fresh cell c y x none =
    let all : 0 + cell.gone ≡ 0 = omega arith in
    sym (rw all (fresh_state c y x))

-- the numbers out are all zeros then
all_zero : (out : List ℕ) → out ≡ replicate 257 0 → (j : ℕ) → j < 257 → get_or out j 0 ≡ 0
all_zero out zeros j h = ap (λ l. get_or l j 0) zeros ∙ get_or-replicate 257 j 0 0 h

module _ {W : List ℕ} {count : ℕ} {A B : List Float} {limit : Float} {out : List ℕ} {c y x running : List Float}
    (fit : FitMany W count (length A) (length B) (length c) (length y) (length x)) (in_running : length running ≡ 64) (zeros : out ≡ replicate 257 0) where
  -- nothing is done yet
  starts_done : Done W count A B limit out c y x running out unopened [] 0
  unfolding advanced
  starts_done = record {
    fit = fit;
    room = record { few = (few-sides fit).1; in_running = in_running; in_out = ap length zeros ∙ length-replicate {A = ℕ} 257 0 };
    inside = omega (arith, some_words fit);
    seen = seen_none W;
    sound = record { named = refl; in_c = omega arith; in_y = omega arith; in_x = omega arith };
    stands = λ r h. (
      all_zero out zeros (4 * r + 1) (omega (arith, few-sides fit)),
      ap fresh (sym (part_length (word W 0) count x r fit.in_x h))
          ∙ own_fresh (cell_of running out r) c (part (word W 0) y r) (part (word W 0) x r) (all_zero out zeros (4 * r + 4) (omega (arith, few-sides fit))),
    );
    ran = λ r h w e. let is : fresh (word W 0) ≡ w = cc in
        subst (λ w. SideRan W A B limit r w 0) is
        (run_begins (passed fit) (record { order = refl; same = refl; room = tt }) (omega arith) (omega arith));
    kept = record { first = refl; past = λ j h. refl };
  }

  -- the loop's first turn
  pub starts : {z : State} {next : ℕ} → z ≡ unopened → next ≡ word W 3 → Turn W count A B limit out c y x running out z 0 next
  starts fresh first = record {
    links = [];
    last = 0;
    done = subst (λ z. Done W count A B limit out c y x running out z [] 0) (sym fresh) starts_done;
    counts = refl;
    way = on (any_found count 0 out (omega (arith, few-sides fit)) (all_zero out zeros 1 (omega arith))) (sym first);
  }

-- ---- a turn

-- a side that got through one record more had got through those before it
advance_through : (A b : List Float) (limit : Float) (l : Link) (f : Followed) (w : Run.State) → advance A b limit l f ≡ through w
    → (u : Run.State) × (f ≡ through u) × (step A b limit u (kind_of l.at.kind) l.at.p l.at.q ≡ going w)
advance_through A b limit l (halted n k t j) w e = let z : ◌≡◌ {A = ℕ} 0 1 = cc in absurd (omega arith)
advance_through A b limit l (through u) w e = go (step A b limit u (kind_of l.at.kind) l.at.p l.at.q) refl e
  where
    go : (s : Stepped) → step A b limit u (kind_of l.at.kind) l.at.p l.at.q ≡ s → stepped l u s ≡ through w
        → (u' : Run.State) × (through u ≡ through u') × (step A b limit u' (kind_of l.at.kind) l.at.p l.at.q ≡ going w)
    go (going v) is e = (u, refl, is ∙ cc)
    go (stop n) is e = let z : ◌≡◌ {A = ℕ} 0 1 = cc in absurd (omega arith)

-- once no side goes on, each was refused
all-halted : {W : List ℕ} {count : ℕ} {A B : List Float} {limit : Float} {out₀ : List ℕ} {c y x running : List Float} {out : List ℕ} {z : State}
    {links : List Link} {k : ℕ} → Done W count A B limit out₀ c y x running out z links k → any_going count out ≡ false
    → (r : ℕ) → r < count → Halted (side_after W A B limit links r)
all-halted {W} {count} {A} {B} {limit} {c = c} {y} {x} {running} {out} {z} {links} d none r h =
    stands-halted z (cell_of running out r) c (part (word W 0) y r) (part (word W 0) x r) (side_after W A B limit links r) (d.stands r h)
    (none_goes count out none r h)

module _ {W : List ℕ} {count : ℕ} {A B : List Float} {limit : Float} {out₀ : List ℕ} {c y x running : List Float} {out : List ℕ} {z : State}
    {links : List Link} {k : ℕ} (d : Done W count A B limit out₀ c y x running out z links k) where
  -- a side's parts of Y and X are of the order
  in_part-y : (r : ℕ) → r < count → length (part (word W 0) y r) ≡ word W 0
  in_part-y r h = part_length (word W 0) count y r d.fit.in_y h

  in_part-x : (r : ℕ) → r < count → length (part (word W 0) x r) ≡ word W 0
  in_part-x r h = part_length (word W 0) count x r d.fit.in_x h

  module _ (r : ℕ) (h : r < count) where
    -- its numbers, and its state
    abbrev own_cell : Cell
    own_cell = cell_of running out r

    abbrev own_state : Run.State
    own_state = state_of (own z own_cell) c (part (word W 0) y r) (part (word W 0) x r)

    -- of its products no more vanished than were made
    gone_side : get_or out (4 * r + 4) 0 ≤ z.products
    gone_side = go (side_after W A B limit links r) (d.stands r h) (d.ran r h)
      where
        go : (f : Followed) → StandsAt z own_cell c (part (word W 0) y r) (part (word W 0) x r) f
            → ((w : Run.State) → f ≡ through w → SideRan W A B limit r w k) → get_or out (4 * r + 4) 0 ≤ z.products
        go (through w) stands ran = omega (arith, subst (λ w. w.vanished ≤ w.products) stands.1 (ran w refl).gone)
        go (halted n i t j) stands ran = omega (arith, stands.4)

    -- one that goes on stands in its own state, where its run did
    module _ (goes : get_or out (4 * r + 1) 0 ≡ 0) where
      goes_own : side_after W A B limit links r ≡ through own_state
      goes_own = goes_through z own_cell c (part (word W 0) y r) (part (word W 0) x r) (side_after W A B limit links r) (d.stands r h) goes

      ran-own : SideRan W A B limit r own_state k
      ran-own = d.ran r h own_state goes_own

      sound-own : Sound (length c) (length (part (word W 0) y r)) (length (part (word W 0) x r)) (own z own_cell)
      sound-own = rw (in_part-y r h, in_part-x r h) (own-sound z own_cell d.sound)

      -- few of its products vanished
      few-own : z.vanished + get_or out (4 * r + 4) 0 ≤ most_made
      few-own = omega (arith, ran-own.gone, ran-own.made, d.inside, few-records d.fit)

      -- at the end of the chain it has closed all
      whole-own : next_of W k ≡ 0 → (z.c ≡ length c) × (z.y ≡ word W 0) × (z.x ≡ word W 0)
      unfolding complete
      whole-own e =
          let method = method d.fit in
          let counts = counted (own z own_cell) c (part (word W 0) y r) (part (word W 0) x r) sound-own in
          let closed : complete (word W 0) (word W 2) (progress_in ran-own.progress.target own_state) ≡ true =
          subst (λ g. complete (word W 0) (word W 2) g ≡ true) (sym ran-own.stands.same) (run_ends ran-own e).1 in
          let in_c = both (eqb (length own_state.tables.c) (word W 2)) _ (both (is_idle ran-own.progress.target) _ closed).1 in
          let in_y = both (eqb (length own_state.tables.y) (length_y (word W 0) (word W 2))) (eqb (length own_state.tables.x) (word W 0)) in_c.1 in (
            sym counts.of_c ∙ eqb-true (length own_state.tables.c) (word W 2) in_c.0 ∙ sym d.fit.in_c,
            sym counts.of_y ∙ eqb-true (length own_state.tables.y) (word W 0) (rw method at in_y.0),
            sym counts.of_x ∙ eqb-true (length own_state.tables.x) (word W 0) in_y.1,
          )

  -- a side goes on, and there is a next record
  module _ (goes : any_going count out ≡ true) (some : next_of W k ≡ 0 → ⊥) where
    -- it stands within the words, after the last
    next-inside : (k < next_of W k) × (next_of W k < length W / 4)
    next-inside = let (r, h, is) = some_goes count out goes in next_fits (ran-own r h is) some

    -- its step has all that it relies on
    ready-next : let n = next_of W k in SidesReady count (word W 0) (length A) (length B) (length c) (length y) (length x) (length running) out z
        (word W (4 * n)) (word W (4 * n + 1)) (word W (4 * n + 2))
    unfolding belongs allowed
    ready-next =
        let (r, h, is) = some_goes count out goes in
        let here = run_next (ran-own r h is) some in
        let kind = word W (4 * next_of W k) in
        let p = word W (4 * next_of W k + 1) in
        let q = word W (4 * next_of W k + 2) in
        let method = method d.fit in
        let relied : Allowed (length A) (length c) (length (part (word W 0) y r)) (length (part (word W 0) x r)) (own z (own_cell r h)) (kind_of kind) p q =
        relies (word W 0) (word W 1) (word W 2) A c (part (word W 0) y r) (part (word W 0) x r) (own z (own_cell r h)) (sound-own r h is)
        d.fit.in_a d.fit.in_c (in_part-y r h) (in_part-x r h) p q here.progress (kind_of kind) here.order
        (rw (allowed, method) at here.turn) here.stands in
        record {
          ready = record {
            own = rw (belongs, method) at here.own;
            sound = d.sound;
            few = omega (arith, here.made, next-inside, few-records d.fit);
            gone = omega (arith, here.gone);
            rows = refl;
            allowed = allowed-own z (own_cell r h) (length A) (length c) (word W 0) (word W 0) (kind_of kind) p q
                (rw (in_part-y r h, in_part-x r h) at relied);
          };
          works_on = works_on (word W 0) (word W 2) (own_state r h) here.progress.target (kind_of kind) here.order here.stands.room;
          room = d.room;
          order = order d.fit;
          in_b = d.fit.in_b;
          in_y = d.fit.in_y;
          in_x = d.fit.in_x;
          few-gone = gone_side;
        }

    -- and leads on
    module _ {c' y' x' running' : List Float} {out' : List ℕ} {z' : State} (same : SameLengths c y x c' y' x')
        (in_running : length running' ≡ length running) (in_out : length out' ≡ length out)
        (steps : let n = next_of W k in Steps count (word W 0) A B limit n (word W (4 * n)) (word W (4 * n + 1)) (word W (4 * n + 2))
        z c y x running out z' c' y' x' running' out')
        (sound : Sound (length c) (word W 0) (word W 0) z') (kept : Kept count out out') where
      done_next : let n = next_of W k in Done W count A B limit out₀ c' y' x' running' out' z' (links ++ (link_at W n ∷ [])) n
      done_next = record {
        fit = record {
          checked = d.fit.checked;
          sides = d.fit.sides;
          in_a = d.fit.in_a;
          in_b = d.fit.in_b;
          in_c = same.of_c ∙ d.fit.in_c;
          in_y = same.of_y ∙ d.fit.in_y;
          in_x = same.of_x ∙ d.fit.in_x;
        };
        room = record { few = d.room.few; in_running = in_running ∙ d.room.in_running; in_out = in_out ∙ d.room.in_out };
        inside = next-inside.1;
        seen = seen_next d.seen next-inside.0 next-inside.1;
        sound = rw same.of_c sound;
        stands = λ r h. subst (Stands (word W 0) z' c' y' x' running' out' r)
            (sym (advanced_next A (part (word W 0) B r) limit (through (fresh (word W 0))) links (link_at W (next_of W k))))
            (steps r (side_after W A B limit links r) h (d.stands r h));
        ran = λ r h w e.
            let (u, before, is) = advance_through A (part (word W 0) B r) limit (link_at W (next_of W k)) (side_after W A B limit links r) w
            (sym (advanced_next A (part (word W 0) B r) limit (through (fresh (word W 0))) links (link_at W (next_of W k))) ∙ e) in
            run_goes_on (method d.fit) (run_next (d.ran r h u before) some) w false (sym is) tt;
        kept = record { first = kept.first ∙ d.kept.first; past = λ j h. kept.past j h ∙ d.kept.past j h };
      }

    -- once no side goes on, the records read are those
    read-over : {c' y' x' running' : List Float} {out' : List ℕ} {z' : State} → let n = next_of W k in
        Done W count A B limit out₀ c' y' x' running' out' z' (links ++ (link_at W n ∷ [])) n → any_going count out' ≡ false
        → read (chain W).links (endings W count A B limit) ≡ length (links ++ (link_at W n ∷ []))
    read-over after none =
        let (r, h, is) = some_goes count out goes in
        read-stopped W A B limit count d.seen next-inside.0 next-inside.1 (all-halted after none) r h (own_state r h) (goes_own r h is)
        ∙ omega (arith, length-append links (link_at W (next_of W k) ∷ []))

-- ---- the whole loop

module _ {W : List ℕ} {count : ℕ} {A B : List Float} {limit : Float} {out₀ : List ℕ} where
  module _ {c y x running : List Float} {out : List ℕ} {z : State} {records next : ℕ}
      (t : Turn W count A B limit out₀ c y x running out z records next) (some : next ≡ 0 → ⊥) where
    -- a side goes on, and `next` is the next record
    goes_on : (any_going count out ≡ true) × (next_of W t.last ≡ next)
    goes_on = go t.way
      where
        go : Way W count A B limit out₀ out t.links t.last next → (any_going count out ≡ true) × (next_of W t.last ≡ next)
        go (on goes is) = (goes, is)
        go (over none is reads) = absurd (some is)

    follows_some : next_of W t.last ≡ 0 → ⊥
    follows_some e = some (sym goes_on.1 ∙ e)

    -- it stands within the words
    inside : next < length W / 4
    inside = let fits = next-inside t.done goes_on.0 follows_some in omega (arith, goes_on.1, fits)

    -- its step has all that it relies on, where N is the order as it was read
    pub ready : {N : ℕ} → N ≡ word W 0 → SidesReady count N (length A) (length B) (length c) (length y) (length x) (length running) out z
        (word W (4 * next)) (word W (4 * next + 1)) (word W (4 * next + 2))
    ready read = subst₂ (λ N n. SidesReady count N (length A) (length B) (length c) (length y) (length x) (length running) out z
        (word W (4 * n)) (word W (4 * n + 1)) (word W (4 * n + 2))) (sym read) goes_on.1 (ready-next t.done goes_on.0 follows_some)

    -- and it leads on, to the tables and numbers that it leaves
    module _ {N : ℕ} (read : N ≡ word W 0) {c' y' x' running' : List Float} {out' : List ℕ} {z' : State} (same : SameLengths c y x c' y' x')
        (in_running : length running' ≡ length running) (in_out : length out' ≡ length out)
        (steps : Steps count N A B limit next (word W (4 * next)) (word W (4 * next + 1)) (word W (4 * next + 2))
        z c y x running out z' c' y' x' running' out')
        (sound : Sound (length c) N N z') (kept : Kept count out out') where
      done-after : let n = next_of W t.last in Done W count A B limit out₀ c' y' x' running' out' z' (t.links ++ (link_at W n ∷ [])) n
      done-after = done_next t.done goes_on.0 follows_some same in_running in_out
          (subst₂ (λ N n. Steps count N A B limit n (word W (4 * n)) (word W (4 * n + 1)) (word W (4 * n + 2))
          z c y x running out z' c' y' x' running' out') read (sym goes_on.1) steps) (subst (λ N. Sound (length c) N N z') read sound) kept

      turned : {next' : ℕ} → let n = next_of W t.last in Way W count A B limit out₀ out' (t.links ++ (link_at W n ∷ [])) n next'
          → Turn W count A B limit out₀ c' y' x' running' out' z' (records + 1) next'
      turned way = record {
        links = t.links ++ (link_at W (next_of W t.last) ∷ []);
        last = next_of W t.last;
        done = done-after;
        counts = omega (arith, t.counts, length-append t.links (link_at W (next_of W t.last) ∷ []));
        way = way;
      }

      -- a side goes on, with the record after it; or none does
      pub turned_on : {next' : ℕ} → any_going count out' ≡ true → next' ≡ next_of W next
          → Turn W count A B limit out₀ c' y' x' running' out' z' (records + 1) next'
      turned_on goes is = turned (on goes (ap (next_of W) goes_on.1 ∙ sym is))

      pub turned_over : any_going count out' ≡ false → Turn W count A B limit out₀ c' y' x' running' out' z' (records + 1) 0
      turned_over none = turned (over none refl (read-over t.done goes_on.0 follows_some done-after none))

  -- in every turn the next record and the number of those done stand within the words; a next record 0 stands for none
  pub in_words : {c y x running : List Float} {out : List ℕ} {z : State} {records next : ℕ}
      → Turn W count A B limit out₀ c y x running out z records next → InWords W records next
  in_words {next = next} t = record {
    comes = by (eqb next 0) refl;
    made = omega (arith, t.counts, t.done.seen.few, t.done.inside);
    few = few-records t.done.fit;
  }
    where
      by : (b : Bool) → eqb next 0 ≡ b → next < length W / 4
      by true e = omega (arith, eqb-true next 0 e, t.done.inside)
      by false e = inside t (eqb-false next 0 e)

  -- no record is left
  module _ {c y x running : List Float} {out : List ℕ} {z : State} {records next : ℕ}
      (t : Turn W count A B limit out₀ c y x running out z records next) (none : next ≡ 0) where
    -- right side r's part of B
    abbrev side : ℕ → List Float
    side r = part (word W 0) B r

    -- what the loop ends with: each side stands where its own run ends, so many records were read, and if a side goes on, the chain ended
    record Ends : Type 0 where
      pub along : (r : ℕ) → r < count → side_after W A B limit t.links r ≡ side_along W A limit (side r)
      pub reads : read (chain W).links (endings W count A B limit) ≡ length t.links
      pub last : any_going count out ≡ true → next_of W t.last ≡ 0

    -- both ways to the end
    ends : Ends
    ends = go t.way
      where
        seen : Seen W t.links t.last
        seen = t.done.seen

        refused : (r : ℕ) (f : Followed) → side_after W A B limit t.links r ≡ f → Halted f → f ≡ side_along W A limit (side r)
        refused r (halted n i u j) is ended = sym (seen-halted seen A (side r) limit (fresh (word W 0)) n i u j is)
        refused r (through _) is ended = elim ended [ ]

        go : Way W count A B limit out₀ out t.links t.last next → Ends
        go (on goes is) =
            let (r, h, zero) = some_goes count out goes in
            record {
              along = λ j low. sym (follow_advanced A (side j) limit (fresh (word W 0)) (chain W).links
                  ∙ ap (advanced A (side j) limit (through (fresh (word W 0)))) (seen_all seen (is ∙ none)));
              reads = read_through W A B limit count seen (is ∙ none) r h (own_state t.done r h) (goes_own t.done r h zero);
              last = λ e. is ∙ none;
            }
        go (over refusals is reads) = record {
          along = λ r h. refused r (side_after W A B limit t.links r) refl (all-halted t.done refusals r h);
          reads = reads;
          last = λ goes. absurd (false≢true (sym refusals ∙ goes));
        }

    -- the loop's end, with the records counted in the first number out
    pub ended : Passes.Passed W count A B limit z c y x running out₀ (set out 0 records)
    ended =
        let d = t.done in
        let others : (j : ℕ) → 0 < j → get_or (set out 0 records) j 0 ≡ get_or out j 0 = λ j low. get_or-set_other out 0 j records 0 (λ e. omega arith) in
        record {
          stands = λ r h. subst (λ cell. StandsAt z cell c (part (word W 0) y r) (part (word W 0) x r) (side_along W A limit (side r)))
              (sym (cell_first out records running r)) (subst (Stands (word W 0) z c y x running out r) (ends.along r h) (d.stands r h));
          records = get_or-set_same out 0 records 0 (omega (arith, d.room.in_out)) ∙ t.counts ∙ sym ends.reads;
          whole = λ e.
              let goes = sym (going-first out records count) ∙ e in
              let (r, h, is) = some_goes count out goes in
              whole-own d r h is (ends.last goes);
          few = λ r h e. omega (arith, few-own d r h (sym (others (4 * r + 1) (omega arith)) ∙ e), others (4 * r + 4) (omega arith));
          past = λ j h. others j (omega arith) ∙ d.kept.past j h;
        }
