-- A.11, the run: the compact program's has the plain one's X, Y and counts, and a refusal's number, record and table; its C holds what each slot closed last.
use Prim.Native.Nat.{ℕ, suc, ◌+◌, ◌-◌, ◌≤◌, ◌<◌, max}
use native.Mathlib.Omega.{arith}
use mathlib.Core.Path.{◌≡◌, refl, sym, ap, ◌∙◌}
use mathlib.Core.Bool.{Bool, true, false, cond}
use mathlib.Core.List.{List, [], ◌∷◌, ◌++◌, append-nil}
use lib.Dec.{eqb, eqb-suc-zero}
use lib.ListN.{length, get_or}
use lib.Ieee.{Float}
use borrow.Author.Tests.{eqb-true, eqb-false}
use Rattle.model.specs.Arith.{Answer, number, overflow, zero_divisor, plus_zero, quotient, vanishes, is_small}
use Rattle.model.specs.Formula.{Table, C, Y, X, Tables, put, entry, closed, starting, less}
use Rattle.model.specs.Lists.{kept}
use Rattle.model.specs.Fill.{Plan, slots}
use Rattle.model.specs.Crout.{nothing}
use Rattle.model.specs.Program.{Record, rec, compiled_records, compiled}
use Rattle.model.specs.Check.{kind_of, chain}
use Rattle.model.specs.Run.{State, Stepped, going, stop, subtracted, divided_by, closing, settled_step, step, fresh, follow, followed}
use Rattle.model.specs.Run.{Outcome, solution, stopped, refused_by, unsettled_at, ran}
use Rattle.model.specs.Compact.{open_after, needed, renamed, after_record, compacting, compact_slots, compact_records, compacted, openings, closed_into}
use Rattle.model.specs.Agreement.{Accepted, ended, seen, stops, number_in, common, besides, CompactAgrees, CompactC, CompactDense}
use Rattle.model.proofs.Links.{links_from}
use Rattle.model.proofs.Within.{within-range}
use Rattle.model.proofs.Machine.{settled_test}
use Rattle.model.proofs.Runs.{done_by, runs_open, finite_fine, lengths-right}
use Rattle.model.proofs.Chain.{program-chain}
use Rattle.model.proofs.Put.{put-end, put-length, put_same, put_other}
use Rattle.model.proofs.Agreement.{runs, agreement}
use Rattle.model.proofs.Reuse.{whole-range, taken, made_with}
use Rattle.model.proofs.Plain.{Phase, between, on, Closed, Plain, ends, opens-c, opens-y, opens-x}
use Rattle.model.proofs.Plain.{subtracts-c, subtracts-y, subtracts-x, divides, closes-c, closes-pivot, closes-y, closes-x}
use Rattle.model.proofs.Renaming.{open_slot, standing, slot_in, slot-before, given_more, Sound, needs, needs_too, needs_later}
use Rattle.model.proofs.Renaming.{open_needed, sound-reads, sound_stays, sound-closes, giving_is, sound-opens, sound-begun}
use Rattle.model.proofs.Compact.{compiled-plain, compact_crout, compact_chain, compact_fine}

-- ---- what the slots hold

-- a slot that is opened holds what it held
into_opened : (cs : List Float) (ks : List ℕ) (k : ℕ) (vs : List Float) → length vs ≤ length ks → closed_into cs (ks ++ (k ∷ [])) vs ≡ closed_into cs ks vs
unfolding closed_into
into_opened cs [] k [] h = refl
into_opened cs [] k (v ∷ vs) h = absurd (omega arith)
into_opened cs (l ∷ ks) k [] h = refl
into_opened cs (l ∷ ks) k (v ∷ vs) h = into_opened (put cs (l - 1) v) ks k vs (omega arith)

-- once closed, it holds the value
into_closed : (cs : List Float) (ks : List ℕ) (vs : List Float) (v : Float) → length vs < length ks
    → closed_into cs ks (vs ++ (v ∷ [])) ≡ put (closed_into cs ks vs) (get_or ks (length vs) 0 - 1) v
unfolding closed_into
into_closed cs [] vs v h = absurd (omega arith)
into_closed cs (k ∷ []) [] v h = refl
into_closed cs (k ∷ l ∷ ks) [] v h = refl
into_closed cs (k ∷ ks) (w ∷ vs) v h = into_closed (put cs (k - 1) w) ks vs v (omega arith)

-- ---- the tables

-- the plain tables with the compact program's C
abbrev with : Tables → List Float → Tables
with t cs = record { order = t.order; c = cs; y = t.y; x = t.x }

-- With c closed, o open and d the highest slot closed: each slot holds what it closed last, and a closed entry of C that rs needs stands in its slot.
record Alike (c o d : ℕ) (given : List ℕ) (rs : List Record) (t : Tables) (cs : List Float) : Type 0 where
  plain : length t.c ≡ c
  compact : length cs ≡ d
  holds : cs ≡ closed_into [] given t.c
  same : (j : ℕ) → Closed c j → needed o j rs ≡ true → entry (with t cs) C (slot_in given j) ≡ entry t C j

-- a record that closes nothing of C passes, whatever it does to Y and X
alike_stays : {c o d : ℕ} {given : List ℕ} {t : Tables} {cs : List Float} {r : Record} {rs : List Record} (ys xs : List Float) → Alike c o d given (r ∷ rs) t cs
    → Alike c (open_after o (kind_of r.kind) r.q) d given rs (record { order = t.order; c = t.c; y = ys; x = xs }) cs
unfolding entry
alike_stays {o = o} {r = r} {rs} ys xs alike = record {
  plain = alike.plain;
  compact = alike.compact;
  holds = alike.holds;
  same = λ j h e. alike.same j h (needs_later o r rs j e);
}

-- a record opens the next plain slot, which is given k
alike_opens : {c d : ℕ} {given : List ℕ} {t : Tables} {cs : List Float} {a : ℕ} {rs : List Record} (k : ℕ) → length given ≡ max c 0
    → Alike c 0 d given (rec 1 a (suc c) ∷ rs) t cs → Alike c (suc c) d (given ++ (k ∷ [])) rs t cs
unfolding kind_of
alike_opens {c} {given = given} {t} {cs} {a} {rs} k opened alike = record {
  plain = alike.plain;
  compact = alike.compact;
  holds = alike.holds ∙ sym (into_opened [] given k t.c (omega (arith, alike.plain)));
  same = λ j h e. ap (entry (with t cs) C) (slot-before given k j h.0 (omega (arith, h))) ∙ alike.same j h (needs_later 0 (rec 1 a (suc c)) rs j e);
}

module _ {N n s : ℕ} where
  -- the open entry of C is closed, with v: no other that is needed has its slot
  alike_closes : {c y x d made : ℕ} {given free : List ℕ} {t : Tables} {cs : List Float} {r : Record} {rs : List Record} (v : Float)
      → open_after (suc c) (kind_of r.kind) r.q ≡ 0 → Plain N n s (on C) c y x (r ∷ rs) → Sound c (suc c) d given free made (r ∷ rs)
      → Alike c (suc c) d given (r ∷ rs) t cs → Alike (suc c) 0 made given rs (closed t C (suc c) v) (put cs (slot_in given (suc c) - 1) v)
  unfolding entry closed
  alike_closes {c} {d = d} {made} {given} {t = t} {cs} {r} {rs} v none plain sound alike = record {
    plain = omega (arith, put-length t.c (suc c - 1) v (omega (arith, alike.plain)), alike.plain);
    compact = omega (arith, put-length cs (k - 1) v room, range, alike.compact, sound.reached);
    holds = ap (λ ws. put ws (k - 1) v) alike.holds ∙ sym into_k;
    same = λ j h e. step j h e (eqb j (suc c)) refl;
  }
    where
      k : ℕ
      k = slot_in given (suc c)

      range : (1 ≤ k) × (k ≤ made)
      range = whole-range sound.whole (suc c) (omega arith) (omega (arith, sound.opened)) (open_needed plain (omega arith))

      room : k - 1 ≤ length cs
      room = omega (arith, sound.near, alike.compact)

      into_k : closed_into [] given (put t.c (suc c - 1) v) ≡ put (closed_into [] given t.c) (k - 1) v
      into_k =
          let back : suc c - 1 ≡ length t.c = omega (arith, alike.plain) in
          rw (put-end t.c (suc c - 1) v back, eqb-suc-zero, back) (into_closed [] given t.c v (omega (arith, alike.plain, sound.opened)))

      step : (j : ℕ) → Closed (suc c) j → needed 0 j rs ≡ true → (b : Bool) → eqb j (suc c) ≡ b
          → get_or (put cs (k - 1) v) (slot_in given j - 1) plus_zero ≡ get_or (put t.c (suc c - 1) v) (j - 1) plus_zero
      step j h e true i =
          rw (eqb-true j (suc c) i) (put_same cs (k - 1) v plus_zero room ∙ sym (put_same t.c (suc c - 1) v plus_zero (omega (arith, alike.plain))))
      step j h e false i =
          let below : Closed c j = omega (arith, h, eqb-false j (suc c) i) in
          let used = needs_later (suc c) r rs j (rw none e) in
          let apart = sound-reads plain sound j below used in
          put_other cs (k - 1) (slot_in given j - 1) v plus_zero room (λ z. apart.2 (omega (arith, apart.0, range, z)))
          ∙ alike.same j below used
          ∙ sym (put_other t.c (suc c - 1) (j - 1) v plus_zero (omega (arith, alike.plain)) (omega (arith, below)))

-- ---- the run

-- The compact run's ending beside the plain one's, ks being the slots opened: C holds what each slot closed last, "a refusal's number in table 1 is here the
-- slot", and all else is the same.
data Same (ks : List ℕ) : Outcome → Outcome → Type 0 where
  both_solve : (t : Tables) (p q g : ℕ) → Same ks (solution (with t (closed_into [] ks t.c)) p q g 0) (solution t p q g 0)
  both_stop : (r i : ℕ) (t : Table) (k l : ℕ) → number_in t k ≡ number_in t l → Same ks (stopped r i t k) (stopped r i t l)

-- the state within a phase: what is open, and what of it the two programs share
abbrev table_in : Phase → Table → Table
table_in between t = t
table_in (on u) t = u

-- the plain program's target, and the compact one's; between two formulas those of the last stand there still
abbrev target_in : Phase → ℕ → ℕ → ℕ
target_in between c k = k
target_in (on C) c k = suc c
target_in (on Y) c k = k
target_in (on X) c k = k

abbrev slot_target_in : List ℕ → Phase → ℕ → ℕ → ℕ → ℕ
slot_target_in given between c k l = l
slot_target_in given (on C) c k l = slot_in given (suc c)
slot_target_in given (on Y) c k l = k
slot_target_in given (on X) c k l = k

-- they are the same but for the entries of C
same_number : (given : List ℕ) (t : Table) (c k l : ℕ) → number_in t (slot_target_in given (on t) c k l) ≡ number_in t (target_in (on t) c k)
same_number given C c k l = refl
same_number given Y c k l = refl
same_number given X c k l = refl

abbrev at : Tables → Table → ℕ → Float → ℕ → ℕ → ℕ → State
at t u k v p q g = record { tables = t; table = u; target = k; running = v; products = p; quotients = q; vanished = g }

module _ (A B : List Float) (limit : Float) where
  -- how a run of records ends, the first of index i
  ending : State → ℕ → List Record → Outcome
  ending z i rs = followed (follow A B limit z (links_from i rs))

  -- by its first record
  on_step : State → ℕ → List Record → Stepped → Outcome
  on_step z i rs (going z') = ending z' (suc i) rs
  on_step z i rs (stop n) = stopped n i z.table z.target

  ending_cons : (z : State) (i : ℕ) (r : Record) (rs : List Record) → ending z i (r ∷ rs) ≡ on_step z i rs (step A B limit z (kind_of r.kind) r.p r.q)
  unfolding ending on_step follow followed links_from
  ending_cons z i r rs = by (step A B limit z (kind_of r.kind) r.p r.q) refl
    where
      by : (s : Stepped) → step A B limit z (kind_of r.kind) r.p r.q ≡ s → ending z i (r ∷ rs) ≡ on_step z i rs s
      by (going z') e = rw (ending, follow, e)
      by (stop n) e = rw (ending, follow, e)

  module _ {ks : List ℕ} where
    -- past the last
    same_end : (t : Tables) (cs : List Float) (u : Table) (k l : ℕ) (v : Float) (ps qs gs i : ℕ) → cs ≡ closed_into [] ks t.c
        → Same ks (ending (at (with t cs) u l v ps qs gs) i []) (ending (at t u k v ps qs gs) i [])
    unfolding ending follow followed links_from
    same_end t cs u k l v ps qs gs i e = rw e (both_solve t ps qs gs)

    -- two records with the same answer
    same_answer : (z w : State) (i : ℕ) (r q : Record) (rs qs : List Record) (a : Answer) (f g : Float → State)
        → ((n : ℕ) → Same ks (stopped n i z.table z.target) (stopped n i w.table w.target))
        → step A B limit z (kind_of r.kind) r.p r.q ≡ settled_step a f → step A B limit w (kind_of q.kind) q.p q.q ≡ settled_step a g
        → ((v : Float) → Same ks (ending (f v) (suc i) rs) (ending (g v) (suc i) qs)) → Same ks (ending z i (r ∷ rs)) (ending w i (q ∷ qs))
    unfolding on_step
    same_answer z w i r q rs qs a f g halt e h rest = rw (ending_cons z i r rs, e, ending_cons w i q qs, h) (by a)
      where
        by : (a : Answer) → Same ks (on_step z i rs (settled_step a f)) (on_step w i qs (settled_step a g))
        by (number v) = rest v
        by overflow = halt 16
        by zero_divisor = halt 17

    -- two records that refuse nothing
    both_go : (z w : State) {z' w' : State} (i : ℕ) (r q : Record) (rs qs : List Record) → step A B limit z (kind_of r.kind) r.p r.q ≡ going z'
        → step A B limit w (kind_of q.kind) q.p q.q ≡ going w' → Same ks (ending z' (suc i) rs) (ending w' (suc i) qs)
        → Same ks (ending z i (r ∷ rs)) (ending w i (q ∷ qs))
    unfolding on_step
    both_go z w i r q rs qs e h rest = rw (ending_cons z i r rs, e, ending_cons w i q qs, h) rest

  -- from tables that are alike the two runs end alike
  module _ {N n s : ℕ} {ks : List ℕ} where
    runs_same : {ph : Phase} {c y x d : ℕ} (given free : List ℕ) (made : ℕ) {rs : List Record}
        (t : Tables) (cs : List Float) (u : Table) (k l : ℕ) (v : Float) (ps qs gs i : ℕ)
        → Plain N n s ph c y x rs → Sound c (open_slot ph c) d given free made rs → Alike c (open_slot ph c) d given rs t cs
        → given ++ openings (renamed (standing (open_slot ph c) given free made) rs).records ≡ ks
        → Same ks
        (ending (at (with t cs) (table_in ph u) (slot_target_in given ph c k l) v ps qs gs) i (renamed (standing (open_slot ph c) given free made) rs).records)
        (ending (at t (table_in ph u) (target_in ph c k) v ps qs gs) i rs)
    unfolding kept renamed after_record kind_of step closed entry starting
    runs_same given free made t cs u k l v ps qs gs i ends sound alike all =
        same_end t cs u k l v ps qs gs i (alike.holds ∙ ap (λ g. closed_into [] g t.c) (sym (append-nil given) ∙ all))
    runs_same given free made t cs u k l v ps qs gs i (opens-c {c} a h last plain) sound alike all =
        rw (giving_is given free made, renamed) (both_go _ _ i _ _ _ _ refl refl
        (runs_same _ _ (made_with free made) t cs C k l (starting A B t C a) ps qs gs (suc i) plain
        (sound-opens (open_needed plain (omega arith)) sound) (alike_opens (taken free made) sound.opened alike)
        (given_more c given (taken free made) _ sound.opened ∙ (rw (giving_is given free made, renamed) at all))))
    runs_same given free made t cs u k l v ps qs gs i (opens-y p h plain) sound alike all =
        both_go _ _ i _ _ _ _ refl refl (runs_same given _ made t cs Y p l (starting A B t Y p) ps qs gs (suc i) plain
        (sound_stays sound (omega arith)) (alike_stays t.y t.x alike) all)
    runs_same given free made t cs u k l v ps qs gs i (opens-x p h plain) sound alike all =
        both_go _ _ i _ _ _ _ refl refl (runs_same given _ made t cs X p l (starting A B t X p) ps qs gs (suc i) plain
        (sound_stays sound (omega arith)) (alike_stays t.y t.x alike) all)
    runs_same given free made t cs u k l v ps qs gs i (subtracts-c {c} {rs = rs} p q hp hq plain) sound alike all =
        let a = entry t C p in
        let b = entry t C q in
        same_answer _ _ i _ _ _ _ (less v a b)
        (subtracted (at (with t cs) C (slot_in given (suc c)) v ps qs gs) (vanishes a b)) (subtracted (at t C (suc c) v ps qs gs) (vanishes a b))
        (λ r. both_stop r i _ _ _ refl)
        (rw (alike.same p hp (needs (suc c) (rec 4 p q) rs), alike.same q hq (needs_too (suc c) (rec 4 p q) rs))) refl
        (λ w. runs_same given _ made t cs C k l w (suc ps) qs (gs + cond (vanishes a b) 1 0) (suc i) plain
        (sound_stays sound (omega arith)) (alike_stays t.y t.x alike) all)
    runs_same given free made t cs u k l v ps qs gs i (subtracts-y {rs = rs} p q hp hq plain) sound alike all =
        let a = entry t C p in
        let b = entry t Y q in
        same_answer _ _ i _ _ _ _ (less v a b)
        (subtracted (at (with t cs) Y k v ps qs gs) (vanishes a b)) (subtracted (at t Y k v ps qs gs) (vanishes a b))
        (λ r. both_stop r i _ _ _ refl)
        (rw (alike.same p hp (needs 0 (rec 5 p q) rs))) refl
        (λ w. runs_same given _ made t cs Y k l w (suc ps) qs (gs + cond (vanishes a b) 1 0) (suc i) plain
        (sound_stays sound (omega arith)) (alike_stays t.y t.x alike) all)
    runs_same given free made t cs u k l v ps qs gs i (subtracts-x {rs = rs} p q hp hq plain) sound alike all =
        let a = entry t C p in
        let b = entry t X q in
        same_answer _ _ i _ _ _ _ (less v a b)
        (subtracted (at (with t cs) X k v ps qs gs) (vanishes a b)) (subtracted (at t X k v ps qs gs) (vanishes a b))
        (λ r. both_stop r i _ _ _ refl)
        (rw (alike.same p hp (needs 0 (rec 6 p q) rs))) refl
        (λ w. runs_same given _ made t cs X k l w (suc ps) qs (gs + cond (vanishes a b) 1 0) (suc i) plain
        (sound_stays sound (omega arith)) (alike_stays t.y t.x alike) all)
    runs_same given free made t cs u k l v ps qs gs i (divides {t = e} {c} {rs = rs} p hp plain) sound alike all =
        same_answer _ _ i _ _ _ _ (quotient v (entry t C p))
        (divided_by (at (with t cs) e (slot_target_in given (on e) c k l) v ps qs gs)) (divided_by (at t e (target_in (on e) c k) v ps qs gs))
        (λ r. both_stop r i e _ _ (same_number given e c k l))
        (rw (alike.same p hp (needs (open_slot (on e) c) (rec 7 p 0) rs))) refl
        (λ w. runs_same given _ made t cs e k l w ps (suc qs) gs (suc i) plain
        (sound_stays sound (omega arith)) (alike_stays t.y t.x alike) all)
    runs_same given free made t cs u k l v ps qs gs i (closes-c {c} plain) sound alike all =
        both_go _ _ i _ _ _ _ refl refl
        (runs_same given _ made (closed t C (suc c) v) (put cs (slot_in given (suc c) - 1) v) C (suc c) (slot_in given (suc c)) v ps qs gs (suc i) plain
        (sound-closes sound (omega arith)) (alike_closes v refl (closes-c plain) sound alike) all)
    runs_same given free made t cs u k l v ps qs gs i (closes-pivot {c} plain) sound alike all =
        same_answer _ _ i _ _ _ _ (cond (is_small limit v) zero_divisor (number v))
        (λ w. closing (at (with t cs) C (slot_in given (suc c)) v ps qs gs)) (λ w. closing (at t C (suc c) v ps qs gs)) (λ r. both_stop r i _ _ _ refl)
        (settled_test (is_small limit v) v _) (settled_test (is_small limit v) v _)
        (λ w. runs_same given _ made (closed t C (suc c) v) (put cs (slot_in given (suc c) - 1) v) C (suc c) (slot_in given (suc c)) v ps qs gs (suc i) plain
        (sound-closes sound (omega arith)) (alike_closes v refl (closes-pivot plain) sound alike) all)
    runs_same given free made t cs u k l v ps qs gs i (closes-y plain) sound alike all =
        both_go _ _ i _ _ _ _ refl refl (runs_same given _ made (closed t Y k v) cs Y k k v ps qs gs (suc i) plain
        (sound_stays sound (omega arith)) (alike_stays (closed t Y k v).y t.x alike) all)
    runs_same given free made t cs u k l v ps qs gs i (closes-x plain) sound alike all =
        both_go _ _ i _ _ _ _ refl refl (runs_same given _ made (closed t X k v) cs X k k v ps qs gs (suc i) plain
        (sound_stays sound (omega arith)) (alike_stays t.y (closed t X k v).x alike) all)

-- ---- the programs

module _ {N : ℕ} {L : Plan} {A B : List Float} {limit : Float} (accepted : Accepted N L A B limit) where
  open accepted use {given, pivots}

  -- the checks before the first record let the run through
  compact_runs : ran (compacted N L) A B limit (compact_slots N L) N N ≡ followed (follow A B limit (fresh N) (chain (compacted N L)).links)
  unfolding compacted done_by
  compact_runs =
      let crout = compact_crout N L given.order pivots in
      runs_open (compacted N L) A B limit (compact_slots N L) N N (compact_fine N L given.order given.labels pivots)
      (lengths-right N (length L) (compact_slots N L) _ _ _ _ _ given.length_a given.length_b refl (rw crout) refl)
      (finite_fine A B limit (record { finite_a = given.finite_a; finite_b = given.finite_b; limited = given.limited }))
      ∙ ap (done_by (compacted N L) A B limit) crout

  -- nothing is closed before the first record
  alike_begun : Alike 0 0 0 [] (compiled_records N L) (nothing N) []
  unfolding closed_into
  alike_begun = record { plain = refl; compact = refl; holds = refl; same = λ j h e. absurd (omega (arith, h)) }

  -- the records of the two programs end alike
  records-same : Same (openings (compact_records N L)) (ending A B limit (fresh N) 1 (compact_records N L)) (ending A B limit (fresh N) 1 (compiled_records N L))
  unfolding compact_records compacting
  records-same =
      runs_same A B limit [] [] 0 (nothing N) [] C 0 0 plus_zero 0 0 0 1 (compiled-plain N L given.order pivots)
      (sound-begun (compiled_records N L)) alike_begun refl

  -- so the programs do
  programs_same : Same (openings (compact_records N L)) (ran (compacted N L) A B limit (compact_slots N L) N N) (ran (compiled N L) A B limit (slots N L) N N)
  unfolding ending
  programs_same =
      rw (compact_runs, compact_chain N L given.order pivots, runs accepted, program-chain N L (within-range N 600 given.order).0) records-same

-- ---- what two such endings share

-- the C of a run that solves
table_c : Outcome → List Float
table_c (solution t p q g k) = t.c
table_c (stopped r i t k) = []
table_c (refused_by r d) = []
table_c (unsettled_at t) = []

module _ {ks : List ℕ} where
  same-common : {o w : Outcome} → Same ks o w → common o ≡ common w
  unfolding common
  same-common (both_solve t p q g) = refl
  same-common (both_stop r i t k l e) = ap (stops r i t) e

  same-besides : {o w : Outcome} → Same ks o w → besides (seen o) ≡ besides (seen w)
  unfolding besides seen
  same-besides (both_solve t p q g) = refl
  same-besides (both_stop r i t k l e) = ap (ended r t) e

  same-c : {o w : Outcome} {t u : Tables} {p q g k p' q' g' k' : ℕ} → Same ks o w → w ≡ solution t p q g k → o ≡ solution u p' q' g' k'
      → u.c ≡ closed_into [] ks t.c
  unfolding table_c
  same-c (both_solve t p q g) e f = sym (ap table_c f) ∙ ap (λ w. closed_into [] ks (table_c w)) e
  same-c (both_stop r i t k l h) e f = let z : ◌≡◌ {A = ℕ} 0 1 = cc in absurd (omega arith)

module _ (N : ℕ) (L : Plan) (A B : List Float) (limit : Float) where
  -- The headline: "X, Y, products and the record index of a refusal are those of the plain program for the same plan".
  pub compact_agrees : CompactAgrees N L A B limit
  compact_agrees accepted = same-common (programs_same accepted)

  -- "C holds what each slot closed last."
  pub compact_c : CompactC N L A B limit
  compact_c accepted t u p q g k p' q' g' k' = same-c (programs_same accepted)

  -- In X, Y, the counts and the refusals it is dense Crout.
  pub compact_dense : CompactDense N L A B limit
  compact_dense accepted = same-besides (programs_same accepted) ∙ ap besides (agreement N L A B limit accepted)
