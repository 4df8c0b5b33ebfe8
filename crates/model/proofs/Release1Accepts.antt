-- What release 1, here R, accepts: the programs with at least N slots that pass today's checks and open each slot once; so every program that the plain
-- compiler writes, and no sweep.
use Prim.Native.Nat.{ℕ, zero, suc, ◌+◌, ◌*◌, ◌/◌, ◌%◌, ◌≤◌, ◌<◌, max}
use native.Mathlib.Nat.{mul-le-mul}
use native.Mathlib.Omega.{arith}
use mathlib.Core.Path.{◌≡◌, refl, sym, ap, ap₂, subst, ◌∙◌}
use mathlib.Core.Bool.{Bool, true, false, cond, not, ◌&&◌, true≢false}
use mathlib.Core.Logic.{◌↔◌}
use mathlib.Core.List.Memᴰ
use mathlib.Core.List.{List, [], ◌∷◌}
use borrow.Author.Tests.{lt-ltb, leb-true, le-leb, eq-eqb, eqb-true, ne_eqb}
use lib.Dec.{eqb, leb, ltb}
use lib.ListN.{length, length-map}
use lib.Ieee.{Float}
use Rattle.model.specs.Release1 as R
use Rattle.model.specs.Lists.{rising}
use Rattle.model.specs.Label.{within, is_order}
use Rattle.model.specs.Fill.{Plan, missing}
use Rattle.model.specs.Formula.{Table, C, Y, X}
use Rattle.model.specs.Program.{Record, rec, compiled}
use Rattle.model.specs.Sweep.{row_formula, row_formulas, planned_rows, sweep_records, compiled_sweep}
use Rattle.model.specs.Compile.{judged, good}
use Rattle.model.specs.Check.{Link, Kind, opens, subtracts, divides, closes, closes_pivot, none, kind_of, Open, idle, busy, End, whole, broken}
use Rattle.model.specs.Check.{Progress, fine, is_sweep, belongs, formed, in_order, in_turn, allowed, counted, onward, is_idle, complete, check_links}
use Rattle.model.specs.Check.{check, chain, word}
use Rattle.model.proofs.Lists.{Each, length-rising, map-rising}
use Rattle.model.proofs.Search.{kept-at_most}
use Rattle.model.proofs.Sums.{rising-at_most}
use Rattle.model.proofs.Within.{within-range}
use Rattle.model.proofs.Slots.{slots-at_least}
use Rattle.model.proofs.Plans.{pivot-held}
use Rattle.model.proofs.Plain.{Phase, Plain, ends, opens-c, opens-y, opens-x, subtracts-c, subtracts-y, subtracts-x}
use Rattle.model.proofs.Plain.{divides, closes-c, closes-pivot, closes-y, closes-x, records-plain}
use Rattle.model.proofs.Checked.{program-fine}
use Rattle.model.proofs.Renaming.{open_slot}
use Rattle.model.proofs.Tally.{products_of, quotients_of}
use Rattle.model.proofs.Counts.{records-of}
use Rattle.model.proofs.SweepCounts.{is_planned, planned_row, length-rows}
use Rattle.model.proofs.Links.{links_from}
use Rattle.model.proofs.Chain.{chained-length, program-chain}
use Rattle.model.proofs.Passing.{both, refused-fine, link-passed, end-passed, fine-passed}
use Rattle.model.proofs.Release1.{chain_now, kind_now, open_now, begun_then, progress_now, chain_frozen, kind-now, formed_now, order_now, onward_now}
use Rattle.model.proofs.Release1.{nine_kinds, complete_now, next-c, link-fine, required-passed, eight_then, slots_then, accepted, check-kept}

-- ---- how far the slots get

-- a kind that opens an entry of C
unfoldable pub opens_c : Kind → Bool
opens_c (opens C) = true
opens_c (opens Y) = false
opens_c (opens X) = false
opens_c (subtracts t) = false
opens_c divides = false
opens_c closes = false
opens_c closes_pivot = false
opens_c none = false

-- how many records of a chain do
unfoldable pub opening_count : List Link → ℕ
opening_count [] = 0
opening_count (l ∷ ls) = cond (opens_c (kind_of l.at.kind)) 1 0 + opening_count ls

-- the highest slot that is closed once what is open is
highest : Open → ℕ → ℕ
highest idle c = c
highest (busy C k) c = max c k
highest (busy Y k) c = c
highest (busy X k) c = c

abbrev top : Progress → ℕ
top g = highest g.target g.c

opens-idle : (t : Table) (o : Open) → in_order (opens t) o ≡ true → o ≡ idle
unfolding in_order
opens-idle t idle e = refl
opens-idle t (busy u k) e = absurd (true≢false (sym e))

counted_top : (g : Progress) → top (counted g.target g) ≡ top g
unfolding highest
counted_top g = go g.target refl
  where
    go : (o : Open) → g.target ≡ o → top (counted o g) ≡ highest o g.c
    go idle e = rw e
    go (busy C k) e = refl
    go (busy Y k) e = refl
    go (busy X k) e = refl

module _ (N n s : ℕ) (crout : is_sweep s ≡ false) where
  -- what today's 10 and 12 let through
  crout_kind : (k : ℕ) → belongs s k ≡ true → within k 9 ≡ true
  unfolding belongs
  crout_kind k e = rw (belongs, crout) at e

  crout_turn : (k : Kind) (p q : ℕ) (g : Progress) → allowed N n s k p q g ≡ true → in_turn N n s k p q g ≡ true
  unfolding allowed
  crout_turn k p q g e = rw (allowed, crout) at e

  -- an opening of C adds at most one, and no other record any
  onward_top : (k : Kind) (p q : ℕ) (g : Progress) → in_order k g.target ≡ true → in_turn N n s k p q g ≡ true
      → top (onward k p q g) ≤ cond (opens_c k) 1 0 + top g
  unfolding highest opens_c in_turn
  onward_top (opens C) p q g e f =
      let turn = both (within q s) (leb q (suc g.c)) (both (leb p n) _ f).1 in
      rw (opens-idle C g.target e) (omega (arith, leb-true q (suc g.c) turn.1))
  onward_top (opens Y) p q g e f = rw (opens-idle Y g.target e) (omega arith)
  onward_top (opens X) p q g e f = rw (opens-idle X g.target e) (omega arith)
  onward_top (subtracts t) p q g e f = omega arith
  onward_top divides p q g e f = omega arith
  onward_top closes p q g e f = rw (counted_top g) (omega arith)
  onward_top closes_pivot p q g e f = rw (counted_top g) (omega arith)
  onward_top none p q g e f = omega arith

  complete_top : (g : Progress) → complete N s g ≡ true → s ≤ top g + 0
  unfolding complete highest
  complete_top g e =
      let closed = both (is_idle g.target) _ e in
      let slots = both (eqb g.c s) _ closed.1 in
      go g.target closed.0 (eqb-true g.c s slots.0)
    where
      go : (o : Open) → is_idle o ≡ true → g.c ≡ s → s ≤ highest o g.c + 0
      go idle e c = omega arith
      go (busy t k) e c = absurd (true≢false (sym e))

  -- a chain that passes opens as many slots as are left
  reaches : (g : Progress) (ls : List Link) (e : End) → check_links N n s g ls e ≡ fine → s ≤ top g + opening_count ls
  unfolding opening_count check_links
  reaches g [] whole passes = complete_top g (end-passed N s g passes)
  reaches g [] (broken k) passes = absurd (refused-fine _ _ passes)
  reaches g (l ∷ ls) e passes =
      let p = link-passed N n s g l ls e passes in
      let rest = reaches (onward (kind_of l.at.kind) l.at.p l.at.q g) ls e p.later in
      omega (arith, rest, onward_top (kind_of l.at.kind) l.at.p l.at.q g p.eleven (crout_turn _ _ _ g p.twelve))

  -- where no more openings than slots are left, m of them after this record, C opens in turn as release 1 asks
  turn_then : (k : R.Kind) (p q : ℕ) (g : R.Progress) (m : ℕ) → in_order (kind_now k) (progress_now N g).target ≡ true
      → in_turn N n s (kind_now k) p q (progress_now N g) ≡ true → s ≤ top (onward (kind_now k) p q (progress_now N g)) + m
      → top (progress_now N g) + (cond (opens_c (kind_now k)) 1 0 + m) ≤ s → R.in_turn N n s k p q g ≡ true
  unfolding R.in_turn in_turn opens_c highest
  turn_then (R.opens R.C) p q g m e f left few =
      let start = both (leb p n) _ f in
      let turn = both (within q s) (leb q (suc g.c)) start.1 in
      let low : top (progress_now N g) ≡ g.c = ap (λ o. highest o g.c) (opens-idle C (progress_now N g).target e) in
      rw (start.0, eq-eqb q (suc g.c) (omega (arith, leb-true q (suc g.c) turn.1, low)), le-leb q s (within-range q s turn.0).1)
  turn_then (R.opens R.Y) p q g m e f left few = f
  turn_then (R.opens R.X) p q g m e f left few = f
  turn_then (R.subtracts R.C) p q g m e f left few = f
  turn_then (R.subtracts R.Y) p q g m e f left few = f
  turn_then (R.subtracts R.X) p q g m e f left few = f
  turn_then R.divides p q g m e f left few = f
  turn_then R.closes p q g m e f left few = f
  turn_then R.closes_pivot p q g m e f left few = f
  turn_then R.none p q g m e f left few = f

  -- Where a chain that passes today opens no more slots than are left, it passes release 1's check.
  passes_then : (g : R.Progress) (c : R.Chain) → check_links N n s (progress_now N g) (chain_now c).links (chain_now c).end ≡ fine
      → top (progress_now N g) + opening_count (chain_now c).links ≤ s → R.check_chain N n s g c ≡ R.fine
  unfolding opening_count check_links R.check_chain R.required
  passes_then g (R.link index k p q rest) passes few =
      let o = link-passed N n s (progress_now N g) (record { index = index; at = rec k p q }) (chain_now rest).links (chain_now rest).end passes in
      let ten = both (belongs s k) (formed (kind_of k) p q) o.ten in
      let kind = kind-now k (crout_kind k ten.0) in
      let order = rw kind at o.eleven in
      let turn = rw kind at (crout_turn _ _ _ (progress_now N g) o.twelve) in
      let later = rw kind at o.later in
      let m = opening_count (chain_now rest).links in
      let left = reaches _ (chain_now rest).links (chain_now rest).end later in
      let twelve = turn_then (R.kind_of k) p q g m order turn left (rw kind at few) in
      let on = onward_now N n s (R.kind_of k) p q g twelve in
      let adds = onward_top (kind_now (R.kind_of k)) p q (progress_now N g) order turn in
      rw (formed_now (R.kind_of k) p q ∙ (rw kind at ten.1), order_now N g.c g.y g.x (R.kind_of k) g.target ∙ order, twelve)
      (passes_then (R.onward (R.kind_of k) g) rest (rw on later) (subst (λ h. top h + m ≤ s) (sym on) (omega (arith, adds, rw kind at few))))
  passes_then g R.whole passes few = rw (← complete_now N n s crout g, end-passed N s (progress_now N g) passes)
  passes_then g (R.broken k) passes few = absurd (refused-fine _ _ passes)

-- The headline: what passes today's checks, has at least N slots and opens no more than these is accepted by release 1.
pub accepted_then : (W : List ℕ) → check W ≡ fine → word W 0 ≤ word W 2 → opening_count (chain W).links ≤ word W 2 → R.check W ≡ R.fine
unfolding R.check R.required highest
accepted_then W passes slots few =
    let p = fine-passed W passes in
    let order = both (within (word W 0) 600) _ p.head in
    let labels = both (leb (word W 1) (word W 0 * word W 0)) _ order.1 in
    let high = (both (leb 0 (word W 2)) (leb (word W 2) (word W 0 * word W 0)) labels.1).1 in
    let crout = ne_eqb (word W 2) 0 (λ e. omega (arith, within-range (word W 0) 600 order.0)) in
    rw (lt-ltb 0 (length W) p.some, eq-eqb (length W % 4) 0 p.fours, le-leb (length W / 4) 100000000 p.few)
    (rw (order.0, labels.0, le-leb (word W 0) (word W 2) slots, high)
    (passes_then (word W 0) (word W 1) (word W 2) crout begun_then (R.chain W) (rw (chain_frozen W) p.links) (rw (chain_frozen W) (omega arith))))

-- ---- what release 1 accepts opens its slots in turn

-- the slots that the records of a chain open
unfoldable pub opened_c : List Link → List ℕ
opened_c [] = []
opened_c (l ∷ ls) = cond (opens_c (kind_of l.at.kind)) (l.at.q ∷ opened_c ls) (opened_c ls)

opened-length : (ls : List Link) → length (opened_c ls) ≡ opening_count ls
unfolding opened_c opening_count
opened-length [] = refl
opened-length (l ∷ ls) = go (opens_c (kind_of l.at.kind)) (opened-length ls)
  where
    go : (b : Bool) → length (opened_c ls) ≡ opening_count ls → length (cond b (l.at.q ∷ opened_c ls) (opened_c ls)) ≡ cond b 1 0 + opening_count ls
    go true e = omega arith
    go false e = omega arith

module _ (N n s : ℕ) where
  -- each opening is of the slot above the highest
  record Turn (k : R.Kind) (p q : ℕ) (g : R.Progress) : Type 0 where
    adds : top (onward (kind_now k) p q (progress_now N g)) ≡ cond (opens_c (kind_now k)) 1 0 + top (progress_now N g)
    next : opens_c (kind_now k) ≡ true → (q ≡ suc (top (progress_now N g))) × (q ≤ s)

  -- a record that opens no slot
  turn-other : (k : R.Kind) (p q : ℕ) (g : R.Progress) → opens_c (kind_now k) ≡ false → top (onward (kind_now k) p q (progress_now N g)) ≡ top (progress_now N g)
      → Turn k p q g
  turn-other k p q g not same = record { adds = rw not (omega (arith, same)); next = λ o. absurd (true≢false (sym o ∙ not)) }

  -- every record of a chain that release 1 accepts
  turn_of : (k : R.Kind) (p q : ℕ) (g : R.Progress) → in_order (kind_now k) (progress_now N g).target ≡ true → R.in_turn N n s k p q g ≡ true → Turn k p q g
  unfolding highest opens_c R.in_turn
  turn_of (R.opens R.C) p q g e f =
      let low : top (progress_now N g) ≡ g.c = ap (λ o. highest o g.c) (opens-idle C (progress_now N g).target e) in
      let next = next-c N n s p q g f in
      let few = leb-true q s (both (eqb q (suc g.c)) (leb q s) (both (leb p n) _ f).1).1 in
      record { adds = omega arith; next = λ o. (omega arith, few) }
  turn_of (R.opens R.Y) p q g e f = turn-other (R.opens R.Y) p q g refl (ap (λ o. highest o g.c) (sym (opens-idle Y (progress_now N g).target e)))
  turn_of (R.opens R.X) p q g e f = turn-other (R.opens R.X) p q g refl (ap (λ o. highest o g.c) (sym (opens-idle X (progress_now N g).target e)))
  turn_of (R.subtracts t) p q g e f = turn-other (R.subtracts t) p q g refl refl
  turn_of R.divides p q g e f = turn-other R.divides p q g refl refl
  turn_of R.closes p q g e f = turn-other R.closes p q g refl (counted_top (progress_now N g))
  turn_of R.closes_pivot p q g e f = turn-other R.closes_pivot p q g refl (counted_top (progress_now N g))
  turn_of R.none p q g e f = turn-other R.none p q g refl refl

  complete_then : (g : R.Progress) → R.complete N s g ≡ true → top (progress_now N g) ≡ s
  unfolding R.complete highest
  complete_then g e =
      let closed = both (R.is_idle g.target) _ e in
      let slots = both (eqb g.c s) _ closed.1 in
      go g.target closed.0 ∙ eqb-true g.c s slots.0
    where
      go : (o : R.Open) → R.is_idle o ≡ true → highest (open_now N g.c g.y g.x o) g.c ≡ g.c
      go R.idle e = refl
      go (R.busy t) e = absurd (true≢false (sym e))

  -- the m slots above the highest are opened one after another
  opened_in_turn : (g : R.Progress) (c : R.Chain) (m : ℕ) → R.check_chain N n s g c ≡ R.fine → top (progress_now N g) + m ≡ s
      → opened_c (chain_now c).links ≡ rising (λ k. k) (suc (top (progress_now N g))) m
  unfolding opened_c rising R.check_chain
  opened_in_turn g (R.link index k p q rest) m passes e =
      let f = link-fine N n s index k p q g rest passes in
      let turn = turn_of (R.kind_of k) p q g (sym (order_now N g.c g.y g.x (R.kind_of k) g.target) ∙ f.eleven) f.twelve in
      let adds = ap top (onward_now N n s (R.kind_of k) p q g f.twelve) ∙ turn.adds in
      rw (kind-now k (nine_kinds k p q f.ten))
      (go (opens_c (kind_now (R.kind_of k))) m turn.next adds e (λ m. opened_in_turn (R.onward (R.kind_of k) g) rest m f.later))
    where
      h : R.Progress
      h = R.onward (R.kind_of k) g

      go : (b : Bool) (m : ℕ) → (b ≡ true → (q ≡ suc (top (progress_now N g))) × (q ≤ s)) → top (progress_now N h) ≡ cond b 1 0 + top (progress_now N g)
          → top (progress_now N g) + m ≡ s
          → ((m : ℕ) → top (progress_now N h) + m ≡ s → opened_c (chain_now rest).links ≡ rising (λ k. k) (suc (top (progress_now N h))) m)
          → cond b (q ∷ opened_c (chain_now rest).links) (opened_c (chain_now rest).links) ≡ rising (λ k. k) (suc (top (progress_now N g))) m
      go false m next adds e on = on m (omega arith) ∙ ap (λ a. rising (λ k. k) a m) (omega arith)
      go true zero next adds e on = let n = next refl in absurd (omega arith)
      go true (suc m) next adds e on = ap₂ {C = List ℕ} (λ x xs. x ∷ xs) (next refl).0 (on m (omega arith) ∙ ap (λ a. rising (λ k. k) a m) (omega arith))
  opened_in_turn g R.whole m passes e =
      let all = complete_then g (required-passed (R.complete N s g) 13 0 R.fine passes).0 in
      let none : m ≡ 0 = omega arith in
      rw none
  opened_in_turn g (R.broken k) m passes e = let z : ◌≡◌ {A = ℕ} 0 1 = cc in absurd (omega arith)

-- The headline: a program that release 1 accepts opens the slots 1, 2, .., s, in this order.
pub slots_in_turn : (W : List ℕ) → R.check W ≡ R.fine → opened_c (chain W).links ≡ rising (λ k. k) 1 (word W 2)
unfolding highest
slots_in_turn W accepts =
    rw (← chain_frozen W) (opened_in_turn (word W 0) (word W 1) (word W 2) begun_then (R.chain W) (word W 2) (accepted W accepts).along (omega arith))

-- So release 1 accepts exactly what passes today, has at least N slots and opens no more than these.
pub accepts_then_exactly : (W : List ℕ) → (R.check W ≡ R.fine) ↔ ((check W ≡ fine) × (word W 0 ≤ word W 2) × (opening_count (chain W).links ≤ word W 2))
accepts_then_exactly W = (λ a. (check-kept W a, (slots_then W (accepted W a).eight).1, few a), λ c. accepted_then W c.0 c.1 c.2)
  where
    few : R.check W ≡ R.fine → opening_count (chain W).links ≤ word W 2
    few a = omega (arith, opened-length (chain W).links, ap length (slots_in_turn W a), length-rising (λ k. k) 1 (word W 2))

-- ---- the compiled program

-- plain records open the slots that are left
module _ {N n s : ℕ} where
  plain-opens : {ph : Phase} {c y x : ℕ} {rs : List Record} (i : ℕ) → Plain N n s ph c y x rs → max c (open_slot ph c) + opening_count (links_from i rs) ≡ s
  unfolding opening_count links_from kind_of opens_c
  plain-opens i ends = omega arith
  plain-opens i (opens-c a h last plain) = omega (arith, plain-opens (suc i) plain)
  plain-opens i (opens-y p h plain) = omega (arith, plain-opens (suc i) plain)
  plain-opens i (opens-x p h plain) = omega (arith, plain-opens (suc i) plain)
  plain-opens i (subtracts-c p q hp hq plain) = omega (arith, plain-opens (suc i) plain)
  plain-opens i (subtracts-y p q hp hq plain) = omega (arith, plain-opens (suc i) plain)
  plain-opens i (subtracts-x p q hp hq plain) = omega (arith, plain-opens (suc i) plain)
  plain-opens i (divides p hp plain) = omega (arith, plain-opens (suc i) plain)
  plain-opens i (closes-c plain) = omega (arith, plain-opens (suc i) plain)
  plain-opens i (closes-pivot plain) = omega (arith, plain-opens (suc i) plain)
  plain-opens i (closes-y plain) = omega (arith, plain-opens (suc i) plain)
  plain-opens i (closes-x plain) = omega (arith, plain-opens (suc i) plain)

-- The programs that the compiler writes are accepted by release 1.
pub program_accepted : (N : ℕ) (L : Plan) → is_order N ≡ true → judged N 0 1 L ≡ good → missing N L ≡ 0 → R.check (compiled N L) ≡ R.fine
unfolding compiled
program_accepted N L order labels pivots =
    let held = pivot-held N L pivots in
    let chain-is = ap (λ c. opening_count c.links) (program-chain N L (within-range N 600 order).0) in
    accepted_then (compiled N L) (program-fine N L order labels pivots) (slots-at_least N L held)
    (omega (arith, chain-is, plain-opens 1 (records-plain N L held)))

-- ---- sweeps

-- The headline: "such a program has s = 0 in record 0, so an older runner refuses it by 8" (A.7), if it passes 7.
pub sweep_refused : (W : List ℕ) → 0 < length W → length W % 4 ≡ 0 → length W / 4 ≤ 100000000 → word W 2 ≡ 0 → R.check W ≡ R.refusal 8 0
unfolding R.check R.required
sweep_refused W some fours few sweep =
    rw (lt-ltb 0 (length W) some, eq-eqb (length W % 4) 0 fours, le-leb (length W / 4) 100000000 few, go (eight_then W) refl)
  where
    go : (b : Bool) → eight_then W ≡ b → b ≡ false
    go true e = absurd (omega (arith, slots_then W e))
    go false e = refl

-- So it refuses what passes today's checks with s = 0.
pub fine_sweep_refused : (W : List ℕ) → check W ≡ fine → word W 2 ≡ 0 → R.check W ≡ R.refusal 8 0
fine_sweep_refused W passes = let p = fine-passed W passes in sweep_refused W p.some p.fours p.few

-- a row of a compiled sweep has at most N products and one quotient
sweep_few : (N : ℕ) (L : Plan) → length (sweep_records N L) ≤ N * N + 3 * N
unfolding sweep_records products_of quotients_of planned_rows row_formulas row_formula
sweep_few N L =
    let row : (r : ℕ) → length (planned_row N L r).products ≤ N = λ r. rw length-map
    (omega (arith, kept-at_most (λ j. not (eqb j r) && is_planned N L r j) (rising (λ j. j) 1 N), length-rising (λ j. j) 1 N)) in
    let products : products_of (planned_rows N L) ≤ N * N = rw map-rising (rising-at_most _ N 1 N (λ r low high. row r)) in
    let quotients = kept-at_most (λ f. ltb 0 f.divisor) (planned_rows N L) in
    rw length-map (omega (arith, records-of (planned_rows N L), length-rows N L))

-- It refuses every compiled sweep too, whatever the plan.
pub compiled_sweep_refused : (N : ℕ) (L : Plan) → is_order N ≡ true → R.check (compiled_sweep N L) ≡ R.refusal 8 0
unfolding compiled_sweep
compiled_sweep_refused N L order =
    let high = (within-range N 600 order).1 in
    let square : N * N ≤ 600 * 600 = mul-le-mul {n₂ = 600} {m₂ = 600} high high in
    let records = sweep_few N L in
    let words = chained-length 1 (sweep_records N L) in
    sweep_refused (compiled_sweep N L) (omega arith) (omega arith) (omega arith) refl

-- ---- what a program that release 1 accepts may count on

-- a run that went along its records: it ends with a solution, or in 16 or 17
pub data Ends : R.Outcome → Type 0 where
  solved : (t : R.Tables) (products quotients : ℕ) → Ends (R.solution t products quotients)
  overflowed : (index : ℕ) (t : R.Table) (k : ℕ) → Ends (R.stopped 16 index t k)
  divided : (index : ℕ) (t : R.Table) (k : ℕ) → Ends (R.stopped 17 index t k)

-- lengths and values as record 0 of W asks
pub record Fitting (W : List ℕ) (A B : List Float) (lc ly lx : ℕ) : Type 0 where
  pub length_a : length A ≡ R.word W 1
  pub length_b : length B ≡ R.word W 0
  pub length_c : lc ≡ R.word W 2
  pub length_y : ly ≡ R.word W 0
  pub length_x : lx ≡ R.word W 0
  pub finite_a : Each (λ v. R.is_finite v ≡ true) A
  pub finite_b : Each (λ v. R.is_finite v ≡ true) B

follow-ends : (A B : List Float) (z : R.State) (c : R.Chain) → Ends (R.follow A B z c)
unfolding R.follow
follow-ends A B z (R.link index k p q c) = go (R.step A B z (R.kind_of k) p q) refl (λ z'. follow-ends A B z' c)
  where
    go : (a : R.Answer R.State) → R.step A B z (R.kind_of k) p q ≡ a → ((z' : R.State) → Ends (R.follow A B z' c)) → Ends (R.follow A B z (R.link index k p q c))
    go (R.gives z') e rest = rw (R.follow, e) (rest z')
    go R.overflow e rest = rw (R.follow, e) (overflowed index z.table z.target)
    go R.zero_divisor e rest = rw (R.follow, e) (divided index z.table z.target)
follow-ends A B z R.whole = solved z.tables z.products z.quotients
follow-ends A B z (R.broken k) = solved z.tables z.products z.quotients

all_finite : (k : ℕ) (vs : List Float) → Each (λ v. R.is_finite v ≡ true) vs → R.not_finite k vs ≡ 0
unfolding R.not_finite
all_finite k [] each = refl
all_finite k (v ∷ vs) each = rw (each v (Memᴰ.head refl)) (all_finite (suc k) vs (λ u m. each u (Memᴰ.tail m)))

-- A program that release 1's check passes, with the right lengths and finite values, ends with a solution or in 16 or 17, and in nothing else.
pub accepted_means : (W : List ℕ) (A B : List Float) (lc ly lx : ℕ) → R.check W ≡ R.fine → Fitting W A B lc ly lx → Ends (R.ran W A B lc ly lx)
unfolding R.ran R.check_values R.required
accepted_means W A B lc ly lx passed f = rw (
  passed,
  eq-eqb (length A) (R.word W 1) f.length_a,
  eq-eqb (length B) (R.word W 0) f.length_b,
  eq-eqb lc (R.word W 2) f.length_c,
  eq-eqb ly (R.word W 0) f.length_y,
  eq-eqb lx (R.word W 0) f.length_x,
  all_finite 1 A f.finite_a,
  all_finite 1 B f.finite_b,
) (follow-ends A B (R.fresh (R.word W 0)) (R.chain W))
