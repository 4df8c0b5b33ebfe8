-- Many right sides: a side's state after the records seen so far, and how many chained records the call has read when its last side is refused or gets
-- through. Document 02, A.6.
use Prim.Native.Nat.{ℕ, zero, suc, ◌/◌, ◌≤◌, ◌<◌}
use native.Mathlib.Omega.{arith}
use mathlib.Core.Path.{◌≡◌, refl, sym, ap, subst, ◌∙◌}
use mathlib.Core.Bool.{Bool, true, false, ◌&&◌}
use mathlib.Core.List.Memᴰ
use mathlib.Core.List.{List, [], ◌∷◌, ◌++◌, map, append-nil}
use borrow.Author.Tests.{le-leb, lt-leb, ltb-true}
use lib.Dec.{leb, ltb, eqb}
use lib.ListN.{length, length-append}
use lib.Seq.{append_snoc}
use lib.Ieee.{Float}
use Rattle.model.specs.Lists.{rising, kept}
use Rattle.model.specs.Formula.{Table}
use Rattle.model.specs.Check.{Link, word, record_at, next_of, Chain, before, whole, broken, chain_after, chain, kind_of}
use Rattle.model.specs.Run.{State, Stepped, going, stop, step, Followed, through, halted, follow, followed, fresh, Outcome}
use Rattle.model.specs.Many.{part, parts, read_by, read}
use Rattle.model.proofs.Lists.{Each, kept_append, rising-each, rising_member}
use Rattle.model.proofs.Search.{kept-none, kept-at_most}
use Rattle.model.proofs.Parts.{map-parts}
use Rattle.model.proofs.Following.{chain_from, chain-from, chain-ends, chain_goes}
use Rattle.model.proofs.Many.{read_by_at_most, read-at_least}
use Rattle.model.proofs.Sides.{along_chain}

-- ---- a side record by record

-- where a step at a record leads
abbrev pub stepped : Link → State → Stepped → Followed
stepped l z (going z') = through z'
stepped l z (stop r) = halted r l.index z.table z.target

-- a side after one record more: it goes on, is refused there, or was refused before
abbrev pub advance : List Float → List Float → Float → Link → Followed → Followed
advance A b limit l (through z) = stepped l z (step A b limit z (kind_of l.at.kind) l.at.p l.at.q)
advance A b limit l (halted r i t k) = halted r i t k

-- and after these records
unfoldable pub advanced : List Float → List Float → Float → Followed → List Link → Followed
advanced A b limit f [] = f
advanced A b limit f (l ∷ ls) = advanced A b limit (advance A b limit l f) ls

module _ (A b : List Float) (limit : Float) where
  -- a side that was refused stays so
  pub advanced_halted : (r i : ℕ) (t : Table) (k : ℕ) (ls : List Link) → advanced A b limit (halted r i t k) ls ≡ halted r i t k
  unfolding advanced
  advanced_halted r i t k [] = refl
  advanced_halted r i t k (l ∷ ls) = advanced_halted r i t k ls

  -- records one after another
  pub advanced_append : (f : Followed) (ls ms : List Link) → advanced A b limit f (ls ++ ms) ≡ advanced A b limit (advanced A b limit f ls) ms
  unfolding advanced
  advanced_append f [] ms = refl
  advanced_append f (l ∷ ls) ms = advanced_append (advance A b limit l f) ls ms

  -- one more: a side goes on or is refused there, as the step says, or was refused before
  pub advanced_next : (f : Followed) (ls : List Link) (l : Link) → advanced A b limit f (ls ++ (l ∷ [])) ≡ advance A b limit l (advanced A b limit f ls)
  unfolding advanced
  advanced_next f ls l = advanced_append f ls (l ∷ [])

  -- along a whole list it is the run
  pub follow_advanced : (z : State) (ls : List Link) → follow A b limit z ls ≡ advanced A b limit (through z) ls
  unfolding follow advanced
  follow_advanced z [] = refl
  follow_advanced z (l ∷ ls) = go (step A b limit z (kind_of l.at.kind) l.at.p l.at.q) (λ z'. follow_advanced z' ls)
    where
      go : (s : Stepped) → ((z' : State) → follow A b limit z' ls ≡ advanced A b limit (through z') ls)
          → elim s as (λ s. Followed) [ going z' ↦ follow A b limit z' ls | stop r ↦ halted r l.index z.table z.target ]
          ≡ advanced A b limit (stepped l z s) ls
      go (going z') rest = rest z'
      go (stop r) rest = sym (advanced_halted r l.index z.table z.target ls)

-- ---- where a side was refused

-- it was, somewhere
abbrev pub Halted : Followed → Type 0
Halted (through z) = ⊥
Halted (halted r i t k) = Unit {0}

-- P holds of the record that refused
abbrev HaltedAt : (ℕ → Type 0) → Followed → Type 0
HaltedAt P (through z) = Unit {0}
HaltedAt P (halted r i t k) = P i

advance_at : (A b : List Float) (limit : Float) (P : ℕ → Type 0) (l : Link) (f : Followed) → P l.index → HaltedAt P f → HaltedAt P (advance A b limit l f)
advance_at A b limit P l (halted r i t k) here at = at
advance_at A b limit P l (through z) here at = go (step A b limit z (kind_of l.at.kind) l.at.p l.at.q)
  where
    go : (s : Stepped) → HaltedAt P (stepped l z s)
    go (going z') = tt
    go (stop r) = here

-- it is one of those seen
advanced_at : (A b : List Float) (limit : Float) (P : ℕ → Type 0) (f : Followed) (ls : List Link) → Each (λ l. P l.index) ls → HaltedAt P f
    → HaltedAt P (advanced A b limit f ls)
unfolding advanced
advanced_at A b limit P f [] each at = at
advanced_at A b limit P f (l ∷ ls) each at =
    advanced_at A b limit P (advance A b limit l f) ls (λ m n. each m (Memᴰ.tail n)) (advance_at A b limit P l f (each l (Memᴰ.head refl)) at)

-- ---- the records of a chain, by their indices

-- the indices rise, from above k
abbrev pub Rising : ℕ → List Link → Type 0
Rising k [] = Unit {0}
Rising k (l ∷ ls) = (k < l.index) × Rising l.index ls

-- a chain only goes on to a higher index
chain-after-rising : (d : ℕ) (W : List ℕ) (k : ℕ) → Rising k (chain_after d W k).links
unfolding chain_after
chain-after-rising zero W k = tt
chain-after-rising (suc d) W k = go (eqb (next_of W k) 0) (ltb k (next_of W k)) (ltb (next_of W k) (length W / 4)) refl (chain-after-rising d W (next_of W k))
  where
    go : (none above below : Bool) → ltb k (next_of W k) ≡ above → Rising (next_of W k) (chain_after d W (next_of W k)).links
        → Rising k (elim none as (λ b. Chain) [
          | true ↦ record { links = []; end = whole }
          | false ↦ elim (above && below) as (λ b. Chain) [
            | true ↦ before (record { index = next_of W k; at = record_at W (next_of W k) }) (chain_after d W (next_of W k))
            | false ↦ record { links = []; end = broken k }
          ]
        ]).links
    go true above below e rest = tt
    go false false below e rest = tt
    go false true false e rest = tt
    go false true true e rest = (ltb-true k (next_of W k) e, rest)

pub chain-rising : (W : List ℕ) → Rising 0 (chain W).links
unfolding chain
chain-rising W = chain-after-rising (length W / 4) W 0

-- each is above k, and above each before it
rising-above : (k : ℕ) (ls : List Link) → Rising k ls → Each (λ l. k < l.index) ls
rising-above k [] up l m = absurd (Memᴰ.not-nil m)
rising-above k (l ∷ ls) up m (Memᴰ.head e) = rw e up.0
rising-above k (l ∷ ls) up m (Memᴰ.tail n) = let above = rising-above l.index ls up.1 m n in omega (arith, up.0)

rising-later : (k : ℕ) (seen rest : List Link) → Rising k (seen ++ rest) → Each (λ l. Each (λ m. l.index < m.index) rest) seen
rising-later k [] rest up l m = absurd (Memᴰ.not-nil m)
rising-later k (s ∷ seen) rest up l (Memᴰ.head e) = λ m n. rw e (rising-above s.index (seen ++ rest) up.1 m (Memᴰ.append_right seen n))
rising-later k (s ∷ seen) rest up l (Memᴰ.tail n) = rising-later s.index seen rest up.1 l n

-- up to a record that is among those seen there are at most those
up_to_seen : (k : ℕ) (seen rest : List Link) → Rising k (seen ++ rest)
    → Each (λ l. length (kept (λ m. leb m.index l.index) (seen ++ rest)) ≤ length seen) seen
up_to_seen k seen rest up l m =
    let none = kept-none (λ n. leb n.index l.index) rest (λ n i. lt-leb n.index l.index (rising-later k seen rest up l m n i)) in
    rw (kept_append, none, length-append) (omega (arith, kept-at_most (λ n. leb n.index l.index) seen))

-- and up to the one after them there is one more
up_to_next : (k : ℕ) (seen : List Link) (l : Link) (rest : List Link) → Rising k (seen ++ l ∷ rest)
    → length (kept (λ m. leb m.index l.index) (seen ++ l ∷ rest)) ≡ suc (length seen)
unfolding kept
up_to_next k [] l rest up =
    let none = kept-none (λ m. leb m.index l.index) rest (λ m i. lt-leb m.index l.index (rising-above l.index rest up.1 m i)) in
    rw (le-leb l.index l.index (omega arith), none)
up_to_next k (s ∷ seen) l rest up =
    let above = rising-above s.index (seen ++ l ∷ rest) up.1 l (Memᴰ.append_right seen (Memᴰ.head refl)) in
    rw (le-leb s.index l.index (omega arith)) (ap suc (up_to_next s.index seen l rest up.1))

-- ---- the records that a side reads

module _ (A b : List Float) (limit : Float) (z : State) (k : ℕ) (seen : List Link) where
  -- at most those seen, once it is refused
  pub read_by_seen : (rest : List Link) → Rising k (seen ++ rest) → Halted (advanced A b limit (through z) seen)
      → read_by (seen ++ rest) (followed (follow A b limit z (seen ++ rest))) ≤ length seen
  unfolding read_by followed
  read_by_seen rest up refused =
      rw (follow_advanced, advanced_append)
      (go (advanced A b limit (through z) seen) refused (advanced_at A b limit UpTo (through z) seen (up_to_seen k seen rest up) tt))
    where
      UpTo : ℕ → Type 0
      UpTo i = length (kept (λ m. leb m.index i) (seen ++ rest)) ≤ length seen

      go : (f : Followed) → Halted f → HaltedAt UpTo f → read_by (seen ++ rest) (followed (advanced A b limit f rest)) ≤ length seen
      go (halted r i t n) refused at = rw advanced_halted at
      go (through _) refused at = elim refused [ ]

  -- and one more, if it got through those seen and is refused at the next
  pub read_by_next : (l : Link) (rest : List Link) → Rising k (seen ++ l ∷ rest) → (w : State) → advanced A b limit (through z) seen ≡ through w
      → Halted (advanced A b limit (through z) (seen ++ (l ∷ [])))
      → read_by (seen ++ l ∷ rest) (followed (follow A b limit z (seen ++ l ∷ rest))) ≡ suc (length seen)
  unfolding read_by followed advanced
  read_by_next l rest up w e refused =
      rw (follow_advanced, advanced_append, e) (go (step A b limit w (kind_of l.at.kind) l.at.p l.at.q) (rw (advanced_next, e) at refused))
    where
      go : (s : Stepped) → Halted (stepped l w s) → read_by (seen ++ l ∷ rest) (followed (advanced A b limit (stepped l w s) rest)) ≡ suc (length seen)
      go (stop r) refused = rw advanced_halted (up_to_next k seen l rest up)
      go (going _) refused = elim refused [ ]

-- ---- the records that the call reads

-- the record at an index, as a link of the chain
abbrev pub link_at : List ℕ → ℕ → Link
link_at W n = record { index = n; at = record_at W n }

-- these are the records of the chain up to record k, or none if k is 0
pub record Seen (W : List ℕ) (seen : List Link) (k : ℕ) : Type 0 where
  pub links : (chain W).links ≡ seen ++ (chain_from W k).links
  pub few : length seen ≤ k

-- at the start
pub seen_none : (W : List ℕ) → Seen W [] 0
seen_none W = record { links = ap (λ c. c.links) (chain-from W); few = omega arith }

module _ {W : List ℕ} {seen : List Link} {k : ℕ} (s : Seen W seen k) where
  -- one more, and the last
  pub seen_next : k < next_of W k → next_of W k < length W / 4 → Seen W (seen ++ (link_at W (next_of W k) ∷ [])) (next_of W k)
  seen_next up low = record {
    links = s.links ∙ ap (λ c. seen ++ c.links) (chain_goes W k up low) ∙ sym (append_snoc seen (link_at W (next_of W k)) (chain_from W (next_of W k)).links);
    few = rw length-append (omega (arith, s.few));
  }

  pub seen_all : next_of W k ≡ 0 → (chain W).links ≡ seen
  seen_all e = s.links ∙ ap (λ c. seen ++ c.links) (chain-ends W k e) ∙ append-nil seen

  module _ (A b : List Float) (limit : Float) (z : State) where
    -- a run goes on from where it is after them
    seen-leads : follow A b limit z (chain W).links ≡ advanced A b limit (advanced A b limit (through z) seen) (chain_from W k).links
    seen-leads = follow_advanced A b limit z (chain W).links ∙ ap (advanced A b limit (through z)) s.links
        ∙ advanced_append A b limit (through z) seen (chain_from W k).links

    pub seen-halted : (r i : ℕ) (t : Table) (n : ℕ) → advanced A b limit (through z) seen ≡ halted r i t n
        → follow A b limit z (chain W).links ≡ halted r i t n
    seen-halted r i t n e = seen-leads ∙ ap (λ f. advanced A b limit f (chain_from W k).links) e
        ∙ advanced_halted A b limit r i t n (chain_from W k).links

-- the count is the most that any side reads
read_most : (ls : List Link) (os : List Outcome) (n : ℕ) → Each (λ o. read_by ls o ≤ n) os → read ls os ≤ n
unfolding read
read_most ls [] n each = omega arith
read_most ls (o ∷ os) n each = omega (arith, each o (Memᴰ.head refl), read_most ls os n (λ p m. each p (Memᴰ.tail m)))

read_exactly : (ls : List Link) (f : ℕ → Outcome) (count n : ℕ) → ((r : ℕ) → r < count → read_by ls (f r) ≤ n) → (r : ℕ) → r < count → read_by ls (f r) ≡ n
    → read ls (rising f 0 count) ≡ n
read_exactly ls f count n each r h is =
    omega (
      arith,
      read_most ls (rising f 0 count) n (rising-each _ f 0 count (λ j low high. each j (omega arith))),
      read-at_least ls (rising_member f 0 count r (omega arith) (omega arith)),
    )

module _ (W : List ℕ) (A B : List Float) (limit : Float) where
  -- right side r, and its run after these records
  abbrev side : ℕ → List Float
  side r = part (word W 0) B r

  abbrev pub side_after : List Link → ℕ → Followed
  side_after seen r = advanced A (side r) limit (through (fresh (word W 0))) seen

  -- how it ends, were these records all
  abbrev side_ends : List Link → ℕ → Outcome
  side_ends ls r = followed (follow A (side r) limit (fresh (word W 0)) ls)

  -- the records read once every side is refused, if some side was not before the last record
  pub read-stopped : (count : ℕ) {seen : List Link} {k : ℕ} → Seen W seen k → k < next_of W k → next_of W k < length W / 4
      → ((r : ℕ) → r < count → Halted (side_after (seen ++ (link_at W (next_of W k) ∷ [])) r)) → (r : ℕ) → r < count → (w : State) → side_after seen r ≡ through w
      → read (chain W).links (map (along_chain W A limit) (parts (word W 0) count B)) ≡ suc (length seen)
  read-stopped count {seen} {k} s up low all r h w e =
      rw map-parts
      (read_exactly (chain W).links (side_ends (chain W).links) count (suc (length seen))
      (λ j high. omega (arith, most j high, length-append seen (l ∷ []))) r h
      (subst (λ ls. Rising 0 ls → read_by ls (side_ends ls r) ≡ suc (length seen)) (sym ((seen_next s up low).links ∙ append_snoc seen l rest))
      (λ rises. read_by_next A (side r) limit _ 0 seen l rest rises w e (all r h)) (chain-rising W)))
    where
      l : Link
      l = link_at W (next_of W k)

      rest : List Link
      rest = (chain_from W (next_of W k)).links

      most : (j : ℕ) → j < count → read_by (chain W).links (side_ends (chain W).links j) ≤ length (seen ++ (l ∷ []))
      most j high =
          subst (λ ls. Rising 0 ls → read_by ls (side_ends ls j) ≤ length (seen ++ (l ∷ []))) (sym (seen_next s up low).links)
          (λ rises. read_by_seen A (side j) limit _ 0 (seen ++ (l ∷ [])) rest rises (all j high)) (chain-rising W)

  -- and at the end of the chain, if some side got through
  pub read_through : (count : ℕ) {seen : List Link} {k : ℕ} → Seen W seen k → next_of W k ≡ 0 → (r : ℕ) → r < count → (w : State)
      → side_after seen r ≡ through w → read (chain W).links (map (along_chain W A limit) (parts (word W 0) count B)) ≡ length seen
  unfolding read_by followed
  read_through count {seen} s last r h w e =
      rw (map-parts, seen_all s last)
      (read_exactly seen (side_ends seen) count (length seen) (λ j low. read_by_at_most seen (side_ends seen j)) r h (rw (follow_advanced, e)))
