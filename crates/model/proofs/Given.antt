-- The compact program's records are the plan's formulas, each entry of C numbered by the slot given for it.
use Prim.Native.Nat.{ℕ, zero, suc, ◌+◌, ◌-◌, ◌≤◌, max}
use native.Mathlib.Omega.{arith}
use mathlib.Core.Path.{◌≡◌, refl, sym, ap, ap₂, ◌∙◌}
use mathlib.Core.Bool.{Bool, true, false, cond}
use mathlib.Core.List.Memᴰ
use mathlib.Core.List.{List, [], ◌∷◌, ◌++◌, map, map-map}
use lib.Dec.{eqb}
use lib.ListN.{length, length-append, get_or-append}
use borrow.Author.Tests.{ne_eqb}
use Rattle.model.specs.Lists.{rising, joined, kept}
use Rattle.model.specs.Fill.{Plan, held, slot, slots}
use Rattle.model.specs.Formula.{Formula, Table, C, Y, X, number_of}
use Rattle.model.specs.Crout.{inner, lower, forward, upper, backward, batch, formulas, reduced_formulas}
use Rattle.model.specs.Program.{Record, rec, opening, records_of, compiled_records}
use Rattle.model.specs.Check.{kind_of}
use Rattle.model.specs.Compact.{renamed, after_record, renamed_record, openings, compacting, compact_records}
use Rattle.model.proofs.Lists.{Each, map-append, cons_each, rising-each, falling-each, append-each, joined-each, map_each}
use Rattle.model.proofs.Sums.{map-falling}
use Rattle.model.proofs.Slots.{slot-range}
use Rattle.model.proofs.Reuse.{taken, made_with}
use Rattle.model.proofs.Plain.{Phase, Plain, ends, opens-c, opens-y, opens-x, records-plain}
use Rattle.model.proofs.Plain.{subtracts-c, subtracts-y, subtracts-x, divides, closes-c, closes-pivot, closes-y, closes-x}
use Rattle.model.proofs.Renaming.{open_slot, standing, slot_in, given_more, giving_is}
use Rattle.model.proofs.Uses.{product_records, ending}

-- a list with one more, of the same
more : {A : Type 0} {x y : A} {xs ys : List A} → x ≡ y → xs ≡ ys → ◌≡◌ {A = List A} (x ∷ xs) (y ∷ ys)
more {A} = ap₂ {C = List A} (λ x xs. x ∷ xs)

module _ (all : List ℕ) where
  -- a record with the slots given for the plain ones, all of them being known
  abbrev renumbered : Record → Record
  renumbered r = renamed_record (standing 0 all [] 0) (kind_of r.kind) r

  -- ---- renamed records are plain ones renumbered

  -- a plain slot that was given one has that among all, given before or later
  slot_among : (given later : List ℕ) (j : ℕ) → given ++ later ≡ all → 1 ≤ j → j ≤ length given → slot_in given j ≡ slot_in all j
  slot_among given later j e low high = rw (← e, get_or-append given later 0 (j - 1) (omega arith))

  -- where the slots given before and those that the renaming will give are all
  module _ {N n s : ℕ} where
    renamed-all : {ph : Phase} {c y x : ℕ} (given free : List ℕ) (made : ℕ) {rs : List Record} → Plain N n s ph c y x rs → length given ≡ max c (open_slot ph c)
        → given ++ openings (renamed (standing (open_slot ph c) given free made) rs).records ≡ all
        → (renamed (standing (open_slot ph c) given free made) rs).records ≡ map renumbered rs
    unfolding renamed after_record kind_of kept
    renamed-all given free made ends opened e = refl
    renamed-all given free made (opens-c {c} a h last plain) opened e =
        let given' = given ++ (taken free made ∷ []) in
        let longer : length given' ≡ max c (suc c) = length-append given (taken free made ∷ []) ∙ omega (arith, opened) in
        let e' = given_more c given (taken free made) _ opened ∙ (rw (giving_is given free made, renamed) at e) in
        rw (giving_is given free made, renamed) (more (ap (rec 1 a) (slot_among given' _ (suc c) e' (omega arith) (omega (arith, longer))))
        (renamed-all given' _ (made_with free made) plain longer e'))
    renamed-all given free made (opens-y p h plain) opened e = more refl (renamed-all given _ made plain opened e)
    renamed-all given free made (opens-x p h plain) opened e = more refl (renamed-all given _ made plain opened e)
    renamed-all given free made (subtracts-c p q hp hq plain) opened e =
        more (ap₂ (rec 4) (slot_among given _ p e hp.0 (omega (arith, opened))) (slot_among given _ q e hq.0 (omega (arith, opened))))
        (renamed-all given _ made plain opened e)
    renamed-all given free made (subtracts-y p q hp hq plain) opened e =
        more (ap (λ k. rec 5 k q) (slot_among given _ p e hp.0 (omega (arith, opened)))) (renamed-all given _ made plain opened e)
    renamed-all given free made (subtracts-x p q hp hq plain) opened e =
        more (ap (λ k. rec 6 k q) (slot_among given _ p e hp.0 (omega (arith, opened)))) (renamed-all given _ made plain opened e)
    renamed-all given free made (divides p hp plain) opened e =
        more (ap (λ k. rec 7 k 0) (slot_among given _ p e hp.0 (omega (arith, opened)))) (renamed-all given _ made plain opened e)
    renamed-all given free made (closes-c plain) opened e = more refl (renamed-all given _ made plain (omega (arith, opened)) e)
    renamed-all given free made (closes-pivot plain) opened e = more refl (renamed-all given _ made plain (omega (arith, opened)) e)
    renamed-all given free made (closes-y plain) opened e = more refl (renamed-all given _ made plain opened e)
    renamed-all given free made (closes-x plain) opened e = more refl (renamed-all given _ made plain opened e)

  -- ---- the records of a formula

  -- an entry of table t: only those of C are renumbered
  abbrev entry_in : Table → ℕ → ℕ
  entry_in C k = slot_in all k
  entry_in Y k = k
  entry_in X k = k

  -- a product and a formula with those entries
  abbrev product_in : Table → ℕ × ℕ → ℕ × ℕ
  product_in t pq = (slot_in all pq.0, entry_in t pq.1)

  abbrev formula_in : Formula → Formula
  formula_in f = record {
    table = f.table;
    target = entry_in f.table f.target;
    start = f.start;
    products = map (product_in f.table) f.products;
    divisor = slot_in all f.divisor;
    pivot = f.pivot;
  }

  -- renumbered, a formula's records are those of the formula so made
  opening-renumbered : (t : Table) (a k : ℕ) → renumbered (opening t a k) ≡ opening t a (entry_in t k)
  unfolding kind_of opening
  opening-renumbered C a k = refl
  opening-renumbered Y a k = refl
  opening-renumbered X a k = refl

  product-renumbered : (t : Table) (p q : ℕ) → renumbered (rec (3 + number_of t) p q) ≡ rec (3 + number_of t) (slot_in all p) (entry_in t q)
  unfolding kind_of
  product-renumbered C p q = refl
  product-renumbered Y p q = refl
  product-renumbered X p q = refl

  products-renumbered : (t : Table) (ps : List (ℕ × ℕ)) → map renumbered (product_records t ps) ≡ product_records t (map (product_in t) ps)
  products-renumbered t [] = refl
  products-renumbered t (pq ∷ ps) = more (product-renumbered t pq.0 pq.1) (products-renumbered t ps)

  -- with divisor d, the division is there after as it was before
  abbrev Divides : ℕ → Type 0
  Divides d = eqb (slot_in all d) 0 ≡ eqb d 0

  ending_renumbered : (d : ℕ) (b : Bool) → Divides d → map renumbered (ending d b) ≡ ending (slot_in all d) b
  unfolding kind_of
  ending_renumbered d b e = rw e (step (eqb d 0) b)
    where
      step : (none b : Bool) → map renumbered (cond none [] (rec 7 d 0 ∷ []) ++ (rec (cond b 9 8) 0 0 ∷ []))
          ≡ cond none [] (rec 7 (slot_in all d) 0 ∷ []) ++ (rec (cond b 9 8) 0 0 ∷ [])
      step true true = refl
      step true false = refl
      step false true = refl
      step false false = refl

  formula_renumbered : (f : Formula) → Divides f.divisor → map renumbered (records_of f) ≡ records_of (formula_in f)
  unfolding records_of
  formula_renumbered f e =
      more (opening-renumbered f.table f.start f.target)
      (map-append renumbered (product_records f.table f.products) (ending f.divisor f.pivot)
      ∙ ap₂ ◌++◌ (products-renumbered f.table f.products) (ending_renumbered f.divisor f.pivot e))

  formulas-renumbered : (fs : List Formula) → Each (λ f. Divides f.divisor) fs
      → map renumbered (joined (map records_of fs)) ≡ joined (map records_of (map formula_in fs))
  unfolding joined
  formulas-renumbered [] each = refl
  formulas-renumbered (f ∷ fs) each =
      map-append renumbered (records_of f) (joined (map records_of fs))
      ∙ ap₂ ◌++◌ (formula_renumbered f (each f (Memᴰ.head refl))) (formulas-renumbered fs (λ g m. each g (Memᴰ.tail m)))

  -- ---- the formulas of a plan, with another numbering of C

  module _ (N : ℕ) (L : Plan) (number : ℕ → ℕ → ℕ) (keep : ℕ → ℕ → Bool) where
    abbrev number_in : ℕ → ℕ → ℕ
    number_in i j = slot_in all (number i j)

    lower_in : (i m : ℕ) → formula_in (lower N L number keep i m) ≡ lower N L number_in keep i m
    unfolding lower inner
    lower_in i m = rw map-map

    forward_in : (m : ℕ) → formula_in (forward N L number keep m) ≡ forward N L number_in keep m
    unfolding forward
    forward_in m = rw map-map

    upper_in : (m j : ℕ) → formula_in (upper N L number keep m j) ≡ upper N L number_in keep m j
    unfolding upper inner
    upper_in m j = rw map-map

    backward_in : (i : ℕ) → formula_in (backward N L number keep i) ≡ backward N L number_in keep i
    unfolding backward
    backward_in i = rw map-map

    batch_in : (m : ℕ) → map formula_in (batch N L number keep m) ≡ batch N L number_in keep m
    unfolding batch
    batch_in m = simp (map-append, map-map, lower_in, forward_in, upper_in)

    batches_in : (m n : ℕ) → map formula_in (joined (rising (batch N L number keep) m n)) ≡ joined (rising (batch N L number_in keep) m n)
    unfolding joined rising
    batches_in m zero = refl
    batches_in m (suc n) = map-append formula_in (batch N L number keep m) _ ∙ ap₂ ◌++◌ (batch_in m) (batches_in (suc m) n)

    formulas_in : map formula_in (formulas N L number keep) ≡ formulas N L number_in keep
    unfolding formulas
    formulas_in = simp (map-append, batches_in, map-falling, backward_in)

    -- a division is by a pivot
    batch-divides : (m : ℕ) → Divides (number m m) → Each (λ f. Divides f.divisor) (batch N L number keep m)
    unfolding batch lower forward upper
    batch-divides m pivot =
        let column = kept (λ i. keep i m) (rising (λ i. i) m (suc N - m)) in
        let row = kept (keep m) (rising (λ j. j) (suc m) (N - m)) in
        append-each _ _ _ (map_each _ (λ i. lower N L number keep i m) column λ i member. refl)
        (cons_each _ {x = forward N L number keep m} pivot (map_each _ (upper N L number keep m) row λ j member. pivot))

    formulas_divide : ((m : ℕ) → 1 ≤ m → m ≤ N → Divides (number m m)) → Each (λ f. Divides f.divisor) (formulas N L number keep)
    unfolding formulas backward
    formulas_divide pivots =
        append-each _ _ _ (joined-each _ _ (rising-each _ _ 1 N λ m low high. batch-divides m (pivots m low (omega arith))))
        (falling-each _ (backward N L number keep) N N λ i high low. refl)

-- ---- the compact program

module _ (N : ℕ) (L : Plan) (pivots : (m : ℕ) → 1 ≤ m → m ≤ N → held N L m m ≡ true)
    (positive : (k : ℕ) → 1 ≤ k → k ≤ slots N L → 1 ≤ slot_in (openings (compact_records N L)) k) where
  -- a pivot is held, so it has a plain slot, and is given one
  pivot-divides : (m : ℕ) → 1 ≤ m → m ≤ N → Divides (openings (compact_records N L)) (slot N L m m)
  pivot-divides m low high =
      let range = slot-range N L m m (omega arith) (pivots m low high) in
      let given = positive (slot N L m m) range.0 range.1 in
      ne_eqb (slot_in (openings (compact_records N L)) (slot N L m m)) 0 (omega arith) ∙ sym (ne_eqb (slot N L m m) 0 (omega arith))

  -- The headline.
  pub records-given : compact_records N L
      ≡ joined (map records_of (formulas N L (λ i j. slot_in (openings (compact_records N L)) (slot N L i j)) (held N L)))
  unfolding compact_records compacting compiled_records reduced_formulas
  records-given =
      let all = openings (compact_records N L) in
      renamed-all all [] [] 0 (records-plain N L pivots) refl refl
      ∙ formulas-renumbered all (formulas N L (slot N L) (held N L)) (formulas_divide all N L (slot N L) (held N L) pivot-divides)
      ∙ ap (λ fs. joined (map records_of fs)) (formulas_in all N L (slot N L) (held N L))
