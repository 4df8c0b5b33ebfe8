-- A formula's records in a row of words: they stand there as written, and a row of 2412 words has room for the longest.
use Prim.Native.Nat.{ℕ, suc, ◌+◌, ◌-◌, ◌*◌, ◌≤◌, min}
use native.Mathlib.Omega.{arith}
use mathlib.Core.Path.{◌≡◌, refl, sym, ap, ap₂, ◌∙◌}
use mathlib.Core.Bool.{Bool, true, false, cond, ◌&&◌}
use mathlib.Core.List.{List, [], ◌∷◌, ◌++◌, map}
use lib.Dec.{ltb}
use lib.ListN.{length, get_or, drop, length-map}
use lib.Seq.{get_or-drop, drop-drop}
use Rattle.model.specs.Lists.{rising, falling, kept}
use Rattle.model.specs.Label.{label}
use Rattle.model.specs.Fill.{Plan, position}
use Rattle.model.specs.Formula.{Formula}
use Rattle.model.specs.Crout.{inner, forward, backward}
use Rattle.model.specs.Program.{Record, records_of}
use Rattle.model.specs.Check.{word, record_at}
use Rattle.model.proofs.Lists.{length-rising, length-falling}
use Rattle.model.proofs.Sums.{at_most_one}
use Rattle.model.proofs.Counts.{record-count}
use Rattle.model.proofs.Labels.{Inside}
use Rattle.model.proofs.Search.{kept-at_most}
use Rattle.writer.specs.Written.{linked, pasted, Room, Wrote}
use Rattle.writer.specs.Worked.{Covers, number_at, kept_at, formula_at}
use Rattle.writer.specs.Line.{Ready, place_at, y_at, x_at}
use Rattle.writer.proofs.Written.{wrote_length}
use Rattle.std.specs.Prelude.{Result}
use Rattle.refusal.specs.declared.Refusal.{Refusal}
use Rattle.copies.specs.Beside.{Leads}
use Rattle.copies.specs.Compared.{first_records}
use Rattle.copies.specs.declared.Compared.{Compared}

-- ---- records written

-- the words from record k on are those of rs, and more
record Stand (words : List ℕ) (k : ℕ) (rs : List Record) : Type 0 where
  more : List ℕ
  are : drop (4 * k) words ≡ linked k rs ++ more

module _ (words : List ℕ) (k : ℕ) (r : Record) (rs : List Record) (there : Stand words k (r ∷ rs)) where
  word_stands : (i : ℕ) → word words (4 * k + i) ≡ get_or (linked k (r ∷ rs) ++ there.more) i 0
  word_stands i = sym (get_or-drop (4 * k) words i 0) ∙ ap (λ ws. get_or ws i 0) there.are

  record_stands : record_at words k ≡ r
  unfolding linked
  record_stands =
      let n : 4 * k + 0 ≡ 4 * k = omega arith in
      λ i. record { kind = (rw n at (word_stands 0)) i; p = word_stands 1 i; q = word_stands 2 i }

  others_stand : Stand words (suc k) rs
  unfolding linked
  others_stand =
      let n : 4 * suc k ≡ 4 * k + 4 = omega arith in
      record { more = there.more; are = rw (n, ← drop-drop 4 (4 * k) words) (ap (drop 4) there.are) }

records_stand : (words : List ℕ) (k : ℕ) (rs : List Record) → Stand words k rs → rising (record_at words) k (length rs) ≡ rs
unfolding rising
records_stand words k [] there = refl
records_stand words k (r ∷ rs) there =
    ap₂ {C = List Record} (λ s ss. s ∷ ss) (record_stands words k r rs there) (records_stand words (suc k) rs (others_stand words k r rs there))

-- The headline: what a formula's writer leaves are its records.
formula_records : (rs : List Record) (before after : List ℕ) (next : ℕ) → Wrote 0 0 rs before after next → first_records after next ≡ rs
unfolding pasted
formula_records rs before after next wrote =
    ap (rising (record_at after) 0) (wrote.next-is ∙ omega arith)
    ∙ records_stand after 0 rs (record { more = drop (0 + length (linked 0 rs)) before; are = wrote.words })

-- so comparing the row's first records is comparing these, and they fit
module _ {rs : List Record} {before after : List ℕ} {next : ℕ} (wrote : Wrote 0 0 rs before after next) where
  pub formula_leads : (W : List ℕ) (z : Compared) (then : Result Compared Refusal) → Leads W (first_records after next) z then → Leads W rs z then
  formula_leads W z then leads = rw (formula_records rs before after next wrote) at leads

  pub formula_fits : Room 0 0 rs before → length before ≡ 2412 → (4 * next ≤ length after) × (next ≤ 603)
  formula_fits room long = omega (arith, wrote_length room wrote)

-- ---- how many

-- one record for each product, and at most three more
records-few : (f : Formula) → length (records_of f) ≤ length f.products + 3
records-few f = omega (arith, record-count f, at_most_one (ltb 0 f.divisor))

-- of the numbers of a row at most all are kept
rising-few : (pair : ℕ → ℕ × ℕ) (t : ℕ → Bool) (a n : ℕ) → length (map pair (kept t (rising (λ h. h) a n))) ≤ n
rising-few pair t a n = rw length-map (omega (arith, kept-at_most t (rising (λ h. h) a n), length-rising (λ h. h) a n))

falling-few : (pair : ℕ → ℕ × ℕ) (t : ℕ → Bool) (a n : ℕ) → length (map pair (kept t (falling (λ h. h) a n))) ≤ n
falling-few pair t a n = rw length-map (omega (arith, kept-at_most t (falling (λ h. h) a n), length-falling (λ h. h) a n))

-- the records of a place, of y(m) and of x(i)
place-few : {n : ℕ} {L : Plan} {work in_rows in_columns : List ℕ} → Ready n L work in_rows in_columns → (divisor i j : ℕ) → Inside n i j
    → length (place_at n L work divisor i j) ≤ 603
unfolding place_at formula_at inner
place-few {n} {L} {work} ready divisor i j inside = step (kept_at n work i j)
  where
    f : Formula
    f = formula_at n work (number_at n work i j) (position L (label n i j)) divisor i j

    few : length (records_of f) ≤ 603
    few =
        let products = rising-few (λ h. (number_at n work i h, number_at n work h j)) (λ h. kept_at n work i h && kept_at n work h j) 1 (min i j - 1) in
        omega (arith, records-few f, products, ready.covers.high, inside)

    step : (b : Bool) → length (cond b (records_of f) []) ≤ 603
    step true = few
    step false = omega arith

module _ {n : ℕ} {work : List ℕ} (covers : Covers n work) where
  forward-few : (m : ℕ) → Inside n m m → length (y_at n work m) ≤ 603
  unfolding y_at forward
  forward-few m inside =
      let products = rising-few (λ h. (number_at n work m h, h)) (kept_at n work m) 1 (m - 1) in
      omega (arith, records-few (forward n [] (number_at n work) (kept_at n work) m), products, covers.high, inside)

  backward-few : (i : ℕ) → Inside n i i → length (x_at n work i) ≤ 603
  unfolding x_at backward
  backward-few i inside =
      let products = falling-few (λ h. (number_at n work i h, h)) (kept_at n work i) n (n - i) in
      omega (arith, records-few (backward n [] (number_at n work) (kept_at n work) i), products, covers.high, inside)

-- ---- room

few-room : {rs : List Record} {formula : List ℕ} → length rs ≤ 603 → length formula ≡ 2412 → Room 0 0 rs formula
few-room few long = record { start = omega arith; words = omega arith; index = omega arith }

pub place-room : {n : ℕ} {L : Plan} {work in_rows in_columns formula : List ℕ} → Ready n L work in_rows in_columns → (divisor i j : ℕ) → Inside n i j
    → length formula ≡ 2412 → Room 0 0 (place_at n L work divisor i j) formula
place-room ready divisor i j inside = few-room (place-few ready divisor i j inside)

module _ {n : ℕ} {work formula : List ℕ} (covers : Covers n work) where
  pub forward-room : (m : ℕ) → Inside n m m → length formula ≡ 2412 → Room 0 0 (y_at n work m) formula
  forward-room m inside = few-room (forward-few covers m inside)

  pub backward-room : (i : ℕ) → Inside n i i → length formula ≡ 2412 → Room 0 0 (x_at n work i) formula
  backward-room i inside = few-room (backward-few covers i inside)
