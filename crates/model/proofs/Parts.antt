-- Laws of a row's parts of N entries, laid one after another.
use Prim.Native.Nat.{ℕ, zero, suc, ◌+◌, ◌-◌, ◌*◌, ◌≤◌, ◌<◌}
use native.Mathlib.Nat.{mul-le-mul_right, zero-mul}
use native.Mathlib.Omega.{arith}
use mathlib.Core.Path.{◌≡◌, refl, sym, ap, ◌∙◌}
use mathlib.Core.Bool.{Bool, true, false}
use mathlib.Core.List.{List, ◌++◌, map}
use lib.Dec.{ltb}
use borrow.Author.Tests.{ltb-true, ltb-false}
use lib.ListN.{length, get_or, take, drop, set, length-append, length-drop, take-append-drop}
use lib.Seq.{length-take-le, take_all, get_or-take, get_or-drop, take-add, drop-drop, take-set-le, take-set-lt, drop-set-lt, drop-set-add, drop_at, take_at, drop-append-le, take-append-le}
use Rattle.model.specs.Lists.{rising, joined}
use Rattle.model.specs.Many.{part, parts}
use Rattle.model.proofs.Lists.{rising_agree, map-rising}

module _ {A : Type 0} (N : ℕ) where
  -- a part has N entries, and the i-th of part r stands at r * N + i of the whole
  pub part_length : (count : ℕ) (vs : List A) (r : ℕ) → length vs ≡ count * N → r < count → length (part N vs r) ≡ N
  part_length count vs r long h = length-take-le N (drop (r * N) vs) (omega (arith, mul-le-mul_right N h, length-drop (r * N) vs))

  pub part-entry : (vs : List A) (r i : ℕ) (d : A) → i < N → get_or (part N vs r) i d ≡ get_or vs (r * N + i) d
  part-entry vs r i d h = get_or-take N (drop (r * N) vs) i d h ∙ get_or-drop (r * N) vs i d

  -- what a function makes of each part
  pub map-parts : {B : Type 0} (f : List A → B) (count : ℕ) (vs : List A) → map f (parts N count vs) ≡ rising (λ r. f (part N vs r)) 0 count
  unfolding parts
  map-parts f count vs = map-rising f (part N vs) 0 count

  -- the parts from a on, joined, are a part of the row
  joined_from : (vs : List A) (a n : ℕ) → joined (rising (part N vs) a n) ≡ take (n * N) (drop (a * N) vs)
  unfolding joined rising
  joined_from vs a zero = rw zero-mul
  joined_from vs a (suc n) =
      let whole : suc n * N ≡ N + n * N = omega arith in
      let on : a * N + N ≡ suc a * N = omega arith in
      ap (λ l. part N vs a ++ l) (joined_from vs (suc a) n ∙ sym (ap (take (n * N)) (drop-drop N (a * N) vs ∙ ap (λ k. drop k vs) on)))
      ∙ sym (ap (λ k. take k (drop (a * N) vs)) whole ∙ take-add N (n * N) (drop (a * N) vs))

  -- the parts of a row, joined, are the row; so what is joined of lists that are its parts is the row
  pub joined-parts : (count : ℕ) (vs : List A) → length vs ≡ count * N → joined (parts N count vs) ≡ vs
  unfolding parts
  joined-parts count vs long = joined_from vs 0 count ∙ ap (λ k. take (count * N) (drop k vs)) (zero-mul N) ∙ take_all (count * N) vs (omega arith)

  pub joined_is : (f : ℕ → List A) (count : ℕ) (vs : List A) → length vs ≡ count * N → ((r : ℕ) → r < count → f r ≡ part N vs r)
      → joined (rising f 0 count) ≡ vs
  unfolding parts
  joined_is f count vs long same = ap joined (rising_agree f (part N vs) 0 0 count (λ r h. ap f (omega arith) ∙ same r h ∙ ap (part N vs) (omega arith)))
      ∙ joined-parts count vs long

  -- rows with the same parts are the same
  pub rows_same : (count : ℕ) (vs ws : List A) → length vs ≡ count * N → length ws ≡ count * N → ((r : ℕ) → r < count → part N vs r ≡ part N ws r) → vs ≡ ws
  unfolding parts
  rows_same count vs ws long long' same = sym (joined-parts count vs long) ∙ joined_is (part N vs) count ws long' same

  -- an entry set in part r is set there, and in no other part
  pub part-set : (vs : List A) (r i : ℕ) (v : A) → i < N → part N (set vs (r * N + i) v) r ≡ set (part N vs r) i v
  part-set vs r i v h = ap (take N) (drop-set-add (r * N) vs i v) ∙ take-set-lt N (drop (r * N) vs) i v h

  pub part-set-other : (vs : List A) (r j i : ℕ) (v : A) → i < N → (j ≡ r → ⊥) → part N (set vs (r * N + i) v) j ≡ part N vs j
  part-set-other vs r j i v h other = go (ltb j r) refl
    where
      go : (below : Bool) → ltb j r ≡ below → part N (set vs (r * N + i) v) j ≡ part N vs j
      go true e =
          let room = mul-le-mul_right N (ltb-true j r e) in
          let at : r * N + i ≡ j * N + (r * N + i - j * N) = omega arith in
          ap (λ k. part N (set vs k v) j) at ∙ ap (take N) (drop-set-add (j * N) vs (r * N + i - j * N) v)
          ∙ take-set-le N (drop (j * N) vs) (r * N + i - j * N) v (omega arith)
      go false e =
          let above : suc r ≤ j = omega (arith, ltb-false j r e) in
          let room = mul-le-mul_right N above in
          ap (take N) (drop-set-lt (j * N) vs (r * N + i) v (omega arith))

-- ---- a part lent and back

-- the row with part r back
abbrev pub with_part : {A : Type 0} → ℕ → ℕ → List A → List A → List A
with_part N r vs back = take (r * N) vs ++ (back ++ drop N (drop (r * N) vs))

module _ {A : Type 0} (N r : ℕ) (vs back : List A) (long : r * N + N ≤ length vs) (same : length back ≡ N) where
  back_from : drop (r * N) (with_part N r vs back) ≡ back ++ drop N (drop (r * N) vs)
  back_from = drop_at (take (r * N) vs) (back ++ drop N (drop (r * N) vs)) (r * N) (length-take-le (r * N) vs (omega arith))

  pub with_length : length (with_part N r vs back) ≡ length vs
  with_length = let front = length-take-le (r * N) vs (omega arith) in simp (length-append, length-drop) (omega arith)

  -- that part is what came back, and the others are as before
  pub with_same : part N (with_part N r vs back) r ≡ back
  with_same = ap (take N) back_from ∙ take_at back (drop N (drop (r * N) vs)) N same

  with_below : (j : ℕ) → j < r → part N (with_part N r vs back) j ≡ part N vs j
  with_below j h = front _ ∙ sym (front (drop (r * N) vs)) ∙ ap (λ l. part N l j) (take-append-drop (r * N) vs)
    where
      front : (l : List A) → part N (take (r * N) vs ++ l) j ≡ part N (take (r * N) vs) j
      front l =
          let low = mul-le-mul_right N h in
          let all = length-take-le (r * N) vs (omega arith) in
          ap (take N) (drop-append-le (j * N) (take (r * N) vs) l (omega arith))
          ∙ take-append-le N (drop (j * N) (take (r * N) vs)) l (omega (arith, length-drop (j * N) (take (r * N) vs)))

  with_above : (j : ℕ) → r < j → part N (with_part N r vs back) j ≡ part N vs j
  with_above j h =
      ap (take N) (past (with_part N r vs back) ∙ ap (drop more) (ap (drop N) back_from ∙ drop_at back (drop N (drop (r * N) vs)) N same) ∙ sym (past vs))
    where
      more : ℕ
      more = j * N - (r * N + N)

      past : (l : List A) → drop (j * N) l ≡ drop more (drop N (drop (r * N) l))
      past l =
          let whole : r * N + (N + more) ≡ j * N = omega (arith, mul-le-mul_right N h) in
          sym (drop-drop more N (drop (r * N) l) ∙ drop-drop (N + more) (r * N) l ∙ ap (λ i. drop i l) whole)

  pub with_others : (j : ℕ) → (j ≡ r → ⊥) → part N (with_part N r vs back) j ≡ part N vs j
  with_others j other = go (ltb j r) refl
    where
      go : (below : Bool) → ltb j r ≡ below → part N (with_part N r vs back) j ≡ part N vs j
      go true e = with_below j (ltb-true j r e)
      go false e = with_above j (omega (arith, ltb-false j r e))
