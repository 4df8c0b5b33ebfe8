-- The lent tables: read and closed entry by entry.
use Prim.Native.Nat.{ℕ, zero, suc, ◌+◌, ◌-◌, ◌≤◌, ◌<◌, max}
use native.Mathlib.Nat.{not-suc-le-zero, le_of_suc-le-suc}
use native.Mathlib.Omega.{arith}
use mathlib.Core.Path.{◌≡◌, refl, ap, ◌∙◌}
use mathlib.Core.List.{List, [], ◌∷◌}
use lib.ListN.{length, take, drop, set, get_or, length-drop}
use lib.Seq.{get_or-drop}
use lib.Ieee.{Float}
use Rattle.model.specs.Formula.{put}

-- the entry stored at i is put among the first n, or after them
pub take-set : (l : List Float) (n m i : ℕ) (a : Float) → i < length l → i ≤ n → m ≡ max n (suc i) → take m (set l i a) ≡ put (take n l) i a
unfolding put
take-set [] n m i a h le is = absurd (not-suc-le-zero h)
take-set (x ∷ l) n zero i a h le is = absurd (omega arith)
take-set (x ∷ l) zero (suc m) zero a h le is =
    let none : m ≡ 0 = omega arith in
    ap (λ k. a ∷ take k l) none
take-set (x ∷ l) zero (suc m) (suc i) a h le is = absurd (omega arith)
take-set (x ∷ l) (suc n) (suc m) zero a h le is =
    let as_many : m ≡ n = omega arith in
    ap (λ k. a ∷ take k l) as_many
take-set (x ∷ l) (suc n) (suc m) (suc i) a h le is = ap (λ r. x ∷ r) (take-set l n m i a (omega arith) (omega arith) (omega arith))

-- an entry put within a row is stored there
pub put-set : (l : List Float) (i : ℕ) (a : Float) → i < length l → put l i a ≡ set l i a
unfolding put
put-set [] i a h = absurd (not-suc-le-zero h)
put-set (x ∷ l) zero a h = refl
put-set (x ∷ l) (suc i) a h = ap (λ r. x ∷ r) (put-set l i a (le_of_suc-le-suc h))

-- what stands past the end does not matter within it
pub get_or-within : (l : List Float) (i : ℕ) (a b : Float) → i < length l → get_or l i a ≡ get_or l i b
get_or-within [] i a b h = absurd (not-suc-le-zero h)
get_or-within (x ∷ l) zero a b h = refl
get_or-within (x ∷ l) (suc i) a b h = get_or-within l i a b (le_of_suc-le-suc h)

-- an entry counted from the end of the tables' order on: X is read by its row, also where only its last entries are closed
pub get_or_last : (l : List Float) (n k : ℕ) (d : Float) → n ≤ length l → length l - n < k → k ≤ length l
    → get_or (drop (length l - n) l) (k - 1 - (length l - length (drop (length l - n) l))) d ≡ get_or l (k - 1) d
get_or_last l n k d hn low high =
    let from : (length l - n) + (k - 1 - (length l - length (drop (length l - n) l))) ≡ k - 1 = omega (arith, length-drop (length l - n) l) in
    get_or-drop (length l - n) l _ d ∙ ap (λ i. get_or l i d) from

-- a row of no entries
pub no_entries : (l : List Float) → length l ≡ 0 → l ≡ []
no_entries [] e = refl
no_entries (x ∷ l) e = absurd (omega arith)
