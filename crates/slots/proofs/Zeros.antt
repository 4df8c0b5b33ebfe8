-- Numbers that are 0.
use Rattle.std.proofs.Common.{ℕ, zero, suc, ◌+◌, ◌-◌, ◌≤◌, ◌<◌, ◌≡◌, refl, sym, ◌∙◌, arith, List, [], ◌∷◌, length, get_or, take, drop, true, max, fold, eqb}
use native.Mathlib.Decide.{dec_le}
use borrow.Author.Tests.{eqb-true}
use Rattle.std.proofs.lemmas.List.{get_or-drop, get_or-take, length-drop, length-take}
use Rattle.slots.specs.Zeros.{Zeros, FirstZeros, largest}

-- if the largest is 0, they all are
none_larger : (most : ℕ) (numbers : List ℕ) → fold (λ most number. max most number) most numbers ≡ 0
    → (most ≡ 0) × ((k : ℕ) → get_or numbers k 0 ≡ 0)
none_larger most [] e = (e, λ k. refl)
none_larger most (number ∷ rest) e =
    let r = none_larger (max most number) rest e in
    (omega (arith, r.0), first r.0 r.1)
  where
    first : max most number ≡ 0 → ((k : ℕ) → get_or rest k 0 ≡ 0) → (k : ℕ) → get_or (number ∷ rest) k 0 ≡ 0
    first none below zero = omega arith
    first none below (suc k) = below k

-- the zeros of a part that begins after k zeros follow them
pub zeros_more : (line : List ℕ) (k size r : ℕ) → FirstZeros line k → FirstZeros (take size (drop k line)) r → FirstZeros line (k + r)
zeros_more line k size r zeros more = (
  omega (arith, zeros.0, more.0, length-take size (drop k line), length-drop k line),
  λ j before. elim (dec_le k j) [
    | yes n ↦
        let same : k + (j - k) ≡ j = omega arith in
        let in-part : j - k < size = omega (arith, more.0, length-take size (drop k line)) in
        rw same at (sym (get_or-take size (drop k line) (j - k) 0 in-part ∙ get_or-drop k line (j - k) 0) ∙ more.1 (j - k) (omega arith))
    | no n ↦ zeros.1 j (omega arith)
  ],
)

-- a block whose largest is 0 has as many as it is long
pub block_more : (line : List ℕ) (k size : ℕ) → k + 16 ≤ length line → size ≡ 16 → FirstZeros line k → eqb (largest (take size (drop k line))) 0 ≡ true
    → FirstZeros line (k + 16)
block_more line k size within e zeros none =
    let whole : 16 ≤ length (take size (drop k line)) = omega (arith, length-take size (drop k line), length-drop k line) in
    zeros_more line k size 16 zeros (whole, λ j below. (none_larger 0 (take size (drop k line)) (eqb-true _ 0 none)).1 j)

-- the zeros of a line are its work numbers
pub zeros_of : (work : List ℕ) (from most size r : ℕ) → size ≡ most → FirstZeros (take size (drop from work)) r → Zeros work from most r
zeros_of work from most size r e zeros =
    let short : r ≤ size = omega (arith, zeros.0, length-take size (drop from work)) in
    (omega arith, λ j before. sym (get_or-take size (drop from work) j 0 (omega arith) ∙ get_or-drop from work j 0) ∙ zeros.1 j before)
