-- All sets of labels, by the binary digits of 0, 1, 2, ..: document 02, A.13.
use Prim.Native.Nat.{ℕ, zero, suc, ◌+◌, ◌-◌, ◌*◌, ◌/◌, ◌%◌, ◌^◌, ◌≤◌, ◌<◌}
use native.Mathlib.Nat.{zero-add, add-mul-div_left, add-mul-mod_self_left, div-eq_of_lt, mod-lt, pow-succ'}
use native.Mathlib.Omega.{arith}
use mathlib.Core.Path.{◌≡◌, refl, sym, ap, ap₂, ◌∙◌}
use mathlib.Core.Bool.{Bool, cond}
use mathlib.Core.List.{List, [], ◌∷◌, ◌++◌, map, append-nil}
use lib.Dec.{ltb, eqb}
use lib.ListN.{length, get_or}
use lib.Pow.{pow_pos, pow-add}
use Rattle.model.specs.Lists.{rising, kept}
use Rattle.model.specs.Fill.{Plan, position}
use Rattle.model.specs.Path.{named}
use Rattle.model.specs.Census.{sets}
use Rattle.model.proofs.Lists.{length-rising, get_or-rising, rising_agree, rising_add, map-rising, kept_append}
use Rattle.model.proofs.Named.{row, position-named, kept_names}

-- ---- numbers as sets

-- the digit of b that is worth 2^k
abbrev pub digit : ℕ → ℕ → ℕ
digit b k = b / 2 ^ k % 2

-- the labels 1..c of the set with number b: label j is in it where the digit worth 2^(j-1) is 1
unfoldable pub marked : ℕ → ℕ → Plan
marked zero b = []
marked (suc c) b = marked c b ++ cond (eqb (digit b c) 1) (suc c ∷ []) []

abbrev has : ℕ → ℕ → Bool
has b j = eqb (digit b (j - 1)) 1

pub row_last : (t : ℕ → Bool) (c : ℕ) → kept t (row 1 (suc c)) ≡ kept t (row 1 c) ++ cond (t (suc c)) (suc c ∷ []) []
unfolding kept rising
row_last t c =
    let one : suc c ≡ c + 1 = omega arith in
    ap (λ n. kept t (row 1 n)) one
    ∙ ap (kept t) (rising_add (λ j. j) 1 c 1)
    ∙ kept_append t (row 1 c) ((1 + c) ∷ [])
    ∙ ap (λ n. kept t (row 1 c) ++ cond (t n) (n ∷ []) []) (omega arith)

-- they are kept of the row of labels by their digits
pub marked-kept : (c b : ℕ) → marked c b ≡ kept (has b) (row 1 c)
unfolding marked kept rising
marked-kept zero b = refl
marked-kept (suc c) b =
    let one : suc c - 1 ≡ c = omega arith in
    rw (row_last (has b) c, one, marked-kept c b)

-- the lowest n digits, the one worth 2^k at index k
unfoldable pub digits : ℕ → ℕ → List ℕ
digits b n = rising (digit b) 0 n

pub digits-none : (b : ℕ) → [] ≡ digits b 0
unfolding digits rising
digits-none b = refl

pub digits_more : (b k : ℕ) → digits b k ++ (digit b k ∷ []) ≡ digits b (k + 1)
unfolding digits rising
digits_more b k = sym (rising_add (digit b) 0 k 1 ∙ ap (λ n. rising (digit b) 0 k ++ (digit b n ∷ [])) (zero-add k))

pub digits-length : (b n : ℕ) → length (digits b n) ≡ n
unfolding digits
digits-length b n = length-rising (digit b) 0 n

pub digits-at : (b n k : ℕ) → k < n → get_or (digits b n) k 0 ≡ digit b k
unfolding digits
digits-at b n k h = get_or-rising (digit b) 0 n k 0 h ∙ ap (digit b) (zero-add k)

-- mark the set
pub digits_mark : (c b k : ℕ) → k < c → ltb 0 (digit b k) ≡ ltb 0 (position (marked c b) (suc k))
unfolding position
digits_mark c b k h =
    let one : suc k - 1 ≡ k = omega arith in
    let kept_there : named (suc k) (marked c b) ≡ eqb (digit b k) 1 =
    rw (marked-kept c b) (kept_names (has b) 1 c (suc k) (omega arith) (omega arith) ∙ ap (λ n. eqb (digit b n) 1) one) in
    below (digit b k) (mod-lt (b / 2 ^ k) (omega arith)) ∙ sym (position-named 0 (marked c b) (suc k) ∙ kept_there)
  where
    below : (d : ℕ) → d < 2 → ltb 0 d ≡ eqb d 1
    below zero h = refl
    below (suc zero) h = refl
    below (suc (suc d)) h = absurd (omega arith)

-- ---- all of them

-- a digit further up changes nothing below it
marked-above : (c d b : ℕ) → c ≤ d → marked c (2 ^ d + b) ≡ marked c b
unfolding marked
marked-above zero d b h = refl
marked-above (suc c) d b h =
    let up : d ≡ c + suc (d - suc c) = omega arith in
    let power : 2 ^ d + b ≡ b + 2 ^ c * 2 ^ suc (d - suc c) = ap (λ n. 2 ^ n + b) up ∙ ap (λ n. n + b) (pow-add 2 c (suc (d - suc c))) ∙ omega arith in
    let quotient : (2 ^ d + b) / 2 ^ c ≡ b / 2 ^ c + 2 ^ suc (d - suc c) = ap (λ n. n / 2 ^ c) power ∙ add-mul-div_left b (2 ^ suc (d - suc c)) (pow_pos c) in
    let even : 2 ^ suc (d - suc c) ≡ 2 * 2 ^ (d - suc c) = pow-succ' 2 (d - suc c) in
    let digit : (2 ^ d + b) / 2 ^ c % 2 ≡ b / 2 ^ c % 2 =
    ap (λ n. n % 2) (quotient ∙ ap (λ n. b / 2 ^ c + n) even) ∙ add-mul-mod_self_left (b / 2 ^ c) 2 (2 ^ (d - suc c)) in
    rw (digit, marked-above c d b (omega arith))

-- The headline: the sets are those marked by 0, 1, .., 2^c - 1, in this order.
pub sets-marked : (c : ℕ) → sets c ≡ rising (marked c) 0 (2 ^ c)
unfolding sets marked rising
sets-marked zero = refl
sets-marked (suc c) =
    let twice : 2 ^ suc c ≡ 2 ^ c + 2 ^ c = pow-succ' 2 c ∙ omega arith in
    let without : rising (marked c) 0 (2 ^ c) ≡ rising (marked (suc c)) 0 (2 ^ c) = rising_agree _ _ 0 0 (2 ^ c) (λ k h. low k h) in
    let with_it : map (λ L. L ++ (suc c ∷ [])) (rising (marked c) 0 (2 ^ c)) ≡ rising (marked (suc c)) (0 + 2 ^ c) (2 ^ c) =
    map-rising (λ L. L ++ (suc c ∷ [])) (marked c) 0 (2 ^ c) ∙ rising_agree _ _ 0 (0 + 2 ^ c) (2 ^ c) (λ k h. high k h) in
    rw (sets-marked c) (ap₂ ◌++◌ without with_it ∙ sym (rising_add (marked (suc c)) 0 (2 ^ c) (2 ^ c)) ∙ ap (rising (marked (suc c)) 0) (sym twice))
  where
    low : (k : ℕ) → k < 2 ^ c → marked c (0 + k) ≡ marked (suc c) (0 + k)
    low k h = rw (zero-add k, div-eq_of_lt h) (sym (append-nil (marked c k)))

    high : (k : ℕ) → k < 2 ^ c → marked c (0 + k) ++ (suc c ∷ []) ≡ marked (suc c) (0 + 2 ^ c + k)
    high k h =
        let sum : 2 ^ c + k ≡ k + 2 ^ c * 1 = omega arith in
        let digit : (2 ^ c + k) / 2 ^ c ≡ 1 = ap (λ n. n / 2 ^ c) sum ∙ add-mul-div_left k 1 (pow_pos c) ∙ ap (λ n. n + 1) (div-eq_of_lt h) in
        rw (zero-add k, zero-add (2 ^ c), digit, marked-above c c k (omega arith))
