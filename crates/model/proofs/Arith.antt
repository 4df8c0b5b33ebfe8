-- The laws of one float operation, for every finite value that binary64 holds and that isn't -0: what +0 does to it, and that every number answered is such a
-- value again. Everything above uses these laws and never `round`.
use mathlib.Core.Path.{◌≡◌, refl, sym, ap, ◌∙◌}
use mathlib.Core.Bool.{Bool, true, false, not, cond, ◌&&◌, true≢false, false≢true, beq}
use Prim.Native.Nat.{ℕ, zero, suc, ◌+◌, ◌-◌, ◌*◌, ◌/◌, ◌%◌, ◌^◌, ◌≤◌, ◌<◌}
use native.Mathlib.Nat.{zero-add, add-zero, sub-zero, zero-mul, mul-zero, mul-one, one-mul}
use native.Mathlib.Nat.{mul-pos, mul-lt-mul_of_pos_right, lt_of_mul-lt-mul_right, zero-lt-suc}
use native.Mathlib.Omega.{arith}
use borrow.Author.Tests.{lt-ltb, le-ltb, ne_eqb}
use lib.IntN.{ℤ, pos, negsuc}
use lib.Dec.{T, leb, ltb, eqb, leb→le, ltb→lt, leb-suc-zero, eqb-suc-zero}
use lib.Pow.{pow-add, pow_pos, pow-lt}
use lib.Ieee.{Float, nan, inf, fin, Format, binary64, prec, emax, low, up, down, unlike, round, sum, sub, mul, div, neg, lt, eq, le, fits, to_bits, of_bits}
use lib.Ieee.Bits.{of_bits-to_bits}
use lib.Ieee.Digits.{back}
use lib.Ieee.Exact.{HasValue, round_exact}
use lib.Ieee.Fits.{up_pos, down_pos, round-fits, mul-fits, sub-fits, div-fits}
use lib.Ieee.Nearest.{div_same}
use lib.Ieee.Scale.{round_same}
use Rattle.model.specs.Arith.{plus_zero, Answer, number, overflow, zero_divisor, clean, settled, is_zero, is_finite, is_small, is_limit}
use Rattle.model.specs.Arith.{product, difference, quotient, vanishes, next}
use Rattle.model.specs.Formula.{less}

-- a finite value of binary64 that isn't -0
pub data Good : Float → Type 0 where
  nought : Good plus_zero
  nonzero : {s : Bool} {m : ℕ} {e : ℤ} → T (fits binary64 (fin s (suc m) e)) → Good (fin s (suc m) e)

-- if the answer is a number, it is such a value
abbrev pub GoodAnswer : Answer → Type 0
GoodAnswer (number v) = Good v
GoodAnswer overflow = Unit {0}
GoodAnswer zero_divisor = Unit {0}

-- ---- what a good value is

pub good_finite : {x : Float} → Good x → is_finite x ≡ true
unfolding is_finite
good_finite nought = refl
good_finite (nonzero h) = refl

pub good-fits : {x : Float} → Good x → T (fits binary64 x)
good-fits nought = unfold fits in tt
good-fits (nonzero h) = h

-- the only good zero is +0
pub nought_is : {x : Float} → Good x → is_zero x ≡ true → x ≡ plus_zero
unfolding is_zero
nought_is nought z = refl
nought_is (nonzero h) z = absurd (false≢true z)

-- reading leaves a good value as it is
pub good-clean : {x : Float} → Good x → clean x ≡ x
unfolding clean
good-clean nought = refl
good-clean (nonzero h) = refl

-- and it makes every finite value of binary64 good
pub clean-good : (x : Float) → is_finite x ≡ true → T (fits binary64 x) → Good (clean x)
unfolding clean is_finite
clean-good nan t h = absurd (false≢true t)
clean-good (inf s) t h = absurd (false≢true t)
clean-good (fin s zero e) t h = nought
clean-good (fin s (suc m) e) t h = nonzero h

-- a zero of either sign is read as +0
pub zero_clean : (x : Float) → is_zero x ≡ true → clean x ≡ plus_zero
unfolding clean is_zero
zero_clean nan t = absurd (false≢true t)
zero_clean (inf s) t = absurd (false≢true t)
zero_clean (fin s zero e) t = refl
zero_clean (fin s (suc m) e) t = absurd (false≢true t)

-- ---- every number answered is good, whatever the operands

settled-good : (x : Float) → T (fits binary64 x) → GoodAnswer (settled x)
unfolding settled
settled-good nan h = tt
settled-good (inf s) h = tt
settled-good (fin s zero e) h = nought
settled-good (fin s (suc m) e) h = nonzero h

pub product-good : (a b : Float) → GoodAnswer (product a b)
unfolding product
product-good a b = settled-good (mul binary64 a b) (mul-fits binary64 a b)

pub difference-good : (a b : Float) → GoodAnswer (difference a b)
unfolding difference
difference-good a b = settled-good (sub binary64 a b) (sub-fits binary64 a b)

pub quotient-good : (a b : Float) → GoodAnswer (quotient a b)
unfolding quotient
quotient-good a b = elim (is_zero b) as (λ z. GoodAnswer (cond z zero_divisor (settled (div binary64 a b)))) [
  | true ↦ tt
  | false ↦ settled-good (div binary64 a b) (div-fits binary64 a b)
]

-- ---- products with +0, and +0 over a nonzero value

round_nought : (s : Bool) {a c : ℕ} → a ≡ 0 → 0 < c → settled (round binary64 s a c) ≡ number plus_zero
unfolding settled round
round_nought s {a} {c} z C = ap settled (round_same binary64 s a c 0 1 C (zero-lt-suc 0) (omega arith))

-- +0 times a good value is +0
pub product_nought_left : {x : Float} → Good x → product plus_zero x ≡ number plus_zero
unfolding product mul settled
product_nought_left nought = refl
product_nought_left (nonzero {s} {m} {e} h) = round_nought (unlike false s) (zero-mul (suc m * up e)) (mul-pos (zero-lt-suc 0) (down_pos e))

-- a good value times +0 is +0
pub product_nought_right : {x : Float} → Good x → product x plus_zero ≡ number plus_zero
unfolding product mul settled
product_nought_right nought = refl
product_nought_right (nonzero {s} {m} {e} h) = round_nought (unlike s false) (mul-zero (suc m * up e)) (mul-pos (down_pos e) (zero-lt-suc 0))

-- +0 over a good value that isn't zero is +0
pub quotient_nought : {x : Float} → Good x → is_zero x ≡ false → quotient plus_zero x ≡ number plus_zero
unfolding quotient div settled is_zero
quotient_nought nought z = absurd (true≢false z)
quotient_nought (nonzero {s} {m} {e} h) z =
    rw eqb-suc-zero (round_nought (unlike false s) (zero-mul (down e)) (mul-pos (mul-pos (zero-lt-suc m) (up_pos e)) (zero-lt-suc 0)))

-- ---- a good value minus +0: the exact difference is the value, `round` keeps what the format holds, and no two values of a format have the same sign and size

last_three : (a b c d : Bool) → T (a && b && c && d) → T b × T c × T d
last_three true true true true t = (tt, tt, tt)
last_three true true true false t = elim t [ ]
last_three true true false d t = elim t [ ]
last_three true false c d t = elim t [ ]
last_three false b c d t = elim t [ ]

pub bounds : (f : Format) (s : Bool) (m : ℕ) (e : ℤ) → T (fits f (fin s (suc m) e))
    → (suc m < 2 ^ prec f) × (down e ≤ 2 ^ low f) × (suc m * up e < 2 ^ suc (emax f) * down e)
unfolding fits
bounds f s m e h =
    let t = last_three (eqb (suc m % 2) 1) (ltb (suc m) (2 ^ prec f)) (leb (down e) (2 ^ low f)) (ltb (suc m * up e) (2 ^ suc (emax f) * down e)) h in
    (ltb→lt _ _ t.0, leb→le _ _ t.1, ltb→lt _ _ t.2)

-- 2 ^ e is 2 ^ j times the smallest value 2 ^ -l, for some j
pub in_units : (l : ℕ) (e : ℤ) → down e ≤ 2 ^ l → (j : ℕ) × (up e * 2 ^ l ≡ 2 ^ j * down e)
in_units l (pos k) h = (k + l, rw (mul-one, pow-add))
in_units l (negsuc k) h =
    let near : ¬ (l < suc k) = λ (g : l < suc k). omega (arith, pow-lt g) in
    let fine : suc k ≤ l = omega arith in
    (l - suc k, rw (one-mul, ← pow-add, back))

same-value : (f : Format) (x : Float) (s : Bool) (m : ℕ) (e : ℤ) → T (fits f x) → T (fits f (fin s m e)) → HasValue x s (m * up e) (down e) → x ≡ fin s m e
unfolding to_bits
same-value f (fin t n d) s m e p q v =
    let l = 2 ^ low f in
    let size : n * up d * l / down d ≡ m * up e * l / down e =
    div_same (n * up d * l) (down d) (m * up e * l) (down e) (down_pos d) (down_pos e) (omega (arith, ap (λ (x : ℕ). l * x) v.1)) in
    let bits : to_bits f (fin t n d) ≡ to_bits f (fin s m e) = cc in
    sym (of_bits-to_bits f (fin t n d) p) ∙ ap (of_bits f) bits ∙ of_bits-to_bits f (fin s m e) q
same-value f nan s m e p q v = elim v [ ]
same-value f (inf _) s m e p q v = elim v [ ]

pub round-held : (f : Format) (s : Bool) (m : ℕ) (e : ℤ) → T (fits f (fin s (suc m) e)) → round f s (suc m * up e) (down e) ≡ fin s (suc m) e
round-held f s m e h =
    let (digits, smallest, largest) = bounds f s m e h in
    let (j, units) = in_units (low f) e smallest in
    let exact : suc m * up e * 2 ^ low f ≡ suc m * 2 ^ j * down e = omega (arith, ap (λ (x : ℕ). suc m * x) units) in
    let small : suc m * 2 ^ j < 2 ^ (low f + suc (emax f)) =
    rw pow-add (lt_of_mul-lt-mul_right (down e) (omega (arith, mul-lt-mul_of_pos_right largest (pow_pos (low f))))) in
    same-value f (round f s (suc m * up e) (down e)) s (suc m) e (round-fits f s (suc m * up e) (down e)) h
    (round_exact f s (suc m * up e) (down e) (suc m) j (down_pos e) digits small exact)

sum_nought : (f : Format) (s : Bool) (a c : ℕ) → sum f s a true 0 c ≡ round f s a c
unfolding sum
sum_nought f true a c = rw add-zero
sum_nought f false a c = rw (leb-suc-zero, sub-zero)

sub_nought : (f : Format) (s : Bool) (m : ℕ) (e : ℤ) → T (fits f (fin s (suc m) e)) → sub f (fin s (suc m) e) plus_zero ≡ fin s (suc m) e
unfolding sub
sub_nought f s m e h = simp (mul-one, zero-mul, sum_nought) (round-held f s m e h)

-- a good value minus +0 is the value
pub difference_nought : {x : Float} → Good x → difference x plus_zero ≡ number x
unfolding difference sub settled
difference_nought nought = refl
difference_nought (nonzero {s} {m} {e} h) = ap settled (sub_nought binary64 s m e h)

-- ---- the limit

-- what is compared with 0 where the digits are not 0
some_units : (m : ℕ) (e : ℤ) → 0 < suc m * up e * 1
some_units m e = mul-pos (mul-pos (zero-lt-suc m) (up_pos e)) (zero-lt-suc 0)

-- +0 is small for every limit
pub small_nought : (t : Float) → is_limit t ≡ true → is_small t plus_zero ≡ true
unfolding is_small is_limit is_finite neg le lt eq
small_nought nan l = absurd (false≢true l)
small_nought (inf s) l = absurd (false≢true l)
small_nought (fin false zero e) l = simp zero-mul
small_nought (fin true zero e) l = simp zero-mul
small_nought (fin false (suc m) e) l = simp (zero-mul, add-zero, lt-ltb 0 (suc m * up e * 1) (some_units m e))
small_nought (fin true (suc m) e) l =
    absurd (false≢true (simp (zero-mul, ne_eqb 0 (suc m * up e * 1) (λ z. omega (arith, some_units m e))) at l))

-- so a good value that isn't small isn't zero
pub large_nonzero : (t : Float) {x : Float} → is_limit t ≡ true → Good x → is_small t x ≡ false → is_zero x ≡ false
unfolding is_zero
large_nonzero t l nought e = absurd (true≢false (sym (small_nought t l) ∙ e))
large_nonzero t l (nonzero h) e = refl

-- with limit +0 the small values are the zeros
pub small_zero : (v : Float) → is_small plus_zero v ≡ is_zero v
unfolding is_small is_zero neg le lt eq
small_zero nan = refl
small_zero (inf false) = refl
small_zero (inf true) = refl
small_zero (fin false zero e) = simp zero-mul
small_zero (fin true zero e) = simp zero-mul
small_zero (fin false (suc m) e) =
    let p = some_units m e in
    simp (zero-mul, zero-add, lt-ltb 0 (suc m * up e * 1) p, le-ltb (suc m * up e * 1) 0 (omega arith), ne_eqb (suc m * up e * 1) 0 (λ z. omega arith))
small_zero (fin true (suc m) e) =
    let p = some_units m e in
    simp (zero-mul, le-ltb (suc m * up e * 1) 0 (omega arith), ne_eqb 0 (suc m * up e * 1) (λ z. omega arith))

-- ---- products that vanish

-- a product with a factor +0 doesn't vanish
pub vanishes-left : (b : Float) → vanishes plus_zero b ≡ false
unfolding vanishes is_zero
vanishes-left b = refl

pub vanishes_right : (a : Float) → vanishes a plus_zero ≡ false
unfolding vanishes is_zero
vanishes_right nan = refl
vanishes_right (inf s) = refl
vanishes_right (fin s zero e) = refl
vanishes_right (fin s (suc m) e) = refl

is_number : Answer → Bool
is_number (number v) = true
is_number overflow = false
is_number zero_divisor = false

-- a difference that is a number is taken from one,
difference_finite : (a b : Float) → is_number (difference a b) ≡ true → is_finite a ≡ true
unfolding is_number difference sub settled is_finite
difference_finite nan b e = e
difference_finite (inf s) nan e = e
difference_finite (inf s) (inf t) e = never (beq s (not t)) e
  where
    never : (b : Bool) → is_number (settled (cond b (inf s) nan)) ≡ true → false ≡ true
    never true e = e
    never false e = e
difference_finite (inf s) (fin t m d) e = e
difference_finite (fin s m d) b e = refl

-- and so is a number that is left by a product
pub less_finite : (acc a b v : Float) → less acc a b ≡ number v → is_finite acc ≡ true
unfolding is_number less next
less_finite acc a b v e = by (product a b) (ap is_number e)
  where
    by : (p : Answer) → is_number (next p (λ q. difference acc q)) ≡ true → is_finite acc ≡ true
    by (number q) e = difference_finite acc q e
    by overflow e = absurd (false≢true e)
    by zero_divisor e = absurd (false≢true e)
