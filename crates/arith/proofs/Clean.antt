-- How the code reads, tests and settles: +0 added to a value reads it, a sum with a value that was read is never -0 (both of values that the format holds), and
-- x - x tells a number.
use mathlib.Core.Path.{◌≡◌, refl, sym, ap, ◌∙◌}
use mathlib.Core.Bool.{Bool, true, false, not, cond, ◌&&◌, and-false, false≢true, true≢false, beq}
use Prim.Native.Nat.{ℕ, zero, suc, ◌+◌, ◌-◌, ◌*◌, ◌/◌, ◌%◌, ◌^◌, ◌≤◌, ◌<◌, zero-le, compare}
use native.Mathlib.Nat.{le_refl, lt_of_lt_of_le, lt_of_not-le, add-zero, sub-zero, sub_self, zero-mul, zero-lt-suc}
use native.Mathlib.Nat.{mul-pos, mul-le-mul_right, lt_of_mul-lt-mul_right, div-mul-le_self, le-div_iff_mul-le}
use native.Mathlib.Omega.{arith}
use borrow.Author.Tests.{ltb-true, ltb-false, lt-ltb, le-ltb, ne_eqb}
use lib.IntN.{ℤ, pos}
use lib.Dec.{T, ltb}
use lib.Pow.{pow_pos, pow_mono}
use lib.Ieee.{Float, nan, inf, fin, Format, binary32, binary64, prec, emax, low, up, down, size, odd, units, round, sum, add, sub, mul, neg, le, lt, eq, fits}
use lib.Ieee.Digits.{size-lt, size_reaches}
use lib.Ieee.Fits.{two, up_pos, down_pos, round_is, neg-fits}
use lib.Ieee.Exact.{HasValue, odd_sign}
use lib.Ieee.Nearest.{closest, nearest-ge}
use lib.Ieee.Scale.{round_same}
use Rattle.model.specs.Arith.{plus_zero, number, overflow, clean, settled, is_zero, is_finite, difference, vanishes, next}
use Rattle.model.proofs.Arith.{bounds, in_units, round-held}

-- a value that is read as it stands
abbrev Clean : Float → Type 0
Clean x = clean x ≡ x

-- ---- a fraction that is at least the format's smallest value does not round to zero

value-clean : (x : Float) (s : Bool) (a c : ℕ) → HasValue x s a c → 0 < a → Clean x
unfolding clean
value-clean nan s a c v h = elim v [ ]
value-clean (inf t) s a c v h = elim v [ ]
value-clean (fin t zero e) s a c v h = absurd (omega (arith, v.1, mul-pos h (down_pos e)))
value-clean (fin t (suc m) e) s a c v h = refl

units_clean : (f : Format) (s : Bool) (q k : ℕ) → 0 < q → Clean (units f s q k)
unfolding units clean
units_clean f s q k h = elim (ltb (q * 2 ^ k) (2 ^ (low f + suc (emax f)))) as (λ b. Clean (cond b (odd (suc (prec f)) s q k (low f)) (inf s))) [
  | true ↦ value-clean (odd (suc (prec f)) s q k (low f)) s (q * 2 ^ k) (2 ^ low f) (odd_sign (suc (prec f)) s q k (low f)) (mul-pos h (pow_pos k))
  | false ↦ refl
]

size_pos : (n : ℕ) → 0 < n → 0 < size n
size_pos n h = lt_of_not-le (λ (g : size n ≤ 0). omega (arith, size-lt n, pow_mono g))

round-clean : (f : Format) (s : Bool) (a c : ℕ) → 0 < c → c ≤ a * 2 ^ low f → Clean (round f s a c)
round-clean f s a c C h =
    let n = a * 2 ^ low f in
    let whole : 0 < n / c = (le-div_iff_mul-le C).1 (omega arith) in
    let k = size (n / c) - prec f in
    let kept : 2 ^ k ≤ n / c = size_reaches (n / c) k (omega (arith, two f, size_pos (n / c) whole)) in
    let u = c * 2 ^ k in
    let some : 0 < n / u = (le-div_iff_mul-le (mul-pos C (pow_pos k))).1 (omega (arith, mul-le-mul_right c kept, div-mul-le_self n c)) in
    rw round_is (units_clean f s (closest n u) k (lt_of_lt_of_le some (nearest-ge (n / u) (compare (n % u * 2) u))))

-- ---- values of a format are multiples of its smallest, so a sum of two, the second not zero, is zero only where it is exact: no -0

in_smallest : (f : Format) (s : Bool) (m : ℕ) (e : ℤ) → T (fits f (fin s m e)) → (u : ℕ) × (m * up e * 2 ^ low f ≡ u * down e)
in_smallest f s zero e h = (0, omega arith)
in_smallest f s (suc m) e h =
    let (j, units) = in_units (low f) e (bounds f s m e h).1 in
    (suc m * 2 ^ j, omega (arith, ap (λ (x : ℕ). suc m * x) units))

round-zero : (f : Format) (s : Bool) (c : ℕ) → 0 < c → round f s 0 c ≡ fin s 0 (pos 0)
unfolding round
round-zero f s c C = round_same f s 0 c 0 1 C (zero-lt-suc 0) (omega arith) ∙ at f
  where
    at : (g : Format) → round g s 0 1 ≡ fin s 0 (pos 0)
    at binary32 = refl
    at binary64 = refl

gap : (l a d c u v : ℕ) → 0 < l → 0 < d → a * l ≡ u * c → (a + d) * l ≡ v * c → c ≤ d * l
gap l a d c u v L D p q =
    let less : u < v = lt_of_mul-lt-mul_right c (omega (arith, mul-pos D L)) in
    omega (arith, mul-le-mul_right c less)

apart : (f : Format) (s : Bool) (a b c u v : ℕ) → 0 < c → a * 2 ^ low f ≡ u * c → b * 2 ^ low f ≡ v * c → a < b → Clean (round f s (b - a) c)
apart f s a b c u v C p q h =
    let whole : a + (b - a) ≡ b = omega arith in
    round-clean f s (b - a) c C (gap (2 ^ low f) a (b - a) c u v (pow_pos (low f)) (omega arith) p (ap (λ (x : ℕ). x * 2 ^ low f) whole ∙ q))

sum-clean : (f : Format) (s : Bool) (a : ℕ) (t : Bool) (b c u v : ℕ) → 0 < c → 0 < b → a * 2 ^ low f ≡ u * c → b * 2 ^ low f ≡ v * c → Clean (sum f s a t b c)
unfolding sum clean
sum-clean f s a t b c u v C B p q = go (beq s t) (ltb a b) (ltb b a) refl refl
  where
    go : (same less more : Bool) → ltb a b ≡ less → ltb b a ≡ more
        → Clean (cond same (round f s (a + b) c) (cond less (round f t (b - a) c) (round f (s && more) (a - b) c)))
    go true less more l m = round-clean f s (a + b) c C (gap (2 ^ low f) 0 (a + b) c 0 (u + v) (pow_pos (low f)) (omega arith) (omega arith) (omega arith))
    go false true more l m = apart f t a b c u v C p q (ltb-true a b l)
    go false false true l m = apart f (s && true) b a c v u C q p (ltb-true b a m)
    go false false false l m = let exact : a - b ≡ 0 = omega (arith, ltb-false a b l, ltb-false b a m) in rw (and-false, exact, round-zero f false c C)

-- ---- what a zero adds

sum_zeros : (f : Format) (s t : Bool) (c : ℕ) → 0 < c → sum f s 0 t 0 c ≡ fin (s && t) 0 (pos 0)
unfolding sum
sum_zeros f true true c C = round-zero f true c C
sum_zeros f true false c C = round-zero f false c C
sum_zeros f false true c C = round-zero f false c C
sum_zeros f false false c C = round-zero f false c C

add_fin : (f : Format) (s t : Bool) (m n : ℕ) (d e : ℤ) → add f (fin s m d) (fin t n e) ≡ sum f s (m * up d * down e) t (n * up e * down d) (down d * down e)
unfolding add
add_fin f s t m n d e = refl

add_zeros : (f : Format) (s t : Bool) (d e : ℤ) → add f (fin s zero d) (fin t zero e) ≡ fin (s && t) 0 (pos 0)
add_zeros f s t d e = simp (add_fin, zero-mul) (sum_zeros f s t (down d * down e) (mul-pos (down_pos d) (down_pos e)))

sum-zero : (f : Format) (s t : Bool) (a c : ℕ) → 0 < a → sum f s a t 0 c ≡ round f s a c
unfolding sum
sum-zero f true true a c h = rw add-zero
sum-zero f true false a c h = rw (le-ltb a 0 zero-le, lt-ltb 0 a, sub-zero)
sum-zero f false true a c h = rw (le-ltb a 0 zero-le, sub-zero)
sum-zero f false false a c h = rw add-zero

add_zero_held : (f : Format) (s t : Bool) (m : ℕ) (d e : ℤ) → T (fits f (fin s (suc m) d)) → add f (fin s (suc m) d) (fin t zero e) ≡ fin s (suc m) d
add_zero_held f s t m d e h =
    let a = suc m * up d * down e in
    let c = down d * down e in
    simp (add_fin, zero-mul)
    (sum-zero f s t a c (mul-pos (mul-pos (zero-lt-suc m) (up_pos d)) (down_pos e))
    ∙ round_same f s a c (suc m * up d) (down d) (mul-pos (down_pos d) (down_pos e)) (down_pos d) (omega arith)
    ∙ round-held f s m d h)

-- +0 added to a value reads it
pub add_nought : (f : Format) (x : Float) → T (fits f x) → add f x plus_zero ≡ clean x
unfolding add clean
add_nought f nan h = refl
add_nought f (inf s) h = refl
add_nought f (fin s zero e) h = add_zeros f s false e (pos 0) ∙ rw and-false
add_nought f (fin s (suc m) e) h = add_zero_held f s false m e (pos 0) h

-- a value that was read, added to any other, gives the sum as it is read
pub add_clean : (f : Format) (x y : Float) → T (fits f x) → T (fits f y) → add f x (clean y) ≡ clean (add f x y)
unfolding add clean
add_clean f nan y p q = refl
add_clean f (inf s) nan p q = refl
add_clean f (inf s) (inf t) p q = elim (beq s t) as (λ b. cond b (inf s) nan ≡ clean (cond b (inf s) nan)) [ true ↦ refl | false ↦ refl ]
add_clean f (inf s) (fin t zero e) p q = refl
add_clean f (inf s) (fin t (suc n) e) p q = refl
add_clean f (fin s m d) nan p q = refl
add_clean f (fin s m d) (inf t) p q = refl
add_clean f (fin s zero d) (fin t zero e) p q = add_nought f (fin s zero d) p ∙ sym (ap clean (add_zeros f s t d e))
add_clean f (fin s (suc m) d) (fin t zero e) p q = add_nought f (fin s (suc m) d) p ∙ sym (ap clean (add_zero_held f s t m d e p))
add_clean f (fin s m d) (fin t (suc n) e) p q =
    let (u, x) = in_smallest f s m d p in
    let (v, y) = in_smallest f t (suc n) e q in
    sym
    (sum-clean f s (m * up d * down e) t (suc n * up e * down d) (down d * down e) u v
    (mul-pos (down_pos d) (down_pos e)) (mul-pos (mul-pos (zero-lt-suc n) (up_pos e)) (down_pos d))
    (omega (arith, ap (λ (z : ℕ). z * down e) x)) (omega (arith, ap (λ (z : ℕ). z * down d) y)))

-- ---- the tests

cancels : (f : Format) (s : Bool) (a c : ℕ) → 0 < c → sum f s a (not s) a c ≡ plus_zero
unfolding sum
cancels f true a c C = rw (le-ltb a a (le_refl a), sub_self) (round-zero f false c C)
cancels f false a c C = rw (le-ltb a a (le_refl a), sub_self) (round-zero f false c C)

-- a number less itself is zero, and anything else less itself is a NaN
pub finite_test : (f : Format) (x : Float) → le plus_zero (sub f x x) ≡ is_finite x
unfolding le sub is_finite
finite_test f nan = refl
finite_test f (inf true) = refl
finite_test f (inf false) = refl
finite_test f (fin s m e) = ap (le plus_zero) (cancels f s (m * up e * down e) (down e * down e) (mul-pos (down_pos e) (down_pos e)))

-- both zeros, and nothing else, equal +0
pub zero_test : (x : Float) → eq x plus_zero ≡ is_zero x
unfolding eq is_zero
zero_test nan = refl
zero_test (inf s) = refl
zero_test (fin true zero e) = simp zero-mul
zero_test (fin false zero e) = simp zero-mul
zero_test (fin s (suc m) e) =
    let some : suc m * up e * 1 ≡ 0 → ⊥ = λ z. omega (arith, z, mul-pos (zero-lt-suc m) (up_pos e)) in
    rw (zero-mul (down e), ne_eqb (suc m * up e * 1) 0 some)

-- what is below or above +0 is no zero
pub below_nonzero : (x : Float) → lt x plus_zero ≡ true → is_zero x ≡ false
unfolding lt is_zero
below_nonzero nan e = refl
below_nonzero (inf s) e = refl
below_nonzero (fin true zero d) e = absurd (false≢true (simp zero-mul at e))
below_nonzero (fin false zero d) e = absurd (false≢true (simp zero-mul at e))
below_nonzero (fin s (suc m) d) e = refl

pub above_nonzero : (x : Float) → lt plus_zero x ≡ true → is_zero x ≡ false
unfolding lt is_zero
above_nonzero nan e = refl
above_nonzero (inf s) e = refl
above_nonzero (fin true zero d) e = absurd (false≢true e)
above_nonzero (fin false zero d) e = absurd (false≢true (simp zero-mul at e))
above_nonzero (fin s (suc m) d) e = refl

-- ---- answers

-- what was read of a result is its answer, if it is a number
pub settles : (v x : Float) → v ≡ clean x → cond (is_finite v) (number v) overflow ≡ settled x
unfolding settled clean is_finite
settles v x e = ap (λ (w : Float). cond (is_finite w) (number w) overflow) e ∙ at x
  where
    at : (x : Float) → cond (is_finite (clean x)) (number (clean x)) overflow ≡ settled x
    at nan = refl
    at (inf s) = refl
    at (fin s zero e) = refl
    at (fin s (suc m) e) = refl

clean_add_zero : (x : Float) (t : Bool) (e : ℤ) → T (fits binary64 x) → clean (add binary64 x (fin t zero e)) ≡ clean x
unfolding clean add
clean_add_zero nan t e h = refl
clean_add_zero (inf s) t e h = refl
clean_add_zero (fin s zero d) t e h = ap clean (add_zeros binary64 s t d e)
clean_add_zero (fin s (suc m) d) t e h = ap clean (add_zero_held binary64 s t m d e h)

settled_add_zero : (x : Float) (t : Bool) (e : ℤ) → T (fits binary64 x) → settled (add binary64 x (fin t zero e)) ≡ settled x
settled_add_zero x t e h = sym (settles (clean x) _ (sym (clean_add_zero x t e h))) ∙ settles (clean x) x refl

-- a difference with a rounded product settles both at once
pub difference-settles : (x p : Float) → T (fits binary64 x) → difference x p ≡ next (settled p) (difference x)
unfolding difference next settled sub
difference-settles nan nan h = refl
difference-settles (inf s) nan h = refl
difference-settles (fin s m e) nan h = refl
difference-settles nan (inf t) h = refl
difference-settles (inf s) (inf t) h = elim (beq s (not t)) as (λ b. settled (cond b (inf s) nan) ≡ overflow) [ true ↦ refl | false ↦ refl ]
difference-settles (fin s m e) (inf t) h = refl
difference-settles x (fin s zero e) h = settled_add_zero x (not s) e h ∙ sym (settled_add_zero x true (pos 0) h)
difference-settles x (fin s (suc m) e) h = refl

neg_clean : (p : Float) → is_zero p ≡ false → Clean (neg p)
unfolding is_zero clean neg
neg_clean nan z = refl
neg_clean (inf s) z = refl
neg_clean (fin s zero e) z = absurd (true≢false z)
neg_clean (fin s (suc m) e) z = refl

-- a difference with what is no zero is read as it is
pub difference-clean : (x p : Float) → T (fits binary64 x) → T (fits binary64 p) → is_zero p ≡ false → sub binary64 x p ≡ clean (sub binary64 x p)
unfolding sub
difference-clean x p h q z = ap (add binary64 x) (sym (neg_clean p z)) ∙ add_clean binary64 x (neg p) h (neg-fits binary64 p q)

-- ---- products that vanish

-- a product that isn't zero doesn't vanish
pub nonzero_kept : (a b : Float) → is_zero (mul binary64 a b) ≡ false → vanishes a b ≡ false
unfolding vanishes
nonzero_kept a b z = simp (z, and-false)

finite_clean : (x : Float) → is_finite (clean x) ≡ is_finite x
unfolding is_finite clean
finite_clean nan = refl
finite_clean (inf s) = refl
finite_clean (fin s zero e) = refl
finite_clean (fin s (suc m) e) = refl

finite_zero : (x : Float) → is_zero x ≡ true → is_finite x ≡ true
unfolding is_finite is_zero
finite_zero nan z = z
finite_zero (inf s) z = z
finite_zero (fin s m e) z = refl

finite_minus_zero : (x p : Float) → T (fits binary64 x) → is_zero p ≡ true → is_finite (clean (sub binary64 x p)) ≡ is_finite x
unfolding sub is_zero
finite_minus_zero x (fin s zero e) h z = ap is_finite (clean_add_zero x (not s) e h) ∙ finite_clean x
finite_minus_zero x (fin s (suc m) e) h z = absurd (false≢true z)
finite_minus_zero x (inf s) h z = absurd (false≢true z)
finite_minus_zero x nan h z = absurd (false≢true z)

-- tests that agree where a product is zero agree beside one that vanishes
beside_vanished : (a b : Float) (p q : Bool) → (is_zero (mul binary64 a b) ≡ true → p ≡ q) → (p && vanishes a b) ≡ (q && vanishes a b)
beside_vanished a b p q same = by (is_zero (mul binary64 a b)) refl
  where
    by : (z : Bool) → is_zero (mul binary64 a b) ≡ z → (p && vanishes a b) ≡ (q && vanishes a b)
    by true e = rw (same e)
    by false e = rw (nonzero_kept a b e, and-false p, and-false q)

-- so what reads a product tells wherever it vanishes,
pub product_tells : (v a b : Float) → v ≡ clean (mul binary64 a b) → (is_finite v && vanishes a b) ≡ vanishes a b
product_tells v a b e = beside_vanished a b (is_finite v) true (λ z. ap is_finite e ∙ finite_clean _ ∙ finite_zero (mul binary64 a b) z)

-- and a difference with it wherever it is taken from a number
pub less_tells : (v x a b : Float) → T (fits binary64 x) → v ≡ clean (sub binary64 x (mul binary64 a b))
    → (is_finite v && vanishes a b) ≡ (is_finite x && vanishes a b)
less_tells v x a b h e = beside_vanished a b (is_finite v) (is_finite x) (λ z. ap is_finite e ∙ finite_minus_zero x (mul binary64 a b) h z)
