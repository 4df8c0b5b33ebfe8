-- A product of two numbers by their halves of 32 bits: how large each part is, and that the parts make the product.
use Prim.Native.Nat.{ℕ, ◌+◌, ◌*◌, ◌/◌, ◌%◌, ◌^◌, ◌≤◌, ◌<◌}
use native.Mathlib.Nat.{div-add-mod', mul-le-mul}
use native.Mathlib.Omega.{arith}
use mathlib.Core.Path.{◌≡◌, ap}

abbrev half : ℕ
half = 4294967296

at_most : {x y : ℕ} (m n : ℕ) → x ≤ m → y ≤ n → x * y ≤ m * n
at_most m n p q = mul-le-mul p q

pub lower-below : (a b : ℕ) → a % half * (b % half) < 2 ^ 64
lower-below a b = omega (arith, at_most {x = a % half} {y = b % half} 4294967295 4294967295 (omega arith) (omega arith))

pub cross_below : (a b : ℕ) → b < 2 ^ 53 → a % half * (b / half) ≤ 2 ^ 53
cross_below a b h = at_most half 2097152 (omega arith) (omega arith)

pub upper-below : (a b : ℕ) → a < 2 ^ 53 → b < 2 ^ 53 → a / half * (b / half) ≤ 2 ^ 42
upper-below a b g h = at_most 2097152 2097152 (omega arith) (omega arith)

-- h is the weight of a half; what a part has from h on goes to the next part
pub halves_make : (h a b least middle : ℕ) → least ≡ a % h * (b % h) → middle ≡ a % h * (b / h) + a / h * (b % h) + least / h
    → middle % h * h + least % h + h * h * (a / h * (b / h) + middle / h) ≡ a * b
halves_make h a b least middle p q =
    go (a % h) (a / h) (b % h) (b / h) (least % h) (least / h) (middle % h) (middle / h)
    (div-add-mod' a h) (div-add-mod' b h) (div-add-mod' least h) (div-add-mod' middle h) p q
  where
    go : (al ah bl bh ll lh ml mh : ℕ) → ah * h + al ≡ a → bh * h + bl ≡ b → lh * h + ll ≡ least → mh * h + ml ≡ middle
        → least ≡ al * bl → middle ≡ al * bh + ah * bl + lh → ml * h + ll + h * h * (ah * bh + mh) ≡ a * b
    go al ah bl bh ll lh ml mh ea eb el em p q = rw (← ea, ← eb) (omega (arith, ap (λ k. k * h) em, ap (λ k. k * h) q))
