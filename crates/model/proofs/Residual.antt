-- Residues of whole numbers and the words that hold them: what an addition or a subtraction with carry has to keep. Document 02, A.4.
use Prim.Native.Nat.{ℕ, zero, suc, ◌+◌, ◌-◌, ◌*◌, ◌/◌, ◌%◌, ◌^◌, ◌≤◌, ◌<◌}
use native.Mathlib.Nat.{mod-lt, mod-eq_of_lt, mod-add-mod, div-add-mod', mul-add-mod_self_right, le-div_iff_mul-le, div-mul-le_self, mod-one}
use native.Mathlib.Omega.{arith}
use mathlib.Core.Path.{◌≡◌, refl, sym, ap, ◌∙◌}
use mathlib.Core.Bool.{Bool, true, false, cond}
use borrow.Author.Tests.{ltb-true, ltb-false}
use lib.Dec.{ltb}
use lib.IntN.{ℤ, pos, negsuc, neg_ℤ, ◌+ℤ◌, ◌-ℤ◌, +ℤ_assoc, +ℤ_invl, +ℤ_idr}
use lib.Pow.{mod-pow-add}
use Rattle.model.specs.Residual.{residue, words64, joined64}

-- x is y and so many times m
pub mod_is : (m x y k : ℕ) → x ≡ k * m + y → y < m → x % m ≡ y
mod_is m x y k e h = ap (λ n. n % m) e ∙ mul-add-mod_self_right k m y ∙ mod-eq_of_lt h

module _ (m : ℕ) (some : 0 < m) where
  pub residue-below : (z : ℤ) → residue m z < m
  unfolding residue
  residue-below (pos n) = mod-lt n some
  residue-below (negsuc n) = omega arith

  -- adding n to a number adds it to the residue
  pub residue_add : (z : ℤ) (n : ℕ) → residue m (z +ℤ pos n) ≡ (residue m z + n) % m
  unfolding residue
  residue_add (pos a) n = sym (mod-add-mod a m n)
  residue_add (negsuc a) n = step (ltb n (suc a)) refl
    where
      step : (b : Bool) → ltb n (suc a) ≡ b → residue m (cond b (negsuc (suc a - suc n)) (pos (n - suc a))) ≡ (m - 1 - a % m + n) % m
      step true t =
          let u = suc a - suc n in
          let k = a / m - u / m in
          let less : u / m ≤ a / m = (le-div_iff_mul-le some).1 (omega (arith, div-mul-le_self u m)) in
          let parts : a / m * m ≡ (k + u / m) * m = ap (λ q. q * m) (omega arith) in
          sym (mod_is m (m - 1 - a % m + n) (m - 1 - u % m) k (omega (arith, div-add-mod' a m, div-add-mod' u m, mod-lt a some, mod-lt u some, ltb-true n (suc a) t)) (omega arith))
      step false t =
          let u = n - suc a in
          let whole : m - 1 - a % m + n ≡ suc (a / m) * m + u = omega (arith, div-add-mod' a m, mod-lt a some, ltb-false n (suc a) t) in
          sym (ap (λ x. x % m) whole ∙ mul-add-mod_self_right (suc (a / m)) m u)

  -- and taking n away is the way back: what is left, and n, make the residue again
  pub residue_sub : (z : ℤ) (n : ℕ) → (residue m (z -ℤ pos n) + n) % m ≡ residue m z
  residue_sub z n = sym (residue_add (z -ℤ pos n) n) ∙ ap (residue m) (+ℤ_assoc z (neg_ℤ (pos n)) (pos n) ∙ ap (λ w. z +ℤ w) (+ℤ_invl (pos n)) ∙ +ℤ_idr z)

-- the words of a number say its residue
pub joined_words : (k n : ℕ) → joined64 (words64 k n) ≡ n % 2 ^ (64 * k)
unfolding joined64 words64
joined_words zero n = sym (mod-one n)
joined_words (suc k) n =
    let rest = joined_words k (n / 2 ^ 64) in
    let split : 64 * suc k ≡ 64 * k + 64 = omega arith in
    rw (split, mod-pow-add n (64 * k) 64) (omega arith)
