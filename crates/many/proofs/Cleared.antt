-- The parts of the right sides that were refused are cleared one by one.
use Prim.Native.Nat.{ℕ, ◌+◌, ◌*◌, ◌≤◌, ◌<◌}
use native.Mathlib.Nat.{mul-le-mul_right}
use native.Mathlib.Omega.{arith}
use mathlib.Core.Path.{◌≡◌, ap, ◌∙◌}
use mathlib.Core.List.{List, ◌++◌}
use borrow.Author.Count.{below_more}
use borrow.Author.Tests.{eq-eqb, ne_eqb}
use lib.ListN.{length, get_or, take, drop, replicate, length-replicate}
use lib.Ieee.{Float}
use Rattle.model.specs.Arith.{plus_zero}
use Rattle.model.specs.Many.{part}
use Rattle.model.proofs.Parts.{part_length, with_part, with_length, with_same, with_others}
use Rattle.many.specs.Passes.{ClearedEnded}

-- between two sides: the parts below r are as they shall be, the others as they were
pub record PartsCleared (count N r : ℕ) (out : List ℕ) (values₀ values : List Float) : Type 0 where
  pub low : r ≤ count
  pub long : length values ≡ count * N
  pub done : ClearedEnded r N out values₀ values
  pub rest : (j : ℕ) → r ≤ j → part N values j ≡ part N values₀ j

module _ {count N r : ℕ} {out : List ℕ} {values₀ values : List Float} (p : PartsCleared count N r out values₀ values) where
  -- one side more, which goes on
  pub cleared-going : r < count → get_or out (4 * r + 1) 0 ≡ 0 → PartsCleared count N (r + 1) out values₀ values
  cleared-going h e = record {
    low = omega arith;
    long = p.long;
    done = below_more _ r p.done (rw (eq-eqb _ _ e) (p.rest r (omega arith)));
    rest = λ j h. p.rest j (omega arith);
  }

  -- or was refused; the part is lent by its two ends
  pub cleared-ended : (n : ℕ) (back : List Float) → r < count → (get_or out (4 * r + 1) 0 ≡ 0 → ⊥) → n ≡ N
      → back ≡ replicate (length (take n (drop (r * N) values))) plus_zero
      → PartsCleared count N (r + 1) out values₀ (take (r * N) values ++ (back ++ drop n (drop (r * N) values)))
  cleared-ended n back h e same is =
      let whole : back ≡ replicate N plus_zero = rw same at is ∙ ap (λ n. replicate n plus_zero) (part_length N count values r p.long h) in
      let fits : length back ≡ N = ap length whole ∙ length-replicate N plus_zero in
      let within : r * N + N ≤ length values = omega (arith, mul-le-mul_right N h, p.long) in
      let other : (j : ℕ) → (j ≡ r → ⊥) → part N (with_part N r values back) j ≡ part N values j = with_others N r values back within fits in
      rw same (record {
        low = omega arith;
        long = with_length N r values back within fits ∙ p.long;
        done = below_more _ r (λ j low. other j (omega arith) ∙ p.done j low) (rw (ne_eqb _ _ e) (with_same N r values back within fits ∙ whole));
        rest = λ j h. other j (omega arith) ∙ p.rest j (omega arith);
      })
