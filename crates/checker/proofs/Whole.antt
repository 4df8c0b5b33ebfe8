-- Checks 7, 8 and 18, before the chain.
use Prim.Native.Nat.{ℕ, ◌/◌, ◌%◌, ◌≤◌, ◌<◌}
use mathlib.Core.Path.{◌≡◌, refl, sym, ap, ap₂, ◌∙◌}
use mathlib.Core.Bool.{Bool, true, false, ◌&&◌}
use mathlib.Core.List.{List}
use lib.Dec.{leb, ltb, eqb}
use lib.ListN.{length}
use borrow.Author.Tests.{ltb-true, leb-true, eqb-true, eq-eqb, ne_eqb}
use Rattle.model.specs.Check.{word, Verdict, refusal, check_from, check}
use Rattle.model.specs.File.{words_of, check_file}
use Rattle.model.proofs.Passing.{both}
use Rattle.progress.specs.declared.Head.{Head}
use Rattle.model.proofs.Passing.{eight}
use Rattle.checker.specs.Whole.{count_fits, followed}

pub count_true : (n : ℕ) → count_fits n ≡ true → (0 < n) × ((n % 4 ≡ 0) × (n / 4 ≤ 100000000))
count_true n e =
    let some = both (ltb 0 n) (eqb (n % 4) 0 && leb (n / 4) 100000000) e in
    let rest = both (eqb (n % 4) 0) (leb (n / 4) 100000000) some.1 in
    (ltb-true 0 n some.0, (eqb-true (n % 4) 0 rest.0, leb-true (n / 4) 100000000 rest.1))

-- 7, then 8, then what the chain gives
abbrev whole : Bool → Bool → Verdict → Verdict
whole false heads v = refusal 7 0
whole true false v = refusal 8 0
whole true true v = v

-- record 0
abbrev pub head_of : List ℕ → Head
head_of W = record { order = word W 0; coefficients = word W 1; slots = word W 2 }

module _ (least : ℕ) where
  check_is : (W : List ℕ) → whole (count_fits (length W)) (eight least (word W 0) (word W 1) (word W 2)) (followed (head_of W) W) ≡ check_from least W
  unfolding check_from
  check_is W = step (count_fits (length W)) (eight least (word W 0) (word W 1) (word W 2)) (followed (head_of W) W)
    where
      step : (counts heads : Bool) (v : Verdict)
          → whole counts heads v ≡ elim counts [ false ↦ refusal 7 0 | true ↦ elim heads [ false ↦ refusal 8 0 | true ↦ v ] ]
      step false heads v = refl
      step true false v = refl
      step true true v = refl

  pub refused_7 : (W : List ℕ) → count_fits (length W) ≡ false → refusal 7 0 ≡ check_from least W
  refused_7 W e = ap (λ b. whole b (eight least (word W 0) (word W 1) (word W 2)) (followed (head_of W) W)) (sym e) ∙ check_is W

  module _ (h : Head) (W : List ℕ) (at : h ≡ head_of W) (fits : count_fits (length W) ≡ true) where
    checked : {heads : Bool} → eight least h.order h.coefficients h.slots ≡ heads → whole true heads (followed h W) ≡ check_from least W
    checked e =
        ap (λ b. whole true b (followed h W)) (sym e)
        ∙ ap₂ (λ b h. whole b (eight least h.order h.coefficients h.slots) (followed h W)) (sym fits) at ∙ check_is W

    pub refused_8 : eight least h.order h.coefficients h.slots ≡ false → refusal 8 0 ≡ check_from least W
    refused_8 = checked

    pub chain-checked : eight least h.order h.coefficients h.slots ≡ true → followed h W ≡ check_from least W
    chain-checked = checked

-- a check of programs and of sweeps
pub any_slots : (W : List ℕ) → check_from 0 W ≡ check W
unfolding check
any_slots W = refl

module _ (bs : List ℕ) where
  pub refused_18 : (length bs % 4 ≡ 0 → ⊥) → refusal 18 0 ≡ check_file bs
  unfolding check_file
  refused_18 other = rw (check_file, ne_eqb (length bs % 4) 0 other)

  pub file_checked : length bs % 4 ≡ 0 → check_from 0 (words_of bs) ≡ check_file bs
  unfolding check_file
  file_checked e = rw (check_file, eq-eqb (length bs % 4) 0 e) (any_slots (words_of bs))
