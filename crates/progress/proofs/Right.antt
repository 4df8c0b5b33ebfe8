-- A record that none of 10 to 12 refuses, by what is open.
use Prim.Native.Nat.{ℕ, ◌+◌, ◌≤◌, ◌<◌}
use native.Mathlib.Omega.{arith}
use mathlib.Core.Path.{◌≡◌, refl, sym, ap, ◌∙◌}
use mathlib.Core.Bool.{Bool, true, false, cond, ◌&&◌, and-false, true≢false}
use lib.Dec.{ltb, eqb}
use borrow.Author.Tests.{ltb-true, eqb-true, ne_eqb}
use Rattle.model.specs.Formula.{Table, C, Y, X, number_of}
use Rattle.model.specs.Check.{Open, idle, busy, Kind, opens, subtracts, divides, closes, closes_pivot, none, kind_of}
use Rattle.model.specs.Check.{belongs, formed, in_order, in_turn, same_table}
use Rattle.model.proofs.Within.{within-range}
use Rattle.progress.specs.declared.Head.{Head}
use Rattle.progress.specs.declared.Target.{Target}
use Rattle.progress.specs.declared.Progress.{Progress}
use Rattle.progress.specs.Steps.{open_of, open_number, progress_of, first_of, right_in}
use Rattle.progress.proofs.Judging.{Known, is_crout, no_sweep, crout_arm}

-- what the number of the open table says
pub number-few : (t : Target) → open_number t ≤ 3
number-few Target.Nothing = omega arith
number-few Target.C = omega arith
number-few Target.Y = omega arith
number-few Target.X = omega arith

pub record Busy (t : Target) (k : ℕ) : Type 0 where
  pub table : Table
  pub is : open_of t k ≡ busy table k
  pub number_is : open_number t ≡ number_of table

pub is-busy : (t : Target) (k : ℕ) → (open_number t ≡ 0 → ⊥) → Busy t k
is-busy Target.Nothing k some = absurd (some refl)
is-busy Target.C k some = record { table = C; is = refl; number_is = refl }
is-busy Target.Y k some = record { table = Y; is = refl; number_is = refl }
is-busy Target.X k some = record { table = X; is = refl; number_is = refl }

-- what is in order then
pub opens-idle : (t : Table) (o : Open) → o ≡ idle → true ≡ in_order (opens t) o
unfolding in_order
opens-idle t o e = ap (in_order (opens t)) (sym e)

-- a record is right if all three tests hold, and not if one of the first two fails
right_when : (f o t : Bool) → f && (o && t) ≡ eqb (first_of f o t) 0
unfolding first_of
right_when false o t = refl
right_when true false t = refl
right_when true true false = refl
right_when true true true = refl

wrong_when : (f o t : Bool) → o && f ≡ false → false ≡ eqb (first_of f o t) 0
unfolding first_of
wrong_when false o t e = refl
wrong_when true false t e = refl
wrong_when true true t e = absurd (true≢false e)

-- kinds other than 1 to 3 while nothing is open; kinds other than 7 to 9 while one of table u is
unordered_idle : (p q : ℕ) (four five six seven eight nine : Bool)
    → let k = cond four (subtracts C) (cond five (subtracts Y) (cond six (subtracts X)
    (cond seven divides (cond eight closes (cond nine closes_pivot none))))) in
    in_order k idle && formed k p q ≡ false
unfolding in_order formed
unordered_idle p q true five six seven eight nine = refl
unordered_idle p q false true six seven eight nine = refl
unordered_idle p q false false true seven eight nine = refl
unordered_idle p q false false false true eight nine = refl
unordered_idle p q false false false false true nine = refl
unordered_idle p q false false false false false true = refl
unordered_idle p q false false false false false false = refl

unordered_busy : (p q : ℕ) (u : Table) (n : ℕ) (one two three four five six : Bool)
    → (four ≡ true → same_table C u ≡ false) → (five ≡ true → same_table Y u ≡ false) → (six ≡ true → same_table X u ≡ false)
    → let k = cond one (opens C) (cond two (opens Y) (cond three (opens X)
    (cond four (subtracts C) (cond five (subtracts Y) (cond six (subtracts X) none))))) in
    in_order k (busy u n) && formed k p q ≡ false
unfolding in_order formed
unordered_busy p q u n true two three four five six n4 n5 n6 = refl
unordered_busy p q u n false true three four five six n4 n5 n6 = refl
unordered_busy p q u n false false true four five six n4 n5 n6 = refl
unordered_busy p q u n false false false true five six n4 n5 n6 = ap (λ b. b && true) (n4 refl)
unordered_busy p q u n false false false false true six n4 n5 n6 = ap (λ b. b && true) (n5 refl)
unordered_busy p q u n false false false false false true n4 n5 n6 = ap (λ b. b && true) (n6 refl)
unordered_busy p q u n false false false false false false n4 n5 n6 = refl

-- what is above 9 is none of 1 to 9
above_nine : (kind m : ℕ) → kind ≤ 9 → ltb 9 m ≡ true → eqb kind m ≡ false
above_nine kind m low high = ne_eqb kind m (λ e. omega (arith, ltb-true 9 m high))

module _ (h : Head) (g : Progress) (kind p q : ℕ) (some : 0 < h.slots) where
  pub right_arm : {k : Kind} → Known is_crout kind k → {f o t : Bool} → f ≡ formed k p q → o ≡ in_order k (progress_of g).target
      → t ≡ in_turn h.order h.coefficients h.slots k p q (progress_of g) → f && (o && t) ≡ right_in h g kind p q
  right_arm is {f} {o} {t} ten eleven twelve = right_when f o t ∙ ap (λ r. eqb r 0) (crout_arm h g kind p q some is ten eleven twelve)

  -- a kind outside 1 to 9 is wrong by 10, apart by what is open
  wrong : {o : Open} → (progress_of g).target ≡ o → (kind ≤ 9 → in_order (kind_of kind) o && formed (kind_of kind) p q ≡ false) → false ≡ right_in h g kind p q
  unfolding belongs
  wrong {o} is other = wrong_when _ _ _ (rw (is, no_sweep h.slots some) (step o other (is_crout kind) refl))
    where
      step : (o : Open) → (kind ≤ 9 → in_order (kind_of kind) o && formed (kind_of kind) p q ≡ false) → (b : Bool) → is_crout kind ≡ b
          → in_order (kind_of kind) o && (b && formed (kind_of kind) p q) ≡ false
      step o other false e = and-false (in_order (kind_of kind) o)
      step o other true e = other (within-range kind 9 e).1

  -- while nothing is open only 1 to 3 are right
  pub idle_wrong : (progress_of g).target ≡ idle → (kind ≡ 1 → ⊥) → (kind ≡ 2 → ⊥) → (kind ≡ 3 → ⊥) → false ≡ right_in h g kind p q
  unfolding kind_of
  idle_wrong is n1 n2 n3 = wrong is (others n1 n2 n3)
    where
      others : (kind ≡ 1 → ⊥) → (kind ≡ 2 → ⊥) → (kind ≡ 3 → ⊥) → kind ≤ 9 → in_order (kind_of kind) idle && formed (kind_of kind) p q ≡ false
      others n1 n2 n3 low =
          rw (ne_eqb kind 1 n1, ne_eqb kind 2 n2, ne_eqb kind 3 n3, above_nine kind 10 low refl, above_nine kind 11 low refl, above_nine kind 12 low refl)
          (unordered_idle p q (eqb kind 4) (eqb kind 5) (eqb kind 6) (eqb kind 7) (eqb kind 8) (eqb kind 9))

  -- while one is open, only 7 to 9 and the products of its table are right
  pub busy_wrong : (u : Table) → (progress_of g).target ≡ busy u g.number → (kind ≡ 7 → ⊥) → (kind ≡ 8 → ⊥) → (kind ≡ 9 → ⊥) → (kind ≡ number_of u + 3 → ⊥)
      → false ≡ right_in h g kind p q
  unfolding kind_of
  busy_wrong u is n7 n8 n9 other = wrong is (others n7 n8 n9)
    where
      apart : (m : ℕ) → eqb kind (m + 3) ≡ true → eqb m (number_of u) ≡ false
      apart m e = ne_eqb m (number_of u) (λ same. other (eqb-true kind (m + 3) e ∙ ap (λ m. m + 3) same))

      others : (kind ≡ 7 → ⊥) → (kind ≡ 8 → ⊥) → (kind ≡ 9 → ⊥) → kind ≤ 9 → in_order (kind_of kind) (busy u g.number) && formed (kind_of kind) p q ≡ false
      others n7 n8 n9 low =
          rw (ne_eqb kind 7 n7, ne_eqb kind 8 n8, ne_eqb kind 9 n9, above_nine kind 10 low refl, above_nine kind 11 low refl, above_nine kind 12 low refl)
          (unordered_busy p q u g.number (eqb kind 1) (eqb kind 2) (eqb kind 3) (eqb kind 4) (eqb kind 5) (eqb kind 6) (apart 1) (apart 2) (apart 3))
