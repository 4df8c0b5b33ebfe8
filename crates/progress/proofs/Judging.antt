-- A record's judgement by its kind: the tests on numbers that a kind makes are the model's.
use Prim.Native.Nat.{ℕ, zero, suc, ◌+◌, ◌-◌, ◌≤◌, ◌<◌}
use native.Mathlib.Omega.{arith}
use mathlib.Core.Logic.{◌⊎◌, ⊎_elim}
use mathlib.Core.Path.{◌≡◌, refl, sym, ap, subst, ◌∙◌}
use mathlib.Core.Bool.{Bool, true, false, cond, not, ◌&&◌, and-false}
use lib.Dec.{leb, ltb, eqb}
use borrow.Author.Tests.{lt-ltb, le-ltb, ltb-true, ltb-false, leb-true, ne_eqb}
use Rattle.model.specs.Label.{within}
use Rattle.model.specs.Formula.{Table, C, Y, X, number_of}
use Rattle.model.specs.Check as Check
use Rattle.model.specs.Check.{Open, idle, busy, is_idle, Kind, opens, subtracts, divides, closes, closes_pivot, none, kind_of}
use Rattle.model.specs.Check.{is_sweep, belongs, formed, in_order, in_turn, in_row, allowed, counted, onward}
use Rattle.progress.specs.declared.Head.{Head}
use Rattle.progress.specs.declared.Target.{Target}
use Rattle.progress.specs.declared.Progress.{Progress}
use Rattle.progress.specs.Steps.{open_of, open_number, progress_of, total, first_of, refusal_of}

-- 11, by the number of the open table
pub idle-number : (t : Target) (k : ℕ) → eqb (open_number t) 0 ≡ is_idle (open_of t k)
idle-number Target.Nothing k = refl
idle-number Target.C k = refl
idle-number Target.Y k = refl
idle-number Target.X k = refl

pub idle-now : (t : Target) (k : ℕ) {n : ℕ} → n ≡ open_number t → eqb n 0 ≡ is_idle (open_of t k)
idle-now t k e = ap (λ m. eqb m 0) e ∙ idle-number t k

pub opens-order : (t : Table) (o : Open) → is_idle o ≡ in_order (opens t) o
unfolding in_order
opens-order t idle = refl
opens-order t (busy u k) = refl

pub divides-order : (o : Open) → not (is_idle o) ≡ in_order divides o
unfolding in_order
divides-order idle = refl
divides-order (busy u k) = refl

pub closes-order : (o : Open) → not (is_idle o) ≡ in_order closes o
unfolding in_order
closes-order idle = refl
closes-order (busy u k) = refl

pub subtracts-order : (u : Table) (t : Target) (k : ℕ) → eqb (open_number t) (number_of u) ≡ in_order (subtracts u) (open_of t k)
unfolding in_order
subtracts-order C Target.Nothing k = refl
subtracts-order Y Target.Nothing k = refl
subtracts-order X Target.Nothing k = refl
subtracts-order C Target.C k = refl
subtracts-order C Target.Y k = refl
subtracts-order C Target.X k = refl
subtracts-order Y Target.C k = refl
subtracts-order Y Target.Y k = refl
subtracts-order Y Target.X k = refl
subtracts-order X Target.C k = refl
subtracts-order X Target.Y k = refl
subtracts-order X Target.X k = refl

pub pivot-order : (t : Target) (k : ℕ) → eqb (open_number t) 1 ≡ in_order closes_pivot (open_of t k)
unfolding in_order
pivot-order Target.Nothing k = refl
pivot-order Target.C k = refl
pivot-order Target.Y k = refl
pivot-order Target.X k = refl

-- a record counts at most one entry more of Y and X
counted-total : (o : Open) (g : Check.Progress) → total (counted o g) ≤ suc (total g)
counted-total idle g = omega arith
counted-total (busy C k) g = omega arith
counted-total (busy Y k) g = omega arith
counted-total (busy X k) g = omega arith

pub onward-total : (k : Kind) (p q : ℕ) (g : Check.Progress) → total (onward k p q g) ≤ suc (total g)
onward-total (opens t) p q g = omega arith
onward-total (subtracts t) p q g = omega arith
onward-total divides p q g = omega arith
onward-total closes p q g = counted-total g.target g
onward-total closes_pivot p q g = counted-total g.target g
onward-total none p q g = omega arith

-- what a record's kind is, and that a test lets it pass
pub record Known (test : ℕ → Bool) (kind : ℕ) (k : Kind) : Type 0 where
  pub is : kind_of kind ≡ k
  pub passes : test kind ≡ true

pub known : {test : ℕ → Bool} {kind m : ℕ} → kind ≡ m → test m ≡ true → Known test kind (kind_of m)
known {test} e t = record { is = ap kind_of e; passes = ap test e ∙ t }

-- 10's test with s above 0; with s = 0 it is `belongs 0`
abbrev pub is_crout : ℕ → Bool
is_crout k = within k 9

-- kinds 4 to 6 subtract into the table whose number is three less
pub record Subtracting (kind : ℕ) : Type 0 where
  pub table : Table
  pub kind_is : Known is_crout kind (subtracts table)
  pub number_is : kind - 3 ≡ number_of table

pub subtracting : (kind : ℕ) → 4 ≤ kind → kind ≤ 6 → Subtracting kind
unfolding kind_of
subtracting kind low high = subst Subtracting (omega arith) (step (kind - 4) (omega arith))
  where
    step : (d : ℕ) → d < 3 → Subtracting (4 + d)
    step zero h = record { table = C; kind_is = known refl refl; number_is = refl }
    step (suc zero) h = record { table = Y; kind_is = known refl refl; number_is = refl }
    step (suc (suc zero)) h = record { table = X; kind_is = known refl refl; number_is = refl }
    step (suc (suc (suc d))) h = absurd (omega arith)

-- with s above 0 a program is no sweep
pub no_sweep : (s : ℕ) → 0 < s → is_sweep s ≡ false
no_sweep s some = ne_eqb s 0 (λ e. omega arith)

-- the kinds that 10 refuses, with s above 0 and with s = 0
pub not_crout : (s kind : ℕ) → 0 < s → is_crout kind ≡ false → belongs s kind ≡ false
unfolding belongs
not_crout s kind some other = rw (no_sweep s some) other

pub not_in_row : (s kind : ℕ) → s ≡ 0 → (kind ≡ 8 → ⊥) → (kind ≡ 10 → ⊥) → (kind ≡ 11 → ⊥) → (kind ≡ 12 → ⊥) → belongs s kind ≡ false
unfolding belongs
not_in_row s kind sweep n8 n10 n11 n12 = rw (sweep, ne_eqb kind 8 n8) (step (leb 10 kind) (leb kind 12) refl refl)
  where
    step : (low high : Bool) → leb 10 kind ≡ low → leb kind 12 ≡ high → low && high ≡ false
    step false high el eh = refl
    step true false el eh = refl
    step true true el eh = absurd (omega (arith, leb-true 10 kind el, leb-true kind 12 eh))

module _ (h : Head) (g : Progress) (kind p q : ℕ) where
  pub no_kind : belongs h.slots kind ≡ false → 10 ≡ refusal_of h g kind p q
  unfolding first_of
  no_kind other = rw other

  -- one kind's tests give the refusal of a record of that kind
  arm : (k : Kind) → kind_of kind ≡ k → belongs h.slots kind ≡ true → {f o t : Bool} → f ≡ formed k p q → o ≡ in_order k (progress_of g).target
      → t ≡ allowed h.order h.coefficients h.slots k p q (progress_of g) → first_of f o t ≡ refusal_of h g kind p q
  arm k is own ten eleven twelve = rw (own, is, ten, eleven, twelve)

  pub crout_arm : 0 < h.slots → {k : Kind} → Known is_crout kind k → {f o t : Bool} → f ≡ formed k p q → o ≡ in_order k (progress_of g).target
      → t ≡ in_turn h.order h.coefficients h.slots k p q (progress_of g) → first_of f o t ≡ refusal_of h g kind p q
  unfolding belongs allowed
  crout_arm some {k} e ten eleven twelve =
      arm k e.is (rw (no_sweep h.slots some) e.passes) ten eleven (rw (no_sweep h.slots some) twelve)

  pub row_arm : h.slots ≡ 0 → {k : Kind} → Known (belongs 0) kind k → {f o t : Bool} → f ≡ formed k p q → o ≡ in_order k (progress_of g).target
      → t ≡ in_row h.order h.coefficients k p q (progress_of g) → first_of f o t ≡ refusal_of h g kind p q
  unfolding allowed
  row_arm sweep {k} e ten eleven twelve = arm k e.is (rw sweep e.passes) ten eleven (rw sweep twelve)

-- kinds 3 and 10 open an entry of X
pub opens-x : (kind : ℕ) → (kind ≡ 3) ⊎ (kind ≡ 10) → opens X ≡ kind_of kind
unfolding kind_of
opens-x kind = ⊎_elim (λ e. ap kind_of (sym e)) (λ e. ap kind_of (sym e))

-- kinds 8 and 9 close what is open
pub onward-closes : (kind p q : ℕ) (g : Check.Progress) → 8 ≤ kind → kind < 10 → counted g.target g ≡ onward (kind_of kind) p q g
unfolding kind_of
onward-closes kind p q g low high =
    let is : 8 + (kind - 8) ≡ kind = omega arith in
    subst (λ k. counted g.target g ≡ onward (kind_of k) p q g) is (step (kind - 8) (omega arith))
  where
    step : (d : ℕ) → d < 2 → counted g.target g ≡ onward (kind_of (8 + d)) p q g
    step zero h = refl
    step (suc zero) h = refl
    step (suc (suc d)) h = absurd (omega arith)

-- kinds that neither open nor close change nothing
pub onward-same : (kind p q : ℕ) (g : Check.Progress) → (kind ≡ 1 → ⊥) → (kind ≡ 2 → ⊥) → (kind ≡ 3 → ⊥) → (kind ≡ 8 → ⊥) → (kind ≡ 9 → ⊥) → (kind ≡ 10 → ⊥)
    → g ≡ onward (kind_of kind) p q g
unfolding kind_of
onward-same kind p q g n1 n2 n3 n8 n9 n10 =
    rw (ne_eqb kind 1 n1, ne_eqb kind 2 n2, ne_eqb kind 3 n3, ne_eqb kind 8 n8, ne_eqb kind 9 n9, ne_eqb kind 10 n10)
    (either (eqb kind 4) (subtracts C) _ refl (either (eqb kind 5) (subtracts Y) _ refl (either (eqb kind 6) (subtracts X) _ refl
    (either (eqb kind 7) divides _ refl (either (eqb kind 11) (subtracts X) _ refl (either (eqb kind 12) divides none refl refl))))))
  where
    either : (b : Bool) (j k : Kind) → g ≡ onward j p q g → g ≡ onward k p q g → g ≡ onward (cond b j k) p q g
    either true j k e f = e
    either false j k e f = f

-- 12 of kinds 4 to 6: C(p) is closed, and so is the second factor
abbrev pub readable_factor : ℕ → Table → ℕ → Check.Progress → Bool
readable_factor N C q g = within q g.c
readable_factor N Y q g = within q g.y
readable_factor N X q g = ltb (N - g.x) q && leb q N

subtracts-turn : (N n s : ℕ) (t : Table) (p q : ℕ) (g : Check.Progress) → within p g.c && readable_factor N t q g ≡ in_turn N n s (subtracts t) p q g
unfolding in_turn
subtracts-turn N n s C p q g = refl
subtracts-turn N n s Y p q g = refl
subtracts-turn N n s X p q g = refl

pub readable_is : (h : Head) (g : Progress) (kind p q : ℕ) (t : Table) → kind_of kind ≡ subtracts t → {a b : Bool} → a ≡ within p g.c
    → b ≡ readable_factor h.order t q (progress_of g) → a && b ≡ in_turn h.order h.coefficients h.slots (kind_of kind) p q (progress_of g)
readable_is h g kind p q t is ea eb = cc (subtracts-turn h.order h.coefficients h.slots t p q (progress_of g))

-- X(q) is closed: q is in range, and fewer entries lie above it than are closed
pub closed-x : (N x q : ℕ) → within q N && ltb (N - q) x ≡ ltb (N - x) q && leb q N
closed-x N x q = step (ltb 0 q) (leb q N) (ltb (N - q) x) refl refl refl
  where
    step : (low high up : Bool) → ltb 0 q ≡ low → leb q N ≡ high → ltb (N - q) x ≡ up → low && high && up ≡ ltb (N - x) q && high
    step false high up el eh eu = rw (le-ltb (N - x) q (omega (arith, ltb-false 0 q el)))
    step true false up el eh eu = sym (and-false (ltb (N - x) q))
    step true true true el eh eu = rw (lt-ltb (N - x) q (omega (arith, ltb-true 0 q el, leb-true q N eh, ltb-true (N - q) x eu)))
    step true true false el eh eu = rw (le-ltb (N - x) q (omega (arith, leb-true q N eh, ltb-false (N - q) x eu)))
