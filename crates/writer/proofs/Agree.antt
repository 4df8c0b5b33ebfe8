-- The records that the work numbers give are those of the formulas with these numbers.
use Prim.Native.Nat.{ℕ, zero, suc, ◌+◌, ◌-◌, ◌≤◌, ◌<◌, min}
use native.Mathlib.Omega.{arith}
use mathlib.Core.Path.{◌≡◌, refl, ap, ap₂, ◌∙◌}
use mathlib.Core.Bool.{Bool, true, false, cond, ◌&&◌}
use mathlib.Core.List.Memᴰ
use mathlib.Core.List.{List, [], ◌∷◌, ◌++◌, map}
use borrow.Author.Tests.{ne_eqb}
use lib.Dec.{eqb}
use Rattle.model.specs.Lists.{rising, falling, joined, kept}
use Rattle.model.specs.Label.{label}
use Rattle.model.specs.Fill.{Plan, position, held}
use Rattle.model.specs.Formula.{Formula, C, Y, X}
use Rattle.model.specs.Crout.{inner, lower, upper, forward, backward, batch, formulas}
use Rattle.model.specs.Program.{Record, records_of}
use Rattle.model.proofs.Lists.{Each, map-append, joined-append, rising-each, falling-each}
use Rattle.model.proofs.Labels.{Inside}
use Rattle.writer.specs.Worked.{number_at, kept_at, formula_at}
use Rattle.writer.specs.Line.{place_at, line_at, y_at, x_at, batch_at, plan_records}

-- ---- lists

module _ {A : Type 0} where
  pub kept_agree : (g h : ℕ → A) (t u : ℕ → Bool) (l : List ℕ) → Each (λ k. (g k ≡ h k) × (t k ≡ u k)) l → map g (kept t l) ≡ map h (kept u l)
  unfolding kept
  kept_agree g h t u [] each = refl
  kept_agree g h t u (k ∷ l) each =
      let here = each k (Memᴰ.head refl) in
      rw here.1 (step (u k) here.0 (kept_agree g h t u l (λ x m. each x (Memᴰ.tail m))))
    where
      step : (b : Bool) → g k ≡ h k → map g (kept t l) ≡ map h (kept u l) → map g (cond b (k ∷ kept t l) (kept t l)) ≡ map h (cond b (k ∷ kept u l) (kept u l))
      step true e rest = ap₂ ◌∷◌ e rest
      step false e rest = rest

-- the records of a row of formulas
records_of_all : List Formula → List Record
records_of_all fs = joined (map records_of fs)

all_append : (fs gs : List Formula) → records_of_all (fs ++ gs) ≡ records_of_all fs ++ records_of_all gs
unfolding records_of_all
all_append fs gs = ap joined (map-append records_of fs gs) ∙ joined-append (map records_of fs) (map records_of gs)

-- of those that are kept, of several rows, and of a falling row
all-kept : (f : ℕ → Formula) (t : ℕ → Bool) (r : ℕ → List Record) (a d : ℕ) → ((k : ℕ) → a ≤ k → k < a + d → cond (t k) (records_of (f k)) [] ≡ r k)
    → records_of_all (map f (kept t (rising (λ k. k) a d))) ≡ joined (rising r a d)
unfolding records_of_all kept rising joined
all-kept f t r a zero same = refl
all-kept f t r a (suc d) same =
    one (t a) _ ∙ ap₂ ◌++◌ (same a (omega arith) (omega arith)) (all-kept f t r (suc a) d (λ k low high. same k (omega arith) (omega arith)))
  where
    one : (b : Bool) (ks : List ℕ) → records_of_all (map f (cond b (a ∷ ks) ks)) ≡ cond b (records_of (f a)) [] ++ records_of_all (map f ks)
    one true ks = refl
    one false ks = refl

all-joined : (f : ℕ → List Formula) (r : ℕ → List Record) (a d : ℕ) → ((k : ℕ) → a ≤ k → k < a + d → records_of_all (f k) ≡ r k)
    → records_of_all (joined (rising f a d)) ≡ joined (rising r a d)
unfolding records_of_all rising joined
all-joined f r a zero same = refl
all-joined f r a (suc d) same =
    all_append (f a) (joined (rising f (suc a) d))
    ∙ ap₂ ◌++◌ (same a (omega arith) (omega arith)) (all-joined f r (suc a) d (λ k low high. same k (omega arith) (omega arith)))

all-falling : (f : ℕ → Formula) (r : ℕ → List Record) (a d : ℕ) → d ≤ a → ((k : ℕ) → 1 ≤ k → k ≤ a → records_of (f k) ≡ r k)
    → records_of_all (falling f a d) ≡ joined (falling r a d)
unfolding records_of_all falling joined
all-falling f r a zero high same = refl
all-falling f r a (suc d) high same =
    ap₂ ◌++◌ (same a (omega arith) (omega arith)) (all-falling f r (a - 1) d (omega arith) (λ k low below. same k low (omega arith)))

-- ---- formulas

abbrev pub pair : ℕ → ℕ → ℕ × ℕ
pair a b = (a, b)

-- a formula for C, from what differs
in_c : ℕ → ℕ → List (ℕ × ℕ) → ℕ → Bool → Formula
in_c target start products divisor pivot = record { table = C; target = target; start = start; products = products; divisor = divisor; pivot = pivot }

-- the work numbers of the places are these, and exactly the held places have one
module _ (n : ℕ) (L : Plan) (number : ℕ → ℕ → ℕ) (work : List ℕ)
    (same : (i j : ℕ) → Inside n i j → (number i j ≡ number_at n work i j) × (held n L i j ≡ kept_at n work i j)) where
  inner_agree : (i j m : ℕ) → Inside n i j → m ≡ min i j → inner n L number (held n L) i j m ≡ inner n [] (number_at n work) (kept_at n work) i j (min i j)
  unfolding inner
  inner_agree i j m inside least =
      rw least (kept_agree _ _ _ _ _ (rising-each _ (λ h. h) 1 (min i j - 1) (λ h low below.
      let left = same i h (omega arith) in
      let right = same h j (omega arith) in
      (ap₂ pair left.0 right.0, ap₂ ◌&&◌ left.1 right.1))))

  abbrev low_formula : ℕ → ℕ → Formula
  low_formula = lower n L number (held n L)

  abbrev high_formula : ℕ → ℕ → Formula
  high_formula = upper n L number (held n L)

  lower_agree : (i m : ℕ) → Inside n i m → m ≤ i → low_formula i m ≡ formula_at n work (number_at n work i m) (position L (label n i m)) 0 i m
  unfolding lower formula_at in_c
  lower_agree i m inside below =
      ap₂ (λ target products. in_c target (position L (label n i m)) products 0 (eqb i m)) (same i m inside).0 (inner_agree i m m inside (omega arith))

  upper_agree : (m j : ℕ) → Inside n m j → m < j
      → high_formula m j ≡ formula_at n work (number_at n work m j) (position L (label n m j)) (number_at n work m m) m j
  unfolding upper formula_at in_c
  upper_agree m j inside above =
      rw (ne_eqb m j (omega arith), ← (same m m (omega arith)).0)
      (ap₂ (λ target products. in_c target (position L (label n m j)) products (number m m) false)
      (same m j inside).0 (inner_agree m j m inside (omega arith)))

  forward_agree : (m : ℕ) → Inside n m m → records_of (forward n L number (held n L) m) ≡ y_at n work m
  unfolding y_at forward
  forward_agree m inside =
      rw (same m m inside).0
      (ap (λ products. records_of (record { table = Y; target = m; start = m; products = products; divisor = number_at n work m m; pivot = false }))
      (kept_agree _ _ _ _ _ (rising-each _ (λ h. h) 1 (m - 1) (λ h low below. let left = same m h (omega arith) in (ap (λ p. pair p h) left.0, left.1)))))

  backward_agree : (i : ℕ) → Inside n i i → records_of (backward n L number (held n L) i) ≡ x_at n work i
  unfolding x_at backward
  backward_agree i inside =
      ap (λ products. records_of (record { table = X; target = i; start = i; products = products; divisor = 0; pivot = false }))
      (kept_agree _ _ _ _ _ (falling-each _ (λ h. h) n (n - i) (λ h high low. let right = same i h (omega arith) in (ap (λ p. pair p h) right.0, right.1))))

  batch_agree : (m : ℕ) → Inside n m m → records_of_all (batch n L number (held n L) m) ≡ batch_at n L work m
  unfolding batch batch_at line_at place_at records_of_all joined
  batch_agree m inside =
      let long : suc n - suc m ≡ n - m = omega arith in
      rw long (all_append (map (λ i. low_formula i m) (kept (λ i. held n L i m) (rising (λ i. i) m (suc n - m)))) _
      ∙ ap₂ ◌++◌ (all-kept (λ i. low_formula i m) (λ i. held n L i m) _ m (suc n - m) (λ i low high. at-column i low (omega arith)))
      (ap₂ ◌++◌ (forward_agree m inside) (all-kept (λ j. high_formula m j) (λ j. held n L m j) _ (suc m) (n - m) (λ j low high. at_row j low (omega arith)))))
    where
      at-column : (i : ℕ) → m ≤ i → i ≤ n → cond (held n L i m) (records_of (low_formula i m)) [] ≡ line_at n L work false m i
      at-column i low high =
          let inside : Inside n i m = omega arith in
          ap₂ (λ b rs. cond b rs []) (same i m inside).1 (ap records_of (lower_agree i m inside low))

      at_row : (j : ℕ) → m < j → j ≤ n → cond (held n L m j) (records_of (high_formula m j)) [] ≡ line_at n L work true m j
      at_row j low high =
          let inside : Inside n m j = omega arith in
          ap₂ (λ b rs. cond b rs []) (same m j inside).1 (ap records_of (upper_agree m j inside low))

  -- The headline: batch by batch, and then the solution, the records of the formulas with these numbers are the plan's.
  pub records_agree : joined (map records_of (formulas n L number (held n L))) ≡ plan_records n L work
  unfolding formulas records_of_all
  records_agree =
      let long : suc n - 1 ≡ n = omega arith in
      let all : n - 0 ≡ n = omega arith in
      rw (long, all) (all_append (joined (rising (batch n L number (held n L)) 1 n)) _
      ∙ ap₂ ◌++◌ (all-joined (batch n L number (held n L)) _ 1 n (λ m low high. batch_agree m (omega arith)))
      (all-falling (backward n L number (held n L)) _ n n (omega arith) (λ i low high. backward_agree i (omega arith))))
