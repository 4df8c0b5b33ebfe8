-- The records of a formula, part by part: the opening, the products, the division and the closing.
use Prim.Native.Nat.{ℕ, zero, suc, ◌+◌, ◌-◌, ◌≤◌, min}
use native.Mathlib.Omega.{arith}
use mathlib.Core.Path.{◌≡◌, refl, sym, ap, ap₂, ◌∙◌}
use mathlib.Core.Bool.{Bool, true, false, cond, not, ◌&&◌, and-true}
use mathlib.Core.List.{List, [], ◌∷◌, ◌++◌, map, map-map}
use borrow.Author.Tests.{lt-ltb, eq-eqb, ne_eqb}
use lib.Dec.{ltb, eqb}
use Rattle.model.specs.Lists.{rising, falling, joined, kept}
use Rattle.model.specs.Crout.{inner, forward, backward}
use Rattle.model.specs.Program.{Record, rec, opening, records_of}
use Rattle.model.specs.Sweep.{row_formula, sweep_record}
use Rattle.model.proofs.Lists.{rising_agree, rising_add, map-append, joined-append}
use Rattle.model.proofs.Labels.{Inside}
use Rattle.writer.specs.Written.{product_of, quotient_of}
use Rattle.writer.proofs.Written.{Parts}
use Rattle.writer.specs.Worked.{number_at, kept_at, inner_at, product_at, up_to, down_to, formula_at}
use Rattle.writer.specs.Sweep.{right_of, others_at, row_at}

-- the records of the products that are kept of a row of numbers: one or none for each
module _ (kind : ℕ) (pair : ℕ → ℕ × ℕ) (t : ℕ → Bool) (f : ℕ → List Record) where
  abbrev record_at : ℕ → Record
  record_at h = rec kind (pair h).0 (pair h).1

  abbrev records_at : List ℕ → List Record
  records_at hs = map (λ pq. rec kind pq.0 pq.1) (map pair hs)

  one : (b : Bool) (h : ℕ) (hs : List ℕ) → records_at (cond b (h ∷ hs) hs) ≡ cond b (record_at h ∷ []) [] ++ records_at hs
  one true h hs = refl
  one false h hs = refl

  kept-rising : (a n : ℕ) → ((h : ℕ) → a ≤ h → f h ≡ cond (t h) (record_at h ∷ []) []) → records_at (kept t (rising (λ h. h) a n)) ≡ joined (rising f a n)
  unfolding kept rising joined
  kept-rising a zero same = refl
  kept-rising a (suc n) same = one (t a) a _ ∙ rw (same a (omega arith), kept-rising (suc a) n (λ h low. same h (omega arith)))

  kept-falling : (a n : ℕ) → n ≤ a → ((h : ℕ) → 1 ≤ h → f h ≡ cond (t h) (record_at h ∷ []) [])
      → records_at (kept t (falling (λ h. h) a n)) ≡ joined (falling f a n)
  unfolding kept falling joined
  kept-falling a zero high same = refl
  kept-falling a (suc n) high same = one (t a) a _ ∙ rw (same a (omega arith), kept-falling (a - 1) n (omega arith) same)

both_factors : (kind p q : ℕ) → 1 ≤ q → product_of kind p q ≡ cond (ltb 0 p) (rec kind p q ∷ []) []
both_factors kind p q some = rw (lt-ltb 0 q some, and-true (ltb 0 p))

module _ (n : ℕ) (work : List ℕ) where
  pub place-parts : (slot position divisor i j kind : ℕ) → kind ≡ cond (eqb i j) 9 8 → Parts (records_of (formula_at n work slot position divisor i j))
      (rec 1 position slot ∷ []) (up_to (inner_at n work i j) (min i j)) (quotient_of 7 divisor) (rec kind 0 0 ∷ [])
  unfolding records_of formula_at opening inner inner_at kept_at
  place-parts slot position divisor i j kind e =
      record {
        are = rw e (ap (λ rs. rec 1 position slot ∷ (rs ++ (quotient_of 7 divisor ++ (rec (cond (eqb i j) 9 8) 0 0 ∷ []))))
            (kept-rising 4 (λ h. (number_at n work i h, number_at n work h j)) (λ h. kept_at n work i h && kept_at n work h j) (inner_at n work i j) 1 (min i j - 1)
            (λ h low. refl)));
      }

  pub forward-parts : (m pivot : ℕ) → pivot ≡ number_at n work m m → Parts (records_of (forward n [] (number_at n work) (kept_at n work) m))
      (rec 2 m 0 ∷ []) (up_to (product_at n work 5 m) m) (quotient_of 7 pivot) (rec 8 0 0 ∷ [])
  unfolding records_of forward opening product_at kept_at
  forward-parts m pivot e =
      record {
        are = rw e (ap (λ rs. rec 2 m 0 ∷ (rs ++ (quotient_of 7 (number_at n work m m) ++ (rec 8 0 0 ∷ []))))
            (kept-rising 5 (λ h. (number_at n work m h, h)) (kept_at n work m) (product_at n work 5 m) 1 (m - 1)
            (λ h low. both_factors 5 (number_at n work m h) h low)));
      }

  pub backward-parts : (i : ℕ) → Parts (records_of (backward n [] (number_at n work) (kept_at n work) i))
      (rec 3 i 0 ∷ []) (down_to (product_at n work 6 i) n i) [] (rec 8 0 0 ∷ [])
  unfolding records_of backward opening product_at kept_at
  backward-parts i =
      record {
        are = ap (λ rs. rec 3 i 0 ∷ (rs ++ (rec 8 0 0 ∷ [])))
            (kept-falling 6 (λ h. (number_at n work i h, h)) (kept_at n work i) (product_at n work 6 i) n (n - i) (omega arith)
            (λ h low. both_factors 6 (number_at n work i h) h low));
      }

  -- row r of a sweep: the products of the other columns are those left of the diagonal and then those right of it
  module _ (r : ℕ) (inside : Inside n r r) where
    other : ℕ → List Record
    other j = cond (not (eqb j r) && kept_at n work r j) (rec 11 (number_at n work r j) j ∷ []) []

    apart : (j : ℕ) → 1 ≤ j → (j ≡ r → ⊥) → other j ≡ product_at n work 11 r j
    unfolding other product_at kept_at
    apart j low differs = rw (ne_eqb j r differs) (sym (both_factors 11 (number_at n work r j) j low))

    right : joined (rising other r (suc (n - r))) ≡ right_of n work r
    unfolding other joined rising
    right =
        let same : suc n - suc r ≡ n - r = omega arith in
        rw (eq-eqb r r refl, same)
        (ap joined (rising_agree other (product_at n work 11 r) (suc r) (suc r) (n - r) (λ k below. apart (suc r + k) (omega arith) (λ e. omega arith))))

    others : joined (rising other 1 n) ≡ others_at n work r
    others =
        let all : n ≡ r - 1 + suc (n - r) = omega arith in
        let here : 1 + (r - 1) ≡ r = omega arith in
        ap (λ d. joined (rising other 1 d)) all
        ∙ ap joined (rising_add other 1 (r - 1) (suc (n - r)))
        ∙ joined-append (rising other 1 (r - 1)) _
        ∙ ap₂ ◌++◌
        (ap joined (rising_agree other (product_at n work 11 r) 1 1 (r - 1) (λ k below. apart (1 + k) (omega arith) (λ e. omega arith))))
        (rw here right)

    pub row-parts : (diagonal : ℕ) → diagonal ≡ number_at n work r r
        → Parts (row_at n work r) (rec 10 r 0 ∷ []) (others_at n work r) (quotient_of 12 diagonal) (rec 8 0 0 ∷ [])
    unfolding row_at row_formula records_of opening sweep_record other
    row-parts diagonal e =
        let kept-others = kept (λ j. not (eqb j r) && kept_at n work r j) (rising (λ j. j) 1 n) in
        let products : List (ℕ × ℕ) = map (λ j. (number_at n work r j, j)) kept-others in
        record {
          are = rw e (ap (λ rs. rec 10 r 0 ∷ rs) (map-append sweep_record (map (λ pq. rec 6 pq.0 pq.1) products) _
              ∙ ap₂ ◌++◌ (map-map sweep_record (λ pq. rec 6 pq.0 pq.1) products
              ∙ kept-rising 11 (λ j. (number_at n work r j, j)) (λ j. not (eqb j r) && kept_at n work r j) other 1 n (λ j low. refl)
              ∙ others)
              (divided (eqb (number_at n work r r) 0))));
        }
      where
        divided : (b : Bool) → map sweep_record (cond b [] (rec 7 (number_at n work r r) 0 ∷ []) ++ (rec 8 0 0 ∷ []))
            ≡ cond b [] (rec 12 (number_at n work r r) 0 ∷ []) ++ (rec 8 0 0 ∷ [])
        divided true = refl
        divided false = refl
