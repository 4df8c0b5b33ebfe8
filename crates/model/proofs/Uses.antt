-- Which slots a formula uses: `needed` of compiled records, formula by formula.
use Prim.Native.Nat.{ℕ, ◌+◌, ◌≤◌}
use native.Mathlib.Omega.{arith}
use mathlib.Core.Path.{◌≡◌, refl, sym, ap, ◌∙◌}
use mathlib.Core.Bool.{Bool, true, false, cond, ◌||◌, or_assoc, or-true}
use mathlib.Core.List.{List, [], ◌∷◌, ◌++◌, map, append_assoc, Memᴰ}
use lib.Dec.{eqb}
use borrow.Author.Tests.{eqb-true, ne_eqb}
use Rattle.model.specs.Lists.{joined}
use Rattle.model.specs.Formula.{Formula, Table, C, Y, X, number_of}
use Rattle.model.specs.Program.{Record, rec, opening, records_of}
use Rattle.model.specs.Check.{kind_of}
use Rattle.model.specs.Compact.{needed}
use Rattle.model.proofs.Lists.{Each}

-- the slot that a formula opens, 0 for none; and its products' second factor, where that is one of C
abbrev pub in_c : Table → ℕ → ℕ
in_c C k = k
in_c Y k = 0
in_c X k = 0

-- one of the products reads slot j
unfoldable pub read_by : Table → ℕ → List (ℕ × ℕ) → Bool
read_by t j [] = false
read_by t j (pq ∷ ps) = eqb j pq.0 || (eqb j (in_c t pq.1) || read_by t j ps)

-- a formula reads slot j, or closes it
unfoldable pub used_by : ℕ → Formula → Bool
used_by j f = read_by f.table j f.products || (eqb j f.divisor || eqb j (in_c f.table f.target))

-- none does if each of them reads others, and they do if one does
pub read_none : (t : Table) (j : ℕ) (ps : List (ℕ × ℕ)) → Each (λ pq. (eqb j pq.0 ≡ false) × (eqb j (in_c t pq.1) ≡ false)) ps → read_by t j ps ≡ false
unfolding read_by
read_none t j [] each = refl
read_none t j (pq ∷ ps) each =
    let here = each pq (Memᴰ.head refl) in
    rw (here.0, here.1) (read_none t j ps (λ q m. each q (Memᴰ.tail m)))

pub read_some : (t : Table) (j : ℕ) {pq : ℕ × ℕ} {ps : List (ℕ × ℕ)} → Memᴰ pq ps → eqb j pq.0 ≡ true → read_by t j ps ≡ true
unfolding read_by
read_some t j (Memᴰ.head e) h = rw (← e, h)
read_some t j (Memᴰ.tail {x} m) h = rw (read_some t j m h, or-true (eqb j (in_c t x.1))) (or-true (eqb j x.0))

-- the records of products of a formula for table t, of its division, and of its closing
abbrev pub product_records : Table → List (ℕ × ℕ) → List Record
product_records t ps = map (λ pq. rec (3 + number_of t) pq.0 pq.1) ps

abbrev pub ending : ℕ → Bool → List Record
ending d pivot = cond (eqb d 0) [] (rec 7 d 0 ∷ []) ++ (rec (cond pivot 9 8) 0 0 ∷ [])

module _ (j : ℕ) (low : 1 ≤ j) where
  not-zero : eqb j 0 ≡ false
  not-zero = ne_eqb j 0 (λ e. omega arith)

  -- a closing uses what is open
  pub needed-closing : (o : ℕ) (b : Bool) (rs : List Record) → needed o j (rec (cond b 9 8) 0 0 ∷ rs) ≡ (eqb j o || needed 0 j rs)
  unfolding needed kind_of
  needed-closing o true rs = rw not-zero
  needed-closing o false rs = rw not-zero

  pub needed_ending : (o d : ℕ) (b : Bool) (rs : List Record) → needed o j (ending d b ++ rs) ≡ (eqb j d || (eqb j o || needed 0 j rs))
  unfolding needed kind_of
  needed_ending o d b rs = step (eqb d 0) refl
    where
      step : (none : Bool) → eqb d 0 ≡ none
          → needed o j ((cond none [] (rec 7 d 0 ∷ []) ++ (rec (cond b 9 8) 0 0 ∷ [])) ++ rs) ≡ (eqb j d || (eqb j o || needed 0 j rs))
      step true e = rw (eqb-true d 0 e, not-zero) (needed-closing o b rs)
      step false e = rw not-zero (ap (λ n. eqb j d || n) (needed-closing o b rs))

  needed-product : (t : Table) (o p q : ℕ) (rs : List Record)
      → needed o j (rec (3 + number_of t) p q ∷ rs) ≡ (eqb j p || (eqb j (in_c t q) || needed o j rs))
  unfolding needed kind_of
  needed-product C o p q rs = refl
  needed-product Y o p q rs = refl
  needed-product X o p q rs = refl

  pub needed-products : (t : Table) (o : ℕ) (ps : List (ℕ × ℕ)) (rs : List Record)
      → needed o j (product_records t ps ++ rs) ≡ (read_by t j ps || needed o j rs)
  unfolding read_by
  needed-products t o [] rs = refl
  needed-products t o (pq ∷ ps) rs =
      let first = eqb j pq.0 in
      let second = eqb j (in_c t pq.1) in
      needed-product t o pq.0 pq.1 _ ∙ ap (λ n. first || (second || n)) (needed-products t o ps rs)
      ∙ sym (or_assoc first (second || read_by t j ps) (needed o j rs) ∙ ap (λ n. first || n) (or_assoc second (read_by t j ps) (needed o j rs)))

  -- an opening uses nothing
  needed-opening : (t : Table) (a k : ℕ) (rs : List Record) → needed 0 j (opening t a k ∷ rs) ≡ needed (in_c t k) j rs
  unfolding needed kind_of opening
  needed-opening C a k rs = rw not-zero
  needed-opening Y a k rs = rw not-zero
  needed-opening X a k rs = rw not-zero

  -- a formula's records need what it uses, and what the later ones need
  needed_formula : (f : Formula) (rs : List Record) → needed 0 j (records_of f ++ rs) ≡ (used_by j f || needed 0 j rs)
  unfolding used_by records_of
  needed_formula f rs =
      let read = read_by f.table j f.products in
      let opened = in_c f.table f.target in
      needed-opening f.table f.start f.target _
      ∙ ap (needed opened j) (append_assoc (product_records f.table f.products) (ending f.divisor f.pivot) rs)
      ∙ needed-products f.table opened f.products _
      ∙ ap (λ n. read || n) (needed_ending opened f.divisor f.pivot rs)
      ∙ sym
      (or_assoc read (eqb j f.divisor || eqb j opened) (needed 0 j rs) ∙ ap (λ n. read || n) (or_assoc (eqb j f.divisor) (eqb j opened) (needed 0 j rs)))

  -- so none of these need it if no formula uses it, and they do if one does
  pub needed-none : (fs : List Formula) → Each (λ f. used_by j f ≡ false) fs → needed 0 j (joined (map records_of fs)) ≡ false
  unfolding joined needed
  needed-none [] each = refl
  needed-none (f ∷ fs) each =
      needed_formula f _ ∙ rw (each f (Memᴰ.head refl)) (needed-none fs (λ g m. each g (Memᴰ.tail m)))

  pub needed-some : {f : Formula} {fs : List Formula} → Memᴰ f fs → used_by j f ≡ true → needed 0 j (joined (map records_of fs)) ≡ true
  unfolding joined
  needed-some {f} (Memᴰ.head e) u = needed_formula _ _ ∙ rw (← e, u)
  needed-some (Memᴰ.tail {x} m) u = needed_formula x _ ∙ rw (needed-some m u) (or-true (used_by j x))
