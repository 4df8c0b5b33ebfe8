-- A plan with more places than another, zeros standing there: dense Crout is the same, so the two runs are. Document 02, A.9.
use Prim.Native.Nat.{ℕ, zero, suc, ◌+◌, ◌-◌, ◌≤◌, ◌<◌}
use native.Mathlib.Omega.{arith}
use native.Mathlib.Decide.{dec_le}
use mathlib.Core.Path.{◌≡◌, refl, sym, ap, ◌∙◌}
use mathlib.Core.Bool.{Bool, true, false}
use mathlib.Core.List.{List, [], ◌∷◌, ◌++◌, map}
use borrow.Author.Tests.{ne_eqb}
use lib.ListN.{get_or}
use lib.Ieee.{Float}
use Rattle.model.specs.Lists.{rising, falling, joined, kept}
use Rattle.model.specs.Label.{label, places, place}
use Rattle.model.specs.Fill.{Plan, position, held, held_places, slot, slots, product_count}
use Rattle.model.specs.Arith.{plus_zero, clean, number, overflow, zero_divisor}
use Rattle.model.specs.Formula.{C, Y, X, Tables, Formula, entry, closed, coefficient, starting, less_all, over, tested, value, vanished_in}
use Rattle.model.specs.Formula.{Ended, solved, refused, worked}
use Rattle.model.specs.Crout.{inner, lower, forward, upper, backward, batch, formulas, dense_formulas, nothing, dense}
use Rattle.model.specs.Program.{compiled}
use Rattle.model.specs.Run.{ran}
use Rattle.model.specs.Agreement.{Accepted, whole, seen, packed, compressed}
use Rattle.model.specs.Marked.{Marked, Placed, solved_as, refused_at, refused_in, value_at, placed, products_made, MarkedAlike, MarkedNever}
use Rattle.model.proofs.Lists.{map_same}
use Rattle.model.proofs.Arith.{zero_clean}
use Rattle.model.proofs.Labels.{Inside, places-inside}
use Rattle.model.proofs.Slots.{place_of_slot}
use Rattle.model.proofs.Picked.{entry-held}
use Rattle.model.proofs.Reduction.{refusal-held, solved-sound, solved-packed, never_solved}
use Rattle.model.proofs.Agreement.{agreement}
use Rattle.model.proofs.Grows.{products_grow}

-- ---- the same table

read_at : (A : List Float) (k : ℕ) → 0 < k → coefficient A k ≡ clean (get_or A (k - 1) plus_zero)
read_at A k h = rw (ne_eqb k 0 (λ e. omega arith))

module _ {L M : Plan} {A Z : List Float} (marked : Marked L M A Z) where
  -- each place's coefficient is read alike
  coefficient-same : (k : ℕ) → coefficient A (position L k) ≡ coefficient Z (position M k)
  coefficient-same k = elim (dec_le 1 (position L k)) [
    | yes h ↦ read_at A _ h ∙ ap clean (sym (marked.same k h)) ∙ sym (read_at Z _ (marked.all k h))
    | no h ↦ let none : position L k ≡ 0 = omega arith in ap (coefficient A) none ∙ elim (dec_le 1 (position M k)) [
      | yes g ↦ sym (read_at Z _ g ∙ zero_clean _ (marked.zeros k none g))
      | no g ↦ let gone : 0 ≡ position M k = omega arith in ap (coefficient Z) gone
    ]
  ]

-- ---- the same formulas, but for where they start

module _ (A Z B : List Float) where
  -- two formulas that start alike, the first from A and the second from Z, and are the same otherwise
  record Like (f g : Formula) : Type 0 where
    table : f.table ≡ g.table
    target : f.target ≡ g.target
    starts : (t : Tables) → starting A B t f.table f.start ≡ starting Z B t g.table g.start
    products : f.products ≡ g.products
    divisor : f.divisor ≡ g.divisor
    pivot : f.pivot ≡ g.pivot

  data Alike : List Formula → List Formula → Type 0 where
    none : Alike [] []
    also : {f g : Formula} {fs gs : List Formula} → Like f g → Alike fs gs → Alike (f ∷ fs) (g ∷ gs)

  -- such rows end alike
  like_value : (limit : Float) (t : Tables) {f g : Formula} → Like f g → value A B limit t f ≡ value Z B limit t g
  unfolding value
  like_value limit t l = λ i. tested limit (l.pivot i) (over t (l.divisor i) (less_all t (l.table i) (number (l.starts t i)) (l.products i)))

  alike_worked : (limit : Float) {fs gs : List Formula} → Alike fs gs → (g : ℕ) (t : Tables) → worked A B limit g t fs ≡ worked Z B limit g t gs
  unfolding worked
  alike_worked limit none g t = refl
  alike_worked limit (also l rest) g t = λ i. elim (like_value limit t l i) as (λ a. Ended) [
    | number v ↦ alike_worked limit rest (g + vanished_in t (l.table i) (l.products i)) (closed t (l.table i) (l.target i) v) i
    | overflow ↦ refused 16 (l.table i) (l.target i)
    | zero_divisor ↦ refused 17 (l.table i) (l.target i)
  ]

  append_alike : {fs gs fs' gs' : List Formula} → Alike fs gs → Alike fs' gs' → Alike (fs ++ fs') (gs ++ gs')
  append_alike none second = second
  append_alike (also l first) second = also l (append_alike first second)

  map_alike : {I : Type 0} (f g : I → Formula) → ((k : I) → Like (f k) (g k)) → (ks : List I) → Alike (map f ks) (map g ks)
  map_alike f g like [] = none
  map_alike f g like (k ∷ ks) = also (like k) (map_alike f g like ks)

  joined_alike : (f g : ℕ → List Formula) → ((k : ℕ) → Alike (f k) (g k)) → (a n : ℕ) → Alike (joined (rising f a n)) (joined (rising g a n))
  unfolding joined rising
  joined_alike f g alike a zero = none
  joined_alike f g alike a (suc n) = append_alike (alike a) (joined_alike f g alike (suc a) n)

  falling_alike : (f g : ℕ → Formula) → ((k : ℕ) → Like (f k) (g k)) → (a n : ℕ) → Alike (falling f a n) (falling g a n)
  unfolding falling
  falling_alike f g like a zero = none
  falling_alike f g like a (suc n) = also (like a) (falling_alike f g like (a - 1) n)

  module _ (N : ℕ) (L M : Plan) (same : (k : ℕ) → coefficient A (position L k) ≡ coefficient Z (position M k))
      (index : ℕ → ℕ → ℕ) (keep : ℕ → ℕ → Bool) where
    lower_like : (i m : ℕ) → Like (lower N L index keep i m) (lower N M index keep i m)
    unfolding lower inner starting
    lower_like i m = record { table = refl; target = refl; starts = λ t. same (label N i m); products = refl; divisor = refl; pivot = refl }

    upper_like : (m j : ℕ) → Like (upper N L index keep m j) (upper N M index keep m j)
    unfolding upper inner starting
    upper_like m j = record { table = refl; target = refl; starts = λ t. same (label N m j); products = refl; divisor = refl; pivot = refl }

    forward_like : (m : ℕ) → Like (forward N L index keep m) (forward N M index keep m)
    unfolding forward starting
    forward_like m = record { table = refl; target = refl; starts = λ t. refl; products = refl; divisor = refl; pivot = refl }

    backward_like : (i : ℕ) → Like (backward N L index keep i) (backward N M index keep i)
    unfolding backward starting
    backward_like i = record { table = refl; target = refl; starts = λ t. refl; products = refl; divisor = refl; pivot = refl }

    batch_alike : (m : ℕ) → Alike (batch N L index keep m) (batch N M index keep m)
    unfolding batch
    batch_alike m = append_alike (map_alike _ _ (λ i. lower_like i m) (kept (λ i. keep i m) (rising (λ i. i) m (suc N - m))))
        (also (forward_like m) (map_alike _ _ (upper_like m) (kept (λ j. keep m j) (rising (λ j. j) (suc m) (N - m)))))

    formulas_alike : Alike (formulas N L index keep) (formulas N M index keep)
    unfolding formulas
    formulas_alike = append_alike (joined_alike _ _ batch_alike 1 N) (falling_alike _ _ backward_like N N)

-- dense Crout is the same
pub dense-same : (N : ℕ) {L M : Plan} {A Z : List Float} → Marked L M A Z → (B : List Float) (limit : Float)
    → dense N L A B limit ≡ dense N M Z B limit
unfolding dense dense_formulas
dense-same N {L} {M} {A} {Z} marked B limit =
    alike_worked A Z B limit (formulas_alike A Z B N L M (coefficient-same marked) (label N) (λ i j. true)) 0 (nothing N)

-- ---- the same run, place by place

-- dense Crout's ending, place by place
dense_as : ℕ → Ended → Placed
dense_as N (solved t g) = solved_as (map (λ p. entry t C (label N p.0 p.1)) (places N)) t.y t.x g
dense_as N (refused r C k) = refused_at r (place N k)
dense_as N (refused r Y k) = refused_in r Y k
dense_as N (refused r X k) = refused_in r X k

-- the products of a run that ends so
products_for : ℕ → Plan → Ended → ℕ
products_for N L (solved t g) = product_count N L
products_for N L (refused r t k) = 0

module _ {N : ℕ} {L : Plan} {A B : List Float} {limit : Float} (accepted : Accepted N L A B limit) where
  -- each place's value is dense Crout's entry
  value-dense : (t : Tables) (g : ℕ) → dense N L A B limit ≡ solved t g → (i j : ℕ) → Inside N i j
      → value_at N L (packed N L t) (i, j) ≡ entry t C (label N i j)
  unfolding value_at
  value-dense t g e i j inside = go (held N L i j) refl
    where
      go : (b : Bool) → held N L i j ≡ b
          → elim b as (λ b. Float) [ true ↦ entry (packed N L t) C (slot N L i j) | false ↦ plus_zero ] ≡ entry t C (label N i j)
      go true h = ap (λ u. entry u C (slot N L i j)) (sym (solved-packed accepted.given t g e)) ∙ entry-held N L i j inside t h
      go false h = sym ((solved-sound accepted.given t g e).unheld i j inside h)

  values_dense : (t : Tables) (g : ℕ) → dense N L A B limit ≡ solved t g
      → map (value_at N L (packed N L t)) (places N) ≡ map (λ p. entry t C (label N p.0 p.1)) (places N)
  values_dense t g e = map_same _ _ (places N) (λ p m. value-dense t g e p.0 p.1 (places-inside N p m))

  -- a refusal in C names the place of dense Crout's label
  refused-place : (r k : ℕ) → dense N L A B limit ≡ refused r C k
      → get_or (held_places N L) (slot N L (place N k).0 (place N k).1 - 1) (0, 0) ≡ place N k
  refused-place r k e = let h = refusal-held accepted r k e in place_of_slot N L (place N k).0 (place N k).1 (0, 0) h.inside h.holds

  -- so the run ends as dense Crout does, and makes the plan's products
  placed-dense : placed N L (seen (ran (compiled N L) A B limit (slots N L) N N)) ≡ dense_as N (dense N L A B limit)
  unfolding placed compressed dense_as packed
  placed-dense = ap (placed N L) (agreement N L A B limit accepted) ∙ go (dense N L A B limit) refl
    where
      go : (e : Ended) → dense N L A B limit ≡ e → placed N L (compressed N L e) ≡ dense_as N e
      go (solved t g) e = ap (λ vs. solved_as vs t.y t.x g) (values_dense t g e)
      go (refused r C k) e = ap (refused_at r) (refused-place r k e)
      go (refused r Y k) e = refl
      go (refused r X k) e = refl

  products-dense : products_made (seen (ran (compiled N L) A B limit (slots N L) N N)) ≡ products_for N L (dense N L A B limit)
  unfolding products_made compressed products_for
  products-dense = ap products_made (agreement N L A B limit accepted) ∙ go (dense N L A B limit)
    where
      go : (e : Ended) → products_made (compressed N L e) ≡ products_for N L e
      go (solved t g) = refl
      go (refused r C k) = refl
      go (refused r Y k) = refl
      go (refused r X k) = refl

products-for : (N : ℕ) (L M : Plan) (e : Ended) → product_count N L ≤ product_count N M → products_for N L e ≤ products_for N M e
unfolding products_for
products-for N L M (solved t g) h = h
products-for N L M (refused r t k) h = omega arith

-- The headlines: where both plans are accepted, their runs end alike, place by place, and the second makes no fewer products;
pub marked_alike : (N : ℕ) (L M : Plan) (A Z B : List Float) (limit : Float) → MarkedAlike N L M A Z B limit
marked_alike N L M A Z B limit marked first second =
    let same = dense-same N marked B limit in (
      placed-dense first ∙ ap (dense_as N) same ∙ sym (placed-dense second),
      rw (products-dense first, products-dense second, same) (products-for N L M (dense N M Z B limit) (products_grow N L M marked.all)),
    )

-- a run that is seen to end in a solution is dense Crout solved
whole-solved : (N : ℕ) (M : Plan) (e : Ended) (t : Tables) (p q g k : ℕ) → whole t p q g k ≡ compressed N M e
    → (P : Type 0) → ((u : Tables) (h : ℕ) → e ≡ solved u h → P) → P
unfolding compressed
whole-solved N M (solved u h) t p q g k e P go = go u h refl
whole-solved N M (refused r C n) t p q g k e P go = let z : ◌≡◌ {A = ℕ} 0 1 = cc in absurd (omega arith)
whole-solved N M (refused r Y n) t p q g k e P go = let z : ◌≡◌ {A = ℕ} 0 1 = cc in absurd (omega arith)
whole-solved N M (refused r X n) t p q g k e P go = let z : ◌≡◌ {A = ℕ} 0 1 = cc in absurd (omega arith)

-- and where only the second is accepted, its run never ends in a solution.
pub marked_never : (N : ℕ) (L M : Plan) (A Z B : List Float) (limit : Float) → MarkedNever N L M A Z B limit
unfolding seen
marked_never N L M A Z B limit marked given gap second t p q g k e =
    whole-solved N M (dense N M Z B limit) t p q g k (sym (ap seen e) ∙ agreement N M Z B limit second) _
    (λ u h solved-so. never_solved N L A B limit given gap u h (dense-same N marked B limit ∙ solved-so))
