-- The sets of labels are the plans, and each is counted once: document 02, A.13.
use Prim.Native.Nat.{ℕ, zero, suc, ◌+◌, ◌-◌, ◌*◌, ◌/◌, ◌%◌, ◌^◌, ◌≤◌, ◌<◌}
use native.Mathlib.Nat.{zero-add, mod-eq_of_lt, mod-lt, mod-one}
use native.Mathlib.Omega.{arith}
use mathlib.Core.Path.{◌≡◌, refl, sym, ap, ◌∙◌}
use mathlib.Core.Bool.{Bool, true, false, cond}
use mathlib.Core.List.Memᴰ
use mathlib.Core.List.{List, [], ◌∷◌, ◌++◌, map, append-nil, Memᴰ}
use borrow.Author.Tests.{eqb-true, eqb-false, eq-eqb, ne_eqb}
use lib.Dec.{eqb}
use lib.ListN.{length, get_or}
use lib.Pow.{mod-pow-add}
use Rattle.model.specs.Lists.{rising, kept, total}
use Rattle.model.specs.Fill.{Plan, missing}
use Rattle.model.specs.Compile.{judged, good}
use Rattle.model.specs.Path.{named}
use Rattle.model.specs.Census.{sets, plans, plans_missing, plan_counts, SetsArePlans, NoneAbove, CountedOnce}
use Rattle.model.proofs.Lists.{Each, rising-each, get_or-rising, length-rising}
use Rattle.model.proofs.Search.{kept-none}
use Rattle.model.proofs.Sums.{rising_constant, rising_but_one}
use Rattle.model.proofs.Within.{within-range}
use Rattle.model.proofs.Plans.{missing-free}
use Rattle.model.proofs.Named.{row, labels-past, kept-judged, kept-named}
use Rattle.model.proofs.Sets.{digit, marked, row_last, marked-kept, sets-marked}

-- ---- each set is a plan

sets-judged : (N : ℕ) → Each (λ L. judged N 0 1 L ≡ good) (plans N)
unfolding plans
sets-judged N = rw (sets-marked (N * N)) (rising-each _ (marked (N * N)) 0 (2 ^ (N * N)) (λ b low high. each b))
  where
    each : (b : ℕ) → judged N 0 1 (marked (N * N) b) ≡ good
    each b = rw (marked-kept (N * N) b) (kept-judged N _ 1 (N * N) 0 1 (omega arith) (omega arith))

-- ---- each plan is among the sets

member_map : {A B : Type 0} (f : A → B) {x : A} {l : List A} → Memᴰ x l → Memᴰ (f x) (map f l)
member_map f (Memᴰ.head e) = Memᴰ.head (ap f e)
member_map f (Memᴰ.tail m) = Memᴰ.tail (member_map f m)

kept_in_sets : (t : ℕ → Bool) (c : ℕ) → Memᴰ (kept t (row 1 c)) (sets c)
unfolding sets
kept_in_sets t zero = unfold kept rising in Memᴰ.head refl
kept_in_sets t (suc c) = rw (row_last t c) (step (t (suc c)) (kept_in_sets t c))
  where
    step : (b : Bool) → Memᴰ (kept t (row 1 c)) (sets c)
        → Memᴰ (kept t (row 1 c) ++ cond b (suc c ∷ []) []) (sets c ++ map (λ L. L ++ (suc c ∷ [])) (sets c))
    step true m = Memᴰ.append_right (sets c) (member_map (λ L. L ++ (suc c ∷ [])) m)
    step false m = rw (append-nil (kept t (row 1 c))) (Memᴰ.append_left _ m)

plan_in_sets : (N : ℕ) (L : Plan) → judged N 0 1 L ≡ good → Memᴰ L (plans N)
unfolding plans
plan_in_sets N L e =
    let past = labels-past N 0 1 L e in
    Memᴰ.cast (sym (kept-named N 0 1 1 (N * N) L e (λ x m. ((past x m).0, omega (arith, (past x m).1))))) (kept_in_sets (λ x. named x L) (N * N))

-- ---- none stands twice

-- the number whose digits mark a set
weight : Plan → ℕ
weight L = total (map (λ x. 2 ^ (x - 1)) L)

weight_append : (xs ys : Plan) → weight (xs ++ ys) ≡ weight xs + weight ys
unfolding weight total
weight_append [] ys = omega arith
weight_append (x ∷ xs) ys = omega (arith, weight_append xs ys)

weight_marked : (c b : ℕ) → weight (marked c b) ≡ b % 2 ^ c
unfolding marked
weight_marked zero b = unfold weight total in sym (mod-one b)
weight_marked (suc c) b =
    let one : suc c ≡ 1 + c = omega arith in
    weight_append (marked c b) (cond (eqb (digit b c) 1) (suc c ∷ []) [])
    ∙ step (eqb (digit b c) 1) refl (weight_marked c b)
    ∙ sym (ap (λ n. b % 2 ^ n) one ∙ mod-pow-add b 1 c)
  where
    last : weight (suc c ∷ []) ≡ 2 ^ c
    last = unfold weight total in (let e : suc c - 1 ≡ c = omega arith in rw e (omega arith))

    none : (d p r : ℕ) → d < 2 → (d ≡ 1 → ⊥) → r + 0 ≡ d * p + r
    none zero p r h n = omega arith
    none (suc zero) p r h n = absurd (n refl)
    none (suc (suc d)) p r h n = absurd (omega arith)

    step : (d : Bool) → eqb (digit b c) 1 ≡ d → weight (marked c b) ≡ b % 2 ^ c
        → weight (marked c b) + weight (cond d (suc c ∷ []) []) ≡ digit b c * 2 ^ c + b % 2 ^ c
    step true e rest = rw (rest, last, eqb-true (digit b c) 1 e) (omega arith)
    step false e rest = rw rest (unfold weight total in none (digit b c) (2 ^ c) (b % 2 ^ c) (mod-lt (b / 2 ^ c) (omega arith)) (eqb-false (digit b c) 1 e))

pub sets-length : (c : ℕ) → length (sets c) ≡ 2 ^ c
sets-length c = ap length (sets-marked c) ∙ length-rising (marked c) 0 (2 ^ c)

sets-once : (c a b : ℕ) → a < length (sets c) → b < length (sets c) → get_or (sets c) a [] ≡ get_or (sets c) b [] → a ≡ b
sets-once c a b p q e = sym (worth a (rw (sets-length c) at p)) ∙ ap weight e ∙ worth b (rw (sets-length c) at q)
  where
    worth : (k : ℕ) → k < 2 ^ c → weight (get_or (sets c) k []) ≡ k
    worth k h =
        ap (λ l. weight (get_or l k [])) (sets-marked c)
        ∙ ap weight (get_or-rising (marked c) 0 (2 ^ c) k [] h)
        ∙ weight_marked c (0 + k)
        ∙ ap (λ n. n % 2 ^ c) (zero-add k)
        ∙ mod-eq_of_lt h

pub sets-are-plans : SetsArePlans
unfolding plans
sets-are-plans N = (λ L m. sets-judged N L m, λ L e. plan_in_sets N L e, λ a b p q e. sets-once (N * N) a b p q e)

-- ---- the counts

pub missing-at_most : (N : ℕ) (L : Plan) → missing N L ≤ N
missing-at_most N L = step (eqb (missing N L) 0) refl
  where
    step : (b : Bool) → eqb (missing N L) 0 ≡ b → missing N L ≤ N
    step true e = omega (arith, eqb-true (missing N L) 0 e)
    step false e = (missing-free N L (eqb-false (missing N L) 0 e)).high

pub none_above : NoneAbove
unfolding plans_missing
none_above N m h = ap length (kept-none (λ L. eqb (missing N L) m) (plans N) (λ L x. ne_eqb (missing N L) m (λ e. omega (arith, missing-at_most N L))))

-- the elements of a list, parted by a number below n
parted : {A : Type 0} (f : A → ℕ) (n : ℕ) (l : List A) → ((x : A) → f x < n) → total (rising (λ m. length (kept (λ x. eqb (f x) m) l)) 0 n) ≡ length l
unfolding kept
parted f n [] h = rising_constant (λ m. 0) 0 0 n (λ k low high. refl) ∙ omega arith
parted f n (x ∷ l) h =
    let counts : ℕ → ℕ = λ m. length (kept (λ x. eqb (f x) m) l) in
    let more = rising_but_one counts (λ m. length (kept (λ x. eqb (f x) m) (x ∷ l))) (f x) 0 n (λ k low high z. rw (ne_eqb (f x) k (λ q. z (sym q)))) (omega arith) (omega (arith, h x)) in
    let here : length (kept (λ y. eqb (f y) (f x)) (x ∷ l)) ≡ suc (counts (f x)) = rw (eq-eqb (f x) (f x) refl) in
    omega (arith, parted f n l h)

pub counted-once : CountedOnce
unfolding plan_counts plans_missing plans
counted-once N h =
    let few : (L : Plan) → missing N L < 5 = λ L. omega (arith, missing-at_most N L, (within-range N 4 h).1) in
    rw (h, plan_counts) (parted (missing N) 5 (sets (N * N)) few ∙ sets-length (N * N))
