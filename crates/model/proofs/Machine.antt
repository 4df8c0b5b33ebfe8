-- The record machine works formulas out: the run of the records of a row of formulas ends as the row does, and counts its products and
-- quotients and the products that vanish.
use Prim.Native.Nat.{ℕ, zero, suc, ◌+◌}
use native.Mathlib.Omega.{arith}
use mathlib.Core.Path.{◌≡◌, refl, ap, ap₂, ◌∙◌}
use mathlib.Core.Bool.{Bool, true, false, cond}
use mathlib.Core.List.Memᴰ
use mathlib.Core.List.{List, [], ◌∷◌, ◌++◌, map, append_assoc}
use lib.Dec.{eqb, ltb, leb-zero, leb-suc-suc, eqb-suc-zero}
use lib.ListN.{length}
use lib.Ieee.{Float}
use Rattle.model.specs.Lists.{joined, kept, total}
use Rattle.model.specs.Arith.{Answer, number, overflow, zero_divisor, quotient, vanishes, is_small, next}
use Rattle.model.specs.Fill.{Plan}
use Rattle.model.specs.Formula.{Table, C, Y, X, Tables, Formula, number_of, entry, closed, Ended, solved, refused, worked}
use Rattle.model.specs.Formula.{starting, less, less_all, over, tested, value, vanished_in}
use Rattle.model.specs.Crout.{lower, forward, upper, backward, batch, formulas, reduced_formulas}
use Rattle.model.specs.Program.{Record, rec, opening, records_of}
use Rattle.model.specs.Check.{kind_of, subtracts}
use Rattle.model.specs.Run.{State, Stepped, going, stop, opened, closing, settled_step, step, follow, followed}
use Rattle.model.specs.Agreement.{Seen, whole, ended, seen}
use Rattle.model.proofs.Lists.{Each, cons_each, rising-each, falling-each, append-each, joined-each, map_each}
use Rattle.model.proofs.Links.{links_from}
use Rattle.model.proofs.Tally.{products_of, quotients_of, vanished_by, products_of_cons, quotients_of_cons, vanished_in_cons}

abbrev StartedAt : Table → ℕ → ℕ → Type 0
StartedAt C start target = Unit {0}
StartedAt Y start target = start ≡ target
StartedAt X start target = start ≡ target

-- a formula for Y or X starts from its own target, which is all that its opening record names
unfoldable pub Started : Formula → Type 0
Started f = StartedAt f.table f.start f.target

-- how a row of formulas ends, as a run that has made p products and q quotients shows it
unfoldable pub shown : ℕ → ℕ → Ended → Seen
shown p q (solved t g) = whole t p q g 0
shown p q (refused r t k) = ended r t k

-- what is seen of a run with an answer in formula f: with a number it goes on, a refusal ends it
resumed : Formula → Answer → (Float → Seen) → Seen
resumed f (number v) on = on v
resumed f overflow on = ended 16 f.table f.target
resumed f zero_divisor on = ended 17 f.table f.target

-- one more operation on the answer
resumed_next : (f : Formula) (a : Answer) (op : Float → Answer) (on after : Float → Seen) → ((v : Float) → on v ≡ resumed f (op v) after)
    → resumed f a on ≡ resumed f (next a op) after
unfolding resumed next
resumed_next f (number v) op on after same = same v
resumed_next f overflow op on after same = refl
resumed_next f zero_divisor op on after same = refl

next-number : (a : Answer) → next a number ≡ a
unfolding next
next-number (number v) = refl
next-number overflow = refl
next-number zero_divisor = refl

kind-subtracts : (t : Table) → kind_of (3 + number_of t) ≡ subtracts t
unfolding kind_of
kind-subtracts C = refl
kind-subtracts Y = refl
kind-subtracts X = refl

pub settled_test : (b : Bool) (v : Float) (after : Float → State) → cond b (stop 17) (going (after v)) ≡ settled_step (cond b zero_divisor (number v)) after
settled_test true v after = refl
settled_test false v after = refl

positive : (d : ℕ) → ltb 0 (suc d) ≡ true
positive d = leb-suc-suc 0 d ∙ leb-zero d

module _ (A B : List Float) (limit : Float) where
  -- what is seen of a run of records, whatever their indices
  run : State → List Record → Seen
  run z [] = whole z.tables z.products z.quotients z.vanished 0
  run z (r ∷ rs) = elim (step A B limit z (kind_of r.kind) r.p r.q) [ going z' ↦ run z' rs | stop n ↦ ended n z.table z.target ]

  seen-follow : (z : State) (k : ℕ) (rs : List Record) → seen (followed (follow A B limit z (links_from k rs))) ≡ run z rs
  unfolding run follow followed links_from seen
  seen-follow z k [] = refl
  seen-follow z k (r ∷ rs) = by (step A B limit z (kind_of r.kind) r.p r.q) refl (λ z'. seen-follow z' (suc k) rs)
    where
      by : (s : Stepped) → step A B limit z (kind_of r.kind) r.p r.q ≡ s
          → ((z' : State) → seen (followed (follow A B limit z' (links_from (suc k) rs))) ≡ run z' rs)
          → seen (followed (follow A B limit z (links_from k (r ∷ rs)))) ≡ run z (r ∷ rs)
      by (going z') e rest = rw (e, seen, followed, follow, run) (rest z')
      by (stop n) e rest = rw (e, seen, followed, follow, run)

  module _ (f : Formula) (t : Tables) where
    -- f's target is open, with the running number v, p products and q quotients are made, and g products have vanished
    abbrev midway : ℕ → ℕ → ℕ → Float → State
    midway p q g v = record { tables = t; table = f.table; target = f.target; running = v; products = p; quotients = q; vanished = g }

    run-answer : (p q g : ℕ) (v : Float) (r : Record) (rs : List Record) (a : Answer) (after : Float → State)
        → step A B limit (midway p q g v) (kind_of r.kind) r.p r.q ≡ settled_step a after
        → run (midway p q g v) (r ∷ rs) ≡ resumed f a (λ w. run (after w) rs)
    unfolding run resumed
    run-answer p q g v r rs (number w) after e = rw (e, run)
    run-answer p q g v r rs overflow after e = rw (e, run)
    run-answer p q g v r rs zero_divisor after e = rw (e, run)

    -- a record that does the operation op
    run_record : (a : Answer) (op : Float → Answer) (p q g : ℕ) (r : Record) (rs : List Record) (after : Float → State)
        → ((v : Float) → step A B limit (midway p q g v) (kind_of r.kind) r.p r.q ≡ settled_step (op v) after)
        → resumed f a (λ v. run (midway p q g v) (r ∷ rs)) ≡ resumed f (next a op) (λ v. run (after v) rs)
    run_record a op p q g r rs after steps = resumed_next f a op _ _ (λ v. run-answer p q g v r rs (op v) after (steps v))

    run_products : (a : Answer) (ps : List (ℕ × ℕ)) (p q g p' g' : ℕ) (rs : List Record) → p + length ps ≡ p' → g + vanished_in t f.table ps ≡ g'
        → resumed f a (λ v. run (midway p q g v) (map (λ pq. rec (3 + number_of f.table) pq.0 pq.1) ps ++ rs))
        ≡ resumed f (less_all t f.table a ps) (λ v. run (midway p' q g' v) rs)
    unfolding less_all step vanished_in kept
    run_products a [] p q g p' g' rs e h = ap₂ (λ n m. resumed f a (λ v. run (midway n q m v) rs)) (omega arith) (omega arith)
    run_products a (pq ∷ ps) p q g p' g' rs e h =
        let gone = g + cond (vanishes (entry t C pq.0) (entry t f.table pq.1)) 1 0 in
        let minus = λ (v : Float). less v (entry t C pq.0) (entry t f.table pq.1) in
        run_record a minus p q g _ _ (midway (suc p) q gone) (λ v. rw kind-subtracts)
        ∙ run_products (next a minus) ps (suc p) q gone p' g' rs (omega arith) (omega (arith, vanished_in_cons t f.table pq ps))

    run_division : (a : Answer) (d p q g q' : ℕ) (rs : List Record) → q + cond (ltb 0 d) 1 0 ≡ q'
        → resumed f a (λ v. run (midway p q g v) (cond (eqb d 0) [] (rec 7 d 0 ∷ []) ++ rs)) ≡ resumed f (over t d a) (λ v. run (midway p q' g v) rs)
    unfolding over step kind_of
    run_division a zero p q g q' rs e = ap (λ n. resumed f a (λ v. run (midway p n g v) rs)) (omega arith)
    run_division a (suc d) p q g q' rs e =
        let counted : suc q ≡ q' = omega (arith, rw positive at e) in
        rw (eqb-suc-zero d, ← counted) (run_record a (λ v. quotient v (entry t C (suc d))) p q g _ rs (midway p (suc q) g) (λ v. refl))

    run_closing : (a : Answer) (pivot : Bool) (p q g : ℕ) (rs : List Record)
        → resumed f a (λ v. run (midway p q g v) (rec (cond pivot 9 8) 0 0 ∷ rs)) ≡ resumed f (tested limit pivot a) (λ v. run (closing (midway p q g v)) rs)
    unfolding tested step kind_of
    run_closing a false p q g rs = rw next-number at (run_record a number p q g (rec 8 0 0) rs (λ v. closing (midway p q g v)) (λ v. refl))
    run_closing a true p q g rs = run_record a _ p q g _ rs _ (λ v. settled_test (is_small limit v) v (λ w. closing (midway p q g w)))

  run_opening : (t : Table) (start k : ℕ) → StartedAt t start k → (z : State) (rs : List Record)
      → run z (opening t start k ∷ rs) ≡ run (opened z t k (starting A B z.tables t start)) rs
  unfolding run opening step kind_of
  run_opening C start k e z rs = refl
  run_opening Y start k e z rs = rw e
  run_opening X start k e z rs = rw e

  -- the records of one formula work its value out
  run_formula : (f : Formula) → Started f → (z : State) (p q g : ℕ) (rs : List Record)
      → z.products + length f.products ≡ p → z.quotients + cond (ltb 0 f.divisor) 1 0 ≡ q
      → z.vanished + vanished_by z.tables f ≡ g
      → run z (records_of f ++ rs) ≡ resumed f (value A B limit z.tables f) (λ v. run (closing (midway f z.tables p q g v)) rs)
  unfolding records_of value Started resumed
  run_formula f started z p q g rs products quotients vanished = simp append_assoc
      (run_opening f.table f.start f.target started z _
      ∙ run_products f z.tables (number (starting A B z.tables f.table f.start)) f.products z.products z.quotients z.vanished p g _
      products vanished
      ∙ run_division f z.tables _ f.divisor p z.quotients g q _ quotients
      ∙ run_closing f z.tables _ f.pivot p q g rs)

  -- a row of formulas goes on after its first as a run does
  resumed_worked : (p q g : ℕ) (t : Tables) (f : Formula) (fs : List Formula) (on : Float → Seen)
      → ((v : Float) → on v ≡ shown p q (worked A B limit (g + vanished_by t f) (closed t f.table f.target v) fs))
      → resumed f (value A B limit t f) on ≡ shown p q (worked A B limit g t (f ∷ fs))
  unfolding worked shown resumed
  resumed_worked p q g t f fs on same = by (value A B limit t f) refl
    where
      by : (a : Answer) → value A B limit t f ≡ a → resumed f (value A B limit t f) on ≡ shown p q (worked A B limit g t (f ∷ fs))
      by (number v) e = rw (e, shown, worked) (same v)
      by overflow e = rw (e, shown, worked)
      by zero_divisor e = rw (e, shown, worked)

  run_formulas : (fs : List Formula) → Each Started fs → (z : State) (p q : ℕ) → z.products + products_of fs ≡ p → z.quotients + quotients_of fs ≡ q
      → run z (joined (map records_of fs)) ≡ shown p q (worked A B limit z.vanished z.tables fs)
  unfolding run joined worked shown products_of quotients_of total kept
  run_formulas [] started z p q products quotients = ap₂ (λ m n. whole z.tables m n z.vanished 0) (omega arith) (omega arith)
  run_formulas (f ∷ fs) started z p q products quotients =
      run_formula f (started f (Memᴰ.head refl)) z _ _ _ (joined (map records_of fs)) refl refl refl
      ∙ resumed_worked p q z.vanished z.tables f fs _ (λ v. run_formulas fs (λ g m. started g (Memᴰ.tail m)) _ p q
      (omega (arith, products_of_cons f fs)) (omega (arith, quotients_of_cons f fs)))

-- The run of the records of formulas, from any state and any index on, ends as the formulas worked out do, and has counted their products and
-- quotients and the products that vanish.
pub machine : (A B : List Float) (limit : Float) (fs : List Formula) → Each Started fs → (z : State) (k : ℕ)
    → seen (followed (follow A B limit z (links_from k (joined (map records_of fs)))))
    ≡ shown (z.products + products_of fs) (z.quotients + quotients_of fs) (worked A B limit z.vanished z.tables fs)
machine A B limit fs started z k = seen-follow A B limit z k (joined (map records_of fs)) ∙ run_formulas A B limit fs started z _ _ refl refl

-- what `machine` asks, for the formulas that the compiler keeps
pub reduced_started : (N : ℕ) (L : Plan) → Each Started (reduced_formulas N L)
unfolding reduced_formulas formulas batch lower forward upper backward Started
reduced_started N L =
    search (append-each Started, joined-each Started, rising-each (Each Started), falling-each Started, map_each {A = ℕ} Started, cons_each Started, tt) depth 7
