-- The check along a chain, record by record, as a loop makes it.
use Prim.Native.Nat.{ℕ, ◌+◌, ◌*◌, ◌/◌, ◌≤◌, ◌<◌}
use native.Mathlib.Omega.{arith}
use mathlib.Core.Path.{◌≡◌, refl, sym, ap, ap₂, subst, ◌∙◌}
use mathlib.Core.Bool.{Bool, true, false, ◌&&◌}
use mathlib.Core.List.{List, ◌∷◌}
use lib.Dec.{ltb}
use lib.ListN.{length}
use borrow.Author.Tests.{eq-eqb, ne_eqb, eqb-true, eqb-false}
use Rattle.model.specs.Check as Check
use Rattle.model.specs.Check.{word, record_at, next_of, whole, broken, Link, End, Chain, Verdict, fine, refusal}
use Rattle.model.specs.Check.{kind_of, belongs, formed, in_order, allowed, onward, at_end, check_links}
use Rattle.model.proofs.Following.{chain_from, chain-from, chain-ends, chain_breaks, chain_goes, check-ended, check-link}
use Rattle.progress.specs.declared.Record.{Record}
use Rattle.progress.specs.declared.Head.{Head}
use Rattle.progress.specs.declared.Progress.{Progress}
use Rattle.progress.specs.Steps.{progress_of, total, first_of, refusal_of, right_in}
use Rattle.checker.specs.Source.{record_of}
use Rattle.checker.specs.Whole.{unless, followed}
use Rattle.progress.proofs.Judging.{onward-total}

unless_none : (r k : ℕ) (v : Verdict) → r ≡ 0 → unless r k v ≡ v
unless_none r k v e = rw (unless, eq-eqb r 0 e)

unless_some : (r k : ℕ) (v : Verdict) → (r ≡ 0 → ⊥) → unless r k v ≡ refusal r k
unless_some r k v other = rw (unless, ne_eqb r 0 other)

-- the check from record k on, where g is the progress after it
abbrev pub rest : Head → List ℕ → Check.Progress → ℕ → Verdict
rest h W g k = check_links h.order h.coefficients h.slots g (chain_from W k).links (chain_from W k).end

-- the progress after record n
abbrev pub onward_at : List ℕ → ℕ → Check.Progress → Check.Progress
onward_at W n g = let a = record_at W n in onward (kind_of a.kind) a.p a.q g

-- what holds at the head of a loop: what is to be answered is the check from record k on, and no more entries of Y and X are closed than records passed
pub record CheckAfter (h : Head) (W : List ℕ) (g : Progress) (k : ℕ) : Type 0 where
  pub same : followed h W ≡ rest h W (progress_of g) k
  pub inside : k < length W / 4
  pub few : total (progress_of g) ≤ k

-- record k names n as next, and n may stand there
pub record Facing (h : Head) (W : List ℕ) (g : Progress) (k n : ℕ) : Type 0 where
  pub here : CheckAfter h W g k
  pub is : n ≡ next_of W k
  pub up : k < n
  pub low : n < length W / 4

-- the check of a chain is its first record's, and then the rest
link-judged : (N n s : ℕ) (g : Check.Progress) (l : Link) (ls : List Link) (e : End) → let k = kind_of l.at.kind in
    check_links N n s g (l ∷ ls) e
    ≡ unless (first_of (belongs s l.at.kind && formed k l.at.p l.at.q) (in_order k g.target) (allowed N n s k l.at.p l.at.q g)) l.index
    (check_links N n s (onward k l.at.p l.at.q g) ls e)
unfolding first_of
link-judged N n s g l ls e =
    let k = kind_of l.at.kind in
    let ten = belongs s l.at.kind && formed k l.at.p l.at.q in
    check-link N n s g l ls e ∙ step ten (in_order k g.target) (allowed N n s k l.at.p l.at.q g)
  where
    step : (f o t : Bool) → elim f [
      | false ↦ refusal 10 l.index
      | true ↦ elim o [
        | false ↦ refusal 11 l.index
        | true ↦ elim t [ false ↦ refusal 12 l.index | true ↦ check_links N n s (onward (kind_of l.at.kind) l.at.p l.at.q g) ls e ]
      ]
    ] ≡ unless (first_of f o t) l.index (check_links N n s (onward (kind_of l.at.kind) l.at.p l.at.q g) ls e)
    step false o t = refl
    step true false t = refl
    step true true false = refl
    step true true true = refl

module _ (h : Head) (W : List ℕ) where
  along : Check.Progress → Chain → Verdict
  along g d = check_links h.order h.coefficients h.slots g d.links d.end

  -- before the first record; where the chain check-refuses, at a zero or at an index that may not stand; and what a turn leads to
  pub check-begins : (g : Progress) → progress_of g ≡ Check.begun → 0 < length W / 4 → CheckAfter h W g 0
  unfolding along
  check-begins g e some = record {
    same = ap (along Check.begun) (chain-from W) ∙ ap (λ m. rest h W m 0) (sym e);
    inside = some;
    few = omega (arith, ap total e);
  }

  module _ (g : Progress) (k : ℕ) (here : CheckAfter h W g k) where
    pub check-ends : next_of W k ≡ 0 → at_end h.order h.slots (progress_of g) whole ≡ followed h W
    unfolding along
    check-ends e = sym (here.same ∙ ap (along (progress_of g)) (chain-ends W k e) ∙ check-ended _ _ _ (progress_of g) whole)

    pub check_breaks : (n records : ℕ) → n ≡ next_of W k → records ≡ length W / 4 → (n ≡ 0 → ⊥) → ltb k n && ltb n records ≡ false → refusal 9 k ≡ followed h W
    unfolding along
    check_breaks n records is size some bad =
        let refused = ap₂ (λ n records. ltb k n && ltb n records) (sym is) (sym size) ∙ bad in
        sym (here.same ∙ ap (along (progress_of g)) (chain_breaks W k (λ e. some (is ∙ e)) refused) ∙ check-ended _ _ _ (progress_of g) (broken k))

    links : k < next_of W k → next_of W k < length W / 4
        → followed h W ≡ unless (refusal_of h g (word W (4 * next_of W k)) (word W (4 * next_of W k + 1)) (word W (4 * next_of W k + 2))) (next_of W k)
        (rest h W (onward_at W (next_of W k) (progress_of g)) (next_of W k))
    unfolding along
    links up low = here.same ∙ ap (along (progress_of g)) (chain_goes W k up low) ∙ link-judged _ _ _ (progress_of g) _ _ _

  -- one turn: record k names n as next, and r is record n
  module _ (g : Progress) (k n : ℕ) (f : Facing h W g k n) (r : Record) (read : r ≡ record_of W n) where
    turned : followed h W ≡ unless (refusal_of h g r.kind r.p r.q) n (rest h W (onward (kind_of r.kind) r.p r.q (progress_of g)) n)
    turned =
        subst (λ m. followed h W ≡ unless (refusal_of h g (word W (4 * m)) (word W (4 * m + 1)) (word W (4 * m + 2))) m
        (rest h W (onward_at W m (progress_of g)) m))
        (sym f.is) (links g k f.here (omega arith) (omega arith))
        ∙ ap (λ r. unless (refusal_of h g r.kind r.p r.q) n (rest h W (onward (kind_of r.kind) r.p r.q (progress_of g)) n)) (sym read)

    pub check_goes_on : right_in h g r.kind r.p r.q ≡ true → (g' : Progress) → progress_of g' ≡ onward (kind_of r.kind) r.p r.q (progress_of g) → CheckAfter h W g' n
    check_goes_on right g' e =
        let few : total (progress_of g') ≤ n = omega (arith, onward-total (kind_of r.kind) r.p r.q (progress_of g), ap total e) in
        record { same = turned ∙ unless_none _ n _ (eqb-true _ 0 right) ∙ ap (λ m. rest h W m n) (sym e); inside = f.low; few = few }

    pub check-refuses : right_in h g r.kind r.p r.q ≡ false → unless (refusal_of h g r.kind r.p r.q) n fine ≡ followed h W
    check-refuses wrong =
        let some = eqb-false (refusal_of h g r.kind r.p r.q) 0 wrong in
        unless_some _ n fine some ∙ sym (turned ∙ unless_some _ n _ some)
