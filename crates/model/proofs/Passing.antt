-- What words that pass 7 to 13 are: the checks as one record, and what a chain that passes asks of its records and of its end.
use Prim.Native.Nat.{ℕ, ◌*◌, ◌/◌, ◌%◌, ◌≤◌, ◌<◌}
use native.Mathlib.Omega.{arith}
use mathlib.Core.Path.{◌≡◌, refl}
use mathlib.Core.Bool.{Bool, true, false, cond, ◌&&◌, and-eq-true_iff}
use mathlib.Core.List.{List, [], ◌∷◌}
use borrow.Author.Tests.{lt-ltb, ltb-true, le-leb, leb-true, eq-eqb, eqb-true, ne_eqb}
use lib.Dec.{eqb, leb, ltb}
use lib.ListN.{length}
use Rattle.model.specs.Label.{is_order}
use Rattle.model.specs.Check.{Link, End, whole, broken, Progress, Verdict, fine, refusal, Kind, kind_of, belongs, formed, in_order, allowed, onward}
use Rattle.model.specs.Check.{complete, at_end, begun, is_sweep, word, chain, check_links, check_from, check}

-- a refusal is not fine
pub refused-fine : (r d : ℕ) → refusal r d ≡ fine → ⊥
refused-fine r d e = let z : ◌≡◌ {A = ℕ} 0 1 = cc in omega arith

-- two tests that pass together
pub both : (a b : Bool) → a && b ≡ true → (a ≡ true) × (b ≡ true)
both a b = (and-eq-true_iff a b).0

-- 8's test, which asks s to be `least` or more
abbrev pub eight : ℕ → ℕ → ℕ → ℕ → Bool
eight least N n s = is_order N && (leb n (N * N) && (leb least s && leb s (N * N)))

-- what passes it with some `least` passes it with 0
pub eight_any : (least N n s : ℕ) → eight least N n s ≡ true → eight 0 N n s ≡ true
eight_any least N n s e =
    let order = both (is_order N) _ e in
    let labels = both (leb n (N * N)) _ order.1 in
    rw (order.0, labels.0, le-leb 0 s (omega arith)) (both (leb least s) (leb s (N * N)) labels.1).1

-- 9's test, of the next index n of record k
pub next-range : (k n records : ℕ) → ltb k n && ltb n records ≡ true → (k < n) × (n < records)
next-range k n records e =
    let t = both (ltb k n) (ltb n records) e in
    (ltb-true k n t.0, ltb-true n records t.1)

-- what passes 7 to 13
pub record Passed (least : ℕ) (W : List ℕ) : Type 0 where
  pub some : 0 < length W
  pub fours : length W % 4 ≡ 0
  pub few : length W / 4 ≤ 100000000
  pub head : eight least (word W 0) (word W 1) (word W 2) ≡ true
  pub links : check_links (word W 0) (word W 1) (word W 2) begun (chain W).links (chain W).end ≡ fine

pub passed_from : (least : ℕ) (W : List ℕ) → Passed least W → check_from least W ≡ fine
unfolding check_from
passed_from least W p =
    rw (check_from, lt-ltb 0 (length W) p.some, eq-eqb (length W % 4) 0 p.fours, le-leb (length W / 4) 100000000 p.few, p.head) p.links

pub from_passed : (least : ℕ) (W : List ℕ) → check_from least W ≡ fine → Passed least W
unfolding check_from
from_passed least W e =
    go (ltb 0 (length W)) (eqb (length W % 4) 0) (leb (length W / 4) 100000000) (eight least (word W 0) (word W 1) (word W 2)) refl refl refl refl e
  where
    rest : Verdict
    rest = check_links (word W 0) (word W 1) (word W 2) begun (chain W).links (chain W).end

    go : (some fours few head : Bool) → ltb 0 (length W) ≡ some → eqb (length W % 4) 0 ≡ fours → leb (length W / 4) 100000000 ≡ few
        → eight least (word W 0) (word W 1) (word W 2) ≡ head
        → elim (some && (fours && few)) as (λ b. Verdict) [ false ↦ refusal 7 0 | true ↦ elim head [ false ↦ refusal 8 0 | true ↦ rest ] ] ≡ fine → Passed least W
    go false fours few head a b c d e = absurd (refused-fine _ _ e)
    go true false few head a b c d e = absurd (refused-fine _ _ e)
    go true true false head a b c d e = absurd (refused-fine _ _ e)
    go true true true false a b c d e = absurd (refused-fine _ _ e)
    go true true true true a b c d e =
        record { some = ltb-true 0 (length W) a; fours = eqb-true (length W % 4) 0 b; few = leb-true (length W / 4) 100000000 c; head = d; links = e }

pub passed-fine : (W : List ℕ) → Passed 0 W → check W ≡ fine
unfolding check
passed-fine W p = passed_from 0 W p

pub fine-passed : (W : List ℕ) → check W ≡ fine → Passed 0 W
unfolding check
fine-passed W e = from_passed 0 W e

-- a call that "takes Crout programs only" (A.6) lets through what passes the checks and is no program of sweeps
pub crout_only : (W : List ℕ) → check_from 1 W ≡ fine → (check W ≡ fine) × (is_sweep (word W 2) ≡ false)
crout_only W e =
    let p = from_passed 1 W e in
    let order = both (is_order (word W 0)) _ p.head in
    let labels = both (leb (word W 1) (word W 0 * word W 0)) _ order.1 in
    let slots = both (leb 1 (word W 2)) (leb (word W 2) (word W 0 * word W 0)) labels.1 in (
      passed-fine W (record {
        some = p.some;
        fours = p.fours;
        few = p.few;
        head = eight_any 1 (word W 0) (word W 1) (word W 2) p.head;
        links = p.links;
      }),
      ne_eqb (word W 2) 0 (λ z. omega (arith, leb-true 1 (word W 2) slots.0)),
    )

-- the first record of a chain passes 10, 11 and 12, and the others pass after it
pub record LinkPassed (N n s : ℕ) (g : Progress) (l : Link) (ls : List Link) (e : End) : Type 0 where
  pub ten : belongs s l.at.kind && formed (kind_of l.at.kind) l.at.p l.at.q ≡ true
  pub eleven : in_order (kind_of l.at.kind) g.target ≡ true
  pub twelve : allowed N n s (kind_of l.at.kind) l.at.p l.at.q g ≡ true
  pub later : check_links N n s (onward (kind_of l.at.kind) l.at.p l.at.q g) ls e ≡ fine

pub link-passed : (N n s : ℕ) (g : Progress) (l : Link) (ls : List Link) (e : End) → check_links N n s g (l ∷ ls) e ≡ fine → LinkPassed N n s g l ls e
unfolding check_links
link-passed N n s g l ls e passes =
    go (belongs s l.at.kind && formed k l.at.p l.at.q) (in_order k g.target) (allowed N n s k l.at.p l.at.q g) refl refl refl passes
  where
    k : Kind
    k = kind_of l.at.kind

    rest : Verdict
    rest = check_links N n s (onward k l.at.p l.at.q g) ls e

    go : (ten eleven twelve : Bool) → belongs s l.at.kind && formed k l.at.p l.at.q ≡ ten → in_order k g.target ≡ eleven
        → allowed N n s k l.at.p l.at.q g ≡ twelve
        → elim ten as (λ b. Verdict) [
          | false ↦ refusal 10 l.index
          | true ↦ elim eleven [ false ↦ refusal 11 l.index | true ↦ elim twelve [ false ↦ refusal 12 l.index | true ↦ rest ] ]
        ] ≡ fine → LinkPassed N n s g l ls e
    go false eleven twelve a b c e = absurd (refused-fine _ _ e)
    go true false twelve a b c e = absurd (refused-fine _ _ e)
    go true true false a b c e = absurd (refused-fine _ _ e)
    go true true true a b c e = record { ten = a; eleven = b; twelve = c; later = e }

-- a chain that ends whole passes 13: C, Y and X are all closed
pub end-passed : (N s : ℕ) (g : Progress) → at_end N s g whole ≡ fine → complete N s g ≡ true
end-passed N s g = go (complete N s g)
  where
    go : (b : Bool) → cond b fine (refusal 13 0) ≡ fine → b ≡ true
    go true e = refl
    go false e = absurd (refused-fine 13 0 e)

-- a chain that passes ends whole
pub ends-whole : (N n s : ℕ) (g : Progress) (ls : List Link) (e : End) → check_links N n s g ls e ≡ fine → e ≡ whole
unfolding check_links
ends-whole N n s g [] whole passes = refl
ends-whole N n s g [] (broken k) passes = absurd (refused-fine 9 k passes)
ends-whole N n s g (l ∷ ls) e passes = ends-whole N n s (onward (kind_of l.at.kind) l.at.p l.at.q g) ls e (link-passed N n s g l ls e passes).later
