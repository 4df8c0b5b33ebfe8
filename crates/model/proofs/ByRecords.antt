-- A run and the checks along a chain go by the chain's records in order: where they stand matters only to the record that a refusal names.
use Prim.Native.Nat.{ℕ, suc}
use mathlib.Core.Path.{◌≡◌, refl, ap}
use mathlib.Core.List.{List, [], ◌∷◌, map}
use lib.Ieee.{Float}
use Rattle.model.specs.Program.{Record}
use Rattle.model.specs.Check.{Link, End, Progress, fine, kind_of, onward, check_links}
use Rattle.model.specs.Run.{State, Stepped, going, stop, step, Followed, halted, follow, followed}
use Rattle.model.specs.Agreement.{seen}
use Rattle.model.proofs.Passing.{link-passed}
use Rattle.model.proofs.Following.{check-link}
use Rattle.model.proofs.Links.{links_from}

-- the records of a chain, in order
abbrev pub records_on : List Link → List Record
records_on ls = map (λ l. l.at) ls

pub links-records : (k : ℕ) (rs : List Record) → records_on (links_from k rs) ≡ rs
unfolding links_from
links-records k [] = refl
links-records k (r ∷ rs) = ap (λ l. r ∷ l) (links-records (suc k) rs)

-- a chain passes if its records do where they stand one after another
pub check_by_records : (N n s : ℕ) (g : Progress) (k : ℕ) (ls : List Link) (e : End) → check_links N n s g (links_from k (records_on ls)) e ≡ fine
    → check_links N n s g ls e ≡ fine
unfolding links_from
check_by_records N n s g k [] e passes = passes
check_by_records N n s g k (l ∷ ls) e passes =
    let p = link-passed N n s g (record { index = k; at = l.at }) (links_from (suc k) (records_on ls)) e passes in
    rw (check-link N n s g l ls e, p.ten, p.eleven, p.twelve)
    (check_by_records N n s (onward (kind_of l.at.kind) l.at.p l.at.q g) (suc k) ls e p.later)

-- and its run ends as theirs does
pub run_by_records : (A B : List Float) (limit : Float) (z : State) (k : ℕ) (ls : List Link)
    → seen (followed (follow A B limit z ls)) ≡ seen (followed (follow A B limit z (links_from k (records_on ls))))
unfolding follow followed links_from seen
run_by_records A B limit z k [] = refl
run_by_records A B limit z k (l ∷ ls) = go (step A B limit z (kind_of l.at.kind) l.at.p l.at.q) (λ w. run_by_records A B limit w (suc k) ls)
  where
    on : ℕ → (State → Followed) → Stepped → Followed
    on i rest s = elim s [ going w ↦ rest w | stop r ↦ halted r i z.table z.target ]

    go : (s : Stepped) → ((w : State) → seen (followed (follow A B limit w ls)) ≡ seen (followed (follow A B limit w (links_from (suc k) (records_on ls)))))
        → seen (followed (on l.index (λ w. follow A B limit w ls) s))
        ≡ seen (followed (on k (λ w. follow A B limit w (links_from (suc k) (records_on ls))) s))
    go (going w) rest = rest w
    go (stop r) rest = refl
