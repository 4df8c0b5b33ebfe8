-- A chain that ends whole, record by record, and what 28 says at each.
use Prim.Native.Nat.{ℕ, suc, ◌+◌, ◌-◌, ◌*◌, ◌/◌, ◌≤◌, ◌<◌}
use native.Mathlib.Omega.{arith}
use mathlib.Core.Path.{◌≡◌, refl, sym, ap, ◌∙◌}
use mathlib.Core.Bool.{Bool, true, false}
use mathlib.Core.List.{List, [], ◌∷◌, ◌++◌}
use lib.ListN.{length}
use Rattle.model.specs.Lists.{rising}
use Rattle.model.specs.Program.{Record}
use Rattle.model.specs.Check.{record_at, next_of, fine, refusal}
use Rattle.model.specs.Compare.{same_record, compared}
use Rattle.model.proofs.Passing.{next-range}
use Rattle.model.proofs.Following.{follows, chain_from, chain-ends, chain_breaks, chain_goes}
use Rattle.model.proofs.Reached.{link_at}
use Rattle.model.proofs.Spaced.{broken-whole}
use Rattle.copies.specs.Beside.{OnChain, told, Leads}
use Rattle.copies.specs.Compared.{first_records}
use Rattle.copies.specs.declared.Compared.{Compared}
use Rattle.std.specs.Prelude.{Ok, Err}
use Rattle.refusal.specs.declared.Refusal.TheVariants.{Different}
use Rattle.copies.proofs.Leading.{Comparing, comparing_more, comparing_ends, comparing_over}

-- ---- the chain after record k

module _ {W : List ℕ} {k : ℕ} (on : OnChain W k) where
  -- the words of record k can be read
  pub next-inside : (k < 100000000) × (4 * k + 3 < length W)
  next-inside = omega arith

  -- a next record may stand there
  next_follows : (next_of W k ≡ 0 → ⊥) → (k < next_of W k) × (next_of W k < length W / 4)
  next_follows some = step (follows W k (next_of W k)) refl
    where
      step : (b : Bool) → follows W k (next_of W k) ≡ b → (k < next_of W k) × (next_of W k < length W / 4)
      step true e = next-range k (next_of W k) (length W / 4) e
      step false e = absurd (broken-whole k (sym (ap (λ c. c.end) (chain_breaks W k some e)) ∙ on.ends))

  -- the records after k: none, or its next and those after that
  links_end : next_of W k ≡ 0 → (chain_from W k).links ≡ []
  links_end none = ap (λ c. c.links) (chain-ends W k none)

  links_go : (next_of W k ≡ 0 → ⊥) → (chain_from W k).links ≡ link_at W (next_of W k) ∷ (chain_from W (next_of W k)).links
  links_go some = let up = next_follows some in ap (λ c. c.links) (chain_goes W k up.0 up.1)

  -- it stands on the same chain, and its words can be read
  next_on : (next_of W k ≡ 0 → ⊥) → OnChain W (next_of W k)
  next_on some =
      let up = next_follows some in
      record { few = on.few; inside = up.1; ends = sym (ap (λ c. c.end) (chain_goes W k up.0 up.1)) ∙ on.ends }

  pub next-read : (next : ℕ) → next ≡ next_of W k → (next ≡ 0 → ⊥) → 4 * next + 3 < length W
  next-read next is some = let up = next_follows (λ none. some (is ∙ none)) in omega arith

-- ---- what 28 says at a record

module _ (W : List ℕ) (z : Compared) (on : OnChain W z.last) where
  -- after the compiler's last record the chain ends, or goes on
  pub end-told : next_of W z.last ≡ 0 → fine ≡ told W z []
  unfolding told compared
  end-told none = rw (links_end on none)

  pub more_told : (next_of W z.last ≡ 0 → ⊥) → refusal 28 (next_of W z.last) ≡ told W z []
  unfolding told compared
  more_told some = rw (links_go on some)

  -- before it the chain is too short, or its next record differs, or is the compiler's
  short-leads : (r : Record) → next_of W z.last ≡ 0 → Leads W (r ∷ []) z (Err (Different z.last))
  unfolding told compared
  short-leads r none more = rw (links_end on none)

  differs_leads : (r : Record) → (next_of W z.last ≡ 0 → ⊥) → same_record r (record_at W (next_of W z.last)) ≡ false
      → Leads W (r ∷ []) z (Err (Different (next_of W z.last)))
  unfolding told compared
  differs_leads r some differs more = rw (links_go on some, compared, differs)

  next-leads : (r : Record) (z' : Compared) → (next_of W z.last ≡ 0 → ⊥) → z'.last ≡ next_of W z.last
      → same_record r (record_at W (next_of W z.last)) ≡ true → Leads W (r ∷ []) z (Ok z')
  unfolding told compared
  next-leads r z' some last same more = rw (links_go on some, compared, same, last)

-- ---- along a formula's records

-- the first i of them, of count, are compared, from z₀ on
pub record Going (W formula : List ℕ) (count : ℕ) (z₀ : Compared) (last i : ℕ) : Type 0 where
  pub few : i ≤ count
  pub on : OnChain W last
  pub comparing : Comparing W (first_records formula count) z₀ (rising (record_at formula) i (count - i)) (record z₀ { last = last })

module _ {W formula : List ℕ} {count : ℕ} {z₀ : Compared} {last i : ℕ} (going : Going W formula count z₀ last i) where
  -- a turn: the next record is the i-th of the formula
  module _ (below : i < count) (next : ℕ) (is : next ≡ next_of W last) where
    left-more : rising (record_at formula) i (count - i) ≡ (record_at formula i ∷ []) ++ rising (record_at formula) (i + 1) (count - (i + 1))
    unfolding rising
    left-more =
        let more : count - i ≡ suc (count - (i + 1)) = omega arith in
        let onward : suc i ≡ i + 1 = omega arith in
        rw (more, onward)

    abbrev here : Compared
    here = record z₀ { last = last }

    -- the chain is too short
    pub turned_short : next ≡ 0 → Leads W (first_records formula count) z₀ (Err (Different last))
    turned_short none = comparing_over going.comparing (record_at formula i ∷ []) _ (Different last) left-more (short-leads W here going.on (record_at formula i) (sym is ∙ none))

    module _ (some : next ≡ 0 → ⊥) where
      some_next : next_of W last ≡ 0 → ⊥
      some_next none = some (is ∙ none)

      -- it differs
      pub turned_over : false ≡ same_record (record_at formula i) (record_at W next) → Leads W (first_records formula count) z₀ (Err (Different next))
      turned_over differs =
          comparing_over going.comparing (record_at formula i ∷ []) _ (Different next) left-more (rw is (differs_leads W here going.on (record_at formula i) some_next (rw is at (sym differs))))

      -- or is the compiler's
      pub turned_on : true ≡ same_record (record_at formula i) (record_at W next) → Going W formula count z₀ next (i + 1)
      turned_on same =
          record {
            few = omega arith;
            on = rw is (next_on going.on some_next);
            comparing = comparing_more going.comparing (record_at formula i ∷ []) _ left-more (next-leads W here going.on (record_at formula i) (record z₀ { last = next }) some_next is (rw is at (sym same)));
          }

  -- after the last turn all are compared
  pub going-ends : count ≤ i → Leads W (first_records formula count) z₀ (Ok (record z₀ { last = last }))
  unfolding rising
  going-ends past =
      let none : count - i ≡ 0 = omega arith in
      comparing_ends going.comparing (rw none)
