-- Unused records put between those of a program, its chain led round them: the chain has the same records and passes as it did. Document 02, A.10.
use Prim.Native.Nat.{ℕ, zero, suc, ◌+◌, ◌*◌, ◌/◌, ◌≤◌, ◌<◌}
use native.Mathlib.Omega.{arith}
use mathlib.Core.Path.{◌≡◌, refl, sym, ap, ap₂, ◌∙◌}
use mathlib.Core.Bool.{Bool, true, false}
use mathlib.Core.List.{List, ◌∷◌}
use borrow.Author.Tests.{eqb-true, eqb-false, le-leb}
use lib.Dec.{eqb}
use lib.ListN.{length}
use Rattle.model.specs.Fill.{Plan, slots, product_count, record_count}
use Rattle.model.specs.Program.{Record, compiled_records, compiled}
use Rattle.model.specs.Check.{End, whole, broken, Chain, fine, record_at, next_of, word, chain, begun, check}
use Rattle.model.specs.Compile.{good, plain, admits, compiles_by}
use Rattle.model.specs.Compare.{Spaced, SpacedAccepted}
use Rattle.model.proofs.Within.{within-range}
use Rattle.model.proofs.Compiles.{Success, compiles_success}
use Rattle.model.proofs.Passing.{Passed, passed-fine, fine-passed, next-range}
use Rattle.model.proofs.Following.{follows, chain_from, chain-from, chain-ends, chain_breaks, chain_goes}
use Rattle.model.proofs.Links.{links_from}
use Rattle.model.proofs.Chain.{program-chain}
use Rattle.model.proofs.Checked.{program-fine}
use Rattle.model.proofs.ByRecords.{records_on, links-records, check_by_records}
use Rattle.model.proofs.Compared.{copies_accepted}

-- a chain without its indices
abbrev content : Chain → List Record × End
content c = (records_on c.links, c.end)

pub broken-whole : (k : ℕ) → broken k ≡ whole → ⊥
broken-whole k e = let z : ◌≡◌ {A = ℕ} 0 1 = cc in omega arith

module _ {P W : List ℕ} {to : ℕ → ℕ} (spaced : Spaced P W to) where
  -- from record k on, a chain that ends whole keeps its records
  abbrev Led : ℕ → Type 0
  Led k = (chain_from P k).end ≡ whole → content (chain_from W (to k)) ≡ content (chain_from P k)

  -- where P's chain goes on, so does the other
  led_on : (k : ℕ) → k < length P / 4 → k < next_of P k → next_of P k < length P / 4 → Led (next_of P k) → Led k
  led_on k inside up low rest e =
      let n = next_of P k in
      let led = spaced.led k inside in
      let on = chain_goes P k up low in
      ap content (chain_goes W (to k) (rw led (spaced.rises k n up low)) (rw led (spaced.inside n low)))
      ∙ ap (λ m. (record_at W m ∷ records_on (chain_from W m).links, (chain_from W m).end)) led
      ∙ ap₂ (λ r c. (r ∷ c.0, c.1)) (spaced.same n low) (rest (sym (ap (λ c. c.end) on) ∙ e))
      ∙ ap content (sym on)

  -- whichever way record k's next index goes
  led_by : (k : ℕ) → k < length P / 4 → (k < next_of P k → next_of P k < length P / 4 → Led (next_of P k)) → Led k
  led_by k inside rest e = go (eqb (next_of P k) 0) (follows P k (next_of P k)) refl refl
    where
      go : (none on : Bool) → eqb (next_of P k) 0 ≡ none → follows P k (next_of P k) ≡ on → content (chain_from W (to k)) ≡ content (chain_from P k)
      go true on p q =
          let none = eqb-true (next_of P k) 0 p in
          ap content (chain-ends W (to k) (spaced.led k inside ∙ ap to none ∙ spaced.head) ∙ sym (chain-ends P k none))
      go false false p q = absurd (broken-whole k (sym (ap (λ c. c.end) (chain_breaks P k (eqb-false (next_of P k) 0 p) q)) ∙ e))
      go false true p q =
          let range = next-range k (next_of P k) (length P / 4) q in
          led_on k inside range.0 range.1 (rest range.0 range.1) e

  -- d bounds the records above it
  led_from : (d k : ℕ) → k < length P / 4 → length P / 4 ≤ d + suc k → Led k
  led_from zero k inside enough = led_by k inside (λ up low. absurd (omega arith))
  led_from (suc d) k inside enough = led_by k inside (λ up low. led_from d (next_of P k) low (omega arith))

  -- a whole chain keeps its records,
  spaced_chain : 0 < length P / 4 → (chain P).end ≡ whole → content (chain W) ≡ content (chain P)
  spaced_chain some e =
      ap content (chain-from W ∙ ap (chain_from W) (sym spaced.head))
      ∙ led_from (length P / 4) 0 some (omega arith) (sym (ap (λ c. c.end) (chain-from P)) ∙ e)
      ∙ ap content (sym (chain-from P))

  -- and record 0 its words
  spaced_head : 0 < length P / 4 → (word W 0 ≡ word P 0) × (word W 1 ≡ word P 1) × (word W 2 ≡ word P 2)
  spaced_head some =
      let first : record_at W 0 ≡ record_at P 0 = ap (record_at W) (sym spaced.head) ∙ spaced.same 0 some in
      (ap (λ r. r.kind) first, ap (λ r. r.p) first, ap (λ r. r.q) first)

-- a program that passes has a record
some-records : (P : List ℕ) → Passed 0 P → 0 < length P / 4
some-records P passed = omega (arith, passed.some, passed.fours)

-- a program whose records stand one after another passes as it did
module _ {P W : List ℕ} {to : ℕ → ℕ} (rs : List Record) (spaced : Spaced P W to) (row : chain P ≡ record { links = links_from 1 rs; end = whole })
    (passed : Passed 0 P) where
  content-kept : content (chain W) ≡ (rs, whole)
  content-kept = spaced_chain spaced (some-records P passed) (ap (λ c. c.end) row) ∙ ap content row ∙ ap (λ l. (l, whole)) (links-records 1 rs)

  spaced_fine : check W ≡ fine
  spaced_fine =
      let head = spaced_head spaced (some-records P passed) in
      let row_fine = rw row at passed.links in
      passed-fine W (record {
        some = omega (arith, spaced.inside 0 (some-records P passed));
        fours = spaced.fours;
        few = spaced.few;
        head = rw (head.0, head.1, head.2) passed.head;
        links =
            rw (head.0, head.1, head.2)
            (check_by_records _ _ _ begun 1 (chain W).links (chain W).end (rw (ap (λ c. c.0) content-kept, ap (λ c. c.1) content-kept) row_fine));
      })

-- what 1 to 5 let through is an order, and a plan in order with no pivot missing
admitted-plan : (N : ℕ) (L : Plan) (work : ℕ) → admits plain N L work ≡ good → Success plain N L (slots N L) (product_count N L) (record_count N L)
unfolding compiles_by
admitted-plan N L work e =
    let words = 4 * record_count N L in
    compiles_success plain N L work words _ _ _ (rw (compiles_by, e, le-leb words words (omega arith)))

-- The headline: the compiled program with spare records put between is accepted.
pub spaced_accepted : (N : ℕ) (L : Plan) (work : ℕ) (W : List ℕ) (to : ℕ → ℕ) → SpacedAccepted N L work W to
unfolding compiled
spaced_accepted N L work W to admitted spaced =
    let plan = admitted-plan N L work admitted in
    let row = program-chain N L (within-range N 600 plan.order).0 in
    let passed = fine-passed (compiled N L) (program-fine N L plan.order plan.labels plan.whole) in
    let head = spaced_head spaced (some-records (compiled N L) passed) in
    copies_accepted N L work W (record {
      admitted = admitted;
      checked = spaced_fine (compiled_records N L) spaced row passed;
      order = head.0;
      labels = head.1;
      slots-are = head.2;
      records = ap (λ c. c.0) (content-kept (compiled_records N L) spaced row passed);
    })
