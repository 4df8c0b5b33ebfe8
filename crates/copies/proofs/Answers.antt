-- What comparing answers and leaves in the work slice, by the first check that refuses.
use Prim.Native.Nat.{ℕ, ◌*◌, ◌<◌}
use native.Mathlib.Omega.{arith}
use mathlib.Core.Path.{◌≡◌, sym, ap, ◌∙◌}
use mathlib.Core.Bool.{true, false}
use mathlib.Core.List.{List, [], append-nil}
use lib.ListN.{length, drop, length-append}
use Rattle.model.specs.Fill.{Plan, slots}
use Rattle.model.specs.Program.{Record, compiled_records}
use Rattle.model.specs.Check.{Verdict, fine, refusal, check, chain, begun}
use Rattle.model.specs.Compile.{good, plain, admits, slot_numbers}
use Rattle.model.specs.Compare.{compared, compares, work_compared}
use Rattle.model.proofs.WorkNumbers.{slot-numbers-length}
use Rattle.model.proofs.Compiles.{orderly-good}
use Rattle.model.proofs.Passing.{fine-passed, ends-whole}
use Rattle.model.proofs.Following.{chain-from}
use Rattle.slots.specs.declared.Filled.{Filled}
use Rattle.plans.specs.Slotted.{Slotted, Refuses}
use Rattle.plans.proofs.Refused.{refused, admitted}
use Rattle.writer.proofs.Numbers.{filled-first, slots_agree, plan-compiled}
use Rattle.writer.proofs.Whole.{kept-ready}
use Rattle.std.specs.Prelude.{Ok, Err}
use Rattle.refusal.specs.Named.{number_of, detail_of}
use Rattle.refusal.specs.declared.Refusal.{Refusal}
use Rattle.copies.specs.Beside.{OnChain, told, Leads}
use Rattle.copies.specs.Beside as Beside
use Rattle.copies.specs.Compared.{head_is, SlotsStand, Compares}
use Rattle.copies.specs.declared.Compared.{Compared}

-- ---- 1 to 5

module _ {N : ℕ} {L : Plan} {work work' : List ℕ} (W : List ℕ) where
  -- they refuse
  pub refuses : {r : Refusal} → Refuses 1 N L work work' r
      → (refusal (number_of r) (detail_of r) ≡ compares N L (length work) W) × (work' ≡ work_compared N L work)
  unfolding compares work_compared
  refuses d = let a = refused d in (rw (compares, a.answer_is), a.work_is)

module _ {N : ℕ} {L : Plan} {work work' in_rows in_columns : List ℕ} {r : Filled} (s : Slotted 1 N L work work' in_rows in_columns r) where
  -- or the plan is admitted, and its slots stand in the work numbers
  pub goes_on : (admits plain N L (length work) ≡ good) × (work' ≡ work_compared N L work)
  unfolding work_compared
  goes_on = let a = admitted s in (a.answer_is, a.work_is)

  pub slots_stand : SlotsStand N L work' in_rows in_columns r.slots
  slots_stand =
      let filled = s.filled in
      let first = filled-first filled in
      let plan = orderly-good _ N L (length work) s.passed in
      record {
        ready =
            kept-ready N L work' (λ i j inside. sym (slots_agree N L work' first i j inside).1) plan.0 plan.1.0
            (omega (arith, ap length filled.written, length-append (slot_numbers N L) (drop (N * N) work), slot-numbers-length N L))
            filled.row_count filled.column-count filled.skips;
        records = sym (plan-compiled N L work' first);
        slots-are = filled.slots-are;
      }

-- ---- 7 to 13, and 28

module _ (W : List ℕ) where
  -- what passes 7 to 13 has a record 0, and its chain ends whole
  pub chain-stands : check W ≡ fine → (2 < length W) × OnChain W 0
  chain-stands passes =
      let passed = fine-passed W passes in (
        omega (arith, passed.some, passed.fours),
        record {
          few = passed.few;
          inside = omega (arith, passed.some, passed.fours);
          ends = sym (ap (λ c. c.end) (chain-from W)) ∙ ends-whole _ _ _ begun (chain W).links (chain W).end passed.links;
        },
      )

  -- what is said once all records are compared, from record 0 on, or one is refused
  pub led-through : (rs : List Record) (z : Compared) → Leads W rs Beside.begun (Ok z) → told W z [] ≡ compared 0 rs (chain W).links
  unfolding told
  led-through rs z leads = sym (leads []) ∙ rw (append-nil rs, chain-from W)

  pub led-over : (rs : List Record) (r : Refusal) → Leads W rs Beside.begun (Err r)
      → refusal (number_of r) (detail_of r) ≡ compared 0 rs (chain W).links
  unfolding told
  led-over rs r leads = sym (leads []) ∙ rw (append-nil rs, chain-from W)

  module _ (N : ℕ) (L : Plan) where
    -- 7 to 13 refuse
    pub refused-check : {r d : ℕ} → check W ≡ refusal r d → Compares N L W (refusal r d)
    unfolding compares
    refused-check e work admitted = rw (compares, admitted, e)

    -- 28 refuses record 0
    pub refused-head : check W ≡ fine → head_is W N (length L) (slots N L) ≡ false → Compares N L W (refusal 28 0)
    unfolding compares
    refused-head e head work admitted = rw (compares, admitted, e, head)

    -- or the chain is compared
    pub compared-chain : {v : Verdict} {rs : List Record} → check W ≡ fine → head_is W N (length L) (slots N L) ≡ true → rs ≡ compiled_records N L
        → v ≡ compared 0 rs (chain W).links → Compares N L W v
    unfolding compares
    compared-chain e head are same work admitted = same ∙ rw (compares, admitted, e, head, are)
