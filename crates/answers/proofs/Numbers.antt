-- Answers as numbers: what the proofs of the exported functions share. An answer's number and numbers are the model's, and a small refusal fits 64 bits.
use Prim.Native.Nat.{ℕ, ◌≤◌, ◌<◌, ◌^◌}
use mathlib.Core.Path.{◌≡◌, refl, ap, sym, subst}
use mathlib.Core.List.{[], ◌∷◌}
use native.Mathlib.Omega.{arith}
use Rattle.std.specs.Prelude.{Result, Ok, Err, IfErr}
use Rattle.model.specs.Check.{Verdict}
use Rattle.model.specs.Compile.{Compiled}
use Rattle.model.specs.Run.{Reply, solves, stops, refuses}
use Rattle.model.specs.File.{Filed}
use Rattle.model.specs.Path.{traced_verdict}
use Rattle.model.specs.Dearest as Dearest
use Rattle.model.specs.Dearest.{Costs, yes, no}
use Rattle.model.specs.Numbering.{Renumbering}
use Rattle.model.specs.Boundary.{verdict_number, compiled_number, compiled_numbers, filed_number, filed_numbers, traced_numbers}
use Rattle.model.specs.Boundary.{costs_number, renumbering_number, renumbering_numbers, reply_number}
use Rattle.model.proofs.Small.{Small, SmallVerdict, SmallCompiled, SmallFiled, SmallReply, SmallCosts, SmallRenumbering}
use Rattle.refusal.specs.Named.{number_of, detail_of, refused_number, verdict_of}
use Rattle.refusal.specs.declared.Refusal.{Refusal}
use Rattle.compiler.specs.Compilation.{compiled_of}
use Rattle.compiler.specs.declared.Written.{Written}
use Rattle.codec.specs.Filing.{filed_of}
use Rattle.paths.specs.Traced.{traced_of}
use Rattle.ordering.specs.Ordered.{ordered_of}
use Rattle.ordering.specs.declared.Renumbered.{Renumbered}
use Rattle.answers.specs.Numbers.{answer_number, answer_numbers}

-- a refusal that is small fits 64 bits
abbrev Fits : Refusal → Type 0
Fits r = refused_number r < 2 ^ 64

small-fits : {b : ℕ} (r : Refusal) → Small b (number_of r) (detail_of r) → b ≤ 2 ^ 63 → Fits r
small-fits r small h = omega arith

-- ---- a check

pub verdict-fits : {b : ℕ} (answer : Result Unit Refusal) {v : Verdict} → verdict_of answer ≡ v → SmallVerdict b v → b ≤ 2 ^ 63 → IfErr answer Fits
verdict-fits {b} answer same small h = step answer (subst (SmallVerdict b) (sym same) small)
  where
    step : (a : Result Unit Refusal) → SmallVerdict b (verdict_of a) → IfErr a Fits
    step (Ok done) small = tt
    step (Err r) small = small-fits r small h

pub verdict_told : (answer : Result Unit Refusal) {v : Verdict} → verdict_of answer ≡ v → answer_number answer ≡ verdict_number v
verdict_told (Ok done) same = ap verdict_number same
verdict_told (Err r) same = ap verdict_number same

-- ---- a compiler

pub compiled-fits : {b : ℕ} (answer : Result Written Refusal) {v : Compiled} → compiled_of answer ≡ v → SmallCompiled b v → b ≤ 2 ^ 63
    → IfErr answer Fits
compiled-fits {b} answer same small h = step answer (subst (SmallCompiled b) (sym same) small)
  where
    step : (a : Result Written Refusal) → SmallCompiled b (compiled_of a) → IfErr a Fits
    step (Ok w) small = tt
    step (Err r) small = small-fits r small h

pub compiled_told : (answer : Result Written Refusal) {v : Compiled} → compiled_of answer ≡ v
    → (answer_number answer ≡ compiled_number v) × (answer_numbers (λ w. w.slots ∷ w.products ∷ w.records ∷ []) answer ≡ compiled_numbers v)
compiled_told (Ok w) same = (ap compiled_number same, ap compiled_numbers same)
compiled_told (Err r) same = (ap compiled_number same, ap compiled_numbers same)

-- ---- a file

pub filed-fits : {b : ℕ} (answer : Result ℕ Refusal) {v : Filed} → filed_of answer ≡ v → SmallFiled b v → b ≤ 2 ^ 63 → IfErr answer Fits
filed-fits {b} answer same small h = step answer (subst (SmallFiled b) (sym same) small)
  where
    step : (a : Result ℕ Refusal) → SmallFiled b (filed_of a) → IfErr a Fits
    step (Ok k) small = tt
    step (Err r) small = small-fits r small h

pub filed_told : (answer : Result ℕ Refusal) {v : Filed} → filed_of answer ≡ v
    → (answer_number answer ≡ filed_number v) × (answer_numbers (λ k. k ∷ 0 ∷ 0 ∷ []) answer ≡ filed_numbers v)
filed_told (Ok k) same = (ap filed_number same, ap filed_numbers same)
filed_told (Err r) same = (ap filed_number same, ap filed_numbers same)

-- ---- a path

pub traced-fits : {b : ℕ} (answer : Result ℕ Refusal) {v : Verdict} → traced_verdict (traced_of answer) ≡ v → SmallVerdict b v → b ≤ 2 ^ 63
    → IfErr answer Fits
traced-fits {b} answer same small h = step answer (subst (SmallVerdict b) (sym same) small)
  where
    step : (a : Result ℕ Refusal) → SmallVerdict b (traced_verdict (traced_of a)) → IfErr a Fits
    step (Ok k) small = tt
    step (Err r) small = small-fits r small h

pub traced_told : (answer : Result ℕ Refusal)
    → (answer_number answer ≡ verdict_number (traced_verdict (traced_of answer)))
    × (answer_numbers (λ k. k ∷ 0 ∷ 0 ∷ []) answer ≡ traced_numbers (traced_of answer))
traced_told (Ok k) = (refl, refl)
traced_told (Err r) = (refl, refl)

-- ---- a numbering

pub renumbering_fits : {b : ℕ} (answer : Result Renumbered Refusal) {v : Renumbering} → ordered_of answer ≡ v → SmallRenumbering b v → b ≤ 2 ^ 63
    → IfErr answer Fits
renumbering_fits {b} answer same small h = step answer (subst (SmallRenumbering b) (sym same) small)
  where
    step : (a : Result Renumbered Refusal) → SmallRenumbering b (ordered_of a) → IfErr a Fits
    step (Ok r) small = tt
    step (Err r) small = small-fits r small h

pub renumbering_told : (answer : Result Renumbered Refusal) {v : Renumbering} → ordered_of answer ≡ v
    → (answer_number answer ≡ renumbering_number v) × (answer_numbers (λ r. r.slots ∷ r.trials ∷ r.distance ∷ []) answer ≡ renumbering_numbers v)
renumbering_told (Ok r) same = (ap renumbering_number same, ap renumbering_numbers same)
renumbering_told (Err r) same = (ap renumbering_number same, ap renumbering_numbers same)

-- ---- whether a plan costs most, and a run

pub costs-fits : {b : ℕ} {answer v : Costs} → answer ≡ v → SmallCosts b v → b ≤ 2 ^ 63 → costs_number answer < 2 ^ 64
costs-fits {v = yes} same small h = rw same (omega arith)
costs-fits {v = no} same small h = rw same (omega arith)
costs-fits {v = Dearest.refused r d} same small h = rw same (omega arith)

pub reply-fits : {b : ℕ} {answer v : Reply} → answer ≡ v → SmallReply b v → b ≤ 2 ^ 63 → reply_number answer < 2 ^ 64
reply-fits {v = solves p q g k} same small h = rw same (omega arith)
reply-fits {v = stops r k t n} same small h = rw same (omega arith)
reply-fits {v = refuses r d} same small h = rw same (omega arith)
