-- `capi::crout_fill_path` gives the number and the numbers of what the tracing answers: a refusal's detail is small, so the number fits 64 bits.
use native.Mathlib.Omega.{arith}
use mathlib.Core.Path.{sym, ap, ◌∙◌}
use Rattle.answers.proofs.Numbers.{traced-fits, traced_told}
use Rattle.model.proofs.Small.{tracing_small}
use Rattle.model.specs.Boundary.{verdict_number}
use Rattle.capi.proofs.crout_fill_path.Goals as goal

pub told_answer-requires : goal.told_answer-requires
told_answer-requires c = traced-fits c.fill_path.result (sym c.fill_path.ensures.answer.decided) (tracing_small _ _ _ _ _ _) (omega arith)

pub returns-clause-answer : goal.returns-clause-answer
returns-clause-answer c =
    c.told_answer.ensures.number ∙ (traced_told c.fill_path.result).0 ∙ ap verdict_number (sym c.fill_path.ensures.answer.decided)

pub returns-clause-path : goal.returns-clause-path
returns-clause-path c =
    record { answer = _; traces = c.fill_path.ensures.answer; told = c.told_answer.ensures.numbers ∙ (traced_told c.fill_path.result).1 }
