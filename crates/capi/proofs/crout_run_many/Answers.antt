-- `capi::crout_run_many` gives the number of the call's answer: a refusal's detail is small, so the number fits 64 bits.
use native.Mathlib.Omega.{arith}
use mathlib.Core.Path.{◌∙◌}
use Rattle.answers.proofs.Numbers.{verdict-fits, verdict_told}
use Rattle.model.proofs.Small.{many_small}
use Rattle.capi.proofs.crout_run_many.Goals as goal

pub verdict_answer-requires : goal.verdict_answer-requires
verdict_answer-requires c = verdict-fits c.run_many.result c.run_many.ensures.0.0 (many_small _ _ _ _ _ _ _ _) (omega arith)

pub returns : goal.returns
returns c =
    let e = c.run_many.ensures in
    ((c.verdict_answer.ensures ∙ verdict_told c.run_many.result e.0.0, e.0.1), e.1)
