-- 30, or the counts of all sets.
use Rattle.std.proofs.Common.{sym, ◌∙◌}
use Rattle.model.proofs.Tallies.{counts_refused, counts_taken}
use Rattle.census.proofs.count_plans.Goals as goal

pub returns-then-not-within : goal.returns-then-not-within
returns-then-not-within c =
    let counts = counts_refused _ (sym c.within.ensures ∙ c.if-not-within.true) in
    record { answer = counts.0; out = counts.1 }

pub returns : goal.returns
returns c =
    let counts = counts_taken _ (sym c.within.ensures ∙ c.if-not-within.false) in
    record { answer = counts.0; out = c.count_sets.ensures ∙ counts.1 }
