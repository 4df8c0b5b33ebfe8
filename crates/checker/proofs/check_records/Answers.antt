-- `checker::check_records` is 7, then 8, then the chain.
use mathlib.Core.Path.{sym, ap, ◌∙◌}
use Rattle.checker.specs.Whole.{count_fits}
use Rattle.checker.proofs.Whole.{refused_7, refused_8, chain-checked}
use Rattle.checker.proofs.check_records.Goals as goal

pub returns-then-not-count_fits : goal.returns-then-not-count_fits
returns-then-not-count_fits g c =
    refused_7 _ (g.R.Records.words c.args.program.now)
    (ap count_fits (sym c.count-count.ensures) ∙ sym c.count_fits.ensures ∙ c.if-not-count_fits.true)

pub returns-then-not-head_fits : goal.returns-then-not-head_fits
returns-then-not-head_fits g c =
    refused_8 _ _ _ (c.head_of-h.ensures ∙ ap (λ r. record { order = r.kind; coefficients = r.p; slots = r.q }) c.record.ensures)
    (ap count_fits (sym c.count-count.ensures) ∙ sym c.count_fits.ensures ∙ c.if-not-count_fits.false) (sym c.head_fits.ensures ∙ c.if-not-head_fits.true)

pub returns : goal.returns
returns g c =
    c.follow.ensures
    ∙ chain-checked _ _ _ (c.head_of-h.ensures ∙ ap (λ r. record { order = r.kind; coefficients = r.p; slots = r.q }) c.record.ensures)
    (ap count_fits (sym c.count-count.ensures) ∙ sym c.count_fits.ensures ∙ c.if-not-count_fits.false) (sym c.head_fits.ensures ∙ c.if-not-head_fits.false)
