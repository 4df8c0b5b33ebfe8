-- `runner::first_not_finite` is the library's search, whose places count from 0.
use mathlib.Core.Path.{sym, ap, ◌∙◌}
use Rattle.runner.proofs.Finite.{from_one, counted}
use Rattle.runner.proofs.first_not_finite.Goals as goal

pub returns-in-Some : goal.returns-in-Some
returns-in-Some c = ap from_one (sym c.in-Some.is ∙ c.place_not_finite.ensures) ∙ counted c.args.values.now

pub returns-in-None : goal.returns-in-None
returns-in-None c = ap from_one (sym c.in-None.is ∙ c.place_not_finite.ensures) ∙ counted c.args.values.now
