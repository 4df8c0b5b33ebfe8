-- None at order 1, and all at another.
use Rattle.model.proofs.Trials.{made_none, made_all}
use Rattle.ordering.proofs.trials_made.Goals as goal

pub returns-then-n-eq1 : goal.returns-then-n-eq1
returns-then-n-eq1 c = made_none _ _ c.if-n-eq1.true

pub returns-else-n-eq1 : goal.returns-else-n-eq1
returns-else-n-eq1 c = made_all _ _ c.if-n-eq1.false
