-- A freed slot is given again.
use Rattle.reuse.proofs.Freed.{gave_again}
use Rattle.reuse.proofs.next_place.Goals as goal

pub returns-then-walk-given : goal.returns-then-walk-given
returns-then-walk-given c = gave_again c.wide-at.ensures c.if-walk-given.true c.if-given-at-eq0.false
