-- Without a divisor there is no record.
use borrow.Author.Tests.{eq-eqb, ne_eqb}
use Rattle.writer.proofs.Written.{wrote_none}
use Rattle.writer.proofs.divide.Goals as goal

pub returns-then-divisor-eq0 : goal.returns-then-divisor-eq0
returns-then-divisor-eq0 c = rw (eq-eqb _ _ c.if-divisor-eq0.true) wrote_none

pub put-requires : goal.put-requires
put-requires c = rw (ne_eqb _ _ c.if-divisor-eq0.false) at c.requires

pub returns : goal.returns
returns c = rw (ne_eqb _ _ c.if-divisor-eq0.false) c.put.ensures
