-- A product with a factor left out has no record.
use Rattle.writer.proofs.Written.{wrote_none, product-kept, product-left_out}
use Rattle.writer.proofs.subtract.Goals as goal
use Rattle.writer.proofs.subtract.Goals.{then-p-eq0-via-then-p-eq0, then-p-eq0-via-else-p-eq0+then-q-eq0}
use mathlib.Core.Logic.{inl, inr}

pub returns-then-p-eq0 : goal.returns-then-p-eq0
returns-then-p-eq0 c = elim c.then-p-eq0.branch [
  | then-p-eq0-via-then-p-eq0 w ↦ rw (product-left_out _ _ _ (inl w.if-p-eq0.true)) wrote_none
  | then-p-eq0-via-else-p-eq0+then-q-eq0 w ↦ rw (product-left_out _ _ _ (inr w.if-q-eq0.true)) wrote_none
]

pub put-requires : goal.put-requires
put-requires c = rw (product-kept _ _ _ c.if-p-eq0.false c.if-q-eq0.false) at c.requires

pub returns : goal.returns
returns c = rw (product-kept _ _ _ c.if-p-eq0.false c.if-q-eq0.false) c.put.ensures
