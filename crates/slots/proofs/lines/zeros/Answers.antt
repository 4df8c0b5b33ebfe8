use Rattle.std.proofs.Common.{sym, ◌∙◌, arith}
use Rattle.slots.proofs.Zeros.{block_more, zeros_more, zeros_of}
use Rattle.slots.proofs.lines.zeros.Goals as goal

pub loop-k-preserved : goal.loop-k-preserved
loop-k-preserved c =
    block_more _ c.loop-k.k _ c.loop-k-test.true (omega arith) c.loop-k.invariant (sym c.is_zero.ensures ∙ c.if-is_zero.true)

pub returns : goal.returns
returns c = zeros_of _ _ _ _ _ (omega (arith, c.wide.ensures)) (zeros_more _ c.loop-k.k _ _ c.loop-k.invariant c.zeros_first.ensures)
