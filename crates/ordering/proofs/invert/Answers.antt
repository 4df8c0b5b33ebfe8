-- One position more is noted each turn.
use Rattle.std.proofs.Common.{arith, add-one}
use Rattle.ordering.proofs.Positions.{entry-range, noted_more}
use Rattle.ordering.proofs.invert.Goals as goal

pub bounds-positions-wide : goal.bounds-positions-wide
bounds-positions-wide c =
    let r = entry-range c.requires.0 c.loop-k.k c.loop-k-test.true in
    omega (arith, c.wide.ensures, r, c.requires.1)

pub loop-k-preserved : goal.loop-k-preserved
loop-k-preserved c = rw (c.wide.ensures, add-one) (noted_more c.requires.0 c.loop-k.invariant c.loop-k-test.true c.requires.1)
