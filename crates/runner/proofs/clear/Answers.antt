-- `runner::clear` is the library's `fill` with +0.
use lib.Ieee.{of_bits}
use Rattle.runner.proofs.clear.Goals as goal

pub returns : goal.returns
unfolding of_bits
returns c = c.fill.ensures.after (λ y same. same)
