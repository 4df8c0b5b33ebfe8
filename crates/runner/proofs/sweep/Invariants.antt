-- `runner::sweep`: sweeps until they settle. The invariant: so many sweeps are made, and those to come decide how the run ends.
use Prim.Native.Nat.{◌-◌}
use Rattle.runner.proofs.Sweeps.{Sweeping}
use Rattle.runner.proofs.sweep.Given as goal

abbrev pub invariant-loop-sweeps : goal.invariant-loop-sweeps
invariant-loop-sweeps l = Sweeping l.given.words.now l.given.a.now l.given.b.now l.given.limit l.c l.y l.x l.z (l.sweeps - 1)
