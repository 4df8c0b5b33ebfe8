-- `plans::judge`: the labels left, judged after the one before, are judged as the whole plan is.
use Rattle.std.proofs.Common.{◌≡◌, suc, drop}
use Rattle.model.specs.Compile.{judged}
use Rattle.plans.proofs.judge.Given as goal

abbrev pub invariant-loop-k : goal.invariant-loop-k
invariant-loop-k l = judged l.n 0 1 l.plan ≡ judged l.n l.before (suc l.k) (drop l.k l.plan)
