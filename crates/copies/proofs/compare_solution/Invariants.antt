-- `copies::compare_solution` compares x(n)..x(1). The invariant: those from i down are left to compare.
use Prim.Native.Nat.{◌-◌}
use mathlib.Core.Path.{◌≡◌}
use lib.ListN.{length}
use Rattle.model.specs.Lists.{falling, joined}
use Rattle.writer.specs.Line.{x_at, solution_records}
use Rattle.copies.specs.Beside.{OnChain}
use Rattle.copies.proofs.Leading.{Comparing}
use Rattle.copies.proofs.compare_solution.Given as goal

abbrev pub invariant-loop-i : goal.invariant-loop-i
invariant-loop-i l =
    record {
      comparing : Comparing l.words (solution_records l.slotted.n l.slotted.work.now) l.initial.z (joined (falling (x_at l.slotted.n l.slotted.work.now) l.i (l.i - 0))) l.z;
      chain : OnChain l.words l.z.last;
      long : length l.formula ≡ 2412;
    }
