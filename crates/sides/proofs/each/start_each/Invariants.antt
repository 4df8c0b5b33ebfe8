-- `sides::each::start_each`: after r turns the sides below r have their running numbers.
use Prim.Native.Nat.{◌+◌, ◌*◌, ◌≤◌}
use mathlib.Core.Path.{◌≡◌}
use lib.ListN.{length, get_or}
use Rattle.model.specs.Arith.{plus_zero}
use Rattle.sides.specs.Cells.{Started, read_as}
use Rattle.sides.proofs.each.start_each.Given as goal

abbrev pub invariant-loop-r : goal.invariant-loop-r
invariant-loop-r l =
    (l.r ≤ l.count) × (length l.running ≡ 64)
    × Started l.r (λ s. read_as l.given (get_or l.values (s * l.order + l.at) plus_zero)) l.running
