-- The loop's invariant: the column's places before the t-th are done. The measure is how many are left.
use Rattle.std.proofs.Common.{suc, ◌-◌, ◌≤◌}
use Rattle.model.specs.Fill.{Plan}
use Rattle.reuse.specs.Places.{ColumnAt}
use Rattle.reuse.proofs.assign_column.Given as goal

abbrev pub invariant-loop-t : goal.invariant-loop-t
invariant-loop-t l = record {
  done : (L : Plan) → ColumnAt l.n L l.m l.m l.fn.given l.fn.walk → ColumnAt l.n L l.m l.t l.given l.walk;
  start : l.m ≤ l.t;
  end : l.t ≤ suc l.n;
}

abbrev pub decreases-loop-t : goal.decreases-loop-t
decreases-loop-t l = suc l.n - l.t
