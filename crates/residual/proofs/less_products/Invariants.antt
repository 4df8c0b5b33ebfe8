-- `residual::less_products` takes the products away label by label. The invariant: those of the first k are taken, and the batch is none past the
-- next.
use Prim.Native.Nat.{ℕ, ◌*◌, ◌≤◌, ◌<◌}
use mathlib.Core.Path.{◌≡◌}
use mathlib.Core.List.{List}
use lib.ListN.{length, get_or}
use lib.Ieee.{Float}
use Rattle.model.proofs.Rows.{HeldRows}
use Rattle.labels.specs.Batches.{Reaches}
use Rattle.residual.specs.Subtracted.{start_of}
use Rattle.residual.proofs.Labelled.{less_up_to}
use Rattle.residual.proofs.less_products.Given as goal

abbrev pub invariant-loop-label : goal.invariant-loop-label
invariant-loop-label l = record {
  taken : (B : List Float) → HeldRows l.n (start_of B) l.initial.words → HeldRows l.n (less_up_to l.n l.plan l.a B l.x (length l.yielded)) l.words;
  long : length l.words ≡ l.n * 66;
  none_past : (j : ℕ) → length l.yielded ≤ j → j < length l.plan → Reaches l.n (get_or l.plan j 0) l.batch;
}
