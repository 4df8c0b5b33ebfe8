-- The loop's invariant: the products below h are left to write, from the highest down, and across is the label of the first.
use Rattle.std.proofs.Common.{◌≡◌, ◌<◌, ◌-◌}
use Rattle.model.specs.Label.{label}
use Rattle.writer.specs.Worked.{product_at}
use Rattle.writer.proofs.Products.{Falling}
use Rattle.writer.proofs.write_right.Given as goal

abbrev pub invariant-loop-h : goal.invariant-loop-h
invariant-loop-h l = record {
  falling : Falling (product_at l.n l.work 6 l.i) l.first l.k l.n l.i l.fn.rest l.next (l.h - 1) l.rest;
  row : l.i < l.h - 1 → l.across ≡ label l.n l.i (l.h - 1);
}
