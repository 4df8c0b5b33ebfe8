-- The loop's invariant: the products from h on are left to write, and across is the label of (m, h).
use Rattle.std.proofs.Common.{◌≡◌, ◌<◌}
use Rattle.model.specs.Label.{label}
use Rattle.writer.specs.Kinds.{number_of}
use Rattle.writer.specs.Worked.{product_at}
use Rattle.writer.proofs.Products.{Rising}
use Rattle.writer.proofs.write_left.Given as goal

abbrev pub invariant-loop-h : goal.invariant-loop-h
invariant-loop-h l = record {
  rising : Rising (product_at l.n l.work (number_of l.kind) l.m) 1 l.first l.k l.m l.fn.rest l.next l.h l.rest;
  row : l.h < l.m → l.across ≡ label l.n l.m l.h;
}
