-- The loop's invariant: the products from h on are left to write, and across and down are the labels of (i, h) and (h, j).
use Rattle.std.proofs.Common.{◌≡◌, ◌<◌, min}
use Rattle.model.specs.Label.{label}
use Rattle.writer.specs.Worked.{inner_at}
use Rattle.writer.proofs.Products.{Rising}
use Rattle.writer.proofs.write_inner.Given as goal

abbrev pub invariant-loop-h : goal.invariant-loop-h
invariant-loop-h l = record {
  rising : Rising (inner_at l.n l.work l.i l.j) 1 l.first l.k (min l.i l.j) l.fn.rest l.next l.h l.rest;
  row : l.h < min l.i l.j → l.across ≡ label l.n l.i l.h;
  column : l.h < min l.i l.j → l.down ≡ label l.n l.h l.j;
}
