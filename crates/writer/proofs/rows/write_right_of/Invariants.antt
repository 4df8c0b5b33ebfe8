-- The loop's invariant: the products from column r + 1 + h on are left to write.
use Rattle.std.proofs.Common.{◌+◌, suc}
use Rattle.writer.specs.Worked.{product_at}
use Rattle.writer.proofs.Products.{Rising}
use Rattle.writer.proofs.rows.write_right_of.Given as goal

abbrev pub invariant-loop-h : goal.invariant-loop-h
invariant-loop-h l = Rising (product_at l.n l.work 11 l.r) (suc l.r) l.first l.k (suc l.n) l.fn.rest l.next (l.r + 1 + l.h) l.rest
