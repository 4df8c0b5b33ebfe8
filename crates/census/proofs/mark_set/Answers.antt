-- The digits of a number, one more a turn.
use Rattle.std.proofs.Common.{arith, ap, sym, ◌∙◌, add-one, take, set, ◌%◌}
use Rattle.std.proofs.lemmas.Nat.{shr-shr}
use Rattle.std.proofs.Math.Seq.{take-suc-set}
use Rattle.std.proofs.Math.Nat.{div-one}
use Rattle.model.proofs.Sets.{digits-none, digits_more}
use Rattle.census.proofs.mark_set.Goals as goal

pub loop-w-init : goal.loop-w-init
loop-w-init c = record { left = sym (div-one _); written = digits-none _ }

pub loop-w-preserved : goal.loop-w-preserved
loop-w-preserved c =
    let b = c.args.set in
    let work = c.loop-w.work in
    let k = c.loop-w.w-index in
    let i = c.loop-w.invariant in
    let one-more = ap (λ n. take n (set work k (c.loop-w.set % 2))) (add-one k) ∙ take-suc-set work k (c.loop-w.set % 2) (omega arith) in
    record {
      left = rw i.left (shr-shr b k 1);
      written = one-more ∙ rw (i.written, i.left) (digits_more b k);
    }
