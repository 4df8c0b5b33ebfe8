-- One number more is written each turn.
use Rattle.std.proofs.Common.{arith, ap, sym, ◌∙◌, ◌+◌, add-one, take, set}
use Rattle.std.proofs.Math.Seq.{take-suc-set}
use Rattle.model.proofs.Permutation.{given-none, given_more}
use Rattle.ordering.proofs.number_as_given.Goals as goal

pub loop-k-init : goal.loop-k-init
loop-k-init c = sym given-none

pub loop-k-preserved : goal.loop-k-preserved
loop-k-preserved c =
    let numbering = c.loop-k.numbering in
    let k = c.loop-k.k in
    let one-more = ap (λ n. take n (set numbering k (k + 1))) (add-one k) ∙ take-suc-set numbering k (k + 1) (omega arith) in
    one-more ∙ rw c.loop-k.invariant (sym (given_more k))
