-- `copies::compare_formula` goes along the chain beside a formula's records. The invariant: the first i records are compared.
use Rattle.copies.proofs.Chained.{Going}
use Rattle.copies.proofs.compare_formula.Given as goal

abbrev pub invariant-loop-i : goal.invariant-loop-i
invariant-loop-i l = Going l.words l.formula l.count l.z l.last l.i
