-- The invariant of `compare_formula`'s loop holds, and gives what it ensures.
use native.Mathlib.Omega.{arith}
use Rattle.copies.proofs.Chained.{next-read, turned_short, turned_over, turned_on, going-ends}
use Rattle.copies.proofs.compare_formula.Goals as goal

pub is_same-requires : goal.is_same-requires
is_same-requires c = (next-read c.loop-i.invariant.on _ c.wide-k.ensures c.if-k-eq0.false, omega arith)

pub loop-i-preserved : goal.loop-i-preserved
loop-i-preserved c = turned_on c.loop-i.invariant (omega arith) _ c.wide-k.ensures c.if-k-eq0.false c.if-not-is_same.ensures

pub returns-then-k-eq0-clause-leads : goal.returns-then-k-eq0-clause-leads
returns-then-k-eq0-clause-leads c = turned_short c.loop-i.invariant (omega arith) _ c.wide-k.ensures c.if-k-eq0.true

pub returns-then-not-is_same-clause-leads : goal.returns-then-not-is_same-clause-leads
returns-then-not-is_same-clause-leads c =
    turned_over c.loop-i.invariant (omega arith) _ c.wide-k.ensures c.if-k-eq0.false c.if-not-is_same.ensures

pub returns-clause-leads : goal.returns-clause-leads
returns-clause-leads c = going-ends c.loop-i.invariant (omega arith)
