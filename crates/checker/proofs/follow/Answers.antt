-- `checker::follow` follows the chain of a program.
use mathlib.Core.Path.{sym, ap, ◌∙◌}
use native.Mathlib.Omega.{arith}
use Rattle.checker.proofs.Turns.{check-begins, check-ends, check_breaks, check_goes_on, check-refuses}
use Rattle.checker.proofs.follow.Goals as goal

pub loop-next-init : goal.loop-next-init
loop-next-init g c =
    (check-begins _ _ c.begun-g.result c.begun-g.ensures (omega arith), c.wide-next.ensures ∙ ap (λ r. r.next) c.record.ensures)

pub returns-then-next-eq0 : goal.returns-then-next-eq0
returns-then-next-eq0 g c =
    let l = c.loop-next in
    c.at_end.ensures ∙ check-ends _ _ l.g l.k l.invariant.0 (sym l.invariant.1 ∙ c.if-next-eq0.true)

pub returns-then-not-may_follow : goal.returns-then-not-may_follow
returns-then-not-may_follow g c =
    let l = c.loop-next in
    check_breaks _ _ l.g l.k l.invariant.0 _ _ l.invariant.1 (omega arith) c.if-next-eq0.false (sym c.may_follow.ensures ∙ c.if-not-may_follow.true)

pub returns-then-not-is_right : goal.returns-then-not-is_right
returns-then-not-is_right g c =
    let l = c.loop-g in
    c.judged.ensures ∙ check-refuses _ _ l.g l.k l.next l.invariant.2 _ c.record-r.ensures (sym c.is_right.ensures ∙ c.if-not-is_right.true)

pub loop-next-preserved : goal.loop-next-preserved
loop-next-preserved g c =
    let l = c.loop-g in (
      check_goes_on _ _ l.g l.k l.next l.invariant.2 _ c.record-r.ensures (sym c.is_right.ensures ∙ c.if-not-is_right.false) _ c.onward.ensures,
      c.wide-next-in-loop-g.ensures ∙ ap (λ r. r.next) c.record-r.ensures,
    )

pub loop-g-preserved : goal.loop-g-preserved
loop-g-preserved g c =
    let l = c.loop-g in
    let f = l.invariant.2 in (
      omega (arith, l.invariant.0, f.up),
      omega arith,
      record {
        here = check_goes_on _ _ l.g l.k l.next f _ c.record-r.ensures (sym c.is_right.ensures ∙ c.if-not-is_right.false) _ c.onward.ensures;
        is = sym c.if-next-following.false ∙ c.wide-next-in-loop-g.ensures ∙ ap (λ r. r.next) c.record-r.ensures;
        up = omega arith;
        low = omega arith;
      },
    )
