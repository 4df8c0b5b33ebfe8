-- `many::pass`: how the loop starts, goes on after a step, or ends.
use native.Mathlib.Omega.{arith}
use mathlib.Core.Path.{refl, sym, ◌∙◌}
use Rattle.many.proofs.Passing.{some_words, starts, in_words, ready, turned_on, turned_over, ended}
use Rattle.many.proofs.pass.Goals.{else-loop-next-test, then-loop-next-test+then-not-any_going}
use Rattle.many.proofs.pass.Goals as goal

pub bounds-words-0 : goal.bounds-words-0
bounds-words-0 c = omega (arith, some_words c.requires.fit_many)

pub bounds-words-3 : goal.bounds-words-3
bounds-words-3 c = omega (arith, some_words c.requires.fit_many)

pub loop-next-init : goal.loop-next-init
loop-next-init c =
    let p = c.requires in
    let turn = starts p.fit_many p.running_len.0 p.running_len.1 c.fresh-z.ensures c.wide-next.ensures in
    record { order = c.wide-order.ensures; turn = turn; inside = in_words turn }

pub step-z-requires : goal.step-z-requires
step-z-requires c = ready c.loop-next.invariant.turn c.loop-next-test.true c.loop-next.invariant.order

pub loop-next-preserved : goal.loop-next-preserved
loop-next-preserved c =
    let i = c.loop-next.invariant in
    let e = c.step-z.ensures in
    let kept = c.step-z.auto in
    let turn = turned_on i.turn c.loop-next-test.true i.order (record { of_c = kept.c; of_y = kept.y; of_x = kept.x }) kept.running kept.out
    e.steps e.sound.0 e.sound.1 (sym c.any_going.ensures ∙ c.if-not-any_going.false) c.wide-next-in-loop-next.ensures in
    record { order = i.order; turn = turn; inside = in_words turn }

pub returns : goal.returns
returns c =
    let i = c.loop-next.invariant in
    elim c.loop-next-test.branch [
      | else-loop-next-test w ↦
          rw (w.c-is, w.y-is, w.x-is, w.running-is, w.out-is, w.z-is, w.records-is) (ended i.turn w.loop-next-test.false)
      | then-loop-next-test+then-not-any_going w ↦
          let e = w.step-z.ensures in
          let kept = w.step-z.auto in
          let turn = turned_over i.turn w.loop-next-test.true i.order (record { of_c = kept.c; of_y = kept.y; of_x = kept.x }) kept.running kept.out
          e.steps e.sound.0 e.sound.1 (sym w.any_going.ensures ∙ w.if-not-any_going.true) in
          rw (w.c-is, w.y-is, w.x-is, w.running-is, w.out-is, w.z-is, w.records-is) (ended turn refl)
    ]
