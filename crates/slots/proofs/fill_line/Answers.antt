use Rattle.std.proofs.Common.{◌≡◌, suc, ◌+◌, sym, ◌∙◌, arith, add-one}
use Rattle.model.specs.Fill.{held}
use Rattle.slots.proofs.Here.{bounds}
use Rattle.slots.proofs.Search.{indices, search_begins, search_found, search_onward, search_ended, held_by_work}
use Rattle.slots.proofs.Along.{along_at, along_here, along_room, along_next, along_run}
use Rattle.slots.proofs.fill_line.Goals as goal
use Rattle.slots.proofs.fill_line.Goals.{then-h-m, else-h-m, then-m-h, else-m-h+then-both_used}

pub is_marked-planned-requires : goal.is_marked-planned-requires
is_marked-planned-requires c =
    let at = along_at c.requires.sized c.requires.standing c.loop-t.invariant c.loop-t-test.true c.row_of-i.ensures c.column_of-j.ensures in
    (bounds at).1

pub loop-h-init : goal.loop-h-init
loop-h-init c =
    let at = along_at c.requires.sized c.requires.standing c.loop-t.invariant c.loop-t-test.true c.row_of-i.ensures c.column_of-j.ensures in
    search_begins at c.search_from-h.ensures
    (elim c.if-h-m.branch [ then-h-m w ↦ λ before. rw w.low-is w.index_of.ensures | else-h-m w ↦ λ before. absurd (omega arith) ])
    (elim c.if-h-m.branch [ then-h-m w ↦ λ before. rw w.low-is w.index_of-then-h-m.ensures | else-h-m w ↦ λ before. absurd (omega arith) ])

pub both_used-requires : goal.both_used-requires
both_used-requires c =
    let at = along_at c.requires.sized c.requires.standing c.loop-t.invariant c.loop-t-test.true c.row_of-i.ensures c.column_of-j.ensures in
    let i = indices at c.loop-h.invariant c.if-m-h.false in
    (i.0, i.1)

pub overflow_add-low-in-loop-h : goal.overflow_add-low-in-loop-h
overflow_add-low-in-loop-h c =
    let at = along_at c.requires.sized c.requires.standing c.loop-t.invariant c.loop-t-test.true c.row_of-i.ensures c.column_of-j.ensures in
    omega (arith, indices at c.loop-h.invariant c.if-m-h.false, c.wide-left.ensures)

pub overflow_add-high-in-loop-h : goal.overflow_add-high-in-loop-h
overflow_add-high-in-loop-h c =
    let at = along_at c.requires.sized c.requires.standing c.loop-t.invariant c.loop-t-test.true c.row_of-i.ensures c.column_of-j.ensures in
    omega (arith, indices at c.loop-h.invariant c.if-m-h.false, c.wide-left.ensures)

pub loop-h-preserved : goal.loop-h-preserved
loop-h-preserved c =
    let at = along_at c.requires.sized c.requires.standing c.loop-t.invariant c.loop-t-test.true c.row_of-i.ensures c.column_of-j.ensures in
    rw add-one (search_onward at c.loop-h.invariant c.if-m-h.false _ c.both_used.ensures c.if-both_used.false c.wide-left.ensures)

pub settle-walk-requires-clause-done_bound : goal.settle-walk-requires-clause-done_bound
settle-walk-requires-clause-done_bound c =
    let at = along_at c.requires.sized c.requires.standing c.loop-t.invariant c.loop-t-test.true c.row_of-i.ensures c.column_of-j.ensures in
    omega (arith, bounds at)

pub empty_run-empty-requires : goal.empty_run-empty-requires
empty_run-empty-requires c =
    let p = c.requires.sized in
    let room = along_room p.0 p.1 p.2 (c.loop-t.invariant _ c.requires.standing.reached) in
    let s = c.settle-walk in
    omega (arith, room, p.0.high, s.ensures.done, s.auto.work, c.loop-t-test.true)

pub overflow_add-walk : goal.overflow_add-walk
overflow_add-walk c =
    let p = c.requires.sized in
    let room = along_room p.0 p.1 p.2 (c.loop-t.invariant _ c.requires.standing.reached) in
    omega (arith, room, c.settle-walk.ensures.done, c.empty_run-empty.ensures.run.inside)

pub loop-t-preserved : goal.loop-t-preserved
loop-t-preserved c = λ L r.
    let p = c.requires.sized in
    let along = c.loop-t.invariant L r in
    let at = along_here p.0 p.1 p.2 _ _ along c.loop-t-test.true c.row_of-i.ensures c.column_of-j.ensures in
    let s = c.loop-h.invariant in
    let all = held_by_work at c.is_marked-planned.ensures in
    let known : c.if-m-h.held ≡ held c.args.n L c.row_of-i.result c.column_of-j.result = elim c.if-m-h.branch [
      | then-m-h w ↦ w.held-is ∙ search_ended at s w.if-m-h.true ∙ sym all
      | else-m-h+then-both_used w ↦ w.held-is ∙ search_found at s w.if-m-h.false w.both_used.ensures w.if-both_used.true ∙ sym all
    ] in
    let after = along_next p.0 p.1 p.2 along c.loop-t-test.true c.row_of-i.ensures c.column_of-j.ensures known c.settle-walk.ensures in
    let e : c.loop-t.t + (c.empty_run-empty.result + 1) ≡ suc c.loop-t.t + c.empty_run-empty.result = omega arith in
    rw e (along_run p.0 p.1 p.2 _ after (rw add-one at c.empty_run-empty.ensures.run))
