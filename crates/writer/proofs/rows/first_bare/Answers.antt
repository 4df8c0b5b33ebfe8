-- The walk along the diagonal: laws of `Sweep`.
use Rattle.std.proofs.Common.{arith, ap, ◌+◌, ◌*◌, ◌<◌, length}
use Rattle.writer.proofs.Sweep.{Diagonal, diagonal_first, none_bare, diagonal_inside, bare-here, diagonal_next}
use Rattle.writer.proofs.rows.first_bare.Goals as goal
use Rattle.writer.proofs.rows.first_bare.Goals.{In-loop-r, After-wide}

pub loop-r-init : goal.loop-r-init
loop-r-init c = diagonal_first

inside : (c : In-loop-r) → let at = c.loop-r.at in (at < 360000) × (at < length c.args.work.now)
inside c = diagonal_inside c.loop-r.invariant c.requires (omega arith)

pub offset_bounds-work-at : goal.offset_bounds-work-at
offset_bounds-work-at c = omega (arith, inside (goal.at.offset_bounds-work-at c).In-loop-r)

pub bounds-work-at : goal.bounds-work-at
bounds-work-at c = (inside (goal.at.bounds-work-at c).In-loop-r).1

pub returns-then-work-at-eq0 : goal.returns-then-work-at-eq0
returns-then-work-at-eq0 c = bare-here c.loop-r.invariant c.requires (omega arith) c.if-work-at-eq0.true

-- row r has its coefficient
passed : (c : After-wide) → let l = c.loop-r in Diagonal c.args.n c.args.work.now (l.r + 1) (l.at + (2 * c.wide.result + 1))
passed c = diagonal_next c.loop-r.invariant c.requires (omega arith) c.if-work-at-eq0.false (ap (λ s. c.loop-r.at + (2 * s + 1)) c.wide.ensures)

pub loop-r-preserved : goal.loop-r-preserved
loop-r-preserved c = passed (goal.at.loop-r-preserved c).After-wide

pub returns-else-work-at-eq0 : goal.returns-else-work-at-eq0
returns-else-work-at-eq0 c = none_bare (passed (goal.at.returns-else-work-at-eq0 c).After-wide) (omega arith)
