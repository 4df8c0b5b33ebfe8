-- `residual::start_rows`: the next row starts, and all have in the end.
use native.Mathlib.Numerals.{add-one}
use native.Mathlib.Omega.{arith}
use Rattle.residual.proofs.Labelled.{whole_row, started_more, started_all, lent_length}
use Rattle.residual.proofs.start_rows.Goals as goal

pub loop-r-init : goal.loop-r-init
loop-r-init c = record { long = c.requires.2; each = λ i h. absurd (omega arith) }

pub start_row-requires : goal.start_row-requires
start_row-requires c =
    let r = c.loop-r.r in
    (lent_length _ _ r _ (whole_row r) c.loop-r.invariant.long (omega arith), c.requires.0 r (omega arith))

pub loop-r-preserved : goal.loop-r-preserved
loop-r-preserved c =
    let r = c.loop-r.r in
    rw (add-one) (started_more c.loop-r.invariant _ _ (whole_row r) (omega arith) c.start_row.ensures)

pub returns : goal.returns
returns c = started_all c.loop-r.invariant (omega arith)
