-- The row's formula is written part by part.
use Rattle.std.proofs.Common.{arith, sym, ◌∙◌, ◌∷◌, [], ◌-◌, get_or}
use Rattle.labels.proofs.Range.{label-answered}
use Rattle.model.specs.Program.{rec}
use Rattle.writer.specs.Sweep.{row_at, others_at}
use Rattle.writer.specs.Written.{quotient_of}
use Rattle.writer.proofs.Written.{Parts, first-room, second_room, third_room, fourth_room, parts-written}
use Rattle.writer.proofs.Formulas.{row-parts}
use Rattle.writer.proofs.Products.{Stands, stands, number-at}
use Rattle.writer.proofs.rows.write_row.Goals as goal
use Rattle.writer.proofs.rows.write_row.Goals.{After-wide-diagonal}

-- the label of the diagonal, and the parts of the row
diagonal : (c : After-wide-diagonal) → let a = c.args in Stands a.n a.work.now a.r a.r c.wide-diagonal.result
diagonal c =
    let r = c.requires in
    stands r.covers r.inside (c.wide-diagonal.ensures ∙ (c.label.ensures ∙ label-answered _ _ _ r.covers.high r.inside))

parts : (c : After-wide-diagonal) → let a = c.args in
    Parts (row_at a.n a.work.now a.r) (rec 10 a.r 0 ∷ []) (others_at a.n a.work.now a.r)
    (quotient_of 12 (get_or a.work.now (c.wide-diagonal.result - 1) 0)) (rec 8 0 0 ∷ [])
parts c = row-parts _ _ _ c.requires.inside _ (sym (number-at (diagonal c)))

pub put-opened-requires : goal.put-opened-requires
put-opened-requires c = first-room (parts (goal.at.put-opened-requires c).After-wide-diagonal) c.requires.room

pub write_others-reduced-requires-clause-room : goal.write_others-reduced-requires-clause-room
write_others-reduced-requires-clause-room c =
    second_room (parts (goal.at.write_others-reduced-requires-clause-room c).After-wide-diagonal) c.requires.room c.put-opened.ensures

pub overflow_sub-diagonal : goal.overflow_sub-diagonal
overflow_sub-diagonal c = (diagonal (goal.at.overflow_sub-diagonal c).After-wide-diagonal).low

pub bounds-work-diagonal : goal.bounds-work-diagonal
bounds-work-diagonal c = omega (arith, diagonal (goal.at.bounds-work-diagonal c).After-wide-diagonal)

pub divide-divided-requires : goal.divide-divided-requires
divide-divided-requires c =
    third_room (parts (goal.at.divide-divided-requires c).After-wide-diagonal) c.requires.room c.put-opened.ensures c.write_others-reduced.ensures

pub put-requires : goal.put-requires
put-requires c =
    fourth_room (parts (goal.at.put-requires c).After-wide-diagonal) c.requires.room
    c.put-opened.ensures c.write_others-reduced.ensures c.divide-divided.ensures

pub returns : goal.returns
returns c =
    parts-written (parts (goal.at.returns c).After-wide-diagonal) c.requires.room
    c.put-opened.ensures c.write_others-reduced.ensures c.divide-divided.ensures c.put.ensures
