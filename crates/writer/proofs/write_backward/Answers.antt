-- The formula is written part by part; there is no division.
use Rattle.writer.proofs.Written.{wrote_none, first-room, second_room, fourth_room, parts-written}
use Rattle.writer.proofs.Formulas.{backward-parts}
use Rattle.writer.proofs.write_backward.Goals as goal

pub put-opened-requires : goal.put-opened-requires
put-opened-requires c = first-room (backward-parts _ _ _) c.requires.room

pub write_right-reduced-requires-clause-room : goal.write_right-reduced-requires-clause-room
write_right-reduced-requires-clause-room c = second_room (backward-parts _ _ _) c.requires.room c.put-opened.ensures

pub put-requires : goal.put-requires
put-requires c = fourth_room (backward-parts _ _ _) c.requires.room c.put-opened.ensures c.write_right-reduced.ensures wrote_none

pub returns : goal.returns
returns c = parts-written (backward-parts _ _ _) c.requires.room c.put-opened.ensures c.write_right-reduced.ensures wrote_none c.put.ensures
