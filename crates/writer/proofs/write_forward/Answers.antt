-- The formula is written part by part.
use Rattle.writer.proofs.Written.{first-room, second_room, third_room, fourth_room, parts-written}
use Rattle.writer.proofs.Formulas.{forward-parts}
use Rattle.writer.proofs.write_forward.Goals as goal

pub put-opened-requires : goal.put-opened-requires
put-opened-requires c = first-room (forward-parts _ _ _ _ c.requires.pivot_value) c.requires.room

pub write_left-reduced-requires-clause-room : goal.write_left-reduced-requires-clause-room
write_left-reduced-requires-clause-room c = second_room (forward-parts _ _ _ _ c.requires.pivot_value) c.requires.room c.put-opened.ensures

pub divide-divided-requires : goal.divide-divided-requires
divide-divided-requires c =
    third_room (forward-parts _ _ _ _ c.requires.pivot_value) c.requires.room c.put-opened.ensures c.write_left-reduced.ensures

pub put-requires : goal.put-requires
put-requires c =
    fourth_room (forward-parts _ _ _ _ c.requires.pivot_value) c.requires.room
    c.put-opened.ensures c.write_left-reduced.ensures c.divide-divided.ensures

pub returns : goal.returns
returns c =
    parts-written (forward-parts _ _ _ _ c.requires.pivot_value) c.requires.room
    c.put-opened.ensures c.write_left-reduced.ensures c.divide-divided.ensures c.put.ensures
