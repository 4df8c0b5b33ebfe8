-- The formula is written part by part.
use Rattle.std.proofs.Common.{refl}
use Rattle.writer.proofs.Written.{first-room, second_room, third_room, fourth_room, parts-written}
use Rattle.writer.proofs.Formulas.{place-parts}
use Rattle.writer.proofs.write_place.Goals as goal

pub put-opened-requires : goal.put-opened-requires
put-opened-requires c = first-room (place-parts _ _ _ _ _ _ _ _ refl) c.requires.room

pub write_inner-reduced-requires-clause-room : goal.write_inner-reduced-requires-clause-room
write_inner-reduced-requires-clause-room c = second_room (place-parts _ _ _ _ _ _ _ _ refl) c.requires.room c.put-opened.ensures

pub divide-divided-requires : goal.divide-divided-requires
divide-divided-requires c = third_room (place-parts _ _ _ _ _ _ _ _ refl) c.requires.room c.put-opened.ensures c.write_inner-reduced.ensures

pub put-requires : goal.put-requires
put-requires c =
    fourth_room (place-parts _ _ _ _ _ _ _ _ c.closing.ensures) c.requires.room
    c.put-opened.ensures c.write_inner-reduced.ensures c.divide-divided.ensures

pub returns : goal.returns
returns c =
    parts-written (place-parts _ _ _ _ _ _ _ _ c.closing.ensures) c.requires.room
    c.put-opened.ensures c.write_inner-reduced.ensures c.divide-divided.ensures c.put.ensures
