-- Record 0, the batches, the solution, and the end of the chain: laws of `Whole`.
use Rattle.std.proofs.Common.{arith}
use Rattle.writer.proofs.Written.{wrote_more, room-front, room_back}
use Rattle.writer.proofs.Whole.{ready, plan-counted, headed_room, last_inside, program-written}
use Rattle.writer.proofs.write.Goals as goal

pub head-requires : goal.head-requires
head-requires c = let counted = plan-counted c.requires in omega (arith, counted)

pub invariant_of-slotted : goal.invariant_of-slotted
invariant_of-slotted c = record { ready = ready c.requires }

pub write_batches-first-requires : goal.write_batches-first-requires
write_batches-first-requires c = room-front _ (headed_room _ _ (plan-counted c.requires) c.head.ensures)

pub write_solution-end-requires : goal.write_solution-end-requires
write_solution-end-requires c = room_back (headed_room _ _ (plan-counted c.requires) c.head.ensures) c.write_batches-first.ensures

pub finish-requires : goal.finish-requires
finish-requires c =
    let counted = plan-counted c.requires in
    last_inside _ _ counted c.head.ensures
    (wrote_more (headed_room _ _ counted c.head.ensures) c.write_batches-first.ensures c.write_solution-end.ensures)

pub returns : goal.returns
returns c =
    let counted = plan-counted c.requires in
    rw c.requires.records at (program-written _ _ counted c.head.ensures
    (wrote_more (headed_room _ _ counted c.head.ensures) c.write_batches-first.ensures c.write_solution-end.ensures) c.finish.ensures)
