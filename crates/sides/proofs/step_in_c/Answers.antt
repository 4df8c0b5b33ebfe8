-- `sides::step_in_c`: one step on C is every right side's.
use Rattle.sides.proofs.InC.{goes_on, ends}
use Rattle.sides.proofs.step_in_c.Goals as goal

pub returns-in-Ok-clause-steps_in_c : goal.returns-in-Ok-clause-steps_in_c
returns-in-Ok-clause-steps_in_c c =
    let a = c.args in
    (goes_on a.a.now a.limit a.k a.kind a.p a.q a.z a.c.now _ _ _ _ c.step_in_c.ensures.c_after c.requires.0 a.count
    a.running.now a.out.now c.in-Ok.after c.in-Ok.is c.step_in_c.ensures.sound_step).0

pub returns-in-Err-clause-steps_in_c : goal.returns-in-Err-clause-steps_in_c
returns-in-Err-clause-steps_in_c c =
    let a = c.args in
    (ends a.a.now a.limit a.k a.kind a.p a.q a.z a.c.now _ _ _ _ c.step_in_c.ensures.c_after c.requires.0 a.count
    a.running.now a.out.now c.in-Err.is (rw c.number.ensures at c.end_each.ensures)).0
