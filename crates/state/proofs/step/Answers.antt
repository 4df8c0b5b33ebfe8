-- `state::step`: each kind is the model's step.
use mathlib.Core.Path.{refl, sym, ap, ◌∙◌}
use native.Mathlib.Omega.{arith}
use Rattle.model.specs.Arith.{clean}
use Rattle.model.specs.Formula.{C, Y, X, starting}
use Rattle.model.specs.Check.{kind_of}
use Rattle.model.specs.Run.{going, step}
use Rattle.state.proofs.Steps.{entry-c, entry-y, entry-x}
use Rattle.state.proofs.Arms.{allowed_as, gives_open, gives_subtract, gives_divide}
use Rattle.state.proofs.step.Goals as goal

pub coefficient-requires : goal.coefficient-requires
unfolding kind_of
coefficient-requires c =
    let of = allowed_as c.requires (ap kind_of c.in-1.is) in
    omega (arith, c.requires.sound.in_c, c.requires.sound.in_y, c.requires.rows)

pub entry-requires : goal.entry-requires
unfolding kind_of
entry-requires c =
    let of = allowed_as c.requires (ap kind_of c.in-2.is) in
    omega (arith, c.requires.sound.in_c, c.requires.sound.in_y, c.requires.rows)

pub entry-requires-in-3 : goal.entry-requires-in-3
unfolding kind_of
entry-requires-in-3 c =
    let of = allowed_as c.requires (ap kind_of c.in-3.is) in
    omega (arith, c.requires.sound.in_c, c.requires.sound.in_y, c.requires.rows)

pub entry-requires-in-4 : goal.entry-requires-in-4
unfolding kind_of
entry-requires-in-4 c =
    let of = allowed_as c.requires (ap kind_of c.in-4.is) in
    omega (arith, c.requires.sound.in_c, c.requires.sound.in_y, c.requires.rows)

pub entry-requires-in-4-2 : goal.entry-requires-in-4-2
unfolding kind_of
entry-requires-in-4-2 c =
    let of = allowed_as c.requires (ap kind_of c.in-4.is) in
    omega (arith, c.requires.sound.in_c, c.requires.sound.in_y, c.requires.rows)

pub entry-requires-in-5 : goal.entry-requires-in-5
unfolding kind_of
entry-requires-in-5 c =
    let of = allowed_as c.requires (ap kind_of c.in-5.is) in
    omega (arith, c.requires.sound.in_c, c.requires.sound.in_y, c.requires.rows)

pub entry-requires-in-5-2 : goal.entry-requires-in-5-2
unfolding kind_of
entry-requires-in-5-2 c =
    let of = allowed_as c.requires (ap kind_of c.in-5.is) in
    omega (arith, c.requires.sound.in_c, c.requires.sound.in_y, c.requires.rows)

pub entry-requires-in-6 : goal.entry-requires-in-6
unfolding kind_of
entry-requires-in-6 c =
    let of = allowed_as c.requires (ap kind_of c.in-6.is) in
    omega (arith, c.requires.sound.in_c, c.requires.sound.in_y, c.requires.rows)

pub entry-requires-in-6-2 : goal.entry-requires-in-6-2
unfolding kind_of
entry-requires-in-6-2 c =
    let of = allowed_as c.requires (ap kind_of c.in-6.is) in
    omega (arith, c.requires.sound.in_c, c.requires.sound.in_y, c.requires.rows)

pub entry-requires-in-7 : goal.entry-requires-in-7
unfolding kind_of
entry-requires-in-7 c =
    let of = allowed_as c.requires (ap kind_of c.in-7.is) in
    omega (arith, c.requires.sound.in_c, c.requires.sound.in_y, c.requires.rows)

pub close-requires : goal.close-requires
unfolding kind_of
close-requires c = (c.requires.sound, allowed_as c.requires (ap kind_of c.in-8.is))

pub close-requires-else-is_small : goal.close-requires-else-is_small
unfolding kind_of
close-requires-else-is_small c = (c.requires.sound, allowed_as c.requires (ap kind_of c.in-9.is))

pub returns-in-1-clause-x_after : goal.returns-in-1-clause-x_after
unfolding kind_of step starting
returns-in-1-clause-x_after c =
    let a = c.args in
    let e = ap kind_of c.in-1.is in
    (gives_open a.a.now a.b.now a.limit a.c.now a.y.now a.x.now a.z c.requires.sound (kind_of a.kind) a.p a.q C a.q _ _ refl e
    c.«open».ensures c.coefficient.ensures).0

pub returns-in-2-clause-x_after : goal.returns-in-2-clause-x_after
unfolding kind_of step starting
returns-in-2-clause-x_after c =
    let a = c.args in
    let e = ap kind_of c.in-2.is in
    (gives_open a.a.now a.b.now a.limit a.c.now a.y.now a.x.now a.z c.requires.sound (kind_of a.kind) a.p a.q Y a.p _ _ refl e
    c.open-in-2.ensures (c.read.ensures ∙ ap clean c.entry.ensures)).0

pub returns-in-3-clause-x_after : goal.returns-in-3-clause-x_after
unfolding kind_of step starting
returns-in-3-clause-x_after c =
    let a = c.args in
    let e = ap kind_of c.in-3.is in
    (gives_open a.a.now a.b.now a.limit a.c.now a.y.now a.x.now a.z c.requires.sound (kind_of a.kind) a.p a.q X a.p _ _ refl e
    c.open-in-3.ensures (c.entry-in-3.ensures ∙ entry-y a.z a.c.now a.y.now a.x.now a.p (allowed_as c.requires e))).0

pub returns-in-4 : goal.returns-in-4
unfolding kind_of
returns-in-4 c =
    let a = c.args in
    let e = ap kind_of c.in-4.is in
    let of = allowed_as c.requires e in
    let gives =
    gives_subtract a.a.now a.b.now a.limit a.c.now a.y.now a.x.now a.z c.requires.sound (kind_of a.kind) a.p a.q C _ _ _ e c.subtract.ensures
    (c.entry-in-4.ensures ∙ entry-c a.z a.c.now a.y.now a.x.now a.p of.0)
    (c.entry-in-4-2.ensures ∙ entry-c a.z a.c.now a.y.now a.x.now a.q of.1) in
    record { x_after = gives.0; sound_step = gives.1 }

pub returns-in-5 : goal.returns-in-5
unfolding kind_of
returns-in-5 c =
    let a = c.args in
    let e = ap kind_of c.in-5.is in
    let of = allowed_as c.requires e in
    let gives =
    gives_subtract a.a.now a.b.now a.limit a.c.now a.y.now a.x.now a.z c.requires.sound (kind_of a.kind) a.p a.q Y _ _ _ e c.subtract-in-5.ensures
    (c.entry-in-5.ensures ∙ entry-c a.z a.c.now a.y.now a.x.now a.p of.0)
    (c.entry-in-5-2.ensures ∙ entry-y a.z a.c.now a.y.now a.x.now a.q of.1) in
    record { x_after = gives.0; sound_step = gives.1 }

pub returns-in-6 : goal.returns-in-6
unfolding kind_of
returns-in-6 c =
    let a = c.args in
    let e = ap kind_of c.in-6.is in
    let of = allowed_as c.requires e in
    let gives =
    gives_subtract a.a.now a.b.now a.limit a.c.now a.y.now a.x.now a.z c.requires.sound (kind_of a.kind) a.p a.q X _ _ _ e c.subtract-in-6.ensures
    (c.entry-in-6.ensures ∙ entry-c a.z a.c.now a.y.now a.x.now a.p of.0)
    (c.entry-in-6-2.ensures ∙ entry-x a.z a.c.now a.y.now a.x.now a.q c.requires.sound.in_x of.1.0 of.1.1) in
    record { x_after = gives.0; sound_step = gives.1 }

pub returns-in-7-clause-x_after : goal.returns-in-7-clause-x_after
unfolding kind_of
returns-in-7-clause-x_after c =
    let a = c.args in
    let e = ap kind_of c.in-7.is in
    (gives_divide a.a.now a.b.now a.limit a.c.now a.y.now a.x.now a.z c.requires.sound (kind_of a.kind) a.p a.q _ _ e c.divide.ensures
    (c.entry-in-7.ensures ∙ entry-c a.z a.c.now a.y.now a.x.now a.p (allowed_as c.requires e))).0

pub returns-in-8-clause-x_after : goal.returns-in-8-clause-x_after
unfolding kind_of step
returns-in-8-clause-x_after c = rw c.in-8.is (ap going c.close.ensures.x_after)

pub returns-then-is_small-clause-x_after : goal.returns-then-is_small-clause-x_after
unfolding kind_of step
returns-then-is_small-clause-x_after c = rw (c.in-9.is, sym c.is_small.ensures ∙ c.if-is_small.true) refl

pub returns-else-is_small-clause-x_after : goal.returns-else-is_small-clause-x_after
unfolding kind_of step
returns-else-is_small-clause-x_after c =
    rw (c.in-9.is, sym c.is_small.ensures ∙ c.if-is_small.false) (ap going c.close-else-is_small.ensures.x_after)
