-- `state::sweep_step`: each kind is the model's step, with A in C's place and B in Y's.
use mathlib.Core.Path.{◌≡◌, ap, ◌∙◌}
use native.Mathlib.Omega.{arith}
use Rattle.model.specs.Arith.{clean}
use Rattle.model.specs.Check.{kind_of, closes}
use Rattle.state.proofs.Rows.{allowed-row, row_opens, row-subtracts, row-divides, row_closes, only_closes}
use Rattle.state.proofs.sweep_step.Goals as goal

pub entry-requires : goal.entry-requires
unfolding kind_of
entry-requires c = (allowed-row c.requires (ap kind_of c.in-10.is)).1

pub entry-requires-in-11 : goal.entry-requires-in-11
unfolding kind_of
entry-requires-in-11 c = (allowed-row c.requires (ap kind_of c.in-11.is)).1

pub entry-requires-in-11-2 : goal.entry-requires-in-11-2
unfolding kind_of
entry-requires-in-11-2 c = (allowed-row c.requires (ap kind_of c.in-11.is)).2

pub entry-requires-in-12 : goal.entry-requires-in-12
unfolding kind_of
entry-requires-in-12 c = allowed-row c.requires (ap kind_of c.in-12.is)

pub settle-requires : goal.settle-requires
settle-requires c =
    let e : kind_of c.args.kind ≡ closes = only_closes c.requires.own (λ e. omega arith) (λ e. omega arith) (λ e. omega arith) in
    (allowed-row c.requires e).1

pub returns-in-10 : goal.returns-in-10
unfolding kind_of
returns-in-10 c =
    let a = c.args in
    let gives =
    row_opens a.a.now a.b.now a.limit a.x.now a.z a.kind a.p a.q c.requires _ _
    (ap kind_of c.in-10.is) c.«open».ensures (c.read.ensures ∙ ap clean c.entry.ensures) in
    record { x_after = gives.0; sound_step = gives.1.0; moves_step = gives.1.1 }

pub returns-in-11 : goal.returns-in-11
unfolding kind_of
returns-in-11 c =
    let a = c.args in
    let gives =
    row-subtracts a.a.now a.b.now a.limit a.x.now a.z a.kind a.p a.q c.requires _ _ _
    (ap kind_of c.in-11.is) c.subtract.ensures
    (c.read-in-11.ensures ∙ ap clean c.entry-in-11.ensures) c.entry-in-11-2.ensures in
    record { x_after = gives.0; sound_step = gives.1.0; moves_step = gives.1.1 }

pub returns-in-12 : goal.returns-in-12
unfolding kind_of
returns-in-12 c =
    let a = c.args in
    let gives =
    row-divides a.a.now a.b.now a.limit a.x.now a.z a.kind a.p a.q c.requires _ _
    (ap kind_of c.in-12.is) c.divide.ensures (c.read-in-12.ensures ∙ ap clean c.entry-in-12.ensures) in
    record { x_after = gives.0; sound_step = gives.1.0; moves_step = gives.1.1 }

pub returns-in_default : goal.returns-in_default
returns-in_default c =
    let a = c.args in
    let e : kind_of a.kind ≡ closes = only_closes c.requires.own (λ e. omega arith) (λ e. omega arith) (λ e. omega arith) in
    let gives =
    row_closes a.a.now a.b.now a.limit a.x.now a.z a.kind a.p a.q c.requires _ _ e
    c.settle.ensures.0 c.settle.ensures.1 in
    record { x_after = gives.0; sound_step = gives.1.0; moves_step = gives.1.1 }
