-- `state::State::close`: the open target takes the running number, in the table that it stands in.
use native.Mathlib.Omega.{arith}
use Prim.Native.Nat.{◌+◌, ◌-◌}
use mathlib.Core.Path.{ap}
use Rattle.state.specs.States.{table_of}
use Rattle.state.proofs.Steps.{is_x, free_in, close_c, close_y, close_x}
use Rattle.state.proofs.State.close.Goals as goal

pub returns-then-at-self-clause-x_after : goal.returns-then-at-self-clause-x_after
returns-then-at-self-clause-x_after c =
    let a = c.args in
    let e = ap table_of c.in-1.is in
    let free = free_in a.self a.c.now a.y.now a.x.now e c.requires.1 in
    close_c a.self a.c.now a.y.now a.x.now _ (c.wide-at.result - 1 + 1) e free c.wide-at.ensures (omega arith)

pub returns-else-at-self-clause-x_after : goal.returns-else-at-self-clause-x_after
returns-else-at-self-clause-x_after c =
    let a = c.args in
    let e = ap table_of c.in-1.is in
    let free = free_in a.self a.c.now a.y.now a.x.now e c.requires.1 in
    close_c a.self a.c.now a.y.now a.x.now _ a.self.c e free c.wide-at.ensures (omega arith)

pub returns-in-2-clause-x_after : goal.returns-in-2-clause-x_after
returns-in-2-clause-x_after c =
    let a = c.args in
    let e = ap table_of c.in-2.is in
    close_y a.self a.c.now a.y.now a.x.now e (free_in a.self a.c.now a.y.now a.x.now e c.requires.1)

pub returns-in_default-clause-x_after : goal.returns-in_default-clause-x_after
returns-in_default-clause-x_after c =
    let a = c.args in
    let e = is_x a.self.table (λ one. omega arith) (λ two. omega arith) in
    close_x a.self a.c.now a.y.now a.x.now e (free_in a.self a.c.now a.y.now a.x.now e c.requires.1)
