-- `sides::step`: the test before the calls tells the table that the record works in.
use mathlib.Core.Path.{sym, ap, ◌∙◌}
use mathlib.Core.Logic.{⊎_elim}
use Rattle.model.specs.Formula.{number_of}
use Rattle.state.specs.States.{table_of}
use Rattle.sides.proofs.Ways.{opens-c, opens_row, past_three, ready_in_c, ready_in_rows}
use Rattle.sides.proofs.step.Goals as goal

pub step_in_c-requires : goal.step_in_c-requires
step_in_c-requires c =
    let own = c.requires.ready.own in
    let in_c = ⊎_elim (opens-c _ _) (λ w. past_three _ _ own w.1 ∙ ap table_of w.2) c.if-z-eq1.either in
    (ready_in_c c.requires in_c, c.requires.room)

pub step_in_rows-requires : goal.step_in_rows-requires
step_in_rows-requires c =
    let own = c.requires.ready.own in
    ready_in_rows c.requires
    (λ e. ⊎_elim
    (λ w. w.2 (sym c.requires.ready.sound.named ∙ ap number_of (sym (past_three _ _ own w.1) ∙ e)))
    (λ w. opens_row _ _ own w.0 w.1 e)
    c.if-z-eq1.either)
