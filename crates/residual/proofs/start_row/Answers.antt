-- `residual::start_row` clears the row, then adds the value's digits.
use mathlib.Core.Path.{refl}
use Rattle.residual.proofs.Changing.{value-put}
use Rattle.residual.proofs.start_row.Goals as goal

pub returns : goal.returns
returns c =
    value-put _ c.fill.new.self c.change_wide.new.words c.parts-value.ensures refl
    (rw c.requires.0 at (c.fill.ensures.after (λ y h. h))) (λ k below. (c.type_inv.row k).fits) c.change_wide.ensures
