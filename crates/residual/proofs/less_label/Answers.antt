-- `residual::less_label` finds the label's place, and takes the product from its row.
use Prim.Native.Nat.{suc, ◌<◌}
use native.Mathlib.Omega.{arith}
use mathlib.Core.Path.{◌≡◌, sym, ap, ◌∙◌}
use Rattle.model.specs.Label.{place}
use Rattle.model.proofs.Labels.{place_of_label}
use Rattle.residual.proofs.Labelled.{whole_row, row_lent, label-taken}
use Rattle.residual.proofs.less_label.Goals as goal

pub returns : goal.returns
returns c =
    let p = c.place_in-place in
    let inside = p.ensures.0 in
    let r = c.wide-first.result in
    let row : suc r ≡ p.result.row = omega (arith, c.wide-first.ensures, inside.row_low) in
    let below : r < c.args.n = omega (arith, c.wide-first.ensures, inside.row_low, inside.row-high) in
    let at = ap (place _) (sym p.ensures.1) ∙ place_of_label _ _ _ inside ∙ ap (λ r. (r, p.result.column)) (sym row) in
    let column : c.wide.result < c.args.n = omega (arith, c.wide.ensures, inside.column-low, inside.column-high) in
    λ z h. label-taken h r _ (whole_row r) below c.args.x.now c.args.label p.result.column c.wide.result c.args.a c.less_product.new.row at c.wide.ensures
    (omega (arith, column, c.requires.finite.1)) (c.less_product.ensures _ (row_lent h r _ (whole_row r) below))
