-- `residual::less_product` takes the product of both values' digits away, at the sum of their shifts.
use native.Mathlib.Omega.{arith}
use mathlib.Core.Path.{refl}
use Rattle.residual.proofs.Changing.{same_signs, product-taken}
use Rattle.residual.proofs.less_product.Goals as goal

pub returns : goal.returns
returns c =
    let p = c.product-product in
    λ z h. product-taken _ p.result.low p.result.high _ c.args.row.now c.change_wide.new.words c.parts-first.ensures
    c.parts-second.ensures (same_signs c.parts-first.result.minus c.parts-second.result.minus) p.ensures refl (λ k below. grind arith) (λ k below. (c.type_inv.row k).fits) c.change_wide.ensures h
