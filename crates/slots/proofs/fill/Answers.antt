use Rattle.std.proofs.Common.{refl, ◌∙◌, add-one, arith}
use native.Mathlib.Nat.{mul-le-mul}
use Rattle.model.proofs.Within.{within-range}
use Rattle.slots.proofs.Marks.{some-plan}
use Rattle.slots.proofs.Pass.{pass_start, turn_column, turn_small, turn_next, pass_end}
use Rattle.slots.proofs.fill.Goals as goal

pub loop-m-init : goal.loop-m-init
loop-m-init c = λ L marked. let notes = c.clear.ensures in pass_start marked notes.0 notes.1

pub fill_line-walk-requires-clause-standing : goal.fill_line-walk-requires-clause-standing
fill_line-walk-requires-clause-standing c =
    let some = some-plan c.args.n c.args.work.now in
    record { plan = some.plan; reached = (c.loop-m.invariant some.plan some.marked).reached }

pub offset_bounds-work-pivot : goal.offset_bounds-work-pivot
offset_bounds-work-pivot c =
    let some = some-plan c.args.n c.args.work.now in
    let high = (within-range c.args.n 600 c.requires.n_value).1 in
    let column = turn_column c.loop-m.invariant c.loop-m-test.true c.fill_line-walk.ensures some.plan some.marked in
    omega (arith, c.wide-pivot.ensures, column.inside, mul-le-mul {n₂ = 600} {m₂ = 600} high high)

pub bounds-work-pivot : goal.bounds-work-pivot
bounds-work-pivot c =
    let some = some-plan c.args.n c.args.work.now in
    let column = turn_column c.loop-m.invariant c.loop-m-test.true c.fill_line-walk.ensures some.plan some.marked in
    omega (arith, c.wide-pivot.ensures, column.inside, c.requires.n_in_bounds, c.loop-m.auto.work, c.fill_line-walk.auto.work)

pub fill_line-walk-requires-in-loop-m-clause-standing :
    goal.fill_line-walk-requires-in-loop-m-clause-standing
fill_line-walk-requires-in-loop-m-clause-standing c =
    let some = some-plan c.args.n c.args.work.now in
    let column = turn_column c.loop-m.invariant c.loop-m-test.true c.fill_line-walk.ensures some.plan some.marked in
    record { plan = some.plan; reached = column.turned }

pub overflow_sub-down : goal.overflow_sub-down
overflow_sub-down c =
    let some = some-plan c.args.n c.args.work.now in
    let high = (within-range c.args.n 600 c.requires.n_value).1 in
    (turn_small c.loop-m.invariant c.loop-m-test.true c.fill_line-walk.ensures some.plan some.marked c.fill_line-walk-in-loop-m.ensures
    c.wide-pivot.ensures _ c.max.ensures high _ refl).0

pub overflow_sub-right : goal.overflow_sub-right
overflow_sub-right c =
    let some = some-plan c.args.n c.args.work.now in
    let high = (within-range c.args.n 600 c.requires.n_value).1 in
    (turn_small c.loop-m.invariant c.loop-m-test.true c.fill_line-walk.ensures some.plan some.marked c.fill_line-walk-in-loop-m.ensures
    c.wide-pivot.ensures _ c.max.ensures high _ refl).1

pub batch_products-products-requires : goal.batch_products-products-requires
batch_products-products-requires c =
    let some = some-plan c.args.n c.args.work.now in
    let high = (within-range c.args.n 600 c.requires.n_value).1 in
    let small = turn_small c.loop-m.invariant c.loop-m-test.true c.fill_line-walk.ensures some.plan some.marked c.fill_line-walk-in-loop-m.ensures
    c.wide-pivot.ensures _ c.max.ensures high _ refl in
    (small.2, small.3)

pub overflow_add-products : goal.overflow_add-products
overflow_add-products c =
    let some = some-plan c.args.n c.args.work.now in
    let high = (within-range c.args.n 600 c.requires.n_value).1 in
    omega (
      arith,
      turn_small c.loop-m.invariant c.loop-m-test.true c.fill_line-walk.ensures some.plan some.marked c.fill_line-walk-in-loop-m.ensures
          c.wide-pivot.ensures _ c.max.ensures high _ c.batch_products-products.ensures,
    )

pub overflow_add-above : goal.overflow_add-above
overflow_add-above c =
    let some = some-plan c.args.n c.args.work.now in
    let high = (within-range c.args.n 600 c.requires.n_value).1 in
    omega (
      arith,
      turn_small c.loop-m.invariant c.loop-m-test.true c.fill_line-walk.ensures some.plan some.marked c.fill_line-walk-in-loop-m.ensures
          c.wide-pivot.ensures _ c.max.ensures high _ c.batch_products-products.ensures,
    )

pub loop-m-preserved : goal.loop-m-preserved
loop-m-preserved c = λ L marked.
    rw add-one
    (turn_next c.loop-m.invariant c.loop-m-test.true c.fill_line-walk.ensures L marked c.fill_line-walk-in-loop-m.ensures
    c.wide-pivot.ensures _ c.max.ensures _ _ c.batch_products-products.ensures c.first_missing-missing.ensures
    (c.fill_line-walk-in-loop-m.auto.work ∙ c.fill_line-walk.auto.work ∙ c.loop-m.auto.work))

pub returns-2 : goal.returns-2
returns-2 c = λ L marked.
    pass_end
    (turn_next c.loop-m.invariant c.loop-m-test.true c.fill_line-walk.ensures L marked c.fill_line-walk-in-loop-m.ensures
    c.wide-pivot.ensures _ c.max.ensures _ _ c.batch_products-products.ensures c.first_missing-missing.ensures
    (c.fill_line-walk-in-loop-m.auto.work ∙ c.fill_line-walk.auto.work ∙ c.loop-m.auto.work)) (omega arith)
