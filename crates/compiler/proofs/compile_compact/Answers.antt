-- `compiler::compile_compact` ends as the model says, once the work numbers past the slots are cleared.
use Rattle.std.proofs.Common.{length, length-drop, ap, arith}
use Rattle.std.proofs.lemmas.Result.{err_from_is_err_and}
use Rattle.compiler.proofs.Parts.{whole_part}
use Rattle.compiler.proofs.Compilers.{of_compact}
use Rattle.compiler.proofs.Ending.{refused-ends, square-high, roomy, compact-left}
use Rattle.compiler.proofs.compile_compact.Goals as goal

pub returns-in_err-filled : goal.returns-in_err-filled
returns-in_err-filled c =
    let p = err_from_is_err_and c.from_residual.result c.from_residual.ensures.1 in
    rw (p.1, p.2) (refused-ends (of_compact c.args.n c.args.plan.now) c.args.words.now c.in_err-filled.ensures)

pub overflow_mul-n : goal.overflow_mul-n
overflow_mul-n c = omega (arith, square-high (of_compact c.args.n c.args.plan.now) c.in_ok-filled.ensures)

pub offset_bounds-work-square : goal.offset_bounds-work-square
offset_bounds-work-square c = omega (arith, square-high (of_compact c.args.n c.args.plan.now) c.in_ok-filled.ensures)

pub slice_bounds-clear-count : goal.slice_bounds-clear-count
slice_bounds-clear-count c = omega (arith, roomy (of_compact c.args.n c.args.plan.now) c.in_ok-filled.ensures)

pub slice_bounds-clear-start : goal.slice_bounds-clear-start
slice_bounds-clear-start c = omega (arith, roomy (of_compact c.args.n c.args.plan.now) c.in_ok-filled.ensures)

pub overflow_mul-square : goal.overflow_mul-square
overflow_mul-square c = omega (arith, square-high (of_compact c.args.n c.args.plan.now) c.in_ok-filled.ensures)

pub clear-requires : goal.clear-requires
clear-requires c =
    let work = c.write_compact-written.new.work in
    let square = c.wide-square.result in
    omega (
      arith,
      roomy (of_compact c.args.n c.args.plan.now) c.in_ok-filled.ensures,
      ap length (whole_part square work),
      length-drop square work,
    )

pub returns : goal.returns
returns c =
    let s = c.in_ok-filled.ensures in
    let w = c.write_compact-written in
    let left = compact-left s w.new.work c.wide-square.ensures w.ensures.first w.ensures.rest c.clear.ensures in
    rw left (w.ensures.ends _ s)
