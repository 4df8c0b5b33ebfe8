-- `compiler::write_compact` writes the program from the slots given, which stand past the plain ones.
use Rattle.std.proofs.Common.{arith}
use Rattle.std.proofs.lemmas.Result.{err_from_is_err_and}
use Rattle.compiler.proofs.Compacted.{numbered, slots-given, past_prepared, past_written, first_kept, rest_kept}
use Rattle.compiler.proofs.Compilers.{of_compact}
use Rattle.compiler.proofs.Ending.{square-high, roomy, records_fit, short-ends, prepared, done-ends}
use Rattle.compiler.proofs.write_compact.Goals as goal

pub record_count-records-requires : goal.record_count-records-requires
record_count-records-requires c = records_fit (of_compact c.args.n c.args.plan.now) c.requires.slotted

pub returns-in_err-check_words-clause-ends : goal.returns-in_err-check_words-clause-ends
returns-in_err-check_words-clause-ends c =
    let p = err_from_is_err_and c.from_residual.result c.from_residual.ensures.1 in
    let e = c.in_err-check_words.ensures in
    rw (p.1, p.2, e.0) (λ before s. short-ends (of_compact c.args.n c.args.plan.now) s _ c.record_count-records.ensures e.1)

pub overflow_mul-n : goal.overflow_mul-n
overflow_mul-n c = omega (arith, square-high (of_compact c.args.n c.args.plan.now) c.requires.slotted)

pub copy_within-requires-clause-in_bounds : goal.copy_within-requires-clause-in_bounds
copy_within-requires-clause-in_bounds c = omega (arith, roomy (of_compact c.args.n c.args.plan.now) c.requires.slotted)

pub copy_within-requires-clause-dest_in_bounds : goal.copy_within-requires-clause-dest_in_bounds
copy_within-requires-clause-dest_in_bounds c = omega (arith, roomy (of_compact c.args.n c.args.plan.now) c.requires.slotted)

pub slice_bounds-assign-end-2 : goal.slice_bounds-assign-end-2
slice_bounds-assign-end-2 c = omega (arith, roomy (of_compact c.args.n c.args.plan.now) c.requires.slotted)

pub assign-slots-requires : goal.assign-slots-requires
assign-slots-requires c =
    let same = of_compact c.args.n c.args.plan.now in
    let s = c.requires.slotted in
    let ready = prepared same s _ c.record_count-records.ensures c.in_ok-check_words.ensures in
    numbered ready s.whole c.wide-square.ensures (roomy same s) c.copy_within.ensures.after

pub write-requires : goal.write-requires
write-requires c =
    let same = of_compact c.args.n c.args.plan.now in
    let s = c.requires.slotted in
    let ready = prepared same s _ c.record_count-records.ensures c.in_ok-check_words.ensures in
    past_prepared ready s.whole c.wide-square.ensures (roomy same s) c.copy_within.ensures.after c.assign-slots.ensures c.assign-slots.auto.given

pub returns : goal.returns
returns c =
    let same = of_compact c.args.n c.args.plan.now in
    let s = c.requires.slotted in
    let enough = c.in_ok-check_words.ensures in
    let count = c.record_count-records.ensures in
    let ready = prepared same s _ count enough in
    let square = c.wide-square.ensures in
    let copied = c.copy_within.ensures.after in
    let given = c.assign-slots.ensures in
    let long = c.assign-slots.auto.given in
    let made = slots-given ready s.whole square (roomy same s) copied given long in
    let wrote = past_written ready s.whole square (roomy same s) copied given long c.write.ensures in
    record {
      ends = λ before s. done-ends same s _ count enough made.slots-are wrote;
      first = first_kept ready s.whole square (roomy same s) copied given long;
      rest = rest_kept ready s.whole square (roomy same s) copied given long;
    }
