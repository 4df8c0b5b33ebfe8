-- `compiler::compile_plain` ends as the model says: each way out is a law of `Ending`.
use Rattle.std.proofs.lemmas.Result.{err_from_is_err_and}
use Rattle.compiler.proofs.Compilers.{of_plain}
use Rattle.compiler.proofs.Ending.{refused-ends, records_fit, prepared, plain-short, plain-ends}
use Rattle.compiler.proofs.compile_plain.Goals as goal

pub returns-in_err-filled : goal.returns-in_err-filled
returns-in_err-filled c =
    let p = err_from_is_err_and c.from_residual.result c.from_residual.ensures.1 in
    rw (p.1, p.2) (refused-ends (of_plain c.args.n c.args.plan.now) c.args.words.now c.in_err-filled.ensures)

pub record_count-records-requires : goal.record_count-records-requires
record_count-records-requires c = records_fit (of_plain c.args.n c.args.plan.now) c.in_ok-filled.ensures

pub returns-in_err-check_words : goal.returns-in_err-check_words
returns-in_err-check_words c =
    let f = c.from_residual-in_err-check_words in
    let p = err_from_is_err_and f.result f.ensures.1 in
    let e = c.in_err-check_words.ensures in
    rw (p.1, p.2, e.0) (plain-short c.in_ok-filled.ensures _ c.record_count-records.ensures e.1)

pub write-requires : goal.write-requires
write-requires c =
    prepared (of_plain c.args.n c.args.plan.now) c.in_ok-filled.ensures _ c.record_count-records.ensures c.in_ok-check_words.ensures

pub returns : goal.returns
returns c = plain-ends c.in_ok-filled.ensures _ c.record_count-records.ensures c.in_ok-check_words.ensures c.write.ensures
