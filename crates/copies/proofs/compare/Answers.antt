-- `copies::compare` ends with 1 to 5, or with the program beside the slots.
use Rattle.std.proofs.lemmas.Result.{err_from_is_err_and}
use Rattle.copies.proofs.Answers.{refuses, goes_on, slots_stand}
use Rattle.copies.proofs.compare.Goals as goal

pub returns-in_err-filled : goal.returns-in_err-filled
returns-in_err-filled c =
    let r = err_from_is_err_and c.from_residual.result c.from_residual.ensures.1 in
    let a = refuses c.args.words.now c.in_err-filled.ensures in
    rw (r.1, r.2) (record { answer = a.0; work = a.1 })

pub compare_program-requires : goal.compare_program-requires
compare_program-requires c = slots_stand c.in_ok-filled.ensures

pub returns : goal.returns
returns c = let a = goes_on c.in_ok-filled.ensures in record { answer = c.compare_program.ensures _ a.0; work = a.1 }
