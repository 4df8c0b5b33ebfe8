-- `codec::words_again` reads back the words that it wrote.
use mathlib.Core.Path.{◌∙◌}
use lib.ListN.{length}
use Rattle.std.proofs.lemmas.Result.{err_from_is_err_and}
use Rattle.model.specs.File.{reads}
use Rattle.codec.specs.Filing.{words_again}
use Rattle.codec.proofs.Again.{written-front, first-refused, first_done, words_back}
use Rattle.codec.proofs.words_again.Goals as goal

pub returns-in_err-written : goal.returns-in_err-written
unfolding words_again
returns-in_err-written c =
    let a = c.args in
    let call = c.in_err-written.ensures in
    let p = err_from_is_err_and c.from_residual.result c.from_residual.ensures.1 in
    let both = first-refused _ (λ k. reads k (length a.again.now)) a.words.now a.again.now p.1 p.2 call.result_value in
    record { result_value = both.0; bytes_after = call.bytes_after; again_after = both.1 }

-- the bytes that were written stand in front
pub slice_bounds-read_file-end : goal.slice_bounds-read_file-end
slice_bounds-read_file-end c =
    let call = c.in_ok-written.ensures in
    (written-front c.args.words.now c.args.bytes.now _ call.result_value call.bytes_after).inside

pub slice_bounds-read_file-end-2 : goal.slice_bounds-read_file-end-2
slice_bounds-read_file-end-2 c =
    let call = c.in_ok-written.ensures in
    (written-front c.args.words.now c.args.bytes.now _ call.result_value call.bytes_after).count

pub returns : goal.returns
unfolding words_again
returns c =
    let a = c.args in
    let first = c.in_ok-written.ensures in
    let done = first.result_value in
    let call = c.read_file.ensures in
    let front = written-front a.words.now a.bytes.now _ done first.bytes_after in
    let back = words_back a.words.now a.again.now _ (λ i. (c.type_inv.words i).fits) front in
    let both = first_done _ _ a.words.now a.again.now _ done (call.result_value ∙ back.0) (call.words_after ∙ back.1) in
    record { result_value = both.0; bytes_after = first.bytes_after; again_after = both.1 }
