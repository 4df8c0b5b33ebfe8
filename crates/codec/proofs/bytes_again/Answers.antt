-- `codec::bytes_again` writes back the bytes that it read.
use mathlib.Core.Path.{◌∙◌}
use lib.ListN.{length}
use Rattle.std.proofs.lemmas.Result.{err_from_is_err_and}
use Rattle.model.specs.File.{writes}
use Rattle.codec.specs.Filing.{bytes_again}
use Rattle.codec.proofs.Outcome.{made-count}
use Rattle.codec.proofs.Again.{made-front, first-refused, first_done, bytes_back}
use Rattle.codec.proofs.bytes_again.Goals as goal

pub returns-in_err-read : goal.returns-in_err-read
unfolding bytes_again
returns-in_err-read c =
    let a = c.args in
    let call = c.in_err-read.ensures in
    let p = err_from_is_err_and c.from_residual.result c.from_residual.ensures.1 in
    let both = first-refused _ (λ k. writes k (length a.again.now)) a.bytes.now a.again.now p.1 p.2 call.result_value in
    record { result_value = both.0; words_after = call.words_after; again_after = both.1 }

-- the words that were read stand in front
pub slice_bounds-write_file-end : goal.slice_bounds-write_file-end
slice_bounds-write_file-end c = let call = c.in_ok-read.ensures in (made-front c.args.bytes.now c.args.words.now _ call.result_value call.words_after).inside

pub slice_bounds-write_file-end-2 : goal.slice_bounds-write_file-end-2
slice_bounds-write_file-end-2 c = let call = c.in_ok-read.ensures in (made-front c.args.bytes.now c.args.words.now _ call.result_value call.words_after).count

pub returns : goal.returns
unfolding bytes_again
returns c =
    let a = c.args in
    let first = c.in_ok-read.ensures in
    let done = first.result_value in
    let call = c.write_file.ensures in
    let front = made-front a.bytes.now a.words.now _ done first.words_after in
    let back = bytes_back a.bytes.now a.again.now _ (λ i. (c.type_inv.bytes i).fits) (made-count _ _ done).0 front in
    let both = first_done _ _ a.bytes.now a.again.now _ done (call.result_value ∙ back.0) (call.bytes_after ∙ back.1) in
    record { result_value = both.0; words_after = first.words_after; again_after = both.1 }
