-- `text::feed` takes a row of bytes: a turn feeds one of those that are left, and at the end none is left.
use Rattle.std.proofs.Common.{arith, add-one, drop-cons}
use Rattle.std.proofs.lemmas.Grind.{common_steps}
use Rattle.model.specs.Text.{fed}
use Rattle.text.proofs.Numbers.{kept_more}
use Rattle.text.proofs.feed.Goals as goal

pub loop-byte-preserved : goal.loop-byte-preserved
unfolding fed
loop-byte-preserved c =
    let l = c.loop-byte in
    let left = rw (drop-cons c.args.bytes.now l.byte-index 0 c.loop-byte-test.true) at l.invariant.left in
    record {
      left = rw (add-one, c.step-reading.ensures.numbers_after, l.auto.numbers) left;
      kept = kept_more l.invariant.kept c.step-reading.ensures.kept;
    }

pub returns-clause-numbers_after : goal.returns-clause-numbers_after
unfolding fed
returns-clause-numbers_after c = grind (arith, common_steps)
