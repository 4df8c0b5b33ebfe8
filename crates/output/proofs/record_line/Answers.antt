-- `output::record_line` puts the index and four words. Each has at most ten digits, and the byte after it.
use Rattle.std.proofs.Common.{arith}
use Rattle.model.specs.Text.{record_line}
use Rattle.output.proofs.Digits.{decimal-short}
use Rattle.output.proofs.Places.{entry_few, put_more, put-line}
use Rattle.output.proofs.record_line.Goals as goal

pub put_entry-first-requires : goal.put_entry-first-requires
put_entry-first-requires c = omega (arith, decimal-short)

pub put_entry-second-requires : goal.put_entry-second-requires
put_entry-second-requires c = omega (arith, decimal-short, entry_few)

pub put_entry-third-requires : goal.put_entry-third-requires
put_entry-third-requires c = omega (arith, decimal-short, entry_few)

pub put_entry-fourth-requires : goal.put_entry-fourth-requires
put_entry-fourth-requires c = omega (arith, decimal-short, entry_few)

pub put_entry-requires : goal.put_entry-requires
put_entry-requires c = omega (arith, decimal-short, entry_few)

pub returns : goal.returns
unfolding record_line
returns c =
    let put = put_more c.put_entry-first.ensures (put_more c.put_entry-second.ensures (put_more c.put_entry-third.ensures
    (put_more c.put_entry-fourth.ensures c.put_entry.ensures))) in
    let line = rw (c.from.ensures, c.from-2.ensures, c.from-3.ensures, c.from-4.ensures, c.from-5.ensures) at put in
    let whole = put-line line (omega (arith, entry_few)) in
    record { value = whole.0; out_after = whole.1; counts = whole.2 }
