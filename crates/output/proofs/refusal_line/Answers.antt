-- `output::refusal_line` puts the word `refused`, a number of at most ten digits and a detail of at most twenty.
use Rattle.std.proofs.Common.{arith, refl, drop, ◌++◌}
use Rattle.model.specs.Text.{refused, entry, refusal_line}
use Rattle.output.specs.Lines.{Put}
use Rattle.output.proofs.Digits.{decimal-short, decimal-long}
use Rattle.output.proofs.Places.{entry_few, entry-some, put_more, put-line}
use Rattle.output.proofs.refusal_line.Goals as goal

pub put_entry-second-requires : goal.put_entry-second-requires
put_entry-second-requires c = omega (arith, decimal-short)

pub put_entry-requires : goal.put_entry-requires
put_entry-requires c = omega (arith, decimal-long, entry_few)

pub returns : goal.returns
unfolding refusal_line
returns c =
    let buffer = c.args.out.now in
    let word : Put 8 (refused ++ drop 8 buffer) 0 buffer refused = record { place = refl; front = refl; rest = refl } in
    let number : Put c.put_entry-second.result c.put_entry-second.new.out 8 (refused ++ drop 8 buffer) (entry c.args.number 32) =
    rw (c.copy_from_slice.ensures.after, c.from.ensures) at c.put_entry-second.ensures in
    let whole = put-line (put_more word (put_more number c.put_entry.ensures)) (omega (arith, entry_few, entry-some)) in
    record { value = whole.0; out_after = whole.1; counts = whole.2 }
