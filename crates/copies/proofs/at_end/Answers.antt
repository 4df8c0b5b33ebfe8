-- `copies::at_end` asks whether the chain goes on after the last record compared.
use Rattle.copies.proofs.Chained.{end-told, more_told}
use Rattle.copies.proofs.at_end.Goals as goal

pub returns-then-next-ne0 : goal.returns-then-next-ne0
returns-then-next-ne0 c = more_told c.args.words.now c.args.z c.requires c.if-next-ne0.true

pub returns : goal.returns
returns c = end-told c.args.words.now c.args.z c.requires c.if-next-ne0.false
