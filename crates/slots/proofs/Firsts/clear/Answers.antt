-- `slots::Firsts::clear` writes over all of both lists, whose lengths are their type's.
use Rattle.std.proofs.Common.{◌≡◌, length, arith}
use Rattle.slots.proofs.Firsts.clear.Goals as goal

pub returns : goal.returns
returns c =
    let rows : length c.args.self.now.rows ≡ 601 = omega arith in
    let columns : length c.args.self.now.columns ≡ 601 = omega arith in
    (rw rows at (c.fill.ensures.after (λ y same. same)), rw columns at (c.fill-2.ensures.after (λ y same. same)))
