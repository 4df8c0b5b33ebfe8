-- `sums::change_three` changes three words, each by its part and by what the one before carries on, and carries on what the third leaves.
use Rattle.sums.proofs.Carry.{three_changed}
use Rattle.sums.proofs.change_three.Goals as goal

pub returns : goal.returns
returns c =
    let a = c.args in
    three_changed a.minus a.words.now a.at a.low a.middle a.high _ _ _ _ _ _ c.requires c.changed-first.ensures c.changed-second.ensures c.changed-third.ensures
