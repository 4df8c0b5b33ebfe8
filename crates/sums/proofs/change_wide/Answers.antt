-- `sums::change_wide` changes three words by the three that the shifted number is made of, and carries on what they leave.
use Rattle.std.proofs.Common.{arith, ◌/◌, ◌%◌}
use Rattle.std.proofs.lemmas.Nat.{one_shl}
use Rattle.sums.proofs.Carry.{three_words, changed_on}
use Rattle.sums.proofs.change_wide.Goals as goal

pub returns : goal.returns
returns c =
    let a = c.args in
    let by = one_shl (a.shift % 64) 64 (omega arith) in
    changed_on a.minus a.words.now c.change_three-carry.new.words c.carry_on.new.words _ _ _
    (three_words a.wide.low a.wide.high _ _ _ c.carrying_mul-low.result.1 (a.shift / 64) (a.shift % 64) a.shift (omega arith)
    (rw by at c.carrying_mul-low.ensures) (rw by at c.carrying_mul-middle.ensures))
    (omega arith) c.change_three-carry.ensures c.carry_on.ensures
