-- `sums::carry_on`: a turn changes the word at the index, and carries on what it leaves.
use Rattle.std.proofs.Common.{◌≡◌, ◌-◌, ◌*◌, ◌^◌, length, take, drop, arith, refl, ap, mul-one, zero-add}
use Rattle.std.proofs.lemmas.Grind.{common_steps}
use Rattle.std.proofs.lemmas.List.{set-get_or}
use Rattle.std.specs.Int.{from_bool}
use Rattle.sums.proofs.Carry.{start, carry_on, row-changed, rest-changed}
use Rattle.sums.proofs.carry_on.Goals as goal

pub loop-word-init : goal.loop-word-init
loop-word-init c = record { size = refl; carried = rw mul-one (start c.args.minus _ _) }

pub loop-word-preserved : goal.loop-word-preserved
loop-word-preserved c =
    let l = c.loop-word in
    record {
      size = grind (arith, common_steps);
      carried = carry_on c.args.minus _ l.word-items _ l.word-index _ _ _ _ refl (omega arith) l.invariant.carried (rw zero-add at c.changed.ensures);
    }

pub returns-after-loop-word : goal.returns-after-loop-word
returns-after-loop-word c =
    let l = c.loop-word in
    let a = c.args in
    let size = length (take (length a.words.now - a.at) (drop a.at a.words.now)) in
    let end : l.word-index ≡ size = omega (arith, l.auto.word-index-end, c.loop-word-test.false) in
    rest-changed a.minus a.words.now l.word-items a.at _ c.requires
    (row-changed a.minus _ _ _ _ (from_bool l.carry) l.invariant.size (ap (λ i. from_bool l.carry * 2 ^ (64 * i)) end) l.invariant.carried)

pub returns-then-not-carry : goal.returns-then-not-carry
returns-then-not-carry c =
    let l = c.loop-word in
    let a = c.args in
    rw (set-get_or l.word-items l.word-index 0)
    (rest-changed a.minus a.words.now l.word-items a.at _ c.requires
    (row-changed a.minus _ _ _ _ 0 l.invariant.size (rw c.if-not-carry.true (omega arith)) l.invariant.carried))
