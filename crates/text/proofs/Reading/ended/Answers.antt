-- `text::Reading::ended` names what was read, or the first fault.
use Rattle.std.proofs.Common.{rules, arith, refl}
use Rattle.model.specs.Text.{ended}
use Rattle.text.specs.Readings.{Kept}
use Rattle.text.proofs.Numbers.{untouched_joined}
use Rattle.text.proofs.Reading.ended.Goals.{in-Between, in-Within}
use Rattle.text.proofs.Reading.ended.Goals as goal

pub returns-in-Faulty-clause-numbers_after : goal.returns-in-Faulty-clause-numbers_after
unfolding ended
returns-in-Faulty-clause-numbers_after c = search rules

pub returns-clause-numbers_after : goal.returns-clause-numbers_after
unfolding ended
returns-clause-numbers_after c = search rules

pub returns-clause-untouched : goal.returns-clause-untouched
returns-clause-untouched c =
    let met = c.match-self in
    let kept : Kept c.args.self.count met.count c.args.numbers.now met.numbers = elim met.branch [
      | in-Between w ↦ rw (w.numbers-is, w.count-is) (record { grown = omega arith; rest = refl })
      | in-Within w ↦ rw (w.numbers-is, w.count-is) w.join-count.ensures.kept
    ] in
    untouched_joined kept met.auto.numbers c.named.result c.named.ensures.counted
