-- `text::Reading::step` takes one byte: nothing changes after a fault, a number may begin, or one goes on or ends.
use Rattle.std.proofs.Common.{rules}
use Rattle.model.specs.Text.{onward, step}
use Rattle.text.proofs.Numbers.{room}
use Rattle.text.proofs.Reading.step.Goals as goal

pub returns-in-Faulty-clause-numbers_after : goal.returns-in-Faulty-clause-numbers_after
unfolding step onward
returns-in-Faulty-clause-numbers_after c = search rules

pub returns-in-Between-clause-numbers_after : goal.returns-in-Between-clause-numbers_after
unfolding step onward
returns-in-Between-clause-numbers_after c = search (rules, room c.args.numbers.now c.args.self.count)

pub returns-after-is_gap-clause-numbers_after : goal.returns-after-is_gap-clause-numbers_after
unfolding step onward
returns-after-is_gap-clause-numbers_after c = search rules
