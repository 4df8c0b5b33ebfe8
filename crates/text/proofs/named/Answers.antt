-- `text::named` takes the numbers of a slice as N and the labels.
use Rattle.std.proofs.Common.{◌≡◌, ℕ, arith, min, length, take, List}
use Rattle.std.proofs.lemmas.Grind.{common_steps}
use Rattle.model.specs.Text.{named}
use Rattle.text.proofs.named.Goals as goal

-- taking past the end takes all
take_least : (xs : List ℕ) (k : ℕ) → take (min k (length xs)) xs ≡ take k xs
take_least xs k = grind (arith, common_steps)

pub returns-in-empty-clause-numbers_value : goal.returns-in-empty-clause-numbers_value
unfolding named
returns-in-empty-clause-numbers_value c = grind (arith, common_steps)

pub returns-in-len1-up-clause-numbers_value : goal.returns-in-len1-up-clause-numbers_value
unfolding named
returns-in-len1-up-clause-numbers_value c = grind (arith, common_steps, take_least c.args.numbers.now c.args.count)
