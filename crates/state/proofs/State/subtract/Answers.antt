-- `state::State::subtract` subtracts a product: the operation's answer decides, and its case counts.
use Rattle.state.specs.States.{subtracted}
use Rattle.state.proofs.Steps.{product_is}
use Rattle.state.proofs.State.subtract.Goals as goal

pub returns-in-Number : goal.returns-in-Number
returns-in-Number c = product_is _ _ _ _ _ (subtracted c.args.self) c.in-Number.is c.less.ensures.answer c.less.ensures.vanished
