-- `arith::difference` meets its contract: the sum with what was read of -b is the difference as it is read.
use mathlib.Core.Path.{◌∙◌, ap}
use lib.Ieee.{binary64, add, sub, neg}
use lib.Ieee.Fits.{neg-fits}
use denote.Floats.{passes}
use borrow.Author.Rules.{rules}
use Rattle.model.specs.Arith.{difference}
use Rattle.arith.proofs.Clean.{add_clean, settles}
use Rattle.arith.proofs.difference.Statement.{statement}
use Rattle.arith.proofs.difference.Tie as tie

read-requires : tie.Need-read-requires
read-requires c κs = search rules

answer-requires : tie.Need-answer-requires
answer-requires c κs = search rules

returns : tie.Need-returns
unfolding difference sub
returns c =
    let start = c.before.before in
    let b = start.args.b in (
      c.answer.ensures.0
          ∙ settles _ _
          (ap (add binary64 start.args.a) c.read.ensures
          ∙ add_clean binary64 start.args.a (neg b) (passes _ start.well_formed.0.1) (neg-fits binary64 b (passes _ start.well_formed.1.0.1))),
      c.answer.ensures.1,
    )

pub difference_spec : {M : Type 1} → statement M
difference_spec = tie.close (tie.spec read-requires answer-requires returns)
