-- `arith::moves_more`: the difference's answer decides.
use mathlib.Core.Path.{◌≡◌, refl, sym, ap, ◌∙◌}
use mathlib.Core.Bool.{Bool, true, not}
use mathlib.Core.Logic.{⊎_elim}
use lib.Ieee.{Float}
use Rattle.model.specs.Arith.{Answer, number, overflow, zero_divisor, difference, is_small}
use Rattle.model.specs.Sweep.{moves_more}
use Rattle.arith.specs.declared.Operation.{Operation}
use Rattle.arith.specs.Answer.{answer_of}
use Rattle.arith.proofs.moves_more.Goals as goal

-- what a difference says of a move
abbrev moves_as : Float → Answer → Bool
moves_as limit (number d) = not (is_small limit d)
moves_as limit overflow = true
moves_as limit zero_divisor = true

-- the case that the match found says what the answer is
found : (limit old new : Float) (o r : Operation) → answer_of o ≡ difference new old → o ≡ r → moves_as limit (answer_of r) ≡ moves_more limit old new
unfolding moves_more
found limit old new o r e is = ap (λ q. moves_as limit (answer_of q)) (sym is) ∙ ap (moves_as limit) e ∙ by (difference new old)
  where
    by : (a : Answer) → moves_as limit a ≡ elim a as (λ a. Bool) [ number d ↦ not (is_small limit d) | overflow ↦ true | zero_divisor ↦ true ]
    by (number d) = refl
    by overflow = refl
    by zero_divisor = refl

pub returns-in-Overflow : goal.returns-in-Overflow
returns-in-Overflow c = found _ _ _ _ _ c.difference.ensures.answer c.in-Overflow.is

pub returns-in-ZeroDivisor : goal.returns-in-ZeroDivisor
returns-in-ZeroDivisor c = found _ _ _ _ _ c.difference.ensures.answer c.in-ZeroDivisor.is

pub returns-in-Number : goal.returns-in-Number
returns-in-Number c =
    let by = found c.args.limit c.args.old c.args.new c.difference.result in
    ap not c.is_small.ensures ∙ ⊎_elim (by _ c.difference.ensures.answer) (by _ c.difference.ensures.answer) c.in-Number.is
