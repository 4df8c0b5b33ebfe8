-- What each case of an `Operation` stands for: its answer, and whether a product in it vanished.
use Rattle.std.specs.Prelude.{Bool, true, false}
use Rattle.arith.specs.declared.Operation.{Operation}
use Rattle.arith.specs.declared.Operation.TheVariants.{Number, Vanished, Overflow, ZeroDivisor}
use Rattle.model.specs.Arith.{Answer, number, overflow, zero_divisor}

abbrev pub answer_of : Operation → Answer
answer_of (Number x) = number x
answer_of (Vanished x) = number x
answer_of Overflow = overflow
answer_of ZeroDivisor = zero_divisor

-- "The single operation must also tell when two non-zero factors gave zero" (A.5)
abbrev pub has_vanished : Operation → Bool
has_vanished (Number x) = false
has_vanished (Vanished x) = true
has_vanished Overflow = false
has_vanished ZeroDivisor = false
