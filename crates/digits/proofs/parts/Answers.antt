-- `digits::parts` meets its contract. A value is what is read from the bits that were written for it, and the three fields of these are its sign, its exponent and
-- its fraction.
use Rattle.std.proofs.Common.{arith}
use denote.Floats.{passes}
use Rattle.digits.proofs.Fields.{not_nan, exact_small, exact-large, few_digits, exponent_below}
use Rattle.digits.proofs.parts.Goals as goal

pub float_to_bits-bits : goal.float_to_bits-bits
float_to_bits-bits c = not_nan _ c.requires

pub returns-then-exponent-eq0 : goal.returns-then-exponent-eq0
returns-then-exponent-eq0 c = record {
  value = exact_small _ (passes _ c.well_formed.0.1) c.if-exponent-eq0.true;
  few = omega (arith, few_digits);
  near = omega (arith, exponent_below);
}

pub returns : goal.returns
returns c = record {
  value = exact-large _ (passes _ c.well_formed.0.1) c.requires c.if-exponent-eq0.false;
  few = omega (arith, few_digits);
  near = omega (arith, exponent_below);
}
