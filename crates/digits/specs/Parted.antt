-- A finite value as a whole number of 2^-1074: its sign, its digits and their shift. Definitions only.
use Rattle.std.specs.Prelude.{◌*◌, ◌^◌, ◌<◌, ◌≡◌, Float}
use Rattle.model.specs.Residual.{exact}
use Rattle.model.proofs.Rows.{signed}
use Rattle.digits.specs.declared.Shifted.{Shifted}

-- v times 2^1074 is its digits, at most 53 binary ones, shifted by less than 2048
pub record Parted (v : Float) (r : Shifted) : Type 0 where
  pub value : exact v ≡ signed r.minus (r.digits * 2 ^ r.shift)
  pub few : r.digits < 2 ^ 53
  pub near : r.shift < 2048
