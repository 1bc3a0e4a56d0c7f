-- Operands of one context.
use Rattle.std.specs.Prelude.{◌≡◌, length}
use Rattle.sve_value.specs.Vector.{Vector}

-- one size and one sign, as operands have in a common context (IEEE 1800-2017, 11.6.1 and 11.8.2)
pub record IsAlike (a b : Vector) : Type 0 where
  pub width : length a.bits ≡ length b.bits
  pub sign : a.signed ≡ b.signed
