-- What an expanded text is (IEEE 1800-2017, 22; own).
use Rattle.std.specs.Prelude.{ℕ, List}
use Rattle.sve_origin.specs.Origins.{Cell}
use Rattle.sve_bytes.specs.declared.net_type.NetType.{NetType}
use Rattle.sve_diag.specs.declared.diag.Diag.{Diag}

pub record ExpandedValue : Type 0 where
  -- the bytes, each with its origin
  pub cells : List Cell
  -- what the expansion has to say, in the order in which it was found
  pub diags : List Diag
  -- the net type that is in force from each byte on
  pub net_types : List (ℕ × NetType)
