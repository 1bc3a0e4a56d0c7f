-- A four-state value as contracts see it.
use Rattle.std.specs.Prelude.{ℕ, ◌≤◌, Bool, List}
use Rattle.sve_value.specs.declared.bit.Bit.{Bit}

-- A packed value (IEEE 1800-2017, 6.3 and 6.9): whether it is signed, and its bits, the least significant first.
pub record Vector : Type 0 where
  pub signed : Bool
  pub bits : List Bit

-- how many bits a value may have (own)
abbrev pub IsWidth : ℕ → Type 0
IsWidth n = (1 ≤ n) × (n ≤ 128)
