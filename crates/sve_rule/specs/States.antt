-- Bits of two states (IEEE 1800-2017, 6.3.1 and 6.11.2).
use Rattle.std.specs.Prelude.{Bool, if◌then◌else◌}
use Rattle.sve_value.specs.declared.bit.Bit.{Bit}
use Rattle.sve_value.specs.declared.bit.Bit.TheVariants.{Zero, One}
use Rattle.sve_value.specs.Vector.{Vector}
use Rattle.sve_value.specs.Bitwise.{row, each}

-- a variable of two states holds 0 for x and z
abbrev pub two_state_bit : Bit → Bit
two_state_bit b = row b Zero One Zero Zero

abbrev pub two_state_of : Vector → Vector
two_state_of v = record { signed = v.signed; bits = each two_state_bit v.bits }

abbrev pub states_of : Bool → Vector → Vector
states_of two_state v = if two_state then two_state_of v else v
