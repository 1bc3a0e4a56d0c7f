-- Operators that move bits: extension (IEEE 1800-2017, 10.7 and 11.8.2), shifts (11.4.10), concatenation (11.4.12),
-- selects (11.5.1) and the conditional operator (11.4.11). Lists begin with the least significant bit.
use Rattle.std.specs.Prelude.{ℕ, suc, Bool, true, false, if◌then◌else◌, ℤ, pos, negsuc, List, ◌∷◌, ◌++◌, length, take, drop, replicate, Option, Some, None}
use Rattle.sve_value.specs.declared.bit.Bit.{Bit}
use Rattle.sve_value.specs.declared.bit.Bit.TheVariants.{Zero, X}
use Rattle.sve_value.specs.Vector.{Vector}
use Rattle.sve_value.specs.Bitwise.{merge_bit, bitwise_of}
use Rattle.sve_value.specs.Numbers.{leftmost, known_natural}
use Rattle.sve_value.specs.Truths.{truth_of}

-- every bit the same
abbrev pub filled_of : ℕ → Bool → Bit → Vector
filled_of width signed bit = record { signed = signed; bits = replicate width bit }

-- as many bits as the width from a place on, where every place outside holds one same bit
abbrev pub window : ℤ → ℕ → Bit → List Bit → List Bit
window (pos low) width outside bits = take width (drop low bits ++ replicate width outside)
window (negsuc below) width outside bits = take width (replicate (suc below) outside ++ bits ++ replicate width outside)

-- the bit that a signed extension repeats is the most significant one, x and z too; an unsigned one repeats 0
abbrev pub extension_bit : Bool → List Bit → Bit
extension_bit signed bits = if signed then leftmost bits else Zero

-- extended by the given sign, or cut on the left, to the width; the result has that sign
abbrev pub extend_of : ℕ → Bool → Vector → Vector
extend_of width signed a = record { signed = signed; bits = window (pos 0) width (extension_bit signed a.bits) a.bits }

-- each shift keeps the size and the sign of its left operand
abbrev pub left_shifted : ℕ → Vector → List Bit
left_shifted by a = take (length a.bits) (replicate by Zero ++ a.bits)

abbrev pub right_shifted : Bool → ℕ → Vector → List Bit
right_shifted signed by a = window (pos by) (length a.bits) (extension_bit signed a.bits) a.bits

-- the right operand of a shift counts as unsigned; with an x or z bit in it the result is all x
abbrev pub shift_of : (ℕ → Vector → List Bit) → Vector → Option ℕ → Vector
shift_of shifted a (Some by) = record { signed = a.signed; bits = shifted by a }
shift_of shifted a None = record { signed = a.signed; bits = replicate (length a.bits) X }

abbrev pub left_shift_of : Vector → Vector → Vector
left_shift_of a b = shift_of left_shifted a (known_natural b)

-- `>>` fills with 0
abbrev pub logical_right_shift_of : Vector → Vector → Vector
logical_right_shift_of a b = shift_of (right_shifted false) a (known_natural b)

-- `>>>` fills with the most significant bit where the left operand is signed
abbrev pub arithmetic_right_shift_of : Vector → Vector → Vector
arithmetic_right_shift_of a b = shift_of (right_shifted a.signed) a (known_natural b)

-- `{a, b}` has b on the right, and is unsigned
abbrev pub concat_of : Vector → Vector → Vector
concat_of a b = record { signed = false; bits = b.bits ++ a.bits }

-- what stands outside of a vector is x, and 0 where it has two states
abbrev pub outside_bit : Bool → Bit
outside_bit two_state = if two_state then Zero else X

-- a select is unsigned
abbrev pub select_of : Vector → ℤ → ℕ → Bool → Vector
select_of a low width two_state = record { signed = false; bits = window low width (outside_bit two_state) a.bits }

-- `c ? a : b`, merged bit by bit where the condition is unknown
abbrev pub chosen : Option Bool → Vector → Vector → Vector
chosen (Some true) a b = a
chosen (Some false) a b = b
chosen None a b = bitwise_of merge_bit a b

abbrev pub choose_of : Vector → Vector → Vector → Vector
choose_of c a b = chosen (truth_of c) a b

-- one more bit on the right; the leftmost one falls out
abbrev pub shift_in_of : Vector → Bit → Vector
shift_in_of a b = record { signed = a.signed; bits = take (length a.bits) (b ∷ a.bits) }
