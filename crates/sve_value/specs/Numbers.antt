-- The whole numbers that bits stand for (IEEE 1800-2017, 6.11.3 and 11.4.3), and the bits of a whole number.
use Rattle.std.specs.Prelude.{ℕ, zero, suc, ◌+◌, ◌-◌, ◌*◌, ◌/◌, ◌%◌, ◌^◌, Bool, true, false, ◌&&◌, ◌==◌, if◌then◌else◌, ℤ, pos, negsuc, neg_ℤ, ◌-ℤ◌, int_lt, int_le, unsigned_abs, List, [], ◌∷◌, length, replicate, Option, Some, None}
use Rattle.std.specs.Int.{int_rem_euclid}
use Rattle.sve_value.specs.declared.bit.Bit.{Bit}
use Rattle.sve_value.specs.declared.bit.Bit.TheVariants.{Zero, One, X, Z}
use Rattle.sve_value.specs.Vector.{Vector}

abbrev pub is_known : Bit → Bool
is_known Zero = true
is_known One = true
is_known X = false
is_known Z = false

abbrev pub is_one : Bit → Bool
is_one One = true
is_one _ = false

abbrev pub is_zero : Bit → Bool
is_zero Zero = true
is_zero _ = false

abbrev pub digit : Bit → ℕ
digit One = 1
digit _ = 0

-- the number without sign that bits stand for, in base two
unfoldable pub natural : List Bit → ℕ
natural [] = 0
natural (b ∷ bs) = digit b + 2 * natural bs

-- the most significant bit
unfoldable pub leftmost : List Bit → Bit
leftmost [] = Zero
leftmost (b ∷ []) = b
leftmost (b ∷ c ∷ bs) = leftmost (c ∷ bs)

-- a signed value is below zero where its most significant bit is 1
abbrev pub is_negative : Vector → Bool
is_negative v = v.signed && is_one (leftmost v.bits)

-- the whole number that known bits stand for, in two's complement where the value is signed
abbrev pub integer : Vector → ℤ
integer v = if is_negative v then pos (natural v.bits) -ℤ pos (2 ^ length v.bits) else pos (natural v.bits)

-- no bit is x or z
unfoldable pub are_known : List Bit → Bool
are_known [] = true
are_known (b ∷ bs) = is_known b && are_known bs

-- those numbers, where every bit is known
abbrev pub known_natural : Vector → Option ℕ
known_natural v = if are_known v.bits then Some (natural v.bits) else None

abbrev pub known_integer : Vector → Option ℤ
known_integer v = if are_known v.bits then Some (integer v) else None

-- a whole number in the range of 64 signed bits (own)
abbrev pub is_short : ℤ → Bool
is_short z = int_le (negsuc (2 ^ 63 - 1)) z && int_lt z (pos (2 ^ 63))

abbrev pub short_integer : Option ℤ → Option ℤ
short_integer (Some z) = if is_short z then Some z else None
short_integer None = None

-- the whole number of a sign and a size
abbrev pub with_sign : Bool → ℕ → ℤ
with_sign true size = neg_ℤ (pos size)
with_sign false size = pos size

-- the lowest digits of a number in base two
unfoldable pub binary : ℕ → ℕ → List Bit
binary zero n = []
binary (suc width) n = (if n % 2 == 1 then One else Zero) ∷ binary width (n / 2)

-- the lowest bits of a whole number in two's complement: the digits of what it is modulo 2 ^ width
abbrev pub low_bits : ℕ → ℤ → List Bit
low_bits width z = binary width (unsigned_abs (int_rem_euclid z (pos (2 ^ width))))

-- the value that a result of arithmetic has, cut to the width; with no result all bits are x
abbrev pub value_of : ℕ → Bool → Option ℤ → Vector
value_of width signed (Some z) = record { signed = signed; bits = low_bits width z }
value_of width signed None = record { signed = signed; bits = replicate width X }

-- a number without sign, cut to the width
abbrev pub number_of : ℕ → Bool → ℕ → Vector
number_of width signed n = record { signed = signed; bits = binary width n }
