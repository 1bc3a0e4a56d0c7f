-- The text of a value (own; literals as in IEEE 1800-2017, 5.7.1).
use Rattle.std.specs.Prelude.{ℕ, suc, if◌then◌else◌, ℤ, pos, negsuc, List, [], ◌∷◌, ◌++◌, length, codes, decimal, Option, Some, None}
use Rattle.sve_value.specs.declared.bit.Bit.{Bit}
use Rattle.sve_value.specs.declared.bit.Bit.TheVariants.{Zero, One, X, Z}
use Rattle.sve_value.specs.Vector.{Vector}
use Rattle.sve_value.specs.Numbers.{known_integer}

-- the width, the quote, an `s` where it is signed
abbrev pub size_text : Vector → List ℕ
size_text v = decimal (length v.bits) ++ (if v.signed then codes "'s" else codes "'")

-- one of the letters 0, 1, x and z
abbrev pub bit_letter : Bit → ℕ
bit_letter Zero = 48
bit_letter One = 49
bit_letter X = 120
bit_letter Z = 122

-- the letters of all bits, the most significant first
unfoldable pub bit_text : List Bit → List ℕ
bit_text [] = []
bit_text (b ∷ bs) = bit_text bs ++ bit_letter b ∷ []

-- Decimal where every bit is known, with `-` before the whole where it is below zero; else in bits.
abbrev pub number_text : Vector → Option ℤ → List ℕ
number_text v (Some (pos n)) = size_text v ++ codes "d" ++ decimal n
number_text v (Some (negsuc n)) = codes "-" ++ size_text v ++ codes "d" ++ decimal (suc n)
number_text v None = size_text v ++ codes "b" ++ bit_text v.bits

abbrev pub text_of : Vector → List ℕ
text_of v = number_text v (known_integer v)
