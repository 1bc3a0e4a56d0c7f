-- The text of the value of a parameter (own; literals as in IEEE 1800-2017, 5.7.1).
use Rattle.std.specs.Prelude.{ℕ, ◌+◌, ◌/◌, ◌%◌, ◌==◌, Bool, not, ◌&&◌, ◌||◌, nat_lt, List, [], ◌∷◌, ◌++◌, if◌then◌else◌}
use Rattle.std.specs.Char.{is_ascii_graphic}
use Rattle.std.specs.List.{flat_map}
use Rattle.sve_value.specs.Text.{text_of as bits_text}
use Rattle.sve_types.specs.TypeText.{text_of as type_text}
use Rattle.sve_types.specs.declared.value.Value.{Value}
use Rattle.sve_types.specs.declared.value.Value.TheVariants.{Bits, Text, OfType}

-- one of 0 to 9 and a to f
abbrev pub hex_digit : ℕ → ℕ
hex_digit n = if nat_lt n 10 then 48 + n else 87 + n

-- the bytes 0x20 to 0x7E without the quote and the backslash
abbrev pub is_plain : ℕ → Bool
is_plain b = (is_ascii_graphic b || b == 32) && not (b == 34) && not (b == 92)

-- `\x` and two digits
abbrev pub escaped_byte : ℕ → List ℕ
escaped_byte b = 92 ∷ 120 ∷ hex_digit (b / 16) ∷ hex_digit (b % 16) ∷ []

abbrev pub byte_text : ℕ → List ℕ
byte_text b = if is_plain b then b ∷ [] else escaped_byte b

-- a string in quotes
abbrev pub quoted : List ℕ → List ℕ
quoted bytes = 34 ∷ flat_map byte_text bytes ++ 34 ∷ []

abbrev pub value_text : Value → List ℕ
value_text (Bits bits) = bits_text bits
value_text (Text bytes) = quoted bytes
value_text (OfType type) = type_text type
