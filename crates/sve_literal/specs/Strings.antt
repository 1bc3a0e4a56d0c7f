-- String literals (IEEE 1800-2017, 5.9).
use Rattle.std.specs.Prelude.{ℕ, ◌+◌, ◌-◌, ◌*◌, ◌==◌, nat_lt, ◌&&◌, ◌||◌, Bool, false, if◌then◌else◌, List, [], ◌∷◌, ◌++◌, length, Option, Some, None}
use Rattle.sve_value.specs.Vector.{Vector}
use Rattle.sve_value.specs.Numbers.{number_of}
use Rattle.sve_value.specs.Moves.{concat_of}
use Rattle.sve_literal.specs.Digits.{is_between, digit_number}
use Rattle.sve_literal.specs.declared.escapes.Escape.{Escape}
use Rattle.sve_literal.specs.declared.escapes.Escape.TheVariants.{Closed, Begun, Octal, Hexadecimal}

-- the byte that a backslash and a byte stand for (Table 5-1); any other byte stands for itself
abbrev pub escaped : ℕ → ℕ
escaped c =
    if c == 110 then 10 else (if c == 116 then 9 else (if c == 118 then 11 else (if c == 102 then 12 else (if c == 97 then 7 else c))))

abbrev pub is_octal : ℕ → Bool
is_octal c = is_between 48 55 c

abbrev pub is_hexadecimal : ℕ → Bool
is_hexadecimal c = is_between 48 57 c || is_between 97 102 c || is_between 65 70 c

-- one to three octal digits, up to 377; one or two hexadecimal ones
abbrev pub octal_goes : ℕ → ℕ → ℕ → Bool
octal_goes value digits c = is_octal c && nat_lt digits 3 && nat_lt value 32

abbrev pub hexadecimal_goes : ℕ → ℕ → ℕ → Bool
hexadecimal_goes value digits c = is_hexadecimal c && nat_lt digits 2 && nat_lt value 16

-- outside of escapes: the quotes at both ends, and a backslash, give nothing
abbrev pub closed_gives : ℕ → List ℕ
closed_gives c = if c == 34 || c == 92 then [] else c ∷ []

abbrev pub closed_goes_to : ℕ → Escape
closed_goes_to c = if c == 92 then Begun else Closed

-- what a byte of the literal gives, by how far it was read before
abbrev pub gives : Escape → ℕ → List ℕ
gives Closed c = closed_gives c
gives Begun c = if is_octal c || c == 120 || c == 10 then [] else escaped c ∷ []
gives (Octal value digits) c = if octal_goes value digits c then [] else value ∷ closed_gives c
gives (Hexadecimal value digits) c = if hexadecimal_goes value digits c then [] else (if digits == 0 then 120 else value) ∷ closed_gives c

-- and how far it is read with it
abbrev pub goes_to : Escape → ℕ → Escape
goes_to Closed c = closed_goes_to c
goes_to Begun c = if is_octal c then Octal (c - 48) 1 else (if c == 120 then Hexadecimal 0 0 else Closed)
goes_to (Octal value digits) c = if octal_goes value digits c then Octal (8 * value + (c - 48)) (digits + 1) else closed_goes_to c
goes_to (Hexadecimal value digits) c = if hexadecimal_goes value digits c then Hexadecimal (16 * value + digit_number c) (digits + 1) else closed_goes_to c

unfoldable pub spelled : Escape → List ℕ → List ℕ
spelled escape [] = []
spelled escape (c ∷ cs) = gives escape c ++ spelled (goes_to escape c) cs

-- the bytes that a literal spells
abbrev pub unquoted_of : List ℕ → List ℕ
unquoted_of literal = spelled Closed literal

-- a string as an operand has 8 bits for each byte, the first one on the left
unfoldable pub joined : Vector → List ℕ → Vector
joined v [] = v
joined v (b ∷ bs) = joined (concat_of v (number_of 8 false b)) bs

-- none above 16 bytes (own); the empty one has 8 zero bits
abbrev pub text_bits_of : List ℕ → Option Vector
text_bits_of [] = Some (number_of 8 false 0)
text_bits_of (b ∷ bs) = if nat_lt 15 (length bs) then None else Some (joined (number_of 8 false b) bs)
