-- Digits of numbers (IEEE 1800-2017, 5.7.1).
use Rattle.std.specs.Prelude.{ℕ, ◌+◌, ◌-◌, ◌*◌, ◌==◌, nat_le, ◌&&◌, ◌||◌, Bool, false, if◌then◌else◌, List, [], ◌∷◌, ◌++◌, length, take}
use Rattle.sve_value.specs.declared.bit.Bit.{Bit}
use Rattle.sve_value.specs.declared.bit.Bit.TheVariants.{Zero, X, Z}
use Rattle.sve_value.specs.Vector.{Vector}
use Rattle.sve_value.specs.Numbers.{number_of}
use Rattle.sve_value.specs.Moves.{filled_of}

abbrev pub is_between : ℕ → ℕ → ℕ → Bool
is_between low high c = nat_le low c && nat_le c high

-- a decimal digit behind a number; `_` and white space say nothing
abbrev pub number_behind : ℕ → ℕ → ℕ
number_behind n c = if is_between 48 57 c then 10 * n + (c - 48) else n

-- the number that decimal digits spell behind one that was spelled before
unfoldable pub decimal_from : ℕ → List ℕ → ℕ
decimal_from n [] = n
decimal_from n (c ∷ cs) = decimal_from (number_behind n c) cs

-- the letters x and X
abbrev pub is_x : ℕ → Bool
is_x c = c == 120 || c == 88

-- the letters z and Z, and `?`
abbrev pub is_z : ℕ → Bool
is_z c = c == 122 || c == 90 || c == 63

-- a digit of base 16 at the most, x, z or `?`; what else stands in a number, white space and `_`, says nothing
abbrev pub is_number_letter : ℕ → Bool
is_number_letter c = is_between 48 57 c || is_between 97 102 c || is_between 65 70 c || is_x c || is_z c

abbrev pub digit_number : ℕ → ℕ
digit_number c = if is_between 97 102 c then c - 97 + 10 else (if is_between 65 70 c then c - 65 + 10 else c - 48)

-- a digit as so many bits: x and z in each of them
abbrev pub digit_of : ℕ → ℕ → Vector
digit_of places c =
    if is_x c then filled_of places false X
    else (if is_z c then filled_of places false Z
    else number_of places false (digit_number c))

-- bits on the right of a value, as many of whose bits fall out on the left
abbrev pub behind_of : Vector → Vector → Vector
behind_of v digit = record { signed = v.signed; bits = take (length v.bits) (digit.bits ++ v.bits) }

-- the digits of a number behind a value, one after another
unfoldable pub digits_behind : ℕ → List ℕ → Vector → Vector
digits_behind places [] v = v
digits_behind places (c ∷ cs) v = digits_behind places cs (if is_number_letter c then behind_of v (digit_of places c) else v)

-- what a letter pads a number with on the left
abbrev pub pads_with : ℕ → Bit
pads_with c = if is_x c then X else (if is_z c then Z else Zero)

-- a leftmost x or z pads a number with itself, any other digit with 0
unfoldable pub padding_of : List ℕ → Bit
padding_of [] = Zero
padding_of (c ∷ cs) = if is_number_letter c then pads_with c else padding_of cs
