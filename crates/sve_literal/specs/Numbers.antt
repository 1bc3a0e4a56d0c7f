-- Numbers, by the bytes of their tokens (IEEE 1800-2017, 5.7.1).
use Rattle.std.specs.Prelude.{ℕ, ◌==◌, nat_lt, ◌||◌, Bool, true, false, if◌then◌else◌, List, [], ◌∷◌, Option, Some, None, Result, Ok, Err}
use Rattle.sve_value.specs.declared.bit.Bit.{Bit}
use Rattle.sve_value.specs.declared.bit.Bit.TheVariants as is_bit
use Rattle.sve_value.specs.Vector.{Vector}
use Rattle.sve_value.specs.Numbers.{number_of}
use Rattle.sve_value.specs.Moves.{filled_of}
use Rattle.sve_literal.specs.Digits.{decimal_from, digits_behind, padding_of, pads_with}
use Rattle.sve_literal.specs.declared.number.SizeFault.{SizeFault}
use Rattle.sve_literal.specs.declared.number.SizeFault.TheVariants.{Zero, TooWide}

-- a number by itself has 32 signed bits, and is at most 2,147,483,647 (own)
abbrev pub decimal_of : List ℕ → Option Vector
decimal_of digits = if nat_lt 2147483647 (decimal_from 0 digits) then None else Some (number_of 32 true (decimal_from 0 digits))

-- behind the apostrophe of `'0`, `'1`, `'x` and `'z`
abbrev pub unbased_of : List ℕ → Bit
unbased_of (quote ∷ c ∷ cs) = if c == 49 then is_bit.One else pads_with c
unbased_of _ = is_bit.Zero

-- in a base of 2, 8 or 16, whose digits are so many bits: the digits from the right, in what pads them
abbrev pub in_places : ℕ → Bool → ℕ → List ℕ → Vector
in_places width signed places digits = digits_behind places digits (filled_of width signed (padding_of digits))

-- in the base 10, where one x or z stands for all
abbrev pub decimal_in : ℕ → Bool → List ℕ → Bit → Vector
decimal_in width signed digits is_bit.X = filled_of width signed is_bit.X
decimal_in width signed digits is_bit.Z = filled_of width signed is_bit.Z
decimal_in width signed digits is_bit.Zero = number_of width signed (decimal_from 0 digits)
decimal_in width signed digits is_bit.One = number_of width signed (decimal_from 0 digits)

abbrev pub decimal_based : ℕ → Bool → List ℕ → Vector
decimal_based width signed digits = decimal_in width signed digits (padding_of digits)

-- a base and its digits
abbrev pub with_base : ℕ → Bool → List ℕ → Vector
with_base width signed [] = number_of width signed 0
with_base width signed (b ∷ digits) =
    if b == 100 || b == 68 then decimal_based width signed digits
    else (if b == 98 || b == 66 then in_places width signed 1 digits
    else (if b == 111 || b == 79 then in_places width signed 3 digits
    else in_places width signed 4 digits))

-- an apostrophe, an `s` where the number is signed, a base and its digits
abbrev pub based_of : ℕ → List ℕ → Vector
based_of width (quote ∷ c ∷ cs) = if c == 115 || c == 83 then with_base width true cs else with_base width false (c ∷ cs)
based_of width _ = number_of width false 0

abbrev pub sized_by : ℕ → List ℕ → Result Vector SizeFault
sized_by width text = if width == 0 then Err Zero else (if nat_lt 128 width then Err TooWide else Ok (based_of width text))

abbrev pub sized_of : List ℕ → List ℕ → Result Vector SizeFault
sized_of size text = sized_by (decimal_from 0 size) text
