-- Which bytes may stand where in a token (IEEE 1800-2017, clause 5).
use Rattle.std.specs.Prelude.{ℕ, Bool, false, ◌||◌, ◌&&◌, not, ◌==◌, nat_le, if◌then◌else◌}
use Rattle.sve_bytes.specs.Bytes.{begins_identifier}

-- `0` to `9`
abbrev pub is_digit : ℕ → Bool
is_digit b = nat_le 48 b && nat_le b 57

-- in a decimal number: a digit or `_` (5.7.1)
abbrev pub is_decimal_part : ℕ → Bool
is_decimal_part b = is_digit b || b == 95

-- in an escaped identifier: `!` to `~` (5.6.1)
abbrev pub is_printable : ℕ → Bool
is_printable b = nat_le 33 b && nat_le b 126

-- in a line: no line feed
abbrev pub is_in_line : ℕ → Bool
is_in_line b = not (b == 10)

-- `x`, `X`, `z`, `Z` or `?` (5.7.1)
abbrev pub is_unknown : ℕ → Bool
is_unknown b = b == 120 || b == 88 || b == 122 || b == 90 || b == 63

-- `0`, `1`, `x`, `X`, `z` or `Z` (5.7.1)
abbrev pub is_unbased_digit : ℕ → Bool
is_unbased_digit b = b == 48 || b == 49 || b == 120 || b == 88 || b == 122 || b == 90

-- `s` or `S` (5.7.1)
abbrev pub is_sign : ℕ → Bool
is_sign b = b == 115 || b == 83

-- `b`, `o`, `d` and `h` of `B`, `O`, `D` and `H`
abbrev pub lower : ℕ → ℕ
lower b = if b == 66 then 98 else if b == 79 then 111 else if b == 68 then 100 else if b == 72 then 104 else b

-- `b`, `o`, `d` or `h`
abbrev pub is_base : ℕ → Bool
is_base base = base == 98 || base == 111 || base == 100 || base == 104

-- a digit with a value in the base (table 5-1 of 5.7.1)
abbrev pub is_digit_of : ℕ → ℕ → Bool
is_digit_of base b =
    if base == 98 then b == 48 || b == 49
    else if base == 111 then nat_le 48 b && nat_le b 55
    else if base == 100 then is_digit b
    else if base == 104 then is_digit b || nat_le 97 b && nat_le b 102 || nat_le 65 b && nat_le b 70
    else false

-- digits of a base begin with one that has a value there, or with an unknown one
abbrev pub begins_number : ℕ → ℕ → Bool
begins_number base b = is_digit_of base b || (is_base base && is_unknown b)

-- they go on with more of them and with `_`; in base `d`, after an unknown one, with `_` alone
abbrev pub continues_number : ℕ → ℕ → ℕ → Bool
continues_number base first b =
    if base == 100 then b == 95 || (is_digit first && is_digit b)
    else b == 95 || is_digit_of base b || is_unknown b

-- a letter, a digit, `_` or `?`
abbrev pub is_literal_part : ℕ → Bool
is_literal_part b = begins_identifier b || is_digit b || b == 63
