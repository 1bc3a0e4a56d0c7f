-- Arithmetic operators (IEEE 1800-2017, 11.4.3 and 11.4.4; Table 11-4 for powers) and `$clog2` (20.8.1).
use Rattle.std.specs.Prelude.{ℕ, zero, suc, ◌+◌, ◌<◌, ◌≤◌, ◌^◌, true, nat_lt, if◌then◌else◌, ℤ, pos, negsuc, neg_ℤ, ◌+ℤ◌, ◌-ℤ◌, ◌*ℤ◌, int_div, int_rem, length, Option, Some, None}
use Rattle.std.specs.Int.{int_pow}
use Rattle.sve_value.specs.Vector.{Vector}
use Rattle.sve_value.specs.Numbers.{known_natural, known_integer, value_of}

-- an operation on whole numbers, none where an operand has none
abbrev pub on_one : (ℤ → Option ℤ) → Option ℤ → Option ℤ
on_one f (Some m) = f m
on_one f None = None

abbrev pub on_both : (ℤ → ℤ → Option ℤ) → Option ℤ → Option ℤ → Option ℤ
on_both f (Some m) (Some n) = f m n
on_both f (Some m) None = None
on_both f None n = None

abbrev pub sum : ℤ → ℤ → Option ℤ
sum m n = Some (m +ℤ n)

abbrev pub difference : ℤ → ℤ → Option ℤ
difference m n = Some (m -ℤ n)

abbrev pub product : ℤ → ℤ → Option ℤ
product m n = Some (m *ℤ n)

-- rounded toward zero; by zero there is none
abbrev pub quotient : ℤ → ℤ → Option ℤ
quotient m (pos zero) = None
quotient m (pos (suc n)) = Some (int_div m (pos (suc n)))
quotient m (negsuc n) = Some (int_div m (negsuc n))

-- what the quotient leaves, with the sign of the left operand; by zero there is none
abbrev pub remainder : ℤ → ℤ → Option ℤ
remainder m (pos zero) = None
remainder m (pos (suc n)) = Some (int_rem m (pos (suc n)))
remainder m (negsuc n) = Some (int_rem m (negsuc n))

-- Table 11-4. To the power 0 it is 1. To a negative power it is none for 0, 1 for 1, and -1 or 1 for -1 as the
-- exponent is odd or even; for any other base it is 0.
abbrev pub power : ℤ → ℤ → Option ℤ
power m (pos n) = Some (int_pow m n)
power (pos zero) (negsuc n) = None
power (pos (suc zero)) (negsuc n) = Some (pos 1)
power (pos (suc (suc m))) (negsuc n) = Some (pos 0)
power (negsuc zero) (negsuc n) = Some (int_pow (negsuc 0) (suc n))
power (negsuc (suc m)) (negsuc n) = Some (pos 0)

-- the operators: as wide as the left operand and of its sign
abbrev pub unary_arithmetic_of : (ℤ → Option ℤ) → Vector → Vector
unary_arithmetic_of f a = value_of (length a.bits) a.signed (on_one f (known_integer a))

abbrev pub arithmetic_of : (ℤ → ℤ → Option ℤ) → Vector → Vector → Vector
arithmetic_of f a b = value_of (length a.bits) a.signed (on_both f (known_integer a) (known_integer b))

abbrev pub plus_of : Vector → Vector
plus_of = unary_arithmetic_of (λ m. Some m)

abbrev pub minus_of : Vector → Vector
minus_of = unary_arithmetic_of (λ m. Some (neg_ℤ m))

-- how many of the first powers of two are below n: for an n of that many bits, the ceiling of its logarithm
unfoldable pub powers_below : ℕ → ℕ → ℕ
powers_below n zero = 0
powers_below n (suc k) = powers_below n k + (if nat_lt (2 ^ k) n then 1 else 0)

-- k is the ceiling of the logarithm of n to the base two, with 0 for 0: the least power that is not below n
abbrev pub IsCeilingOfLog : ℕ → ℕ → Type 0
IsCeilingOfLog n k = (n ≤ 2 ^ k) × ((j : ℕ) → j < k → 2 ^ j < n)

abbrev pub clog2_integer : ℕ → Option ℕ → Option ℤ
clog2_integer width (Some n) = Some (pos (powers_below n width))
clog2_integer width None = None

-- 32 bits, signed; its operand counts as unsigned
abbrev pub clog2_of : Vector → Vector
clog2_of a = value_of 32 true (clog2_integer (length a.bits) (known_natural a))
