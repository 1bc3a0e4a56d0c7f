-- Relational operators (IEEE 1800-2017, 11.4.4), equality (11.4.5) and wildcard equality (11.4.6).
use Rattle.std.specs.Prelude.{Bool, ℤ, Option, Some, None}
use Rattle.sve_value.specs.declared.bit.Bit.{Bit}
use Rattle.sve_value.specs.declared.bit.Bit.TheVariants.{Zero, One, X, Z}
use Rattle.sve_value.specs.Vector.{Vector}
use Rattle.sve_value.specs.Bitwise.{row, not_bit, pairs}
use Rattle.sve_value.specs.Numbers.{known_integer}
use Rattle.sve_value.specs.Truths.{truth_bit, one_bit, conjunction}

-- a comparison of whole numbers, unknown where an operand has none
abbrev pub compared : (ℤ → ℤ → Bool) → Option ℤ → Option ℤ → Option Bool
compared test (Some m) (Some n) = Some (test m n)
compared test (Some m) None = None
compared test None n = None

abbrev pub relation_of : (ℤ → ℤ → Bool) → Vector → Vector → Vector
relation_of test a b = one_bit (truth_bit (compared test (known_integer a) (known_integer b)))

-- whether two bits are equal: `===` takes x and z as such
abbrev pub case_bit : Bit → Bit → Bit
case_bit Zero b = row b One Zero Zero Zero
case_bit One b = row b Zero One Zero Zero
case_bit X b = row b Zero Zero One Zero
case_bit Z b = row b Zero Zero Zero One

-- `==?` lets an x or z on the right agree with any bit
abbrev pub wildcard_bit : Bit → Bit → Bit
wildcard_bit Zero b = row b One Zero One One
wildcard_bit One b = row b Zero One One One
wildcard_bit X b = row b X X One One
wildcard_bit Z b = row b X X One One

-- values are equal where each two bits are: 0 where two bits differ, else x where two are not comparable, else 1.
-- For `==` two known bits are compared (xnor), for `===` and `==?` by the tables above.
abbrev pub equality_of : (Bit → Bit → Bit) → Vector → Vector → Vector
equality_of table a b = one_bit (conjunction (pairs table a.bits b.bits))

-- the negations keep x
abbrev pub inequality_of : (Bit → Bit → Bit) → Vector → Vector → Vector
inequality_of table a b = one_bit (not_bit (conjunction (pairs table a.bits b.bits)))
