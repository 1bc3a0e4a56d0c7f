-- Operators that go bit by bit: the truth tables of IEEE 1800-2017, 11.4.8, and how a table goes over lists.
use Rattle.std.specs.Prelude.{List, [], ◌∷◌}
use Rattle.sve_value.specs.declared.bit.Bit.{Bit}
use Rattle.sve_value.specs.declared.bit.Bit.TheVariants.{Zero, One, X, Z}
use Rattle.sve_value.specs.Vector.{Vector}

-- a row of a truth table, whose columns are 0, 1, x and z
abbrev pub row : Bit → Bit → Bit → Bit → Bit → Bit
row Zero when_0 when_1 when_x when_z = when_0
row One when_0 when_1 when_x when_z = when_1
row X when_0 when_1 when_x when_z = when_x
row Z when_0 when_1 when_x when_z = when_z

-- `~`
abbrev pub not_bit : Bit → Bit
not_bit b = row b One Zero X X

-- `&`
abbrev pub and_bit : Bit → Bit → Bit
and_bit Zero b = row b Zero Zero Zero Zero
and_bit One b = row b Zero One X X
and_bit X b = row b Zero X X X
and_bit Z b = row b Zero X X X

-- `|`
abbrev pub or_bit : Bit → Bit → Bit
or_bit Zero b = row b Zero One X X
or_bit One b = row b One One One One
or_bit X b = row b X One X X
or_bit Z b = row b X One X X

-- `^`
abbrev pub xor_bit : Bit → Bit → Bit
xor_bit Zero b = row b Zero One X X
xor_bit One b = row b One Zero X X
xor_bit X b = row b X X X X
xor_bit Z b = row b X X X X

-- `^~` and `~^`
abbrev pub xnor_bit : Bit → Bit → Bit
xnor_bit Zero b = row b One Zero X X
xnor_bit One b = row b Zero One X X
xnor_bit X b = row b X X X X
xnor_bit Z b = row b X X X X

-- what `?:` makes of its two arms under an unknown condition (11.4.11)
abbrev pub merge_bit : Bit → Bit → Bit
merge_bit Zero b = row b Zero X X X
merge_bit One b = row b X One X X
merge_bit X b = row b X X X X
merge_bit Z b = row b X X X X

-- a table of one operand over a list
unfoldable pub each : (Bit → Bit) → List Bit → List Bit
each table [] = []
each table (b ∷ bs) = table b ∷ each table bs

-- a table of two operands over two lists of one length
unfoldable pub pairs : (Bit → Bit → Bit) → List Bit → List Bit → List Bit
pairs table [] right = []
pairs table (a ∷ left) [] = []
pairs table (a ∷ left) (b ∷ right) = table a b ∷ pairs table left right

-- the operators on values; the operands have one size and one sign, which the result keeps
abbrev pub bitwise_of : (Bit → Bit → Bit) → Vector → Vector → Vector
bitwise_of table a b = record { signed = a.signed; bits = pairs table a.bits b.bits }

abbrev pub bitwise_not_of : Vector → Vector
bitwise_not_of a = record { signed = a.signed; bits = each not_bit a.bits }
