-- Truth, the logical operators (IEEE 1800-2017, 11.4.7) and the reductions (11.4.9).
use Rattle.std.specs.Prelude.{Bool, true, false, if◌then◌else◌, List, [], ◌∷◌, Option, Some, None}
use Rattle.std.specs.List.{list_any, list_all}
use Rattle.sve_value.specs.declared.bit.Bit.{Bit}
use Rattle.sve_value.specs.declared.bit.Bit.TheVariants.{Zero, One, X}
use Rattle.sve_value.specs.Vector.{Vector}
use Rattle.sve_value.specs.Bitwise.{not_bit, and_bit, or_bit, xor_bit}
use Rattle.sve_value.specs.Numbers.{is_one, is_zero}

-- a value is true where a bit is 1, false where every bit is 0, and else unknown
abbrev pub truth_of : Vector → Option Bool
truth_of a = if list_any is_one a.bits then Some true else (if list_all is_zero a.bits then Some false else None)

abbrev pub truth_bit : Option Bool → Bit
truth_bit (Some true) = One
truth_bit (Some false) = Zero
truth_bit None = X

-- a result of one bit is unsigned
abbrev pub one_bit : Bit → Vector
one_bit b = record { signed = false; bits = b ∷ [] }

-- the logical operators follow the tables of the bitwise ones, on truths
abbrev pub truth_bit_of : Vector → Bit
truth_bit_of a = truth_bit (truth_of a)

abbrev pub logical_not_of : Vector → Vector
logical_not_of a = one_bit (not_bit (truth_bit_of a))

abbrev pub logical_of : (Bit → Bit → Bit) → Vector → Vector → Vector
logical_of table a b = one_bit (table (truth_bit_of a) (truth_bit_of b))

-- `a -> b` is `!a || b`
abbrev pub implies_bit : Bit → Bit → Bit
implies_bit a b = or_bit (not_bit a) b

-- a bit operator between all bits; one bit alone meets the operator's neutral element
unfoldable pub conjunction : List Bit → Bit
conjunction [] = One
conjunction (b ∷ bs) = and_bit b (conjunction bs)

unfoldable pub disjunction : List Bit → Bit
disjunction [] = Zero
disjunction (b ∷ bs) = or_bit b (disjunction bs)

unfoldable pub parity : List Bit → Bit
parity [] = Zero
parity (b ∷ bs) = xor_bit b (parity bs)

abbrev pub reduction_of : (List Bit → Bit) → Vector → Vector
reduction_of fold a = one_bit (fold a.bits)

-- nand, nor and xnor are the inverted and, or and xor
abbrev pub inverted_reduction_of : (List Bit → Bit) → Vector → Vector
inverted_reduction_of fold a = one_bit (not_bit (fold a.bits))
