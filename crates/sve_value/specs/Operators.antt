-- The operators of constant expressions by their names in IEEE 1800-2017, Table 11-1.
use Rattle.std.specs.Prelude.{int_lt, int_le}
use Rattle.sve_value.specs.declared.operators.Unary.{Unary}
use Rattle.sve_value.specs.declared.operators.Unary.TheVariants.{Plus, Minus, BitwiseNot, LogicalNot, ReductionAnd, ReductionNand, ReductionOr, ReductionNor, ReductionXor, ReductionXnor}
use Rattle.sve_value.specs.declared.operators.Binary.{Binary}
use Rattle.sve_value.specs.declared.operators.Binary.TheVariants.{Add, Subtract, Multiply, Divide, Modulus, Power, BitwiseAnd, BitwiseOr, BitwiseXor, BitwiseXnor, LogicalEqual, LogicalNotEqual, CaseEqual, CaseNotEqual, WildcardEqual, WildcardNotEqual, Less, LessOrEqual, Greater, GreaterOrEqual, LogicalAnd, LogicalOr, LogicalImplication, LogicalEquivalence, LogicalShiftLeft, LogicalShiftRight, ArithmeticShiftLeft, ArithmeticShiftRight}
use Rattle.sve_value.specs.Vector.{Vector}
use Rattle.sve_value.specs.Alike.{IsAlike}
use Rattle.sve_value.specs.Bitwise.{and_bit, or_bit, xor_bit, xnor_bit, bitwise_of, bitwise_not_of}
use Rattle.sve_value.specs.Arithmetic.{sum, difference, product, quotient, remainder, power, arithmetic_of, plus_of, minus_of}
use Rattle.sve_value.specs.Truths.{logical_not_of, logical_of, implies_bit, conjunction, disjunction, parity, reduction_of, inverted_reduction_of}
use Rattle.sve_value.specs.Relations.{relation_of, case_bit, wildcard_bit, equality_of, inequality_of}
use Rattle.sve_value.specs.Moves.{left_shift_of, logical_right_shift_of, arithmetic_right_shift_of}

abbrev pub unary_of : Unary → Vector → Vector
unary_of Plus a = plus_of a
unary_of Minus a = minus_of a
unary_of BitwiseNot a = bitwise_not_of a
unary_of LogicalNot a = logical_not_of a
unary_of ReductionAnd a = reduction_of conjunction a
unary_of ReductionNand a = inverted_reduction_of conjunction a
unary_of ReductionOr a = reduction_of disjunction a
unary_of ReductionNor a = inverted_reduction_of disjunction a
unary_of ReductionXor a = reduction_of parity a
unary_of ReductionXnor a = inverted_reduction_of parity a

abbrev pub binary_of : Binary → Vector → Vector → Vector
binary_of Add a b = arithmetic_of sum a b
binary_of Subtract a b = arithmetic_of difference a b
binary_of Multiply a b = arithmetic_of product a b
binary_of Divide a b = arithmetic_of quotient a b
binary_of Modulus a b = arithmetic_of remainder a b
binary_of Power a b = arithmetic_of power a b
binary_of BitwiseAnd a b = bitwise_of and_bit a b
binary_of BitwiseOr a b = bitwise_of or_bit a b
binary_of BitwiseXor a b = bitwise_of xor_bit a b
binary_of BitwiseXnor a b = bitwise_of xnor_bit a b
binary_of LogicalEqual a b = equality_of xnor_bit a b
binary_of LogicalNotEqual a b = inequality_of xnor_bit a b
binary_of CaseEqual a b = equality_of case_bit a b
binary_of CaseNotEqual a b = inequality_of case_bit a b
binary_of WildcardEqual a b = equality_of wildcard_bit a b
binary_of WildcardNotEqual a b = inequality_of wildcard_bit a b
binary_of Less a b = relation_of int_lt a b
binary_of LessOrEqual a b = relation_of int_le a b
binary_of Greater a b = relation_of (λ m n. int_lt n m) a b
binary_of GreaterOrEqual a b = relation_of (λ m n. int_le n m) a b
binary_of LogicalAnd a b = logical_of and_bit a b
binary_of LogicalOr a b = logical_of or_bit a b
binary_of LogicalImplication a b = logical_of implies_bit a b
binary_of LogicalEquivalence a b = logical_of xnor_bit a b
binary_of LogicalShiftLeft a b = left_shift_of a b
binary_of LogicalShiftRight a b = logical_right_shift_of a b
binary_of ArithmeticShiftLeft a b = left_shift_of a b
binary_of ArithmeticShiftRight a b = arithmetic_right_shift_of a b

-- what an operator asks of its operands: nothing where each is sized by itself
abbrev pub Suits : Binary → Vector → Vector → Type 0
Suits Power a b = Unit {0}
Suits LogicalAnd a b = Unit {0}
Suits LogicalOr a b = Unit {0}
Suits LogicalImplication a b = Unit {0}
Suits LogicalEquivalence a b = Unit {0}
Suits LogicalShiftLeft a b = Unit {0}
Suits LogicalShiftRight a b = Unit {0}
Suits ArithmeticShiftLeft a b = Unit {0}
Suits ArithmeticShiftRight a b = Unit {0}
Suits _ a b = IsAlike a b
