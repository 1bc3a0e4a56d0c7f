-- The operators by their tokens (IEEE 1800-2017, Table 11-1).
use Rattle.std.specs.Prelude.{Bool, true, false}
use Rattle.sve_tree.specs.declared.word.Sign.{Sign}
use Rattle.sve_tree.specs.declared.word.UnaryOperator.{UnaryOperator}
use Rattle.sve_tree.specs.declared.word.BinaryOperator.{BinaryOperator}
use Rattle.sve_tree.specs.declared.word.ImplicationOperator.{ImplicationOperator}
use Rattle.sve_tree.specs.declared.word.Sign.TheVariants as is_sign
use Rattle.sve_tree.specs.declared.word.UnaryOperator.TheVariants as token_of
use Rattle.sve_tree.specs.declared.word.BinaryOperator.TheVariants as token
use Rattle.sve_tree.specs.declared.word.ImplicationOperator.TheVariants as arrow
use Rattle.sve_value.specs.declared.operators.Unary.{Unary}
use Rattle.sve_value.specs.declared.operators.Unary.TheVariants as unary
use Rattle.sve_value.specs.declared.operators.Binary.{Binary}
use Rattle.sve_value.specs.declared.operators.Binary.TheVariants as binary

abbrev pub unary_named : UnaryOperator → Unary
unary_named token_of.Plus = unary.Plus
unary_named token_of.Minus = unary.Minus
unary_named token_of.LogicalNot = unary.LogicalNot
unary_named token_of.Not = unary.BitwiseNot
unary_named token_of.And = unary.ReductionAnd
unary_named token_of.Nand = unary.ReductionNand
unary_named token_of.Or = unary.ReductionOr
unary_named token_of.Nor = unary.ReductionNor
unary_named token_of.Xor = unary.ReductionXor
unary_named token_of.TildeXnor = unary.ReductionXnor
unary_named token_of.CaretXnor = unary.ReductionXnor

abbrev pub binary_named : BinaryOperator → Binary
binary_named token.Power = binary.Power
binary_named token.Times = binary.Multiply
binary_named token.Divide = binary.Divide
binary_named token.Remainder = binary.Modulus
binary_named token.Plus = binary.Add
binary_named token.Minus = binary.Subtract
binary_named token.LogicalShiftLeft = binary.LogicalShiftLeft
binary_named token.LogicalShiftRight = binary.LogicalShiftRight
binary_named token.ArithmeticShiftLeft = binary.ArithmeticShiftLeft
binary_named token.ArithmeticShiftRight = binary.ArithmeticShiftRight
binary_named token.Less = binary.Less
binary_named token.LessEqual = binary.LessOrEqual
binary_named token.Greater = binary.Greater
binary_named token.GreaterEqual = binary.GreaterOrEqual
binary_named token.Equal = binary.LogicalEqual
binary_named token.NotEqual = binary.LogicalNotEqual
binary_named token.CaseEqual = binary.CaseEqual
binary_named token.CaseNotEqual = binary.CaseNotEqual
binary_named token.WildcardEqual = binary.WildcardEqual
binary_named token.WildcardNotEqual = binary.WildcardNotEqual
binary_named token.And = binary.BitwiseAnd
binary_named token.Xor = binary.BitwiseXor
binary_named token.TildeXnor = binary.BitwiseXnor
binary_named token.CaretXnor = binary.BitwiseXnor
binary_named token.Or = binary.BitwiseOr
binary_named token.LogicalAnd = binary.LogicalAnd
binary_named token.LogicalOr = binary.LogicalOr

abbrev pub implication_named : ImplicationOperator → Binary
implication_named arrow.Implies = binary.LogicalImplication
implication_named arrow.Equivalent = binary.LogicalEquivalence

abbrev pub is_signed : Sign → Bool
is_signed is_sign.Signed = true
is_signed is_sign.Unsigned = false
