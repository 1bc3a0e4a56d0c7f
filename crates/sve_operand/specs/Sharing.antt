-- How the operands of an operator take part in its context (IEEE 1800-2017, Table 11-21).
use Rattle.std.specs.Prelude.{Bool, true, false}
use Rattle.sve_value.specs.declared.operators.Unary.{Unary}
use Rattle.sve_value.specs.declared.operators.Unary.TheVariants as is_unary
use Rattle.sve_value.specs.declared.operators.Binary.{Binary}
use Rattle.sve_value.specs.declared.operators.Binary.TheVariants as is_binary
use Rattle.sve_operand.specs.declared.sharing.Sharing.{Sharing}
use Rattle.sve_operand.specs.declared.sharing.Sharing.TheVariants.{Shared, Compared, Shifted, Separate}
use Rattle.sve_operand.specs.declared.sharing.Shift.{Shift}
use Rattle.sve_operand.specs.declared.sharing.Shift.TheVariants as is_shift
use Rattle.sve_operand.specs.declared.sharing.Logical.{Logical}
use Rattle.sve_operand.specs.declared.sharing.Logical.TheVariants as is_logical

-- plus, minus and `~` have the context of their operand; `!` and the reductions take it by itself
abbrev pub takes_context : Unary → Bool
takes_context is_unary.Plus = true
takes_context is_unary.Minus = true
takes_context is_unary.BitwiseNot = true
takes_context _ = false

-- the table of binary operators
abbrev pub sharing_of : Binary → Sharing
sharing_of is_binary.Add = Shared
sharing_of is_binary.Subtract = Shared
sharing_of is_binary.Multiply = Shared
sharing_of is_binary.Divide = Shared
sharing_of is_binary.Modulus = Shared
sharing_of is_binary.BitwiseAnd = Shared
sharing_of is_binary.BitwiseOr = Shared
sharing_of is_binary.BitwiseXor = Shared
sharing_of is_binary.BitwiseXnor = Shared
sharing_of is_binary.LogicalEqual = Compared
sharing_of is_binary.LogicalNotEqual = Compared
sharing_of is_binary.CaseEqual = Compared
sharing_of is_binary.CaseNotEqual = Compared
sharing_of is_binary.WildcardEqual = Compared
sharing_of is_binary.WildcardNotEqual = Compared
sharing_of is_binary.Less = Compared
sharing_of is_binary.LessOrEqual = Compared
sharing_of is_binary.Greater = Compared
sharing_of is_binary.GreaterOrEqual = Compared
sharing_of is_binary.Power = Shifted is_shift.Power
sharing_of is_binary.LogicalShiftLeft = Shifted is_shift.LogicalLeft
sharing_of is_binary.LogicalShiftRight = Shifted is_shift.LogicalRight
sharing_of is_binary.ArithmeticShiftLeft = Shifted is_shift.ArithmeticLeft
sharing_of is_binary.ArithmeticShiftRight = Shifted is_shift.ArithmeticRight
sharing_of is_binary.LogicalAnd = Separate is_logical.And
sharing_of is_binary.LogicalOr = Separate is_logical.Or
sharing_of is_binary.LogicalImplication = Separate is_logical.Implication
sharing_of is_binary.LogicalEquivalence = Separate is_logical.Equivalence

-- the operators by their names
abbrev pub shift_operator : Shift → Binary
shift_operator is_shift.Power = is_binary.Power
shift_operator is_shift.LogicalLeft = is_binary.LogicalShiftLeft
shift_operator is_shift.LogicalRight = is_binary.LogicalShiftRight
shift_operator is_shift.ArithmeticLeft = is_binary.ArithmeticShiftLeft
shift_operator is_shift.ArithmeticRight = is_binary.ArithmeticShiftRight

abbrev pub logical_operator : Logical → Binary
logical_operator is_logical.And = is_binary.LogicalAnd
logical_operator is_logical.Or = is_binary.LogicalOr
logical_operator is_logical.Implication = is_binary.LogicalImplication
logical_operator is_logical.Equivalence = is_binary.LogicalEquivalence
