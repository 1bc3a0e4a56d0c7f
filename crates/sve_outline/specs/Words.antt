-- The places of what a token can say, and what names say (IEEE 1800-2017, A.8.6, A.2.2.1, A.1.3, A.9.3).
use Rattle.std.specs.Prelude.{ℕ, ◌+◌}
use Rattle.sve_bytes.specs.declared.direction.Dir.{Dir}
use Rattle.sve_outline.specs.Outline.{Outline, option_outline, token_at, ◌◂◌}
use Rattle.sve_tree.specs.declared.word.AssignmentOperator.{AssignmentOperator}
use Rattle.sve_tree.specs.declared.word.AtomKeyword.{AtomKeyword}
use Rattle.sve_tree.specs.declared.word.BinaryOperator.{BinaryOperator}
use Rattle.sve_tree.specs.declared.word.CaseKeyword.{CaseKeyword}
use Rattle.sve_tree.specs.declared.word.ClockedKeyword.{ClockedKeyword}
use Rattle.sve_tree.specs.declared.word.Edge.{Edge}
use Rattle.sve_tree.specs.declared.word.EventSeparator.{EventSeparator}
use Rattle.sve_tree.specs.declared.word.ImplicationOperator.{ImplicationOperator}
use Rattle.sve_tree.specs.declared.word.IntegerKeyword.{IntegerKeyword}
use Rattle.sve_tree.specs.declared.word.Label.{Label}
use Rattle.sve_tree.specs.declared.word.Lifetime.{Lifetime}
use Rattle.sve_tree.specs.declared.word.LoopKeyword.{LoopKeyword}
use Rattle.sve_tree.specs.declared.word.ModuleKeyword.{ModuleKeyword}
use Rattle.sve_tree.specs.declared.word.Net.{Net}
use Rattle.sve_tree.specs.declared.word.PackageScope.{PackageScope}
use Rattle.sve_tree.specs.declared.word.ParameterKeyword.{ParameterKeyword}
use Rattle.sve_tree.specs.declared.word.PlainKeyword.{PlainKeyword}
use Rattle.sve_tree.specs.declared.word.ScopedName.{ScopedName}
use Rattle.sve_tree.specs.declared.word.Sign.{Sign}
use Rattle.sve_tree.specs.declared.word.StepOperator.{StepOperator}
use Rattle.sve_tree.specs.declared.word.UnaryOperator.{UnaryOperator}
use Rattle.sve_tree.specs.declared.word.Uniqueness.{Uniqueness}
use Rattle.sve_tree.specs.declared.word.VectorKeyword.{VectorKeyword}
use Rattle.sve_tree.specs.declared.word.AssignmentOperator.TheVariants as is_assignment_operator
use Rattle.sve_tree.specs.declared.word.AtomKeyword.TheVariants as is_atom_keyword
use Rattle.sve_tree.specs.declared.word.BinaryOperator.TheVariants as is_binary_operator
use Rattle.sve_tree.specs.declared.word.CaseKeyword.TheVariants as is_case_keyword
use Rattle.sve_tree.specs.declared.word.ClockedKeyword.TheVariants as is_clocked_keyword
use Rattle.sve_bytes.specs.declared.direction.Dir.TheVariants as is_dir
use Rattle.sve_tree.specs.declared.word.Edge.TheVariants as is_edge
use Rattle.sve_tree.specs.declared.word.EventSeparator.TheVariants as is_event_separator
use Rattle.sve_tree.specs.declared.word.ImplicationOperator.TheVariants as is_implication_operator
use Rattle.sve_tree.specs.declared.word.IntegerKeyword.TheVariants as is_integer_keyword
use Rattle.sve_tree.specs.declared.word.Lifetime.TheVariants as is_lifetime
use Rattle.sve_tree.specs.declared.word.LoopKeyword.TheVariants as is_loop_keyword
use Rattle.sve_tree.specs.declared.word.ModuleKeyword.TheVariants as is_module_keyword
use Rattle.sve_tree.specs.declared.word.Net.TheVariants as is_net
use Rattle.sve_tree.specs.declared.word.ParameterKeyword.TheVariants as is_parameter_keyword
use Rattle.sve_tree.specs.declared.word.PlainKeyword.TheVariants as is_plain_keyword
use Rattle.sve_tree.specs.declared.word.Sign.TheVariants as is_sign
use Rattle.sve_tree.specs.declared.word.StepOperator.TheVariants as is_step_operator
use Rattle.sve_tree.specs.declared.word.UnaryOperator.TheVariants as is_unary_operator
use Rattle.sve_tree.specs.declared.word.Uniqueness.TheVariants as is_uniqueness
use Rattle.sve_tree.specs.declared.word.VectorKeyword.TheVariants as is_vector_keyword

abbrev pub sign_place : Sign → ℕ
sign_place is_sign.Signed = 0
sign_place is_sign.Unsigned = 1

abbrev pub lifetime_place : Lifetime → ℕ
lifetime_place is_lifetime.Automatic = 0
lifetime_place is_lifetime.Static = 1

abbrev pub net_place : Net → ℕ
net_place is_net.Wire = 0
net_place is_net.Tri = 1
net_place is_net.Uwire = 2
net_place is_net.Wand = 3
net_place is_net.Wor = 4
net_place is_net.Triand = 5
net_place is_net.Trior = 6
net_place is_net.Tri0 = 7
net_place is_net.Tri1 = 8
net_place is_net.Supply0 = 9
net_place is_net.Supply1 = 10

abbrev pub atom_keyword_place : AtomKeyword → ℕ
atom_keyword_place is_atom_keyword.Byte = 0
atom_keyword_place is_atom_keyword.Shortint = 1
atom_keyword_place is_atom_keyword.Int = 2
atom_keyword_place is_atom_keyword.Longint = 3
atom_keyword_place is_atom_keyword.Integer = 4
atom_keyword_place is_atom_keyword.Time = 5

abbrev pub vector_keyword_place : VectorKeyword → ℕ
vector_keyword_place is_vector_keyword.Bit = 0
vector_keyword_place is_vector_keyword.Logic = 1
vector_keyword_place is_vector_keyword.Reg = 2

abbrev pub integer_keyword_place : IntegerKeyword → ℕ
integer_keyword_place (is_integer_keyword.Atom k) = atom_keyword_place k
integer_keyword_place (is_integer_keyword.Vector k) = 6 + vector_keyword_place k

abbrev pub parameter_keyword_place : ParameterKeyword → ℕ
parameter_keyword_place is_parameter_keyword.Parameter = 0
parameter_keyword_place is_parameter_keyword.Localparam = 1

abbrev pub unary_operator_place : UnaryOperator → ℕ
unary_operator_place is_unary_operator.Plus = 0
unary_operator_place is_unary_operator.Minus = 1
unary_operator_place is_unary_operator.LogicalNot = 2
unary_operator_place is_unary_operator.Not = 3
unary_operator_place is_unary_operator.And = 4
unary_operator_place is_unary_operator.Nand = 5
unary_operator_place is_unary_operator.Or = 6
unary_operator_place is_unary_operator.Nor = 7
unary_operator_place is_unary_operator.Xor = 8
unary_operator_place is_unary_operator.TildeXnor = 9
unary_operator_place is_unary_operator.CaretXnor = 10

abbrev pub binary_operator_place : BinaryOperator → ℕ
binary_operator_place is_binary_operator.Power = 0
binary_operator_place is_binary_operator.Times = 1
binary_operator_place is_binary_operator.Divide = 2
binary_operator_place is_binary_operator.Remainder = 3
binary_operator_place is_binary_operator.Plus = 4
binary_operator_place is_binary_operator.Minus = 5
binary_operator_place is_binary_operator.LogicalShiftLeft = 6
binary_operator_place is_binary_operator.LogicalShiftRight = 7
binary_operator_place is_binary_operator.ArithmeticShiftLeft = 8
binary_operator_place is_binary_operator.ArithmeticShiftRight = 9
binary_operator_place is_binary_operator.Less = 10
binary_operator_place is_binary_operator.LessEqual = 11
binary_operator_place is_binary_operator.Greater = 12
binary_operator_place is_binary_operator.GreaterEqual = 13
binary_operator_place is_binary_operator.Equal = 14
binary_operator_place is_binary_operator.NotEqual = 15
binary_operator_place is_binary_operator.CaseEqual = 16
binary_operator_place is_binary_operator.CaseNotEqual = 17
binary_operator_place is_binary_operator.WildcardEqual = 18
binary_operator_place is_binary_operator.WildcardNotEqual = 19
binary_operator_place is_binary_operator.And = 20
binary_operator_place is_binary_operator.Xor = 21
binary_operator_place is_binary_operator.TildeXnor = 22
binary_operator_place is_binary_operator.CaretXnor = 23
binary_operator_place is_binary_operator.Or = 24
binary_operator_place is_binary_operator.LogicalAnd = 25
binary_operator_place is_binary_operator.LogicalOr = 26

abbrev pub implication_operator_place : ImplicationOperator → ℕ
implication_operator_place is_implication_operator.Implies = 0
implication_operator_place is_implication_operator.Equivalent = 1

abbrev pub assignment_operator_place : AssignmentOperator → ℕ
assignment_operator_place is_assignment_operator.Assign = 0
assignment_operator_place is_assignment_operator.Nonblocking = 1
assignment_operator_place is_assignment_operator.Plus = 2
assignment_operator_place is_assignment_operator.Minus = 3
assignment_operator_place is_assignment_operator.Times = 4
assignment_operator_place is_assignment_operator.Divide = 5
assignment_operator_place is_assignment_operator.Remainder = 6
assignment_operator_place is_assignment_operator.And = 7
assignment_operator_place is_assignment_operator.Or = 8
assignment_operator_place is_assignment_operator.Xor = 9
assignment_operator_place is_assignment_operator.LogicalShiftLeft = 10
assignment_operator_place is_assignment_operator.LogicalShiftRight = 11
assignment_operator_place is_assignment_operator.ArithmeticShiftLeft = 12
assignment_operator_place is_assignment_operator.ArithmeticShiftRight = 13

abbrev pub step_operator_place : StepOperator → ℕ
step_operator_place is_step_operator.Increment = 0
step_operator_place is_step_operator.Decrement = 1

abbrev pub uniqueness_place : Uniqueness → ℕ
uniqueness_place is_uniqueness.Unique = 0
uniqueness_place is_uniqueness.Unique0 = 1
uniqueness_place is_uniqueness.Priority = 2

abbrev pub case_keyword_place : CaseKeyword → ℕ
case_keyword_place is_case_keyword.Case = 0
case_keyword_place is_case_keyword.Casez = 1
case_keyword_place is_case_keyword.Casex = 2

abbrev pub loop_keyword_place : LoopKeyword → ℕ
loop_keyword_place is_loop_keyword.While = 0
loop_keyword_place is_loop_keyword.Repeat = 1

abbrev pub clocked_keyword_place : ClockedKeyword → ℕ
clocked_keyword_place is_clocked_keyword.Always = 0
clocked_keyword_place is_clocked_keyword.AlwaysFf = 1

abbrev pub plain_keyword_place : PlainKeyword → ℕ
plain_keyword_place is_plain_keyword.AlwaysComb = 0
plain_keyword_place is_plain_keyword.AlwaysLatch = 1
plain_keyword_place is_plain_keyword.Initial = 2

abbrev pub edge_place : Edge → ℕ
edge_place is_edge.Posedge = 0
edge_place is_edge.Negedge = 1
edge_place is_edge.Edge = 2

abbrev pub event_separator_place : EventSeparator → ℕ
event_separator_place is_event_separator.Or = 0
event_separator_place is_event_separator.Comma = 1

abbrev pub module_keyword_place : ModuleKeyword → ℕ
module_keyword_place is_module_keyword.Module = 0
module_keyword_place is_module_keyword.Macromodule = 1

abbrev pub dir_place : Dir → ℕ
dir_place is_dir.Input = 0
dir_place is_dir.Output = 1
dir_place is_dir.Inout = 2

abbrev pub package_scope_outline : PackageScope → Outline
package_scope_outline x = token_at x.name ◂ token_at x.colons

abbrev pub scoped_name_outline : ScopedName → Outline
scoped_name_outline x = option_outline package_scope_outline x.scope ◂ token_at x.name

abbrev pub label_outline : Label → Outline
label_outline x = token_at x.colon ◂ token_at x.name
