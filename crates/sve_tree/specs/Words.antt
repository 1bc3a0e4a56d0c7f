-- The trees of tokens that say which of several things is meant, and of names (IEEE 1800-2017, A.8.6, A.2.2.1, A.1.3, A.9.3).
use Rattle.std.specs.Prelude.{ℕ, Option, Some, None}
use Rattle.sve_grammar.specs.Reading.{Tree, leaf, none, left, right}
use Rattle.sve_tree.specs.Shape.{◌▸◌, way, final}
use Rattle.sve_tree.specs.declared.word.Sign.{Sign}
use Rattle.sve_tree.specs.declared.word.Lifetime.{Lifetime}
use Rattle.sve_tree.specs.declared.word.Net.{Net}
use Rattle.sve_tree.specs.declared.word.AtomKeyword.{AtomKeyword}
use Rattle.sve_tree.specs.declared.word.VectorKeyword.{VectorKeyword}
use Rattle.sve_tree.specs.declared.word.IntegerKeyword.{IntegerKeyword}
use Rattle.sve_tree.specs.declared.word.ParameterKeyword.{ParameterKeyword}
use Rattle.sve_tree.specs.declared.word.UnaryOperator.{UnaryOperator}
use Rattle.sve_tree.specs.declared.word.BinaryOperator.{BinaryOperator}
use Rattle.sve_tree.specs.declared.word.ImplicationOperator.{ImplicationOperator}
use Rattle.sve_tree.specs.declared.word.AssignmentOperator.{AssignmentOperator}
use Rattle.sve_tree.specs.declared.word.StepOperator.{StepOperator}
use Rattle.sve_tree.specs.declared.word.ScopedName.{ScopedName}
use Rattle.sve_tree.specs.declared.word.PackageScope.{PackageScope}
use Rattle.sve_tree.specs.declared.word.Label.{Label}
use Rattle.sve_tree.specs.declared.word.Uniqueness.{Uniqueness}
use Rattle.sve_tree.specs.declared.word.CaseKeyword.{CaseKeyword}
use Rattle.sve_tree.specs.declared.word.LoopKeyword.{LoopKeyword}
use Rattle.sve_tree.specs.declared.word.ClockedKeyword.{ClockedKeyword}
use Rattle.sve_tree.specs.declared.word.PlainKeyword.{PlainKeyword}
use Rattle.sve_tree.specs.declared.word.Edge.{Edge}
use Rattle.sve_tree.specs.declared.word.EventSeparator.{EventSeparator}
use Rattle.sve_tree.specs.declared.word.ModuleKeyword.{ModuleKeyword}
use Rattle.sve_bytes.specs.declared.direction.Dir.{Dir}
use Rattle.sve_tree.specs.declared.word.Sign.TheVariants as is_sign
use Rattle.sve_tree.specs.declared.word.Lifetime.TheVariants as is_lifetime
use Rattle.sve_tree.specs.declared.word.Net.TheVariants as is_net
use Rattle.sve_tree.specs.declared.word.AtomKeyword.TheVariants as is_atom_keyword
use Rattle.sve_tree.specs.declared.word.VectorKeyword.TheVariants as is_vector_keyword
use Rattle.sve_tree.specs.declared.word.IntegerKeyword.TheVariants as is_integer_keyword
use Rattle.sve_tree.specs.declared.word.ParameterKeyword.TheVariants as is_parameter_keyword
use Rattle.sve_tree.specs.declared.word.UnaryOperator.TheVariants as is_unary_operator
use Rattle.sve_tree.specs.declared.word.BinaryOperator.TheVariants as is_binary_operator
use Rattle.sve_tree.specs.declared.word.ImplicationOperator.TheVariants as is_implication_operator
use Rattle.sve_tree.specs.declared.word.AssignmentOperator.TheVariants as is_assignment_operator
use Rattle.sve_tree.specs.declared.word.StepOperator.TheVariants as is_step_operator
use Rattle.sve_tree.specs.declared.word.Uniqueness.TheVariants as is_uniqueness
use Rattle.sve_tree.specs.declared.word.CaseKeyword.TheVariants as is_case_keyword
use Rattle.sve_tree.specs.declared.word.LoopKeyword.TheVariants as is_loop_keyword
use Rattle.sve_tree.specs.declared.word.ClockedKeyword.TheVariants as is_clocked_keyword
use Rattle.sve_tree.specs.declared.word.PlainKeyword.TheVariants as is_plain_keyword
use Rattle.sve_tree.specs.declared.word.Edge.TheVariants as is_edge
use Rattle.sve_tree.specs.declared.word.EventSeparator.TheVariants as is_event_separator
use Rattle.sve_tree.specs.declared.word.ModuleKeyword.TheVariants as is_module_keyword
use Rattle.sve_bytes.specs.declared.direction.Dir.TheVariants as is_dir

abbrev pub sign_tree : Sign → ℕ → Tree
sign_tree is_sign.Signed i = left (leaf i)
sign_tree is_sign.Unsigned i = right (leaf i)

abbrev pub lifetime_tree : Lifetime → ℕ → Tree
lifetime_tree is_lifetime.Automatic i = left (leaf i)
lifetime_tree is_lifetime.Static i = right (leaf i)

abbrev pub net_tree : Net → ℕ → Tree
net_tree is_net.Wire i = way 0 (leaf i)
net_tree is_net.Tri i = way 1 (leaf i)
net_tree is_net.Uwire i = way 2 (leaf i)
net_tree is_net.Wand i = way 3 (leaf i)
net_tree is_net.Wor i = way 4 (leaf i)
net_tree is_net.Triand i = way 5 (leaf i)
net_tree is_net.Trior i = way 6 (leaf i)
net_tree is_net.Tri0 i = way 7 (leaf i)
net_tree is_net.Tri1 i = way 8 (leaf i)
net_tree is_net.Supply0 i = way 9 (leaf i)
net_tree is_net.Supply1 i = final 10 (leaf i)

abbrev pub atom_keyword_tree : AtomKeyword → ℕ → Tree
atom_keyword_tree is_atom_keyword.Byte i = way 0 (leaf i)
atom_keyword_tree is_atom_keyword.Shortint i = way 1 (leaf i)
atom_keyword_tree is_atom_keyword.Int i = way 2 (leaf i)
atom_keyword_tree is_atom_keyword.Longint i = way 3 (leaf i)
atom_keyword_tree is_atom_keyword.Integer i = way 4 (leaf i)
atom_keyword_tree is_atom_keyword.Time i = final 5 (leaf i)

abbrev pub vector_keyword_tree : VectorKeyword → ℕ → Tree
vector_keyword_tree is_vector_keyword.Bit i = way 0 (leaf i)
vector_keyword_tree is_vector_keyword.Logic i = way 1 (leaf i)
vector_keyword_tree is_vector_keyword.Reg i = final 2 (leaf i)

abbrev pub integer_keyword_tree : IntegerKeyword → ℕ → Tree
integer_keyword_tree (is_integer_keyword.Atom k) i = left (atom_keyword_tree k i)
integer_keyword_tree (is_integer_keyword.Vector k) i = right (vector_keyword_tree k i)

abbrev pub parameter_keyword_tree : ParameterKeyword → ℕ → Tree
parameter_keyword_tree is_parameter_keyword.Parameter i = left (leaf i)
parameter_keyword_tree is_parameter_keyword.Localparam i = right (leaf i)

abbrev pub unary_operator_tree : UnaryOperator → ℕ → Tree
unary_operator_tree is_unary_operator.Plus i = way 0 (leaf i)
unary_operator_tree is_unary_operator.Minus i = way 1 (leaf i)
unary_operator_tree is_unary_operator.LogicalNot i = way 2 (leaf i)
unary_operator_tree is_unary_operator.Not i = way 3 (leaf i)
unary_operator_tree is_unary_operator.And i = way 4 (leaf i)
unary_operator_tree is_unary_operator.Nand i = way 5 (leaf i)
unary_operator_tree is_unary_operator.Or i = way 6 (leaf i)
unary_operator_tree is_unary_operator.Nor i = way 7 (leaf i)
unary_operator_tree is_unary_operator.Xor i = way 8 (leaf i)
unary_operator_tree is_unary_operator.TildeXnor i = way 9 (leaf i)
unary_operator_tree is_unary_operator.CaretXnor i = final 10 (leaf i)

abbrev pub binary_operator_tree : BinaryOperator → ℕ → Tree
binary_operator_tree is_binary_operator.Power i = leaf i
binary_operator_tree is_binary_operator.Times i = way 0 (leaf i)
binary_operator_tree is_binary_operator.Divide i = way 1 (leaf i)
binary_operator_tree is_binary_operator.Remainder i = final 2 (leaf i)
binary_operator_tree is_binary_operator.Plus i = left (leaf i)
binary_operator_tree is_binary_operator.Minus i = right (leaf i)
binary_operator_tree is_binary_operator.LogicalShiftLeft i = way 0 (leaf i)
binary_operator_tree is_binary_operator.LogicalShiftRight i = way 1 (leaf i)
binary_operator_tree is_binary_operator.ArithmeticShiftLeft i = way 2 (leaf i)
binary_operator_tree is_binary_operator.ArithmeticShiftRight i = final 3 (leaf i)
binary_operator_tree is_binary_operator.Less i = way 0 (leaf i)
binary_operator_tree is_binary_operator.LessEqual i = way 1 (leaf i)
binary_operator_tree is_binary_operator.Greater i = way 2 (leaf i)
binary_operator_tree is_binary_operator.GreaterEqual i = final 3 (leaf i)
binary_operator_tree is_binary_operator.Equal i = way 0 (leaf i)
binary_operator_tree is_binary_operator.NotEqual i = way 1 (leaf i)
binary_operator_tree is_binary_operator.CaseEqual i = way 2 (leaf i)
binary_operator_tree is_binary_operator.CaseNotEqual i = way 3 (leaf i)
binary_operator_tree is_binary_operator.WildcardEqual i = way 4 (leaf i)
binary_operator_tree is_binary_operator.WildcardNotEqual i = final 5 (leaf i)
binary_operator_tree is_binary_operator.And i = leaf i
binary_operator_tree is_binary_operator.Xor i = way 0 (leaf i)
binary_operator_tree is_binary_operator.TildeXnor i = way 1 (leaf i)
binary_operator_tree is_binary_operator.CaretXnor i = final 2 (leaf i)
binary_operator_tree is_binary_operator.Or i = leaf i
binary_operator_tree is_binary_operator.LogicalAnd i = leaf i
binary_operator_tree is_binary_operator.LogicalOr i = leaf i

abbrev pub implication_operator_tree : ImplicationOperator → ℕ → Tree
implication_operator_tree is_implication_operator.Implies i = left (leaf i)
implication_operator_tree is_implication_operator.Equivalent i = right (leaf i)

abbrev pub assignment_operator_tree : AssignmentOperator → ℕ → Tree
assignment_operator_tree is_assignment_operator.Assign i = way 0 (leaf i)
assignment_operator_tree is_assignment_operator.Nonblocking i = way 1 (leaf i)
assignment_operator_tree is_assignment_operator.Plus i = way 2 (leaf i)
assignment_operator_tree is_assignment_operator.Minus i = way 3 (leaf i)
assignment_operator_tree is_assignment_operator.Times i = way 4 (leaf i)
assignment_operator_tree is_assignment_operator.Divide i = way 5 (leaf i)
assignment_operator_tree is_assignment_operator.Remainder i = way 6 (leaf i)
assignment_operator_tree is_assignment_operator.And i = way 7 (leaf i)
assignment_operator_tree is_assignment_operator.Or i = way 8 (leaf i)
assignment_operator_tree is_assignment_operator.Xor i = way 9 (leaf i)
assignment_operator_tree is_assignment_operator.LogicalShiftLeft i = way 10 (leaf i)
assignment_operator_tree is_assignment_operator.LogicalShiftRight i = way 11 (leaf i)
assignment_operator_tree is_assignment_operator.ArithmeticShiftLeft i = way 12 (leaf i)
assignment_operator_tree is_assignment_operator.ArithmeticShiftRight i = final 13 (leaf i)

abbrev pub step_operator_tree : StepOperator → ℕ → Tree
step_operator_tree is_step_operator.Increment i = left (leaf i)
step_operator_tree is_step_operator.Decrement i = right (leaf i)

-- a name behind the package in front of it, where there is one: in the grammar the first identifier comes before it is known
-- whether it is a package
abbrev pub scoped_tree : Option PackageScope → ℕ → Tree
scoped_tree None name = leaf name ▸ right none
scoped_tree (Some scope) name = leaf scope.name ▸ left (leaf scope.colons ▸ leaf name)

-- the package's name
abbrev pub package_of : Option PackageScope → Option ℕ
package_of None = None
package_of (Some scope) = Some scope.name

abbrev pub scoped_name_tree : ScopedName → Tree
scoped_name_tree x = scoped_tree x.scope x.name

abbrev pub label_tree : Label → Tree
label_tree x = leaf x.colon ▸ leaf x.name

abbrev pub uniqueness_tree : Uniqueness → ℕ → Tree
uniqueness_tree is_uniqueness.Unique i = way 0 (leaf i)
uniqueness_tree is_uniqueness.Unique0 i = way 1 (leaf i)
uniqueness_tree is_uniqueness.Priority i = final 2 (leaf i)

abbrev pub case_keyword_tree : CaseKeyword → ℕ → Tree
case_keyword_tree is_case_keyword.Case i = way 0 (leaf i)
case_keyword_tree is_case_keyword.Casez i = way 1 (leaf i)
case_keyword_tree is_case_keyword.Casex i = final 2 (leaf i)

abbrev pub loop_keyword_tree : LoopKeyword → ℕ → Tree
loop_keyword_tree is_loop_keyword.While i = left (leaf i)
loop_keyword_tree is_loop_keyword.Repeat i = right (leaf i)

abbrev pub clocked_keyword_tree : ClockedKeyword → ℕ → Tree
clocked_keyword_tree is_clocked_keyword.Always i = left (leaf i)
clocked_keyword_tree is_clocked_keyword.AlwaysFf i = right (leaf i)

abbrev pub plain_keyword_tree : PlainKeyword → ℕ → Tree
plain_keyword_tree is_plain_keyword.AlwaysComb i = way 0 (leaf i)
plain_keyword_tree is_plain_keyword.AlwaysLatch i = way 1 (leaf i)
plain_keyword_tree is_plain_keyword.Initial i = final 2 (leaf i)

abbrev pub edge_tree : Edge → ℕ → Tree
edge_tree is_edge.Posedge i = way 0 (leaf i)
edge_tree is_edge.Negedge i = way 1 (leaf i)
edge_tree is_edge.Edge i = final 2 (leaf i)

abbrev pub event_separator_tree : EventSeparator → ℕ → Tree
event_separator_tree is_event_separator.Or i = left (leaf i)
event_separator_tree is_event_separator.Comma i = right (leaf i)

abbrev pub module_keyword_tree : ModuleKeyword → ℕ → Tree
module_keyword_tree is_module_keyword.Module i = left (leaf i)
module_keyword_tree is_module_keyword.Macromodule i = right (leaf i)

abbrev pub dir_tree : Dir → ℕ → Tree
dir_tree is_dir.Input i = way 0 (leaf i)
dir_tree is_dir.Output i = way 1 (leaf i)
dir_tree is_dir.Inout i = final 2 (leaf i)
