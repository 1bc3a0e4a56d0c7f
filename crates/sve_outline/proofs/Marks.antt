-- What tokens can say, read back from their trees and shown as trees.
use Rattle.std.proofs.Common.{cond, eqb, ltb, refl, ℕ, ◌-◌, ◌≡◌}
use Rattle.sve_grammar.specs.Reading.{Tree, left, none, right}
use Rattle.sve_outline.proofs.Readers.{IsMarked, alternative, numbered}
use Rattle.sve_outline.specs.Outline.{IsWhole, Outline, mark_outline, no_more, token_at, variant, ◌◂◌}
use Rattle.sve_outline.specs.Words.{assignment_operator_place, atom_keyword_place, binary_operator_place, case_keyword_place, clocked_keyword_place, dir_place, edge_place, event_separator_place, implication_operator_place, integer_keyword_place, lifetime_place, loop_keyword_place, module_keyword_place, net_place, parameter_keyword_place, plain_keyword_place, sign_place, step_operator_place, unary_operator_place, uniqueness_place, vector_keyword_place}
use Rattle.sve_tree.specs.Expressions.{level_of}
use Rattle.sve_tree.specs.Shape.{mark_tree}
use Rattle.sve_tree.specs.Words.{assignment_operator_tree, atom_keyword_tree, binary_operator_tree, case_keyword_tree, clocked_keyword_tree, dir_tree, edge_tree, event_separator_tree, implication_operator_tree, integer_keyword_tree, lifetime_tree, loop_keyword_tree, module_keyword_tree, net_tree, parameter_keyword_tree, plain_keyword_tree, sign_tree, step_operator_tree, unary_operator_tree, uniqueness_tree, vector_keyword_tree}
use Rattle.sve_tree.specs.declared.word.BinaryOperator.{BinaryOperator}
use Rattle.sve_tree.specs.declared.word.IntegerKeyword.{IntegerKeyword}
use Rattle.sve_tree.specs.declared.word.Mark.{Mark}
use Rattle.sve_tree.specs.declared.word.AssignmentOperator.TheVariants as is_assignment_operator
use Rattle.sve_tree.specs.declared.word.AtomKeyword.TheVariants as is_atom_keyword
use Rattle.sve_tree.specs.declared.word.BinaryOperator.TheVariants as is_binary_operator
use Rattle.sve_tree.specs.declared.word.CaseKeyword.TheVariants as is_case_keyword
use Rattle.sve_tree.specs.declared.word.ClockedKeyword.TheVariants as is_clocked_keyword
use Rattle.sve_bytes.specs.declared.direction.Dir.TheVariants as is_dir
use Rattle.sve_tree.specs.declared.word.Edge.TheVariants as is_edge
use Rattle.sve_tree.specs.declared.word.EventSeparator.TheVariants as is_event_separator
use Rattle.sve_tree.specs.declared.word.ImplicationOperator.TheVariants as is_implication_operator
use Rattle.sve_tree.specs.declared.word.IntegerKeyword.TheVariants as is_integer_keyword
use Rattle.sve_tree.specs.declared.word.Lifetime.TheVariants as is_lifetime
use Rattle.sve_tree.specs.declared.word.LoopKeyword.TheVariants as is_loop_keyword
use Rattle.sve_tree.specs.declared.word.ModuleKeyword.TheVariants as is_module_keyword
use Rattle.sve_tree.specs.declared.word.Net.TheVariants as is_net
use Rattle.sve_tree.specs.declared.word.ParameterKeyword.TheVariants as is_parameter_keyword
use Rattle.sve_tree.specs.declared.word.PlainKeyword.TheVariants as is_plain_keyword
use Rattle.sve_tree.specs.declared.word.Sign.TheVariants as is_sign
use Rattle.sve_tree.specs.declared.word.StepOperator.TheVariants as is_step_operator
use Rattle.sve_tree.specs.declared.word.UnaryOperator.TheVariants as is_unary_operator
use Rattle.sve_tree.specs.declared.word.Uniqueness.TheVariants as is_uniqueness
use Rattle.sve_tree.specs.declared.word.VectorKeyword.TheVariants as is_vector_keyword

pub sign_marked : IsMarked 1 sign_tree sign_place
unfolding alternative numbered
sign_marked is_sign.Signed i = (refl, refl)
sign_marked is_sign.Unsigned i = (refl, refl)

pub lifetime_marked : IsMarked 1 lifetime_tree lifetime_place
unfolding alternative numbered
lifetime_marked is_lifetime.Automatic i = (refl, refl)
lifetime_marked is_lifetime.Static i = (refl, refl)

pub net_marked : IsMarked 10 net_tree net_place
unfolding alternative numbered
net_marked is_net.Wire i = (refl, refl)
net_marked is_net.Tri i = (refl, refl)
net_marked is_net.Uwire i = (refl, refl)
net_marked is_net.Wand i = (refl, refl)
net_marked is_net.Wor i = (refl, refl)
net_marked is_net.Triand i = (refl, refl)
net_marked is_net.Trior i = (refl, refl)
net_marked is_net.Tri0 i = (refl, refl)
net_marked is_net.Tri1 i = (refl, refl)
net_marked is_net.Supply0 i = (refl, refl)
net_marked is_net.Supply1 i = (refl, refl)

pub atom_keyword_marked : IsMarked 5 atom_keyword_tree atom_keyword_place
unfolding alternative numbered
atom_keyword_marked is_atom_keyword.Byte i = (refl, refl)
atom_keyword_marked is_atom_keyword.Shortint i = (refl, refl)
atom_keyword_marked is_atom_keyword.Int i = (refl, refl)
atom_keyword_marked is_atom_keyword.Longint i = (refl, refl)
atom_keyword_marked is_atom_keyword.Integer i = (refl, refl)
atom_keyword_marked is_atom_keyword.Time i = (refl, refl)

pub vector_keyword_marked : IsMarked 2 vector_keyword_tree vector_keyword_place
unfolding alternative numbered
vector_keyword_marked is_vector_keyword.Bit i = (refl, refl)
vector_keyword_marked is_vector_keyword.Logic i = (refl, refl)
vector_keyword_marked is_vector_keyword.Reg i = (refl, refl)

pub parameter_keyword_marked : IsMarked 1 parameter_keyword_tree parameter_keyword_place
unfolding alternative numbered
parameter_keyword_marked is_parameter_keyword.Parameter i = (refl, refl)
parameter_keyword_marked is_parameter_keyword.Localparam i = (refl, refl)

pub unary_operator_marked : IsMarked 10 unary_operator_tree unary_operator_place
unfolding alternative numbered
unary_operator_marked is_unary_operator.Plus i = (refl, refl)
unary_operator_marked is_unary_operator.Minus i = (refl, refl)
unary_operator_marked is_unary_operator.LogicalNot i = (refl, refl)
unary_operator_marked is_unary_operator.Not i = (refl, refl)
unary_operator_marked is_unary_operator.And i = (refl, refl)
unary_operator_marked is_unary_operator.Nand i = (refl, refl)
unary_operator_marked is_unary_operator.Or i = (refl, refl)
unary_operator_marked is_unary_operator.Nor i = (refl, refl)
unary_operator_marked is_unary_operator.Xor i = (refl, refl)
unary_operator_marked is_unary_operator.TildeXnor i = (refl, refl)
unary_operator_marked is_unary_operator.CaretXnor i = (refl, refl)

pub implication_operator_marked : IsMarked 1 implication_operator_tree implication_operator_place
unfolding alternative numbered
implication_operator_marked is_implication_operator.Implies i = (refl, refl)
implication_operator_marked is_implication_operator.Equivalent i = (refl, refl)

pub assignment_operator_marked : IsMarked 13 assignment_operator_tree assignment_operator_place
unfolding alternative numbered
assignment_operator_marked is_assignment_operator.Assign i = (refl, refl)
assignment_operator_marked is_assignment_operator.Nonblocking i = (refl, refl)
assignment_operator_marked is_assignment_operator.Plus i = (refl, refl)
assignment_operator_marked is_assignment_operator.Minus i = (refl, refl)
assignment_operator_marked is_assignment_operator.Times i = (refl, refl)
assignment_operator_marked is_assignment_operator.Divide i = (refl, refl)
assignment_operator_marked is_assignment_operator.Remainder i = (refl, refl)
assignment_operator_marked is_assignment_operator.And i = (refl, refl)
assignment_operator_marked is_assignment_operator.Or i = (refl, refl)
assignment_operator_marked is_assignment_operator.Xor i = (refl, refl)
assignment_operator_marked is_assignment_operator.LogicalShiftLeft i = (refl, refl)
assignment_operator_marked is_assignment_operator.LogicalShiftRight i = (refl, refl)
assignment_operator_marked is_assignment_operator.ArithmeticShiftLeft i = (refl, refl)
assignment_operator_marked is_assignment_operator.ArithmeticShiftRight i = (refl, refl)

pub step_operator_marked : IsMarked 1 step_operator_tree step_operator_place
unfolding alternative numbered
step_operator_marked is_step_operator.Increment i = (refl, refl)
step_operator_marked is_step_operator.Decrement i = (refl, refl)

pub uniqueness_marked : IsMarked 2 uniqueness_tree uniqueness_place
unfolding alternative numbered
uniqueness_marked is_uniqueness.Unique i = (refl, refl)
uniqueness_marked is_uniqueness.Unique0 i = (refl, refl)
uniqueness_marked is_uniqueness.Priority i = (refl, refl)

pub case_keyword_marked : IsMarked 2 case_keyword_tree case_keyword_place
unfolding alternative numbered
case_keyword_marked is_case_keyword.Case i = (refl, refl)
case_keyword_marked is_case_keyword.Casez i = (refl, refl)
case_keyword_marked is_case_keyword.Casex i = (refl, refl)

pub loop_keyword_marked : IsMarked 1 loop_keyword_tree loop_keyword_place
unfolding alternative numbered
loop_keyword_marked is_loop_keyword.While i = (refl, refl)
loop_keyword_marked is_loop_keyword.Repeat i = (refl, refl)

pub clocked_keyword_marked : IsMarked 1 clocked_keyword_tree clocked_keyword_place
unfolding alternative numbered
clocked_keyword_marked is_clocked_keyword.Always i = (refl, refl)
clocked_keyword_marked is_clocked_keyword.AlwaysFf i = (refl, refl)

pub plain_keyword_marked : IsMarked 2 plain_keyword_tree plain_keyword_place
unfolding alternative numbered
plain_keyword_marked is_plain_keyword.AlwaysComb i = (refl, refl)
plain_keyword_marked is_plain_keyword.AlwaysLatch i = (refl, refl)
plain_keyword_marked is_plain_keyword.Initial i = (refl, refl)

pub edge_marked : IsMarked 2 edge_tree edge_place
unfolding alternative numbered
edge_marked is_edge.Posedge i = (refl, refl)
edge_marked is_edge.Negedge i = (refl, refl)
edge_marked is_edge.Edge i = (refl, refl)

pub event_separator_marked : IsMarked 1 event_separator_tree event_separator_place
unfolding alternative numbered
event_separator_marked is_event_separator.Or i = (refl, refl)
event_separator_marked is_event_separator.Comma i = (refl, refl)

pub module_keyword_marked : IsMarked 1 module_keyword_tree module_keyword_place
unfolding alternative numbered
module_keyword_marked is_module_keyword.Module i = (refl, refl)
module_keyword_marked is_module_keyword.Macromodule i = (refl, refl)

pub dir_marked : IsMarked 2 dir_tree dir_place
unfolding alternative numbered
dir_marked is_dir.Input i = (refl, refl)
dir_marked is_dir.Output i = (refl, refl)
dir_marked is_dir.Inout i = (refl, refl)

-- an integer type: those of a width of their own stand first

pub read_integer_keyword : Tree → Outline
read_integer_keyword (left t) = numbered 5 0 t
read_integer_keyword (right t) = numbered 2 6 t
read_integer_keyword t = no_more

pub integer_keyword_read : (m : Mark IntegerKeyword) → IsWhole (mark_tree integer_keyword_tree m) → read_integer_keyword (mark_tree integer_keyword_tree m) ≡ mark_outline integer_keyword_place m
unfolding alternative numbered read_integer_keyword
integer_keyword_read m w = kind_read m.kind m.token
  where
    kind_read : (k : IntegerKeyword) (i : ℕ) → read_integer_keyword (integer_keyword_tree k i) ≡ (variant (integer_keyword_place k) ◂ token_at i)
    kind_read (is_integer_keyword.Atom k) i = (atom_keyword_marked k i).0
    kind_read (is_integer_keyword.Vector is_vector_keyword.Bit) i = refl
    kind_read (is_integer_keyword.Vector is_vector_keyword.Logic) i = refl
    kind_read (is_integer_keyword.Vector is_vector_keyword.Reg) i = refl

pub written_integer_keyword : Outline → Tree
written_integer_keyword (variant place ◂ token_at i) = cond (ltb place 6) (left (alternative 5 place i)) (right (alternative 2 (place - 6) i))
written_integer_keyword o = none

pub integer_keyword_written : (m : Mark IntegerKeyword) → written_integer_keyword (mark_outline integer_keyword_place m) ≡ mark_tree integer_keyword_tree m
unfolding alternative numbered written_integer_keyword
integer_keyword_written m = kind_written m.kind m.token
  where
    kind_written : (k : IntegerKeyword) (i : ℕ) → written_integer_keyword (variant (integer_keyword_place k) ◂ token_at i) ≡ integer_keyword_tree k i
    kind_written (is_integer_keyword.Atom is_atom_keyword.Byte) i = refl
    kind_written (is_integer_keyword.Atom is_atom_keyword.Shortint) i = refl
    kind_written (is_integer_keyword.Atom is_atom_keyword.Int) i = refl
    kind_written (is_integer_keyword.Atom is_atom_keyword.Longint) i = refl
    kind_written (is_integer_keyword.Atom is_atom_keyword.Integer) i = refl
    kind_written (is_integer_keyword.Atom is_atom_keyword.Time) i = refl
    kind_written (is_integer_keyword.Vector is_vector_keyword.Bit) i = refl
    kind_written (is_integer_keyword.Vector is_vector_keyword.Logic) i = refl
    kind_written (is_integer_keyword.Vector is_vector_keyword.Reg) i = refl

-- a binary operator: each level has its own alternatives

pub level_at : ℕ → ℕ
level_at place =
    cond (ltb place 1) 1 (
    cond (ltb place 4) 2 (
    cond (ltb place 6) 3 (
    cond (ltb place 10) 4 (
    cond (ltb place 14) 5 (
    cond (ltb place 20) 6 (
    cond (ltb place 21) 7 (
    cond (ltb place 24) 8 (
    cond (ltb place 25) 9 (
    cond (ltb place 26) 10 11)))))))))

pub read_binary_operator : ℕ → Tree → Outline
read_binary_operator level t =
    cond (eqb level 1) (numbered 0 0 t) (
    cond (eqb level 2) (numbered 2 1 t) (
    cond (eqb level 3) (numbered 1 4 t) (
    cond (eqb level 4) (numbered 3 6 t) (
    cond (eqb level 5) (numbered 3 10 t) (
    cond (eqb level 6) (numbered 5 14 t) (
    cond (eqb level 7) (numbered 0 20 t) (
    cond (eqb level 8) (numbered 2 21 t) (
    cond (eqb level 9) (numbered 0 24 t) (
    cond (eqb level 10) (numbered 0 25 t) (numbered 0 26 t))))))))))

pub written_binary_operator : ℕ → ℕ → Tree
written_binary_operator place i =
    cond (ltb place 1) (alternative 0 0 i) (
    cond (ltb place 4) (alternative 2 (place - 1) i) (
    cond (ltb place 6) (alternative 1 (place - 4) i) (
    cond (ltb place 10) (alternative 3 (place - 6) i) (
    cond (ltb place 14) (alternative 3 (place - 10) i) (
    cond (ltb place 20) (alternative 5 (place - 14) i) (
    cond (ltb place 21) (alternative 0 0 i) (
    cond (ltb place 24) (alternative 2 (place - 21) i) (alternative 0 0 i))))))))

pub binary_operator_said : (k : BinaryOperator) (i : ℕ) → (level_at (binary_operator_place k) ≡ level_of k) × (read_binary_operator (level_of k) (binary_operator_tree k i) ≡ (variant (binary_operator_place k) ◂ token_at i)) × (written_binary_operator (binary_operator_place k) i ≡ binary_operator_tree k i)
unfolding alternative numbered level_at read_binary_operator written_binary_operator
binary_operator_said is_binary_operator.Power i = (refl, refl, refl)
binary_operator_said is_binary_operator.Times i = (refl, refl, refl)
binary_operator_said is_binary_operator.Divide i = (refl, refl, refl)
binary_operator_said is_binary_operator.Remainder i = (refl, refl, refl)
binary_operator_said is_binary_operator.Plus i = (refl, refl, refl)
binary_operator_said is_binary_operator.Minus i = (refl, refl, refl)
binary_operator_said is_binary_operator.LogicalShiftLeft i = (refl, refl, refl)
binary_operator_said is_binary_operator.LogicalShiftRight i = (refl, refl, refl)
binary_operator_said is_binary_operator.ArithmeticShiftLeft i = (refl, refl, refl)
binary_operator_said is_binary_operator.ArithmeticShiftRight i = (refl, refl, refl)
binary_operator_said is_binary_operator.Less i = (refl, refl, refl)
binary_operator_said is_binary_operator.LessEqual i = (refl, refl, refl)
binary_operator_said is_binary_operator.Greater i = (refl, refl, refl)
binary_operator_said is_binary_operator.GreaterEqual i = (refl, refl, refl)
binary_operator_said is_binary_operator.Equal i = (refl, refl, refl)
binary_operator_said is_binary_operator.NotEqual i = (refl, refl, refl)
binary_operator_said is_binary_operator.CaseEqual i = (refl, refl, refl)
binary_operator_said is_binary_operator.CaseNotEqual i = (refl, refl, refl)
binary_operator_said is_binary_operator.WildcardEqual i = (refl, refl, refl)
binary_operator_said is_binary_operator.WildcardNotEqual i = (refl, refl, refl)
binary_operator_said is_binary_operator.And i = (refl, refl, refl)
binary_operator_said is_binary_operator.Xor i = (refl, refl, refl)
binary_operator_said is_binary_operator.TildeXnor i = (refl, refl, refl)
binary_operator_said is_binary_operator.CaretXnor i = (refl, refl, refl)
binary_operator_said is_binary_operator.Or i = (refl, refl, refl)
binary_operator_said is_binary_operator.LogicalAnd i = (refl, refl, refl)
binary_operator_said is_binary_operator.LogicalOr i = (refl, refl, refl)
