-- Statements and functions, read back from their trees.
use Rattle.std.proofs.Common.{List, [], refl, ℕ, ◌∷◌, ◌≡◌}
use Rattle.sve_grammar.specs.Reading.{Tree, leaf, left, none, pair, right, turn}
use Rattle.sve_outline.proofs.Marks.{assignment_operator_marked, case_keyword_marked, dir_marked, lifetime_marked, loop_keyword_marked, step_operator_marked, uniqueness_marked}
use Rattle.sve_outline.proofs.ReadDeclarations.{declarators_read, parameters_read, read_declarators, read_parameters, read_typedef, read_variable_declaration, typedef_read, variable_declaration_read}
use Rattle.sve_outline.proofs.ReadExpressions.{argument_list_read, cast_read, expr_read, expression_read, parenthesized_read, read_argument_list, read_cast, read_expr, read_expression, read_parenthesized, read_select, select_read}
use Rattle.sve_outline.proofs.ReadNames.{label_read, read_label, read_scoped_name, scoped_name_read}
use Rattle.sve_outline.proofs.ReadTypes.{data_type_read, declarator_read, initializer_read, named_type_read, read_data_type, read_declarator, read_initializer, read_named_type, read_typed_name, typed_name_read}
use Rattle.sve_outline.proofs.Readers.{IsRead, items_read, list_read, mark_read, numbered, option_read, optional_row_read, read_list, read_option, read_optional_row, read_required, read_row, read_row_behind, read_separators, read_token, required_read, rest_separators, row_read, separators_read, token_read, ◌◃◌}
use Rattle.sve_outline.specs.Declarations.{initialized_declarator_outline}
use Rattle.sve_outline.specs.Outline.{IsWhole, Outline, list_outline, no_more, row_outline, token_at, variant, ◌◂◌}
use Rattle.sve_outline.specs.Statements.{block_item_outline, block_item_row_outline, case_item_outline, case_item_row_outline, change_outline, concatenation_assignment_outline, for_initialization_outline, for_step_outline, for_variable_outline, formal_direction_outline, formal_outline, formals_outline, func_outline, function_result_outline, if_statement_outline, left_concatenation_outline, left_side_outline, left_side_row_outline, name_statement_outline, named_declaration_outline, optional_else_branch_outline, return_statement_outline, statement_tail_outline, step_statement_outline, stmt_outline, system_task_outline, void_call_outline}
use Rattle.sve_outline.specs.Types.{data_type_outline, type_ref_outline}
use Rattle.sve_tree.specs.Shape.{first_of, first_tree, further_of, further_tree, others_of, others_tree, repeated_tree, required_tree, rest_tree}
use Rattle.sve_tree.specs.Statements.{block_data_tree, block_item_row, block_item_tree, case_item_tree, case_item_trees, change_tree, concatenation_assignment_tree, for_initialization_tree, for_step_tree, for_variable_tree, formal_direction_tree, formal_tree, formals_tree, func_tree, function_result_tree, if_statement_tree, left_concatenation_tree, left_side_tree, left_side_trees, local_tree, name_statement_tree, named_declaration_tree, optional_else_branch, return_statement_tree, statement_tail_tree, step_statement_tree, stmt_tree, system_task_tree, void_call_tree}
use Rattle.sve_tree.specs.Types.{data_type_tree, declarator_tree, initializer_tree}
use Rattle.sve_tree.specs.declared.data_type.TypeRef.{TypeRef}
use Rattle.sve_tree.specs.declared.declaration.InitializedDeclarator.{InitializedDeclarator}
use Rattle.sve_tree.specs.declared.row.Row.{Row}
use Rattle.sve_tree.specs.declared.statement.Block.{Row_of-BlockItem, end_of-BlockItem, more_of-BlockItem}
use Rattle.sve_tree.specs.declared.statement.BlockItem.{BlockItem}
use Rattle.sve_tree.specs.declared.statement.CaseItem.{CaseItem}
use Rattle.sve_tree.specs.declared.statement.CaseStatement.{Row_of-CaseItem, end_of-CaseItem, more_of-CaseItem}
use Rattle.sve_tree.specs.declared.statement.ForVariable.{ForVariable}
use Rattle.sve_tree.specs.declared.statement.IfStatement.{Held-IfStatement-otherwise, IfStatement, IfStatement', None', Some'}
use Rattle.sve_tree.specs.declared.statement.LeftConcatenation.{Row_of-LeftSide, end_of-LeftSide, more_of-LeftSide}
use Rattle.sve_tree.specs.declared.statement.LeftSide.{LeftSide}
use Rattle.sve_tree.specs.declared.statement.Stmt.{Stmt}
use Rattle.sve_tree.specs.declared.statement.BlockItem.TheVariants as is_block_item
use Rattle.sve_tree.specs.declared.statement.CaseItem.TheVariants as is_case_item
use Rattle.sve_tree.specs.declared.statement.Change.TheVariants as is_change
use Rattle.sve_tree.specs.declared.statement.ForInitialization.TheVariants as is_for_initialization
use Rattle.sve_tree.specs.declared.statement.ForStep.TheVariants as is_for_step
use Rattle.sve_tree.specs.declared.statement.FormalDirection.TheVariants as is_formal_direction
use Rattle.sve_tree.specs.declared.statement.FunctionResult.TheVariants as is_function_result
use Rattle.sve_tree.specs.declared.statement.LeftSide.TheVariants as is_left_side
use Rattle.sve_tree.specs.declared.statement.StatementTail.TheVariants as is_statement_tail
use Rattle.sve_tree.specs.declared.statement.Stmt.TheVariants as is_stmt
use Rattle.sve_tree.specs.declared.data_type.TypeRef.TheVariants as is_type_ref

mutual
  pub read_left_side : Tree → Outline
  read_left_side (left (pair (leaf name) selects)) = variant 0 ◂ token_at name ◂ read_list read_select selects
  read_left_side (right (pair (leaf opening) (pair first (pair others (leaf closing))))) = variant 1 ◂ token_at opening ◂ ((read_left_side first ◂ read_left_side_rest others) ◂ read_separators read_token others) ◂ token_at closing
  read_left_side t = no_more

  pub read_left_side_rest : Tree → Outline
  read_left_side_rest (turn (pair separator item) rest) = read_left_side item ◂ read_left_side_rest rest
  read_left_side_rest t = no_more

mutual
  unfolding left_side_tree left_side_outline read_left_side first_tree others_tree further_tree rest_tree repeated_tree

  pub left_side_read : (x : LeftSide) → IsWhole (left_side_tree x) → read_left_side (left_side_tree x) ≡ left_side_outline x
  left_side_read (is_left_side.Name name selects) w = refl ◃ refl ◃ list_read _ _ _ select_read selects.items w.1
  left_side_read (is_left_side.Concatenation' opening _ sides commas closing) w = refl ◃ refl ◃ (left_side_row_read sides commas.items w.1.0 w.1.1.0 ◃ separators_read _ _ _ _ token_read (left_side_trees sides) commas.items w.1.1.0) ◃ refl

  pub left_side_row_read : {n : _} (row : Row_of-LeftSide n) (ss : List ℕ) → IsWhole (first_of (left_side_trees row)) → IsWhole (further_of (left_side_trees row) ss) → (read_left_side (first_of (left_side_trees row)) ◂ read_left_side_rest (further_of (left_side_trees row) ss)) ≡ left_side_row_outline row
  left_side_row_read end_of-LeftSide ss w v = absurd w.2
  left_side_row_read (more_of-LeftSide side rest) ss w v = left_side_read side w ◃ left_side_rest_read rest ss v

  pub left_side_rest_read : {n : _} (row : Row_of-LeftSide n) (ss : List ℕ) → IsWhole (rest_tree (λ (t : Tree). t) leaf (left_side_trees row) ss) → read_left_side_rest (rest_tree (λ (t : Tree). t) leaf (left_side_trees row) ss) ≡ left_side_row_outline row
  left_side_rest_read end_of-LeftSide [] w = refl
  left_side_rest_read end_of-LeftSide (s ∷ ss) w = absurd w.2
  left_side_rest_read (more_of-LeftSide side rest) [] w = absurd w.2
  left_side_rest_read (more_of-LeftSide side rest) (s ∷ ss) w = left_side_read side w.0.1 ◃ left_side_rest_read rest ss w.1

pub read_left_concatenation : Tree → Outline
read_left_concatenation (pair (leaf opening) (pair first (pair others (leaf closing)))) = token_at opening ◂ read_row read_left_side read_token first others ◂ token_at closing
read_left_concatenation t = no_more

pub left_concatenation_read : IsRead left_concatenation_tree left_concatenation_outline read_left_concatenation
unfolding read_left_concatenation
left_concatenation_read x w = refl ◃ row_read _ _ read_left_side _ _ read_token left_side_read token_read x.sides w.1.0 w.1.1.0 ◃ refl

pub read_change : Tree → Outline
read_change (left (pair operator value)) = variant 0 ◂ numbered 13 0 operator ◂ read_expr 13 value
read_change (right operator) = variant 1 ◂ numbered 1 0 operator
read_change t = no_more

pub change_read : IsRead change_tree change_outline read_change
unfolding read_change
change_read (is_change.Assign operator value) w = refl ◃ mark_read _ _ _ assignment_operator_marked operator w.0 ◃ expr_read 13 value.value w.1
change_read (is_change.Step operator) w = refl ◃ mark_read _ _ _ step_operator_marked operator w

pub read_statement_tail : Tree → Outline
read_statement_tail (left (pair operator value)) = variant 0 ◂ numbered 13 0 operator ◂ read_expr 13 value
read_statement_tail (right (left operator)) = variant 1 ◂ numbered 1 0 operator
read_statement_tail (right (right arguments)) = variant 2 ◂ read_argument_list arguments
read_statement_tail t = no_more

pub statement_tail_read : IsRead statement_tail_tree statement_tail_outline read_statement_tail
unfolding read_statement_tail
statement_tail_read (is_statement_tail.Assign operator value) w = refl ◃ mark_read _ _ _ assignment_operator_marked operator w.0 ◃ expr_read 13 value.value w.1
statement_tail_read (is_statement_tail.Step operator) w = refl ◃ mark_read _ _ _ step_operator_marked operator w
statement_tail_read (is_statement_tail.Call arguments) w = refl ◃ argument_list_read arguments w

-- of a declaration behind a lifetime: its type, and its names
pub read_local_type : Tree → Outline
read_local_type (left (pair data_type names)) = variant 0 ◂ read_data_type data_type
read_local_type (right (pair named names)) = variant 1 ◂ read_named_type named
read_local_type t = no_more

pub read_local_names : Tree → Outline
read_local_names (left (pair data_type (pair first (pair value others)))) = read_declarators (read_declarator first) value others
read_local_names (right (pair named (pair first (pair value others)))) = read_declarators (read_declarator first) value others
read_local_names t = no_more

local_read : (t : TypeRef) (row : Row InitializedDeclarator ℕ) → IsWhole (local_tree t row) → (read_local_type (local_tree t row) ≡ type_ref_outline t) × (read_local_names (local_tree t row) ≡ row_outline initialized_declarator_outline token_at row)
unfolding data_type_outline read_local_type read_local_names
local_read (is_type_ref.Written data_type) row w = (refl ◃ data_type_read data_type w.0, declarators_read row w.1.0 w.1.1)
local_read (is_type_ref.Named named) row w = (refl ◃ named_type_read named w.0, declarators_read row w.1.0 w.1.1)

pub read_named_declaration : Tree → Outline
read_named_declaration (pair name (pair selects (pair (right (pair first (pair value others))) (leaf semicolon)))) = read_scoped_name name ◂ read_list read_select selects ◂ read_declarators (read_declarator first) value others ◂ token_at semicolon
read_named_declaration t = no_more

pub named_declaration_read : IsRead named_declaration_tree named_declaration_outline read_named_declaration
unfolding read_named_declaration
named_declaration_read x w = scoped_name_read x.name w.0 ◃ list_read _ _ _ select_read x.selects.items w.1.0 ◃ declarators_read x.declarators w.1.1.0.0 w.1.1.0.1 ◃ refl

pub read_for_variable : Tree → Outline
read_for_variable (pair data_type (pair declarator value)) = read_option read_data_type data_type ◂ read_declarator declarator ◂ read_initializer value
read_for_variable t = no_more

pub for_variable_read : IsRead for_variable_tree for_variable_outline read_for_variable
unfolding read_for_variable
for_variable_read x w = option_read _ _ _ data_type_read x.data_type w.0 ◃ declarator_read x.declarator w.1.0 ◃ initializer_read x.value w.1.1

variables_read : (vs : List ForVariable) (ss : List ℕ) → IsWhole (first_tree (λ (v : ForVariable). required_tree data_type_tree v.data_type) vs) → IsWhole (first_tree (λ (v : ForVariable). declarator_tree v.declarator) vs) → IsWhole (first_tree (λ (v : ForVariable). initializer_tree v.value) vs) → IsWhole (further_tree for_variable_tree leaf vs ss) → read_row_behind (read_required read_data_type (first_tree (λ (v : ForVariable). required_tree data_type_tree v.data_type) vs) ◂ read_declarator (first_tree (λ (v : ForVariable). declarator_tree v.declarator) vs) ◂ read_initializer (first_tree (λ (v : ForVariable). initializer_tree v.value) vs)) read_for_variable read_token (further_tree for_variable_tree leaf vs ss) ≡ (list_outline for_variable_outline vs ◂ list_outline token_at ss)
unfolding first_tree further_tree list_outline
variables_read [] ss a b c d = absurd d.2
variables_read (v ∷ vs) ss a b c d = ((required_read _ _ _ data_type_read v.data_type a ◃ declarator_read v.declarator b ◃ initializer_read v.value c) ◃ items_read _ _ _ _ for_variable_read vs ss d) ◃ rest_separators _ _ _ _ token_read vs ss d

pub read_for_initialization : Tree → Outline
read_for_initialization (left (pair data_type (pair declarator (pair value others)))) = variant 0 ◂ read_row_behind (read_required read_data_type data_type ◂ read_declarator declarator ◂ read_initializer value) read_for_variable read_token others
read_for_initialization (right (pair name (pair selects (left (pair operator value))))) = variant 1 ◂ read_scoped_name name ◂ read_list read_select selects ◂ numbered 13 0 operator ◂ read_expr 13 value
read_for_initialization (right (pair name (pair selects (right (pair declarator value))))) = variant 2 ◂ read_scoped_name name ◂ read_list read_select selects ◂ read_declarator declarator ◂ read_initializer value
read_for_initialization t = no_more

pub for_initialization_read : IsRead for_initialization_tree for_initialization_outline read_for_initialization
unfolding read_for_initialization
for_initialization_read (is_for_initialization.Declared variables) w = refl ◃ variables_read variables.items.items variables.separators.items w.0 w.1.0 w.1.1.0 w.1.1.1
for_initialization_read (is_for_initialization.Assigned name selects operator value) w = refl ◃ scoped_name_read name w.0 ◃ list_read _ _ _ select_read selects.items w.1.0 ◃ mark_read _ _ _ assignment_operator_marked operator w.1.1.0 ◃ expr_read 13 value.value w.1.1.1
for_initialization_read (is_for_initialization.NamedType name selects declarator value) w = refl ◃ scoped_name_read name w.0 ◃ list_read _ _ _ select_read selects.items w.1.0 ◃ declarator_read declarator w.1.1.0 ◃ initializer_read value w.1.1.1

pub read_for_step : Tree → Outline
read_for_step (left (pair operator (pair (leaf name) selects))) = variant 0 ◂ numbered 1 0 operator ◂ token_at name ◂ read_list read_select selects
read_for_step (right (pair (leaf name) (pair selects change))) = variant 1 ◂ token_at name ◂ read_list read_select selects ◂ read_change change
read_for_step t = no_more

pub for_step_read : IsRead for_step_tree for_step_outline read_for_step
unfolding read_for_step
for_step_read (is_for_step.Before operator name selects) w = refl ◃ mark_read _ _ _ step_operator_marked operator w.0 ◃ refl ◃ list_read _ _ _ select_read selects.items w.1.1
for_step_read (is_for_step.Change name selects change) w = refl ◃ refl ◃ list_read _ _ _ select_read selects.items w.1.0 ◃ change_read change w.1.1

pub read_return_statement : Tree → Outline
read_return_statement (pair (leaf keyword) (pair value (leaf semicolon))) = token_at keyword ◂ read_option read_expression value ◂ token_at semicolon
read_return_statement t = no_more

pub return_statement_read : IsRead return_statement_tree return_statement_outline read_return_statement
unfolding read_return_statement
return_statement_read x w = refl ◃ option_read _ _ _ expression_read x.value w.1.0 ◃ refl

pub read_system_task : Tree → Outline
read_system_task (pair (leaf name) (pair arguments (leaf semicolon))) = token_at name ◂ read_option read_argument_list arguments ◂ token_at semicolon
read_system_task t = no_more

pub system_task_read : IsRead system_task_tree system_task_outline read_system_task
unfolding read_system_task
system_task_read x w = refl ◃ option_read _ _ _ argument_list_read x.arguments w.1.0 ◃ refl

pub read_void_call : Tree → Outline
read_void_call (pair (leaf keyword) (pair cast (leaf semicolon))) = token_at keyword ◂ read_cast cast ◂ token_at semicolon
read_void_call t = no_more

pub void_call_read : IsRead void_call_tree void_call_outline read_void_call
unfolding read_void_call
void_call_read x w = refl ◃ cast_read x.cast w.1.0 ◃ refl

pub read_step_statement : Tree → Outline
read_step_statement (pair operator (pair (leaf name) (pair selects (leaf semicolon)))) = numbered 1 0 operator ◂ token_at name ◂ read_list read_select selects ◂ token_at semicolon
read_step_statement t = no_more

pub step_statement_read : IsRead step_statement_tree step_statement_outline read_step_statement
unfolding read_step_statement
step_statement_read x w = mark_read _ _ _ step_operator_marked x.operator w.0 ◃ refl ◃ list_read _ _ _ select_read x.selects.items w.1.1.0 ◃ refl

pub read_concatenation_assignment : Tree → Outline
read_concatenation_assignment (pair l (pair operator (pair value (leaf semicolon)))) = read_left_concatenation l ◂ numbered 13 0 operator ◂ read_expr 13 value ◂ token_at semicolon
read_concatenation_assignment t = no_more

pub concatenation_assignment_read : IsRead concatenation_assignment_tree concatenation_assignment_outline read_concatenation_assignment
unfolding read_concatenation_assignment
concatenation_assignment_read x w = left_concatenation_read x.left w.0 ◃ mark_read _ _ _ assignment_operator_marked x.operator w.1.0 ◃ expr_read 13 x.value.value w.1.1.0 ◃ refl

pub read_name_statement : Tree → Outline
read_name_statement (pair name (pair selects (pair tail (leaf semicolon)))) = read_scoped_name name ◂ read_list read_select selects ◂ read_statement_tail tail ◂ token_at semicolon
read_name_statement t = no_more

pub name_statement_read : IsRead name_statement_tree name_statement_outline read_name_statement
unfolding read_name_statement
name_statement_read x w = scoped_name_read x.name w.0 ◃ list_read _ _ _ select_read x.selects.items w.1.0 ◃ statement_tail_read x.tail w.1.1.0 ◃ refl

mutual
  pub read_stmt : Tree → Outline
  read_stmt (left (leaf semicolon)) = variant 0 ◂ token_at semicolon
  read_stmt (right (left (pair (leaf begin) (pair label (pair items (pair (leaf end) end_label)))))) = variant 1 ◂ token_at begin ◂ read_option read_label label ◂ read_block_item_row items ◂ token_at end ◂ read_option read_label end_label
  read_stmt (right (right (left (pair uniqueness (left statement))))) = variant 2 ◂ read_option (numbered 2 0) uniqueness ◂ read_if_statement statement
  read_stmt (right (right (left (pair uniqueness (right (pair keyword (pair selector (pair first (pair others (leaf end)))))))))) = variant 3 ◂ read_option (numbered 2 0) uniqueness ◂ numbered 2 0 keyword ◂ read_parenthesized selector ◂ (read_case_item first ◂ read_case_item_rest others) ◂ token_at end
  read_stmt (right (right (right (left (pair (leaf keyword) (pair (leaf opening) (pair initialization (pair (leaf first_semicolon) (pair condition (pair (leaf second_semicolon) (pair steps (pair (leaf closing) body)))))))))))) = variant 4 ◂ token_at keyword ◂ token_at opening ◂ read_for_initialization initialization ◂ token_at first_semicolon ◂ read_option read_expression condition ◂ token_at second_semicolon ◂ read_optional_row read_for_step read_token steps ◂ token_at closing ◂ read_stmt body
  read_stmt (right (right (right (right (left (pair (leaf keyword) (pair (leaf opening) (pair (leaf array) (pair (leaf opening_bracket) (pair first (pair others (pair (leaf closing_bracket) (pair (leaf closing) body))))))))))))) = variant 5 ◂ token_at keyword ◂ token_at opening ◂ token_at array ◂ token_at opening_bracket ◂ read_row read_token read_token first others ◂ token_at closing_bracket ◂ token_at closing ◂ read_stmt body
  read_stmt (right (right (right (right (right (left (pair keyword (pair condition body)))))))) = variant 6 ◂ numbered 1 0 keyword ◂ read_parenthesized condition ◂ read_stmt body
  read_stmt (right (right (right (right (right (right (left (pair (leaf keyword) (pair body (pair (leaf while_keyword) (pair condition (leaf semicolon)))))))))))) = variant 7 ◂ token_at keyword ◂ read_stmt body ◂ token_at while_keyword ◂ read_parenthesized condition ◂ token_at semicolon
  read_stmt (right (right (right (right (right (right (right (left statement)))))))) = variant 8 ◂ read_return_statement statement
  read_stmt (right (right (right (right (right (right (right (right (left (pair (leaf keyword) (leaf semicolon))))))))))) = variant 9 ◂ token_at keyword ◂ token_at semicolon
  read_stmt (right (right (right (right (right (right (right (right (right (left (pair (leaf keyword) (leaf semicolon)))))))))))) = variant 10 ◂ token_at keyword ◂ token_at semicolon
  read_stmt (right (right (right (right (right (right (right (right (right (right (left task))))))))))) = variant 11 ◂ read_system_task task
  read_stmt (right (right (right (right (right (right (right (right (right (right (right (left call)))))))))))) = variant 12 ◂ read_void_call call
  read_stmt (right (right (right (right (right (right (right (right (right (right (right (right (left statement))))))))))))) = variant 13 ◂ read_step_statement statement
  read_stmt (right (right (right (right (right (right (right (right (right (right (right (right (right (left assignment)))))))))))))) = variant 14 ◂ read_concatenation_assignment assignment
  read_stmt (right (right (right (right (right (right (right (right (right (right (right (right (right (right statement)))))))))))))) = variant 15 ◂ read_name_statement statement
  read_stmt t = no_more

  pub read_block_item : Tree → Outline
  read_block_item (left (pair lifetime (pair declaration (leaf semicolon)))) = variant 0 ◂ numbered 1 0 lifetime ◂ read_local_type declaration ◂ read_local_names declaration ◂ token_at semicolon
  read_block_item (right (left declaration)) = variant 1 ◂ read_variable_declaration declaration
  read_block_item (right (right (left (pair data_type (pair first (pair (pair value others) (leaf semicolon))))))) = variant 2 ◂ (variant 0 ◂ read_data_type data_type) ◂ read_declarators (read_declarator first) value others ◂ token_at semicolon
  read_block_item (right (right (right (left declaration)))) = variant 3 ◂ read_parameters declaration
  read_block_item (right (right (right (right (left declaration))))) = variant 4 ◂ read_typedef declaration
  read_block_item (right (right (right (right (right (left (pair statement_name (pair statement_selects (pair (left statement_tail) (leaf statement_semicolon)))))))))) = variant 6 ◂ read_scoped_name statement_name ◂ read_list read_select statement_selects ◂ read_statement_tail statement_tail ◂ token_at statement_semicolon
  read_block_item (right (right (right (right (right (left declaration)))))) = variant 5 ◂ read_named_declaration declaration
  read_block_item (right (right (right (right (right (right statement)))))) = variant 7 ◂ read_stmt statement
  read_block_item t = no_more

  pub read_if_statement : Tree → Outline
  read_if_statement (pair (leaf keyword) (pair condition (pair chosen otherwise))) = token_at keyword ◂ read_parenthesized condition ◂ read_stmt chosen ◂ read_optional_else_branch otherwise
  read_if_statement t = no_more

  pub read_case_item : Tree → Outline
  read_case_item (left (pair (leaf keyword) (pair colon statement))) = variant 0 ◂ token_at keyword ◂ read_option read_token colon ◂ read_stmt statement
  read_case_item (right (pair first (pair others (pair (leaf colon) statement)))) = variant 1 ◂ read_row (read_expr 13) read_token first others ◂ token_at colon ◂ read_stmt statement
  read_case_item t = no_more

  pub read_optional_else_branch : Tree → Outline
  read_optional_else_branch (right none) = variant 0
  read_optional_else_branch (left (pair (leaf keyword) statement)) = variant 1 ◂ token_at keyword ◂ read_stmt statement
  read_optional_else_branch t = no_more

  pub read_block_item_row : Tree → Outline
  read_block_item_row (turn block_item rest) = read_block_item block_item ◂ read_block_item_row rest
  read_block_item_row t = no_more

  pub read_case_item_rest : Tree → Outline
  read_case_item_rest (turn item rest) = read_case_item item ◂ read_case_item_rest rest
  read_case_item_rest t = no_more

block_data_read : (t : TypeRef) (row : Row InitializedDeclarator ℕ) (i : ℕ) → IsWhole (block_data_tree t row i) → read_block_item (block_data_tree t row i) ≡ (variant 2 ◂ type_ref_outline t ◂ row_outline initialized_declarator_outline token_at row ◂ token_at i)
unfolding data_type_outline read_stmt
block_data_read (is_type_ref.Written data_type) row i w = refl ◃ (refl ◃ data_type_read data_type w.0) ◃ declarators_read row w.1.0 w.1.1.0 ◃ refl
block_data_read (is_type_ref.Named named) row i w = absurd w.2

mutual
  unfolding stmt_tree stmt_outline read_stmt first_tree others_tree further_tree rest_tree repeated_tree

  pub stmt_read : (x : Stmt) → IsWhole (stmt_tree x) → read_stmt (stmt_tree x) ≡ stmt_outline x
  stmt_read (is_stmt.Empty semicolon) w = refl
  stmt_read (is_stmt.Block' _ begin label _ items end end_label) w = refl ◃ refl ◃ option_read _ _ _ label_read label w.1.0 ◃ block_item_row_read items w.1.1.0 ◃ refl ◃ option_read _ _ _ label_read end_label w.1.1.1.1
  stmt_read (is_stmt.If' uniqueness _ statement) w = refl ◃ option_read _ _ _ (mark_read _ _ _ uniqueness_marked) uniqueness w.0 ◃ if_statement_read statement w.1
  stmt_read (is_stmt.Case' uniqueness _ keyword selector _ items end) w = refl ◃ option_read _ _ _ (mark_read _ _ _ uniqueness_marked) uniqueness w.0 ◃ mark_read _ _ _ case_keyword_marked keyword w.1.0 ◃ parenthesized_read selector w.1.1.0 ◃ case_item_row_read items w.1.1.1.0 w.1.1.1.1.0 ◃ refl
  stmt_read (is_stmt.For' _ keyword opening initialization first_semicolon condition second_semicolon steps closing _ body) w = refl ◃ refl ◃ refl ◃ for_initialization_read initialization w.1.1.0 ◃ refl ◃ option_read _ _ _ expression_read condition w.1.1.1.1.0 ◃ refl ◃ optional_row_read _ _ _ _ _ _ for_step_read token_read steps w.1.1.1.1.1.1.0 ◃ refl ◃ stmt_read body w.1.1.1.1.1.1.1.1
  stmt_read (is_stmt.Foreach' _ keyword opening array opening_bracket names closing_bracket closing _ body) w = refl ◃ refl ◃ refl ◃ refl ◃ refl ◃ row_read _ _ read_token _ _ read_token token_read token_read names w.1.1.1.1.0 w.1.1.1.1.1.0 ◃ refl ◃ refl ◃ stmt_read body w.1.1.1.1.1.1.1.1
  stmt_read (is_stmt.Loop' _ keyword condition _ body) w = refl ◃ mark_read _ _ _ loop_keyword_marked keyword w.0 ◃ parenthesized_read condition w.1.0 ◃ stmt_read body w.1.1
  stmt_read (is_stmt.Do' _ keyword _ body while_keyword condition semicolon) w = refl ◃ refl ◃ stmt_read body w.1.0 ◃ refl ◃ parenthesized_read condition w.1.1.1.0 ◃ refl
  stmt_read (is_stmt.Return statement) w = refl ◃ return_statement_read statement.value w
  stmt_read (is_stmt.Break keyword semicolon) w = refl
  stmt_read (is_stmt.Continue keyword semicolon) w = refl
  stmt_read (is_stmt.SystemTask task) w = refl ◃ system_task_read task.value w
  stmt_read (is_stmt.VoidCall call) w = refl ◃ void_call_read call.value w
  stmt_read (is_stmt.Step statement) w = refl ◃ step_statement_read statement.value w
  stmt_read (is_stmt.Concatenation assignment) w = refl ◃ concatenation_assignment_read assignment.value w
  stmt_read (is_stmt.Name statement) w = refl ◃ name_statement_read statement.value w

  pub block_item_read : (x : BlockItem) → IsWhole (block_item_tree x) → read_block_item (block_item_tree x) ≡ block_item_outline x
  block_item_read (is_block_item.Local lifetime declaration) w = let h = local_read declaration.value.data_type declaration.value.declarators w.1.0 in refl ◃ mark_read _ _ _ lifetime_marked lifetime w.0 ◃ h.0 ◃ h.1 ◃ refl
  block_item_read (is_block_item.Variable declaration) w = refl ◃ variable_declaration_read declaration.value w
  block_item_read (is_block_item.Data declaration) w = block_data_read declaration.value.data_type declaration.value.declarators declaration.value.semicolon w
  block_item_read (is_block_item.Parameters declaration) w = refl ◃ parameters_read declaration.value w
  block_item_read (is_block_item.Typedef declaration) w = refl ◃ typedef_read declaration.value w
  block_item_read (is_block_item.NamedData declaration) w = refl ◃ named_declaration_read declaration.value w
  block_item_read (is_block_item.Name statement) w = refl ◃ scoped_name_read statement.value.name w.0 ◃ list_read _ _ _ select_read statement.value.selects.items w.1.0 ◃ statement_tail_read statement.value.tail w.1.1.0 ◃ refl
  block_item_read (is_block_item.Statement statement) w = refl ◃ stmt_read statement w

  pub if_statement_read : (x : IfStatement) → IsWhole (if_statement_tree x) → read_if_statement (if_statement_tree x) ≡ if_statement_outline x
  if_statement_read (IfStatement' keyword condition _ chosen otherwise) w = refl ◃ parenthesized_read condition w.1.0 ◃ stmt_read chosen w.1.1.0 ◃ optional_else_branch_read otherwise w.1.1.1

  pub case_item_read : (x : CaseItem) → IsWhole (case_item_tree x) → read_case_item (case_item_tree x) ≡ case_item_outline x
  case_item_read (is_case_item.Default' keyword colon _ statement) w = refl ◃ refl ◃ option_read _ _ _ token_read colon w.1.0 ◃ stmt_read statement w.1.1
  case_item_read (is_case_item.Labels' labels colon _ statement) w = refl ◃ row_read _ _ (read_expr 13) _ _ read_token (expr_read 13) token_read labels w.0 w.1.0 ◃ refl ◃ stmt_read statement w.1.1.1

  pub optional_else_branch_read : (x : Held-IfStatement-otherwise) → IsWhole (optional_else_branch x) → read_optional_else_branch (optional_else_branch x) ≡ optional_else_branch_outline x
  optional_else_branch_read None' w = refl
  optional_else_branch_read (Some' keyword _ statement) w = refl ◃ refl ◃ stmt_read statement w.1

  pub block_item_row_read : {n : _} (row : Row_of-BlockItem n) → IsWhole (block_item_row row) → read_block_item_row (block_item_row row) ≡ block_item_row_outline row
  block_item_row_read end_of-BlockItem w = refl
  block_item_row_read (more_of-BlockItem block_item rest) w = block_item_read block_item w.0 ◃ block_item_row_read rest w.1

  pub case_item_row_read : {n : _} (row : Row_of-CaseItem n) → IsWhole (first_of (case_item_trees row)) → IsWhole (others_of (case_item_trees row)) → (read_case_item (first_of (case_item_trees row)) ◂ read_case_item_rest (others_of (case_item_trees row))) ≡ case_item_row_outline row
  case_item_row_read end_of-CaseItem w v = absurd w.2
  case_item_row_read (more_of-CaseItem case_item rest) w v = case_item_read case_item w ◃ case_item_rest_read rest v

  pub case_item_rest_read : {n : _} (row : Row_of-CaseItem n) → IsWhole (repeated_tree (λ (t : Tree). t) (case_item_trees row)) → read_case_item_rest (repeated_tree (λ (t : Tree). t) (case_item_trees row)) ≡ case_item_row_outline row
  case_item_rest_read end_of-CaseItem w = refl
  case_item_rest_read (more_of-CaseItem case_item rest) w = case_item_read case_item w.0 ◃ case_item_rest_read rest w.1

pub read_function_result : Tree → Outline
read_function_result (left (pair (leaf keyword) (leaf name))) = variant 0 ◂ token_at keyword ◂ token_at name
read_function_result (right result) = variant 1 ◂ read_typed_name result
read_function_result t = no_more

pub function_result_read : IsRead function_result_tree function_result_outline read_function_result
unfolding read_function_result
function_result_read (is_function_result.Void keyword name) w = refl
function_result_read (is_function_result.Typed result) w = refl ◃ typed_name_read result w

pub read_formal_direction : Tree → Outline
read_formal_direction (left direction) = variant 0 ◂ numbered 2 0 direction
read_formal_direction (right (leaf keyword)) = variant 1 ◂ token_at keyword
read_formal_direction t = no_more

pub formal_direction_read : IsRead formal_direction_tree formal_direction_outline read_formal_direction
unfolding read_formal_direction
formal_direction_read (is_formal_direction.Value direction) w = refl ◃ mark_read _ _ _ dir_marked direction w
formal_direction_read (is_formal_direction.Reference keyword) w = refl

pub read_formal : Tree → Outline
read_formal (pair direction (pair variable parameter)) = read_option read_formal_direction direction ◂ read_option read_token variable ◂ read_typed_name parameter
read_formal t = no_more

pub formal_read : IsRead formal_tree formal_outline read_formal
unfolding read_formal
formal_read x w = option_read _ _ _ formal_direction_read x.direction w.0 ◃ option_read _ _ _ token_read x.variable w.1.0 ◃ typed_name_read x.parameter w.1.1

pub read_formals : Tree → Outline
read_formals (pair (leaf opening) (pair formals (leaf closing))) = token_at opening ◂ read_optional_row read_formal read_token formals ◂ token_at closing
read_formals t = no_more

pub formals_read : IsRead formals_tree formals_outline read_formals
unfolding read_formals
formals_read x w = refl ◃ optional_row_read _ _ _ _ _ _ formal_read token_read x.formals w.1.0 ◃ refl

pub read_func : Tree → Outline
read_func (pair (leaf keyword) (pair lifetime (pair result_type (pair formals (pair (leaf semicolon) (pair items (pair (leaf end) label))))))) = token_at keyword ◂ read_option (numbered 1 0) lifetime ◂ read_function_result result_type ◂ read_option read_formals formals ◂ token_at semicolon ◂ read_list read_block_item items ◂ token_at end ◂ read_option read_label label
read_func t = no_more

pub func_read : IsRead func_tree func_outline read_func
unfolding read_func
func_read x w = refl ◃ option_read _ _ _ (mark_read _ _ _ lifetime_marked) x.lifetime w.1.0 ◃ function_result_read x.result_type w.1.1.0 ◃ option_read _ _ _ formals_read x.formals w.1.1.1.0 ◃ refl ◃ list_read _ _ _ block_item_read x.items.items w.1.1.1.1.1.0 ◃ refl ◃ option_read _ _ _ label_read x.label w.1.1.1.1.1.1.1
