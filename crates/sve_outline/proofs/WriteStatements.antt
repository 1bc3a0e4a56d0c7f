-- Statements and functions, shown as trees from what they say.
use Rattle.std.proofs.Common.{List, [], ap, refl, suc, zero, ℕ, ◌∷◌, ◌≡◌}
use Rattle.sve_grammar.specs.Reading.{Tree, ended, leaf, left, none, right, turn}
use Rattle.sve_outline.proofs.Marks.{assignment_operator_marked, case_keyword_marked, dir_marked, lifetime_marked, loop_keyword_marked, step_operator_marked, uniqueness_marked}
use Rattle.sve_outline.proofs.WriteDeclarations.{declaration_end_written, first_declarator_written, parameters_written, typedef_written, variable_declaration_written, written_declaration_end, written_parameters, written_typedef, written_variable_declaration}
use Rattle.sve_outline.proofs.WriteExpressions.{argument_list_written, cast_written, expr_written, expression_written, parenthesized_written, select_written, written_argument_list, written_at, written_cast, written_expression, written_parenthesized, written_select}
use Rattle.sve_outline.proofs.WriteNames.{label_written, scoped_name_written, written_label, written_scoped_name}
use Rattle.sve_outline.proofs.WriteTypes.{data_type_written, declarator_written, initializer_written, named_type_written, typed_name_written, written_data_type, written_declarator, written_initializer, written_named_type, written_typed_name}
use Rattle.sve_outline.proofs.Writers.{IsWritten, cons_alike, further_alike, list_written, mark_written, option_written, optional_row_written, required_written, row_first_written, row_rest_written, said_tokens, token_written, tokens_said, turn_alike, written_head, written_list, written_mark, written_option, written_optional_row, written_required, written_row_first, written_row_rest, written_tail, written_token, ◌◇◌}
use Rattle.sve_outline.specs.Declarations.{initialized_declarator_outline}
use Rattle.sve_outline.specs.Outline.{Outline, row_outline, token_at, variant, ◌◂◌}
use Rattle.sve_outline.specs.Statements.{block_item_outline, block_item_row_outline, case_item_outline, case_item_row_outline, change_outline, concatenation_assignment_outline, for_initialization_outline, for_step_outline, for_variable_outline, formal_direction_outline, formal_outline, formals_outline, func_outline, function_result_outline, if_statement_outline, left_concatenation_outline, left_side_outline, left_side_row_outline, name_statement_outline, named_declaration_outline, optional_else_branch_outline, return_statement_outline, statement_tail_outline, step_statement_outline, stmt_outline, system_task_outline, void_call_outline}
use Rattle.sve_outline.specs.Types.{data_type_outline, type_ref_outline}
use Rattle.sve_tree.specs.Shape.{final, first_of, further_of, misplaced, others_of, way, ◌▸◌}
use Rattle.sve_tree.specs.Statements.{block_data_tree, block_item_row, block_item_tree, case_item_tree, case_item_trees, change_tree, concatenation_assignment_tree, for_initialization_tree, for_step_tree, for_variable_tree, formal_direction_tree, formal_tree, formals_tree, func_tree, function_result_tree, if_statement_tree, left_concatenation_tree, left_side_tree, left_side_trees, local_tree, name_statement_tree, named_declaration_tree, optional_else_branch, return_statement_tree, statement_tail_tree, step_statement_tree, stmt_tree, system_task_tree, void_call_tree}
use Rattle.sve_tree.specs.declared.data_type.TypeRef.{TypeRef}
use Rattle.sve_tree.specs.declared.declaration.InitializedDeclarator.{InitializedDeclarator}
use Rattle.sve_tree.specs.declared.row.Row.{Row}
use Rattle.sve_tree.specs.declared.statement.Block.{Row_of-BlockItem, end_of-BlockItem, more_of-BlockItem}
use Rattle.sve_tree.specs.declared.statement.BlockItem.{BlockItem}
use Rattle.sve_tree.specs.declared.statement.CaseItem.{CaseItem}
use Rattle.sve_tree.specs.declared.statement.CaseStatement.{Row_of-CaseItem, end_of-CaseItem, more_of-CaseItem}
use Rattle.sve_tree.specs.declared.statement.ForVariable.{ForVariable}
use Rattle.sve_tree.specs.declared.statement.IfStatement.{Held-IfStatement-otherwise, IfStatement, IfStatement', None', Some'}
use Rattle.sve_tree.specs.declared.statement.LeftConcatenation.{Row_of-LeftSide, end_of-LeftSide, more_of-LeftSide}
use Rattle.sve_tree.specs.declared.statement.LeftSide.{LeftSide}
use Rattle.sve_tree.specs.declared.statement.Stmt.{Stmt}
use Rattle.sve_tree.specs.declared.statement.BlockItem.TheVariants as is_block_item
use Rattle.sve_tree.specs.declared.statement.CaseItem.TheVariants as is_case_item
use Rattle.sve_tree.specs.declared.statement.Change.TheVariants as is_change
use Rattle.sve_tree.specs.declared.statement.ForInitialization.TheVariants as is_for_initialization
use Rattle.sve_tree.specs.declared.statement.ForStep.TheVariants as is_for_step
use Rattle.sve_tree.specs.declared.statement.FormalDirection.TheVariants as is_formal_direction
use Rattle.sve_tree.specs.declared.statement.FunctionResult.TheVariants as is_function_result
use Rattle.sve_tree.specs.declared.statement.LeftSide.TheVariants as is_left_side
use Rattle.sve_tree.specs.declared.statement.StatementTail.TheVariants as is_statement_tail
use Rattle.sve_tree.specs.declared.statement.Stmt.TheVariants as is_stmt
use Rattle.sve_tree.specs.declared.data_type.TypeRef.TheVariants as is_type_ref

mutual
  pub written_left_side : Outline → Tree
  written_left_side (variant zero ◂ token_at name ◂ selects) = left (leaf name ▸ written_list written_select selects)
  written_left_side (variant (suc zero) ◂ token_at opening ◂ (sides ◂ commas) ◂ token_at closing) = right (leaf opening ▸ first_of (written_left_sides sides) ▸ further_of (written_left_sides sides) (said_tokens commas) ▸ leaf closing)
  written_left_side o = none

  pub written_left_sides : Outline → List Tree
  written_left_sides (side ◂ rest) = written_left_side side ∷ written_left_sides rest
  written_left_sides o = []

mutual
  unfolding left_side_tree left_side_outline written_left_side

  pub left_side_written : (x : LeftSide) → written_left_side (left_side_outline x) ≡ left_side_tree x
  left_side_written (is_left_side.Name name selects) = ap (λ (t : Tree). left t) (refl ◇ list_written _ _ _ select_written selects.items)
  left_side_written (is_left_side.Concatenation' opening _ sides commas closing) = ap (λ (t : Tree). right t) (refl ◇ ap (λ (ts : List Tree). first_of ts) (left_sides_written sides) ◇ further_alike (left_sides_written sides) (tokens_said commas.items) ◇ refl)

  pub left_sides_written : {n : _} (row : Row_of-LeftSide n) → written_left_sides (left_side_row_outline row) ≡ left_side_trees row
  left_sides_written end_of-LeftSide = refl
  left_sides_written (more_of-LeftSide side rest) = cons_alike (left_side_written side) (left_sides_written rest)

pub written_left_concatenation : Outline → Tree
written_left_concatenation (token_at opening ◂ sides ◂ token_at closing) = leaf opening ▸ written_row_first written_left_side sides ▸ written_row_rest written_left_side written_token sides ▸ leaf closing
written_left_concatenation o = none

pub left_concatenation_written : IsWritten left_concatenation_tree left_concatenation_outline written_left_concatenation
unfolding written_left_concatenation
left_concatenation_written x = refl ◇ row_first_written _ _ _ token_at left_side_written x.sides ◇ row_rest_written _ _ _ _ _ _ left_side_written token_written x.sides ◇ refl

pub written_change : Outline → Tree
written_change (variant zero ◂ operator ◂ value) = left (written_mark 13 operator ▸ written_at 13 value)
written_change (variant (suc zero) ◂ operator) = right (written_mark 1 operator)
written_change o = none

pub change_written : IsWritten change_tree change_outline written_change
unfolding written_change
change_written (is_change.Assign operator value) = ap (λ (t : Tree). left t) (mark_written _ _ _ assignment_operator_marked operator ◇ expr_written 13 value.value)
change_written (is_change.Step operator) = ap (λ (t : Tree). right t) (mark_written _ _ _ step_operator_marked operator)

pub written_statement_tail : Outline → Tree
written_statement_tail (variant zero ◂ operator ◂ value) = way 0 (written_mark 13 operator ▸ written_at 13 value)
written_statement_tail (variant (suc zero) ◂ operator) = way 1 (written_mark 1 operator)
written_statement_tail (variant (suc (suc zero)) ◂ arguments) = final 2 (written_argument_list arguments)
written_statement_tail o = none

pub statement_tail_written : IsWritten statement_tail_tree statement_tail_outline written_statement_tail
unfolding written_statement_tail
statement_tail_written (is_statement_tail.Assign operator value) = ap (λ (t : Tree). way 0 t) (mark_written _ _ _ assignment_operator_marked operator ◇ expr_written 13 value.value)
statement_tail_written (is_statement_tail.Step operator) = ap (λ (t : Tree). way 1 t) (mark_written _ _ _ step_operator_marked operator)
statement_tail_written (is_statement_tail.Call arguments) = ap (λ (t : Tree). final 2 t) (argument_list_written arguments)

-- a declaration behind a lifetime, from its type and its names
pub written_local : Outline → Outline → Tree
written_local (variant zero ◂ data_type) row = left (written_data_type data_type ▸ written_row_first (written_head written_declarator) row ▸ written_declaration_end row)
written_local (variant (suc zero) ◂ named) row = right (written_named_type named ▸ written_row_first (written_head written_declarator) row ▸ written_declaration_end row)
written_local o row = none

local_written : (t : TypeRef) (row : Row InitializedDeclarator ℕ) → written_local (type_ref_outline t) (row_outline initialized_declarator_outline token_at row) ≡ local_tree t row
unfolding data_type_outline written_local
local_written (is_type_ref.Written data_type) row = ap (λ (t : Tree). left t) (data_type_written data_type ◇ first_declarator_written row ◇ declaration_end_written row)
local_written (is_type_ref.Named named) row = ap (λ (t : Tree). right t) (named_type_written named ◇ first_declarator_written row ◇ declaration_end_written row)

-- a declaration of a block that begins with its type's keyword
pub written_block_data : Outline → Outline → ℕ → Tree
written_block_data (variant zero ◂ data_type) row i = way 2 (written_data_type data_type ▸ written_row_first (written_head written_declarator) row ▸ written_declaration_end row ▸ leaf i)
written_block_data o row i = misplaced none

block_data_written : (t : TypeRef) (row : Row InitializedDeclarator ℕ) (i : ℕ) → written_block_data (type_ref_outline t) (row_outline initialized_declarator_outline token_at row) i ≡ block_data_tree t row i
unfolding data_type_outline written_block_data
block_data_written (is_type_ref.Written data_type) row i = ap (λ (t : Tree). way 2 t) (data_type_written data_type ◇ first_declarator_written row ◇ declaration_end_written row ◇ refl)
block_data_written (is_type_ref.Named named) row i = refl

pub written_named_declaration : Outline → Tree
written_named_declaration (name ◂ selects ◂ declarators ◂ token_at semicolon) = written_scoped_name name ▸ written_list written_select selects ▸ right (written_row_first (written_head written_declarator) declarators ▸ written_declaration_end declarators) ▸ leaf semicolon
written_named_declaration o = none

pub named_declaration_written : IsWritten named_declaration_tree named_declaration_outline written_named_declaration
unfolding written_named_declaration
named_declaration_written x = scoped_name_written x.name ◇ list_written _ _ _ select_written x.selects.items ◇ ap (λ (t : Tree). right t) (first_declarator_written x.declarators ◇ declaration_end_written x.declarators) ◇ refl

pub written_for_variable : Outline → Tree
written_for_variable (data_type ◂ declarator ◂ value) = written_option written_data_type data_type ▸ written_declarator declarator ▸ written_initializer value
written_for_variable o = none

pub for_variable_written : IsWritten for_variable_tree for_variable_outline written_for_variable
unfolding written_for_variable
for_variable_written x = option_written _ _ _ data_type_written x.data_type ◇ declarator_written x.declarator ◇ initializer_written x.value

pub written_for_initialization : Outline → Tree
written_for_initialization (variant zero ◂ variables) = left (written_row_first (written_head (written_required written_data_type)) variables ▸ written_row_first (written_tail (written_head written_declarator)) variables ▸ written_row_first (written_tail (written_tail written_initializer)) variables ▸ written_row_rest written_for_variable written_token variables)
written_for_initialization (variant (suc zero) ◂ name ◂ selects ◂ operator ◂ value) = right (written_scoped_name name ▸ written_list written_select selects ▸ left (written_mark 13 operator ▸ written_at 13 value))
written_for_initialization (variant (suc (suc zero)) ◂ name ◂ selects ◂ declarator ◂ value) = right (written_scoped_name name ▸ written_list written_select selects ▸ right (written_declarator declarator ▸ written_initializer value))
written_for_initialization o = none

pub for_initialization_written : IsWritten for_initialization_tree for_initialization_outline written_for_initialization
unfolding written_for_initialization
for_initialization_written (is_for_initialization.Declared variables) = ap (λ (t : Tree). left t) (row_first_written _ for_variable_outline _ token_at (λ (v : ForVariable). required_written _ _ _ data_type_written v.data_type) variables ◇ row_first_written _ for_variable_outline _ token_at (λ (v : ForVariable). declarator_written v.declarator) variables ◇ row_first_written _ for_variable_outline _ token_at (λ (v : ForVariable). initializer_written v.value) variables ◇ row_rest_written _ _ _ _ _ _ for_variable_written token_written variables)
for_initialization_written (is_for_initialization.Assigned name selects operator value) = ap (λ (t : Tree). right t) (scoped_name_written name ◇ list_written _ _ _ select_written selects.items ◇ ap (λ (t : Tree). left t) (mark_written _ _ _ assignment_operator_marked operator ◇ expr_written 13 value.value))
for_initialization_written (is_for_initialization.NamedType name selects declarator value) = ap (λ (t : Tree). right t) (scoped_name_written name ◇ list_written _ _ _ select_written selects.items ◇ ap (λ (t : Tree). right t) (declarator_written declarator ◇ initializer_written value))

pub written_for_step : Outline → Tree
written_for_step (variant zero ◂ operator ◂ token_at name ◂ selects) = left (written_mark 1 operator ▸ leaf name ▸ written_list written_select selects)
written_for_step (variant (suc zero) ◂ token_at name ◂ selects ◂ change) = right (leaf name ▸ written_list written_select selects ▸ written_change change)
written_for_step o = none

pub for_step_written : IsWritten for_step_tree for_step_outline written_for_step
unfolding written_for_step
for_step_written (is_for_step.Before operator name selects) = ap (λ (t : Tree). left t) (mark_written _ _ _ step_operator_marked operator ◇ refl ◇ list_written _ _ _ select_written selects.items)
for_step_written (is_for_step.Change name selects change) = ap (λ (t : Tree). right t) (refl ◇ list_written _ _ _ select_written selects.items ◇ change_written change)

pub written_return_statement : Outline → Tree
written_return_statement (token_at keyword ◂ value ◂ token_at semicolon) = leaf keyword ▸ written_option written_expression value ▸ leaf semicolon
written_return_statement o = none

pub return_statement_written : IsWritten return_statement_tree return_statement_outline written_return_statement
unfolding written_return_statement
return_statement_written x = refl ◇ option_written _ _ _ expression_written x.value ◇ refl

pub written_system_task : Outline → Tree
written_system_task (token_at name ◂ arguments ◂ token_at semicolon) = leaf name ▸ written_option written_argument_list arguments ▸ leaf semicolon
written_system_task o = none

pub system_task_written : IsWritten system_task_tree system_task_outline written_system_task
unfolding written_system_task
system_task_written x = refl ◇ option_written _ _ _ argument_list_written x.arguments ◇ refl

pub written_void_call : Outline → Tree
written_void_call (token_at keyword ◂ cast ◂ token_at semicolon) = leaf keyword ▸ written_cast cast ▸ leaf semicolon
written_void_call o = none

pub void_call_written : IsWritten void_call_tree void_call_outline written_void_call
unfolding written_void_call
void_call_written x = refl ◇ cast_written x.cast ◇ refl

pub written_step_statement : Outline → Tree
written_step_statement (operator ◂ token_at name ◂ selects ◂ token_at semicolon) = written_mark 1 operator ▸ leaf name ▸ written_list written_select selects ▸ leaf semicolon
written_step_statement o = none

pub step_statement_written : IsWritten step_statement_tree step_statement_outline written_step_statement
unfolding written_step_statement
step_statement_written x = mark_written _ _ _ step_operator_marked x.operator ◇ refl ◇ list_written _ _ _ select_written x.selects.items ◇ refl

pub written_concatenation_assignment : Outline → Tree
written_concatenation_assignment (l ◂ operator ◂ value ◂ token_at semicolon) = written_left_concatenation l ▸ written_mark 13 operator ▸ written_at 13 value ▸ leaf semicolon
written_concatenation_assignment o = none

pub concatenation_assignment_written : IsWritten concatenation_assignment_tree concatenation_assignment_outline written_concatenation_assignment
unfolding written_concatenation_assignment
concatenation_assignment_written x = left_concatenation_written x.left ◇ mark_written _ _ _ assignment_operator_marked x.operator ◇ expr_written 13 x.value.value ◇ refl

pub written_name_statement : Outline → Tree
written_name_statement (name ◂ selects ◂ tail ◂ token_at semicolon) = written_scoped_name name ▸ written_list written_select selects ▸ written_statement_tail tail ▸ leaf semicolon
written_name_statement o = none

pub name_statement_written : IsWritten name_statement_tree name_statement_outline written_name_statement
unfolding written_name_statement
name_statement_written x = scoped_name_written x.name ◇ list_written _ _ _ select_written x.selects.items ◇ statement_tail_written x.tail ◇ refl

mutual
  pub written_stmt : Outline → Tree
  written_stmt (variant zero ◂ token_at semicolon) = way 0 (leaf semicolon)
  written_stmt (variant (suc zero) ◂ token_at begin ◂ label ◂ items ◂ token_at end ◂ end_label) = way 1 (leaf begin ▸ written_option written_label label ▸ written_block_item_row items ▸ leaf end ▸ written_option written_label end_label)
  written_stmt (variant (suc (suc zero)) ◂ uniqueness ◂ statement) = way 2 (written_option (written_mark 2) uniqueness ▸ left (written_if_statement statement))
  written_stmt (variant (suc (suc (suc zero))) ◂ uniqueness ◂ keyword ◂ selector ◂ items ◂ token_at end) = way 2 (written_option (written_mark 2) uniqueness ▸ right (written_mark 2 keyword ▸ written_parenthesized selector ▸ first_of (written_case_items items) ▸ others_of (written_case_items items) ▸ leaf end))
  written_stmt (variant (suc (suc (suc (suc zero)))) ◂ token_at keyword ◂ token_at opening ◂ initialization ◂ token_at first_semicolon ◂ condition ◂ token_at second_semicolon ◂ steps ◂ token_at closing ◂ body) = way 3 (leaf keyword ▸ leaf opening ▸ written_for_initialization initialization ▸ leaf first_semicolon ▸ written_option written_expression condition ▸ leaf second_semicolon ▸ written_optional_row written_for_step written_token steps ▸ leaf closing ▸ written_stmt body)
  written_stmt (variant (suc (suc (suc (suc (suc zero))))) ◂ token_at keyword ◂ token_at opening ◂ token_at array ◂ token_at opening_bracket ◂ names ◂ token_at closing_bracket ◂ token_at closing ◂ body) = way 4 (leaf keyword ▸ leaf opening ▸ leaf array ▸ leaf opening_bracket ▸ written_row_first written_token names ▸ written_row_rest written_token written_token names ▸ leaf closing_bracket ▸ leaf closing ▸ written_stmt body)
  written_stmt (variant (suc (suc (suc (suc (suc (suc zero)))))) ◂ keyword ◂ condition ◂ body) = way 5 (written_mark 1 keyword ▸ written_parenthesized condition ▸ written_stmt body)
  written_stmt (variant (suc (suc (suc (suc (suc (suc (suc zero))))))) ◂ token_at keyword ◂ body ◂ token_at while_keyword ◂ condition ◂ token_at semicolon) = way 6 (leaf keyword ▸ written_stmt body ▸ leaf while_keyword ▸ written_parenthesized condition ▸ leaf semicolon)
  written_stmt (variant (suc (suc (suc (suc (suc (suc (suc (suc zero)))))))) ◂ statement) = way 7 (written_return_statement statement)
  written_stmt (variant (suc (suc (suc (suc (suc (suc (suc (suc (suc zero))))))))) ◂ token_at keyword ◂ token_at semicolon) = way 8 (leaf keyword ▸ leaf semicolon)
  written_stmt (variant (suc (suc (suc (suc (suc (suc (suc (suc (suc (suc zero)))))))))) ◂ token_at keyword ◂ token_at semicolon) = way 9 (leaf keyword ▸ leaf semicolon)
  written_stmt (variant (suc (suc (suc (suc (suc (suc (suc (suc (suc (suc (suc zero))))))))))) ◂ task) = way 10 (written_system_task task)
  written_stmt (variant (suc (suc (suc (suc (suc (suc (suc (suc (suc (suc (suc (suc zero)))))))))))) ◂ call) = way 11 (written_void_call call)
  written_stmt (variant (suc (suc (suc (suc (suc (suc (suc (suc (suc (suc (suc (suc (suc zero))))))))))))) ◂ statement) = way 12 (written_step_statement statement)
  written_stmt (variant (suc (suc (suc (suc (suc (suc (suc (suc (suc (suc (suc (suc (suc (suc zero)))))))))))))) ◂ assignment) = way 13 (written_concatenation_assignment assignment)
  written_stmt (variant (suc (suc (suc (suc (suc (suc (suc (suc (suc (suc (suc (suc (suc (suc (suc zero))))))))))))))) ◂ statement) = final 14 (written_name_statement statement)
  written_stmt o = none

  pub written_block_item : Outline → Tree
  written_block_item (variant zero ◂ lifetime ◂ data_type ◂ declarators ◂ token_at semicolon) = way 0 (written_mark 1 lifetime ▸ written_local data_type declarators ▸ leaf semicolon)
  written_block_item (variant (suc zero) ◂ declaration) = way 1 (written_variable_declaration declaration)
  written_block_item (variant (suc (suc zero)) ◂ data_type ◂ declarators ◂ token_at semicolon) = written_block_data data_type declarators semicolon
  written_block_item (variant (suc (suc (suc zero))) ◂ declaration) = way 3 (written_parameters declaration)
  written_block_item (variant (suc (suc (suc (suc zero)))) ◂ declaration) = way 4 (written_typedef declaration)
  written_block_item (variant (suc (suc (suc (suc (suc zero))))) ◂ declaration) = way 5 (written_named_declaration declaration)
  written_block_item (variant (suc (suc (suc (suc (suc (suc zero)))))) ◂ statement_name ◂ statement_selects ◂ statement_tail ◂ token_at statement_semicolon) = way 5 (written_scoped_name statement_name ▸ written_list written_select statement_selects ▸ left (written_statement_tail statement_tail) ▸ leaf statement_semicolon)
  written_block_item (variant (suc (suc (suc (suc (suc (suc (suc zero))))))) ◂ statement) = final 6 (written_stmt statement)
  written_block_item o = none

  pub written_if_statement : Outline → Tree
  written_if_statement (token_at keyword ◂ condition ◂ chosen ◂ otherwise) = leaf keyword ▸ written_parenthesized condition ▸ written_stmt chosen ▸ written_optional_else_branch otherwise
  written_if_statement o = none

  pub written_case_item : Outline → Tree
  written_case_item (variant zero ◂ token_at keyword ◂ colon ◂ statement) = left (leaf keyword ▸ written_option written_token colon ▸ written_stmt statement)
  written_case_item (variant (suc zero) ◂ labels ◂ token_at colon ◂ statement) = right (written_row_first (written_at 13) labels ▸ written_row_rest (written_at 13) written_token labels ▸ leaf colon ▸ written_stmt statement)
  written_case_item o = none

  pub written_optional_else_branch : Outline → Tree
  written_optional_else_branch (variant zero) = right none
  written_optional_else_branch (variant (suc zero) ◂ token_at keyword ◂ statement) = left (leaf keyword ▸ written_stmt statement)
  written_optional_else_branch o = none

  pub written_block_item_row : Outline → Tree
  written_block_item_row (block_item ◂ rest) = turn (written_block_item block_item) (written_block_item_row rest)
  written_block_item_row o = ended

  pub written_case_items : Outline → List Tree
  written_case_items (case_item ◂ rest) = written_case_item case_item ∷ written_case_items rest
  written_case_items o = []

mutual
  unfolding stmt_tree stmt_outline written_stmt

  pub stmt_written : (x : Stmt) → written_stmt (stmt_outline x) ≡ stmt_tree x
  stmt_written (is_stmt.Empty semicolon) = refl
  stmt_written (is_stmt.Block' _ begin label _ items end end_label) = ap (λ (t : Tree). way 1 t) (refl ◇ option_written _ _ _ label_written label ◇ block_item_row_written items ◇ refl ◇ option_written _ _ _ label_written end_label)
  stmt_written (is_stmt.If' uniqueness _ statement) = ap (λ (t : Tree). way 2 t) (option_written _ _ _ (mark_written _ _ _ uniqueness_marked) uniqueness ◇ ap (λ (t : Tree). left t) (if_statement_written statement))
  stmt_written (is_stmt.Case' uniqueness _ keyword selector _ items end) = ap (λ (t : Tree). way 2 t) (option_written _ _ _ (mark_written _ _ _ uniqueness_marked) uniqueness ◇ ap (λ (t : Tree). right t) (mark_written _ _ _ case_keyword_marked keyword ◇ parenthesized_written selector ◇ ap (λ (ts : List Tree). first_of ts) (case_items_written items) ◇ ap (λ (ts : List Tree). others_of ts) (case_items_written items) ◇ refl))
  stmt_written (is_stmt.For' _ keyword opening initialization first_semicolon condition second_semicolon steps closing _ body) = ap (λ (t : Tree). way 3 t) (refl ◇ refl ◇ for_initialization_written initialization ◇ refl ◇ option_written _ _ _ expression_written condition ◇ refl ◇ optional_row_written _ _ _ _ _ _ for_step_written token_written steps ◇ refl ◇ stmt_written body)
  stmt_written (is_stmt.Foreach' _ keyword opening array opening_bracket names closing_bracket closing _ body) = ap (λ (t : Tree). way 4 t) (refl ◇ refl ◇ refl ◇ refl ◇ row_first_written _ _ _ token_at token_written names ◇ row_rest_written _ _ _ _ _ _ token_written token_written names ◇ refl ◇ refl ◇ stmt_written body)
  stmt_written (is_stmt.Loop' _ keyword condition _ body) = ap (λ (t : Tree). way 5 t) (mark_written _ _ _ loop_keyword_marked keyword ◇ parenthesized_written condition ◇ stmt_written body)
  stmt_written (is_stmt.Do' _ keyword _ body while_keyword condition semicolon) = ap (λ (t : Tree). way 6 t) (refl ◇ stmt_written body ◇ refl ◇ parenthesized_written condition ◇ refl)
  stmt_written (is_stmt.Return statement) = ap (λ (t : Tree). way 7 t) (return_statement_written statement.value)
  stmt_written (is_stmt.Break keyword semicolon) = refl
  stmt_written (is_stmt.Continue keyword semicolon) = refl
  stmt_written (is_stmt.SystemTask task) = ap (λ (t : Tree). way 10 t) (system_task_written task.value)
  stmt_written (is_stmt.VoidCall call) = ap (λ (t : Tree). way 11 t) (void_call_written call.value)
  stmt_written (is_stmt.Step statement) = ap (λ (t : Tree). way 12 t) (step_statement_written statement.value)
  stmt_written (is_stmt.Concatenation assignment) = ap (λ (t : Tree). way 13 t) (concatenation_assignment_written assignment.value)
  stmt_written (is_stmt.Name statement) = ap (λ (t : Tree). final 14 t) (name_statement_written statement.value)

  pub block_item_written : (x : BlockItem) → written_block_item (block_item_outline x) ≡ block_item_tree x
  block_item_written (is_block_item.Local lifetime declaration) = ap (λ (t : Tree). way 0 t) (mark_written _ _ _ lifetime_marked lifetime ◇ local_written declaration.value.data_type declaration.value.declarators ◇ refl)
  block_item_written (is_block_item.Variable declaration) = ap (λ (t : Tree). way 1 t) (variable_declaration_written declaration.value)
  block_item_written (is_block_item.Data declaration) = block_data_written declaration.value.data_type declaration.value.declarators declaration.value.semicolon
  block_item_written (is_block_item.Parameters declaration) = ap (λ (t : Tree). way 3 t) (parameters_written declaration.value)
  block_item_written (is_block_item.Typedef declaration) = ap (λ (t : Tree). way 4 t) (typedef_written declaration.value)
  block_item_written (is_block_item.NamedData declaration) = ap (λ (t : Tree). way 5 t) (named_declaration_written declaration.value)
  block_item_written (is_block_item.Name statement) = ap (λ (t : Tree). way 5 t) (scoped_name_written statement.value.name ◇ list_written _ _ _ select_written statement.value.selects.items ◇ ap (λ (t : Tree). left t) (statement_tail_written statement.value.tail) ◇ refl)
  block_item_written (is_block_item.Statement statement) = ap (λ (t : Tree). final 6 t) (stmt_written statement)

  pub if_statement_written : (x : IfStatement) → written_if_statement (if_statement_outline x) ≡ if_statement_tree x
  if_statement_written (IfStatement' keyword condition _ chosen otherwise) = refl ◇ parenthesized_written condition ◇ stmt_written chosen ◇ optional_else_branch_written otherwise

  pub case_item_written : (x : CaseItem) → written_case_item (case_item_outline x) ≡ case_item_tree x
  case_item_written (is_case_item.Default' keyword colon _ statement) = ap (λ (t : Tree). left t) (refl ◇ option_written _ _ _ token_written colon ◇ stmt_written statement)
  case_item_written (is_case_item.Labels' labels colon _ statement) = ap (λ (t : Tree). right t) (row_first_written _ _ _ token_at (expr_written 13) labels ◇ row_rest_written _ _ _ _ _ _ (expr_written 13) token_written labels ◇ refl ◇ stmt_written statement)

  pub optional_else_branch_written : (x : Held-IfStatement-otherwise) → written_optional_else_branch (optional_else_branch_outline x) ≡ optional_else_branch x
  optional_else_branch_written None' = refl
  optional_else_branch_written (Some' keyword _ statement) = ap (λ (t : Tree). left t) (refl ◇ stmt_written statement)

  pub block_item_row_written : {n : _} (row : Row_of-BlockItem n) → written_block_item_row (block_item_row_outline row) ≡ block_item_row row
  block_item_row_written end_of-BlockItem = refl
  block_item_row_written (more_of-BlockItem block_item rest) = turn_alike (block_item_written block_item) (block_item_row_written rest)

  pub case_items_written : {n : _} (row : Row_of-CaseItem n) → written_case_items (case_item_row_outline row) ≡ case_item_trees row
  case_items_written end_of-CaseItem = refl
  case_items_written (more_of-CaseItem case_item rest) = cons_alike (case_item_written case_item) (case_items_written rest)

pub written_function_result : Outline → Tree
written_function_result (variant zero ◂ token_at keyword ◂ token_at name) = left (leaf keyword ▸ leaf name)
written_function_result (variant (suc zero) ◂ result) = right (written_typed_name result)
written_function_result o = none

pub function_result_written : IsWritten function_result_tree function_result_outline written_function_result
unfolding written_function_result
function_result_written (is_function_result.Void keyword name) = refl
function_result_written (is_function_result.Typed result) = ap (λ (t : Tree). right t) (typed_name_written result)

pub written_formal_direction : Outline → Tree
written_formal_direction (variant zero ◂ direction) = left (written_mark 2 direction)
written_formal_direction (variant (suc zero) ◂ token_at keyword) = right (leaf keyword)
written_formal_direction o = none

pub formal_direction_written : IsWritten formal_direction_tree formal_direction_outline written_formal_direction
unfolding written_formal_direction
formal_direction_written (is_formal_direction.Value direction) = ap (λ (t : Tree). left t) (mark_written _ _ _ dir_marked direction)
formal_direction_written (is_formal_direction.Reference keyword) = refl

pub written_formal : Outline → Tree
written_formal (direction ◂ variable ◂ parameter) = written_option written_formal_direction direction ▸ written_option written_token variable ▸ written_typed_name parameter
written_formal o = none

pub formal_written : IsWritten formal_tree formal_outline written_formal
unfolding written_formal
formal_written x = option_written _ _ _ formal_direction_written x.direction ◇ option_written _ _ _ token_written x.variable ◇ typed_name_written x.parameter

pub written_formals : Outline → Tree
written_formals (token_at opening ◂ formals ◂ token_at closing) = leaf opening ▸ written_optional_row written_formal written_token formals ▸ leaf closing
written_formals o = none

pub formals_written : IsWritten formals_tree formals_outline written_formals
unfolding written_formals
formals_written x = refl ◇ optional_row_written _ _ _ _ _ _ formal_written token_written x.formals ◇ refl

pub written_func : Outline → Tree
written_func (token_at keyword ◂ lifetime ◂ result_type ◂ formals ◂ token_at semicolon ◂ items ◂ token_at end ◂ label) = leaf keyword ▸ written_option (written_mark 1) lifetime ▸ written_function_result result_type ▸ written_option written_formals formals ▸ leaf semicolon ▸ written_list written_block_item items ▸ leaf end ▸ written_option written_label label
written_func o = none

pub func_written : IsWritten func_tree func_outline written_func
unfolding written_func
func_written x = refl ◇ option_written _ _ _ (mark_written _ _ _ lifetime_marked) x.lifetime ◇ function_result_written x.result_type ◇ option_written _ _ _ formals_written x.formals ◇ refl ◇ list_written _ _ _ block_item_written x.items.items ◇ refl ◇ option_written _ _ _ label_written x.label
