-- What statements and functions say (IEEE 1800-2017, A.6, A.2.6 and A.2.8).
use Rattle.sve_outline.specs.Declarations.{data_declaration_outline, initialized_declarator_outline, parameters_outline, typedef_outline, variable_declaration_outline}
use Rattle.sve_outline.specs.Expressions.{argument_list_outline, cast_outline, expr_outline, expression_outline, parenthesized_outline, select_outline}
use Rattle.sve_outline.specs.Outline.{Outline, list_outline, mark_outline, no_more, option_outline, row_outline, token_at, variant, ◌◂◌}
use Rattle.sve_outline.specs.Types.{data_type_outline, declarator_outline, initializer_outline, typed_name_outline}
use Rattle.sve_outline.specs.Words.{assignment_operator_place, case_keyword_place, dir_place, label_outline, lifetime_place, loop_keyword_place, scoped_name_outline, step_operator_place, uniqueness_place}
use Rattle.sve_tree.specs.declared.statement.Block.{Row_of-BlockItem, end_of-BlockItem, more_of-BlockItem}
use Rattle.sve_tree.specs.declared.statement.BlockItem.{BlockItem}
use Rattle.sve_tree.specs.declared.statement.CaseItem.{CaseItem}
use Rattle.sve_tree.specs.declared.statement.CaseStatement.{Row_of-CaseItem, end_of-CaseItem, more_of-CaseItem}
use Rattle.sve_tree.specs.declared.statement.Change.{Change}
use Rattle.sve_tree.specs.declared.statement.ConcatenationAssignment.{ConcatenationAssignment}
use Rattle.sve_tree.specs.declared.statement.ForInitialization.{ForInitialization}
use Rattle.sve_tree.specs.declared.statement.ForStep.{ForStep}
use Rattle.sve_tree.specs.declared.statement.ForVariable.{ForVariable}
use Rattle.sve_tree.specs.declared.statement.Formal.{Formal}
use Rattle.sve_tree.specs.declared.statement.FormalDirection.{FormalDirection}
use Rattle.sve_tree.specs.declared.statement.Formals.{Formals}
use Rattle.sve_tree.specs.declared.statement.Func.{Func}
use Rattle.sve_tree.specs.declared.statement.FunctionResult.{FunctionResult}
use Rattle.sve_tree.specs.declared.statement.IfStatement.{Held-IfStatement-otherwise, IfStatement, IfStatement', None', Some'}
use Rattle.sve_tree.specs.declared.statement.LeftConcatenation.{LeftConcatenation, Row_of-LeftSide, end_of-LeftSide, more_of-LeftSide}
use Rattle.sve_tree.specs.declared.statement.LeftSide.{LeftSide}
use Rattle.sve_tree.specs.declared.statement.NameStatement.{NameStatement}
use Rattle.sve_tree.specs.declared.statement.NamedDeclaration.{NamedDeclaration}
use Rattle.sve_tree.specs.declared.statement.ReturnStatement.{ReturnStatement}
use Rattle.sve_tree.specs.declared.statement.StatementTail.{StatementTail}
use Rattle.sve_tree.specs.declared.statement.StepStatement.{StepStatement}
use Rattle.sve_tree.specs.declared.statement.Stmt.{Stmt}
use Rattle.sve_tree.specs.declared.statement.SystemTask.{SystemTask}
use Rattle.sve_tree.specs.declared.statement.VoidCall.{VoidCall}
use Rattle.sve_tree.specs.declared.statement.BlockItem.TheVariants as is_block_item
use Rattle.sve_tree.specs.declared.statement.CaseItem.TheVariants as is_case_item
use Rattle.sve_tree.specs.declared.statement.Change.TheVariants as is_change
use Rattle.sve_tree.specs.declared.statement.ForInitialization.TheVariants as is_for_initialization
use Rattle.sve_tree.specs.declared.statement.ForStep.TheVariants as is_for_step
use Rattle.sve_tree.specs.declared.statement.FormalDirection.TheVariants as is_formal_direction
use Rattle.sve_tree.specs.declared.statement.FunctionResult.TheVariants as is_function_result
use Rattle.sve_tree.specs.declared.statement.LeftSide.TheVariants as is_left_side
use Rattle.sve_tree.specs.declared.statement.StatementTail.TheVariants as is_statement_tail
use Rattle.sve_tree.specs.declared.statement.Stmt.TheVariants as is_stmt

unfoldable mutual
  pub left_side_outline : LeftSide → Outline
  left_side_outline (is_left_side.Name name selects) = variant 0 ◂ token_at name ◂ list_outline select_outline selects.items
  left_side_outline (is_left_side.Concatenation' opening _ sides commas closing) = variant 1 ◂ token_at opening ◂ (left_side_row_outline sides ◂ list_outline token_at commas.items) ◂ token_at closing

  pub left_side_row_outline : {n : _} → Row_of-LeftSide n → Outline
  left_side_row_outline end_of-LeftSide = no_more
  left_side_row_outline (more_of-LeftSide side rest) = left_side_outline side ◂ left_side_row_outline rest

abbrev pub left_concatenation_outline : LeftConcatenation → Outline
left_concatenation_outline x = token_at x.opening ◂ row_outline left_side_outline token_at x.sides ◂ token_at x.closing

abbrev pub change_outline : Change → Outline
change_outline (is_change.Assign operator value) = variant 0 ◂ mark_outline assignment_operator_place operator ◂ expr_outline value.value
change_outline (is_change.Step operator) = variant 1 ◂ mark_outline step_operator_place operator

abbrev pub statement_tail_outline : StatementTail → Outline
statement_tail_outline (is_statement_tail.Assign operator value) = variant 0 ◂ mark_outline assignment_operator_place operator ◂ expr_outline value.value
statement_tail_outline (is_statement_tail.Step operator) = variant 1 ◂ mark_outline step_operator_place operator
statement_tail_outline (is_statement_tail.Call arguments) = variant 2 ◂ argument_list_outline arguments

abbrev pub named_declaration_outline : NamedDeclaration → Outline
named_declaration_outline x = scoped_name_outline x.name ◂ list_outline select_outline x.selects.items ◂ row_outline initialized_declarator_outline token_at x.declarators ◂ token_at x.semicolon

abbrev pub for_variable_outline : ForVariable → Outline
for_variable_outline x = option_outline data_type_outline x.data_type ◂ declarator_outline x.declarator ◂ initializer_outline x.value

abbrev pub for_initialization_outline : ForInitialization → Outline
for_initialization_outline (is_for_initialization.Declared variables) = variant 0 ◂ row_outline for_variable_outline token_at variables
for_initialization_outline (is_for_initialization.Assigned name selects operator value) = variant 1 ◂ scoped_name_outline name ◂ list_outline select_outline selects.items ◂ mark_outline assignment_operator_place operator ◂ expr_outline value.value
for_initialization_outline (is_for_initialization.NamedType name selects declarator value) = variant 2 ◂ scoped_name_outline name ◂ list_outline select_outline selects.items ◂ declarator_outline declarator ◂ initializer_outline value

abbrev pub for_step_outline : ForStep → Outline
for_step_outline (is_for_step.Before operator name selects) = variant 0 ◂ mark_outline step_operator_place operator ◂ token_at name ◂ list_outline select_outline selects.items
for_step_outline (is_for_step.Change name selects change) = variant 1 ◂ token_at name ◂ list_outline select_outline selects.items ◂ change_outline change

abbrev pub return_statement_outline : ReturnStatement → Outline
return_statement_outline x = token_at x.keyword ◂ option_outline expression_outline x.value ◂ token_at x.semicolon

abbrev pub system_task_outline : SystemTask → Outline
system_task_outline x = token_at x.name ◂ option_outline argument_list_outline x.arguments ◂ token_at x.semicolon

abbrev pub void_call_outline : VoidCall → Outline
void_call_outline x = token_at x.keyword ◂ cast_outline x.cast ◂ token_at x.semicolon

abbrev pub step_statement_outline : StepStatement → Outline
step_statement_outline x = mark_outline step_operator_place x.operator ◂ token_at x.name ◂ list_outline select_outline x.selects.items ◂ token_at x.semicolon

abbrev pub concatenation_assignment_outline : ConcatenationAssignment → Outline
concatenation_assignment_outline x = left_concatenation_outline x.left ◂ mark_outline assignment_operator_place x.operator ◂ expr_outline x.value.value ◂ token_at x.semicolon

abbrev pub name_statement_outline : NameStatement → Outline
name_statement_outline x = scoped_name_outline x.name ◂ list_outline select_outline x.selects.items ◂ statement_tail_outline x.tail ◂ token_at x.semicolon

unfoldable mutual
  pub stmt_outline : Stmt → Outline
  stmt_outline (is_stmt.Empty semicolon) = variant 0 ◂ token_at semicolon
  stmt_outline (is_stmt.Block' _ begin label _ items end end_label) = variant 1 ◂ token_at begin ◂ option_outline label_outline label ◂ block_item_row_outline items ◂ token_at end ◂ option_outline label_outline end_label
  stmt_outline (is_stmt.If' uniqueness _ statement) = variant 2 ◂ option_outline (mark_outline uniqueness_place) uniqueness ◂ if_statement_outline statement
  stmt_outline (is_stmt.Case' uniqueness _ keyword selector _ items end) = variant 3 ◂ option_outline (mark_outline uniqueness_place) uniqueness ◂ mark_outline case_keyword_place keyword ◂ parenthesized_outline selector ◂ case_item_row_outline items ◂ token_at end
  stmt_outline (is_stmt.For' _ keyword opening initialization first_semicolon condition second_semicolon steps closing _ body) = variant 4 ◂ token_at keyword ◂ token_at opening ◂ for_initialization_outline initialization ◂ token_at first_semicolon ◂ option_outline expression_outline condition ◂ token_at second_semicolon ◂ row_outline for_step_outline token_at steps ◂ token_at closing ◂ stmt_outline body
  stmt_outline (is_stmt.Foreach' _ keyword opening array opening_bracket names closing_bracket closing _ body) = variant 5 ◂ token_at keyword ◂ token_at opening ◂ token_at array ◂ token_at opening_bracket ◂ row_outline token_at token_at names ◂ token_at closing_bracket ◂ token_at closing ◂ stmt_outline body
  stmt_outline (is_stmt.Loop' _ keyword condition _ body) = variant 6 ◂ mark_outline loop_keyword_place keyword ◂ parenthesized_outline condition ◂ stmt_outline body
  stmt_outline (is_stmt.Do' _ keyword _ body while_keyword condition semicolon) = variant 7 ◂ token_at keyword ◂ stmt_outline body ◂ token_at while_keyword ◂ parenthesized_outline condition ◂ token_at semicolon
  stmt_outline (is_stmt.Return statement) = variant 8 ◂ return_statement_outline statement.value
  stmt_outline (is_stmt.Break keyword semicolon) = variant 9 ◂ token_at keyword ◂ token_at semicolon
  stmt_outline (is_stmt.Continue keyword semicolon) = variant 10 ◂ token_at keyword ◂ token_at semicolon
  stmt_outline (is_stmt.SystemTask task) = variant 11 ◂ system_task_outline task.value
  stmt_outline (is_stmt.VoidCall call) = variant 12 ◂ void_call_outline call.value
  stmt_outline (is_stmt.Step statement) = variant 13 ◂ step_statement_outline statement.value
  stmt_outline (is_stmt.Concatenation assignment) = variant 14 ◂ concatenation_assignment_outline assignment.value
  stmt_outline (is_stmt.Name statement) = variant 15 ◂ name_statement_outline statement.value

  pub block_item_outline : BlockItem → Outline
  block_item_outline (is_block_item.Local lifetime declaration) = variant 0 ◂ mark_outline lifetime_place lifetime ◂ data_declaration_outline declaration.value
  block_item_outline (is_block_item.Variable declaration) = variant 1 ◂ variable_declaration_outline declaration.value
  block_item_outline (is_block_item.Data declaration) = variant 2 ◂ data_declaration_outline declaration.value
  block_item_outline (is_block_item.Parameters declaration) = variant 3 ◂ parameters_outline declaration.value
  block_item_outline (is_block_item.Typedef declaration) = variant 4 ◂ typedef_outline declaration.value
  block_item_outline (is_block_item.NamedData declaration) = variant 5 ◂ named_declaration_outline declaration.value
  block_item_outline (is_block_item.Name statement) = variant 6 ◂ name_statement_outline statement.value
  block_item_outline (is_block_item.Statement statement) = variant 7 ◂ stmt_outline statement

  pub if_statement_outline : IfStatement → Outline
  if_statement_outline (IfStatement' keyword condition _ chosen otherwise) = token_at keyword ◂ parenthesized_outline condition ◂ stmt_outline chosen ◂ optional_else_branch_outline otherwise

  pub case_item_outline : CaseItem → Outline
  case_item_outline (is_case_item.Default' keyword colon _ statement) = variant 0 ◂ token_at keyword ◂ option_outline token_at colon ◂ stmt_outline statement
  case_item_outline (is_case_item.Labels' labels colon _ statement) = variant 1 ◂ row_outline expr_outline token_at labels ◂ token_at colon ◂ stmt_outline statement

  pub optional_else_branch_outline : Held-IfStatement-otherwise → Outline
  optional_else_branch_outline None' = variant 0
  optional_else_branch_outline (Some' keyword _ statement) = variant 1 ◂ token_at keyword ◂ stmt_outline statement

  pub block_item_row_outline : {n : _} → Row_of-BlockItem n → Outline
  block_item_row_outline end_of-BlockItem = no_more
  block_item_row_outline (more_of-BlockItem block_item rest) = block_item_outline block_item ◂ block_item_row_outline rest

  pub case_item_row_outline : {n : _} → Row_of-CaseItem n → Outline
  case_item_row_outline end_of-CaseItem = no_more
  case_item_row_outline (more_of-CaseItem case_item rest) = case_item_outline case_item ◂ case_item_row_outline rest

abbrev pub function_result_outline : FunctionResult → Outline
function_result_outline (is_function_result.Void keyword name) = variant 0 ◂ token_at keyword ◂ token_at name
function_result_outline (is_function_result.Typed result) = variant 1 ◂ typed_name_outline result

abbrev pub formal_direction_outline : FormalDirection → Outline
formal_direction_outline (is_formal_direction.Value direction) = variant 0 ◂ mark_outline dir_place direction
formal_direction_outline (is_formal_direction.Reference keyword) = variant 1 ◂ token_at keyword

abbrev pub formal_outline : Formal → Outline
formal_outline x = option_outline formal_direction_outline x.direction ◂ option_outline token_at x.variable ◂ typed_name_outline x.parameter

abbrev pub formals_outline : Formals → Outline
formals_outline x = token_at x.opening ◂ row_outline formal_outline token_at x.formals ◂ token_at x.closing

abbrev pub func_outline : Func → Outline
func_outline x = token_at x.keyword ◂ option_outline (mark_outline lifetime_place) x.lifetime ◂ function_result_outline x.result_type ◂ option_outline formals_outline x.formals ◂ token_at x.semicolon ◂ list_outline block_item_outline x.items.items ◂ token_at x.end ◂ option_outline label_outline x.label
