-- The trees of statements and functions (IEEE 1800-2017, A.6, A.2.6 and A.2.8).
use Rattle.std.specs.Prelude.{ℕ, List, [], ◌∷◌}
use Rattle.sve_grammar.specs.Reading.{Tree, leaf, none, left, right, turn, ended}
use Rattle.sve_tree.specs.Shape.{◌▸◌, way, final, misplaced, optional_tree, required_tree, repeated_tree, first_of, others_of, further_of, first_tree, others_tree, row_first, row_rest, optional_row, mark_tree}
use Rattle.sve_tree.specs.Words.{lifetime_tree, assignment_operator_tree, step_operator_tree, scoped_name_tree, label_tree, uniqueness_tree, case_keyword_tree, loop_keyword_tree, dir_tree}
use Rattle.sve_tree.specs.Expressions.{parenthesized_tree, cast_tree, select_tree, argument_list_tree, expression_tree, tree_at}
use Rattle.sve_tree.specs.Types.{data_type_tree, named_type_tree, initializer_tree, declarator_tree, typed_name_tree}
use Rattle.sve_tree.specs.Declarations.{parameters_tree, typedef_tree, variable_declaration_tree, first_declarator, declaration_end_tree}
use Rattle.sve_tree.specs.declared.row.Row.{Row}
use Rattle.sve_tree.specs.declared.data_type.TypeRef.{TypeRef}
use Rattle.sve_tree.specs.declared.declaration.InitializedDeclarator.{InitializedDeclarator}
use Rattle.sve_tree.specs.declared.statement.LeftSide.{LeftSide}
use Rattle.sve_tree.specs.declared.statement.LeftConcatenation.{LeftConcatenation, Row_of-LeftSide, end_of-LeftSide, more_of-LeftSide}
use Rattle.sve_tree.specs.declared.statement.Change.{Change}
use Rattle.sve_tree.specs.declared.statement.StatementTail.{StatementTail}
use Rattle.sve_tree.specs.declared.statement.Stmt.{Stmt}
use Rattle.sve_tree.specs.declared.statement.Block.{Block, Row_of-BlockItem, end_of-BlockItem, more_of-BlockItem}
use Rattle.sve_tree.specs.declared.statement.BlockItem.{BlockItem}
use Rattle.sve_tree.specs.declared.statement.NamedDeclaration.{NamedDeclaration}
use Rattle.sve_tree.specs.declared.statement.IfStatement.{IfStatement, IfStatement', Held-IfStatement-otherwise, None', Some'}
use Rattle.sve_tree.specs.declared.statement.ElseBranch.{ElseBranch}
use Rattle.sve_tree.specs.declared.statement.CaseStatement.{CaseStatement, Row_of-CaseItem, end_of-CaseItem, more_of-CaseItem}
use Rattle.sve_tree.specs.declared.statement.CaseItem.{CaseItem}
use Rattle.sve_tree.specs.declared.statement.ForStatement.{ForStatement}
use Rattle.sve_tree.specs.declared.statement.ForInitialization.{ForInitialization}
use Rattle.sve_tree.specs.declared.statement.ForVariable.{ForVariable}
use Rattle.sve_tree.specs.declared.statement.ForStep.{ForStep}
use Rattle.sve_tree.specs.declared.statement.ForeachStatement.{ForeachStatement}
use Rattle.sve_tree.specs.declared.statement.LoopStatement.{LoopStatement}
use Rattle.sve_tree.specs.declared.statement.DoStatement.{DoStatement}
use Rattle.sve_tree.specs.declared.statement.ReturnStatement.{ReturnStatement}
use Rattle.sve_tree.specs.declared.statement.SystemTask.{SystemTask}
use Rattle.sve_tree.specs.declared.statement.VoidCall.{VoidCall}
use Rattle.sve_tree.specs.declared.statement.StepStatement.{StepStatement}
use Rattle.sve_tree.specs.declared.statement.ConcatenationAssignment.{ConcatenationAssignment}
use Rattle.sve_tree.specs.declared.statement.NameStatement.{NameStatement}
use Rattle.sve_tree.specs.declared.statement.Func.{Func}
use Rattle.sve_tree.specs.declared.statement.FunctionResult.{FunctionResult}
use Rattle.sve_tree.specs.declared.statement.Formals.{Formals}
use Rattle.sve_tree.specs.declared.statement.Formal.{Formal}
use Rattle.sve_tree.specs.declared.statement.FormalDirection.{FormalDirection}
use Rattle.sve_tree.specs.declared.data_type.TypeRef.TheVariants as is_type_ref
use Rattle.sve_tree.specs.declared.statement.LeftSide.TheVariants as is_left_side
use Rattle.sve_tree.specs.declared.statement.Change.TheVariants as is_change
use Rattle.sve_tree.specs.declared.statement.StatementTail.TheVariants as is_statement_tail
use Rattle.sve_tree.specs.declared.statement.Stmt.TheVariants as is_stmt
use Rattle.sve_tree.specs.declared.statement.BlockItem.TheVariants as is_block_item
use Rattle.sve_tree.specs.declared.statement.CaseItem.TheVariants as is_case_item
use Rattle.sve_tree.specs.declared.statement.ForInitialization.TheVariants as is_for_initialization
use Rattle.sve_tree.specs.declared.statement.ForStep.TheVariants as is_for_step
use Rattle.sve_tree.specs.declared.statement.FunctionResult.TheVariants as is_function_result
use Rattle.sve_tree.specs.declared.statement.FormalDirection.TheVariants as is_formal_direction

unfoldable mutual
  pub left_side_tree : LeftSide → Tree
  left_side_tree (is_left_side.Name name selects) = left (leaf name ▸ repeated_tree select_tree selects.items)
  left_side_tree (is_left_side.Concatenation' opening _ sides commas closing) = right (leaf opening ▸ first_of (left_side_trees sides) ▸ further_of (left_side_trees sides) commas.items ▸ leaf closing)

  pub left_side_trees : {n : _} → Row_of-LeftSide n → List Tree
  left_side_trees end_of-LeftSide = []
  left_side_trees (more_of-LeftSide side rest) = left_side_tree side ∷ left_side_trees rest

abbrev pub left_concatenation_tree : LeftConcatenation → Tree
left_concatenation_tree x = leaf x.opening ▸ row_first left_side_tree x.sides ▸ row_rest left_side_tree leaf x.sides ▸ leaf x.closing

abbrev pub change_tree : Change → Tree
change_tree (is_change.Assign operator value) = left (mark_tree assignment_operator_tree operator ▸ tree_at 13 value.value)
change_tree (is_change.Step operator) = right (mark_tree step_operator_tree operator)

abbrev pub statement_tail_tree : StatementTail → Tree
statement_tail_tree (is_statement_tail.Assign operator value) = way 0 (mark_tree assignment_operator_tree operator ▸ tree_at 13 value.value)
statement_tail_tree (is_statement_tail.Step operator) = way 1 (mark_tree step_operator_tree operator)
statement_tail_tree (is_statement_tail.Call arguments) = final 2 (argument_list_tree arguments)

-- a declaration behind a lifetime, without its semicolon
abbrev pub local_tree : TypeRef → Row InitializedDeclarator ℕ → Tree
local_tree (is_type_ref.Written data_type) row = left (data_type_tree data_type ▸ first_declarator declarator_tree row ▸ declaration_end_tree row)
local_tree (is_type_ref.Named named) row = right (named_type_tree named ▸ first_declarator declarator_tree row ▸ declaration_end_tree row)

-- A declaration of a block that begins with its type's keyword. One that begins with a name is read otherwise.
abbrev pub block_data_tree : TypeRef → Row InitializedDeclarator ℕ → ℕ → Tree
block_data_tree (is_type_ref.Written data_type) row semicolon = way 2 (data_type_tree data_type ▸ first_declarator declarator_tree row ▸ declaration_end_tree row ▸ leaf semicolon)
block_data_tree (is_type_ref.Named named) row semicolon = misplaced none

abbrev pub named_declaration_tree : NamedDeclaration → Tree
named_declaration_tree x = scoped_name_tree x.name ▸ repeated_tree select_tree x.selects.items ▸ right (first_declarator declarator_tree x.declarators ▸ declaration_end_tree x.declarators) ▸ leaf x.semicolon

abbrev pub for_variable_tree : ForVariable → Tree
for_variable_tree x = optional_tree data_type_tree x.data_type ▸ declarator_tree x.declarator ▸ initializer_tree x.value

abbrev pub for_initialization_tree : ForInitialization → Tree
for_initialization_tree (is_for_initialization.Declared variables) = left (row_first (λ (v : ForVariable). required_tree data_type_tree v.data_type) variables ▸ row_first (λ (v : ForVariable). declarator_tree v.declarator) variables ▸ row_first (λ (v : ForVariable). initializer_tree v.value) variables ▸ row_rest for_variable_tree leaf variables)
for_initialization_tree (is_for_initialization.Assigned name selects operator value) = right (scoped_name_tree name ▸ repeated_tree select_tree selects.items ▸ left (mark_tree assignment_operator_tree operator ▸ tree_at 13 value.value))
for_initialization_tree (is_for_initialization.NamedType name selects declarator value) = right (scoped_name_tree name ▸ repeated_tree select_tree selects.items ▸ right (declarator_tree declarator ▸ initializer_tree value))

abbrev pub for_step_tree : ForStep → Tree
for_step_tree (is_for_step.Before operator name selects) = left (mark_tree step_operator_tree operator ▸ leaf name ▸ repeated_tree select_tree selects.items)
for_step_tree (is_for_step.Change name selects change) = right (leaf name ▸ repeated_tree select_tree selects.items ▸ change_tree change)

abbrev pub return_statement_tree : ReturnStatement → Tree
return_statement_tree x = leaf x.keyword ▸ optional_tree expression_tree x.value ▸ leaf x.semicolon

abbrev pub system_task_tree : SystemTask → Tree
system_task_tree x = leaf x.name ▸ optional_tree argument_list_tree x.arguments ▸ leaf x.semicolon

abbrev pub void_call_tree : VoidCall → Tree
void_call_tree x = leaf x.keyword ▸ cast_tree x.cast ▸ leaf x.semicolon

abbrev pub step_statement_tree : StepStatement → Tree
step_statement_tree x = mark_tree step_operator_tree x.operator ▸ leaf x.name ▸ repeated_tree select_tree x.selects.items ▸ leaf x.semicolon

abbrev pub concatenation_assignment_tree : ConcatenationAssignment → Tree
concatenation_assignment_tree x = left_concatenation_tree x.left ▸ mark_tree assignment_operator_tree x.operator ▸ tree_at 13 x.value.value ▸ leaf x.semicolon

abbrev pub name_statement_tree : NameStatement → Tree
name_statement_tree x = scoped_name_tree x.name ▸ repeated_tree select_tree x.selects.items ▸ statement_tail_tree x.tail ▸ leaf x.semicolon

unfoldable mutual
  pub stmt_tree : Stmt → Tree
  stmt_tree (is_stmt.Empty semicolon) = way 0 (leaf semicolon)
  stmt_tree (is_stmt.Block' _ begin label _ items end end_label) = way 1 (leaf begin ▸ optional_tree label_tree label ▸ block_item_row items ▸ leaf end ▸ optional_tree label_tree end_label)
  stmt_tree (is_stmt.If' uniqueness _ statement) = way 2 (optional_tree (mark_tree uniqueness_tree) uniqueness ▸ left (if_statement_tree statement))
  stmt_tree (is_stmt.Case' uniqueness _ keyword selector _ items end) = way 2 (optional_tree (mark_tree uniqueness_tree) uniqueness ▸ right (mark_tree case_keyword_tree keyword ▸ parenthesized_tree selector ▸ first_of (case_item_trees items) ▸ others_of (case_item_trees items) ▸ leaf end))
  stmt_tree (is_stmt.For' _ keyword opening initialization first_semicolon condition second_semicolon steps closing _ body) = way 3 (leaf keyword ▸ leaf opening ▸ for_initialization_tree initialization ▸ leaf first_semicolon ▸ optional_tree expression_tree condition ▸ leaf second_semicolon ▸ optional_row for_step_tree leaf steps ▸ leaf closing ▸ stmt_tree body)
  stmt_tree (is_stmt.Foreach' _ keyword opening array opening_bracket names closing_bracket closing _ body) = way 4 (leaf keyword ▸ leaf opening ▸ leaf array ▸ leaf opening_bracket ▸ row_first leaf names ▸ row_rest leaf leaf names ▸ leaf closing_bracket ▸ leaf closing ▸ stmt_tree body)
  stmt_tree (is_stmt.Loop' _ keyword condition _ body) = way 5 (mark_tree loop_keyword_tree keyword ▸ parenthesized_tree condition ▸ stmt_tree body)
  stmt_tree (is_stmt.Do' _ keyword _ body while_keyword condition semicolon) = way 6 (leaf keyword ▸ stmt_tree body ▸ leaf while_keyword ▸ parenthesized_tree condition ▸ leaf semicolon)
  stmt_tree (is_stmt.Return statement) = way 7 (return_statement_tree statement.value)
  stmt_tree (is_stmt.Break keyword semicolon) = way 8 (leaf keyword ▸ leaf semicolon)
  stmt_tree (is_stmt.Continue keyword semicolon) = way 9 (leaf keyword ▸ leaf semicolon)
  stmt_tree (is_stmt.SystemTask task) = way 10 (system_task_tree task.value)
  stmt_tree (is_stmt.VoidCall call) = way 11 (void_call_tree call.value)
  stmt_tree (is_stmt.Step statement) = way 12 (step_statement_tree statement.value)
  stmt_tree (is_stmt.Concatenation assignment) = way 13 (concatenation_assignment_tree assignment.value)
  stmt_tree (is_stmt.Name statement) = final 14 (name_statement_tree statement.value)

  pub block_item_tree : BlockItem → Tree
  block_item_tree (is_block_item.Local lifetime declaration) = way 0 (mark_tree lifetime_tree lifetime ▸ local_tree declaration.value.data_type declaration.value.declarators ▸ leaf declaration.value.semicolon)
  block_item_tree (is_block_item.Variable declaration) = way 1 (variable_declaration_tree declaration.value)
  block_item_tree (is_block_item.Data declaration) = block_data_tree declaration.value.data_type declaration.value.declarators declaration.value.semicolon
  block_item_tree (is_block_item.Parameters declaration) = way 3 (parameters_tree declaration.value)
  block_item_tree (is_block_item.Typedef declaration) = way 4 (typedef_tree declaration.value)
  block_item_tree (is_block_item.NamedData declaration) = way 5 (named_declaration_tree declaration.value)
  block_item_tree (is_block_item.Name statement) = way 5 (scoped_name_tree statement.value.name ▸ repeated_tree select_tree statement.value.selects.items ▸ left (statement_tail_tree statement.value.tail) ▸ leaf statement.value.semicolon)
  block_item_tree (is_block_item.Statement statement) = final 6 (stmt_tree statement)

  pub if_statement_tree : IfStatement → Tree
  if_statement_tree (IfStatement' keyword condition _ chosen otherwise) = leaf keyword ▸ parenthesized_tree condition ▸ stmt_tree chosen ▸ optional_else_branch otherwise

  pub case_item_tree : CaseItem → Tree
  case_item_tree (is_case_item.Default' keyword colon _ statement) = left (leaf keyword ▸ optional_tree leaf colon ▸ stmt_tree statement)
  case_item_tree (is_case_item.Labels' labels colon _ statement) = right (row_first (tree_at 13) labels ▸ row_rest (tree_at 13) leaf labels ▸ leaf colon ▸ stmt_tree statement)

  pub optional_else_branch : Held-IfStatement-otherwise → Tree
  optional_else_branch None' = right none
  optional_else_branch (Some' keyword _ statement) = left (leaf keyword ▸ stmt_tree statement)

  pub block_item_row : {n : _} → Row_of-BlockItem n → Tree
  block_item_row end_of-BlockItem = ended
  block_item_row (more_of-BlockItem block_item rest) = turn (block_item_tree block_item) (block_item_row rest)

  pub case_item_trees : {n : _} → Row_of-CaseItem n → List Tree
  case_item_trees end_of-CaseItem = []
  case_item_trees (more_of-CaseItem case_item rest) = case_item_tree case_item ∷ case_item_trees rest

abbrev pub block_tree : Block → Tree
block_tree x = leaf x.begin ▸ optional_tree label_tree x.label ▸ repeated_tree block_item_tree x.items.items ▸ leaf x.end ▸ optional_tree label_tree x.end_label

abbrev pub else_branch_tree : ElseBranch → Tree
else_branch_tree x = leaf x.keyword ▸ stmt_tree x.statement.value

abbrev pub case_statement_tree : CaseStatement → Tree
case_statement_tree x = mark_tree case_keyword_tree x.keyword ▸ parenthesized_tree x.selector ▸ first_tree case_item_tree x.items.items ▸ others_tree case_item_tree x.items.items ▸ leaf x.end

abbrev pub for_statement_tree : ForStatement → Tree
for_statement_tree x = leaf x.keyword ▸ leaf x.opening ▸ for_initialization_tree x.initialization ▸ leaf x.first_semicolon ▸ optional_tree expression_tree x.condition ▸ leaf x.second_semicolon ▸ optional_row for_step_tree leaf x.steps ▸ leaf x.closing ▸ stmt_tree x.body.value

abbrev pub foreach_statement_tree : ForeachStatement → Tree
foreach_statement_tree x = leaf x.keyword ▸ leaf x.opening ▸ leaf x.array ▸ leaf x.opening_bracket ▸ row_first leaf x.names ▸ row_rest leaf leaf x.names ▸ leaf x.closing_bracket ▸ leaf x.closing ▸ stmt_tree x.body.value

abbrev pub loop_statement_tree : LoopStatement → Tree
loop_statement_tree x = mark_tree loop_keyword_tree x.keyword ▸ parenthesized_tree x.condition ▸ stmt_tree x.body.value

abbrev pub do_statement_tree : DoStatement → Tree
do_statement_tree x = leaf x.keyword ▸ stmt_tree x.body.value ▸ leaf x.while_keyword ▸ parenthesized_tree x.condition ▸ leaf x.semicolon

abbrev pub function_result_tree : FunctionResult → Tree
function_result_tree (is_function_result.Void keyword name) = left (leaf keyword ▸ leaf name)
function_result_tree (is_function_result.Typed result) = right (typed_name_tree result)

-- the name of the function, which stands behind its result's type
abbrev pub result_name : FunctionResult → ℕ
result_name (is_function_result.Void keyword name) = name
result_name (is_function_result.Typed result) = result.declarator.name

abbrev pub formal_direction_tree : FormalDirection → Tree
formal_direction_tree (is_formal_direction.Value direction) = left (mark_tree dir_tree direction)
formal_direction_tree (is_formal_direction.Reference keyword) = right (leaf keyword)

abbrev pub formal_tree : Formal → Tree
formal_tree x = optional_tree formal_direction_tree x.direction ▸ optional_tree leaf x.variable ▸ typed_name_tree x.parameter

abbrev pub formals_tree : Formals → Tree
formals_tree x = leaf x.opening ▸ optional_row formal_tree leaf x.formals ▸ leaf x.closing

abbrev pub func_tree : Func → Tree
func_tree x = leaf x.keyword ▸ optional_tree (mark_tree lifetime_tree) x.lifetime ▸ function_result_tree x.result_type ▸ optional_tree formals_tree x.formals ▸ leaf x.semicolon ▸ repeated_tree block_item_tree x.items.items ▸ leaf x.end ▸ optional_tree label_tree x.label
