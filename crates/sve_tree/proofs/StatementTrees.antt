-- The tree of each variant: statements.
use Rattle.std.specs.Global.{Box, Vec}
use Rattle.std.proofs.Common.{ℕ, List, ◌∷◌, map, Option, Some, None, ◌≡◌, refl, ap, ◌∙◌}
use Rattle.sve_grammar.specs.Reading.{Tree, leaf, left, right, turn}
use Rattle.sve_tree.specs.Shape.{◌▸◌, way, final, optional_tree, repeated_tree, first_tree, others_tree, first_of, others_of, row_first, row_rest, mark_tree}
use Rattle.sve_tree.proofs.Shapes.{first_map, others_map}
use denote.Hole.Carrier.{roll}
use Rattle.sve_tree.specs.declared.row.Row.{Row}
use Rattle.sve_tree.specs.declared.word.Mark.{Mark}
use Rattle.sve_tree.specs.declared.word.Lifetime.{Lifetime}
use Rattle.sve_tree.specs.declared.word.Uniqueness.{Uniqueness}
use Rattle.sve_tree.specs.Words.{lifetime_tree, scoped_name_tree, label_tree, uniqueness_tree}
use Rattle.sve_tree.specs.declared.expression.Expr.{Expr}
use Rattle.sve_tree.specs.declared.expression.Parenthesized.{Parenthesized}
use Rattle.sve_tree.specs.Expressions.{parenthesized_tree, select_tree, tree_at}
use Rattle.sve_tree.specs.declared.declaration.Parameters.{Parameters}
use Rattle.sve_tree.specs.declared.declaration.Typedef.{Typedef}
use Rattle.sve_tree.specs.declared.declaration.VariableDeclaration.{VariableDeclaration}
use Rattle.sve_tree.specs.declared.declaration.DataDeclaration.{DataDeclaration}
use Rattle.sve_tree.specs.Declarations.{parameters_tree, typedef_tree, variable_declaration_tree}
use Rattle.sve_tree.specs.Statements.{statement_tail_tree, stmt_tree, block_tree, block_item_tree, local_tree, block_data_tree, named_declaration_tree, if_statement_tree, else_branch_tree, case_statement_tree, case_item_tree, for_statement_tree, foreach_statement_tree, loop_statement_tree, do_statement_tree, return_statement_tree, system_task_tree, void_call_tree, step_statement_tree, concatenation_assignment_tree, name_statement_tree, block_item_row, case_item_trees}
use Rattle.sve_tree.specs.declared.statement.Stmt.{Stmt}
use Rattle.sve_tree.specs.declared.statement.Block.{Block, Row_of-BlockItem, end_of-BlockItem, items-the_row-BlockItem, more_of-BlockItem}
use Rattle.sve_tree.specs.declared.statement.BlockItem.{BlockItem}
use Rattle.sve_tree.specs.declared.statement.NamedDeclaration.{NamedDeclaration}
use Rattle.sve_tree.specs.declared.statement.IfStatement.{IfStatement, roll-IfStatement}
use Rattle.sve_tree.specs.declared.statement.ElseBranch.{ElseBranch}
use Rattle.sve_tree.specs.declared.statement.CaseStatement.{CaseStatement, Row_of-CaseItem, end_of-CaseItem, items-the_row-CaseItem, more_of-CaseItem}
use Rattle.sve_tree.specs.declared.statement.CaseItem.{CaseItem}
use Rattle.sve_tree.specs.declared.statement.ForStatement.{ForStatement}
use Rattle.sve_tree.specs.declared.statement.ForeachStatement.{ForeachStatement}
use Rattle.sve_tree.specs.declared.statement.LoopStatement.{LoopStatement}
use Rattle.sve_tree.specs.declared.statement.DoStatement.{DoStatement}
use Rattle.sve_tree.specs.declared.statement.ReturnStatement.{ReturnStatement}
use Rattle.sve_tree.specs.declared.statement.SystemTask.{SystemTask}
use Rattle.sve_tree.specs.declared.statement.VoidCall.{VoidCall}
use Rattle.sve_tree.specs.declared.statement.StepStatement.{StepStatement}
use Rattle.sve_tree.specs.declared.statement.ConcatenationAssignment.{ConcatenationAssignment}
use Rattle.sve_tree.specs.declared.statement.NameStatement.{NameStatement}
use Rattle.sve_tree.specs.declared.statement.BlockItem.TheBlock.{hidden-the_row-BlockItem-0, hidden-the_row-CaseItem-1, items_hidden-the_row-BlockItem-0, items_hidden-the_row-CaseItem-1}
use Rattle.sve_tree.specs.declared.statement.Stmt.TheVariants as is_stmt
use Rattle.sve_tree.specs.declared.statement.BlockItem.TheVariants as is_block_item
use Rattle.sve_tree.specs.declared.statement.CaseItem.TheVariants as is_case_item

-- ---- rows

block_item_row_is : {n : _} (row : Row_of-BlockItem n) → block_item_row row ≡ repeated_tree block_item_tree (items-the_row-BlockItem n row)
unfolding stmt_tree repeated_tree
block_item_row_is end_of-BlockItem = refl
block_item_row_is (more_of-BlockItem block_item rest) = ap (λ (t : Tree). turn (block_item_tree block_item) t) (block_item_row_is rest)

pub block_item_row_of : (xs : Vec BlockItem) → block_item_row (hidden-the_row-BlockItem-0 xs) ≡ repeated_tree block_item_tree xs.items
block_item_row_of xs = block_item_row_is (hidden-the_row-BlockItem-0 xs) ∙ ap (repeated_tree block_item_tree) (items_hidden-the_row-BlockItem-0 xs)

case_item_trees_are : {n : _} (row : Row_of-CaseItem n) → case_item_trees row ≡ map case_item_tree (items-the_row-CaseItem n row)
unfolding stmt_tree
case_item_trees_are end_of-CaseItem = refl
case_item_trees_are (more_of-CaseItem item rest) = ap (λ (ts : List Tree). case_item_tree item ∷ ts) (case_item_trees_are rest)

case_item_trees_of : (xs : Vec CaseItem) → case_item_trees (hidden-the_row-CaseItem-1 xs) ≡ map case_item_tree xs.items
case_item_trees_of xs = case_item_trees_are (hidden-the_row-CaseItem-1 xs) ∙ ap (map case_item_tree) (items_hidden-the_row-CaseItem-1 xs)

pub case_items_first : (xs : Vec CaseItem) → first_of (case_item_trees (hidden-the_row-CaseItem-1 xs)) ≡ first_tree case_item_tree xs.items
case_items_first xs = ap first_of (case_item_trees_of xs) ∙ first_map case_item_tree xs.items

pub case_items_others : (xs : Vec CaseItem) → others_of (case_item_trees (hidden-the_row-CaseItem-1 xs)) ≡ others_tree case_item_tree xs.items
case_items_others xs = ap others_of (case_item_trees_of xs) ∙ others_map case_item_tree xs.items

-- ---- stmt

pub empty_stmt : (semicolon : ℕ) → stmt_tree (is_stmt.Empty semicolon) ≡ way 0 (leaf semicolon)
unfolding stmt_tree
empty_stmt semicolon = refl

pub block_stmt : (block : Box Block) → stmt_tree (is_stmt.Block block) ≡ way 1 (block_tree block.value)
unfolding stmt_tree
block_stmt block = ap (λ (t : Tree). way 1 (leaf block.value.begin ▸ optional_tree label_tree block.value.label ▸ t ▸ leaf block.value.end ▸ optional_tree label_tree block.value.end_label)) (block_item_row_of block.value.items)

pub if_stmt : (uniqueness : Option (Mark Uniqueness)) (statement : Box IfStatement) → stmt_tree (is_stmt.If uniqueness statement) ≡ way 2 (optional_tree (mark_tree uniqueness_tree) uniqueness ▸ left (if_statement_tree statement.value))
unfolding stmt_tree
if_stmt uniqueness statement = refl

pub case_stmt : (uniqueness : Option (Mark Uniqueness)) (statement : Box CaseStatement) → stmt_tree (is_stmt.Case uniqueness statement) ≡ way 2 (optional_tree (mark_tree uniqueness_tree) uniqueness ▸ right (case_statement_tree statement.value))
unfolding stmt_tree
case_stmt uniqueness statement = rw (case_items_first statement.value.items, case_items_others statement.value.items) refl

pub for_stmt : (statement : Box ForStatement) → stmt_tree (is_stmt.For statement) ≡ way 3 (for_statement_tree statement.value)
unfolding stmt_tree
for_stmt statement = refl

pub foreach_stmt : (statement : Box ForeachStatement) → stmt_tree (is_stmt.Foreach statement) ≡ way 4 (foreach_statement_tree statement.value)
unfolding stmt_tree
foreach_stmt statement = refl

pub loop_stmt : (statement : Box LoopStatement) → stmt_tree (is_stmt.Loop statement) ≡ way 5 (loop_statement_tree statement.value)
unfolding stmt_tree
loop_stmt statement = refl

pub do_stmt : (statement : Box DoStatement) → stmt_tree (is_stmt.Do statement) ≡ way 6 (do_statement_tree statement.value)
unfolding stmt_tree
do_stmt statement = refl

pub return_stmt : (statement : Box ReturnStatement) → stmt_tree (is_stmt.Return statement) ≡ way 7 (return_statement_tree statement.value)
unfolding stmt_tree
return_stmt statement = refl

pub break_stmt : (keyword : ℕ) (semicolon : ℕ) → stmt_tree (is_stmt.Break keyword semicolon) ≡ way 8 (leaf keyword ▸ leaf semicolon)
unfolding stmt_tree
break_stmt keyword semicolon = refl

pub continue_stmt : (keyword : ℕ) (semicolon : ℕ) → stmt_tree (is_stmt.Continue keyword semicolon) ≡ way 9 (leaf keyword ▸ leaf semicolon)
unfolding stmt_tree
continue_stmt keyword semicolon = refl

pub system_task_stmt : (task : Box SystemTask) → stmt_tree (is_stmt.SystemTask task) ≡ way 10 (system_task_tree task.value)
unfolding stmt_tree
system_task_stmt task = refl

pub void_call_stmt : (call : Box VoidCall) → stmt_tree (is_stmt.VoidCall call) ≡ way 11 (void_call_tree call.value)
unfolding stmt_tree
void_call_stmt call = refl

pub step_stmt : (statement : Box StepStatement) → stmt_tree (is_stmt.Step statement) ≡ way 12 (step_statement_tree statement.value)
unfolding stmt_tree
step_stmt statement = refl

pub concatenation_stmt : (assignment : Box ConcatenationAssignment) → stmt_tree (is_stmt.Concatenation assignment) ≡ way 13 (concatenation_assignment_tree assignment.value)
unfolding stmt_tree
concatenation_stmt assignment = refl

pub name_stmt : (statement : Box NameStatement) → stmt_tree (is_stmt.Name statement) ≡ final 14 (name_statement_tree statement.value)
unfolding stmt_tree
name_stmt statement = refl

-- ---- block item

pub local_block_item : (lifetime : Mark Lifetime) (declaration : Box DataDeclaration) → block_item_tree (is_block_item.Local lifetime declaration) ≡ way 0 (mark_tree lifetime_tree lifetime ▸ local_tree declaration.value.data_type declaration.value.declarators ▸ leaf declaration.value.semicolon)
unfolding stmt_tree
local_block_item lifetime declaration = refl

pub variable_block_item : (declaration : Box VariableDeclaration) → block_item_tree (is_block_item.Variable declaration) ≡ way 1 (variable_declaration_tree declaration.value)
unfolding stmt_tree
variable_block_item declaration = refl

pub data_block_item : (declaration : Box DataDeclaration) → block_item_tree (is_block_item.Data declaration) ≡ block_data_tree declaration.value.data_type declaration.value.declarators declaration.value.semicolon
unfolding stmt_tree
data_block_item declaration = refl

pub parameters_block_item : (declaration : Box Parameters) → block_item_tree (is_block_item.Parameters declaration) ≡ way 3 (parameters_tree declaration.value)
unfolding stmt_tree
parameters_block_item declaration = refl

pub typedef_block_item : (declaration : Box Typedef) → block_item_tree (is_block_item.Typedef declaration) ≡ way 4 (typedef_tree declaration.value)
unfolding stmt_tree
typedef_block_item declaration = refl

pub named_data_block_item : (declaration : Box NamedDeclaration) → block_item_tree (is_block_item.NamedData declaration) ≡ way 5 (named_declaration_tree declaration.value)
unfolding stmt_tree
named_data_block_item declaration = refl

pub name_block_item : (statement : Box NameStatement) → block_item_tree (is_block_item.Name statement) ≡ way 5 (scoped_name_tree statement.value.name ▸ repeated_tree select_tree statement.value.selects.items ▸ left (statement_tail_tree statement.value.tail) ▸ leaf statement.value.semicolon)
unfolding stmt_tree
name_block_item statement = refl

pub statement_block_item : (statement : Stmt) → block_item_tree (is_block_item.Statement statement) ≡ final 6 (stmt_tree statement)
unfolding stmt_tree
statement_block_item statement = refl

-- ---- if statement

pub if_statement_made : (keyword : ℕ) (condition : Parenthesized) (chosen : Box Stmt) (otherwise : Option ElseBranch) → if_statement_tree (roll-IfStatement (record { keyword = keyword; condition = condition; chosen = chosen; otherwise = otherwise })) ≡ leaf keyword ▸ parenthesized_tree condition ▸ stmt_tree chosen.value ▸ optional_tree else_branch_tree otherwise
unfolding stmt_tree roll-IfStatement roll
if_statement_made keyword condition chosen None = refl
if_statement_made keyword condition chosen (Some otherwise) = refl

-- ---- case item

pub default_case_item : (keyword : ℕ) (colon : Option ℕ) (statement : Box Stmt) → case_item_tree (is_case_item.Default keyword colon statement) ≡ left (leaf keyword ▸ optional_tree leaf colon ▸ stmt_tree statement.value)
unfolding stmt_tree
default_case_item keyword colon statement = refl

pub labels_case_item : (labels : Row Expr ℕ) (colon : ℕ) (statement : Box Stmt) → case_item_tree (is_case_item.Labels labels colon statement) ≡ right (row_first (tree_at 13) labels ▸ row_rest (tree_at 13) leaf labels ▸ leaf colon ▸ stmt_tree statement.value)
unfolding stmt_tree
labels_case_item labels colon statement = refl
