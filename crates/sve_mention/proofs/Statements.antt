-- What each statement mentions, as its fields are seen from outside.
use Rattle.std.specs.Global.{Box, Vec}
use Rattle.std.proofs.Common.{ℕ, List, [], ◌++◌, Option, ◌≡◌, refl, ap, ◌∙◌}
use Rattle.std.specs.List.{flat_map}
use Rattle.sve_tree.specs.declared.word.Mark.{Mark}
use Rattle.sve_tree.specs.declared.statement.ReturnStatement.{ReturnStatement}
use Rattle.sve_tree.specs.declared.statement.SystemTask.{SystemTask}
use Rattle.sve_tree.specs.declared.statement.VoidCall.{VoidCall}
use Rattle.sve_tree.specs.declared.statement.StepStatement.{StepStatement}
use Rattle.sve_tree.specs.declared.statement.ConcatenationAssignment.{ConcatenationAssignment}
use Rattle.sve_tree.specs.declared.statement.NameStatement.{NameStatement}
use Rattle.sve_tree.specs.declared.statement.NamedDeclaration.{NamedDeclaration}
use Rattle.sve_tree.specs.declared.declaration.DataDeclaration.{DataDeclaration}
use Rattle.sve_tree.specs.declared.declaration.VariableDeclaration.{VariableDeclaration}
use Rattle.sve_tree.specs.declared.declaration.Parameters.{Parameters}
use Rattle.sve_tree.specs.declared.declaration.Typedef.{Typedef}
use Rattle.sve_tree.specs.declared.word.Lifetime.{Lifetime}
use Rattle.sve_tree.specs.declared.word.Uniqueness.{Uniqueness}
use Rattle.sve_tree.specs.declared.row.Row.{Row}
use Rattle.sve_tree.specs.declared.expression.Expr.{Expr}
use Rattle.sve_tree.specs.declared.statement.Stmt.{Stmt}
use Rattle.sve_tree.specs.declared.statement.Block.{Block, Row_of-BlockItem, end_of-BlockItem, items-the_row-BlockItem, more_of-BlockItem}
use Rattle.sve_tree.specs.declared.statement.BlockItem.{BlockItem}
use Rattle.sve_tree.specs.declared.statement.IfStatement.{IfStatement, IfStatement', None', Some', out-IfStatement}
use Rattle.sve_tree.specs.declared.statement.CaseStatement.{CaseStatement, Row_of-CaseItem, end_of-CaseItem, items-the_row-CaseItem, more_of-CaseItem}
use Rattle.sve_tree.specs.declared.statement.CaseItem.{CaseItem}
use Rattle.sve_tree.specs.declared.statement.ForStatement.{ForStatement}
use Rattle.sve_tree.specs.declared.statement.ForeachStatement.{ForeachStatement}
use Rattle.sve_tree.specs.declared.statement.LoopStatement.{LoopStatement}
use Rattle.sve_tree.specs.declared.statement.DoStatement.{DoStatement}
use Rattle.sve_tree.specs.declared.statement.Stmt.TheVariants as is_stmt
use Rattle.sve_tree.specs.declared.statement.BlockItem.TheVariants as is_block_item
use Rattle.sve_tree.specs.declared.statement.CaseItem.TheVariants as is_case_item
use Rattle.sve_tree.specs.declared.statement.BlockItem.TheBlock.{hidden-the_row-BlockItem-0, hidden-the_row-CaseItem-1, items_hidden-the_row-BlockItem-0, items_hidden-the_row-CaseItem-1}
use denote.Hole.Carrier.{out}
use Rattle.sve_mention.specs.declared.mention.Mention.{Mention}
use Rattle.sve_mention.specs.Labels.{end_label, label_name}
use Rattle.sve_mention.specs.InStatements.{statement_mentions, block_item_mentions, if_mentions, case_item_mentions, block_items_mentions, case_items_mentions, block_mentions, branch_mentions}

-- ---- rows

block_items_are : {n : _} (row : Row_of-BlockItem n) → block_items_mentions row ≡ flat_map block_item_mentions (items-the_row-BlockItem n row)
unfolding statement_mentions
block_items_are end_of-BlockItem = refl
block_items_are (more_of-BlockItem item rest) = ap (λ (ms : List Mention). block_item_mentions item ++ ms) (block_items_are rest)

block_items_of : (xs : Vec BlockItem) → block_items_mentions (hidden-the_row-BlockItem-0 xs) ≡ flat_map block_item_mentions xs.items
block_items_of xs = block_items_are (hidden-the_row-BlockItem-0 xs) ∙ ap (flat_map block_item_mentions) (items_hidden-the_row-BlockItem-0 xs)

case_items_are : {n : _} (row : Row_of-CaseItem n) → case_items_mentions row ≡ flat_map case_item_mentions (items-the_row-CaseItem n row)
unfolding statement_mentions
case_items_are end_of-CaseItem = refl
case_items_are (more_of-CaseItem item rest) = ap (λ (ms : List Mention). case_item_mentions item ++ ms) (case_items_are rest)

case_items_of : (xs : Vec CaseItem) → case_items_mentions (hidden-the_row-CaseItem-1 xs) ≡ flat_map case_item_mentions xs.items
case_items_of xs = case_items_are (hidden-the_row-CaseItem-1 xs) ∙ ap (flat_map case_item_mentions) (items_hidden-the_row-CaseItem-1 xs)

-- ---- statements

pub of_block : (block : Box Block) → statement_mentions (is_stmt.Block block) ≡ block_mentions block.value
unfolding statement_mentions
of_block block = ap (λ (ms : List Mention). ms ++ end_label (label_name block.value.label) block.value.end_label) (block_items_of block.value.items)

pub of_if : (uniqueness : Option (Mark Uniqueness)) (statement : Box IfStatement) → statement_mentions (is_stmt.If uniqueness statement) ≡ if_mentions statement.value
unfolding statement_mentions
of_if uniqueness statement = refl

pub of_case : (uniqueness : Option (Mark Uniqueness)) (statement : Box CaseStatement) → statement_mentions (is_stmt.Case uniqueness statement) ≡ flat_map case_item_mentions statement.value.items.items
unfolding statement_mentions
of_case uniqueness statement = case_items_of statement.value.items

pub of_for : (statement : Box ForStatement) → statement_mentions (is_stmt.For statement) ≡ statement_mentions statement.value.body.value
unfolding statement_mentions
of_for statement = refl

pub of_foreach : (statement : Box ForeachStatement) → statement_mentions (is_stmt.Foreach statement) ≡ statement_mentions statement.value.body.value
unfolding statement_mentions
of_foreach statement = refl

pub of_loop : (statement : Box LoopStatement) → statement_mentions (is_stmt.Loop statement) ≡ statement_mentions statement.value.body.value
unfolding statement_mentions
of_loop statement = refl

pub of_do : (statement : Box DoStatement) → statement_mentions (is_stmt.Do statement) ≡ statement_mentions statement.value.body.value
unfolding statement_mentions
of_do statement = refl

-- statements without a statement of their own
pub of_empty : (semicolon : ℕ) → statement_mentions (is_stmt.Empty semicolon) ≡ []
unfolding statement_mentions
of_empty semicolon = refl

pub of_return : (statement : Box ReturnStatement) → statement_mentions (is_stmt.Return statement) ≡ []
unfolding statement_mentions
of_return statement = refl

pub of_break : (keyword : ℕ) (semicolon : ℕ) → statement_mentions (is_stmt.Break keyword semicolon) ≡ []
unfolding statement_mentions
of_break keyword semicolon = refl

pub of_continue : (keyword : ℕ) (semicolon : ℕ) → statement_mentions (is_stmt.Continue keyword semicolon) ≡ []
unfolding statement_mentions
of_continue keyword semicolon = refl

pub of_system_task : (task : Box SystemTask) → statement_mentions (is_stmt.SystemTask task) ≡ []
unfolding statement_mentions
of_system_task task = refl

pub of_void_call : (call : Box VoidCall) → statement_mentions (is_stmt.VoidCall call) ≡ []
unfolding statement_mentions
of_void_call call = refl

pub of_step : (statement : Box StepStatement) → statement_mentions (is_stmt.Step statement) ≡ []
unfolding statement_mentions
of_step statement = refl

pub of_concatenation : (assignment : Box ConcatenationAssignment) → statement_mentions (is_stmt.Concatenation assignment) ≡ []
unfolding statement_mentions
of_concatenation assignment = refl

pub of_name : (statement : Box NameStatement) → statement_mentions (is_stmt.Name statement) ≡ []
unfolding statement_mentions
of_name statement = refl

-- ---- their parts

pub of_local : (lifetime : Mark Lifetime) (declaration : Box DataDeclaration) → block_item_mentions (is_block_item.Local lifetime declaration) ≡ []
unfolding statement_mentions
of_local lifetime declaration = refl

pub of_variable : (declaration : Box VariableDeclaration) → block_item_mentions (is_block_item.Variable declaration) ≡ []
unfolding statement_mentions
of_variable declaration = refl

pub of_data : (declaration : Box DataDeclaration) → block_item_mentions (is_block_item.Data declaration) ≡ []
unfolding statement_mentions
of_data declaration = refl

pub of_parameters : (declaration : Box Parameters) → block_item_mentions (is_block_item.Parameters declaration) ≡ []
unfolding statement_mentions
of_parameters declaration = refl

pub of_typedef : (declaration : Box Typedef) → block_item_mentions (is_block_item.Typedef declaration) ≡ []
unfolding statement_mentions
of_typedef declaration = refl

pub of_named_data : (declaration : Box NamedDeclaration) → block_item_mentions (is_block_item.NamedData declaration) ≡ []
unfolding statement_mentions
of_named_data declaration = refl

pub of_name_item : (statement : Box NameStatement) → block_item_mentions (is_block_item.Name statement) ≡ []
unfolding statement_mentions
of_name_item statement = refl

pub of_statement : (statement : Stmt) → block_item_mentions (is_block_item.Statement statement) ≡ statement_mentions statement
unfolding statement_mentions
of_statement statement = refl

pub of_default : (keyword : ℕ) (colon : Option ℕ) (statement : Box Stmt) → case_item_mentions (is_case_item.Default keyword colon statement) ≡ statement_mentions statement.value
unfolding statement_mentions
of_default keyword colon statement = refl

pub of_labels : (labels : Row Expr ℕ) (colon : ℕ) (statement : Box Stmt) → case_item_mentions (is_case_item.Labels labels colon statement) ≡ statement_mentions statement.value
unfolding statement_mentions
of_labels labels colon statement = refl

pub of_branches : (statement : IfStatement) → if_mentions statement ≡ statement_mentions (out-IfStatement statement).chosen.value ++ branch_mentions (out-IfStatement statement).otherwise
unfolding statement_mentions out-IfStatement out
of_branches (IfStatement' keyword condition p chosen None') = refl
of_branches (IfStatement' keyword condition p chosen (Some' keyword_2 q statement)) = refl
