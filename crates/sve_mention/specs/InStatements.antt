-- What statements and functions mention: the labels of their blocks, in the order of the text (IEEE 1800-2017, 9.3.4 and 13.4).
use Rattle.std.specs.Prelude.{List, [], ◌++◌, Option, Some, None}
use Rattle.std.specs.List.{flat_map}
use Rattle.sve_tree.specs.Statements.{result_name}
use Rattle.sve_tree.specs.declared.statement.Stmt.{Stmt}
use Rattle.sve_tree.specs.declared.statement.Block.{Block, Row_of-BlockItem, end_of-BlockItem, more_of-BlockItem}
use Rattle.sve_tree.specs.declared.statement.BlockItem.{BlockItem}
use Rattle.sve_tree.specs.declared.statement.IfStatement.{IfStatement, IfStatement', Held-IfStatement-otherwise, None', Some'}
use Rattle.sve_tree.specs.declared.statement.ElseBranch.{ElseBranch}
use Rattle.sve_tree.specs.declared.statement.CaseStatement.{Row_of-CaseItem, end_of-CaseItem, more_of-CaseItem}
use Rattle.sve_tree.specs.declared.statement.CaseItem.{CaseItem}
use Rattle.sve_tree.specs.declared.statement.Func.{Func}
use Rattle.sve_tree.specs.declared.statement.Stmt.TheVariants as is_stmt
use Rattle.sve_tree.specs.declared.statement.BlockItem.TheVariants as is_block_item
use Rattle.sve_tree.specs.declared.statement.CaseItem.TheVariants as is_case_item
use Rattle.sve_mention.specs.declared.mention.Mention.{Mention}
use Rattle.sve_mention.specs.Labels.{end_label, label_name}

unfoldable mutual
  pub statement_mentions : Stmt → List Mention
  statement_mentions (is_stmt.Block' _ begin label _ items end last) = block_items_mentions items ++ end_label (label_name label) last
  statement_mentions (is_stmt.If' uniqueness _ statement) = if_mentions statement
  statement_mentions (is_stmt.Case' uniqueness _ keyword selector _ items end) = case_items_mentions items
  statement_mentions (is_stmt.For' _ keyword opening initialization first_semicolon condition second_semicolon steps closing _ body) = statement_mentions body
  statement_mentions (is_stmt.Foreach' _ keyword opening array opening_bracket names closing_bracket closing _ body) = statement_mentions body
  statement_mentions (is_stmt.Loop' _ keyword condition _ body) = statement_mentions body
  statement_mentions (is_stmt.Do' _ keyword _ body while_keyword condition semicolon) = statement_mentions body
  statement_mentions statement = []

  pub block_item_mentions : BlockItem → List Mention
  block_item_mentions (is_block_item.Statement statement) = statement_mentions statement
  block_item_mentions declaration = []

  pub if_mentions : IfStatement → List Mention
  if_mentions (IfStatement' keyword condition _ chosen otherwise) = statement_mentions chosen ++ else_mentions otherwise

  pub else_mentions : Held-IfStatement-otherwise → List Mention
  else_mentions None' = []
  else_mentions (Some' keyword _ statement) = statement_mentions statement

  pub case_item_mentions : CaseItem → List Mention
  case_item_mentions (is_case_item.Default' keyword colon _ statement) = statement_mentions statement
  case_item_mentions (is_case_item.Labels' labels colon _ statement) = statement_mentions statement

  pub block_items_mentions : {n : _} → Row_of-BlockItem n → List Mention
  block_items_mentions end_of-BlockItem = []
  block_items_mentions (more_of-BlockItem item rest) = block_item_mentions item ++ block_items_mentions rest

  pub case_items_mentions : {n : _} → Row_of-CaseItem n → List Mention
  case_items_mentions end_of-CaseItem = []
  case_items_mentions (more_of-CaseItem item rest) = case_item_mentions item ++ case_items_mentions rest

abbrev pub block_mentions : Block → List Mention
block_mentions block = flat_map block_item_mentions block.items.items ++ end_label (label_name block.label) block.end_label

-- the branch behind `else`, where there is one
abbrev pub branch_mentions : Option ElseBranch → List Mention
branch_mentions None = []
branch_mentions (Some branch) = statement_mentions branch.statement.value

abbrev pub function_mentions : Func → List Mention
function_mentions function = flat_map block_item_mentions function.items.items ++ end_label (Some (result_name function.result_type)) function.label
