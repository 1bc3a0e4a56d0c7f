-- The names that statements use and the scopes that they open, in the order of the text (IEEE 1800-2017, 9.3.1, clause 12 and 23.9).
use Rattle.std.specs.Global.{Box}
use Rattle.std.specs.Prelude.{ℕ, List, [], ◌∷◌, ◌++◌, Option, Some, None}
use Rattle.std.specs.List.{flat_map}
use Rattle.sve_tree.specs.declared.row.Row.{Row}
use Rattle.sve_tree.specs.declared.expression.Expr.{Expr}
use Rattle.sve_tree.specs.declared.statement.Stmt.{Stmt}
use Rattle.sve_tree.specs.declared.statement.Stmt.TheVariants as is_stmt
use Rattle.sve_tree.specs.declared.statement.Block.{Block, Row_of-BlockItem, end_of-BlockItem, more_of-BlockItem}
use Rattle.sve_tree.specs.declared.statement.BlockItem.{BlockItem}
use Rattle.sve_tree.specs.declared.statement.BlockItem.TheVariants as is_block_item
use Rattle.sve_tree.specs.declared.statement.IfStatement.{IfStatement, IfStatement', Held-IfStatement-otherwise, None', Some'}
use Rattle.sve_tree.specs.declared.statement.ElseBranch.{ElseBranch}
use Rattle.sve_tree.specs.declared.statement.CaseStatement.{Row_of-CaseItem, end_of-CaseItem, more_of-CaseItem}
use Rattle.sve_tree.specs.declared.statement.CaseItem.{CaseItem}
use Rattle.sve_tree.specs.declared.statement.CaseItem.TheVariants as is_case_item
use Rattle.sve_tree.specs.declared.statement.ForInitialization.{ForInitialization}
use Rattle.sve_tree.specs.declared.statement.ForInitialization.TheVariants as is_for_initialization
use Rattle.sve_tree.specs.declared.statement.ForStep.{ForStep}
use Rattle.sve_tree.specs.declared.statement.CaseStatement.{CaseStatement}
use Rattle.sve_tree.specs.declared.statement.ForStatement.{ForStatement}
use Rattle.sve_tree.specs.declared.statement.ForeachStatement.{ForeachStatement}
use Rattle.sve_tree.specs.declared.statement.LoopStatement.{LoopStatement}
use Rattle.sve_tree.specs.declared.statement.DoStatement.{DoStatement}
use Rattle.sve_use.specs.Use.{Named, plain}
use Rattle.sve_use.specs.Uses.{uses}
use Rattle.sve_statement_use.specs.Steps.{Closes, DeclaresData, DeclaresIndices, DeclaresLoop, DeclaresNamed, DeclaresNamedLoop, DeclaresParameters, DeclaresType, DeclaresVariables, Does, Opens, Step, Uses, used}
use Rattle.sve_simple_use.specs.Simple.{for_step_uses, name_statement_uses, optional_uses, simple_uses, target_uses}

-- what a `for` does at first: it declares, or it assigns (12.7.1)
abbrev pub initial_steps : ForInitialization → List Step
initial_steps (is_for_initialization.Declared variables) = Does (DeclaresLoop variables.items.items) ∷ []
initial_steps (is_for_initialization.Assigned name selects operator value) = used (target_uses name selects ++ uses value.value)
initial_steps (is_for_initialization.NamedType name selects declarator value) = Does (DeclaresNamedLoop name selects declarator value) ∷ []

-- all labels of an item of a `case`
abbrev pub label_uses : Row Expr ℕ → List Step
label_uses labels = used (flat_map uses labels.items.items)

-- the scope of a `for` begins in front of what stands in its parentheses; what is done after each turn stands behind the condition
abbrev pub for_head_steps : ℕ → ForInitialization → Option (Box Expr) → Row ForStep ℕ → List Step
for_head_steps keyword first condition steps = Does (Opens keyword) ∷ initial_steps first ++ used (optional_uses condition) ++ used (flat_map for_step_uses steps.items.items)

-- the array of a `foreach` is sought around its scope, in which the loop variables are declared (12.7.3)
abbrev pub foreach_head_steps : ℕ → ℕ → Row ℕ ℕ → List Step
foreach_head_steps keyword array names = Uses (Named (plain array)) ∷ Does (Opens keyword) ∷ Does (DeclaresIndices array names.items.items) ∷ []

-- A block, a `for` and a `foreach` have a scope of their own, whatever they declare, which ends behind their last statement.
unfoldable mutual
  pub statement_steps : Stmt → List Step
  statement_steps (is_stmt.Block' _ begin label _ items end end_label) = Does (Opens begin) ∷ block_item_row items ++ Does Closes ∷ []
  statement_steps (is_stmt.If' uniqueness _ statement) = if_steps statement
  statement_steps (is_stmt.Case' uniqueness _ keyword selector _ items end) = used (uses selector.value.value) ++ case_item_row items
  statement_steps (is_stmt.For' _ keyword opening initialization first_semicolon condition second_semicolon steps closing _ body) =
      for_head_steps keyword initialization condition steps ++ statement_steps body ++ Does Closes ∷ []
  statement_steps (is_stmt.Foreach' _ keyword opening array opening_bracket names closing_bracket closing _ body) = foreach_head_steps keyword array names ++ statement_steps body ++ Does Closes ∷ []
  statement_steps (is_stmt.Loop' _ keyword condition _ body) = used (uses condition.value.value) ++ statement_steps body
  statement_steps (is_stmt.Do' _ keyword _ body while_keyword condition semicolon) = statement_steps body ++ used (uses condition.value.value)
  statement_steps statement = used (simple_uses statement)

  -- a declaration is handed on whole
  pub block_item_steps : BlockItem → List Step
  block_item_steps (is_block_item.Local lifetime declaration) = Does (DeclaresData declaration.value) ∷ []
  block_item_steps (is_block_item.Variable declaration) = Does (DeclaresVariables declaration.value) ∷ []
  block_item_steps (is_block_item.Data declaration) = Does (DeclaresData declaration.value) ∷ []
  block_item_steps (is_block_item.Parameters declaration) = Does (DeclaresParameters declaration.value) ∷ []
  block_item_steps (is_block_item.Typedef declaration) = Does (DeclaresType declaration.value) ∷ []
  block_item_steps (is_block_item.NamedData declaration) = Does (DeclaresNamed declaration.value) ∷ []
  block_item_steps (is_block_item.Name statement) = used (name_statement_uses statement.value)
  block_item_steps (is_block_item.Statement statement) = statement_steps statement

  pub block_item_row : {n : _} → Row_of-BlockItem n → List Step
  block_item_row end_of-BlockItem = []
  block_item_row (more_of-BlockItem item rest) = block_item_steps item ++ block_item_row rest

  pub if_steps : IfStatement → List Step
  if_steps (IfStatement' keyword condition _ chosen otherwise) = used (uses condition.value.value) ++ statement_steps chosen ++ else_steps otherwise

  pub else_steps : Held-IfStatement-otherwise → List Step
  else_steps None' = []
  else_steps (Some' keyword _ statement) = statement_steps statement

  pub case_item_steps : CaseItem → List Step
  case_item_steps (is_case_item.Default' keyword colon _ statement) = statement_steps statement
  case_item_steps (is_case_item.Labels' labels colon _ statement) = label_uses labels ++ statement_steps statement

  pub case_item_row : {n : _} → Row_of-CaseItem n → List Step
  case_item_row end_of-CaseItem = []
  case_item_row (more_of-CaseItem item rest) = case_item_steps item ++ case_item_row rest

-- the branch behind `else`, where there is one
abbrev pub branch_steps : Option ElseBranch → List Step
branch_steps None = []
branch_steps (Some branch) = statement_steps branch.statement.value

-- a block in its scope
abbrev pub block_steps : Block → List Step
block_steps block = Does (Opens block.begin) ∷ flat_map block_item_steps block.items.items ++ Does Closes ∷ []

-- ---- the same, of what a statement holds

abbrev pub case_steps : CaseStatement → List Step
case_steps s = used (uses s.selector.value.value) ++ flat_map case_item_steps s.items.items

abbrev pub for_steps_of : ForStatement → List Step
for_steps_of s = for_head_steps s.keyword s.initialization s.condition s.steps ++ statement_steps s.body.value ++ Does Closes ∷ []

abbrev pub foreach_steps : ForeachStatement → List Step
foreach_steps s = foreach_head_steps s.keyword s.array s.names ++ statement_steps s.body.value ++ Does Closes ∷ []

abbrev pub loop_steps : LoopStatement → List Step
loop_steps s = used (uses s.condition.value.value) ++ statement_steps s.body.value

abbrev pub do_steps : DoStatement → List Step
do_steps s = statement_steps s.body.value ++ used (uses s.condition.value.value)
