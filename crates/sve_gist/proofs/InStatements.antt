-- What statements and functions mention is what is read off their trees.
use Rattle.std.proofs.Common.{◌≡◌, ℕ, List, [], ◌∷◌, ◌++◌, Option, Some, None, refl, ap, ◌∙◌}
use Rattle.std.specs.List.{flat_map}
use Rattle.sve_grammar.specs.Reading.{Tree, left, right}
use Rattle.sve_tree.specs.Shape.{final, first_tree, others_tree, first_of, others_of, repeated_tree, optional_tree}
use Rattle.sve_tree.specs.Words.{label_tree}
use Rattle.sve_tree.specs.Types.{typed_tree, ranged_tree, scoped_type_tree}
use Rattle.sve_tree.specs.Statements.{stmt_tree, block_item_tree, if_statement_tree, optional_else_branch, case_item_tree, block_item_row, case_item_trees, block_data_tree, function_result_tree, result_name, func_tree}
use Rattle.sve_tree.specs.declared.word.Label.{Label}
use Rattle.sve_tree.specs.declared.row.Row.{Row}
use Rattle.sve_tree.specs.declared.word.PackageScope.{PackageScope}
use Rattle.sve_tree.specs.declared.expression.Dimension.{Dimension}
use Rattle.sve_tree.specs.declared.data_type.TypeRef.{TypeRef}
use Rattle.sve_tree.specs.declared.data_type.Declarator.{Declarator}
use Rattle.sve_tree.specs.declared.data_type.DeclaredType.{DeclaredType}
use Rattle.sve_tree.specs.declared.declaration.InitializedDeclarator.{InitializedDeclarator}
use Rattle.sve_tree.specs.declared.statement.Stmt.{Stmt}
use Rattle.sve_tree.specs.declared.statement.Block.{Row_of-BlockItem, end_of-BlockItem, more_of-BlockItem}
use Rattle.sve_tree.specs.declared.statement.BlockItem.{BlockItem}
use Rattle.sve_tree.specs.declared.statement.IfStatement.{IfStatement, IfStatement', Held-IfStatement-otherwise, None', Some'}
use Rattle.sve_tree.specs.declared.statement.CaseStatement.{Row_of-CaseItem, end_of-CaseItem, more_of-CaseItem}
use Rattle.sve_tree.specs.declared.statement.CaseItem.{CaseItem}
use Rattle.sve_tree.specs.declared.statement.Func.{Func}
use Rattle.sve_tree.specs.declared.statement.FunctionResult.{FunctionResult}
use Rattle.sve_tree.specs.declared.data_type.TypeRef.TheVariants as is_type_ref
use Rattle.sve_tree.specs.declared.data_type.DeclaredType.TheVariants as is_declared_type
use Rattle.sve_tree.specs.declared.statement.Stmt.TheVariants as is_stmt
use Rattle.sve_tree.specs.declared.statement.BlockItem.TheVariants as is_block_item
use Rattle.sve_tree.specs.declared.statement.CaseItem.TheVariants as is_case_item
use Rattle.sve_tree.specs.declared.statement.FunctionResult.TheVariants as is_function_result
use Rattle.sve_mention.specs.declared.mention.Mention.{Mention}
use Rattle.sve_mention.specs.Labels.{end_label, label_name}
use Rattle.sve_mention.specs.InStatements.{statement_mentions, block_item_mentions, if_mentions, else_mentions, case_item_mentions, block_items_mentions, case_items_mentions, function_mentions}
use Rattle.sve_gist.specs.Mentions.{label_in, end_label_in, statement_in, block_item_in, if_in, else_in, case_item_in, block_items_in, case_items_in, typed_name_in, result_name_in, function_in}

infixr 30 ◌⊕◌
-- parts that are the same make the same
pub ◌⊕◌ : {a b c d : List Mention} → a ≡ b → c ≡ d → (a ++ c) ≡ (b ++ d)
◌⊕◌ {a = a} {b = b} {c = c} {d = d} p q = ap (λ (x : List Mention). x ++ c) p ∙ ap (λ (x : List Mention). b ++ x) q

pub label_found : (l : Option Label) → label_in (optional_tree label_tree l) ≡ label_name l
label_found None = refl
label_found (Some l) = refl

pub end_label_found : (n m : Option ℕ) → n ≡ m → (l : Option Label) → end_label_in n (optional_tree label_tree l) ≡ end_label m l
end_label_found n m e None = refl
end_label_found n m e (Some l) = ap (λ (k : Option ℕ). end_label k (Some l)) e

block_data_found : (t : TypeRef) (row : Row InitializedDeclarator ℕ) (i : ℕ) → block_item_in (block_data_tree t row i) ≡ []
unfolding statement_in
block_data_found (is_type_ref.Written data_type) row i = refl
block_data_found (is_type_ref.Named named) row i = refl

mutual
  unfolding stmt_tree statement_mentions statement_in first_tree others_tree repeated_tree

  pub statement_found : (x : Stmt) → statement_in (stmt_tree x) ≡ statement_mentions x
  statement_found (is_stmt.Empty semicolon) = refl
  statement_found (is_stmt.Block' _ begin label _ items end last) = block_items_found items ⊕ end_label_found _ _ (label_found label) last
  statement_found (is_stmt.If' uniqueness _ statement) = if_found statement
  statement_found (is_stmt.Case' uniqueness _ keyword selector _ items end) = case_items_found items
  statement_found (is_stmt.For' _ keyword opening initialization first_semicolon condition second_semicolon steps closing _ body) = statement_found body
  statement_found (is_stmt.Foreach' _ keyword opening array opening_bracket names closing_bracket closing _ body) = statement_found body
  statement_found (is_stmt.Loop' _ keyword condition _ body) = statement_found body
  statement_found (is_stmt.Do' _ keyword _ body while_keyword condition semicolon) = statement_found body
  statement_found (is_stmt.Return statement) = refl
  statement_found (is_stmt.Break keyword semicolon) = refl
  statement_found (is_stmt.Continue keyword semicolon) = refl
  statement_found (is_stmt.SystemTask task) = refl
  statement_found (is_stmt.VoidCall call) = refl
  statement_found (is_stmt.Step statement) = refl
  statement_found (is_stmt.Concatenation assignment) = refl
  statement_found (is_stmt.Name statement) = refl

  pub block_item_found : (x : BlockItem) → block_item_in (block_item_tree x) ≡ block_item_mentions x
  block_item_found (is_block_item.Local lifetime declaration) = refl
  block_item_found (is_block_item.Variable declaration) = refl
  block_item_found (is_block_item.Data declaration) = block_data_found declaration.value.data_type declaration.value.declarators declaration.value.semicolon
  block_item_found (is_block_item.Parameters declaration) = refl
  block_item_found (is_block_item.Typedef declaration) = refl
  block_item_found (is_block_item.NamedData declaration) = refl
  block_item_found (is_block_item.Name statement) = refl
  block_item_found (is_block_item.Statement statement) = statement_found statement

  pub if_found : (x : IfStatement) → if_in (if_statement_tree x) ≡ if_mentions x
  if_found (IfStatement' keyword condition _ chosen otherwise) = statement_found chosen ⊕ else_found otherwise

  pub else_found : (x : Held-IfStatement-otherwise) → else_in (optional_else_branch x) ≡ else_mentions x
  else_found None' = refl
  else_found (Some' keyword _ statement) = statement_found statement

  pub case_item_found : (x : CaseItem) → case_item_in (case_item_tree x) ≡ case_item_mentions x
  case_item_found (is_case_item.Default' keyword colon _ statement) = statement_found statement
  case_item_found (is_case_item.Labels' labels colon _ statement) = statement_found statement

  pub block_items_found : {n : _} (row : Row_of-BlockItem n) → block_items_in (block_item_row row) ≡ block_items_mentions row
  block_items_found end_of-BlockItem = refl
  block_items_found (more_of-BlockItem item rest) = block_item_found item ⊕ block_items_found rest

  pub case_items_found : {n : _} (row : Row_of-CaseItem n) → (case_item_in (first_of (case_item_trees row)) ++ case_items_in (others_of (case_item_trees row))) ≡ case_items_mentions row
  case_items_found end_of-CaseItem = refl
  case_items_found (more_of-CaseItem item rest) = case_item_found item ⊕ case_rest_found rest

  pub case_rest_found : {n : _} (row : Row_of-CaseItem n) → case_items_in (repeated_tree (λ (t : Tree). t) (case_item_trees row)) ≡ case_items_mentions row
  case_rest_found end_of-CaseItem = refl
  case_rest_found (more_of-CaseItem item rest) = case_item_found item ⊕ case_rest_found rest

scoped_found : (s : Option PackageScope) (name : ℕ) (dimensions : List Dimension) (x : Declarator) → typed_name_in (final 3 (scoped_type_tree left right s name dimensions x)) ≡ Some x.name
scoped_found None name dimensions x = refl
scoped_found (Some s) name dimensions x = refl

ranged_found : (dimensions : List Dimension) (x : Declarator) → typed_name_in (ranged_tree right dimensions x) ≡ Some x.name
unfolding ranged_tree
ranged_found [] x = refl
ranged_found (first ∷ others) x = refl

typed_found : (t : DeclaredType) (x : Declarator) → typed_name_in (typed_tree t x) ≡ Some x.name
typed_found (is_declared_type.Explicit (is_type_ref.Written data_type)) x = refl
typed_found (is_declared_type.Explicit (is_type_ref.Named named)) x = scoped_found named.name.scope named.name.name named.dimensions.items x
typed_found (is_declared_type.Implicit (Some sign) dimensions) x = refl
typed_found (is_declared_type.Implicit None dimensions) x = ranged_found dimensions.items x

result_found : (r : FunctionResult) → result_name_in (function_result_tree r) ≡ Some (result_name r)
result_found (is_function_result.Void keyword name) = refl
result_found (is_function_result.Typed result) = typed_found result.data_type result.declarator

block_list_found : (xs : List BlockItem) → block_items_in (repeated_tree block_item_tree xs) ≡ flat_map block_item_mentions xs
unfolding repeated_tree statement_in
block_list_found [] = refl
block_list_found (x ∷ xs) = block_item_found x ⊕ block_list_found xs

pub function_found : (x : Func) → function_in (func_tree x) ≡ function_mentions x
function_found x = block_list_found x.items.items ⊕ end_label_found _ _ (result_found x.result_type) x.label
