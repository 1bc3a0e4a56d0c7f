-- What items and chunks mention is what is read off their trees.
use Rattle.std.proofs.Common.{◌≡◌, ℕ, List, [], ◌∷◌, ◌++◌, Option, Some, None, refl}
use Rattle.std.specs.List.{flat_map}
use Rattle.sve_grammar.specs.Reading.{Tree, leaf, pair}
use Rattle.sve_tree.specs.Shape.{final, first_tree, others_tree, first_of, others_of, repeated_tree, optional_tree}
use Rattle.sve_tree.specs.Items.{item_tree, generate_block_tree, if_generate_tree, optional_else_generate, case_generate_item_tree, item_row, case_generate_item_trees, data_item_tree, named_data_tree, scoped_data_tree, instances_tree}
use Rattle.sve_tree.specs.Elements.{unit_item_tree, definition_tree, package_tree, design_tree, element_tree}
use Rattle.sve_tree.specs.declared.row.Row.{Row}
use Rattle.sve_tree.specs.declared.word.PackageScope.{PackageScope}
use Rattle.sve_tree.specs.declared.expression.Dimension.{Dimension}
use Rattle.sve_tree.specs.declared.data_type.TypeRef.{TypeRef}
use Rattle.sve_tree.specs.declared.declaration.InitializedDeclarator.{InitializedDeclarator}
use Rattle.sve_tree.specs.declared.item.Item.{Item}
use Rattle.sve_tree.specs.declared.item.Instance.{Instance}
use Rattle.sve_tree.specs.declared.item.Overrides.{Overrides}
use Rattle.sve_tree.specs.declared.item.GenerateRegion.{Row_of-Item, end_of-Item, more_of-Item}
use Rattle.sve_tree.specs.declared.item.GenerateBlock.{GenerateBlock}
use Rattle.sve_tree.specs.declared.item.IfGenerate.{IfGenerate, IfGenerate', Held-IfGenerate-otherwise, None', Some'}
use Rattle.sve_tree.specs.declared.item.CaseGenerate.{Row_of-CaseGenerateItem, end_of-CaseGenerateItem, more_of-CaseGenerateItem}
use Rattle.sve_tree.specs.declared.item.CaseGenerateItem.{CaseGenerateItem}
use Rattle.sve_tree.specs.declared.element.Element.{Element}
use Rattle.sve_tree.specs.declared.element.UnitItem.{UnitItem}
use Rattle.sve_tree.specs.declared.element.Design.{Design}
use Rattle.sve_tree.specs.declared.element.Definition.{Definition}
use Rattle.sve_tree.specs.declared.element.Package.{Package}
use Rattle.sve_tree.specs.declared.data_type.TypeRef.TheVariants as is_type_ref
use Rattle.sve_tree.specs.declared.item.Item.TheVariants as is_item
use Rattle.sve_tree.specs.declared.item.GenerateBlock.TheVariants as is_generate_block
use Rattle.sve_tree.specs.declared.item.CaseGenerateItem.TheVariants as is_case_generate_item
use Rattle.sve_tree.specs.declared.element.UnitItem.TheVariants as is_unit_item
use Rattle.sve_tree.specs.declared.element.Design.TheVariants as is_design
use Rattle.sve_mention.specs.declared.mention.Mention.TheVariants as is_mention
use Rattle.sve_mention.specs.InItems.{item_mentions, generate_block_mentions, if_generate_mentions, else_generate_mentions, case_generate_item_mentions, items_mentions, case_generate_items_mentions}
use Rattle.sve_mention.specs.InElements.{unit_item_mentions, definition_mentions, package_mentions, design_mentions, optional_design_mentions, element_mentions}
use Rattle.sve_gist.specs.Mentions.{item_in, block_in, if_generate_in, else_generate_in, choice_in, items_in, choices_in, unit_item_in, unit_items_in, definition_in, package_in, design_in, optional_design_in, mentions_in}
use Rattle.sve_gist.proofs.InStatements.{◌⊕◌, label_found, end_label_found, statement_found, function_found}

named_found : (name : ℕ) (dimensions : List Dimension) (row : Row InitializedDeclarator ℕ) (i : ℕ) → item_in (final 18 (pair (leaf name) (named_data_tree dimensions row i))) ≡ []
unfolding item_in named_data_tree
named_found name [] row i = refl
named_found name (first ∷ others) row i = refl

scoped_found : (s : Option PackageScope) (name : ℕ) (dimensions : List Dimension) (row : Row InitializedDeclarator ℕ) (i : ℕ) → item_in (final 18 (scoped_data_tree s name dimensions row i)) ≡ []
unfolding item_in
scoped_found None name dimensions row i = named_found name dimensions row i
scoped_found (Some s) name dimensions row i = refl

data_found : (t : TypeRef) (row : Row InitializedDeclarator ℕ) (i : ℕ) → item_in (data_item_tree t row i) ≡ []
unfolding item_in
data_found (is_type_ref.Written data_type) row i = refl
data_found (is_type_ref.Named named) row i = scoped_found named.name.scope named.name.name named.dimensions.items row i

instances_found : (definition : ℕ) (overrides : Option Overrides) (row : Row Instance ℕ) (i : ℕ) → item_in (final 18 (pair (leaf definition) (instances_tree overrides row i))) ≡ is_mention.Instance definition ∷ []
unfolding item_in
instances_found definition None row i = refl
instances_found definition (Some overrides) row i = refl

mutual
  unfolding item_tree item_mentions item_in first_tree others_tree repeated_tree

  pub item_found : (x : Item) → item_in (item_tree x) ≡ item_mentions x
  item_found (is_item.Empty semicolon) = refl
  item_found (is_item.Import declaration) = refl
  item_found (is_item.Parameters declaration) = refl
  item_found (is_item.Typedef declaration) = refl
  item_found (is_item.Function function) = function_found function.value
  item_found (is_item.Genvars declaration) = refl
  item_found (is_item.Net declaration) = refl
  item_found (is_item.Variable declaration) = refl
  item_found (is_item.Data declaration) = data_found declaration.value.data_type declaration.value.declarators declaration.value.semicolon
  item_found (is_item.Assign assignments) = refl
  item_found (is_item.Clocked procedure) = statement_found procedure.value.statement.value
  item_found (is_item.Plain procedure) = statement_found procedure.value.statement.value
  item_found (is_item.Region' _ keyword _ items end) = items_found items
  item_found (is_item.LoopGenerate' _ keyword opening genvar name equals start first_semicolon condition second_semicolon step closing block) = block_found block
  item_found (is_item.IfGenerate' _ construct) = if_generate_found construct
  item_found (is_item.CaseGenerate' _ keyword selector _ items end) = choices_found items
  item_found (is_item.Modports declaration) = refl
  item_found (is_item.SystemTask task) = refl
  item_found (is_item.Instances instantiation) = instances_found instantiation.value.definition instantiation.value.overrides instantiation.value.instances instantiation.value.semicolon

  pub block_found : (x : GenerateBlock) → block_in (generate_block_tree x) ≡ generate_block_mentions x
  block_found (is_generate_block.Block' _ begin label _ items end last) = items_found items ⊕ end_label_found _ _ (label_found label) last
  block_found (is_generate_block.Item' _ item) = item_found item

  pub if_generate_found : (x : IfGenerate) → if_generate_in (if_generate_tree x) ≡ if_generate_mentions x
  if_generate_found (IfGenerate' keyword condition chosen otherwise) = block_found chosen ⊕ else_generate_found otherwise

  pub else_generate_found : (x : Held-IfGenerate-otherwise) → else_generate_in (optional_else_generate x) ≡ else_generate_mentions x
  else_generate_found None' = refl
  else_generate_found (Some' keyword block) = block_found block

  pub choice_found : (x : CaseGenerateItem) → choice_in (case_generate_item_tree x) ≡ case_generate_item_mentions x
  choice_found (is_case_generate_item.Default keyword colon block) = block_found block
  choice_found (is_case_generate_item.Labels labels colon block) = block_found block

  pub items_found : {n : _} (row : Row_of-Item n) → items_in (item_row row) ≡ items_mentions row
  items_found end_of-Item = refl
  items_found (more_of-Item item rest) = item_found item ⊕ items_found rest

  pub choices_found : {n : _} (row : Row_of-CaseGenerateItem n) → (choice_in (first_of (case_generate_item_trees row)) ++ choices_in (others_of (case_generate_item_trees row))) ≡ case_generate_items_mentions row
  choices_found end_of-CaseGenerateItem = refl
  choices_found (more_of-CaseGenerateItem item rest) = choice_found item ⊕ choice_rest_found rest

  pub choice_rest_found : {n : _} (row : Row_of-CaseGenerateItem n) → choices_in (repeated_tree (λ (t : Tree). t) (case_generate_item_trees row)) ≡ case_generate_items_mentions row
  choice_rest_found end_of-CaseGenerateItem = refl
  choice_rest_found (more_of-CaseGenerateItem item rest) = choice_found item ⊕ choice_rest_found rest

item_list_found : (xs : List Item) → items_in (repeated_tree item_tree xs) ≡ flat_map item_mentions xs
unfolding repeated_tree item_in
item_list_found [] = refl
item_list_found (x ∷ xs) = item_found x ⊕ item_list_found xs

unit_item_found : (x : UnitItem) → unit_item_in (unit_item_tree x) ≡ unit_item_mentions x
unit_item_found (is_unit_item.Empty semicolon) = refl
unit_item_found (is_unit_item.Import declaration) = refl
unit_item_found (is_unit_item.Parameters declaration) = refl
unit_item_found (is_unit_item.Typedef declaration) = refl
unit_item_found (is_unit_item.Function function) = function_found function.value

unit_list_found : (xs : List UnitItem) → unit_items_in (repeated_tree unit_item_tree xs) ≡ flat_map unit_item_mentions xs
unfolding repeated_tree unit_items_in
unit_list_found [] = refl
unit_list_found (x ∷ xs) = unit_item_found x ⊕ unit_list_found xs

definition_found : (x : Definition) → definition_in (definition_tree x) ≡ definition_mentions x
definition_found x = item_list_found x.items.items ⊕ end_label_found _ _ refl x.label

package_found : (x : Package) → package_in (package_tree x) ≡ package_mentions x
package_found x = unit_list_found x.items.items ⊕ end_label_found _ _ refl x.label

design_found : (x : Design) → design_in (design_tree x) ≡ design_mentions x
design_found (is_design.Module keyword definition) = definition_found definition.value
design_found (is_design.Interface keyword definition) = definition_found definition.value
design_found (is_design.Package unit) = package_found unit.value

optional_design_found : (x : Option Design) → optional_design_in (optional_tree design_tree x) ≡ optional_design_mentions x
optional_design_found None = refl
optional_design_found (Some x) = design_found x

pub mentions_found : (x : Element) → mentions_in (element_tree x) ≡ element_mentions x
mentions_found x = unit_list_found x.items.items ⊕ optional_design_found x.design
