-- The trees of items of modules and interfaces (IEEE 1800-2017, A.1.4, A.4 and A.6.1).
use Rattle.std.specs.Prelude.{ℕ, List, [], ◌∷◌, Option, Some, None}
use Rattle.sve_grammar.specs.Reading.{Tree, leaf, none, left, right, turn, ended}
use Rattle.sve_tree.specs.Shape.{◌▸◌, way, final, optional_tree, repeated_tree, first_of, others_of, first_tree, others_tree, row_first, row_rest, row_tree, mark_tree}
use Rattle.sve_tree.specs.Words.{step_operator_tree, label_tree, clocked_keyword_tree, plain_keyword_tree, edge_tree, event_separator_tree}
use Rattle.sve_tree.specs.Expressions.{parenthesized_tree, dimension_tree, select_tree, argument_list_tree, tree_at}
use Rattle.sve_tree.specs.Types.{data_type_tree, declarator_tree}
use Rattle.sve_tree.specs.Declarations.{parameters_tree, typedef_tree, import_tree, modport_tree, first_declarator, declaration_end_tree, net_declaration_tree, variable_declaration_tree}
use Rattle.sve_tree.specs.Statements.{left_side_tree, change_tree, stmt_tree, system_task_tree, func_tree}
use Rattle.sve_tree.specs.declared.row.Row.{Row}
use Rattle.sve_tree.specs.declared.word.PackageScope.{PackageScope}
use Rattle.sve_tree.specs.declared.data_type.Declarator.{Declarator}
use Rattle.sve_tree.specs.declared.data_type.TypeRef.{TypeRef}
use Rattle.sve_tree.specs.declared.declaration.InitializedDeclarator.{InitializedDeclarator}
use Rattle.sve_tree.specs.declared.expression.Dimension.{Dimension}
use Rattle.sve_tree.specs.declared.item.Item.{Item}
use Rattle.sve_tree.specs.declared.item.GenvarDeclaration.{GenvarDeclaration}
use Rattle.sve_tree.specs.declared.item.ContinuousAssign.{ContinuousAssign}
use Rattle.sve_tree.specs.declared.item.NetAssignment.{NetAssignment}
use Rattle.sve_tree.specs.declared.item.ClockedProcedure.{ClockedProcedure}
use Rattle.sve_tree.specs.declared.item.PlainProcedure.{PlainProcedure}
use Rattle.sve_tree.specs.declared.item.EventControl.{EventControl}
use Rattle.sve_tree.specs.declared.item.Event.{Event}
use Rattle.sve_tree.specs.declared.item.GenerateRegion.{GenerateRegion, Row_of-Item, end_of-Item, more_of-Item}
use Rattle.sve_tree.specs.declared.item.GenerateBlock.{GenerateBlock}
use Rattle.sve_tree.specs.declared.item.GenerateBody.{GenerateBody}
use Rattle.sve_tree.specs.declared.item.LoopGenerate.{LoopGenerate}
use Rattle.sve_tree.specs.declared.item.GenvarStep.{GenvarStep}
use Rattle.sve_tree.specs.declared.item.IfGenerate.{IfGenerate, IfGenerate', Held-IfGenerate-otherwise, None', Some'}
use Rattle.sve_tree.specs.declared.item.ElseGenerate.{ElseGenerate}
use Rattle.sve_tree.specs.declared.item.CaseGenerate.{CaseGenerate, Row_of-CaseGenerateItem, end_of-CaseGenerateItem, more_of-CaseGenerateItem}
use Rattle.sve_tree.specs.declared.item.CaseGenerateItem.{CaseGenerateItem}
use Rattle.sve_tree.specs.declared.item.ModportDeclaration.{ModportDeclaration}
use Rattle.sve_tree.specs.declared.item.Instantiation.{Instantiation}
use Rattle.sve_tree.specs.declared.item.Overrides.{Overrides}
use Rattle.sve_tree.specs.declared.item.Instance.{Instance}
use Rattle.sve_tree.specs.declared.data_type.TypeRef.TheVariants as is_type_ref
use Rattle.sve_tree.specs.declared.item.Item.TheVariants as is_item
use Rattle.sve_tree.specs.declared.item.EventControl.TheVariants as is_event_control
use Rattle.sve_tree.specs.declared.item.GenerateBlock.TheVariants as is_generate_block
use Rattle.sve_tree.specs.declared.item.GenvarStep.TheVariants as is_genvar_step
use Rattle.sve_tree.specs.declared.item.CaseGenerateItem.TheVariants as is_case_generate_item

abbrev pub genvar_declaration_tree : GenvarDeclaration → Tree
genvar_declaration_tree x = leaf x.keyword ▸ row_first leaf x.names ▸ row_rest leaf leaf x.names ▸ leaf x.semicolon

abbrev pub net_assignment_tree : NetAssignment → Tree
net_assignment_tree x = left_side_tree x.left ▸ leaf x.equals ▸ tree_at 13 x.value.value

abbrev pub continuous_assign_tree : ContinuousAssign → Tree
continuous_assign_tree x = leaf x.keyword ▸ row_first net_assignment_tree x.assignments ▸ row_rest net_assignment_tree leaf x.assignments ▸ leaf x.semicolon

abbrev pub plain_procedure_tree : PlainProcedure → Tree
plain_procedure_tree x = mark_tree plain_keyword_tree x.keyword ▸ stmt_tree x.statement.value

abbrev pub event_tree : Event → Tree
event_tree x = optional_tree (mark_tree edge_tree) x.edge ▸ tree_at 13 x.value.value

abbrev pub event_control_tree : EventControl → Tree
event_control_tree (is_event_control.Any star) = way 0 (leaf star)
event_control_tree (is_event_control.AnyParenthesized opening star closing) = way 1 (leaf opening ▸ left (leaf star) ▸ leaf closing)
event_control_tree (is_event_control.Events opening events closing) = way 1 (leaf opening ▸ right (row_tree event_tree (mark_tree event_separator_tree) events) ▸ leaf closing)
event_control_tree (is_event_control.Name name selects) = final 2 (leaf name ▸ repeated_tree select_tree selects.items)

abbrev pub clocked_procedure_tree : ClockedProcedure → Tree
clocked_procedure_tree x = mark_tree clocked_keyword_tree x.keyword ▸ leaf x.at ▸ event_control_tree x.control ▸ stmt_tree x.statement.value

abbrev pub genvar_step_tree : GenvarStep → Tree
genvar_step_tree (is_genvar_step.Before operator name) = left (mark_tree step_operator_tree operator ▸ leaf name)
genvar_step_tree (is_genvar_step.Change name change) = right (leaf name ▸ change_tree change)

abbrev pub modport_declaration_tree : ModportDeclaration → Tree
modport_declaration_tree x = leaf x.keyword ▸ row_first modport_tree x.modports ▸ row_rest modport_tree leaf x.modports ▸ leaf x.semicolon

abbrev pub instance_tree : Instance → Tree
instance_tree x = leaf x.name ▸ argument_list_tree x.connections

-- Without overrides the grammar has the first instance's name before it is known whether it is an instance or a variable.
abbrev pub instances_tree : Option Overrides → Row Instance ℕ → ℕ → Tree
instances_tree None row semicolon = final 3 (row_first (λ (i : Instance). leaf i.name) row ▸ left (row_first (λ (i : Instance). argument_list_tree i.connections) row ▸ row_rest instance_tree leaf row ▸ leaf semicolon))
instances_tree (Some overrides) row semicolon = way 0 (leaf overrides.hash ▸ argument_list_tree overrides.arguments ▸ row_first instance_tree row ▸ row_rest instance_tree leaf row ▸ leaf semicolon)

abbrev pub instantiation_tree : Instantiation → Tree
instantiation_tree x = leaf x.definition ▸ instances_tree x.overrides x.instances x.semicolon

-- what stands behind the name of a type of no package, with its packed dimensions
unfoldable pub named_data_tree : List Dimension → Row InitializedDeclarator ℕ → ℕ → Tree
named_data_tree [] row semicolon = final 3 (first_declarator (λ (d : Declarator). leaf d.name) row ▸ right (first_declarator (λ (d : Declarator). repeated_tree dimension_tree d.dimensions.items) row ▸ declaration_end_tree row ▸ leaf semicolon))
named_data_tree (first ∷ others) row semicolon = way 2 (dimension_tree first ▸ repeated_tree dimension_tree others ▸ first_declarator declarator_tree row ▸ declaration_end_tree row ▸ leaf semicolon)

-- what begins with the name of a type
abbrev pub scoped_data_tree : Option PackageScope → ℕ → List Dimension → Row InitializedDeclarator ℕ → ℕ → Tree
scoped_data_tree None name dimensions row semicolon = leaf name ▸ named_data_tree dimensions row semicolon
scoped_data_tree (Some scope) name dimensions row semicolon = leaf scope.name ▸ way 1 (leaf scope.colons ▸ leaf name ▸ repeated_tree dimension_tree dimensions ▸ first_declarator declarator_tree row ▸ declaration_end_tree row ▸ leaf semicolon)

-- a declaration of variables, by the shape of its type
abbrev pub data_item_tree : TypeRef → Row InitializedDeclarator ℕ → ℕ → Tree
data_item_tree (is_type_ref.Written data_type) row semicolon = way 8 (data_type_tree data_type ▸ first_declarator declarator_tree row ▸ declaration_end_tree row ▸ leaf semicolon)
data_item_tree (is_type_ref.Named named) row semicolon = final 18 (scoped_data_tree named.name.scope named.name.name named.dimensions.items row semicolon)

unfoldable mutual
  pub item_tree : Item → Tree
  item_tree (is_item.Empty semicolon) = way 0 (leaf semicolon)
  item_tree (is_item.Import declaration) = way 1 (import_tree declaration.value)
  item_tree (is_item.Parameters declaration) = way 2 (parameters_tree declaration.value)
  item_tree (is_item.Typedef declaration) = way 3 (typedef_tree declaration.value)
  item_tree (is_item.Function function) = way 4 (func_tree function.value)
  item_tree (is_item.Genvars declaration) = way 5 (genvar_declaration_tree declaration.value)
  item_tree (is_item.Net declaration) = way 6 (net_declaration_tree declaration.value)
  item_tree (is_item.Variable declaration) = way 7 (variable_declaration_tree declaration.value)
  item_tree (is_item.Data declaration) = data_item_tree declaration.value.data_type declaration.value.declarators declaration.value.semicolon
  item_tree (is_item.Assign assignments) = way 9 (continuous_assign_tree assignments.value)
  item_tree (is_item.Clocked procedure) = way 10 (clocked_procedure_tree procedure.value)
  item_tree (is_item.Plain procedure) = way 11 (plain_procedure_tree procedure.value)
  item_tree (is_item.Region' _ keyword _ items end) = way 12 (leaf keyword ▸ item_row items ▸ leaf end)
  item_tree (is_item.LoopGenerate' _ keyword opening genvar name equals start first_semicolon condition second_semicolon step closing block) = way 13 (leaf keyword ▸ leaf opening ▸ optional_tree leaf genvar ▸ leaf name ▸ leaf equals ▸ tree_at 13 start.value ▸ leaf first_semicolon ▸ tree_at 13 condition.value ▸ leaf second_semicolon ▸ genvar_step_tree step ▸ leaf closing ▸ generate_block_tree block)
  item_tree (is_item.IfGenerate' _ construct) = way 14 (if_generate_tree construct)
  item_tree (is_item.CaseGenerate' _ keyword selector _ items end) = way 15 (leaf keyword ▸ parenthesized_tree selector ▸ first_of (case_generate_item_trees items) ▸ others_of (case_generate_item_trees items) ▸ leaf end)
  item_tree (is_item.Modports declaration) = way 16 (modport_declaration_tree declaration.value)
  item_tree (is_item.SystemTask task) = way 17 (system_task_tree task.value)
  item_tree (is_item.Instances instantiation) = final 18 (instantiation_tree instantiation.value)

  pub generate_block_tree : GenerateBlock → Tree
  generate_block_tree (is_generate_block.Block' _ begin label _ items end end_label) = left (leaf begin ▸ optional_tree label_tree label ▸ item_row items ▸ leaf end ▸ optional_tree label_tree end_label)
  generate_block_tree (is_generate_block.Item' _ item) = right (item_tree item)

  pub if_generate_tree : IfGenerate → Tree
  if_generate_tree (IfGenerate' keyword condition chosen otherwise) = leaf keyword ▸ parenthesized_tree condition ▸ generate_block_tree chosen ▸ optional_else_generate otherwise

  pub case_generate_item_tree : CaseGenerateItem → Tree
  case_generate_item_tree (is_case_generate_item.Default keyword colon block) = left (leaf keyword ▸ optional_tree leaf colon ▸ generate_block_tree block)
  case_generate_item_tree (is_case_generate_item.Labels labels colon block) = right (row_first (tree_at 13) labels ▸ row_rest (tree_at 13) leaf labels ▸ leaf colon ▸ generate_block_tree block)

  pub optional_else_generate : Held-IfGenerate-otherwise → Tree
  optional_else_generate None' = right none
  optional_else_generate (Some' keyword block) = left (leaf keyword ▸ generate_block_tree block)

  pub item_row : {n : _} → Row_of-Item n → Tree
  item_row end_of-Item = ended
  item_row (more_of-Item item rest) = turn (item_tree item) (item_row rest)

  pub case_generate_item_trees : {n : _} → Row_of-CaseGenerateItem n → List Tree
  case_generate_item_trees end_of-CaseGenerateItem = []
  case_generate_item_trees (more_of-CaseGenerateItem case_generate_item rest) = case_generate_item_tree case_generate_item ∷ case_generate_item_trees rest

abbrev pub generate_body_tree : GenerateBody → Tree
generate_body_tree x = leaf x.begin ▸ optional_tree label_tree x.label ▸ repeated_tree item_tree x.items.items ▸ leaf x.end ▸ optional_tree label_tree x.end_label

abbrev pub generate_region_tree : GenerateRegion → Tree
generate_region_tree x = leaf x.keyword ▸ repeated_tree item_tree x.items.items ▸ leaf x.end

abbrev pub loop_generate_tree : LoopGenerate → Tree
loop_generate_tree x = leaf x.keyword ▸ leaf x.opening ▸ optional_tree leaf x.genvar ▸ leaf x.name ▸ leaf x.equals ▸ tree_at 13 x.start.value ▸ leaf x.first_semicolon ▸ tree_at 13 x.condition.value ▸ leaf x.second_semicolon ▸ genvar_step_tree x.step ▸ leaf x.closing ▸ generate_block_tree x.block

abbrev pub else_generate_tree : ElseGenerate → Tree
else_generate_tree x = leaf x.keyword ▸ generate_block_tree x.block

abbrev pub case_generate_tree : CaseGenerate → Tree
case_generate_tree x = leaf x.keyword ▸ parenthesized_tree x.selector ▸ first_tree case_generate_item_tree x.items.items ▸ others_tree case_generate_item_tree x.items.items ▸ leaf x.end
