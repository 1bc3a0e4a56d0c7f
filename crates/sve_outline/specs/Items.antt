-- What items of modules and interfaces say (IEEE 1800-2017, A.1.4, A.4 and A.6.1).
use Rattle.sve_outline.specs.Declarations.{data_declaration_outline, import_outline, modport_outline, net_declaration_outline, parameters_outline, typedef_outline, variable_declaration_outline}
use Rattle.sve_outline.specs.Expressions.{argument_list_outline, expr_outline, parenthesized_outline, select_outline}
use Rattle.sve_outline.specs.Outline.{Outline, list_outline, mark_outline, no_more, option_outline, row_outline, token_at, variant, ◌◂◌}
use Rattle.sve_outline.specs.Statements.{change_outline, func_outline, left_side_outline, stmt_outline, system_task_outline}
use Rattle.sve_outline.specs.Words.{clocked_keyword_place, edge_place, event_separator_place, label_outline, plain_keyword_place, step_operator_place}
use Rattle.sve_tree.specs.declared.item.CaseGenerate.{Row_of-CaseGenerateItem, end_of-CaseGenerateItem, more_of-CaseGenerateItem}
use Rattle.sve_tree.specs.declared.item.CaseGenerateItem.{CaseGenerateItem}
use Rattle.sve_tree.specs.declared.item.ClockedProcedure.{ClockedProcedure}
use Rattle.sve_tree.specs.declared.item.ContinuousAssign.{ContinuousAssign}
use Rattle.sve_tree.specs.declared.item.Event.{Event}
use Rattle.sve_tree.specs.declared.item.EventControl.{EventControl}
use Rattle.sve_tree.specs.declared.item.GenerateBlock.{GenerateBlock}
use Rattle.sve_tree.specs.declared.item.GenerateRegion.{Row_of-Item, end_of-Item, more_of-Item}
use Rattle.sve_tree.specs.declared.item.GenvarDeclaration.{GenvarDeclaration}
use Rattle.sve_tree.specs.declared.item.GenvarStep.{GenvarStep}
use Rattle.sve_tree.specs.declared.item.IfGenerate.{Held-IfGenerate-otherwise, IfGenerate, IfGenerate', None', Some'}
use Rattle.sve_tree.specs.declared.item.Instance.{Instance}
use Rattle.sve_tree.specs.declared.item.Instantiation.{Instantiation}
use Rattle.sve_tree.specs.declared.item.Item.{Item}
use Rattle.sve_tree.specs.declared.item.ModportDeclaration.{ModportDeclaration}
use Rattle.sve_tree.specs.declared.item.NetAssignment.{NetAssignment}
use Rattle.sve_tree.specs.declared.item.Overrides.{Overrides}
use Rattle.sve_tree.specs.declared.item.PlainProcedure.{PlainProcedure}
use Rattle.sve_tree.specs.declared.item.CaseGenerateItem.TheVariants as is_case_generate_item
use Rattle.sve_tree.specs.declared.item.EventControl.TheVariants as is_event_control
use Rattle.sve_tree.specs.declared.item.GenerateBlock.TheVariants as is_generate_block
use Rattle.sve_tree.specs.declared.item.GenvarStep.TheVariants as is_genvar_step
use Rattle.sve_tree.specs.declared.item.Item.TheVariants as is_item

abbrev pub genvar_declaration_outline : GenvarDeclaration → Outline
genvar_declaration_outline x = token_at x.keyword ◂ row_outline token_at token_at x.names ◂ token_at x.semicolon

abbrev pub net_assignment_outline : NetAssignment → Outline
net_assignment_outline x = left_side_outline x.left ◂ token_at x.equals ◂ expr_outline x.value.value

abbrev pub continuous_assign_outline : ContinuousAssign → Outline
continuous_assign_outline x = token_at x.keyword ◂ row_outline net_assignment_outline token_at x.assignments ◂ token_at x.semicolon

abbrev pub plain_procedure_outline : PlainProcedure → Outline
plain_procedure_outline x = mark_outline plain_keyword_place x.keyword ◂ stmt_outline x.statement.value

abbrev pub event_outline : Event → Outline
event_outline x = option_outline (mark_outline edge_place) x.edge ◂ expr_outline x.value.value

abbrev pub event_control_outline : EventControl → Outline
event_control_outline (is_event_control.Any star) = variant 0 ◂ token_at star
event_control_outline (is_event_control.AnyParenthesized opening star closing) = variant 1 ◂ token_at opening ◂ token_at star ◂ token_at closing
event_control_outline (is_event_control.Events opening events closing) = variant 2 ◂ token_at opening ◂ row_outline event_outline (mark_outline event_separator_place) events ◂ token_at closing
event_control_outline (is_event_control.Name name selects) = variant 3 ◂ token_at name ◂ list_outline select_outline selects.items

abbrev pub clocked_procedure_outline : ClockedProcedure → Outline
clocked_procedure_outline x = mark_outline clocked_keyword_place x.keyword ◂ token_at x.at ◂ event_control_outline x.control ◂ stmt_outline x.statement.value

abbrev pub genvar_step_outline : GenvarStep → Outline
genvar_step_outline (is_genvar_step.Before operator name) = variant 0 ◂ mark_outline step_operator_place operator ◂ token_at name
genvar_step_outline (is_genvar_step.Change name change) = variant 1 ◂ token_at name ◂ change_outline change

abbrev pub modport_declaration_outline : ModportDeclaration → Outline
modport_declaration_outline x = token_at x.keyword ◂ row_outline modport_outline token_at x.modports ◂ token_at x.semicolon

abbrev pub instance_outline : Instance → Outline
instance_outline x = token_at x.name ◂ argument_list_outline x.connections

abbrev pub overrides_outline : Overrides → Outline
overrides_outline x = token_at x.hash ◂ argument_list_outline x.arguments

abbrev pub instantiation_outline : Instantiation → Outline
instantiation_outline x = token_at x.definition ◂ option_outline overrides_outline x.overrides ◂ row_outline instance_outline token_at x.instances ◂ token_at x.semicolon

unfoldable mutual
  pub item_outline : Item → Outline
  item_outline (is_item.Empty semicolon) = variant 0 ◂ token_at semicolon
  item_outline (is_item.Import declaration) = variant 1 ◂ import_outline declaration.value
  item_outline (is_item.Parameters declaration) = variant 2 ◂ parameters_outline declaration.value
  item_outline (is_item.Typedef declaration) = variant 3 ◂ typedef_outline declaration.value
  item_outline (is_item.Function function) = variant 4 ◂ func_outline function.value
  item_outline (is_item.Genvars declaration) = variant 5 ◂ genvar_declaration_outline declaration.value
  item_outline (is_item.Net declaration) = variant 6 ◂ net_declaration_outline declaration.value
  item_outline (is_item.Variable declaration) = variant 7 ◂ variable_declaration_outline declaration.value
  item_outline (is_item.Data declaration) = variant 8 ◂ data_declaration_outline declaration.value
  item_outline (is_item.Assign assignments) = variant 9 ◂ continuous_assign_outline assignments.value
  item_outline (is_item.Clocked procedure) = variant 10 ◂ clocked_procedure_outline procedure.value
  item_outline (is_item.Plain procedure) = variant 11 ◂ plain_procedure_outline procedure.value
  item_outline (is_item.Region' _ keyword _ items end) = variant 12 ◂ token_at keyword ◂ item_row_outline items ◂ token_at end
  item_outline (is_item.LoopGenerate' _ keyword opening genvar name equals start first_semicolon condition second_semicolon step closing block) = variant 13 ◂ token_at keyword ◂ token_at opening ◂ option_outline token_at genvar ◂ token_at name ◂ token_at equals ◂ expr_outline start.value ◂ token_at first_semicolon ◂ expr_outline condition.value ◂ token_at second_semicolon ◂ genvar_step_outline step ◂ token_at closing ◂ generate_block_outline block
  item_outline (is_item.IfGenerate' _ construct) = variant 14 ◂ if_generate_outline construct
  item_outline (is_item.CaseGenerate' _ keyword selector _ items end) = variant 15 ◂ token_at keyword ◂ parenthesized_outline selector ◂ case_generate_item_row_outline items ◂ token_at end
  item_outline (is_item.Modports declaration) = variant 16 ◂ modport_declaration_outline declaration.value
  item_outline (is_item.SystemTask task) = variant 17 ◂ system_task_outline task.value
  item_outline (is_item.Instances instantiation) = variant 18 ◂ instantiation_outline instantiation.value

  pub generate_block_outline : GenerateBlock → Outline
  generate_block_outline (is_generate_block.Block' _ begin label _ items end end_label) = variant 0 ◂ token_at begin ◂ option_outline label_outline label ◂ item_row_outline items ◂ token_at end ◂ option_outline label_outline end_label
  generate_block_outline (is_generate_block.Item' _ item) = variant 1 ◂ item_outline item

  pub if_generate_outline : IfGenerate → Outline
  if_generate_outline (IfGenerate' keyword condition chosen otherwise) = token_at keyword ◂ parenthesized_outline condition ◂ generate_block_outline chosen ◂ optional_else_generate_outline otherwise

  pub case_generate_item_outline : CaseGenerateItem → Outline
  case_generate_item_outline (is_case_generate_item.Default keyword colon block) = variant 0 ◂ token_at keyword ◂ option_outline token_at colon ◂ generate_block_outline block
  case_generate_item_outline (is_case_generate_item.Labels labels colon block) = variant 1 ◂ row_outline expr_outline token_at labels ◂ token_at colon ◂ generate_block_outline block

  pub optional_else_generate_outline : Held-IfGenerate-otherwise → Outline
  optional_else_generate_outline None' = variant 0
  optional_else_generate_outline (Some' keyword block) = variant 1 ◂ token_at keyword ◂ generate_block_outline block

  pub item_row_outline : {n : _} → Row_of-Item n → Outline
  item_row_outline end_of-Item = no_more
  item_row_outline (more_of-Item item rest) = item_outline item ◂ item_row_outline rest

  pub case_generate_item_row_outline : {n : _} → Row_of-CaseGenerateItem n → Outline
  case_generate_item_row_outline end_of-CaseGenerateItem = no_more
  case_generate_item_row_outline (more_of-CaseGenerateItem case_generate_item rest) = case_generate_item_outline case_generate_item ◂ case_generate_item_row_outline rest
