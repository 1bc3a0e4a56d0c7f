-- Items of modules and interfaces, shown as trees from what they say.
use Rattle.std.proofs.Common.{List, None, Option, Some, [], ap, refl, suc, zero, ℕ, ◌∷◌, ◌≡◌}
use Rattle.sve_grammar.specs.Reading.{Tree, ended, leaf, left, none, pair, right, turn}
use Rattle.sve_outline.proofs.Marks.{clocked_keyword_marked, edge_marked, event_separator_marked, plain_keyword_marked, step_operator_marked}
use Rattle.sve_outline.proofs.WriteDeclarations.{declaration_end_written, first_declarator_written, import_written, modport_written, net_declaration_written, parameters_written, typedef_written, variable_declaration_written, written_declaration_end, written_import, written_modport, written_net_declaration, written_parameters, written_typedef, written_variable_declaration}
use Rattle.sve_outline.proofs.WriteExpressions.{argument_list_written, dimension_written, expr_written, parenthesized_written, select_written, written_argument_list, written_at, written_dimension, written_parenthesized, written_select}
use Rattle.sve_outline.proofs.WriteNames.{label_written, written_label}
use Rattle.sve_outline.proofs.WriteStatements.{change_written, func_written, left_side_written, stmt_written, system_task_written, written_change, written_func, written_left_side, written_stmt, written_system_task}
use Rattle.sve_outline.proofs.WriteTypes.{data_type_written, written_data_type, written_declarator}
use Rattle.sve_outline.proofs.Writers.{IsWritten, cons_alike, list_written, mark_written, option_written, row_first_written, row_rest_written, token_written, turn_alike, written_head, written_list, written_mark, written_option, written_row_first, written_row_rest, written_tail, written_token, ◌◇◌}
use Rattle.sve_outline.specs.Declarations.{initialized_declarator_outline}
use Rattle.sve_outline.specs.Expressions.{dimension_outline}
use Rattle.sve_outline.specs.Items.{case_generate_item_outline, case_generate_item_row_outline, clocked_procedure_outline, continuous_assign_outline, event_control_outline, event_outline, generate_block_outline, genvar_declaration_outline, genvar_step_outline, if_generate_outline, instance_outline, instantiation_outline, item_outline, item_row_outline, modport_declaration_outline, net_assignment_outline, optional_else_generate_outline, overrides_outline, plain_procedure_outline}
use Rattle.sve_outline.specs.Outline.{Outline, list_outline, mark_outline, no_more, option_outline, row_outline, token_at, variant, ◌◂◌}
use Rattle.sve_outline.specs.Types.{data_type_outline, type_ref_outline}
use Rattle.sve_outline.specs.Words.{event_separator_place, package_scope_outline}
use Rattle.sve_tree.specs.Items.{case_generate_item_tree, case_generate_item_trees, clocked_procedure_tree, continuous_assign_tree, data_item_tree, event_control_tree, event_tree, generate_block_tree, genvar_declaration_tree, genvar_step_tree, if_generate_tree, instance_tree, instances_tree, instantiation_tree, item_row, item_tree, modport_declaration_tree, named_data_tree, net_assignment_tree, optional_else_generate, plain_procedure_tree, scoped_data_tree}
use Rattle.sve_tree.specs.Shape.{final, first_of, others_of, way, ◌▸◌}
use Rattle.sve_tree.specs.declared.data_type.TypeRef.{TypeRef}
use Rattle.sve_tree.specs.declared.declaration.InitializedDeclarator.{InitializedDeclarator}
use Rattle.sve_tree.specs.declared.expression.Dimension.{Dimension}
use Rattle.sve_tree.specs.declared.item.CaseGenerate.{Row_of-CaseGenerateItem, end_of-CaseGenerateItem, more_of-CaseGenerateItem}
use Rattle.sve_tree.specs.declared.item.CaseGenerateItem.{CaseGenerateItem}
use Rattle.sve_tree.specs.declared.item.GenerateBlock.{GenerateBlock}
use Rattle.sve_tree.specs.declared.item.GenerateRegion.{Row_of-Item, end_of-Item, more_of-Item}
use Rattle.sve_tree.specs.declared.item.IfGenerate.{Held-IfGenerate-otherwise, IfGenerate, IfGenerate', None', Some'}
use Rattle.sve_tree.specs.declared.item.Instance.{Instance}
use Rattle.sve_tree.specs.declared.item.Item.{Item}
use Rattle.sve_tree.specs.declared.item.Overrides.{Overrides}
use Rattle.sve_tree.specs.declared.row.Row.{Row}
use Rattle.sve_tree.specs.declared.word.PackageScope.{PackageScope}
use Rattle.sve_tree.specs.declared.item.CaseGenerateItem.TheVariants as is_case_generate_item
use Rattle.sve_tree.specs.declared.item.EventControl.TheVariants as is_event_control
use Rattle.sve_tree.specs.declared.item.GenerateBlock.TheVariants as is_generate_block
use Rattle.sve_tree.specs.declared.item.GenvarStep.TheVariants as is_genvar_step
use Rattle.sve_tree.specs.declared.item.Item.TheVariants as is_item
use Rattle.sve_tree.specs.declared.data_type.TypeRef.TheVariants as is_type_ref

pub written_genvar_declaration : Outline → Tree
written_genvar_declaration (token_at keyword ◂ names ◂ token_at semicolon) = leaf keyword ▸ written_row_first written_token names ▸ written_row_rest written_token written_token names ▸ leaf semicolon
written_genvar_declaration o = none

pub genvar_declaration_written : IsWritten genvar_declaration_tree genvar_declaration_outline written_genvar_declaration
unfolding written_genvar_declaration
genvar_declaration_written x = refl ◇ row_first_written _ _ _ token_at token_written x.names ◇ row_rest_written _ _ _ _ _ _ token_written token_written x.names ◇ refl

pub written_net_assignment : Outline → Tree
written_net_assignment (l ◂ token_at equals ◂ value) = written_left_side l ▸ leaf equals ▸ written_at 13 value
written_net_assignment o = none

pub net_assignment_written : IsWritten net_assignment_tree net_assignment_outline written_net_assignment
unfolding written_net_assignment
net_assignment_written x = left_side_written x.left ◇ refl ◇ expr_written 13 x.value.value

pub written_continuous_assign : Outline → Tree
written_continuous_assign (token_at keyword ◂ assignments ◂ token_at semicolon) = leaf keyword ▸ written_row_first written_net_assignment assignments ▸ written_row_rest written_net_assignment written_token assignments ▸ leaf semicolon
written_continuous_assign o = none

pub continuous_assign_written : IsWritten continuous_assign_tree continuous_assign_outline written_continuous_assign
unfolding written_continuous_assign
continuous_assign_written x = refl ◇ row_first_written _ _ _ token_at net_assignment_written x.assignments ◇ row_rest_written _ _ _ _ _ _ net_assignment_written token_written x.assignments ◇ refl

pub written_plain_procedure : Outline → Tree
written_plain_procedure (keyword ◂ statement) = written_mark 2 keyword ▸ written_stmt statement
written_plain_procedure o = none

pub plain_procedure_written : IsWritten plain_procedure_tree plain_procedure_outline written_plain_procedure
unfolding written_plain_procedure
plain_procedure_written x = mark_written _ _ _ plain_keyword_marked x.keyword ◇ stmt_written x.statement.value

pub written_event : Outline → Tree
written_event (edge ◂ value) = written_option (written_mark 2) edge ▸ written_at 13 value
written_event o = none

pub event_written : IsWritten event_tree event_outline written_event
unfolding written_event
event_written x = option_written _ _ _ (mark_written _ _ _ edge_marked) x.edge ◇ expr_written 13 x.value.value

pub written_event_control : Outline → Tree
written_event_control (variant zero ◂ token_at star) = way 0 (leaf star)
written_event_control (variant (suc zero) ◂ token_at opening ◂ token_at star ◂ token_at closing) = way 1 (leaf opening ▸ left (leaf star) ▸ leaf closing)
written_event_control (variant (suc (suc zero)) ◂ token_at opening ◂ events ◂ token_at closing) = way 1 (leaf opening ▸ right (written_row_first written_event events ▸ written_row_rest written_event (written_mark 1) events) ▸ leaf closing)
written_event_control (variant (suc (suc (suc zero))) ◂ token_at name ◂ selects) = final 2 (leaf name ▸ written_list written_select selects)
written_event_control o = none

pub event_control_written : IsWritten event_control_tree event_control_outline written_event_control
unfolding written_event_control
event_control_written (is_event_control.Any star) = refl
event_control_written (is_event_control.AnyParenthesized opening star closing) = refl
event_control_written (is_event_control.Events opening events closing) = ap (λ (t : Tree). way 1 t) (refl ◇ ap (λ (t : Tree). right t) (row_first_written _ _ _ (mark_outline event_separator_place) event_written events ◇ row_rest_written _ _ _ _ _ _ event_written (mark_written _ _ _ event_separator_marked) events) ◇ refl)
event_control_written (is_event_control.Name name selects) = ap (λ (t : Tree). final 2 t) (refl ◇ list_written _ _ _ select_written selects.items)

pub written_clocked_procedure : Outline → Tree
written_clocked_procedure (keyword ◂ token_at at ◂ control ◂ statement) = written_mark 1 keyword ▸ leaf at ▸ written_event_control control ▸ written_stmt statement
written_clocked_procedure o = none

pub clocked_procedure_written : IsWritten clocked_procedure_tree clocked_procedure_outline written_clocked_procedure
unfolding written_clocked_procedure
clocked_procedure_written x = mark_written _ _ _ clocked_keyword_marked x.keyword ◇ refl ◇ event_control_written x.control ◇ stmt_written x.statement.value

pub written_genvar_step : Outline → Tree
written_genvar_step (variant zero ◂ operator ◂ token_at name) = left (written_mark 1 operator ▸ leaf name)
written_genvar_step (variant (suc zero) ◂ token_at name ◂ change) = right (leaf name ▸ written_change change)
written_genvar_step o = none

pub genvar_step_written : IsWritten genvar_step_tree genvar_step_outline written_genvar_step
unfolding written_genvar_step
genvar_step_written (is_genvar_step.Before operator name) = ap (λ (t : Tree). left t) (mark_written _ _ _ step_operator_marked operator ◇ refl)
genvar_step_written (is_genvar_step.Change name change) = ap (λ (t : Tree). right t) (refl ◇ change_written change)

pub written_modport_declaration : Outline → Tree
written_modport_declaration (token_at keyword ◂ modports ◂ token_at semicolon) = leaf keyword ▸ written_row_first written_modport modports ▸ written_row_rest written_modport written_token modports ▸ leaf semicolon
written_modport_declaration o = none

pub modport_declaration_written : IsWritten modport_declaration_tree modport_declaration_outline written_modport_declaration
unfolding written_modport_declaration
modport_declaration_written x = refl ◇ row_first_written _ _ _ token_at modport_written x.modports ◇ row_rest_written _ _ _ _ _ _ modport_written token_written x.modports ◇ refl

pub written_instance : Outline → Tree
written_instance (token_at name ◂ connections) = leaf name ▸ written_argument_list connections
written_instance o = none

pub instance_written : IsWritten instance_tree instance_outline written_instance
unfolding written_instance
instance_written x = refl ◇ argument_list_written x.connections

pub written_instantiation : Outline → Tree
written_instantiation (token_at definition ◂ variant zero ◂ instances ◂ token_at semicolon) = leaf definition ▸ final 3 (written_row_first (written_head written_token) instances ▸ left (written_row_first (written_tail written_argument_list) instances ▸ written_row_rest written_instance written_token instances ▸ leaf semicolon))
written_instantiation (token_at definition ◂ (variant (suc zero) ◂ token_at hash ◂ arguments) ◂ instances ◂ token_at semicolon) = leaf definition ▸ way 0 (leaf hash ▸ written_argument_list arguments ▸ written_row_first written_instance instances ▸ written_row_rest written_instance written_token instances ▸ leaf semicolon)
written_instantiation o = none

instances_written : (definition : ℕ) (overrides : Option Overrides) (row : Row Instance ℕ) (semicolon : ℕ) → written_instantiation (token_at definition ◂ option_outline overrides_outline overrides ◂ row_outline instance_outline token_at row ◂ token_at semicolon) ≡ pair (leaf definition) (instances_tree overrides row semicolon)
unfolding written_instantiation
instances_written definition None row semicolon = refl ◇ ap (λ (t : Tree). final 3 t) (row_first_written _ instance_outline _ token_at (λ (i : Instance). token_written i.name) row ◇ ap (λ (t : Tree). left t) (row_first_written _ instance_outline _ token_at (λ (i : Instance). argument_list_written i.connections) row ◇ row_rest_written _ _ _ _ _ _ instance_written token_written row ◇ refl))
instances_written definition (Some overrides) row semicolon = refl ◇ ap (λ (t : Tree). way 0 t) (refl ◇ argument_list_written overrides.arguments ◇ row_first_written _ _ _ token_at instance_written row ◇ row_rest_written _ _ _ _ _ _ instance_written token_written row ◇ refl)

pub instantiation_written : IsWritten instantiation_tree instantiation_outline written_instantiation
instantiation_written x = instances_written x.definition x.overrides x.instances x.semicolon

-- a declaration of variables, from its type, its names and its last token
pub written_data : Outline → Outline → ℕ → Tree
written_data (variant zero ◂ data_type) row i = way 8 (written_data_type data_type ▸ written_row_first (written_head written_declarator) row ▸ written_declaration_end row ▸ leaf i)
written_data (variant (suc zero) ◂ ((variant (suc zero) ◂ token_at scope ◂ token_at colons) ◂ token_at name) ◂ dimensions) row i = final 18 (leaf scope ▸ way 1 (leaf colons ▸ leaf name ▸ written_list written_dimension dimensions ▸ written_row_first (written_head written_declarator) row ▸ written_declaration_end row ▸ leaf i))
written_data (variant (suc zero) ◂ (variant zero ◂ token_at name) ◂ first ◂ others) row i = final 18 (leaf name ▸ way 2 (written_dimension first ▸ written_list written_dimension others ▸ written_row_first (written_head written_declarator) row ▸ written_declaration_end row ▸ leaf i))
written_data (variant (suc zero) ◂ (variant zero ◂ token_at name) ◂ no_more) row i = final 18 (leaf name ▸ final 3 (written_row_first (written_head (written_head written_token)) row ▸ right (written_row_first (written_head (written_tail (written_list written_dimension))) row ▸ written_declaration_end row ▸ leaf i)))
written_data o row i = none

named_data_written : (name : ℕ) (dimensions : List Dimension) (row : Row InitializedDeclarator ℕ) (i : ℕ) → written_data (variant 1 ◂ (variant 0 ◂ token_at name) ◂ list_outline dimension_outline dimensions) (row_outline initialized_declarator_outline token_at row) i ≡ final 18 (leaf name ▸ named_data_tree dimensions row i)
unfolding named_data_tree list_outline written_data
named_data_written name [] row i = ap (λ (t : Tree). final 18 (leaf name ▸ final 3 t)) (row_first_written _ initialized_declarator_outline _ token_at (λ (d : InitializedDeclarator). token_written d.declarator.name) row ◇ ap (λ (t : Tree). right t) (row_first_written _ initialized_declarator_outline _ token_at (λ (d : InitializedDeclarator). list_written _ _ _ dimension_written d.declarator.dimensions.items) row ◇ declaration_end_written row ◇ refl))
named_data_written name (first ∷ others) row i = ap (λ (t : Tree). final 18 (leaf name ▸ way 2 t)) (dimension_written first ◇ list_written _ _ _ dimension_written others ◇ first_declarator_written row ◇ declaration_end_written row ◇ refl)

scoped_data_written : (scope : Option PackageScope) (name : ℕ) (dimensions : List Dimension) (row : Row InitializedDeclarator ℕ) (i : ℕ) → written_data (variant 1 ◂ (option_outline package_scope_outline scope ◂ token_at name) ◂ list_outline dimension_outline dimensions) (row_outline initialized_declarator_outline token_at row) i ≡ final 18 (scoped_data_tree scope name dimensions row i)
unfolding written_data
scoped_data_written None name dimensions row i = named_data_written name dimensions row i
scoped_data_written (Some scope) name dimensions row i = ap (λ (t : Tree). final 18 (leaf scope.name ▸ way 1 (leaf scope.colons ▸ leaf name ▸ t))) (list_written _ _ _ dimension_written dimensions ◇ first_declarator_written row ◇ declaration_end_written row ◇ refl)

data_written : (t : TypeRef) (row : Row InitializedDeclarator ℕ) (i : ℕ) → written_data (type_ref_outline t) (row_outline initialized_declarator_outline token_at row) i ≡ data_item_tree t row i
unfolding data_type_outline written_data
data_written (is_type_ref.Written data_type) row i = ap (λ (t : Tree). way 8 t) (data_type_written data_type ◇ first_declarator_written row ◇ declaration_end_written row ◇ refl)
data_written (is_type_ref.Named named) row i = scoped_data_written named.name.scope named.name.name named.dimensions.items row i

mutual
  pub written_item : Outline → Tree
  written_item (variant zero ◂ token_at semicolon) = way 0 (leaf semicolon)
  written_item (variant (suc zero) ◂ declaration) = way 1 (written_import declaration)
  written_item (variant (suc (suc zero)) ◂ declaration) = way 2 (written_parameters declaration)
  written_item (variant (suc (suc (suc zero))) ◂ declaration) = way 3 (written_typedef declaration)
  written_item (variant (suc (suc (suc (suc zero)))) ◂ function) = way 4 (written_func function)
  written_item (variant (suc (suc (suc (suc (suc zero))))) ◂ declaration) = way 5 (written_genvar_declaration declaration)
  written_item (variant (suc (suc (suc (suc (suc (suc zero)))))) ◂ declaration) = way 6 (written_net_declaration declaration)
  written_item (variant (suc (suc (suc (suc (suc (suc (suc zero))))))) ◂ declaration) = way 7 (written_variable_declaration declaration)
  written_item (variant (suc (suc (suc (suc (suc (suc (suc (suc zero)))))))) ◂ data_type ◂ declarators ◂ token_at semicolon) = written_data data_type declarators semicolon
  written_item (variant (suc (suc (suc (suc (suc (suc (suc (suc (suc zero))))))))) ◂ assignments) = way 9 (written_continuous_assign assignments)
  written_item (variant (suc (suc (suc (suc (suc (suc (suc (suc (suc (suc zero)))))))))) ◂ procedure) = way 10 (written_clocked_procedure procedure)
  written_item (variant (suc (suc (suc (suc (suc (suc (suc (suc (suc (suc (suc zero))))))))))) ◂ procedure) = way 11 (written_plain_procedure procedure)
  written_item (variant (suc (suc (suc (suc (suc (suc (suc (suc (suc (suc (suc (suc zero)))))))))))) ◂ token_at keyword ◂ items ◂ token_at end) = way 12 (leaf keyword ▸ written_item_row items ▸ leaf end)
  written_item (variant (suc (suc (suc (suc (suc (suc (suc (suc (suc (suc (suc (suc (suc zero))))))))))))) ◂ token_at keyword ◂ token_at opening ◂ genvar ◂ token_at name ◂ token_at equals ◂ start ◂ token_at first_semicolon ◂ condition ◂ token_at second_semicolon ◂ step ◂ token_at closing ◂ block) = way 13 (leaf keyword ▸ leaf opening ▸ written_option written_token genvar ▸ leaf name ▸ leaf equals ▸ written_at 13 start ▸ leaf first_semicolon ▸ written_at 13 condition ▸ leaf second_semicolon ▸ written_genvar_step step ▸ leaf closing ▸ written_generate_block block)
  written_item (variant (suc (suc (suc (suc (suc (suc (suc (suc (suc (suc (suc (suc (suc (suc zero)))))))))))))) ◂ construct) = way 14 (written_if_generate construct)
  written_item (variant (suc (suc (suc (suc (suc (suc (suc (suc (suc (suc (suc (suc (suc (suc (suc zero))))))))))))))) ◂ token_at keyword ◂ selector ◂ items ◂ token_at end) = way 15 (leaf keyword ▸ written_parenthesized selector ▸ first_of (written_case_generate_items items) ▸ others_of (written_case_generate_items items) ▸ leaf end)
  written_item (variant (suc (suc (suc (suc (suc (suc (suc (suc (suc (suc (suc (suc (suc (suc (suc (suc zero)))))))))))))))) ◂ declaration) = way 16 (written_modport_declaration declaration)
  written_item (variant (suc (suc (suc (suc (suc (suc (suc (suc (suc (suc (suc (suc (suc (suc (suc (suc (suc zero))))))))))))))))) ◂ task) = way 17 (written_system_task task)
  written_item (variant (suc (suc (suc (suc (suc (suc (suc (suc (suc (suc (suc (suc (suc (suc (suc (suc (suc (suc zero)))))))))))))))))) ◂ instantiation) = final 18 (written_instantiation instantiation)
  written_item o = none

  pub written_generate_block : Outline → Tree
  written_generate_block (variant zero ◂ token_at begin ◂ label ◂ items ◂ token_at end ◂ end_label) = left (leaf begin ▸ written_option written_label label ▸ written_item_row items ▸ leaf end ▸ written_option written_label end_label)
  written_generate_block (variant (suc zero) ◂ item) = right (written_item item)
  written_generate_block o = none

  pub written_if_generate : Outline → Tree
  written_if_generate (token_at keyword ◂ condition ◂ chosen ◂ otherwise) = leaf keyword ▸ written_parenthesized condition ▸ written_generate_block chosen ▸ written_optional_else_generate otherwise
  written_if_generate o = none

  pub written_case_generate_item : Outline → Tree
  written_case_generate_item (variant zero ◂ token_at keyword ◂ colon ◂ block) = left (leaf keyword ▸ written_option written_token colon ▸ written_generate_block block)
  written_case_generate_item (variant (suc zero) ◂ labels ◂ token_at colon ◂ block) = right (written_row_first (written_at 13) labels ▸ written_row_rest (written_at 13) written_token labels ▸ leaf colon ▸ written_generate_block block)
  written_case_generate_item o = none

  pub written_optional_else_generate : Outline → Tree
  written_optional_else_generate (variant zero) = right none
  written_optional_else_generate (variant (suc zero) ◂ token_at keyword ◂ block) = left (leaf keyword ▸ written_generate_block block)
  written_optional_else_generate o = none

  pub written_item_row : Outline → Tree
  written_item_row (item ◂ rest) = turn (written_item item) (written_item_row rest)
  written_item_row o = ended

  pub written_case_generate_items : Outline → List Tree
  written_case_generate_items (case_generate_item ◂ rest) = written_case_generate_item case_generate_item ∷ written_case_generate_items rest
  written_case_generate_items o = []

mutual
  unfolding item_tree item_outline written_item

  pub item_written : (x : Item) → written_item (item_outline x) ≡ item_tree x
  item_written (is_item.Empty semicolon) = refl
  item_written (is_item.Import declaration) = ap (λ (t : Tree). way 1 t) (import_written declaration.value)
  item_written (is_item.Parameters declaration) = ap (λ (t : Tree). way 2 t) (parameters_written declaration.value)
  item_written (is_item.Typedef declaration) = ap (λ (t : Tree). way 3 t) (typedef_written declaration.value)
  item_written (is_item.Function function) = ap (λ (t : Tree). way 4 t) (func_written function.value)
  item_written (is_item.Genvars declaration) = ap (λ (t : Tree). way 5 t) (genvar_declaration_written declaration.value)
  item_written (is_item.Net declaration) = ap (λ (t : Tree). way 6 t) (net_declaration_written declaration.value)
  item_written (is_item.Variable declaration) = ap (λ (t : Tree). way 7 t) (variable_declaration_written declaration.value)
  item_written (is_item.Data declaration) = data_written declaration.value.data_type declaration.value.declarators declaration.value.semicolon
  item_written (is_item.Assign assignments) = ap (λ (t : Tree). way 9 t) (continuous_assign_written assignments.value)
  item_written (is_item.Clocked procedure) = ap (λ (t : Tree). way 10 t) (clocked_procedure_written procedure.value)
  item_written (is_item.Plain procedure) = ap (λ (t : Tree). way 11 t) (plain_procedure_written procedure.value)
  item_written (is_item.Region' _ keyword _ items end) = ap (λ (t : Tree). way 12 t) (refl ◇ item_row_written items ◇ refl)
  item_written (is_item.LoopGenerate' _ keyword opening genvar name equals start first_semicolon condition second_semicolon step closing block) = ap (λ (t : Tree). way 13 t) (refl ◇ refl ◇ option_written _ _ _ token_written genvar ◇ refl ◇ refl ◇ expr_written 13 start.value ◇ refl ◇ expr_written 13 condition.value ◇ refl ◇ genvar_step_written step ◇ refl ◇ generate_block_written block)
  item_written (is_item.IfGenerate' _ construct) = ap (λ (t : Tree). way 14 t) (if_generate_written construct)
  item_written (is_item.CaseGenerate' _ keyword selector _ items end) = ap (λ (t : Tree). way 15 t) (refl ◇ parenthesized_written selector ◇ ap (λ (ts : List Tree). first_of ts) (case_generate_items_written items) ◇ ap (λ (ts : List Tree). others_of ts) (case_generate_items_written items) ◇ refl)
  item_written (is_item.Modports declaration) = ap (λ (t : Tree). way 16 t) (modport_declaration_written declaration.value)
  item_written (is_item.SystemTask task) = ap (λ (t : Tree). way 17 t) (system_task_written task.value)
  item_written (is_item.Instances instantiation) = ap (λ (t : Tree). final 18 t) (instantiation_written instantiation.value)

  pub generate_block_written : (x : GenerateBlock) → written_generate_block (generate_block_outline x) ≡ generate_block_tree x
  generate_block_written (is_generate_block.Block' _ begin label _ items end end_label) = ap (λ (t : Tree). left t) (refl ◇ option_written _ _ _ label_written label ◇ item_row_written items ◇ refl ◇ option_written _ _ _ label_written end_label)
  generate_block_written (is_generate_block.Item' _ item) = ap (λ (t : Tree). right t) (item_written item)

  pub if_generate_written : (x : IfGenerate) → written_if_generate (if_generate_outline x) ≡ if_generate_tree x
  if_generate_written (IfGenerate' keyword condition chosen otherwise) = refl ◇ parenthesized_written condition ◇ generate_block_written chosen ◇ optional_else_generate_written otherwise

  pub case_generate_item_written : (x : CaseGenerateItem) → written_case_generate_item (case_generate_item_outline x) ≡ case_generate_item_tree x
  case_generate_item_written (is_case_generate_item.Default keyword colon block) = ap (λ (t : Tree). left t) (refl ◇ option_written _ _ _ token_written colon ◇ generate_block_written block)
  case_generate_item_written (is_case_generate_item.Labels labels colon block) = ap (λ (t : Tree). right t) (row_first_written _ _ _ token_at (expr_written 13) labels ◇ row_rest_written _ _ _ _ _ _ (expr_written 13) token_written labels ◇ refl ◇ generate_block_written block)

  pub optional_else_generate_written : (x : Held-IfGenerate-otherwise) → written_optional_else_generate (optional_else_generate_outline x) ≡ optional_else_generate x
  optional_else_generate_written None' = refl
  optional_else_generate_written (Some' keyword block) = ap (λ (t : Tree). left t) (refl ◇ generate_block_written block)

  pub item_row_written : {n : _} (row : Row_of-Item n) → written_item_row (item_row_outline row) ≡ item_row row
  item_row_written end_of-Item = refl
  item_row_written (more_of-Item item rest) = turn_alike (item_written item) (item_row_written rest)

  pub case_generate_items_written : {n : _} (row : Row_of-CaseGenerateItem n) → written_case_generate_items (case_generate_item_row_outline row) ≡ case_generate_item_trees row
  case_generate_items_written end_of-CaseGenerateItem = refl
  case_generate_items_written (more_of-CaseGenerateItem case_generate_item rest) = cons_alike (case_generate_item_written case_generate_item) (case_generate_items_written rest)
