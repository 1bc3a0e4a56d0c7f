-- Items of modules and interfaces, read back from their trees.
use Rattle.std.proofs.Common.{List, None, Option, Some, [], refl, ℕ, ◌∷◌, ◌≡◌}
use Rattle.sve_grammar.specs.Reading.{Tree, leaf, left, none, pair, right, turn}
use Rattle.sve_outline.proofs.Marks.{clocked_keyword_marked, edge_marked, event_separator_marked, plain_keyword_marked, step_operator_marked}
use Rattle.sve_outline.proofs.ReadDeclarations.{declarators_read, import_read, initialized_declarator_read, modport_read, net_declaration_read, parameters_read, read_declarators, read_import, read_modport, read_net_declaration, read_parameters, read_typedef, read_variable_declaration, typedef_read, variable_declaration_read}
use Rattle.sve_outline.proofs.ReadExpressions.{argument_list_read, dimension_read, expr_read, parenthesized_read, read_argument_list, read_dimension, read_expr, read_parenthesized, read_select, select_read}
use Rattle.sve_outline.proofs.ReadNames.{label_read, read_label}
use Rattle.sve_outline.proofs.ReadStatements.{change_read, func_read, left_side_read, read_change, read_func, read_left_side, read_stmt, read_system_task, stmt_read, system_task_read}
use Rattle.sve_outline.proofs.ReadTypes.{data_type_read, initializer_read, read_data_type, read_declarator}
use Rattle.sve_outline.proofs.Readers.{IsRead, items_read, list_read, mark_read, numbered, option_read, parted_read, read_list, read_option, read_row, read_row_behind, read_token, rest_separators, row_read, token_read, ◌◃◌}
use Rattle.sve_outline.specs.Declarations.{initialized_declarator_outline}
use Rattle.sve_outline.specs.Expressions.{argument_list_outline, dimension_outline}
use Rattle.sve_outline.specs.Items.{case_generate_item_outline, case_generate_item_row_outline, clocked_procedure_outline, continuous_assign_outline, event_control_outline, event_outline, generate_block_outline, genvar_declaration_outline, genvar_step_outline, if_generate_outline, instance_outline, item_outline, item_row_outline, modport_declaration_outline, net_assignment_outline, optional_else_generate_outline, overrides_outline, plain_procedure_outline}
use Rattle.sve_outline.specs.Outline.{IsWhole, Outline, list_outline, no_more, option_outline, row_outline, token_at, variant, ◌◂◌}
use Rattle.sve_outline.specs.Types.{data_type_outline, type_ref_outline}
use Rattle.sve_outline.specs.Words.{package_scope_outline}
use Rattle.sve_tree.specs.Declarations.{initialized_declarator_tree}
use Rattle.sve_tree.specs.Expressions.{argument_list_tree, dimension_tree}
use Rattle.sve_tree.specs.Items.{case_generate_item_tree, case_generate_item_trees, clocked_procedure_tree, continuous_assign_tree, data_item_tree, event_control_tree, event_tree, generate_block_tree, genvar_declaration_tree, genvar_step_tree, if_generate_tree, instance_tree, instances_tree, item_row, item_tree, modport_declaration_tree, named_data_tree, net_assignment_tree, optional_else_generate, plain_procedure_tree, scoped_data_tree}
use Rattle.sve_tree.specs.Shape.{first_of, first_tree, further_tree, optional_tree, others_of, others_tree, repeated_tree}
use Rattle.sve_tree.specs.Types.{initializer_tree}
use Rattle.sve_tree.specs.declared.data_type.TypeRef.{TypeRef}
use Rattle.sve_tree.specs.declared.declaration.InitializedDeclarator.{InitializedDeclarator}
use Rattle.sve_tree.specs.declared.expression.Dimension.{Dimension}
use Rattle.sve_tree.specs.declared.item.CaseGenerate.{Row_of-CaseGenerateItem, end_of-CaseGenerateItem, more_of-CaseGenerateItem}
use Rattle.sve_tree.specs.declared.item.CaseGenerateItem.{CaseGenerateItem}
use Rattle.sve_tree.specs.declared.item.GenerateBlock.{GenerateBlock}
use Rattle.sve_tree.specs.declared.item.GenerateRegion.{Row_of-Item, end_of-Item, more_of-Item}
use Rattle.sve_tree.specs.declared.item.IfGenerate.{Held-IfGenerate-otherwise, IfGenerate, IfGenerate', None', Some'}
use Rattle.sve_tree.specs.declared.item.Instance.{Instance}
use Rattle.sve_tree.specs.declared.item.Item.{Item}
use Rattle.sve_tree.specs.declared.item.Overrides.{Overrides}
use Rattle.sve_tree.specs.declared.row.Row.{Row}
use Rattle.sve_tree.specs.declared.word.PackageScope.{PackageScope}
use Rattle.sve_tree.specs.declared.item.CaseGenerateItem.TheVariants as is_case_generate_item
use Rattle.sve_tree.specs.declared.item.EventControl.TheVariants as is_event_control
use Rattle.sve_tree.specs.declared.item.GenerateBlock.TheVariants as is_generate_block
use Rattle.sve_tree.specs.declared.item.GenvarStep.TheVariants as is_genvar_step
use Rattle.sve_tree.specs.declared.item.Item.TheVariants as is_item
use Rattle.sve_tree.specs.declared.data_type.TypeRef.TheVariants as is_type_ref

pub read_genvar_declaration : Tree → Outline
read_genvar_declaration (pair (leaf keyword) (pair first (pair others (leaf semicolon)))) = token_at keyword ◂ read_row read_token read_token first others ◂ token_at semicolon
read_genvar_declaration t = no_more

pub genvar_declaration_read : IsRead genvar_declaration_tree genvar_declaration_outline read_genvar_declaration
unfolding read_genvar_declaration
genvar_declaration_read x w = refl ◃ row_read _ _ read_token _ _ read_token token_read token_read x.names w.1.0 w.1.1.0 ◃ refl

pub read_net_assignment : Tree → Outline
read_net_assignment (pair l (pair (leaf equals) value)) = read_left_side l ◂ token_at equals ◂ read_expr 13 value
read_net_assignment t = no_more

pub net_assignment_read : IsRead net_assignment_tree net_assignment_outline read_net_assignment
unfolding read_net_assignment
net_assignment_read x w = left_side_read x.left w.0 ◃ refl ◃ expr_read 13 x.value.value w.1.1

pub read_continuous_assign : Tree → Outline
read_continuous_assign (pair (leaf keyword) (pair first (pair others (leaf semicolon)))) = token_at keyword ◂ read_row read_net_assignment read_token first others ◂ token_at semicolon
read_continuous_assign t = no_more

pub continuous_assign_read : IsRead continuous_assign_tree continuous_assign_outline read_continuous_assign
unfolding read_continuous_assign
continuous_assign_read x w = refl ◃ row_read _ _ read_net_assignment _ _ read_token net_assignment_read token_read x.assignments w.1.0 w.1.1.0 ◃ refl

pub read_plain_procedure : Tree → Outline
read_plain_procedure (pair keyword statement) = numbered 2 0 keyword ◂ read_stmt statement
read_plain_procedure t = no_more

pub plain_procedure_read : IsRead plain_procedure_tree plain_procedure_outline read_plain_procedure
unfolding read_plain_procedure
plain_procedure_read x w = mark_read _ _ _ plain_keyword_marked x.keyword w.0 ◃ stmt_read x.statement.value w.1

pub read_event : Tree → Outline
read_event (pair edge value) = read_option (numbered 2 0) edge ◂ read_expr 13 value
read_event t = no_more

pub event_read : IsRead event_tree event_outline read_event
unfolding read_event
event_read x w = option_read _ _ _ (mark_read _ _ _ edge_marked) x.edge w.0 ◃ expr_read 13 x.value.value w.1

pub read_event_control : Tree → Outline
read_event_control (left (leaf star)) = variant 0 ◂ token_at star
read_event_control (right (left (pair (leaf opening) (pair (left (leaf star)) (leaf closing))))) = variant 1 ◂ token_at opening ◂ token_at star ◂ token_at closing
read_event_control (right (left (pair (leaf opening) (pair (right (pair first others)) (leaf closing))))) = variant 2 ◂ token_at opening ◂ read_row read_event (numbered 1 0) first others ◂ token_at closing
read_event_control (right (right (pair (leaf name) selects))) = variant 3 ◂ token_at name ◂ read_list read_select selects
read_event_control t = no_more

pub event_control_read : IsRead event_control_tree event_control_outline read_event_control
unfolding read_event_control
event_control_read (is_event_control.Any star) w = refl
event_control_read (is_event_control.AnyParenthesized opening star closing) w = refl
event_control_read (is_event_control.Events opening events closing) w = refl ◃ refl ◃ row_read _ _ read_event _ _ (numbered 1 0) event_read (mark_read _ _ _ event_separator_marked) events w.1.0.0 w.1.0.1 ◃ refl
event_control_read (is_event_control.Name name selects) w = refl ◃ refl ◃ list_read _ _ _ select_read selects.items w.1

pub read_clocked_procedure : Tree → Outline
read_clocked_procedure (pair keyword (pair (leaf at) (pair control statement))) = numbered 1 0 keyword ◂ token_at at ◂ read_event_control control ◂ read_stmt statement
read_clocked_procedure t = no_more

pub clocked_procedure_read : IsRead clocked_procedure_tree clocked_procedure_outline read_clocked_procedure
unfolding read_clocked_procedure
clocked_procedure_read x w = mark_read _ _ _ clocked_keyword_marked x.keyword w.0 ◃ refl ◃ event_control_read x.control w.1.1.0 ◃ stmt_read x.statement.value w.1.1.1

pub read_genvar_step : Tree → Outline
read_genvar_step (left (pair operator (leaf name))) = variant 0 ◂ numbered 1 0 operator ◂ token_at name
read_genvar_step (right (pair (leaf name) change)) = variant 1 ◂ token_at name ◂ read_change change
read_genvar_step t = no_more

pub genvar_step_read : IsRead genvar_step_tree genvar_step_outline read_genvar_step
unfolding read_genvar_step
genvar_step_read (is_genvar_step.Before operator name) w = refl ◃ mark_read _ _ _ step_operator_marked operator w.0 ◃ refl
genvar_step_read (is_genvar_step.Change name change) w = refl ◃ refl ◃ change_read change w.1

pub read_modport_declaration : Tree → Outline
read_modport_declaration (pair (leaf keyword) (pair first (pair others (leaf semicolon)))) = token_at keyword ◂ read_row read_modport read_token first others ◂ token_at semicolon
read_modport_declaration t = no_more

pub modport_declaration_read : IsRead modport_declaration_tree modport_declaration_outline read_modport_declaration
unfolding read_modport_declaration
modport_declaration_read x w = refl ◃ row_read _ _ read_modport _ _ read_token modport_read token_read x.modports w.1.0 w.1.1.0 ◃ refl

pub read_instance : Tree → Outline
read_instance (pair (leaf name) connections) = token_at name ◂ read_argument_list connections
read_instance t = no_more

pub instance_read : IsRead instance_tree instance_outline read_instance
unfolding read_instance
instance_read x w = refl ◃ argument_list_read x.connections w.1

-- what begins with a name: instances, or variables of a type by its name
pub read_named_item : Tree → Outline
read_named_item (pair (leaf definition) (left (pair (leaf hash) (pair arguments (pair first (pair others (leaf semicolon))))))) = variant 18 ◂ token_at definition ◂ (variant 1 ◂ token_at hash ◂ read_argument_list arguments) ◂ read_row read_instance read_token first others ◂ token_at semicolon
read_named_item (pair (leaf scope) (right (left (pair (leaf colons) (pair (leaf name) (pair dimensions (pair first (pair (pair value others) (leaf semicolon))))))))) = variant 8 ◂ (variant 1 ◂ ((variant 1 ◂ token_at scope ◂ token_at colons) ◂ token_at name) ◂ read_list read_dimension dimensions) ◂ read_declarators (read_declarator first) value others ◂ token_at semicolon
read_named_item (pair (leaf name) (right (right (left (pair dimension (pair dimensions (pair first (pair (pair value others) (leaf semicolon))))))))) = variant 8 ◂ (variant 1 ◂ (variant 0 ◂ token_at name) ◂ read_dimension dimension ◂ read_list read_dimension dimensions) ◂ read_declarators (read_declarator first) value others ◂ token_at semicolon
read_named_item (pair (leaf definition) (right (right (right (pair first (left (pair connections (pair others (leaf semicolon))))))))) = variant 18 ◂ token_at definition ◂ variant 0 ◂ read_row_behind (read_token first ◂ read_argument_list connections) read_instance read_token others ◂ token_at semicolon
read_named_item (pair (leaf name) (right (right (right (pair first (right (pair dimensions (pair (pair value others) (leaf semicolon))))))))) = variant 8 ◂ (variant 1 ◂ (variant 0 ◂ token_at name) ◂ no_more) ◂ read_declarators (read_token first ◂ read_list read_dimension dimensions) value others ◂ token_at semicolon
read_named_item t = no_more

instances_read : (definition : ℕ) (overrides : Option Overrides) (row : Row Instance ℕ) (semicolon : ℕ) → IsWhole (instances_tree overrides row semicolon) → read_named_item (pair (leaf definition) (instances_tree overrides row semicolon)) ≡ (variant 18 ◂ token_at definition ◂ option_outline overrides_outline overrides ◂ row_outline instance_outline token_at row ◂ token_at semicolon)
unfolding read_named_item
instances_read definition None row semicolon w = refl ◃ refl ◃ refl ◃ parted_read (λ (i : Instance). leaf i.name) (λ (i : Instance). argument_list_tree i.connections) (λ (i : Instance). token_at i.name) (λ (i : Instance). argument_list_outline i.connections) read_token read_argument_list instance_tree read_instance leaf token_at read_token (λ i v. token_read i.name v) (λ i v. argument_list_read i.connections v) instance_read token_read row w.0 w.1.0 w.1.1.0 ◃ refl
instances_read definition (Some overrides) row semicolon w = refl ◃ refl ◃ (refl ◃ refl ◃ argument_list_read overrides.arguments w.1.0) ◃ row_read _ _ read_instance _ _ read_token instance_read token_read row w.1.1.0 w.1.1.1.0 ◃ refl

-- a name and its dimensions, seen apart
declarators_apart : (ds : List InitializedDeclarator) (ss : List ℕ) → IsWhole (first_tree (λ (d : InitializedDeclarator). leaf d.declarator.name) ds) → IsWhole (first_tree (λ (d : InitializedDeclarator). repeated_tree dimension_tree d.declarator.dimensions.items) ds) → IsWhole (first_tree (λ (d : InitializedDeclarator). optional_tree initializer_tree d.value) ds) → IsWhole (further_tree initialized_declarator_tree leaf ds ss) → read_declarators (read_token (first_tree (λ (d : InitializedDeclarator). leaf d.declarator.name) ds) ◂ read_list read_dimension (first_tree (λ (d : InitializedDeclarator). repeated_tree dimension_tree d.declarator.dimensions.items) ds)) (first_tree (λ (d : InitializedDeclarator). optional_tree initializer_tree d.value) ds) (further_tree initialized_declarator_tree leaf ds ss) ≡ (list_outline initialized_declarator_outline ds ◂ list_outline token_at ss)
unfolding first_tree further_tree list_outline
declarators_apart [] ss a b c e = absurd e.2
declarators_apart (d ∷ ds) ss a b c e = (((token_read d.declarator.name a ◃ list_read _ _ _ dimension_read d.declarator.dimensions.items b) ◃ option_read _ _ _ initializer_read d.value c) ◃ items_read _ _ _ _ initialized_declarator_read ds ss e) ◃ rest_separators _ _ _ _ token_read ds ss e

named_data_read : (name : ℕ) (dimensions : List Dimension) (row : Row InitializedDeclarator ℕ) (i : ℕ) → IsWhole (named_data_tree dimensions row i) → read_named_item (pair (leaf name) (named_data_tree dimensions row i)) ≡ (variant 8 ◂ (variant 1 ◂ (variant 0 ◂ token_at name) ◂ list_outline dimension_outline dimensions) ◂ row_outline initialized_declarator_outline token_at row ◂ token_at i)
unfolding named_data_tree list_outline read_named_item
named_data_read name [] row i w = refl ◃ refl ◃ declarators_apart row.items.items row.separators.items w.0 w.1.0 w.1.1.0.0 w.1.1.0.1 ◃ refl
named_data_read name (first ∷ others) row i w = refl ◃ (refl ◃ refl ◃ dimension_read first w.0 ◃ list_read _ _ _ dimension_read others w.1.0) ◃ declarators_read row w.1.1.0 w.1.1.1.0 ◃ refl

scoped_data_read : (scope : Option PackageScope) (name : ℕ) (dimensions : List Dimension) (row : Row InitializedDeclarator ℕ) (i : ℕ) → IsWhole (scoped_data_tree scope name dimensions row i) → read_named_item (scoped_data_tree scope name dimensions row i) ≡ (variant 8 ◂ (variant 1 ◂ (option_outline package_scope_outline scope ◂ token_at name) ◂ list_outline dimension_outline dimensions) ◂ row_outline initialized_declarator_outline token_at row ◂ token_at i)
unfolding read_named_item
scoped_data_read None name dimensions row i w = named_data_read name dimensions row i w.1
scoped_data_read (Some scope) name dimensions row i w = refl ◃ (refl ◃ refl ◃ list_read _ _ _ dimension_read dimensions w.1.1.1.0) ◃ declarators_read row w.1.1.1.1.0 w.1.1.1.1.1.0 ◃ refl

mutual
  pub read_item : Tree → Outline
  read_item (left (leaf semicolon)) = variant 0 ◂ token_at semicolon
  read_item (right (left declaration)) = variant 1 ◂ read_import declaration
  read_item (right (right (left declaration))) = variant 2 ◂ read_parameters declaration
  read_item (right (right (right (left declaration)))) = variant 3 ◂ read_typedef declaration
  read_item (right (right (right (right (left function))))) = variant 4 ◂ read_func function
  read_item (right (right (right (right (right (left declaration)))))) = variant 5 ◂ read_genvar_declaration declaration
  read_item (right (right (right (right (right (right (left declaration))))))) = variant 6 ◂ read_net_declaration declaration
  read_item (right (right (right (right (right (right (right (left declaration)))))))) = variant 7 ◂ read_variable_declaration declaration
  read_item (right (right (right (right (right (right (right (right (left (pair data_type (pair first (pair (pair value others) (leaf semicolon))))))))))))) = variant 8 ◂ (variant 0 ◂ read_data_type data_type) ◂ read_declarators (read_declarator first) value others ◂ token_at semicolon
  read_item (right (right (right (right (right (right (right (right (right (left assignments)))))))))) = variant 9 ◂ read_continuous_assign assignments
  read_item (right (right (right (right (right (right (right (right (right (right (left procedure))))))))))) = variant 10 ◂ read_clocked_procedure procedure
  read_item (right (right (right (right (right (right (right (right (right (right (right (left procedure)))))))))))) = variant 11 ◂ read_plain_procedure procedure
  read_item (right (right (right (right (right (right (right (right (right (right (right (right (left (pair (leaf keyword) (pair items (leaf end)))))))))))))))) = variant 12 ◂ token_at keyword ◂ read_item_row items ◂ token_at end
  read_item (right (right (right (right (right (right (right (right (right (right (right (right (right (left (pair (leaf keyword) (pair (leaf opening) (pair genvar (pair (leaf name) (pair (leaf equals) (pair start (pair (leaf first_semicolon) (pair condition (pair (leaf second_semicolon) (pair step (pair (leaf closing) block))))))))))))))))))))))))) = variant 13 ◂ token_at keyword ◂ token_at opening ◂ read_option read_token genvar ◂ token_at name ◂ token_at equals ◂ read_expr 13 start ◂ token_at first_semicolon ◂ read_expr 13 condition ◂ token_at second_semicolon ◂ read_genvar_step step ◂ token_at closing ◂ read_generate_block block
  read_item (right (right (right (right (right (right (right (right (right (right (right (right (right (right (left construct))))))))))))))) = variant 14 ◂ read_if_generate construct
  read_item (right (right (right (right (right (right (right (right (right (right (right (right (right (right (right (left (pair (leaf keyword) (pair selector (pair first (pair others (leaf end))))))))))))))))))))) = variant 15 ◂ token_at keyword ◂ read_parenthesized selector ◂ (read_case_generate_item first ◂ read_case_generate_item_rest others) ◂ token_at end
  read_item (right (right (right (right (right (right (right (right (right (right (right (right (right (right (right (right (left declaration))))))))))))))))) = variant 16 ◂ read_modport_declaration declaration
  read_item (right (right (right (right (right (right (right (right (right (right (right (right (right (right (right (right (right (left task)))))))))))))))))) = variant 17 ◂ read_system_task task
  read_item (right (right (right (right (right (right (right (right (right (right (right (right (right (right (right (right (right (right named)))))))))))))))))) = read_named_item named
  read_item t = no_more

  pub read_generate_block : Tree → Outline
  read_generate_block (left (pair (leaf begin) (pair label (pair items (pair (leaf end) end_label))))) = variant 0 ◂ token_at begin ◂ read_option read_label label ◂ read_item_row items ◂ token_at end ◂ read_option read_label end_label
  read_generate_block (right item) = variant 1 ◂ read_item item
  read_generate_block t = no_more

  pub read_if_generate : Tree → Outline
  read_if_generate (pair (leaf keyword) (pair condition (pair chosen otherwise))) = token_at keyword ◂ read_parenthesized condition ◂ read_generate_block chosen ◂ read_optional_else_generate otherwise
  read_if_generate t = no_more

  pub read_case_generate_item : Tree → Outline
  read_case_generate_item (left (pair (leaf keyword) (pair colon block))) = variant 0 ◂ token_at keyword ◂ read_option read_token colon ◂ read_generate_block block
  read_case_generate_item (right (pair first (pair others (pair (leaf colon) block)))) = variant 1 ◂ read_row (read_expr 13) read_token first others ◂ token_at colon ◂ read_generate_block block
  read_case_generate_item t = no_more

  pub read_optional_else_generate : Tree → Outline
  read_optional_else_generate (right none) = variant 0
  read_optional_else_generate (left (pair (leaf keyword) block)) = variant 1 ◂ token_at keyword ◂ read_generate_block block
  read_optional_else_generate t = no_more

  pub read_item_row : Tree → Outline
  read_item_row (turn item rest) = read_item item ◂ read_item_row rest
  read_item_row t = no_more

  pub read_case_generate_item_rest : Tree → Outline
  read_case_generate_item_rest (turn item rest) = read_case_generate_item item ◂ read_case_generate_item_rest rest
  read_case_generate_item_rest t = no_more

data_read : (t : TypeRef) (row : Row InitializedDeclarator ℕ) (i : ℕ) → IsWhole (data_item_tree t row i) → read_item (data_item_tree t row i) ≡ (variant 8 ◂ type_ref_outline t ◂ row_outline initialized_declarator_outline token_at row ◂ token_at i)
unfolding data_type_outline read_item
data_read (is_type_ref.Written data_type) row i w = refl ◃ (refl ◃ data_type_read data_type w.0) ◃ declarators_read row w.1.0 w.1.1.0 ◃ refl
data_read (is_type_ref.Named named) row i w = scoped_data_read named.name.scope named.name.name named.dimensions.items row i w

mutual
  unfolding item_tree item_outline read_item first_tree others_tree repeated_tree

  pub item_read : (x : Item) → IsWhole (item_tree x) → read_item (item_tree x) ≡ item_outline x
  item_read (is_item.Empty semicolon) w = refl
  item_read (is_item.Import declaration) w = refl ◃ import_read declaration.value w
  item_read (is_item.Parameters declaration) w = refl ◃ parameters_read declaration.value w
  item_read (is_item.Typedef declaration) w = refl ◃ typedef_read declaration.value w
  item_read (is_item.Function function) w = refl ◃ func_read function.value w
  item_read (is_item.Genvars declaration) w = refl ◃ genvar_declaration_read declaration.value w
  item_read (is_item.Net declaration) w = refl ◃ net_declaration_read declaration.value w
  item_read (is_item.Variable declaration) w = refl ◃ variable_declaration_read declaration.value w
  item_read (is_item.Data declaration) w = data_read declaration.value.data_type declaration.value.declarators declaration.value.semicolon w
  item_read (is_item.Assign assignments) w = refl ◃ continuous_assign_read assignments.value w
  item_read (is_item.Clocked procedure) w = refl ◃ clocked_procedure_read procedure.value w
  item_read (is_item.Plain procedure) w = refl ◃ plain_procedure_read procedure.value w
  item_read (is_item.Region' _ keyword _ items end) w = refl ◃ refl ◃ item_row_read items w.1.0 ◃ refl
  item_read (is_item.LoopGenerate' _ keyword opening genvar name equals start first_semicolon condition second_semicolon step closing block) w = refl ◃ refl ◃ refl ◃ option_read _ _ _ token_read genvar w.1.1.0 ◃ refl ◃ refl ◃ expr_read 13 start.value w.1.1.1.1.1.0 ◃ refl ◃ expr_read 13 condition.value w.1.1.1.1.1.1.1.0 ◃ refl ◃ genvar_step_read step w.1.1.1.1.1.1.1.1.1.0 ◃ refl ◃ generate_block_read block w.1.1.1.1.1.1.1.1.1.1.1
  item_read (is_item.IfGenerate' _ construct) w = refl ◃ if_generate_read construct w
  item_read (is_item.CaseGenerate' _ keyword selector _ items end) w = refl ◃ refl ◃ parenthesized_read selector w.1.0 ◃ case_generate_item_row_read items w.1.1.0 w.1.1.1.0 ◃ refl
  item_read (is_item.Modports declaration) w = refl ◃ modport_declaration_read declaration.value w
  item_read (is_item.SystemTask task) w = refl ◃ system_task_read task.value w
  item_read (is_item.Instances instantiation) w = instances_read instantiation.value.definition instantiation.value.overrides instantiation.value.instances instantiation.value.semicolon w.1

  pub generate_block_read : (x : GenerateBlock) → IsWhole (generate_block_tree x) → read_generate_block (generate_block_tree x) ≡ generate_block_outline x
  generate_block_read (is_generate_block.Block' _ begin label _ items end end_label) w = refl ◃ refl ◃ option_read _ _ _ label_read label w.1.0 ◃ item_row_read items w.1.1.0 ◃ refl ◃ option_read _ _ _ label_read end_label w.1.1.1.1
  generate_block_read (is_generate_block.Item' _ item) w = refl ◃ item_read item w

  pub if_generate_read : (x : IfGenerate) → IsWhole (if_generate_tree x) → read_if_generate (if_generate_tree x) ≡ if_generate_outline x
  if_generate_read (IfGenerate' keyword condition chosen otherwise) w = refl ◃ parenthesized_read condition w.1.0 ◃ generate_block_read chosen w.1.1.0 ◃ optional_else_generate_read otherwise w.1.1.1

  pub case_generate_item_read : (x : CaseGenerateItem) → IsWhole (case_generate_item_tree x) → read_case_generate_item (case_generate_item_tree x) ≡ case_generate_item_outline x
  case_generate_item_read (is_case_generate_item.Default keyword colon block) w = refl ◃ refl ◃ option_read _ _ _ token_read colon w.1.0 ◃ generate_block_read block w.1.1
  case_generate_item_read (is_case_generate_item.Labels labels colon block) w = refl ◃ row_read _ _ (read_expr 13) _ _ read_token (expr_read 13) token_read labels w.0 w.1.0 ◃ refl ◃ generate_block_read block w.1.1.1

  pub optional_else_generate_read : (x : Held-IfGenerate-otherwise) → IsWhole (optional_else_generate x) → read_optional_else_generate (optional_else_generate x) ≡ optional_else_generate_outline x
  optional_else_generate_read None' w = refl
  optional_else_generate_read (Some' keyword block) w = refl ◃ refl ◃ generate_block_read block w.1

  pub item_row_read : {n : _} (row : Row_of-Item n) → IsWhole (item_row row) → read_item_row (item_row row) ≡ item_row_outline row
  item_row_read end_of-Item w = refl
  item_row_read (more_of-Item item rest) w = item_read item w.0 ◃ item_row_read rest w.1

  pub case_generate_item_row_read : {n : _} (row : Row_of-CaseGenerateItem n) → IsWhole (first_of (case_generate_item_trees row)) → IsWhole (others_of (case_generate_item_trees row)) → (read_case_generate_item (first_of (case_generate_item_trees row)) ◂ read_case_generate_item_rest (others_of (case_generate_item_trees row))) ≡ case_generate_item_row_outline row
  case_generate_item_row_read end_of-CaseGenerateItem w v = absurd w.2
  case_generate_item_row_read (more_of-CaseGenerateItem case_generate_item rest) w v = case_generate_item_read case_generate_item w ◃ case_generate_item_rest_read rest v

  pub case_generate_item_rest_read : {n : _} (row : Row_of-CaseGenerateItem n) → IsWhole (repeated_tree (λ (t : Tree). t) (case_generate_item_trees row)) → read_case_generate_item_rest (repeated_tree (λ (t : Tree). t) (case_generate_item_trees row)) ≡ case_generate_item_row_outline row
  case_generate_item_rest_read end_of-CaseGenerateItem w = refl
  case_generate_item_rest_read (more_of-CaseGenerateItem case_generate_item rest) w = case_generate_item_read case_generate_item w.0 ◃ case_generate_item_rest_read rest w.1
