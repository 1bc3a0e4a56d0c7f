-- Nothing is lost where trees of a chunk are seen as readings.
use Rattle.std.proofs.Common.{ℕ}
use Rattle.sve_outline.proofs.Kept.{kept}
use Rattle.sve_outline.proofs.ReadDeclarations.{decl_read, header_read, import_read, modport_read, net_declaration_read, parameters_read, read_decl, read_header, read_import, read_modport, read_net_declaration, read_parameters, read_typedef, read_variable_declaration, typedef_read, variable_declaration_read}
use Rattle.sve_outline.proofs.ReadElements.{design_read, element_read, read_design, read_element, read_unit_item, unit_item_read}
use Rattle.sve_outline.proofs.ReadExpressions.{arg_read, argument_list_read, dimension_read, expr_read, pattern_read, range_read, read_arg, read_argument_list, read_dimension, read_expr, read_pattern, read_range, read_select, select_read}
use Rattle.sve_outline.proofs.ReadItems.{item_read, read_item}
use Rattle.sve_outline.proofs.ReadStatements.{block_item_read, func_read, left_side_read, read_block_item, read_func, read_left_side, read_stmt, stmt_read}
use Rattle.sve_outline.proofs.ReadTypes.{data_type_read, declarator_read, initializer_read, named_type_read, read_data_type, read_declarator, read_initializer, read_named_type, read_type_ref, read_typed_name, type_ref_read, typed_name_read}
use Rattle.sve_outline.proofs.WriteDeclarations.{decl_written, header_written, import_written, modport_written, net_declaration_written, parameters_written, typedef_written, variable_declaration_written, written_decl, written_header, written_import, written_modport, written_net_declaration, written_parameters, written_typedef, written_variable_declaration}
use Rattle.sve_outline.proofs.WriteElements.{design_written, element_written, unit_item_written, written_design, written_element, written_unit_item}
use Rattle.sve_outline.proofs.WriteExpressions.{arg_written, argument_list_written, dimension_written, expr_written, pattern_written, range_written, select_written, written_arg, written_argument_list, written_at, written_dimension, written_pattern, written_range, written_select}
use Rattle.sve_outline.proofs.WriteItems.{item_written, written_item}
use Rattle.sve_outline.proofs.WriteStatements.{block_item_written, func_written, left_side_written, stmt_written, written_block_item, written_func, written_left_side, written_stmt}
use Rattle.sve_outline.proofs.WriteTypes.{data_type_written, declarator_written, initializer_written, named_type_written, type_ref_written, typed_name_written, written_data_type, written_declarator, written_initializer, written_named_type, written_type_ref, written_typed_name}
use Rattle.sve_outline.specs.Declarations.{decl_outline, header_outline, import_outline, modport_outline, net_declaration_outline, parameters_outline, typedef_outline, variable_declaration_outline}
use Rattle.sve_outline.specs.Elements.{design_outline, element_outline, unit_item_outline}
use Rattle.sve_outline.specs.Expressions.{arg_outline, argument_list_outline, dimension_outline, expr_outline, pattern_outline, range_outline, select_outline}
use Rattle.sve_outline.specs.Items.{item_outline}
use Rattle.sve_outline.specs.Outline.{IsKept}
use Rattle.sve_outline.specs.Statements.{block_item_outline, func_outline, left_side_outline, stmt_outline}
use Rattle.sve_outline.specs.Types.{data_type_outline, declarator_outline, initializer_outline, named_type_outline, type_ref_outline, typed_name_outline}
use Rattle.sve_tree.specs.Declarations.{decl_tree, header_tree, import_tree, modport_tree, net_declaration_tree, parameters_tree, typedef_tree, variable_declaration_tree}
use Rattle.sve_tree.specs.Elements.{design_tree, element_tree, unit_item_tree}
use Rattle.sve_tree.specs.Expressions.{arg_tree, argument_list_tree, dimension_tree, pattern_tree, range_tree, select_tree, tree_at}
use Rattle.sve_tree.specs.Items.{item_tree}
use Rattle.sve_tree.specs.Statements.{block_item_tree, func_tree, left_side_tree, stmt_tree}
use Rattle.sve_tree.specs.Types.{data_type_tree, declarator_tree, initializer_tree, named_type_tree, type_ref_tree, typed_name_tree}

-- ---- expressions

pub expr_kept : (level : ℕ) → IsKept (tree_at level) expr_outline
expr_kept level = kept (tree_at level) expr_outline (read_expr level) (written_at level) (expr_read level) (expr_written level)

pub argument_list_kept : IsKept argument_list_tree argument_list_outline
argument_list_kept = kept argument_list_tree argument_list_outline read_argument_list written_argument_list argument_list_read argument_list_written

pub arg_kept : IsKept arg_tree arg_outline
arg_kept = kept arg_tree arg_outline read_arg written_arg arg_read arg_written

pub dimension_kept : IsKept dimension_tree dimension_outline
dimension_kept = kept dimension_tree dimension_outline read_dimension written_dimension dimension_read dimension_written

pub range_kept : IsKept range_tree range_outline
range_kept = kept range_tree range_outline read_range written_range range_read range_written

pub select_kept : IsKept select_tree select_outline
select_kept = kept select_tree select_outline read_select written_select select_read select_written

pub pattern_kept : IsKept pattern_tree pattern_outline
pattern_kept = kept pattern_tree pattern_outline read_pattern written_pattern pattern_read pattern_written

-- ---- types

pub data_type_kept : IsKept data_type_tree data_type_outline
data_type_kept = kept data_type_tree data_type_outline read_data_type written_data_type data_type_read data_type_written

pub named_type_kept : IsKept named_type_tree named_type_outline
named_type_kept = kept named_type_tree named_type_outline read_named_type written_named_type named_type_read named_type_written

pub type_ref_kept : IsKept type_ref_tree type_ref_outline
type_ref_kept = kept type_ref_tree type_ref_outline read_type_ref written_type_ref type_ref_read type_ref_written

pub declarator_kept : IsKept declarator_tree declarator_outline
declarator_kept = kept declarator_tree declarator_outline read_declarator written_declarator declarator_read declarator_written

pub initializer_kept : IsKept initializer_tree initializer_outline
initializer_kept = kept initializer_tree initializer_outline read_initializer written_initializer initializer_read initializer_written

pub typed_name_kept : IsKept typed_name_tree typed_name_outline
typed_name_kept = kept typed_name_tree typed_name_outline read_typed_name written_typed_name typed_name_read typed_name_written

-- ---- declarations

pub decl_kept : IsKept decl_tree decl_outline
decl_kept = kept decl_tree decl_outline read_decl written_decl decl_read decl_written

pub parameters_kept : IsKept parameters_tree parameters_outline
parameters_kept = kept parameters_tree parameters_outline read_parameters written_parameters parameters_read parameters_written

pub typedef_kept : IsKept typedef_tree typedef_outline
typedef_kept = kept typedef_tree typedef_outline read_typedef written_typedef typedef_read typedef_written

pub import_kept : IsKept import_tree import_outline
import_kept = kept import_tree import_outline read_import written_import import_read import_written

pub modport_kept : IsKept modport_tree modport_outline
modport_kept = kept modport_tree modport_outline read_modport written_modport modport_read modport_written

pub net_declaration_kept : IsKept net_declaration_tree net_declaration_outline
net_declaration_kept = kept net_declaration_tree net_declaration_outline read_net_declaration written_net_declaration net_declaration_read net_declaration_written

pub variable_declaration_kept : IsKept variable_declaration_tree variable_declaration_outline
variable_declaration_kept = kept variable_declaration_tree variable_declaration_outline read_variable_declaration written_variable_declaration variable_declaration_read variable_declaration_written

pub header_kept : IsKept header_tree header_outline
header_kept = kept header_tree header_outline read_header written_header header_read header_written

-- ---- statements

pub left_side_kept : IsKept left_side_tree left_side_outline
left_side_kept = kept left_side_tree left_side_outline read_left_side written_left_side left_side_read left_side_written

pub stmt_kept : IsKept stmt_tree stmt_outline
stmt_kept = kept stmt_tree stmt_outline read_stmt written_stmt stmt_read stmt_written

pub block_item_kept : IsKept block_item_tree block_item_outline
block_item_kept = kept block_item_tree block_item_outline read_block_item written_block_item block_item_read block_item_written

pub func_kept : IsKept func_tree func_outline
func_kept = kept func_tree func_outline read_func written_func func_read func_written

-- ---- items

pub item_kept : IsKept item_tree item_outline
item_kept = kept item_tree item_outline read_item written_item item_read item_written

-- ---- elements

pub unit_item_kept : IsKept unit_item_tree unit_item_outline
unit_item_kept = kept unit_item_tree unit_item_outline read_unit_item written_unit_item unit_item_read unit_item_written

pub design_kept : IsKept design_tree design_outline
design_kept = kept design_tree design_outline read_design written_design design_read design_written

pub element_kept : IsKept element_tree element_outline
element_kept = kept element_tree element_outline read_element written_element element_read element_written
