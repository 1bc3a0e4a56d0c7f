-- Chunks, read back from their trees.
use Rattle.std.proofs.Common.{refl}
use Rattle.sve_grammar.specs.Reading.{Tree, leaf, left, pair, right}
use Rattle.sve_outline.proofs.Marks.{lifetime_marked, module_keyword_marked}
use Rattle.sve_outline.proofs.ReadDeclarations.{header_read, import_read, parameters_read, read_header, read_import, read_parameters, read_typedef, typedef_read}
use Rattle.sve_outline.proofs.ReadItems.{item_read, read_item}
use Rattle.sve_outline.proofs.ReadNames.{label_read, read_label}
use Rattle.sve_outline.proofs.ReadStatements.{func_read, read_func}
use Rattle.sve_outline.proofs.Readers.{IsRead, list_read, mark_read, numbered, option_read, read_list, read_option, ◌◃◌}
use Rattle.sve_outline.specs.Elements.{definition_outline, design_outline, element_outline, package_outline, unit_item_outline}
use Rattle.sve_outline.specs.Outline.{Outline, no_more, token_at, variant, ◌◂◌}
use Rattle.sve_tree.specs.Elements.{definition_tree, design_tree, element_tree, package_tree, unit_item_tree}
use Rattle.sve_tree.specs.declared.element.Design.TheVariants as is_design
use Rattle.sve_tree.specs.declared.element.UnitItem.TheVariants as is_unit_item

pub read_unit_item : Tree → Outline
read_unit_item (left (leaf semicolon)) = variant 0 ◂ token_at semicolon
read_unit_item (right (left declaration)) = variant 1 ◂ read_import declaration
read_unit_item (right (right (left declaration))) = variant 2 ◂ read_parameters declaration
read_unit_item (right (right (right (left declaration)))) = variant 3 ◂ read_typedef declaration
read_unit_item (right (right (right (right function)))) = variant 4 ◂ read_func function
read_unit_item t = no_more

pub unit_item_read : IsRead unit_item_tree unit_item_outline read_unit_item
unfolding read_unit_item
unit_item_read (is_unit_item.Empty semicolon) w = refl
unit_item_read (is_unit_item.Import declaration) w = refl ◃ import_read declaration.value w
unit_item_read (is_unit_item.Parameters declaration) w = refl ◃ parameters_read declaration.value w
unit_item_read (is_unit_item.Typedef declaration) w = refl ◃ typedef_read declaration.value w
unit_item_read (is_unit_item.Function function) w = refl ◃ func_read function.value w

pub read_definition : Tree → Outline
read_definition (pair header (pair items (pair (leaf end) label))) = read_header header ◂ read_list read_item items ◂ token_at end ◂ read_option read_label label
read_definition t = no_more

pub definition_read : IsRead definition_tree definition_outline read_definition
unfolding read_definition
definition_read x w = header_read x.header w.0 ◃ list_read _ _ _ item_read x.items.items w.1.0 ◃ refl ◃ option_read _ _ _ label_read x.label w.1.1.1

pub read_package : Tree → Outline
read_package (pair (leaf keyword) (pair lifetime (pair (leaf name) (pair (leaf semicolon) (pair items (pair (leaf end) label)))))) = token_at keyword ◂ read_option (numbered 1 0) lifetime ◂ token_at name ◂ token_at semicolon ◂ read_list read_unit_item items ◂ token_at end ◂ read_option read_label label
read_package t = no_more

pub package_read : IsRead package_tree package_outline read_package
unfolding read_package
package_read x w = refl ◃ option_read _ _ _ (mark_read _ _ _ lifetime_marked) x.lifetime w.1.0 ◃ refl ◃ refl ◃ list_read _ _ _ unit_item_read x.items.items w.1.1.1.1.0 ◃ refl ◃ option_read _ _ _ label_read x.label w.1.1.1.1.1.1

pub read_design : Tree → Outline
read_design (left (pair keyword definition)) = variant 0 ◂ numbered 1 0 keyword ◂ read_definition definition
read_design (right (left (pair (leaf keyword) definition))) = variant 1 ◂ token_at keyword ◂ read_definition definition
read_design (right (right unit)) = variant 2 ◂ read_package unit
read_design t = no_more

pub design_read : IsRead design_tree design_outline read_design
unfolding read_design
design_read (is_design.Module keyword definition) w = refl ◃ mark_read _ _ _ module_keyword_marked keyword w.0 ◃ definition_read definition.value w.1
design_read (is_design.Interface keyword definition) w = refl ◃ refl ◃ definition_read definition.value w.1
design_read (is_design.Package unit) w = refl ◃ package_read unit.value w

pub read_element : Tree → Outline
read_element (pair items design) = read_list read_unit_item items ◂ read_option read_design design
read_element t = no_more

pub element_read : IsRead element_tree element_outline read_element
unfolding read_element
element_read x w = list_read _ _ _ unit_item_read x.items.items w.0 ◃ option_read _ _ _ design_read x.design w.1
