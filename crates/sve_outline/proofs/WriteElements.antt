-- Chunks, shown as trees from what they say.
use Rattle.std.proofs.Common.{ap, refl, suc, zero}
use Rattle.sve_grammar.specs.Reading.{Tree, leaf, none}
use Rattle.sve_outline.proofs.Marks.{lifetime_marked, module_keyword_marked}
use Rattle.sve_outline.proofs.WriteDeclarations.{header_written, import_written, parameters_written, typedef_written, written_header, written_import, written_parameters, written_typedef}
use Rattle.sve_outline.proofs.WriteItems.{item_written, written_item}
use Rattle.sve_outline.proofs.WriteNames.{label_written, written_label}
use Rattle.sve_outline.proofs.WriteStatements.{func_written, written_func}
use Rattle.sve_outline.proofs.Writers.{IsWritten, list_written, mark_written, option_written, written_list, written_mark, written_option, ◌◇◌}
use Rattle.sve_outline.specs.Elements.{definition_outline, design_outline, element_outline, package_outline, unit_item_outline}
use Rattle.sve_outline.specs.Outline.{Outline, token_at, variant, ◌◂◌}
use Rattle.sve_tree.specs.Elements.{definition_tree, design_tree, element_tree, package_tree, unit_item_tree}
use Rattle.sve_tree.specs.Shape.{final, way, ◌▸◌}
use Rattle.sve_tree.specs.declared.element.Design.TheVariants as is_design
use Rattle.sve_tree.specs.declared.element.UnitItem.TheVariants as is_unit_item

pub written_unit_item : Outline → Tree
written_unit_item (variant zero ◂ token_at semicolon) = way 0 (leaf semicolon)
written_unit_item (variant (suc zero) ◂ declaration) = way 1 (written_import declaration)
written_unit_item (variant (suc (suc zero)) ◂ declaration) = way 2 (written_parameters declaration)
written_unit_item (variant (suc (suc (suc zero))) ◂ declaration) = way 3 (written_typedef declaration)
written_unit_item (variant (suc (suc (suc (suc zero)))) ◂ function) = final 4 (written_func function)
written_unit_item o = none

pub unit_item_written : IsWritten unit_item_tree unit_item_outline written_unit_item
unfolding written_unit_item
unit_item_written (is_unit_item.Empty semicolon) = refl
unit_item_written (is_unit_item.Import declaration) = ap (λ (t : Tree). way 1 t) (import_written declaration.value)
unit_item_written (is_unit_item.Parameters declaration) = ap (λ (t : Tree). way 2 t) (parameters_written declaration.value)
unit_item_written (is_unit_item.Typedef declaration) = ap (λ (t : Tree). way 3 t) (typedef_written declaration.value)
unit_item_written (is_unit_item.Function function) = ap (λ (t : Tree). final 4 t) (func_written function.value)

pub written_definition : Outline → Tree
written_definition (header ◂ items ◂ token_at end ◂ label) = written_header header ▸ written_list written_item items ▸ leaf end ▸ written_option written_label label
written_definition o = none

pub definition_written : IsWritten definition_tree definition_outline written_definition
unfolding written_definition
definition_written x = header_written x.header ◇ list_written _ _ _ item_written x.items.items ◇ refl ◇ option_written _ _ _ label_written x.label

pub written_package : Outline → Tree
written_package (token_at keyword ◂ lifetime ◂ token_at name ◂ token_at semicolon ◂ items ◂ token_at end ◂ label) = leaf keyword ▸ written_option (written_mark 1) lifetime ▸ leaf name ▸ leaf semicolon ▸ written_list written_unit_item items ▸ leaf end ▸ written_option written_label label
written_package o = none

pub package_written : IsWritten package_tree package_outline written_package
unfolding written_package
package_written x = refl ◇ option_written _ _ _ (mark_written _ _ _ lifetime_marked) x.lifetime ◇ refl ◇ refl ◇ list_written _ _ _ unit_item_written x.items.items ◇ refl ◇ option_written _ _ _ label_written x.label

pub written_design : Outline → Tree
written_design (variant zero ◂ keyword ◂ definition) = way 0 (written_mark 1 keyword ▸ written_definition definition)
written_design (variant (suc zero) ◂ token_at keyword ◂ definition) = way 1 (leaf keyword ▸ written_definition definition)
written_design (variant (suc (suc zero)) ◂ unit) = final 2 (written_package unit)
written_design o = none

pub design_written : IsWritten design_tree design_outline written_design
unfolding written_design
design_written (is_design.Module keyword definition) = ap (λ (t : Tree). way 0 t) (mark_written _ _ _ module_keyword_marked keyword ◇ definition_written definition.value)
design_written (is_design.Interface keyword definition) = ap (λ (t : Tree). way 1 t) (refl ◇ definition_written definition.value)
design_written (is_design.Package unit) = ap (λ (t : Tree). final 2 t) (package_written unit.value)

pub written_element : Outline → Tree
written_element (items ◂ design) = written_list written_unit_item items ▸ written_option written_design design
written_element o = none

pub element_written : IsWritten element_tree element_outline written_element
unfolding written_element
element_written x = list_written _ _ _ unit_item_written x.items.items ◇ option_written _ _ _ design_written x.design
