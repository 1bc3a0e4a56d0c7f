-- What chunks say (IEEE 1800-2017, A.1.2 and A.1.11).
use Rattle.sve_outline.specs.Declarations.{header_outline, import_outline, parameters_outline, typedef_outline}
use Rattle.sve_outline.specs.Items.{item_outline}
use Rattle.sve_outline.specs.Outline.{Outline, list_outline, mark_outline, option_outline, token_at, variant, ◌◂◌}
use Rattle.sve_outline.specs.Statements.{func_outline}
use Rattle.sve_outline.specs.Words.{label_outline, lifetime_place, module_keyword_place}
use Rattle.sve_tree.specs.declared.element.Definition.{Definition}
use Rattle.sve_tree.specs.declared.element.Design.{Design}
use Rattle.sve_tree.specs.declared.element.Element.{Element}
use Rattle.sve_tree.specs.declared.element.Package.{Package}
use Rattle.sve_tree.specs.declared.element.UnitItem.{UnitItem}
use Rattle.sve_tree.specs.declared.element.Design.TheVariants as is_design
use Rattle.sve_tree.specs.declared.element.UnitItem.TheVariants as is_unit_item

abbrev pub unit_item_outline : UnitItem → Outline
unit_item_outline (is_unit_item.Empty semicolon) = variant 0 ◂ token_at semicolon
unit_item_outline (is_unit_item.Import declaration) = variant 1 ◂ import_outline declaration.value
unit_item_outline (is_unit_item.Parameters declaration) = variant 2 ◂ parameters_outline declaration.value
unit_item_outline (is_unit_item.Typedef declaration) = variant 3 ◂ typedef_outline declaration.value
unit_item_outline (is_unit_item.Function function) = variant 4 ◂ func_outline function.value

abbrev pub definition_outline : Definition → Outline
definition_outline x = header_outline x.header ◂ list_outline item_outline x.items.items ◂ token_at x.end ◂ option_outline label_outline x.label

abbrev pub package_outline : Package → Outline
package_outline x = token_at x.keyword ◂ option_outline (mark_outline lifetime_place) x.lifetime ◂ token_at x.name ◂ token_at x.semicolon ◂ list_outline unit_item_outline x.items.items ◂ token_at x.end ◂ option_outline label_outline x.label

abbrev pub design_outline : Design → Outline
design_outline (is_design.Module keyword definition) = variant 0 ◂ mark_outline module_keyword_place keyword ◂ definition_outline definition.value
design_outline (is_design.Interface keyword definition) = variant 1 ◂ token_at keyword ◂ definition_outline definition.value
design_outline (is_design.Package unit) = variant 2 ◂ package_outline unit.value

abbrev pub element_outline : Element → Outline
element_outline x = list_outline unit_item_outline x.items.items ◂ option_outline design_outline x.design
