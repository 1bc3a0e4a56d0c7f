-- An item of a package by its own rule, apart from the rule whose alternative it is (IEEE 1800-2017, A.1.11).
use Rattle.sve_grammar.specs.Reading.{Tree, leaf}
use Rattle.sve_tree.specs.Declarations.{parameters_tree, typedef_tree, import_tree}
use Rattle.sve_tree.specs.Statements.{func_tree}
use Rattle.sve_tree.specs.declared.element.UnitItem.{UnitItem}
use Rattle.sve_tree.specs.declared.element.UnitItem.TheVariants as is_unit_item
use Rattle.sve_parse_flat_item.specs.declared.begins.PackageForm.{PackageForm}
use Rattle.sve_parse_flat_item.specs.declared.begins.PackageForm.TheVariants as package_forms

abbrev pub form_of : UnitItem → PackageForm
form_of (is_unit_item.Empty semicolon) = package_forms.Empty
form_of (is_unit_item.Import declaration) = package_forms.Import
form_of (is_unit_item.Parameters declaration) = package_forms.Parameters
form_of (is_unit_item.Typedef declaration) = package_forms.Typedef
form_of (is_unit_item.Function function) = package_forms.Function

abbrev pub part_tree : UnitItem → Tree
part_tree (is_unit_item.Empty semicolon) = leaf semicolon
part_tree (is_unit_item.Import declaration) = import_tree declaration.value
part_tree (is_unit_item.Parameters declaration) = parameters_tree declaration.value
part_tree (is_unit_item.Typedef declaration) = typedef_tree declaration.value
part_tree (is_unit_item.Function function) = func_tree function.value
