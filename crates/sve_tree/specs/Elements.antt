-- The trees of chunks (IEEE 1800-2017, A.1.2 and A.1.11).
use Rattle.std.specs.Prelude.{ℕ, Option, Some, None}
use Rattle.sve_grammar.specs.Reading.{Tree, leaf}
use Rattle.sve_tree.specs.Shape.{◌▸◌, way, final, optional_tree, repeated_tree, mark_tree}
use Rattle.sve_tree.specs.Words.{lifetime_tree, label_tree, module_keyword_tree}
use Rattle.sve_tree.specs.Declarations.{parameters_tree, typedef_tree, import_tree, header_tree}
use Rattle.sve_tree.specs.Statements.{func_tree}
use Rattle.sve_tree.specs.Items.{item_tree}
use Rattle.sve_tree.specs.declared.element.Element.{Element}
use Rattle.sve_tree.specs.declared.element.UnitItem.{UnitItem}
use Rattle.sve_tree.specs.declared.element.Design.{Design}
use Rattle.sve_tree.specs.declared.element.Definition.{Definition}
use Rattle.sve_tree.specs.declared.element.Package.{Package}
use Rattle.sve_tree.specs.declared.element.UnitItem.TheVariants as is_unit_item
use Rattle.sve_tree.specs.declared.element.Design.TheVariants as is_design

abbrev pub unit_item_tree : UnitItem → Tree
unit_item_tree (is_unit_item.Empty semicolon) = way 0 (leaf semicolon)
unit_item_tree (is_unit_item.Import declaration) = way 1 (import_tree declaration.value)
unit_item_tree (is_unit_item.Parameters declaration) = way 2 (parameters_tree declaration.value)
unit_item_tree (is_unit_item.Typedef declaration) = way 3 (typedef_tree declaration.value)
unit_item_tree (is_unit_item.Function function) = final 4 (func_tree function.value)

abbrev pub definition_tree : Definition → Tree
definition_tree x = header_tree x.header ▸ repeated_tree item_tree x.items.items ▸ leaf x.end ▸ optional_tree label_tree x.label

abbrev pub package_tree : Package → Tree
package_tree x = leaf x.keyword ▸ optional_tree (mark_tree lifetime_tree) x.lifetime ▸ leaf x.name ▸ leaf x.semicolon ▸ repeated_tree unit_item_tree x.items.items ▸ leaf x.end ▸ optional_tree label_tree x.label

abbrev pub design_tree : Design → Tree
design_tree (is_design.Module keyword definition) = way 0 (mark_tree module_keyword_tree keyword ▸ definition_tree definition.value)
design_tree (is_design.Interface keyword definition) = way 1 (leaf keyword ▸ definition_tree definition.value)
design_tree (is_design.Package unit) = final 2 (package_tree unit.value)

abbrev pub element_tree : Element → Tree
element_tree x = repeated_tree unit_item_tree x.items.items ▸ optional_tree design_tree x.design

-- the name of a module, an interface or a package
abbrev pub design_name : Design → ℕ
design_name (is_design.Module keyword definition) = definition.value.header.name
design_name (is_design.Interface keyword definition) = definition.value.header.name
design_name (is_design.Package unit) = unit.value.name

-- what a module or an interface is behind its keyword
abbrev pub design_definition : Design → Option Definition
design_definition (is_design.Module keyword definition) = Some definition.value
design_definition (is_design.Interface keyword definition) = Some definition.value
design_definition (is_design.Package unit) = None

abbrev pub name_of : Option Design → Option ℕ
name_of None = None
name_of (Some design) = Some (design_name design)

abbrev pub definition_of : Option Design → Option Definition
definition_of None = None
definition_of (Some design) = design_definition design

-- the name that an element gives to its design, and the module or the interface that it is
abbrev pub element_name : Element → Option ℕ
element_name x = name_of x.design

abbrev pub element_definition : Element → Option Definition
element_definition x = definition_of x.design
