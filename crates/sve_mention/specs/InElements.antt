-- What elements mention, and whether a module has a parameter without a default (IEEE 1800-2017, 6.20.1, 23.3.2, 26.2).
use Rattle.std.specs.Prelude.{Bool, false, List, [], ◌++◌, Option, Some, None}
use Rattle.std.specs.List.{flat_map, list_any}
use Rattle.std.specs.Option.{is_none}
use Rattle.sve_tree.specs.declared.element.Element.{Element}
use Rattle.sve_tree.specs.declared.element.UnitItem.{UnitItem}
use Rattle.sve_tree.specs.declared.element.Design.{Design}
use Rattle.sve_tree.specs.declared.element.Definition.{Definition}
use Rattle.sve_tree.specs.declared.element.Package.{Package}
use Rattle.sve_tree.specs.declared.header.ParameterPort.{ParameterPort}
use Rattle.sve_tree.specs.declared.header.ParameterPorts.{ParameterPorts}
use Rattle.sve_tree.specs.declared.element.UnitItem.TheVariants as is_unit_item
use Rattle.sve_tree.specs.declared.element.Design.TheVariants as is_design
use Rattle.sve_mention.specs.declared.mention.Mention.{Mention}
use Rattle.sve_mention.specs.Labels.{end_label}
use Rattle.sve_mention.specs.InStatements.{function_mentions}
use Rattle.sve_mention.specs.InItems.{item_mentions}

abbrev pub unit_item_mentions : UnitItem → List Mention
unit_item_mentions (is_unit_item.Function function) = function_mentions function.value
unit_item_mentions item = []

abbrev pub definition_mentions : Definition → List Mention
definition_mentions definition = flat_map item_mentions definition.items.items ++ end_label (Some definition.header.name) definition.label

abbrev pub package_mentions : Package → List Mention
package_mentions unit = flat_map unit_item_mentions unit.items.items ++ end_label (Some unit.name) unit.label

abbrev pub design_mentions : Design → List Mention
design_mentions (is_design.Module keyword definition) = definition_mentions definition.value
design_mentions (is_design.Interface keyword definition) = definition_mentions definition.value
design_mentions (is_design.Package unit) = package_mentions unit.value

abbrev pub optional_design_mentions : Option Design → List Mention
optional_design_mentions None = []
optional_design_mentions (Some design) = design_mentions design

abbrev pub element_mentions : Element → List Mention
element_mentions element = flat_map unit_item_mentions element.items.items ++ optional_design_mentions element.design

-- a parameter of a header without a value, whatever its keyword
abbrev pub lacks_value : ParameterPort → Bool
lacks_value port = is_none port.value

abbrev pub some_lacks_value : Option ParameterPorts → Bool
some_lacks_value None = false
some_lacks_value (Some list) = list_any lacks_value list.parameters.items.items

abbrev pub lacks_default : Definition → Bool
lacks_default definition = some_lacks_value definition.header.parameters
