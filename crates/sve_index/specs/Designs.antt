-- The module, interface or package of an element, and whether it may be a top (IEEE 1800-2017, 3.13, 6.20.1 and 23.3.1).
use Rattle.std.specs.Prelude.{ℕ, Bool, false, not, List, Option, Some, None}
use Rattle.sve_tree.specs.declared.element.Design.{Design}
use Rattle.sve_tree.specs.declared.element.Design.TheVariants as is_design
use Rattle.sve_mention.specs.InElements.{lacks_default}
use Rattle.sve_index.specs.declared.def.Def.{Def}
use Rattle.sve_index.specs.declared.source.FileElement.{FileElement}
use Rattle.sve_index.specs.Sources.{element_in}
use Rattle.sve_index.specs.Defs.{defs_at}

-- the number of the name of a module or an interface, which share a name space
abbrev pub definition_token : Option Design → Option ℕ
definition_token None = None
definition_token (Some (is_design.Module keyword definition)) = Some definition.value.header.name
definition_token (Some (is_design.Interface keyword definition)) = Some definition.value.header.name
definition_token (Some (is_design.Package unit)) = None

-- the number of the name of a package
abbrev pub package_token : Option Design → Option ℕ
package_token None = None
package_token (Some (is_design.Module keyword definition)) = None
package_token (Some (is_design.Interface keyword definition)) = None
package_token (Some (is_design.Package unit)) = Some unit.value.name

-- a module that has no parameter without a default
abbrev pub may_be_top : Option Design → Bool
may_be_top None = false
may_be_top (Some (is_design.Module keyword definition)) = not (lacks_default definition.value)
may_be_top (Some (is_design.Interface keyword definition)) = false
may_be_top (Some (is_design.Package unit)) = false

-- the modules and interfaces that an element defines, and the packages
abbrev pub definitions_in : FileElement → List Def
definitions_in source = defs_at source (definition_token (element_in source).design)

abbrev pub packages_in : FileElement → List Def
packages_in source = defs_at source (package_token (element_in source).design)
