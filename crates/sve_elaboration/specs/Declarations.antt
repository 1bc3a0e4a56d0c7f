-- What a header and declarations leave in a body (IEEE 1800-2017, 6.7, 6.8, 6.18, 6.20, 13.4, 23.2, 25.5 and 26.3).
use Rattle.std.specs.Prelude.{Bool, not, nat_eq, if◌then◌else◌, ◌&&◌, ◌++◌}
use Rattle.sve_tree.specs.declared.declaration.DataDeclaration.{DataDeclaration}
use Rattle.sve_tree.specs.declared.declaration.Import.{Import}
use Rattle.sve_tree.specs.declared.declaration.Modport.{Modport}
use Rattle.sve_tree.specs.declared.declaration.NetDeclaration.{NetDeclaration}
use Rattle.sve_tree.specs.declared.declaration.Parameters.{Parameters}
use Rattle.sve_tree.specs.declared.declaration.Typedef.{Typedef}
use Rattle.sve_tree.specs.declared.declaration.VariableDeclaration.{VariableDeclaration}
use Rattle.sve_tree.specs.declared.header.Header.{Header}
use Rattle.sve_tree.specs.declared.statement.Func.{Func}
use Rattle.sve_plan.specs.Plan.{Counted}
use Rattle.sve_scoped.specs.Known.{told_in}
use Rattle.sve_formal.specs.Formals.{is_local_keyword}
use Rattle.sve_header.specs.declared.parameters.HeaderParameters.{HeaderParameters}
use Rattle.sve_header.specs.declared.ports.HeaderPorts.{HeaderPorts}
use Rattle.sve_header.specs.Imports.{with_header_imports, with_import}
use Rattle.sve_header.specs.Parameters.{with_header_parameters}
use Rattle.sve_body_parameter.specs.declared.overridable.Overridable.{Overridable}
use Rattle.sve_body_parameter.specs.Overridable.{with_overridable}
use Rattle.sve_body_parameter.specs.Nodes.{overridable_nodes}
use Rattle.sve_counted_item.specs.Counted.{counted_data, counted_function, counted_nets, counted_parameters, counted_typedef, counted_variables}
use Rattle.sve_elaboration.specs.State.{Found}
use Rattle.sve_elaboration.specs.Modports.{ports_known, with_modport}
use Rattle.sve_elaboration.specs.Scopes.{contents_of, costing, depth_in, known_in, packages_of, with_contents, words_of}

-- ---- the header

abbrev pub header_imports_in : Header → Found → Found
header_imports_in h s = with_contents s (with_header_imports (packages_of s) (words_of s) (contents_of s) h)

abbrev pub with_header_values : Found → HeaderParameters → Found
with_header_values s p = record (with_contents s p.contents) { values = p.values }

abbrev pub header_parameters_in : Header → Found → Counted Found
header_parameters_in h s = costing (with_header_values s) (with_header_parameters (told_in (packages_of s) (words_of s)) (words_of s) s.given (contents_of s) h)

abbrev pub with_ports : Found → HeaderPorts → Found
with_ports s p = record (with_contents s p.contents) { ports = p.ports }

abbrev pub header_ports_in : Header → Found → Counted Found
header_ports_in h s = costing (with_ports s) (ports_known (told_in (packages_of s) (words_of s)) (words_of s) s.designs (contents_of s) h)

-- ---- parameters

-- an instance may override those of the body itself that do not say otherwise, where the header has no list of parameters (6.20.1)
abbrev pub can_be_overridden : Found → Parameters → Bool
can_be_overridden s p = s.is_open && not (is_local_keyword p.keyword.kind) && nat_eq (depth_in s) 0

abbrev pub with_values : Found → Overridable → Found
with_values s o = record (with_contents s o.contents) { values = s.values ++ o.values; place = o.place }

abbrev pub overridable_in : Parameters → Found → Counted Found
overridable_in p s = (overridable_nodes (known_in s) s.given s.place p, with_values s (with_overridable (told_in (packages_of s) (words_of s)) (words_of s) s.given s.place (contents_of s) p))

abbrev pub local_parameters_in : Parameters → Found → Counted Found
local_parameters_in p s = costing (with_contents s) (counted_parameters (packages_of s) (words_of s) (contents_of s) p)

abbrev pub parameters_in : Parameters → Found → Counted Found
parameters_in p s = if can_be_overridden s p then overridable_in p s else local_parameters_in p s

-- ---- other declarations

abbrev pub import_in : Import → Found → Found
import_in i s = with_contents s (with_import (packages_of s) (words_of s) (contents_of s) i)

abbrev pub typedef_in : Typedef → Found → Counted Found
typedef_in t s = costing (with_contents s) (counted_typedef (packages_of s) (words_of s) (contents_of s) t)

abbrev pub function_in : Func → Found → Counted Found
function_in f s = costing (with_contents s) (counted_function (packages_of s) (words_of s) (contents_of s) f)

abbrev pub nets_in : NetDeclaration → Found → Counted Found
nets_in d s = costing (with_contents s) (counted_nets (packages_of s) (words_of s) (contents_of s) d)

abbrev pub variables_in : VariableDeclaration → Found → Counted Found
variables_in d s = costing (with_contents s) (counted_variables (packages_of s) (words_of s) (contents_of s) d)

abbrev pub data_in : DataDeclaration → Found → Counted Found
data_in d s = costing (with_contents s) (counted_data (packages_of s) (words_of s) (contents_of s) d)

abbrev pub modport_in : Modport → Found → Found
modport_in m s = with_contents s (with_modport (words_of s) s.designs (contents_of s) m)
