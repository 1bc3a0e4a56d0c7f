-- The names that a declaration among the items of a module or an interface declares, in the order of the text (IEEE 1800-2017, 6.5, 23.2 and 25.5).
use Rattle.std.specs.Prelude.{List, [], ◌∷◌, ◌++◌, map, Option, Some, None}
use Rattle.sve_tree.specs.declared.declaration.InitializedDeclarator.{InitializedDeclarator}
use Rattle.sve_tree.specs.declared.declaration.Modport.{Modport}
use Rattle.sve_tree.specs.declared.header.Header.{Header}
use Rattle.sve_tree.specs.declared.header.ParameterPort.{ParameterPort}
use Rattle.sve_tree.specs.declared.header.ParameterPorts.{ParameterPorts}
use Rattle.sve_tree.specs.declared.header.Port.{Port}
use Rattle.sve_tree.specs.declared.header.PortType.{PortType}
use Rattle.sve_tree.specs.declared.header.PortType.TheVariants as is_port_type
use Rattle.sve_tree.specs.declared.header.Ports.{Ports}
use Rattle.sve_tree.specs.declared.item.Item.{Item}
use Rattle.sve_tree.specs.declared.item.Item.TheVariants as is_item
use Rattle.std.specs.List.{flat_map}
use Rattle.sve_heading.specs.declared.heading.Heading.{Heading}
use Rattle.sve_heading.specs.Types.{declared_type_headings, name_heading, type_ref_headings}
use Rattle.sve_heading.specs.Items.{function_headings, parameters_headings, typedef_headings}

abbrev pub declarator_heading : InitializedDeclarator → Heading
declarator_heading d = name_heading d.declarator.name

abbrev pub modport_heading : Modport → Heading
modport_heading modport = name_heading modport.name

-- declarators behind what their type declares
abbrev pub declarators_headings : List Heading → List InitializedDeclarator → List Heading
declarators_headings before declarators = before ++ map declarator_heading declarators

-- what an item declares that is no construct and no instantiation
abbrev pub declaration_headings : Item → List Heading
declaration_headings (is_item.Parameters declaration) = parameters_headings declaration.value
declaration_headings (is_item.Typedef declaration) = typedef_headings declaration.value
declaration_headings (is_item.Function function) = function_headings function.value
declaration_headings (is_item.Genvars declaration) = map name_heading declaration.value.names.items.items
declaration_headings (is_item.Net declaration) = declarators_headings (declared_type_headings declaration.value.data_type) declaration.value.declarators.items.items
declaration_headings (is_item.Variable declaration) = declarators_headings (declared_type_headings declaration.value.data_type) declaration.value.declarators.items.items
declaration_headings (is_item.Data declaration) = declarators_headings (type_ref_headings declaration.value.data_type) declaration.value.declarators.items.items
declaration_headings (is_item.Modports declaration) = map modport_heading declaration.value.modports.items.items
declaration_headings item = []

-- ---- headers

abbrev pub parameter_port_headings : ParameterPort → List Heading
parameter_port_headings port = declared_type_headings port.parameter.data_type ++ name_heading port.parameter.declarator.name ∷ []

abbrev pub port_type_headings : PortType → List Heading
port_type_headings (is_port_type.Data data_type) = declared_type_headings data_type
port_type_headings (is_port_type.Interface interface dot modport) = []

abbrev pub port_headings : Port → List Heading
port_headings port = port_type_headings port.port_type ++ name_heading port.declarator.name ∷ []

abbrev pub parameters_of : Option ParameterPorts → List ParameterPort
parameters_of None = []
parameters_of (Some list) = list.parameters.items.items

abbrev pub ports_of : Option Ports → List Port
ports_of None = []
ports_of (Some list) = list.ports.items.items

-- the names that a header declares: its parameters, and then its ports
abbrev pub header_headings : Header → List Heading
header_headings header = flat_map parameter_port_headings (parameters_of header.parameters) ++ flat_map port_headings (ports_of header.ports)
