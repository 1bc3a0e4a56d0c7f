-- What declarations and headers say (IEEE 1800-2017, A.1.2, A.1.3, A.2.1, A.2.6 and A.2.9).
use Rattle.sve_outline.specs.Outline.{Outline, list_outline, mark_outline, option_outline, row_outline, token_at, variant, ◌◂◌}
use Rattle.sve_outline.specs.Types.{declarator_outline, declared_type_outline, initializer_outline, type_ref_outline, typed_name_outline}
use Rattle.sve_outline.specs.Words.{dir_place, lifetime_place, net_place, parameter_keyword_place}
use Rattle.sve_tree.specs.declared.declaration.DataDeclaration.{DataDeclaration}
use Rattle.sve_tree.specs.declared.declaration.Decl.{Decl}
use Rattle.sve_tree.specs.declared.declaration.Import.{Import}
use Rattle.sve_tree.specs.declared.declaration.ImportItem.{ImportItem}
use Rattle.sve_tree.specs.declared.declaration.InitializedDeclarator.{InitializedDeclarator}
use Rattle.sve_tree.specs.declared.declaration.Modport.{Modport}
use Rattle.sve_tree.specs.declared.declaration.ModportMember.{ModportMember}
use Rattle.sve_tree.specs.declared.declaration.NetDeclaration.{NetDeclaration}
use Rattle.sve_tree.specs.declared.declaration.ParameterAssignment.{ParameterAssignment}
use Rattle.sve_tree.specs.declared.declaration.Parameters.{Parameters}
use Rattle.sve_tree.specs.declared.declaration.Typedef.{Typedef}
use Rattle.sve_tree.specs.declared.declaration.VariableDeclaration.{VariableDeclaration}
use Rattle.sve_tree.specs.declared.header.Header.{Header}
use Rattle.sve_tree.specs.declared.header.ParameterPort.{ParameterPort}
use Rattle.sve_tree.specs.declared.header.ParameterPorts.{ParameterPorts}
use Rattle.sve_tree.specs.declared.header.Port.{Port}
use Rattle.sve_tree.specs.declared.header.PortKind.{PortKind}
use Rattle.sve_tree.specs.declared.header.PortType.{PortType}
use Rattle.sve_tree.specs.declared.header.Ports.{Ports}
use Rattle.sve_tree.specs.declared.declaration.Decl.TheVariants as is_decl
use Rattle.sve_tree.specs.declared.declaration.ImportItem.TheVariants as is_import_item
use Rattle.sve_tree.specs.declared.header.PortKind.TheVariants as is_port_kind
use Rattle.sve_tree.specs.declared.header.PortType.TheVariants as is_port_type

abbrev pub parameter_assignment_outline : ParameterAssignment → Outline
parameter_assignment_outline x = declarator_outline x.declarator ◂ initializer_outline x.value

abbrev pub parameters_outline : Parameters → Outline
parameters_outline x = mark_outline parameter_keyword_place x.keyword ◂ declared_type_outline x.data_type ◂ row_outline parameter_assignment_outline token_at x.assignments ◂ token_at x.semicolon

abbrev pub typedef_outline : Typedef → Outline
typedef_outline x = token_at x.keyword ◂ type_ref_outline x.data_type ◂ declarator_outline x.declarator ◂ token_at x.semicolon

abbrev pub import_item_outline : ImportItem → Outline
import_item_outline (is_import_item.Name scope name) = variant 0 ◂ token_at scope.name ◂ token_at scope.colons ◂ token_at name
import_item_outline (is_import_item.All scope star) = variant 1 ◂ token_at scope.name ◂ token_at scope.colons ◂ token_at star

abbrev pub import_outline : Import → Outline
import_outline x = token_at x.keyword ◂ row_outline import_item_outline token_at x.items ◂ token_at x.semicolon

abbrev pub modport_member_outline : ModportMember → Outline
modport_member_outline x = option_outline (mark_outline dir_place) x.direction ◂ token_at x.name

abbrev pub modport_outline : Modport → Outline
modport_outline x = token_at x.name ◂ token_at x.opening ◂ row_outline modport_member_outline token_at x.members ◂ token_at x.closing

abbrev pub decl_outline : Decl → Outline
decl_outline (is_decl.Parameters declaration) = variant 0 ◂ parameters_outline declaration
decl_outline (is_decl.Typedef declaration) = variant 1 ◂ typedef_outline declaration
decl_outline (is_decl.Import declaration) = variant 2 ◂ import_outline declaration
decl_outline (is_decl.Modport declaration) = variant 3 ◂ modport_outline declaration

abbrev pub initialized_declarator_outline : InitializedDeclarator → Outline
initialized_declarator_outline x = declarator_outline x.declarator ◂ option_outline initializer_outline x.value

abbrev pub data_declaration_outline : DataDeclaration → Outline
data_declaration_outline x = type_ref_outline x.data_type ◂ row_outline initialized_declarator_outline token_at x.declarators ◂ token_at x.semicolon

abbrev pub net_declaration_outline : NetDeclaration → Outline
net_declaration_outline x = mark_outline net_place x.net ◂ declared_type_outline x.data_type ◂ row_outline initialized_declarator_outline token_at x.declarators ◂ token_at x.semicolon

abbrev pub variable_declaration_outline : VariableDeclaration → Outline
variable_declaration_outline x = token_at x.keyword ◂ declared_type_outline x.data_type ◂ row_outline initialized_declarator_outline token_at x.declarators ◂ token_at x.semicolon

abbrev pub parameter_port_outline : ParameterPort → Outline
parameter_port_outline x = option_outline (mark_outline parameter_keyword_place) x.keyword ◂ typed_name_outline x.parameter ◂ option_outline initializer_outline x.value

abbrev pub parameter_ports_outline : ParameterPorts → Outline
parameter_ports_outline x = token_at x.hash ◂ token_at x.opening ◂ row_outline parameter_port_outline token_at x.parameters ◂ token_at x.closing

abbrev pub port_kind_outline : PortKind → Outline
port_kind_outline (is_port_kind.Variable keyword) = variant 0 ◂ token_at keyword
port_kind_outline (is_port_kind.Net net) = variant 1 ◂ mark_outline net_place net

abbrev pub port_type_outline : PortType → Outline
port_type_outline (is_port_type.Data data_type) = variant 0 ◂ declared_type_outline data_type
port_type_outline (is_port_type.Interface interface dot modport) = variant 1 ◂ token_at interface ◂ token_at dot ◂ token_at modport

abbrev pub port_outline : Port → Outline
port_outline x = option_outline (mark_outline dir_place) x.direction ◂ option_outline port_kind_outline x.kind ◂ port_type_outline x.port_type ◂ declarator_outline x.declarator

abbrev pub ports_outline : Ports → Outline
ports_outline x = token_at x.opening ◂ row_outline port_outline token_at x.ports ◂ token_at x.closing

abbrev pub header_outline : Header → Outline
header_outline x = option_outline (mark_outline lifetime_place) x.lifetime ◂ token_at x.name ◂ list_outline import_outline x.imports.items ◂ option_outline parameter_ports_outline x.parameters ◂ option_outline ports_outline x.ports ◂ token_at x.semicolon
