-- The trees of declarations and of headers (IEEE 1800-2017, A.1.2, A.1.3, A.2.1, A.2.6 and A.2.9).
use Rattle.std.specs.Prelude.{ℕ}
use Rattle.sve_grammar.specs.Reading.{Tree, leaf, left, right}
use Rattle.sve_tree.specs.Shape.{◌▸◌, way, final, optional_tree, required_tree, repeated_tree, row_first, row_rest, optional_row, mark_tree}
use Rattle.sve_tree.specs.Words.{lifetime_tree, net_tree, parameter_keyword_tree, dir_tree}
use Rattle.sve_tree.specs.Types.{type_ref_tree, initializer_tree, declarator_tree, declared_tree, typed_tree, typed_name_tree}
use Rattle.sve_tree.specs.declared.row.Row.{Row}
use Rattle.sve_tree.specs.declared.data_type.Declarator.{Declarator}
use Rattle.sve_tree.specs.declared.declaration.Decl.{Decl}
use Rattle.sve_tree.specs.declared.declaration.Parameters.{Parameters}
use Rattle.sve_tree.specs.declared.declaration.ParameterAssignment.{ParameterAssignment}
use Rattle.sve_tree.specs.declared.declaration.Typedef.{Typedef}
use Rattle.sve_tree.specs.declared.declaration.Import.{Import}
use Rattle.sve_tree.specs.declared.declaration.ImportItem.{ImportItem}
use Rattle.sve_tree.specs.declared.declaration.Modport.{Modport}
use Rattle.sve_tree.specs.declared.declaration.ModportMember.{ModportMember}
use Rattle.sve_tree.specs.declared.declaration.InitializedDeclarator.{InitializedDeclarator}
use Rattle.sve_tree.specs.declared.declaration.NetDeclaration.{NetDeclaration}
use Rattle.sve_tree.specs.declared.declaration.VariableDeclaration.{VariableDeclaration}
use Rattle.sve_tree.specs.declared.header.Header.{Header}
use Rattle.sve_tree.specs.declared.header.ParameterPorts.{ParameterPorts}
use Rattle.sve_tree.specs.declared.header.ParameterPort.{ParameterPort}
use Rattle.sve_tree.specs.declared.header.Ports.{Ports}
use Rattle.sve_tree.specs.declared.header.Port.{Port}
use Rattle.sve_tree.specs.declared.header.PortKind.{PortKind}
use Rattle.sve_tree.specs.declared.header.PortType.{PortType}
use Rattle.sve_tree.specs.declared.declaration.Decl.TheVariants as is_decl
use Rattle.sve_tree.specs.declared.declaration.ImportItem.TheVariants as is_import_item
use Rattle.sve_tree.specs.declared.header.PortKind.TheVariants as is_port_kind
use Rattle.sve_tree.specs.declared.header.PortType.TheVariants as is_port_type

abbrev pub parameter_assignment_tree : ParameterAssignment → Tree
parameter_assignment_tree x = declarator_tree x.declarator ▸ initializer_tree x.value

-- the type and the first name, its value, and the other names
abbrev pub parameters_tree : Parameters → Tree
parameters_tree x = mark_tree parameter_keyword_tree x.keyword ▸ row_first (λ (p : ParameterAssignment). typed_tree x.data_type p.declarator) x.assignments ▸ row_first (λ (p : ParameterAssignment). initializer_tree p.value) x.assignments ▸ row_rest parameter_assignment_tree leaf x.assignments ▸ leaf x.semicolon

abbrev pub typedef_tree : Typedef → Tree
typedef_tree x = leaf x.keyword ▸ type_ref_tree x.data_type ▸ declarator_tree x.declarator ▸ leaf x.semicolon

abbrev pub import_item_tree : ImportItem → Tree
import_item_tree (is_import_item.Name scope name) = leaf scope.name ▸ leaf scope.colons ▸ left (leaf name)
import_item_tree (is_import_item.All scope star) = leaf scope.name ▸ leaf scope.colons ▸ right (leaf star)

abbrev pub import_tree : Import → Tree
import_tree x = leaf x.keyword ▸ row_first import_item_tree x.items ▸ row_rest import_item_tree leaf x.items ▸ leaf x.semicolon

abbrev pub modport_member_tree : ModportMember → Tree
modport_member_tree x = optional_tree (mark_tree dir_tree) x.direction ▸ leaf x.name

abbrev pub modport_tree : Modport → Tree
modport_tree x = leaf x.name ▸ leaf x.opening ▸ row_first (λ (m : ModportMember). required_tree (mark_tree dir_tree) m.direction) x.members ▸ row_first (λ (m : ModportMember). leaf m.name) x.members ▸ row_rest modport_member_tree leaf x.members ▸ leaf x.closing

abbrev pub decl_tree : Decl → Tree
decl_tree (is_decl.Parameters declaration) = parameters_tree declaration
decl_tree (is_decl.Typedef declaration) = typedef_tree declaration
decl_tree (is_decl.Import declaration) = import_tree declaration
decl_tree (is_decl.Modport declaration) = modport_tree declaration

abbrev pub initialized_declarator_tree : InitializedDeclarator → Tree
initialized_declarator_tree x = declarator_tree x.declarator ▸ optional_tree initializer_tree x.value

-- of declared names: the first, shown as f says, and what follows it
abbrev pub first_declarator : (Declarator → Tree) → Row InitializedDeclarator ℕ → Tree
first_declarator f row = row_first (λ (d : InitializedDeclarator). f d.declarator) row

abbrev pub declaration_end_tree : Row InitializedDeclarator ℕ → Tree
declaration_end_tree row = row_first (λ (d : InitializedDeclarator). optional_tree initializer_tree d.value) row ▸ row_rest initialized_declarator_tree leaf row

abbrev pub net_declaration_tree : NetDeclaration → Tree
net_declaration_tree x = mark_tree net_tree x.net ▸ first_declarator (typed_tree x.data_type) x.declarators ▸ declaration_end_tree x.declarators ▸ leaf x.semicolon

abbrev pub variable_declaration_tree : VariableDeclaration → Tree
variable_declaration_tree x = leaf x.keyword ▸ first_declarator (typed_tree x.data_type) x.declarators ▸ declaration_end_tree x.declarators ▸ leaf x.semicolon

abbrev pub parameter_port_tree : ParameterPort → Tree
parameter_port_tree x = optional_tree (mark_tree parameter_keyword_tree) x.keyword ▸ typed_name_tree x.parameter ▸ optional_tree initializer_tree x.value

abbrev pub parameter_ports_tree : ParameterPorts → Tree
parameter_ports_tree x = leaf x.hash ▸ leaf x.opening ▸ optional_row parameter_port_tree leaf x.parameters ▸ leaf x.closing

abbrev pub port_kind_tree : PortKind → Tree
port_kind_tree (is_port_kind.Variable keyword) = left (leaf keyword)
port_kind_tree (is_port_kind.Net net) = right (mark_tree net_tree net)

abbrev pub port_type_tree : PortType → Declarator → Tree
port_type_tree (is_port_type.Data data_type) declarator = declared_tree (way 0) (final 2) data_type declarator
port_type_tree (is_port_type.Interface interface dot modport) declarator = final 3 (leaf interface ▸ way 1 (leaf dot ▸ leaf modport ▸ declarator_tree declarator))

abbrev pub port_tree : Port → Tree
port_tree x = optional_tree (mark_tree dir_tree) x.direction ▸ optional_tree port_kind_tree x.kind ▸ port_type_tree x.port_type x.declarator

abbrev pub ports_tree : Ports → Tree
ports_tree x = leaf x.opening ▸ optional_row port_tree leaf x.ports ▸ leaf x.closing

abbrev pub header_tree : Header → Tree
header_tree x = optional_tree (mark_tree lifetime_tree) x.lifetime ▸ leaf x.name ▸ repeated_tree import_tree x.imports.items ▸ optional_tree parameter_ports_tree x.parameters ▸ optional_tree ports_tree x.ports ▸ leaf x.semicolon
