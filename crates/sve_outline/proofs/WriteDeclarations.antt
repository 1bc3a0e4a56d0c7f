-- Declarations and headers, shown as trees from what they say.
use Rattle.std.proofs.Common.{ap, refl, suc, zero, ℕ, ◌≡◌}
use Rattle.sve_grammar.specs.Reading.{Tree, leaf, left, none, right}
use Rattle.sve_outline.proofs.Marks.{dir_marked, lifetime_marked, net_marked, parameter_keyword_marked}
use Rattle.sve_outline.proofs.WriteTypes.{declarator_written, declared_written, initializer_written, type_ref_written, typed_name_written, written_declarator, written_declared, written_initializer, written_type_ref, written_typed_name}
use Rattle.sve_outline.proofs.Writers.{IsWritten, list_written, mark_written, option_written, optional_row_written, required_written, row_first_written, row_rest_written, token_written, written_head, written_list, written_mark, written_option, written_optional_row, written_required, written_row_first, written_row_rest, written_tail, written_token, ◌◇◌}
use Rattle.sve_outline.specs.Declarations.{decl_outline, header_outline, import_item_outline, import_outline, initialized_declarator_outline, modport_member_outline, modport_outline, net_declaration_outline, parameter_assignment_outline, parameter_port_outline, parameter_ports_outline, parameters_outline, port_kind_outline, port_outline, port_type_outline, ports_outline, typedef_outline, variable_declaration_outline}
use Rattle.sve_outline.specs.Outline.{Outline, row_outline, token_at, variant, ◌◂◌}
use Rattle.sve_outline.specs.Types.{declarator_outline, declared_type_outline}
use Rattle.sve_tree.specs.Declarations.{decl_tree, declaration_end_tree, first_declarator, header_tree, import_item_tree, import_tree, initialized_declarator_tree, modport_member_tree, modport_tree, net_declaration_tree, parameter_assignment_tree, parameter_port_tree, parameter_ports_tree, parameters_tree, port_kind_tree, port_tree, port_type_tree, ports_tree, typedef_tree, variable_declaration_tree}
use Rattle.sve_tree.specs.Shape.{final, way, ◌▸◌}
use Rattle.sve_tree.specs.Types.{declarator_tree, typed_tree}
use Rattle.sve_tree.specs.declared.data_type.Declarator.{Declarator}
use Rattle.sve_tree.specs.declared.data_type.DeclaredType.{DeclaredType}
use Rattle.sve_tree.specs.declared.declaration.InitializedDeclarator.{InitializedDeclarator}
use Rattle.sve_tree.specs.declared.declaration.ModportMember.{ModportMember}
use Rattle.sve_tree.specs.declared.declaration.ParameterAssignment.{ParameterAssignment}
use Rattle.sve_tree.specs.declared.header.PortType.{PortType}
use Rattle.sve_tree.specs.declared.row.Row.{Row}
use Rattle.sve_tree.specs.declared.declaration.Decl.TheVariants as is_decl
use Rattle.sve_tree.specs.declared.declaration.ImportItem.TheVariants as is_import_item
use Rattle.sve_tree.specs.declared.header.PortKind.TheVariants as is_port_kind
use Rattle.sve_tree.specs.declared.header.PortType.TheVariants as is_port_type

pub written_parameter_assignment : Outline → Tree
written_parameter_assignment (declarator ◂ value) = written_declarator declarator ▸ written_initializer value
written_parameter_assignment o = none

pub parameter_assignment_written : IsWritten parameter_assignment_tree parameter_assignment_outline written_parameter_assignment
unfolding written_parameter_assignment
parameter_assignment_written x = declarator_written x.declarator ◇ initializer_written x.value

pub written_parameters : Outline → Tree
written_parameters (keyword ◂ data_type ◂ assignments ◂ token_at semicolon) = written_mark 1 keyword ▸ written_row_first (written_head (written_declared left right data_type)) assignments ▸ written_row_first (written_tail written_initializer) assignments ▸ written_row_rest written_parameter_assignment written_token assignments ▸ leaf semicolon
written_parameters o = none

pub parameters_written : IsWritten parameters_tree parameters_outline written_parameters
unfolding written_parameters
parameters_written x =
    mark_written _ _ _ parameter_keyword_marked x.keyword
    ◇ row_first_written _ parameter_assignment_outline _ token_at (λ (p : ParameterAssignment). declared_written left right x.data_type p.declarator) x.assignments
    ◇ row_first_written _ parameter_assignment_outline _ token_at (λ (p : ParameterAssignment). initializer_written p.value) x.assignments
    ◇ row_rest_written _ _ _ _ _ _ parameter_assignment_written token_written x.assignments
    ◇ refl

pub written_typedef : Outline → Tree
written_typedef (token_at keyword ◂ data_type ◂ declarator ◂ token_at semicolon) = leaf keyword ▸ written_type_ref data_type ▸ written_declarator declarator ▸ leaf semicolon
written_typedef o = none

pub typedef_written : IsWritten typedef_tree typedef_outline written_typedef
unfolding written_typedef
typedef_written x = refl ◇ type_ref_written x.data_type ◇ declarator_written x.declarator ◇ refl

pub written_import_item : Outline → Tree
written_import_item (variant zero ◂ token_at scope_name ◂ token_at scope_colons ◂ token_at name) = leaf scope_name ▸ leaf scope_colons ▸ left (leaf name)
written_import_item (variant (suc zero) ◂ token_at scope_name ◂ token_at scope_colons ◂ token_at star) = leaf scope_name ▸ leaf scope_colons ▸ right (leaf star)
written_import_item o = none

pub import_item_written : IsWritten import_item_tree import_item_outline written_import_item
unfolding written_import_item
import_item_written (is_import_item.Name scope name) = refl
import_item_written (is_import_item.All scope star) = refl

pub written_import : Outline → Tree
written_import (token_at keyword ◂ items ◂ token_at semicolon) = leaf keyword ▸ written_row_first written_import_item items ▸ written_row_rest written_import_item written_token items ▸ leaf semicolon
written_import o = none

pub import_written : IsWritten import_tree import_outline written_import
unfolding written_import
import_written x = refl ◇ row_first_written _ _ _ token_at import_item_written x.items ◇ row_rest_written _ _ _ _ _ _ import_item_written token_written x.items ◇ refl

pub written_modport_member : Outline → Tree
written_modport_member (direction ◂ token_at name) = written_option (written_mark 2) direction ▸ leaf name
written_modport_member o = none

pub modport_member_written : IsWritten modport_member_tree modport_member_outline written_modport_member
unfolding written_modport_member
modport_member_written x = option_written _ _ _ (mark_written _ _ _ dir_marked) x.direction ◇ refl

pub written_modport : Outline → Tree
written_modport (token_at name ◂ token_at opening ◂ members ◂ token_at closing) = leaf name ▸ leaf opening ▸ written_row_first (written_head (written_required (written_mark 2))) members ▸ written_row_first (written_tail written_token) members ▸ written_row_rest written_modport_member written_token members ▸ leaf closing
written_modport o = none

pub modport_written : IsWritten modport_tree modport_outline written_modport
unfolding written_modport
modport_written x =
    refl ◇ refl
    ◇ row_first_written _ modport_member_outline _ token_at (λ (m : ModportMember). required_written _ _ _ (mark_written _ _ _ dir_marked) m.direction) x.members
    ◇ row_first_written _ modport_member_outline _ token_at (λ (m : ModportMember). token_written m.name) x.members
    ◇ row_rest_written _ _ _ _ _ _ modport_member_written token_written x.members
    ◇ refl

pub written_decl : Outline → Tree
written_decl (variant zero ◂ declaration) = written_parameters declaration
written_decl (variant (suc zero) ◂ declaration) = written_typedef declaration
written_decl (variant (suc (suc zero)) ◂ declaration) = written_import declaration
written_decl (variant (suc (suc (suc zero))) ◂ declaration) = written_modport declaration
written_decl o = none

pub decl_written : IsWritten decl_tree decl_outline written_decl
unfolding written_decl
decl_written (is_decl.Parameters declaration) = parameters_written declaration
decl_written (is_decl.Typedef declaration) = typedef_written declaration
decl_written (is_decl.Import declaration) = import_written declaration
decl_written (is_decl.Modport declaration) = modport_written declaration

pub written_initialized_declarator : Outline → Tree
written_initialized_declarator (declarator ◂ value) = written_declarator declarator ▸ written_option written_initializer value
written_initialized_declarator o = none

pub initialized_declarator_written : IsWritten initialized_declarator_tree initialized_declarator_outline written_initialized_declarator
unfolding written_initialized_declarator
initialized_declarator_written x = declarator_written x.declarator ◇ option_written _ _ _ initializer_written x.value

-- what follows the first of declared names
pub written_declaration_end : Outline → Tree
written_declaration_end row = written_row_first (written_tail (written_option written_initializer)) row ▸ written_row_rest written_initialized_declarator written_token row

pub declaration_end_written : (row : Row InitializedDeclarator ℕ) → written_declaration_end (row_outline initialized_declarator_outline token_at row) ≡ declaration_end_tree row
unfolding written_declaration_end
declaration_end_written row = row_first_written _ initialized_declarator_outline _ token_at (λ (d : InitializedDeclarator). option_written _ _ _ initializer_written d.value) row ◇ row_rest_written _ _ _ _ _ _ initialized_declarator_written token_written row

-- the first of declared names, by itself
pub first_declarator_written : (row : Row InitializedDeclarator ℕ) → written_row_first (written_head written_declarator) (row_outline initialized_declarator_outline token_at row) ≡ first_declarator declarator_tree row
first_declarator_written row = row_first_written _ initialized_declarator_outline _ token_at (λ (d : InitializedDeclarator). declarator_written d.declarator) row

-- and behind its type
pub first_typed_written : (t : DeclaredType) (row : Row InitializedDeclarator ℕ) → written_row_first (written_head (written_declared left right (declared_type_outline t))) (row_outline initialized_declarator_outline token_at row) ≡ first_declarator (typed_tree t) row
first_typed_written t row = row_first_written _ initialized_declarator_outline _ token_at (λ (d : InitializedDeclarator). declared_written left right t d.declarator) row

pub written_net_declaration : Outline → Tree
written_net_declaration (net ◂ data_type ◂ declarators ◂ token_at semicolon) = written_mark 10 net ▸ written_row_first (written_head (written_declared left right data_type)) declarators ▸ (written_declaration_end declarators) ▸ leaf semicolon
written_net_declaration o = none

pub net_declaration_written : IsWritten net_declaration_tree net_declaration_outline written_net_declaration
unfolding written_net_declaration
net_declaration_written x = mark_written _ _ _ net_marked x.net ◇ first_typed_written x.data_type x.declarators ◇ (declaration_end_written x.declarators) ◇ refl

pub written_variable_declaration : Outline → Tree
written_variable_declaration (token_at keyword ◂ data_type ◂ declarators ◂ token_at semicolon) = leaf keyword ▸ written_row_first (written_head (written_declared left right data_type)) declarators ▸ (written_declaration_end declarators) ▸ leaf semicolon
written_variable_declaration o = none

pub variable_declaration_written : IsWritten variable_declaration_tree variable_declaration_outline written_variable_declaration
unfolding written_variable_declaration
variable_declaration_written x = refl ◇ first_typed_written x.data_type x.declarators ◇ (declaration_end_written x.declarators) ◇ refl

pub written_parameter_port : Outline → Tree
written_parameter_port (keyword ◂ parameter ◂ value) = written_option (written_mark 1) keyword ▸ written_typed_name parameter ▸ written_option written_initializer value
written_parameter_port o = none

pub parameter_port_written : IsWritten parameter_port_tree parameter_port_outline written_parameter_port
unfolding written_parameter_port
parameter_port_written x = option_written _ _ _ (mark_written _ _ _ parameter_keyword_marked) x.keyword ◇ typed_name_written x.parameter ◇ option_written _ _ _ initializer_written x.value

pub written_parameter_ports : Outline → Tree
written_parameter_ports (token_at hash ◂ token_at opening ◂ parameters ◂ token_at closing) = leaf hash ▸ leaf opening ▸ written_optional_row written_parameter_port written_token parameters ▸ leaf closing
written_parameter_ports o = none

pub parameter_ports_written : IsWritten parameter_ports_tree parameter_ports_outline written_parameter_ports
unfolding written_parameter_ports
parameter_ports_written x = refl ◇ refl ◇ optional_row_written _ _ _ _ _ _ parameter_port_written token_written x.parameters ◇ refl

pub written_port_kind : Outline → Tree
written_port_kind (variant zero ◂ token_at keyword) = left (leaf keyword)
written_port_kind (variant (suc zero) ◂ net) = right (written_mark 10 net)
written_port_kind o = none

pub port_kind_written : IsWritten port_kind_tree port_kind_outline written_port_kind
unfolding written_port_kind
port_kind_written (is_port_kind.Variable keyword) = refl
port_kind_written (is_port_kind.Net net) = ap (λ (t : Tree). right t) (mark_written _ _ _ net_marked net)

pub written_port_type : Outline → Outline → Tree
written_port_type (variant zero ◂ data_type) d = written_declared (way 0) (final 2) data_type d
written_port_type (variant (suc zero) ◂ token_at interface ◂ token_at dot ◂ token_at modport) d = final 3 (leaf interface ▸ way 1 (leaf dot ▸ leaf modport ▸ written_declarator d))
written_port_type o d = none

pub port_type_written : (x : PortType) (d : Declarator) → written_port_type (port_type_outline x) (declarator_outline d) ≡ port_type_tree x d
unfolding written_port_type
port_type_written (is_port_type.Data data_type) d = declared_written (way 0) (final 2) data_type d
port_type_written (is_port_type.Interface interface dot modport) d = ap (λ (t : Tree). final 3 (leaf interface ▸ way 1 (leaf dot ▸ leaf modport ▸ t))) (declarator_written d)

pub written_port : Outline → Tree
written_port (direction ◂ kind ◂ port_type ◂ declarator) = written_option (written_mark 2) direction ▸ written_option written_port_kind kind ▸ written_port_type port_type declarator
written_port o = none

pub port_written : IsWritten port_tree port_outline written_port
unfolding written_port
port_written x = option_written _ _ _ (mark_written _ _ _ dir_marked) x.direction ◇ option_written _ _ _ port_kind_written x.kind ◇ port_type_written x.port_type x.declarator

pub written_ports : Outline → Tree
written_ports (token_at opening ◂ ports ◂ token_at closing) = leaf opening ▸ written_optional_row written_port written_token ports ▸ leaf closing
written_ports o = none

pub ports_written : IsWritten ports_tree ports_outline written_ports
unfolding written_ports
ports_written x = refl ◇ optional_row_written _ _ _ _ _ _ port_written token_written x.ports ◇ refl

pub written_header : Outline → Tree
written_header (lifetime ◂ token_at name ◂ imports ◂ parameters ◂ ports ◂ token_at semicolon) = written_option (written_mark 1) lifetime ▸ leaf name ▸ written_list written_import imports ▸ written_option written_parameter_ports parameters ▸ written_option written_ports ports ▸ leaf semicolon
written_header o = none

pub header_written : IsWritten header_tree header_outline written_header
unfolding written_header
header_written x = option_written _ _ _ (mark_written _ _ _ lifetime_marked) x.lifetime ◇ refl ◇ list_written _ _ _ import_written x.imports.items ◇ option_written _ _ _ parameter_ports_written x.parameters ◇ option_written _ _ _ ports_written x.ports ◇ refl
