-- Declarations and headers, read back from their trees.
use Rattle.std.proofs.Common.{List, None, Option, Some, [], refl, ℕ, ◌∙◌, ◌∷◌, ◌≡◌}
use Rattle.sve_grammar.specs.Reading.{Tree, leaf, left, pair, right}
use Rattle.sve_outline.proofs.Marks.{dir_marked, lifetime_marked, net_marked, parameter_keyword_marked}
use Rattle.sve_outline.proofs.ReadTypes.{declarator_read, initializer_read, named_read, ranged_read, read_declarator, read_declared_name, read_declared_type, read_initializer, read_type_ref, read_typed_name, type_ref_read, typed_name_read, typed_read}
use Rattle.sve_outline.proofs.Readers.{IsRead, list_read, mark_read, numbered, option_read, optional_row_read, parted_read, read_list, read_option, read_optional_row, read_required, read_row, read_row_behind, read_token, required_read, row_read, token_read, ◌◃◌}
use Rattle.sve_outline.specs.Declarations.{decl_outline, header_outline, import_item_outline, import_outline, initialized_declarator_outline, modport_member_outline, modport_outline, net_declaration_outline, parameter_assignment_outline, parameter_port_outline, parameter_ports_outline, parameters_outline, port_kind_outline, port_outline, port_type_outline, ports_outline, typedef_outline, variable_declaration_outline}
use Rattle.sve_outline.specs.Expressions.{dimension_outline}
use Rattle.sve_outline.specs.Outline.{IsWhole, Outline, list_outline, mark_outline, no_more, option_outline, row_outline, token_at, variant, ◌◂◌}
use Rattle.sve_outline.specs.Types.{data_type_outline, declarator_outline, declared_type_outline, initializer_outline}
use Rattle.sve_outline.specs.Words.{dir_place, package_scope_outline}
use Rattle.sve_tree.specs.Declarations.{decl_tree, declaration_end_tree, first_declarator, header_tree, import_item_tree, import_tree, initialized_declarator_tree, modport_member_tree, modport_tree, net_declaration_tree, parameter_assignment_tree, parameter_port_tree, parameter_ports_tree, parameters_tree, port_kind_tree, port_tree, port_type_tree, ports_tree, typedef_tree, variable_declaration_tree}
use Rattle.sve_tree.specs.Shape.{final, first_tree, mark_tree, optional_tree, required_tree, row_first, row_rest, way}
use Rattle.sve_tree.specs.Types.{data_type_tree, declarator_tree, initializer_tree, ranged_tree, scoped_type_tree, type_ref_tree, typed_tree}
use Rattle.sve_tree.specs.Words.{dir_tree, parameter_keyword_tree}
use Rattle.sve_tree.specs.declared.data_type.Declarator.{Declarator}
use Rattle.sve_tree.specs.declared.data_type.DeclaredType.{DeclaredType}
use Rattle.sve_tree.specs.declared.data_type.TypeRef.{TypeRef}
use Rattle.sve_tree.specs.declared.declaration.ImportItem.{ImportItem}
use Rattle.sve_tree.specs.declared.declaration.InitializedDeclarator.{InitializedDeclarator}
use Rattle.sve_tree.specs.declared.declaration.ModportMember.{ModportMember}
use Rattle.sve_tree.specs.declared.declaration.ParameterAssignment.{ParameterAssignment}
use Rattle.sve_tree.specs.declared.expression.Dimension.{Dimension}
use Rattle.sve_tree.specs.declared.header.PortType.{PortType}
use Rattle.sve_tree.specs.declared.row.Row.{Row}
use Rattle.sve_tree.specs.declared.word.PackageScope.{PackageScope}
use Rattle.sve_tree.specs.declared.word.ParameterKeyword.{ParameterKeyword}
use Rattle.sve_tree.specs.declared.declaration.Decl.TheVariants as is_decl
use Rattle.sve_tree.specs.declared.data_type.DeclaredType.TheVariants as is_declared_type
use Rattle.sve_tree.specs.declared.declaration.ImportItem.TheVariants as is_import_item
use Rattle.sve_tree.specs.declared.word.ParameterKeyword.TheVariants as is_parameter_keyword
use Rattle.sve_tree.specs.declared.header.PortKind.TheVariants as is_port_kind
use Rattle.sve_tree.specs.declared.header.PortType.TheVariants as is_port_type
use Rattle.sve_tree.specs.declared.data_type.TypeRef.TheVariants as is_type_ref

pub read_parameter_assignment : Tree → Outline
read_parameter_assignment (pair declarator value) = read_declarator declarator ◂ read_initializer value
read_parameter_assignment t = no_more

pub parameter_assignment_read : IsRead parameter_assignment_tree parameter_assignment_outline read_parameter_assignment
unfolding read_parameter_assignment
parameter_assignment_read x w = declarator_read x.declarator w.0 ◃ initializer_read x.value w.1

-- the type of names that are declared, from the tree of the first of them
pub first_type_read : {X : Type 0} (t : DeclaredType) (name : X → Declarator) (xs : List X) → IsWhole (first_tree (λ (x : X). typed_tree t (name x)) xs) → read_declared_type (first_tree (λ (x : X). typed_tree t (name x)) xs) ≡ declared_type_outline t
unfolding first_tree
first_type_read t name [] w = absurd w.2
first_type_read t name (x ∷ xs) w = (typed_read t (name x) w).0

pub read_parameters : Tree → Outline
read_parameters (pair keyword (pair first (pair value (pair others (leaf semicolon))))) = numbered 1 0 keyword ◂ read_declared_type first ◂ read_row_behind (read_declared_name first ◂ read_initializer value) read_parameter_assignment read_token others ◂ token_at semicolon
read_parameters t = no_more

pub parameters_read : IsRead parameters_tree parameters_outline read_parameters
unfolding read_parameters
parameters_read x w =
    mark_read _ _ _ parameter_keyword_marked x.keyword w.0
    ◃ first_type_read x.data_type (λ (p : ParameterAssignment). p.declarator) x.assignments.items.items w.1.0
    ◃ parted_read (λ (p : ParameterAssignment). typed_tree x.data_type p.declarator) (λ (p : ParameterAssignment). initializer_tree p.value) (λ (p : ParameterAssignment). declarator_outline p.declarator) (λ (p : ParameterAssignment). initializer_outline p.value) read_declared_name read_initializer parameter_assignment_tree read_parameter_assignment leaf token_at read_token (λ p v. (typed_read x.data_type p.declarator v).1) (λ p v. initializer_read p.value v) parameter_assignment_read token_read x.assignments w.1.0 w.1.1.0 w.1.1.1.0
    ◃ refl

pub read_typedef : Tree → Outline
read_typedef (pair (leaf keyword) (pair data_type (pair declarator (leaf semicolon)))) = token_at keyword ◂ read_type_ref data_type ◂ read_declarator declarator ◂ token_at semicolon
read_typedef t = no_more

pub typedef_read : IsRead typedef_tree typedef_outline read_typedef
unfolding read_typedef
typedef_read x w = refl ◃ type_ref_read x.data_type w.1.0 ◃ declarator_read x.declarator w.1.1.0 ◃ refl

pub read_import_item : Tree → Outline
read_import_item (pair (leaf scope_name) (pair (leaf scope_colons) (left (leaf name)))) = variant 0 ◂ token_at scope_name ◂ token_at scope_colons ◂ token_at name
read_import_item (pair (leaf scope_name) (pair (leaf scope_colons) (right (leaf star)))) = variant 1 ◂ token_at scope_name ◂ token_at scope_colons ◂ token_at star
read_import_item t = no_more

pub import_item_read : IsRead import_item_tree import_item_outline read_import_item
unfolding read_import_item
import_item_read (is_import_item.Name scope name) w = refl
import_item_read (is_import_item.All scope star) w = refl

pub read_import : Tree → Outline
read_import (pair (leaf keyword) (pair first (pair others (leaf semicolon)))) = token_at keyword ◂ read_row read_import_item read_token first others ◂ token_at semicolon
read_import t = no_more

pub import_read : IsRead import_tree import_outline read_import
unfolding read_import
import_read x w = refl ◃ row_read _ _ read_import_item _ _ read_token import_item_read token_read x.items w.1.0 w.1.1.0 ◃ refl

pub read_modport_member : Tree → Outline
read_modport_member (pair direction (leaf name)) = read_option (numbered 2 0) direction ◂ token_at name
read_modport_member t = no_more

pub modport_member_read : IsRead modport_member_tree modport_member_outline read_modport_member
unfolding read_modport_member
modport_member_read x w = option_read _ _ _ (mark_read _ _ _ dir_marked) x.direction w.0 ◃ refl

pub read_modport : Tree → Outline
read_modport (pair (leaf name) (pair (leaf opening) (pair direction (pair first (pair others (leaf closing)))))) = token_at name ◂ token_at opening ◂ read_row_behind (read_required (numbered 2 0) direction ◂ read_token first) read_modport_member read_token others ◂ token_at closing
read_modport t = no_more

pub modport_read : IsRead modport_tree modport_outline read_modport
unfolding read_modport
modport_read x w =
    refl ◃ refl
    ◃ parted_read (λ (m : ModportMember). required_tree (mark_tree dir_tree) m.direction) (λ (m : ModportMember). leaf m.name) (λ (m : ModportMember). option_outline (mark_outline dir_place) m.direction) (λ (m : ModportMember). token_at m.name) (read_required (numbered 2 0)) read_token modport_member_tree read_modport_member leaf token_at read_token (λ m v. required_read _ _ _ (mark_read _ _ _ dir_marked) m.direction v) (λ m v. token_read m.name v) modport_member_read token_read x.members w.1.1.0 w.1.1.1.0 w.1.1.1.1.0
    ◃ refl

-- a declaration by itself: by what stands behind its first token
pub read_decl : Tree → Outline
read_decl (pair (leaf i) (pair (left t) u)) = variant 1 ◂ read_typedef (pair (leaf i) (pair (left t) u))
read_decl (pair (leaf i) (pair (right t) u)) = variant 1 ◂ read_typedef (pair (leaf i) (pair (right t) u))
read_decl (pair (leaf i) (pair (pair s t) u)) = variant 2 ◂ read_import (pair (leaf i) (pair (pair s t) u))
read_decl (pair (leaf i) (pair (leaf j) u)) = variant 3 ◂ read_modport (pair (leaf i) (pair (leaf j) u))
read_decl t = variant 0 ◂ read_parameters t

parameters_seen : (k : ParameterKeyword) (i : ℕ) (t : Tree) → read_decl (pair (parameter_keyword_tree k i) t) ≡ (variant 0 ◂ read_parameters (pair (parameter_keyword_tree k i) t))
unfolding read_decl
parameters_seen is_parameter_keyword.Parameter i t = refl
parameters_seen is_parameter_keyword.Localparam i t = refl

typedef_seen : (x : TypeRef) (i : ℕ) (t : Tree) → read_decl (pair (leaf i) (pair (type_ref_tree x) t)) ≡ (variant 1 ◂ read_typedef (pair (leaf i) (pair (type_ref_tree x) t)))
unfolding data_type_tree read_decl
typedef_seen (is_type_ref.Written data_type) i t = refl
typedef_seen (is_type_ref.Named named) i t = refl

import_seen : (xs : List ImportItem) (i : ℕ) (t : Tree) → IsWhole (first_tree import_item_tree xs) → read_decl (pair (leaf i) (pair (first_tree import_item_tree xs) t)) ≡ (variant 2 ◂ read_import (pair (leaf i) (pair (first_tree import_item_tree xs) t)))
unfolding first_tree read_decl
import_seen [] i t w = absurd w.2
import_seen (is_import_item.Name scope name ∷ xs) i t w = refl
import_seen (is_import_item.All scope star ∷ xs) i t w = refl

pub decl_read : IsRead decl_tree decl_outline read_decl
unfolding read_decl
decl_read (is_decl.Parameters x) w = parameters_seen x.keyword.kind x.keyword.token _ ∙ (refl ◃ parameters_read x w)
decl_read (is_decl.Typedef x) w = typedef_seen x.data_type x.keyword _ ∙ (refl ◃ typedef_read x w)
decl_read (is_decl.Import x) w = import_seen x.items.items.items x.keyword _ w.1.0 ∙ (refl ◃ import_read x w)
decl_read (is_decl.Modport x) w = refl ◃ modport_read x w

pub read_initialized_declarator : Tree → Outline
read_initialized_declarator (pair declarator value) = read_declarator declarator ◂ read_option read_initializer value
read_initialized_declarator t = no_more

pub initialized_declarator_read : IsRead initialized_declarator_tree initialized_declarator_outline read_initialized_declarator
unfolding read_initialized_declarator
initialized_declarator_read x w = declarator_read x.declarator w.0 ◃ option_read _ _ _ initializer_read x.value w.1

-- declared names with their values: the first name is read where it stands
abbrev pub read_declarators : Outline → Tree → Tree → Outline
read_declarators name value others = read_row_behind (name ◂ read_option read_initializer value) read_initialized_declarator read_token others

-- where the first is seen by f, and read so
pub declarators_seen : (f : Declarator → Tree) (r : Tree → Outline) → IsRead f declarator_outline r → (row : Row InitializedDeclarator ℕ) → IsWhole (first_declarator f row) → IsWhole (declaration_end_tree row) → read_declarators (r (first_declarator f row)) (row_first (λ (d : InitializedDeclarator). optional_tree initializer_tree d.value) row) (row_rest initialized_declarator_tree leaf row) ≡ row_outline initialized_declarator_outline token_at row
declarators_seen f r h row w v = parted_read (λ (d : InitializedDeclarator). f d.declarator) (λ (d : InitializedDeclarator). optional_tree initializer_tree d.value) (λ (d : InitializedDeclarator). declarator_outline d.declarator) (λ (d : InitializedDeclarator). option_outline initializer_outline d.value) r (read_option read_initializer) initialized_declarator_tree read_initialized_declarator leaf token_at read_token (λ d u. h d.declarator u) (λ d u. option_read _ _ _ initializer_read d.value u) initialized_declarator_read token_read row w v.0 v.1

pub declarators_read : (row : Row InitializedDeclarator ℕ) → IsWhole (first_declarator declarator_tree row) → IsWhole (declaration_end_tree row) → read_declarators (read_declarator (first_declarator declarator_tree row)) (row_first (λ (d : InitializedDeclarator). optional_tree initializer_tree d.value) row) (row_rest initialized_declarator_tree leaf row) ≡ row_outline initialized_declarator_outline token_at row
declarators_read row w v = declarators_seen declarator_tree read_declarator declarator_read row w v

pub read_net_declaration : Tree → Outline
read_net_declaration (pair net (pair first (pair (pair value others) (leaf semicolon)))) = numbered 10 0 net ◂ read_declared_type first ◂ read_declarators (read_declared_name first) value others ◂ token_at semicolon
read_net_declaration t = no_more

pub net_declaration_read : IsRead net_declaration_tree net_declaration_outline read_net_declaration
unfolding read_net_declaration
net_declaration_read x w = mark_read _ _ _ net_marked x.net w.0 ◃ first_type_read x.data_type (λ (d : InitializedDeclarator). d.declarator) x.declarators.items.items w.1.0 ◃ declarators_seen (typed_tree x.data_type) read_declared_name (λ d v. (typed_read x.data_type d v).1) x.declarators w.1.0 w.1.1.0 ◃ refl

pub read_variable_declaration : Tree → Outline
read_variable_declaration (pair (leaf keyword) (pair first (pair (pair value others) (leaf semicolon)))) = token_at keyword ◂ read_declared_type first ◂ read_declarators (read_declared_name first) value others ◂ token_at semicolon
read_variable_declaration t = no_more

pub variable_declaration_read : IsRead variable_declaration_tree variable_declaration_outline read_variable_declaration
unfolding read_variable_declaration
variable_declaration_read x w = refl ◃ first_type_read x.data_type (λ (d : InitializedDeclarator). d.declarator) x.declarators.items.items w.1.0 ◃ declarators_seen (typed_tree x.data_type) read_declared_name (λ d v. (typed_read x.data_type d v).1) x.declarators w.1.0 w.1.1.0 ◃ refl

pub read_parameter_port : Tree → Outline
read_parameter_port (pair keyword (pair parameter value)) = read_option (numbered 1 0) keyword ◂ read_typed_name parameter ◂ read_option read_initializer value
read_parameter_port t = no_more

pub parameter_port_read : IsRead parameter_port_tree parameter_port_outline read_parameter_port
unfolding read_parameter_port
parameter_port_read x w = option_read _ _ _ (mark_read _ _ _ parameter_keyword_marked) x.keyword w.0 ◃ typed_name_read x.parameter w.1.0 ◃ option_read _ _ _ initializer_read x.value w.1.1

pub read_parameter_ports : Tree → Outline
read_parameter_ports (pair (leaf hash) (pair (leaf opening) (pair parameters (leaf closing)))) = token_at hash ◂ token_at opening ◂ read_optional_row read_parameter_port read_token parameters ◂ token_at closing
read_parameter_ports t = no_more

pub parameter_ports_read : IsRead parameter_ports_tree parameter_ports_outline read_parameter_ports
unfolding read_parameter_ports
parameter_ports_read x w = refl ◃ refl ◃ optional_row_read _ _ _ _ _ _ parameter_port_read token_read x.parameters w.1.1.0 ◃ refl

pub read_port_kind : Tree → Outline
read_port_kind (left (leaf keyword)) = variant 0 ◂ token_at keyword
read_port_kind (right net) = variant 1 ◂ numbered 10 0 net
read_port_kind t = no_more

pub port_kind_read : IsRead port_kind_tree port_kind_outline read_port_kind
unfolding read_port_kind
port_kind_read (is_port_kind.Variable keyword) w = refl
port_kind_read (is_port_kind.Net net) w = refl ◃ mark_read _ _ _ net_marked net w

-- a declared name of a port, as it stands where no interface can be meant
unfoldable as_declared : Tree → Tree
as_declared (right (right (right (pair t (right (right u)))))) = right (right (right (pair t (right u))))
as_declared t = t

pub read_port_type : Tree → Outline
read_port_type (right (right (right (pair (leaf interface) (right (left (pair (leaf dot) (pair (leaf modport) declarator)))))))) = variant 1 ◂ token_at interface ◂ token_at dot ◂ token_at modport
read_port_type t = variant 0 ◂ read_declared_type (as_declared t)

pub read_port_name : Tree → Outline
read_port_name (right (right (right (pair (leaf interface) (right (left (pair (leaf dot) (pair (leaf modport) declarator)))))))) = read_declarator declarator
read_port_name t = read_declared_name (as_declared t)

named_port_read : (scope : Option PackageScope) (name : ℕ) (dimensions : List Dimension) (d : Declarator) → IsWhole (final 3 (scoped_type_tree (way 0) (final 2) scope name dimensions d)) → (read_port_type (final 3 (scoped_type_tree (way 0) (final 2) scope name dimensions d)) ≡ (variant 0 ◂ variant 0 ◂ variant 1 ◂ (option_outline package_scope_outline scope ◂ token_at name) ◂ list_outline dimension_outline dimensions)) × (read_port_name (final 3 (scoped_type_tree (way 0) (final 2) scope name dimensions d)) ≡ declarator_outline d)
unfolding as_declared read_port_type read_port_name
named_port_read None name dimensions d w = (refl ◃ (named_read None name dimensions d w).0, (named_read None name dimensions d w).1)
named_port_read (Some scope) name dimensions d w = (refl ◃ (named_read (Some scope) name dimensions d w).0, (named_read (Some scope) name dimensions d w).1)

ranged_port_read : (dimensions : List Dimension) (d : Declarator) → IsWhole (ranged_tree (final 2) dimensions d) → (read_port_type (ranged_tree (final 2) dimensions d) ≡ (variant 0 ◂ variant 1 ◂ variant 0 ◂ list_outline dimension_outline dimensions)) × (read_port_name (ranged_tree (final 2) dimensions d) ≡ declarator_outline d)
unfolding ranged_tree as_declared read_port_type read_port_name
ranged_port_read [] d w = (refl ◃ (ranged_read [] d w).0, (ranged_read [] d w).1)
ranged_port_read (first ∷ others) d w = (refl ◃ (ranged_read (first ∷ others) d w).0, (ranged_read (first ∷ others) d w).1)

pub port_type_read : (x : PortType) (d : Declarator) → IsWhole (port_type_tree x d) → (read_port_type (port_type_tree x d) ≡ port_type_outline x) × (read_port_name (port_type_tree x d) ≡ declarator_outline d)
unfolding data_type_outline as_declared read_port_type read_port_name
port_type_read (is_port_type.Data (is_declared_type.Explicit (is_type_ref.Written data_type))) d w = let h = typed_read (is_declared_type.Explicit (is_type_ref.Written data_type)) d w in (refl ◃ h.0, h.1)
port_type_read (is_port_type.Data (is_declared_type.Explicit (is_type_ref.Named named))) d w = named_port_read named.name.scope named.name.name named.dimensions.items d w
port_type_read (is_port_type.Data (is_declared_type.Implicit (Some sign) dimensions)) d w = let h = typed_read (is_declared_type.Implicit (Some sign) dimensions) d w in (refl ◃ h.0, h.1)
port_type_read (is_port_type.Data (is_declared_type.Implicit None dimensions)) d w = ranged_port_read dimensions.items d w
port_type_read (is_port_type.Interface interface dot modport) d w = (refl, declarator_read d w.1.1.1)

pub read_port : Tree → Outline
read_port (pair direction (pair kind port_type)) = read_option (numbered 2 0) direction ◂ read_option read_port_kind kind ◂ read_port_type port_type ◂ read_port_name port_type
read_port t = no_more

pub port_read : IsRead port_tree port_outline read_port
unfolding read_port
port_read x w = let h = port_type_read x.port_type x.declarator w.1.1 in option_read _ _ _ (mark_read _ _ _ dir_marked) x.direction w.0 ◃ option_read _ _ _ port_kind_read x.kind w.1.0 ◃ h.0 ◃ h.1

pub read_ports : Tree → Outline
read_ports (pair (leaf opening) (pair ports (leaf closing))) = token_at opening ◂ read_optional_row read_port read_token ports ◂ token_at closing
read_ports t = no_more

pub ports_read : IsRead ports_tree ports_outline read_ports
unfolding read_ports
ports_read x w = refl ◃ optional_row_read _ _ _ _ _ _ port_read token_read x.ports w.1.0 ◃ refl

pub read_header : Tree → Outline
read_header (pair lifetime (pair (leaf name) (pair imports (pair parameters (pair ports (leaf semicolon)))))) = read_option (numbered 1 0) lifetime ◂ token_at name ◂ read_list read_import imports ◂ read_option read_parameter_ports parameters ◂ read_option read_ports ports ◂ token_at semicolon
read_header t = no_more

pub header_read : IsRead header_tree header_outline read_header
unfolding read_header
header_read x w = option_read _ _ _ (mark_read _ _ _ lifetime_marked) x.lifetime w.0 ◃ refl ◃ list_read _ _ _ import_read x.imports.items w.1.1.0 ◃ option_read _ _ _ parameter_ports_read x.parameters w.1.1.1.0 ◃ option_read _ _ _ ports_read x.ports w.1.1.1.1.0 ◃ refl
