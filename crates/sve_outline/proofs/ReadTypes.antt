-- Types and names that are declared, read back from their trees.
use Rattle.std.proofs.Common.{List, None, Option, Some, [], refl, ℕ, ◌∷◌, ◌≡◌}
use Rattle.sve_grammar.specs.Reading.{Tree, leaf, left, none, pair, right, turn}
use Rattle.sve_outline.proofs.Marks.{atom_keyword_marked, sign_marked, vector_keyword_marked}
use Rattle.sve_outline.proofs.ReadExpressions.{dimension_read, expr_read, read_dimension, read_expr}
use Rattle.sve_outline.proofs.ReadNames.{read_scoped_name, scoped_name_read}
use Rattle.sve_outline.proofs.Readers.{IsRead, list_read, mark_read, numbered, option_read, read_list, read_option, read_row, read_token, row_read, token_read, ◌◃◌}
use Rattle.sve_outline.specs.Expressions.{dimension_outline}
use Rattle.sve_outline.specs.Outline.{IsWhole, Outline, list_outline, no_more, option_outline, token_at, variant, ◌◂◌}
use Rattle.sve_outline.specs.Types.{atom_type_outline, data_type_outline, declarator_outline, declared_type_outline, enum_base_outline, enum_name_outline, enumeration_outline, initializer_outline, members_row_outline, named_type_outline, structure_outline, type_ref_outline, typed_name_outline, vector_type_outline}
use Rattle.sve_outline.specs.Words.{package_scope_outline}
use Rattle.sve_tree.specs.Shape.{final, first_of, first_tree, others_of, others_tree, repeated_tree}
use Rattle.sve_tree.specs.Types.{atom_type_tree, data_type_tree, declarator_tree, enum_base_tree, enum_name_tree, enumeration_tree, initializer_tree, members_trees, named_type_tree, ranged_tree, scoped_type_tree, structure_tree, type_ref_tree, typed_name_tree, typed_tree, vector_type_tree}
use Rattle.sve_tree.specs.declared.data_type.DataType.{DataType}
use Rattle.sve_tree.specs.declared.data_type.Declarator.{Declarator}
use Rattle.sve_tree.specs.declared.data_type.DeclaredType.{DeclaredType}
use Rattle.sve_tree.specs.declared.data_type.Structure.{Row_of-Members, Structure, Structure', end_of-Members, more_of-Members}
use Rattle.sve_tree.specs.declared.data_type.TypeRef.{TypeRef}
use Rattle.sve_tree.specs.declared.expression.Dimension.{Dimension}
use Rattle.sve_tree.specs.declared.word.PackageScope.{PackageScope}
use Rattle.sve_tree.specs.declared.data_type.DataType.TheVariants as is_data_type
use Rattle.sve_tree.specs.declared.data_type.DeclaredType.TheVariants as is_declared_type
use Rattle.sve_tree.specs.declared.data_type.EnumBase.TheVariants as is_enum_base
use Rattle.sve_tree.specs.declared.data_type.TypeRef.TheVariants as is_type_ref

pub read_atom_type : Tree → Outline
read_atom_type (pair keyword sign) = numbered 5 0 keyword ◂ read_option (numbered 1 0) sign
read_atom_type t = no_more

pub atom_type_read : IsRead atom_type_tree atom_type_outline read_atom_type
unfolding read_atom_type
atom_type_read x w = mark_read _ _ _ atom_keyword_marked x.keyword w.0 ◃ option_read _ _ _ (mark_read _ _ _ sign_marked) x.sign w.1

pub read_vector_type : Tree → Outline
read_vector_type (pair keyword (pair sign dimensions)) = numbered 2 0 keyword ◂ read_option (numbered 1 0) sign ◂ read_list read_dimension dimensions
read_vector_type t = no_more

pub vector_type_read : IsRead vector_type_tree vector_type_outline read_vector_type
unfolding read_vector_type
vector_type_read x w = mark_read _ _ _ vector_keyword_marked x.keyword w.0 ◃ option_read _ _ _ (mark_read _ _ _ sign_marked) x.sign w.1.0 ◃ list_read _ _ _ dimension_read x.dimensions.items w.1.1

pub read_named_type : Tree → Outline
read_named_type (pair name dimensions) = read_scoped_name name ◂ read_list read_dimension dimensions
read_named_type t = no_more

pub named_type_read : IsRead named_type_tree named_type_outline read_named_type
unfolding read_named_type
named_type_read x w = scoped_name_read x.name w.0 ◃ list_read _ _ _ dimension_read x.dimensions.items w.1

pub read_enum_base : Tree → Outline
read_enum_base (left atom) = variant 0 ◂ read_atom_type atom
read_enum_base (right (left vector)) = variant 1 ◂ read_vector_type vector
read_enum_base (right (right named)) = variant 2 ◂ read_named_type named
read_enum_base t = no_more

pub enum_base_read : IsRead enum_base_tree enum_base_outline read_enum_base
unfolding read_enum_base
enum_base_read (is_enum_base.Atom atom) w = refl ◃ atom_type_read atom w
enum_base_read (is_enum_base.Vector vector) w = refl ◃ vector_type_read vector w
enum_base_read (is_enum_base.Named named) w = refl ◃ named_type_read named w

pub read_initializer : Tree → Outline
read_initializer (pair (leaf equals) value) = token_at equals ◂ read_expr 13 value
read_initializer t = no_more

pub initializer_read : IsRead initializer_tree initializer_outline read_initializer
unfolding read_initializer
initializer_read x w = refl ◃ expr_read 13 x.value.value w.1

pub read_enum_name : Tree → Outline
read_enum_name (pair (leaf name) value) = token_at name ◂ read_option read_initializer value
read_enum_name t = no_more

pub enum_name_read : IsRead enum_name_tree enum_name_outline read_enum_name
unfolding read_enum_name
enum_name_read x w = refl ◃ option_read _ _ _ initializer_read x.value w.1

pub read_enumeration : Tree → Outline
read_enumeration (pair (leaf keyword) (pair base (pair (leaf opening) (pair first (pair others (pair (leaf closing) dimensions)))))) = token_at keyword ◂ read_option read_enum_base base ◂ token_at opening ◂ read_row read_enum_name read_token first others ◂ token_at closing ◂ read_list read_dimension dimensions
read_enumeration t = no_more

pub enumeration_read : IsRead enumeration_tree enumeration_outline read_enumeration
unfolding read_enumeration
enumeration_read x w = refl ◃ option_read _ _ _ enum_base_read x.base w.1.0 ◃ refl ◃ row_read _ _ read_enum_name _ _ read_token enum_name_read token_read x.names w.1.1.1.0 w.1.1.1.1.0 ◃ refl ◃ list_read _ _ _ dimension_read x.dimensions.items w.1.1.1.1.1.1

pub read_declarator : Tree → Outline
read_declarator (pair (leaf name) dimensions) = token_at name ◂ read_list read_dimension dimensions
read_declarator t = no_more

pub declarator_read : IsRead declarator_tree declarator_outline read_declarator
unfolding read_declarator
declarator_read x w = refl ◃ list_read _ _ _ dimension_read x.dimensions.items w.1

mutual
  pub read_data_type : Tree → Outline
  read_data_type (left atom) = variant 0 ◂ read_atom_type atom
  read_data_type (right (left vector)) = variant 1 ◂ read_vector_type vector
  read_data_type (right (right (left (leaf keyword)))) = variant 2 ◂ token_at keyword
  read_data_type (right (right (right (left enumeration)))) = variant 3 ◂ read_enumeration enumeration
  read_data_type (right (right (right (right structure)))) = variant 4 ◂ read_structure structure
  read_data_type t = no_more

  pub read_structure : Tree → Outline
  read_structure (pair (leaf keyword) (pair (leaf packed) (pair sign (pair (leaf opening) (pair first (pair others (pair (leaf closing) dimensions))))))) = token_at keyword ◂ token_at packed ◂ read_option (numbered 1 0) sign ◂ token_at opening ◂ (read_members_first first ◂ read_members_rest others) ◂ token_at closing ◂ read_list read_dimension dimensions
  read_structure t = no_more

  pub read_type_ref : Tree → Outline
  read_type_ref (left data_type) = variant 0 ◂ read_data_type data_type
  read_type_ref (right named) = variant 1 ◂ read_named_type named
  read_type_ref t = no_more

  pub read_members_first : Tree → Outline
  read_members_first (pair data_type (pair first (pair others (leaf semicolon)))) = read_type_ref data_type ◂ read_row read_token read_token first others ◂ token_at semicolon
  read_members_first t = no_more

  pub read_members_rest : Tree → Outline
  read_members_rest (turn item rest) = read_members_first item ◂ read_members_rest rest
  read_members_rest t = no_more

mutual
  unfolding data_type_tree data_type_outline read_data_type first_tree others_tree repeated_tree

  pub data_type_read : (x : DataType) → IsWhole (data_type_tree x) → read_data_type (data_type_tree x) ≡ data_type_outline x
  data_type_read (is_data_type.Atom atom) w = refl ◃ atom_type_read atom w
  data_type_read (is_data_type.Vector vector) w = refl ◃ vector_type_read vector w
  data_type_read (is_data_type.Text keyword) w = refl
  data_type_read (is_data_type.Enum enumeration) w = refl ◃ enumeration_read enumeration.value w
  data_type_read (is_data_type.Struct' _ structure) w = refl ◃ structure_read structure w

  pub structure_read : (x : Structure) → IsWhole (structure_tree x) → read_structure (structure_tree x) ≡ structure_outline x
  structure_read (Structure' keyword packed sign opening _ members closing dimensions) w = refl ◃ refl ◃ option_read _ _ _ (mark_read _ _ _ sign_marked) sign w.1.1.0 ◃ refl ◃ members_row_read members w.1.1.1.1.0 w.1.1.1.1.1.0 ◃ refl ◃ list_read _ _ _ dimension_read dimensions.items w.1.1.1.1.1.1.1

  pub type_ref_read : (x : TypeRef) → IsWhole (type_ref_tree x) → read_type_ref (type_ref_tree x) ≡ type_ref_outline x
  type_ref_read (is_type_ref.Written data_type) w = refl ◃ data_type_read data_type w
  type_ref_read (is_type_ref.Named named) w = refl ◃ named_type_read named w

  pub members_row_read : {n : _} (row : Row_of-Members n) → IsWhole (first_of (members_trees row)) → IsWhole (others_of (members_trees row)) → (read_members_first (first_of (members_trees row)) ◂ read_members_rest (others_of (members_trees row))) ≡ members_row_outline row
  members_row_read end_of-Members w v = absurd w.2
  members_row_read (more_of-Members data_type names semicolon rest) w v = (type_ref_read data_type w.0 ◃ row_read _ _ read_token _ _ read_token token_read token_read names w.1.0 w.1.1.0 ◃ refl) ◃ members_rest_read rest v

  pub members_rest_read : {n : _} (row : Row_of-Members n) → IsWhole (repeated_tree (λ (t : Tree). t) (members_trees row)) → read_members_rest (repeated_tree (λ (t : Tree). t) (members_trees row)) ≡ members_row_outline row
  members_rest_read end_of-Members w = refl
  members_rest_read (more_of-Members data_type names semicolon rest) w = (type_ref_read data_type w.0.0 ◃ row_read _ _ read_token _ _ read_token token_read token_read names w.0.1.0 w.0.1.1.0 ◃ refl) ◃ members_rest_read rest w.1

-- of the tree of a declared name: its type
pub read_declared_type : Tree → Outline
read_declared_type (left (pair data_type declarator)) = variant 0 ◂ variant 0 ◂ read_data_type data_type
read_declared_type (right (left (pair sign (pair dimensions declarator)))) = variant 1 ◂ (variant 1 ◂ numbered 1 0 sign) ◂ read_list read_dimension dimensions
read_declared_type (right (right (left (pair first (pair others declarator))))) = variant 1 ◂ variant 0 ◂ read_dimension first ◂ read_list read_dimension others
read_declared_type (right (right (right (pair (leaf scope) (left (pair (leaf colons) (pair (leaf name) (pair dimensions declarator)))))))) = variant 0 ◂ variant 1 ◂ ((variant 1 ◂ token_at scope ◂ token_at colons) ◂ token_at name) ◂ read_list read_dimension dimensions
read_declared_type (right (right (right (pair (leaf name) (right (pair dimensions (left declarator))))))) = variant 0 ◂ variant 1 ◂ (variant 0 ◂ token_at name) ◂ read_list read_dimension dimensions
read_declared_type (right (right (right (pair (leaf name) (right (pair dimensions (right none))))))) = variant 1 ◂ variant 0 ◂ no_more
read_declared_type t = no_more

-- and the name with its own dimensions
pub read_declared_name : Tree → Outline
read_declared_name (left (pair data_type declarator)) = read_declarator declarator
read_declared_name (right (left (pair sign (pair dimensions declarator)))) = read_declarator declarator
read_declared_name (right (right (left (pair first (pair others declarator))))) = read_declarator declarator
read_declared_name (right (right (right (pair (leaf scope) (left (pair (leaf colons) (pair (leaf name) (pair dimensions declarator)))))))) = read_declarator declarator
read_declared_name (right (right (right (pair (leaf name) (right (pair dimensions (left declarator))))))) = read_declarator declarator
read_declared_name (right (right (right (pair (leaf name) (right (pair dimensions (right none))))))) = token_at name ◂ read_list read_dimension dimensions
read_declared_name t = no_more

-- both are read back, behind a type by its name and behind at most packed dimensions
pub named_read : (scope : Option PackageScope) (name : ℕ) (dimensions : List Dimension) (d : Declarator) → IsWhole (final 3 (scoped_type_tree left right scope name dimensions d)) → (read_declared_type (final 3 (scoped_type_tree left right scope name dimensions d)) ≡ (variant 0 ◂ variant 1 ◂ (option_outline package_scope_outline scope ◂ token_at name) ◂ list_outline dimension_outline dimensions)) × (read_declared_name (final 3 (scoped_type_tree left right scope name dimensions d)) ≡ declarator_outline d)
unfolding read_declared_type read_declared_name
named_read None name dimensions d w = (refl ◃ refl ◃ refl ◃ list_read _ _ _ dimension_read dimensions w.1.0, declarator_read d w.1.1)
named_read (Some scope) name dimensions d w = (refl ◃ refl ◃ refl ◃ list_read _ _ _ dimension_read dimensions w.1.1.1.0, declarator_read d w.1.1.1.1)

pub ranged_read : (dimensions : List Dimension) (d : Declarator) → IsWhole (ranged_tree right dimensions d) → (read_declared_type (ranged_tree right dimensions d) ≡ (variant 1 ◂ variant 0 ◂ list_outline dimension_outline dimensions)) × (read_declared_name (ranged_tree right dimensions d) ≡ declarator_outline d)
unfolding ranged_tree list_outline read_declared_type read_declared_name
ranged_read [] d w = (refl, refl ◃ list_read _ _ _ dimension_read d.dimensions.items w.1.0)
ranged_read (first ∷ others) d w = (refl ◃ refl ◃ dimension_read first w.0 ◃ list_read _ _ _ dimension_read others w.1.0, declarator_read d w.1.1)

pub typed_read : (x : DeclaredType) (d : Declarator) → IsWhole (typed_tree x d) → (read_declared_type (typed_tree x d) ≡ declared_type_outline x) × (read_declared_name (typed_tree x d) ≡ declarator_outline d)
unfolding data_type_outline read_declared_type read_declared_name
typed_read (is_declared_type.Explicit (is_type_ref.Written data_type)) d w = (refl ◃ refl ◃ data_type_read data_type w.0, declarator_read d w.1)
typed_read (is_declared_type.Explicit (is_type_ref.Named named)) d w = named_read named.name.scope named.name.name named.dimensions.items d w
typed_read (is_declared_type.Implicit (Some sign) dimensions) d w = (refl ◃ (refl ◃ mark_read _ _ _ sign_marked sign w.0) ◃ list_read _ _ _ dimension_read dimensions.items w.1.0, declarator_read d w.1.1)
typed_read (is_declared_type.Implicit None dimensions) d w = ranged_read dimensions.items d w

pub read_typed_name : Tree → Outline
read_typed_name t = read_declared_type t ◂ read_declared_name t

pub typed_name_read : IsRead typed_name_tree typed_name_outline read_typed_name
unfolding read_typed_name
typed_name_read x w = (typed_read x.data_type x.declarator w).0 ◃ (typed_read x.data_type x.declarator w).1
