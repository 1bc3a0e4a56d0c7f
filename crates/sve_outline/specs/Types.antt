-- What types and declared names say (IEEE 1800-2017, A.2.2.1 and A.2.5).
use Rattle.sve_outline.specs.Expressions.{dimension_outline, expr_outline}
use Rattle.sve_outline.specs.Outline.{Outline, list_outline, mark_outline, no_more, option_outline, row_outline, token_at, variant, ◌◂◌}
use Rattle.sve_outline.specs.Words.{atom_keyword_place, scoped_name_outline, sign_place, vector_keyword_place}
use Rattle.sve_tree.specs.declared.data_type.AtomType.{AtomType}
use Rattle.sve_tree.specs.declared.data_type.DataType.{DataType}
use Rattle.sve_tree.specs.declared.data_type.Declarator.{Declarator}
use Rattle.sve_tree.specs.declared.data_type.DeclaredType.{DeclaredType}
use Rattle.sve_tree.specs.declared.data_type.EnumBase.{EnumBase}
use Rattle.sve_tree.specs.declared.data_type.EnumName.{EnumName}
use Rattle.sve_tree.specs.declared.data_type.Enumeration.{Enumeration}
use Rattle.sve_tree.specs.declared.data_type.Initializer.{Initializer}
use Rattle.sve_tree.specs.declared.data_type.NamedType.{NamedType}
use Rattle.sve_tree.specs.declared.data_type.Structure.{Row_of-Members, Structure, Structure', end_of-Members, more_of-Members}
use Rattle.sve_tree.specs.declared.data_type.TypeRef.{TypeRef}
use Rattle.sve_tree.specs.declared.data_type.TypedName.{TypedName}
use Rattle.sve_tree.specs.declared.data_type.VectorType.{VectorType}
use Rattle.sve_tree.specs.declared.data_type.DataType.TheVariants as is_data_type
use Rattle.sve_tree.specs.declared.data_type.DeclaredType.TheVariants as is_declared_type
use Rattle.sve_tree.specs.declared.data_type.EnumBase.TheVariants as is_enum_base
use Rattle.sve_tree.specs.declared.data_type.TypeRef.TheVariants as is_type_ref

abbrev pub atom_type_outline : AtomType → Outline
atom_type_outline x = mark_outline atom_keyword_place x.keyword ◂ option_outline (mark_outline sign_place) x.sign

abbrev pub vector_type_outline : VectorType → Outline
vector_type_outline x = mark_outline vector_keyword_place x.keyword ◂ option_outline (mark_outline sign_place) x.sign ◂ list_outline dimension_outline x.dimensions.items

abbrev pub named_type_outline : NamedType → Outline
named_type_outline x = scoped_name_outline x.name ◂ list_outline dimension_outline x.dimensions.items

abbrev pub enum_base_outline : EnumBase → Outline
enum_base_outline (is_enum_base.Atom atom) = variant 0 ◂ atom_type_outline atom
enum_base_outline (is_enum_base.Vector vector) = variant 1 ◂ vector_type_outline vector
enum_base_outline (is_enum_base.Named named) = variant 2 ◂ named_type_outline named

abbrev pub initializer_outline : Initializer → Outline
initializer_outline x = token_at x.equals ◂ expr_outline x.value.value

abbrev pub enum_name_outline : EnumName → Outline
enum_name_outline x = token_at x.name ◂ option_outline initializer_outline x.value

abbrev pub enumeration_outline : Enumeration → Outline
enumeration_outline x = token_at x.keyword ◂ option_outline enum_base_outline x.base ◂ token_at x.opening ◂ row_outline enum_name_outline token_at x.names ◂ token_at x.closing ◂ list_outline dimension_outline x.dimensions.items

abbrev pub declarator_outline : Declarator → Outline
declarator_outline x = token_at x.name ◂ list_outline dimension_outline x.dimensions.items

unfoldable mutual
  pub data_type_outline : DataType → Outline
  data_type_outline (is_data_type.Atom atom) = variant 0 ◂ atom_type_outline atom
  data_type_outline (is_data_type.Vector vector) = variant 1 ◂ vector_type_outline vector
  data_type_outline (is_data_type.Text keyword) = variant 2 ◂ token_at keyword
  data_type_outline (is_data_type.Enum enumeration) = variant 3 ◂ enumeration_outline enumeration.value
  data_type_outline (is_data_type.Struct' _ structure) = variant 4 ◂ structure_outline structure

  pub structure_outline : Structure → Outline
  structure_outline (Structure' keyword packed sign opening _ members closing dimensions) = token_at keyword ◂ token_at packed ◂ option_outline (mark_outline sign_place) sign ◂ token_at opening ◂ members_row_outline members ◂ token_at closing ◂ list_outline dimension_outline dimensions.items

  pub type_ref_outline : TypeRef → Outline
  type_ref_outline (is_type_ref.Written data_type) = variant 0 ◂ data_type_outline data_type
  type_ref_outline (is_type_ref.Named named) = variant 1 ◂ named_type_outline named

  pub members_row_outline : {n : _} → Row_of-Members n → Outline
  members_row_outline end_of-Members = no_more
  members_row_outline (more_of-Members data_type names semicolon rest) = (type_ref_outline data_type ◂ row_outline token_at token_at names ◂ token_at semicolon) ◂ members_row_outline rest

abbrev pub declared_type_outline : DeclaredType → Outline
declared_type_outline (is_declared_type.Explicit data_type) = variant 0 ◂ type_ref_outline data_type
declared_type_outline (is_declared_type.Implicit sign dimensions) = variant 1 ◂ option_outline (mark_outline sign_place) sign ◂ list_outline dimension_outline dimensions.items

abbrev pub typed_name_outline : TypedName → Outline
typed_name_outline x = declared_type_outline x.data_type ◂ declarator_outline x.declarator
