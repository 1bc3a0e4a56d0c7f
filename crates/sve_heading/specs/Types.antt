-- The names that types declare where they are written: those of enumerations, also within structures, in the order of the text (IEEE 1800-2017, 6.19 and 7.2.1).
use Rattle.std.specs.Prelude.{ℕ, false, List, [], ◌++◌, map}
use Rattle.sve_tree.specs.declared.data_type.DataType.{DataType}
use Rattle.sve_tree.specs.declared.data_type.DataType.TheVariants as is_data_type
use Rattle.sve_tree.specs.declared.data_type.DeclaredType.{DeclaredType}
use Rattle.sve_tree.specs.declared.data_type.DeclaredType.TheVariants as is_declared_type
use Rattle.sve_tree.specs.declared.data_type.EnumName.{EnumName}
use Rattle.sve_tree.specs.declared.data_type.Members.{Members}
use Rattle.sve_tree.specs.declared.data_type.Structure.{Structure, Structure', Row_of-Members, end_of-Members, more_of-Members}
use Rattle.sve_tree.specs.declared.data_type.TypeRef.{TypeRef}
use Rattle.sve_tree.specs.declared.data_type.TypeRef.TheVariants as is_type_ref
use Rattle.sve_heading.specs.declared.heading.Heading.{Heading}

-- the name at a token, which is not that of a function
abbrev pub name_heading : ℕ → Heading
name_heading token = record { token = token; is_function = false }

abbrev pub enum_name_heading : EnumName → Heading
enum_name_heading name = name_heading name.name

unfoldable mutual
  pub type_headings : DataType → List Heading
  type_headings (is_data_type.Enum e) = map enum_name_heading e.value.names.items.items
  type_headings (is_data_type.Struct' _ s) = structure_headings s
  type_headings d = []

  pub structure_headings : Structure → List Heading
  structure_headings (Structure' keyword packed sign opening _ members closing dimensions) = members_row_headings members

  pub members_row_headings : {n : _} → Row_of-Members n → List Heading
  members_row_headings end_of-Members = []
  members_row_headings (more_of-Members data_type names semicolon rest) = type_ref_headings data_type ++ members_row_headings rest

  pub type_ref_headings : TypeRef → List Heading
  type_ref_headings (is_type_ref.Written d) = type_headings d
  type_ref_headings (is_type_ref.Named n) = []

-- members of one type
abbrev pub members_headings : Members → List Heading
members_headings m = type_ref_headings m.data_type

abbrev pub declared_type_headings : DeclaredType → List Heading
declared_type_headings (is_declared_type.Explicit t) = type_ref_headings t
declared_type_headings (is_declared_type.Implicit sign dimensions) = []
