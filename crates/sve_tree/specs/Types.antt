-- The trees of types and of declared names (IEEE 1800-2017, A.2.2.1 and A.2.5).
use Rattle.std.specs.Prelude.{ℕ, List, [], ◌∷◌, Option, Some, None}
use Rattle.sve_grammar.specs.Reading.{Tree, leaf, none, left, right}
use Rattle.sve_tree.specs.Shape.{◌▸◌, way, final, optional_tree, repeated_tree, first_of, others_of, row_first, row_rest, mark_tree}
use Rattle.sve_tree.specs.Words.{sign_tree, atom_keyword_tree, vector_keyword_tree, scoped_name_tree}
use Rattle.sve_tree.specs.Expressions.{dimension_tree, tree_at}
use Rattle.sve_tree.specs.declared.data_type.DataType.{DataType}
use Rattle.sve_tree.specs.declared.data_type.AtomType.{AtomType}
use Rattle.sve_tree.specs.declared.data_type.VectorType.{VectorType}
use Rattle.sve_tree.specs.declared.data_type.NamedType.{NamedType}
use Rattle.sve_tree.specs.declared.data_type.Enumeration.{Enumeration}
use Rattle.sve_tree.specs.declared.data_type.EnumBase.{EnumBase}
use Rattle.sve_tree.specs.declared.data_type.Structure.{Structure, Structure', Row_of-Members, end_of-Members, more_of-Members}
use Rattle.sve_tree.specs.declared.data_type.EnumName.{EnumName}
use Rattle.sve_tree.specs.declared.data_type.Initializer.{Initializer}
use Rattle.sve_tree.specs.declared.data_type.Members.{Members}
use Rattle.sve_tree.specs.declared.data_type.Declarator.{Declarator}
use Rattle.sve_tree.specs.declared.data_type.TypeRef.{TypeRef}
use Rattle.sve_tree.specs.declared.data_type.DeclaredType.{DeclaredType}
use Rattle.sve_tree.specs.declared.data_type.TypedName.{TypedName}
use Rattle.sve_tree.specs.declared.expression.Dimension.{Dimension}
use Rattle.sve_tree.specs.declared.word.PackageScope.{PackageScope}
use Rattle.sve_tree.specs.declared.data_type.DataType.TheVariants as is_data_type
use Rattle.sve_tree.specs.declared.data_type.EnumBase.TheVariants as is_enum_base
use Rattle.sve_tree.specs.declared.data_type.TypeRef.TheVariants as is_type_ref
use Rattle.sve_tree.specs.declared.data_type.DeclaredType.TheVariants as is_declared_type

abbrev pub atom_type_tree : AtomType → Tree
atom_type_tree x = mark_tree atom_keyword_tree x.keyword ▸ optional_tree (mark_tree sign_tree) x.sign

abbrev pub vector_type_tree : VectorType → Tree
vector_type_tree x = mark_tree vector_keyword_tree x.keyword ▸ optional_tree (mark_tree sign_tree) x.sign ▸ repeated_tree dimension_tree x.dimensions.items

abbrev pub named_type_tree : NamedType → Tree
named_type_tree x = scoped_name_tree x.name ▸ repeated_tree dimension_tree x.dimensions.items

abbrev pub enum_base_tree : EnumBase → Tree
enum_base_tree (is_enum_base.Atom atom) = way 0 (atom_type_tree atom)
enum_base_tree (is_enum_base.Vector vector) = way 1 (vector_type_tree vector)
enum_base_tree (is_enum_base.Named named) = final 2 (named_type_tree named)

abbrev pub initializer_tree : Initializer → Tree
initializer_tree x = leaf x.equals ▸ tree_at 13 x.value.value

abbrev pub enum_name_tree : EnumName → Tree
enum_name_tree x = leaf x.name ▸ optional_tree initializer_tree x.value

abbrev pub enumeration_tree : Enumeration → Tree
enumeration_tree x = leaf x.keyword ▸ optional_tree enum_base_tree x.base ▸ leaf x.opening ▸ row_first enum_name_tree x.names ▸ row_rest enum_name_tree leaf x.names ▸ leaf x.closing ▸ repeated_tree dimension_tree x.dimensions.items

abbrev pub declarator_tree : Declarator → Tree
declarator_tree x = leaf x.name ▸ repeated_tree dimension_tree x.dimensions.items

unfoldable mutual
  pub data_type_tree : DataType → Tree
  data_type_tree (is_data_type.Atom atom) = way 0 (atom_type_tree atom)
  data_type_tree (is_data_type.Vector vector) = way 1 (vector_type_tree vector)
  data_type_tree (is_data_type.Text keyword) = way 2 (leaf keyword)
  data_type_tree (is_data_type.Enum enumeration) = way 3 (enumeration_tree enumeration.value)
  data_type_tree (is_data_type.Struct' _ structure) = final 4 (structure_tree structure)

  pub structure_tree : Structure → Tree
  structure_tree (Structure' keyword packed sign opening _ members closing dimensions) = leaf keyword ▸ leaf packed ▸ optional_tree (mark_tree sign_tree) sign ▸ leaf opening ▸ first_of (members_trees members) ▸ others_of (members_trees members) ▸ leaf closing ▸ repeated_tree dimension_tree dimensions.items

  pub type_ref_tree : TypeRef → Tree
  type_ref_tree (is_type_ref.Written data_type) = left (data_type_tree data_type)
  type_ref_tree (is_type_ref.Named named) = right (named_type_tree named)

  pub members_trees : {n : _} → Row_of-Members n → List Tree
  members_trees end_of-Members = []
  members_trees (more_of-Members data_type names semicolon rest) = (type_ref_tree data_type ▸ row_first leaf names ▸ row_rest leaf leaf names ▸ leaf semicolon) ∷ members_trees rest

abbrev pub members_tree : Members → Tree
members_tree x = type_ref_tree x.data_type ▸ row_first leaf x.names ▸ row_rest leaf leaf x.names ▸ leaf x.semicolon

-- A declared name behind its type. Where the type begins with an identifier, what stands behind that is given by two
-- alternatives of the rule: that the identifier is a package, and that it is not.
abbrev pub scoped_type_tree : (Tree → Tree) → (Tree → Tree) → Option PackageScope → ℕ → List Dimension → Declarator → Tree
scoped_type_tree scoped plain (Some scope) name dimensions declarator = leaf scope.name ▸ scoped (leaf scope.colons ▸ leaf name ▸ repeated_tree dimension_tree dimensions ▸ declarator_tree declarator)
scoped_type_tree scoped plain None name dimensions declarator = leaf name ▸ plain (repeated_tree dimension_tree dimensions ▸ left (declarator_tree declarator))

-- a declared name behind at most packed dimensions
unfoldable pub ranged_tree : (Tree → Tree) → List Dimension → Declarator → Tree
ranged_tree plain [] declarator = final 3 (leaf declarator.name ▸ plain (repeated_tree dimension_tree declarator.dimensions.items ▸ right none))
ranged_tree plain (first ∷ others) declarator = way 2 (dimension_tree first ▸ repeated_tree dimension_tree others ▸ declarator_tree declarator)

abbrev pub declared_tree : (Tree → Tree) → (Tree → Tree) → DeclaredType → Declarator → Tree
declared_tree scoped plain (is_declared_type.Explicit (is_type_ref.Written data_type)) declarator = way 0 (data_type_tree data_type ▸ declarator_tree declarator)
declared_tree scoped plain (is_declared_type.Explicit (is_type_ref.Named named)) declarator = final 3 (scoped_type_tree scoped plain named.name.scope named.name.name named.dimensions.items declarator)
declared_tree scoped plain (is_declared_type.Implicit (Some sign) dimensions) declarator = way 1 (mark_tree sign_tree sign ▸ repeated_tree dimension_tree dimensions.items ▸ declarator_tree declarator)
declared_tree scoped plain (is_declared_type.Implicit None dimensions) declarator = ranged_tree plain dimensions.items declarator

-- a declared name with its type
abbrev pub typed_tree : DeclaredType → Declarator → Tree
typed_tree data_type declarator = declared_tree left right data_type declarator

abbrev pub typed_name_tree : TypedName → Tree
typed_name_tree x = typed_tree x.data_type x.declarator
