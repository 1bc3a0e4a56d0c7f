-- Types and names that are declared, shown as trees from what they say.
use Rattle.std.proofs.Common.{List, None, Option, Some, [], ap, refl, suc, zero, ℕ, ◌∷◌, ◌≡◌}
use Rattle.sve_grammar.specs.Reading.{Tree, leaf, left, none, right}
use Rattle.sve_outline.proofs.Marks.{atom_keyword_marked, sign_marked, vector_keyword_marked}
use Rattle.sve_outline.proofs.WriteExpressions.{dimension_written, expr_written, written_at, written_dimension}
use Rattle.sve_outline.proofs.WriteNames.{scoped_name_written, written_scoped_name}
use Rattle.sve_outline.proofs.Writers.{IsWritten, cons_alike, list_written, mark_written, option_written, row_first_written, row_rest_written, token_written, written_list, written_mark, written_option, written_row_first, written_row_rest, written_token, ◌◇◌}
use Rattle.sve_outline.specs.Expressions.{dimension_outline}
use Rattle.sve_outline.specs.Outline.{Outline, list_outline, no_more, option_outline, token_at, variant, ◌◂◌}
use Rattle.sve_outline.specs.Types.{atom_type_outline, data_type_outline, declarator_outline, declared_type_outline, enum_base_outline, enum_name_outline, enumeration_outline, initializer_outline, members_row_outline, named_type_outline, structure_outline, type_ref_outline, typed_name_outline, vector_type_outline}
use Rattle.sve_outline.specs.Words.{package_scope_outline}
use Rattle.sve_tree.specs.Shape.{final, first_of, others_of, way, ◌▸◌}
use Rattle.sve_tree.specs.Types.{atom_type_tree, data_type_tree, declarator_tree, declared_tree, enum_base_tree, enum_name_tree, enumeration_tree, initializer_tree, members_trees, named_type_tree, ranged_tree, scoped_type_tree, structure_tree, type_ref_tree, typed_name_tree, vector_type_tree}
use Rattle.sve_tree.specs.declared.data_type.DataType.{DataType}
use Rattle.sve_tree.specs.declared.data_type.Declarator.{Declarator}
use Rattle.sve_tree.specs.declared.data_type.DeclaredType.{DeclaredType}
use Rattle.sve_tree.specs.declared.data_type.Structure.{Row_of-Members, Structure, Structure', end_of-Members, more_of-Members}
use Rattle.sve_tree.specs.declared.data_type.TypeRef.{TypeRef}
use Rattle.sve_tree.specs.declared.expression.Dimension.{Dimension}
use Rattle.sve_tree.specs.declared.word.PackageScope.{PackageScope}
use Rattle.sve_tree.specs.declared.data_type.DataType.TheVariants as is_data_type
use Rattle.sve_tree.specs.declared.data_type.DeclaredType.TheVariants as is_declared_type
use Rattle.sve_tree.specs.declared.data_type.EnumBase.TheVariants as is_enum_base
use Rattle.sve_tree.specs.declared.data_type.TypeRef.TheVariants as is_type_ref

pub written_atom_type : Outline → Tree
written_atom_type (keyword ◂ sign) = written_mark 5 keyword ▸ written_option (written_mark 1) sign
written_atom_type o = none

pub atom_type_written : IsWritten atom_type_tree atom_type_outline written_atom_type
unfolding written_atom_type
atom_type_written x = mark_written _ _ _ atom_keyword_marked x.keyword ◇ option_written _ _ _ (mark_written _ _ _ sign_marked) x.sign

pub written_vector_type : Outline → Tree
written_vector_type (keyword ◂ sign ◂ dimensions) = written_mark 2 keyword ▸ written_option (written_mark 1) sign ▸ written_list written_dimension dimensions
written_vector_type o = none

pub vector_type_written : IsWritten vector_type_tree vector_type_outline written_vector_type
unfolding written_vector_type
vector_type_written x = mark_written _ _ _ vector_keyword_marked x.keyword ◇ option_written _ _ _ (mark_written _ _ _ sign_marked) x.sign ◇ list_written _ _ _ dimension_written x.dimensions.items

pub written_named_type : Outline → Tree
written_named_type (name ◂ dimensions) = written_scoped_name name ▸ written_list written_dimension dimensions
written_named_type o = none

pub named_type_written : IsWritten named_type_tree named_type_outline written_named_type
unfolding written_named_type
named_type_written x = scoped_name_written x.name ◇ list_written _ _ _ dimension_written x.dimensions.items

pub written_enum_base : Outline → Tree
written_enum_base (variant zero ◂ atom) = way 0 (written_atom_type atom)
written_enum_base (variant (suc zero) ◂ vector) = way 1 (written_vector_type vector)
written_enum_base (variant (suc (suc zero)) ◂ named) = final 2 (written_named_type named)
written_enum_base o = none

pub enum_base_written : IsWritten enum_base_tree enum_base_outline written_enum_base
unfolding written_enum_base
enum_base_written (is_enum_base.Atom atom) = ap (λ (t : Tree). way 0 t) (atom_type_written atom)
enum_base_written (is_enum_base.Vector vector) = ap (λ (t : Tree). way 1 t) (vector_type_written vector)
enum_base_written (is_enum_base.Named named) = ap (λ (t : Tree). final 2 t) (named_type_written named)

pub written_initializer : Outline → Tree
written_initializer (token_at equals ◂ value) = leaf equals ▸ written_at 13 value
written_initializer o = none

pub initializer_written : IsWritten initializer_tree initializer_outline written_initializer
unfolding written_initializer
initializer_written x = refl ◇ expr_written 13 x.value.value

pub written_enum_name : Outline → Tree
written_enum_name (token_at name ◂ value) = leaf name ▸ written_option written_initializer value
written_enum_name o = none

pub enum_name_written : IsWritten enum_name_tree enum_name_outline written_enum_name
unfolding written_enum_name
enum_name_written x = refl ◇ option_written _ _ _ initializer_written x.value

pub written_enumeration : Outline → Tree
written_enumeration (token_at keyword ◂ base ◂ token_at opening ◂ names ◂ token_at closing ◂ dimensions) = leaf keyword ▸ written_option written_enum_base base ▸ leaf opening ▸ written_row_first written_enum_name names ▸ written_row_rest written_enum_name written_token names ▸ leaf closing ▸ written_list written_dimension dimensions
written_enumeration o = none

pub enumeration_written : IsWritten enumeration_tree enumeration_outline written_enumeration
unfolding written_enumeration
enumeration_written x = refl ◇ option_written _ _ _ enum_base_written x.base ◇ refl ◇ row_first_written _ _ _ token_at enum_name_written x.names ◇ row_rest_written _ _ _ _ _ _ enum_name_written token_written x.names ◇ refl ◇ list_written _ _ _ dimension_written x.dimensions.items

pub written_declarator : Outline → Tree
written_declarator (token_at name ◂ dimensions) = leaf name ▸ written_list written_dimension dimensions
written_declarator o = none

pub declarator_written : IsWritten declarator_tree declarator_outline written_declarator
unfolding written_declarator
declarator_written x = refl ◇ list_written _ _ _ dimension_written x.dimensions.items

mutual
  pub written_data_type : Outline → Tree
  written_data_type (variant zero ◂ atom) = way 0 (written_atom_type atom)
  written_data_type (variant (suc zero) ◂ vector) = way 1 (written_vector_type vector)
  written_data_type (variant (suc (suc zero)) ◂ token_at keyword) = way 2 (leaf keyword)
  written_data_type (variant (suc (suc (suc zero))) ◂ enumeration) = way 3 (written_enumeration enumeration)
  written_data_type (variant (suc (suc (suc (suc zero)))) ◂ structure) = final 4 (written_structure structure)
  written_data_type o = none

  pub written_structure : Outline → Tree
  written_structure (token_at keyword ◂ token_at packed ◂ sign ◂ token_at opening ◂ members ◂ token_at closing ◂ dimensions) = leaf keyword ▸ leaf packed ▸ written_option (written_mark 1) sign ▸ leaf opening ▸ first_of (written_members members) ▸ others_of (written_members members) ▸ leaf closing ▸ written_list written_dimension dimensions
  written_structure o = none

  pub written_type_ref : Outline → Tree
  written_type_ref (variant zero ◂ data_type) = left (written_data_type data_type)
  written_type_ref (variant (suc zero) ◂ named) = right (written_named_type named)
  written_type_ref o = none

  pub written_members : Outline → List Tree
  written_members ((data_type ◂ names ◂ token_at semicolon) ◂ rest) = (written_type_ref data_type ▸ written_row_first written_token names ▸ written_row_rest written_token written_token names ▸ leaf semicolon) ∷ written_members rest
  written_members o = []

mutual
  unfolding data_type_tree data_type_outline written_data_type

  pub data_type_written : (x : DataType) → written_data_type (data_type_outline x) ≡ data_type_tree x
  data_type_written (is_data_type.Atom atom) = ap (λ (t : Tree). way 0 t) (atom_type_written atom)
  data_type_written (is_data_type.Vector vector) = ap (λ (t : Tree). way 1 t) (vector_type_written vector)
  data_type_written (is_data_type.Text keyword) = refl
  data_type_written (is_data_type.Enum enumeration) = ap (λ (t : Tree). way 3 t) (enumeration_written enumeration.value)
  data_type_written (is_data_type.Struct' _ structure) = ap (λ (t : Tree). final 4 t) (structure_written structure)

  pub structure_written : (x : Structure) → written_structure (structure_outline x) ≡ structure_tree x
  structure_written (Structure' keyword packed sign opening _ members closing dimensions) = refl ◇ refl ◇ option_written _ _ _ (mark_written _ _ _ sign_marked) sign ◇ refl ◇ ap (λ (ts : List Tree). first_of ts) (members_written members) ◇ ap (λ (ts : List Tree). others_of ts) (members_written members) ◇ refl ◇ list_written _ _ _ dimension_written dimensions.items

  pub type_ref_written : (x : TypeRef) → written_type_ref (type_ref_outline x) ≡ type_ref_tree x
  type_ref_written (is_type_ref.Written data_type) = ap (λ (t : Tree). left t) (data_type_written data_type)
  type_ref_written (is_type_ref.Named named) = ap (λ (t : Tree). right t) (named_type_written named)

  pub members_written : {n : _} (row : Row_of-Members n) → written_members (members_row_outline row) ≡ members_trees row
  members_written end_of-Members = refl
  members_written (more_of-Members data_type names semicolon rest) = cons_alike (type_ref_written data_type ◇ row_first_written _ _ _ token_at token_written names ◇ row_rest_written _ _ _ _ _ _ token_written token_written names ◇ refl) (members_written rest)

-- a declared name behind its type, from what says the type and what says the name
pub written_declared : (Tree → Tree) → (Tree → Tree) → Outline → Outline → Tree
written_declared scoped plain (variant zero ◂ variant zero ◂ data_type) d = way 0 (written_data_type data_type ▸ written_declarator d)
written_declared scoped plain (variant zero ◂ variant (suc zero) ◂ ((variant (suc zero) ◂ token_at scope ◂ token_at colons) ◂ token_at name) ◂ dimensions) d = final 3 (leaf scope ▸ scoped (leaf colons ▸ leaf name ▸ written_list written_dimension dimensions ▸ written_declarator d))
written_declared scoped plain (variant zero ◂ variant (suc zero) ◂ (variant zero ◂ token_at name) ◂ dimensions) d = final 3 (leaf name ▸ plain (written_list written_dimension dimensions ▸ left (written_declarator d)))
written_declared scoped plain (variant (suc zero) ◂ (variant (suc zero) ◂ sign) ◂ dimensions) d = way 1 (written_mark 1 sign ▸ written_list written_dimension dimensions ▸ written_declarator d)
written_declared scoped plain (variant (suc zero) ◂ variant zero ◂ first ◂ others) d = way 2 (written_dimension first ▸ written_list written_dimension others ▸ written_declarator d)
written_declared scoped plain (variant (suc zero) ◂ variant zero ◂ no_more) (token_at name ◂ dimensions) = final 3 (leaf name ▸ plain (written_list written_dimension dimensions ▸ right none))
written_declared scoped plain o d = none

named_written : (scoped plain : Tree → Tree) (scope : Option PackageScope) (name : ℕ) (dimensions : List Dimension) (d : Declarator) → written_declared scoped plain (variant 0 ◂ variant 1 ◂ (option_outline package_scope_outline scope ◂ token_at name) ◂ list_outline dimension_outline dimensions) (declarator_outline d) ≡ final 3 (scoped_type_tree scoped plain scope name dimensions d)
unfolding written_declared
named_written scoped plain None name dimensions d = ap (λ (t : Tree). final 3 (leaf name ▸ plain t)) (list_written _ _ _ dimension_written dimensions ◇ ap (λ (t : Tree). left t) (declarator_written d))
named_written scoped plain (Some scope) name dimensions d = ap (λ (t : Tree). final 3 (leaf scope.name ▸ scoped (leaf scope.colons ▸ leaf name ▸ t))) (list_written _ _ _ dimension_written dimensions ◇ declarator_written d)

ranged_written : (scoped plain : Tree → Tree) (dimensions : List Dimension) (d : Declarator) → written_declared scoped plain (variant 1 ◂ variant 0 ◂ list_outline dimension_outline dimensions) (declarator_outline d) ≡ ranged_tree plain dimensions d
unfolding ranged_tree list_outline written_declared
ranged_written scoped plain [] d = ap (λ (t : Tree). final 3 (leaf d.name ▸ plain (t ▸ right none))) (list_written _ _ _ dimension_written d.dimensions.items)
ranged_written scoped plain (first ∷ others) d = ap (λ (t : Tree). way 2 t) (dimension_written first ◇ list_written _ _ _ dimension_written others ◇ declarator_written d)

pub declared_written : (scoped plain : Tree → Tree) (x : DeclaredType) (d : Declarator) → written_declared scoped plain (declared_type_outline x) (declarator_outline d) ≡ declared_tree scoped plain x d
unfolding data_type_outline written_declared
declared_written scoped plain (is_declared_type.Explicit (is_type_ref.Written data_type)) d = ap (λ (t : Tree). way 0 t) (data_type_written data_type ◇ declarator_written d)
declared_written scoped plain (is_declared_type.Explicit (is_type_ref.Named named)) d = named_written scoped plain named.name.scope named.name.name named.dimensions.items d
declared_written scoped plain (is_declared_type.Implicit (Some sign) dimensions) d = ap (λ (t : Tree). way 1 t) (mark_written _ _ _ sign_marked sign ◇ list_written _ _ _ dimension_written dimensions.items ◇ declarator_written d)
declared_written scoped plain (is_declared_type.Implicit None dimensions) d = ranged_written scoped plain dimensions.items d

pub written_typed_name : Outline → Tree
written_typed_name (data_type ◂ declarator) = written_declared left right data_type declarator
written_typed_name o = none

pub typed_name_written : IsWritten typed_name_tree typed_name_outline written_typed_name
unfolding written_typed_name
typed_name_written x = declared_written left right x.data_type x.declarator
