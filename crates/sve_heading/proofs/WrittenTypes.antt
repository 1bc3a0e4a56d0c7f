-- The names that each type declares, as its fields are seen from outside.
use Rattle.std.specs.Global.{Box}
use Rattle.std.proofs.Common.{rules, ℕ, List, [], ◌++◌, map, ◌≡◌, refl, ap, ◌∙◌}
use Rattle.std.specs.List.{flat_map}
use Rattle.sve_tree.specs.declared.data_type.AtomType.{AtomType}
use Rattle.sve_tree.specs.declared.data_type.DataType.{DataType}
use Rattle.sve_tree.specs.declared.data_type.DataType.TheVariants as is_data_type
use Rattle.sve_tree.specs.declared.data_type.Enumeration.{Enumeration}
use Rattle.sve_tree.specs.declared.data_type.Members.{Members}
use Rattle.sve_tree.specs.declared.data_type.NamedType.{NamedType}
use Rattle.sve_tree.specs.declared.data_type.Structure.{Structure, Structure', out-Structure, Row_of-Members, end_of-Members, more_of-Members, items-the_row-Members, the_lemmas}
use Rattle.sve_tree.specs.declared.data_type.TypeRef.{TypeRef}
use Rattle.sve_tree.specs.declared.data_type.TypeRef.TheVariants as is_type_ref
use Rattle.sve_tree.specs.declared.data_type.VectorType.{VectorType}
use Rattle.sve_heading.specs.declared.heading.Heading.{Heading}
use Rattle.sve_heading.specs.Types.{enum_name_heading, members_headings, members_row_headings, structure_headings, type_headings, type_ref_headings}

pub of_written : (d : DataType) → type_ref_headings (is_type_ref.Written d) ≡ type_headings d
unfolding type_headings
of_written d = refl

pub of_named : (n : NamedType) → type_ref_headings (is_type_ref.Named n) ≡ []
unfolding type_headings
of_named n = refl

pub of_atom : (atom : AtomType) → type_headings (is_data_type.Atom atom) ≡ []
unfolding type_headings
of_atom atom = refl

pub of_vector : (vector : VectorType) → type_headings (is_data_type.Vector vector) ≡ []
unfolding type_headings
of_vector vector = refl

pub of_text : (keyword : ℕ) → type_headings (is_data_type.Text keyword) ≡ []
unfolding type_headings
of_text keyword = refl

pub of_enum : (e : Box Enumeration) → type_headings (is_data_type.Enum e) ≡ map enum_name_heading e.value.names.items.items
unfolding type_headings
of_enum e = refl

pub of_struct : (s : Box Structure) → type_headings (is_data_type.Struct s) ≡ structure_headings s.value
unfolding type_headings
of_struct s = refl

members_are : {n : _} (row : Row_of-Members n) → members_row_headings row ≡ flat_map members_headings (items-the_row-Members n row)
unfolding type_headings
members_are end_of-Members = refl
members_are (more_of-Members data_type names semicolon rest) = ap (λ (hs : List Heading). type_ref_headings data_type ++ hs) (members_are rest)

pub of_structure : (s : Structure) → structure_headings s ≡ flat_map members_headings (out-Structure s).members.items
unfolding type_headings
of_structure (Structure' keyword packed sign opening p members closing dimensions) =
    let e : items-the_row-Members _ members ≡ (out-Structure (Structure' keyword packed sign opening p members closing dimensions)).members.items = search (rules, the_lemmas) in
    members_are members ∙ ap (flat_map members_headings) e
