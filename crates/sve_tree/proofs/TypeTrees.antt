-- The tree of each variant: data types.
use Rattle.std.specs.Global.{Box, Vec}
use Rattle.std.proofs.Common.{ℕ, List, [], ◌∷◌, map, Option, ◌≡◌, refl, ap, ◌∙◌}
use Rattle.sve_grammar.specs.Reading.{Tree, leaf, none, left, right}
use Rattle.sve_tree.specs.Shape.{◌▸◌, way, final, optional_tree, repeated_tree, first_tree, others_tree, first_of, others_of, row_first, row_rest, BeginsWith, mark_tree}
use Rattle.sve_tree.proofs.Shapes.{first_map, others_map}
use denote.Hole.Carrier.{roll}
use Rattle.sve_tree.specs.declared.word.Mark.{Mark}
use Rattle.sve_tree.specs.declared.word.Sign.{Sign}
use Rattle.sve_tree.specs.Words.{sign_tree}
use Rattle.sve_tree.specs.declared.expression.Dimension.{Dimension}
use Rattle.sve_tree.specs.Expressions.{dimension_tree}
use Rattle.sve_tree.specs.declared.data_type.DataType.{DataType}
use Rattle.sve_tree.specs.Types.{data_type_tree, atom_type_tree, vector_type_tree, named_type_tree, enumeration_tree, structure_tree, members_tree, declarator_tree, type_ref_tree, members_trees, ranged_tree}
use Rattle.sve_tree.specs.declared.data_type.AtomType.{AtomType}
use Rattle.sve_tree.specs.declared.data_type.VectorType.{VectorType}
use Rattle.sve_tree.specs.declared.data_type.NamedType.{NamedType}
use Rattle.sve_tree.specs.declared.data_type.Enumeration.{Enumeration}
use Rattle.sve_tree.specs.declared.data_type.Structure.{Structure, roll-Structure, Row_of-Members, end_of-Members, items-the_row-Members, more_of-Members}
use Rattle.sve_tree.specs.declared.data_type.Members.{Members}
use Rattle.sve_tree.specs.declared.data_type.Declarator.{Declarator}
use Rattle.sve_tree.specs.declared.data_type.DataType.TheBlock.{hidden-the_row-Members-0, items_hidden-the_row-Members-0}
use Rattle.sve_tree.specs.declared.data_type.DataType.TheVariants as is_data_type
use Rattle.sve_tree.specs.declared.data_type.TypeRef.TheVariants as is_type_ref

-- ---- rows

members_trees_are : {n : _} (row : Row_of-Members n) → members_trees row ≡ map members_tree (items-the_row-Members n row)
unfolding data_type_tree
members_trees_are end_of-Members = refl
members_trees_are (more_of-Members data_type names semicolon rest) = ap (λ (ts : List Tree). (type_ref_tree data_type ▸ row_first leaf names ▸ row_rest leaf leaf names ▸ leaf semicolon) ∷ ts) (members_trees_are rest)

members_trees_of : (xs : Vec Members) → members_trees (hidden-the_row-Members-0 xs) ≡ map members_tree xs.items
members_trees_of xs = members_trees_are (hidden-the_row-Members-0 xs) ∙ ap (map members_tree) (items_hidden-the_row-Members-0 xs)

pub members_first : (xs : Vec Members) → first_of (members_trees (hidden-the_row-Members-0 xs)) ≡ first_tree members_tree xs.items
members_first xs = ap first_of (members_trees_of xs) ∙ first_map members_tree xs.items

pub members_others : (xs : Vec Members) → others_of (members_trees (hidden-the_row-Members-0 xs)) ≡ others_tree members_tree xs.items
members_others xs = ap others_of (members_trees_of xs) ∙ others_map members_tree xs.items

-- ---- data type

pub atom_data_type : (atom : AtomType) → data_type_tree (is_data_type.Atom atom) ≡ way 0 (atom_type_tree atom)
unfolding data_type_tree
atom_data_type atom = refl

pub vector_data_type : (vector : VectorType) → data_type_tree (is_data_type.Vector vector) ≡ way 1 (vector_type_tree vector)
unfolding data_type_tree
vector_data_type vector = refl

pub text_data_type : (keyword : ℕ) → data_type_tree (is_data_type.Text keyword) ≡ way 2 (leaf keyword)
unfolding data_type_tree
text_data_type keyword = refl

pub enum_data_type : (enumeration : Box Enumeration) → data_type_tree (is_data_type.Enum enumeration) ≡ way 3 (enumeration_tree enumeration.value)
unfolding data_type_tree
enum_data_type enumeration = refl

pub struct_data_type : (structure : Box Structure) → data_type_tree (is_data_type.Struct structure) ≡ final 4 (structure_tree structure.value)
unfolding data_type_tree
struct_data_type structure = refl

-- ---- structure

pub structure_made : (keyword : ℕ) (packed : ℕ) (sign : Option (Mark Sign)) (opening : ℕ) (members : Vec Members) (closing : ℕ) (dimensions : Vec Dimension) → structure_tree (roll-Structure (record { keyword = keyword; packed = packed; sign = sign; opening = opening; members = members; closing = closing; dimensions = dimensions })) ≡ leaf keyword ▸ leaf packed ▸ optional_tree (mark_tree sign_tree) sign ▸ leaf opening ▸ first_tree members_tree members.items ▸ others_tree members_tree members.items ▸ leaf closing ▸ repeated_tree dimension_tree dimensions.items
unfolding data_type_tree roll-Structure roll
structure_made keyword packed sign opening members closing dimensions = rw (members_first members, members_others members) refl

-- ---- type ref

pub written_type_ref : (data_type : DataType) → type_ref_tree (is_type_ref.Written data_type) ≡ left (data_type_tree data_type)
unfolding data_type_tree
written_type_ref data_type = refl

pub named_type_ref : (named : NamedType) → type_ref_tree (is_type_ref.Named named) ≡ right (named_type_tree named)
unfolding data_type_tree
named_type_ref named = refl

-- ---- a declared name behind at most packed dimensions

pub bare_name : (plain : Tree → Tree) (declarator : Declarator) → ranged_tree plain [] declarator ≡ final 3 (leaf declarator.name ▸ plain (repeated_tree dimension_tree declarator.dimensions.items ▸ right none))
unfolding ranged_tree
bare_name plain declarator = refl

pub ranged_name : (plain : Tree → Tree) (first : Dimension) (dimensions : List Dimension) (declarator : Declarator) → BeginsWith first dimensions → ranged_tree plain dimensions declarator ≡ way 2 (dimension_tree first ▸ others_tree dimension_tree dimensions ▸ declarator_tree declarator)
unfolding ranged_tree others_tree BeginsWith
ranged_name plain first dimensions declarator h = rw h.1 refl
