-- The names that a written type declares: those of its enumerations, in the order of the text (IEEE 1800-2017, 6.19 and 7.2.1).
use Rattle.std.specs.Global.{Vec}
use Rattle.std.specs.Prelude.{ℕ, List, [], ◌∷◌}
use Rattle.sve_tree.specs.declared.data_type.DataType.{DataType}
use Rattle.sve_tree.specs.declared.data_type.DataType.TheVariants as is_data_type
use Rattle.sve_tree.specs.declared.data_type.TypeRef.{TypeRef}
use Rattle.sve_tree.specs.declared.data_type.TypeRef.TheVariants as is_type_ref
use Rattle.sve_tree.specs.declared.data_type.Structure.{Structure, Structure', Row_of-Members, end_of-Members, more_of-Members}
use Rattle.sve_tree.specs.declared.data_type.Members.{Members}
use Rattle.sve_tree.specs.declared.data_type.DataType.TheBlock.{hidden-the_row-Members-0}
use Rattle.sve_tree.specs.declared.token_word.Word.{Word}
use Rattle.sve_types.specs.DataType as types
use Rattle.sve_enumerated.specs.declared.passed.Passed.{Passed}
use Rattle.sve_enumerated.specs.Passing.{passed_to}
use Rattle.sve_enumerated.specs.Names.{with_enumeration}

abbrev pub first_or : ℕ → List ℕ → ℕ
first_or last [] = last
first_or last (token ∷ tokens) = token

abbrev pub moved_to : Passed → ℕ → Passed
moved_to p token = record { contents = p.contents; at = token }

-- the names of members are no uses
abbrev pub past_members : List Word → Passed → List ℕ → ℕ → Passed
past_members ws p names semicolon = moved_to (passed_to ws p (first_or semicolon names)) semicolon

unfoldable mutual
  pub named_in : List Word → types.DataType → Passed → DataType → Passed
  named_in ws t p (is_data_type.Atom a) = p
  named_in ws t p (is_data_type.Vector v) = p
  named_in ws t p (is_data_type.Text keyword) = p
  named_in ws t p (is_data_type.Enum e) = with_enumeration ws t p e.value
  named_in ws t p (is_data_type.Struct' _ s) = named_in_structure ws t p s

  pub named_in_structure : List Word → types.DataType → Passed → Structure → Passed
  named_in_structure ws t p (Structure' keyword packed sign opening _ members closing dimensions) = named_in_row ws t p members

  -- the members of a structure, one after another
  pub named_in_row : {n : _} → List Word → types.DataType → Passed → Row_of-Members n → Passed
  named_in_row ws t p end_of-Members = p
  named_in_row ws t p (more_of-Members data_type names semicolon rest) = named_in_row ws t (past_members ws (named_in_ref ws t p data_type) names.items.items semicolon) rest

  pub named_in_ref : List Word → types.DataType → Passed → TypeRef → Passed
  named_in_ref ws t p (is_type_ref.Written d) = named_in ws t p d
  named_in_ref ws t p (is_type_ref.Named n) = p

-- the same over a list
unfoldable pub named_after : List Word → types.DataType → Passed → Members → Passed
named_after ws t p x = past_members ws (named_in_ref ws t p x.data_type) x.names.items.items x.semicolon

unfoldable pub named_behind : List Word → types.DataType → Passed → List Members → Passed
named_behind ws t p [] = p
named_behind ws t p (x ∷ xs) = named_behind ws t (named_after ws t p x) xs

-- and over what a tree holds
abbrev pub named_in_vec : List Word → types.DataType → Passed → Vec Members → Passed
named_in_vec ws t p members = named_in_row ws t p (hidden-the_row-Members-0 members)
