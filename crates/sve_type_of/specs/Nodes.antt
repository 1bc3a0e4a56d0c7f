-- The nodes of a written type (own): those of its dimensions and of the values of its names.
use Rattle.std.specs.Global.{Vec}
use Rattle.std.specs.Prelude.{ℕ, ◌+◌, List, [], ◌∷◌}
use Rattle.sve_tree.specs.declared.data_type.DataType.{DataType}
use Rattle.sve_tree.specs.declared.data_type.DataType.TheVariants as is_data_type
use Rattle.sve_tree.specs.declared.data_type.TypeRef.{TypeRef}
use Rattle.sve_tree.specs.declared.data_type.TypeRef.TheVariants as is_type_ref
use Rattle.sve_tree.specs.declared.data_type.Structure.{Structure, Structure', Row_of-Members, end_of-Members, more_of-Members}
use Rattle.sve_tree.specs.declared.data_type.Members.{Members}
use Rattle.sve_tree.specs.declared.data_type.DataType.TheBlock.{hidden-the_row-Members-0}
use Rattle.sve_tree.specs.declared.data_type.DeclaredType.{DeclaredType}
use Rattle.sve_tree.specs.declared.data_type.DeclaredType.TheVariants as is_declared
use Rattle.sve_env.specs.Told.{Told}
use Rattle.sve_env.specs.Nodes.{dimension_count}
use Rattle.sve_enum_type.specs.Nodes.{enumeration_nodes}

unfoldable mutual
  pub written_nodes : Told → DataType → ℕ
  written_nodes m (is_data_type.Atom a) = 0
  written_nodes m (is_data_type.Vector v) = dimension_count m v.dimensions.items
  written_nodes m (is_data_type.Text keyword) = 0
  written_nodes m (is_data_type.Enum e) = enumeration_nodes m e.value
  written_nodes m (is_data_type.Struct' _ s) = structure_nodes m s

  pub structure_nodes : Told → Structure → ℕ
  structure_nodes m (Structure' keyword packed sign opening _ members closing dimensions) = members_row m members + dimension_count m dimensions.items

  pub members_row : {n : _} → Told → Row_of-Members n → ℕ
  members_row m end_of-Members = 0
  members_row m (more_of-Members data_type names semicolon rest) = type_nodes m data_type + members_row m rest

  pub type_nodes : Told → TypeRef → ℕ
  type_nodes m (is_type_ref.Written d) = written_nodes m d
  type_nodes m (is_type_ref.Named n) = dimension_count m n.dimensions.items

abbrev pub nodes_of_members : Told → Vec Members → ℕ
nodes_of_members m members = members_row m (hidden-the_row-Members-0 members)

unfoldable pub members_count : Told → List Members → ℕ
members_count m [] = 0
members_count m (x ∷ xs) = type_nodes m x.data_type + members_count m xs

abbrev pub declared_nodes : Told → DeclaredType → ℕ
declared_nodes m (is_declared.Explicit t) = type_nodes m t
declared_nodes m (is_declared.Implicit sign dimensions) = dimension_count m dimensions.items
