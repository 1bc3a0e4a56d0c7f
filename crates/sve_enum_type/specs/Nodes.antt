-- The nodes of an enumeration (own): those of its base, of the values of its names, and of its dimensions.
use Rattle.std.specs.Prelude.{ℕ, ◌+◌, List, [], ◌∷◌, Option, Some, None}
use Rattle.sve_tree.specs.declared.data_type.Enumeration.{Enumeration}
use Rattle.sve_tree.specs.declared.data_type.EnumBase.{EnumBase}
use Rattle.sve_tree.specs.declared.data_type.EnumBase.TheVariants as is_base
use Rattle.sve_tree.specs.declared.data_type.EnumName.{EnumName}
use Rattle.sve_tree.specs.declared.data_type.Initializer.{Initializer}
use Rattle.sve_env.specs.Told.{Told}
use Rattle.sve_env.specs.Nodes.{nodes, dimension_count}

abbrev pub base_nodes : Told → Option EnumBase → ℕ
base_nodes m None = 0
base_nodes m (Some (is_base.Atom a)) = 0
base_nodes m (Some (is_base.Vector v)) = dimension_count m v.dimensions.items
base_nodes m (Some (is_base.Named n)) = dimension_count m n.dimensions.items

abbrev pub value_nodes : Told → Option Initializer → ℕ
value_nodes m None = 0
value_nodes m (Some i) = nodes m i.value.value

unfoldable pub name_count : Told → List EnumName → ℕ
name_count m [] = 0
name_count m (n ∷ ns) = value_nodes m n.value + name_count m ns

abbrev pub enumeration_nodes : Told → Enumeration → ℕ
enumeration_nodes m e = base_nodes m e.base + name_count m e.names.items.items + dimension_count m e.dimensions.items
