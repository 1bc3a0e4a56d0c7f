-- A written type, and a name with its type, have at most as many nodes as tokens.
use Rattle.std.proofs.Common.{ℕ, ◌+◌, List, [], ◌∷◌, Option, Some, None, arith}
use Rattle.sve_grammar.specs.Reading.{Tree, leaf, none, pair, left, right}
use Rattle.sve_tree.specs.Shape.{optional_tree, repeated_tree}
use Rattle.sve_tree.specs.Expressions.{dimension_tree}
use Rattle.sve_tree.specs.Types.{data_type_tree, declared_tree, declarator_tree, enum_base_tree, enum_name_tree, enumeration_tree, initializer_tree, members_trees, ranged_tree, scoped_type_tree, structure_tree, type_ref_tree, typed_tree}
use Rattle.sve_tree.specs.declared.word.PackageScope.{PackageScope}
use Rattle.sve_tree.specs.declared.expression.Dimension.{Dimension}
use Rattle.sve_tree.specs.declared.data_type.DataType.{DataType}
use Rattle.sve_tree.specs.declared.data_type.DataType.TheVariants as is_data_type
use Rattle.sve_tree.specs.declared.data_type.Declarator.{Declarator}
use Rattle.sve_tree.specs.declared.data_type.DeclaredType.{DeclaredType}
use Rattle.sve_tree.specs.declared.data_type.DeclaredType.TheVariants as is_declared
use Rattle.sve_tree.specs.declared.data_type.EnumBase.{EnumBase}
use Rattle.sve_tree.specs.declared.data_type.EnumBase.TheVariants as is_base
use Rattle.sve_tree.specs.declared.data_type.EnumName.{EnumName}
use Rattle.sve_tree.specs.declared.data_type.Enumeration.{Enumeration}
use Rattle.sve_tree.specs.declared.data_type.Initializer.{Initializer}
use Rattle.sve_tree.specs.declared.data_type.Structure.{Structure, Structure', Row_of-Members, end_of-Members, more_of-Members}
use Rattle.sve_tree.specs.declared.data_type.TypeRef.{TypeRef}
use Rattle.sve_tree.specs.declared.data_type.TypeRef.TheVariants as is_type_ref
use Rattle.sve_env.specs.Told.{Told}
use Rattle.sve_env.specs.Nodes.{dimension_count, nodes}
use Rattle.sve_enum_type.specs.Nodes.{base_nodes, enumeration_nodes, name_count, value_nodes}
use Rattle.sve_type_of.specs.Nodes.{declared_nodes, members_row, structure_nodes, type_nodes, written_nodes}
use Rattle.sve_enough.proofs.Counts.{ReachAll, Reaches, list_reach, repeated_reach, row_reach}
use Rattle.sve_enough.proofs.Expressions.{IsWithoutSteps, dimension_reach, dimensions_reach, nodes_reach}

-- what stands in front of a tree takes no token away
abbrev pub Keeps : (Tree → Tree) → Type 0
Keeps f = (n : ℕ) (t : Tree) → Reaches n t → Reaches n (f t)

module _ (m : Told) (calls : IsWithoutSteps m) where
  pub dims_reach : (xs : List Dimension) → Reaches (dimension_count m xs) (repeated_tree dimension_tree xs)
  dims_reach xs w = repeated_reach dimension_tree (dimension_count m xs) xs (dimensions_reach m calls xs) w

  pub initializer_reach : (i : Initializer) → Reaches (nodes m i.value.value) (initializer_tree i)
  initializer_reach i w = let a = nodes_reach m calls 13 i.value.value w.1 in omega arith

  pub value_reach : (v : Option Initializer) → Reaches (value_nodes m v) (optional_tree initializer_tree v)
  value_reach None w = omega arith
  value_reach (Some i) w = initializer_reach i w

  -- its name is a token and no node
  pub declarator_reach : (d : Declarator) → Reaches (1 + dimension_count m d.dimensions.items) (declarator_tree d)
  declarator_reach d w = let a = dims_reach d.dimensions.items w.1 in omega arith

  -- ---- enumerations

  base_reach : (b : Option EnumBase) → Reaches (base_nodes m b) (optional_tree enum_base_tree b)
  base_reach None w = omega arith
  base_reach (Some (is_base.Atom a)) w = omega arith
  base_reach (Some (is_base.Vector v)) w = let a = dims_reach v.dimensions.items w.1.1 in omega arith
  base_reach (Some (is_base.Named n)) w = let a = dims_reach n.dimensions.items w.1 in omega arith

  enum_name_reach : (x : EnumName) → Reaches (value_nodes m x.value) (enum_name_tree x)
  enum_name_reach x w = let a = value_reach x.value w.1 in omega arith

  names_reach : (xs : List EnumName) → ReachAll enum_name_tree (name_count m xs) xs
  unfolding name_count
  names_reach [] = omega arith
  names_reach (x ∷ xs) = (value_nodes m x.value, name_count m xs, (omega arith), enum_name_reach x, names_reach xs)

  enumeration_reach : (e : Enumeration) → Reaches (enumeration_nodes m e) (enumeration_tree e)
  enumeration_reach e w =
      let a = base_reach e.base w.1.0 in
      let b = row_reach enum_name_tree (name_count m e.names.items.items) e.names.items.items e.names.separators.items (names_reach e.names.items.items) w.1.1.1.0 w.1.1.1.1.0 in let c = dims_reach e.dimensions.items w.1.1.1.1.1.1 in omega arith

  -- ---- types

  mutual
    unfolding data_type_tree written_nodes

    pub written_reach : (x : DataType) → Reaches (written_nodes m x) (data_type_tree x)
    written_reach (is_data_type.Atom a) w = omega arith
    written_reach (is_data_type.Vector v) w = let a = dims_reach v.dimensions.items w.1.1 in omega arith
    written_reach (is_data_type.Text keyword) w = omega arith
    written_reach (is_data_type.Enum e) w = enumeration_reach e.value w
    written_reach (is_data_type.Struct' _ s) w = structure_reach s w

    structure_reach : (x : Structure) → Reaches (structure_nodes m x) (structure_tree x)
    structure_reach (Structure' keyword packed sign opening _ members closing dimensions) w =
        let a = list_reach (λ (t : Tree). t) (members_row m members) (members_trees members) (members_reach members) w.1.1.1.1.0 w.1.1.1.1.1.0 in let b = dims_reach dimensions.items w.1.1.1.1.1.1.1 in omega arith

    members_reach : {n : _} (row : Row_of-Members n) → ReachAll (λ (t : Tree). t) (members_row m row) (members_trees row)
    members_reach end_of-Members = omega arith
    members_reach (more_of-Members data_type names semicolon rest) = (type_nodes m data_type, members_row m rest, (omega arith), (λ w. let a = type_reach data_type w.0 in omega arith), members_reach rest)

    pub type_reach : (x : TypeRef) → Reaches (type_nodes m x) (type_ref_tree x)
    type_reach (is_type_ref.Written d) w = written_reach d w
    type_reach (is_type_ref.Named n) w = let a = dims_reach n.dimensions.items w.1 in omega arith

  -- ---- a name with its type

  scoped_reach : (scoped plain : Tree → Tree) → Keeps scoped → Keeps plain → (scope : Option PackageScope) (name : ℕ) (xs : List Dimension) (d : Declarator) → Reaches (1 + (dimension_count m xs + dimension_count m d.dimensions.items)) (scoped_type_tree scoped plain scope name xs d)
  scoped_reach scoped plain keeps_scoped keeps_plain None name xs d w =
      let a = keeps_plain (dimension_count m xs + (1 + dimension_count m d.dimensions.items)) (pair (repeated_tree dimension_tree xs) (left (declarator_tree d))) (λ v. let b = dims_reach xs v.0 in let c = declarator_reach d v.1 in omega arith) w.1 in omega arith
  scoped_reach scoped plain keeps_scoped keeps_plain (Some scope) name xs d w =
      let a = keeps_scoped (dimension_count m xs + (1 + dimension_count m d.dimensions.items)) (pair (leaf scope.colons) (pair (leaf name) (pair (repeated_tree dimension_tree xs) (declarator_tree d))))
      (λ v. let b = dims_reach xs v.1.1.0 in let c = declarator_reach d v.1.1.1 in omega arith) w.1 in omega arith

  ranged_reach : (plain : Tree → Tree) → Keeps plain → (xs : List Dimension) (d : Declarator) → Reaches (1 + (dimension_count m xs + dimension_count m d.dimensions.items)) (ranged_tree plain xs d)
  unfolding ranged_tree dimension_count
  ranged_reach plain keeps_plain [] d w =
      let a = keeps_plain (dimension_count m d.dimensions.items) (pair (repeated_tree dimension_tree d.dimensions.items) (right none)) (λ v. let b = dims_reach d.dimensions.items v.0 in omega arith) w.1 in omega arith
  ranged_reach plain keeps_plain (first ∷ others) d w = let a = dimension_reach m calls first w.0 in let b = dims_reach others w.1.0 in let c = declarator_reach d w.1.1 in omega arith

  pub declared_reach : (scoped plain : Tree → Tree) → Keeps scoped → Keeps plain → (t : DeclaredType) (d : Declarator) → Reaches (1 + (declared_nodes m t + dimension_count m d.dimensions.items)) (declared_tree scoped plain t d)
  unfolding written_nodes
  declared_reach scoped plain keeps_scoped keeps_plain (is_declared.Explicit (is_type_ref.Written t)) d w = let a = written_reach t w.0 in let b = declarator_reach d w.1 in omega arith
  declared_reach scoped plain keeps_scoped keeps_plain (is_declared.Explicit (is_type_ref.Named n)) d w = scoped_reach scoped plain keeps_scoped keeps_plain n.name.scope n.name.name n.dimensions.items d w
  declared_reach scoped plain keeps_scoped keeps_plain (is_declared.Implicit (Some sign) dimensions) d w = let a = dims_reach dimensions.items w.1.0 in let b = declarator_reach d w.1.1 in omega arith
  declared_reach scoped plain keeps_scoped keeps_plain (is_declared.Implicit None dimensions) d w = ranged_reach plain keeps_plain dimensions.items d w

  pub typed_reach : (t : DeclaredType) (d : Declarator) → Reaches (1 + (declared_nodes m t + dimension_count m d.dimensions.items)) (typed_tree t d)
  typed_reach t d w = declared_reach left right (λ n u r. r) (λ n u r. r) t d w
