-- Declarations and headers have at most as many nodes as tokens; of a header a parameter or a port counts one more.
use Rattle.std.proofs.Common.{ℕ, ◌+◌, ◌≤◌, ◌≡◌, Bool, true, false, cond, List, [], ◌∷◌, length, Option, Some, None, refl, arith}
use Rattle.std.specs.Prelude.{◌&&◌, not, sum_by}
use Rattle.std.proofs.lemmas.List.Sums.{sum_by-cons}
use Rattle.sve_grammar.specs.Reading.{Tree, leaf}
use Rattle.sve_tree.specs.Shape.{first_tree, further_tree, optional_tree, repeated_tree, required_tree, way, final}
use Rattle.sve_tree.specs.Expressions.{arg_tree, dimension_tree, own, select_tree}
use Rattle.sve_tree.specs.Types.{data_type_tree, declarator_tree, initializer_tree, typed_tree}
use Rattle.sve_tree.specs.Declarations.{header_tree, initialized_declarator_tree, net_declaration_tree, parameter_assignment_tree, parameter_port_tree, parameter_ports_tree, parameters_tree, port_tree, port_type_tree, ports_tree, typedef_tree, variable_declaration_tree}
use Rattle.sve_tree.specs.Statements.{block_data_tree, for_variable_tree, local_tree, named_declaration_tree}
use Rattle.sve_tree.specs.Items.{data_item_tree, instances_tree, named_data_tree, scoped_data_tree}
use Rattle.sve_tree.specs.declared.row.Row.{Row}
use Rattle.sve_tree.specs.declared.word.PackageScope.{PackageScope}
use Rattle.sve_tree.specs.declared.word.ScopedName.{ScopedName}
use Rattle.sve_tree.specs.declared.expression.Dimension.{Dimension}
use Rattle.sve_tree.specs.declared.expression.Select.{Select}
use Rattle.sve_tree.specs.declared.expression.Select.TheVariants as is_select
use Rattle.sve_tree.specs.declared.data_type.DataType.{DataType}
use Rattle.sve_tree.specs.declared.data_type.Declarator.{Declarator}
use Rattle.sve_tree.specs.declared.data_type.DeclaredType.{DeclaredType}
use Rattle.sve_tree.specs.declared.data_type.Initializer.{Initializer}
use Rattle.sve_tree.specs.declared.data_type.TypeRef.{TypeRef}
use Rattle.sve_tree.specs.declared.data_type.TypeRef.TheVariants as is_type_ref
use Rattle.sve_tree.specs.declared.declaration.InitializedDeclarator.{InitializedDeclarator}
use Rattle.sve_tree.specs.declared.declaration.NetDeclaration.{NetDeclaration}
use Rattle.sve_tree.specs.declared.declaration.ParameterAssignment.{ParameterAssignment}
use Rattle.sve_tree.specs.declared.declaration.Parameters.{Parameters}
use Rattle.sve_tree.specs.declared.declaration.Typedef.{Typedef}
use Rattle.sve_tree.specs.declared.declaration.VariableDeclaration.{VariableDeclaration}
use Rattle.sve_tree.specs.declared.statement.ForVariable.{ForVariable}
use Rattle.sve_tree.specs.declared.statement.NamedDeclaration.{NamedDeclaration}
use Rattle.sve_tree.specs.declared.header.Header.{Header}
use Rattle.sve_tree.specs.declared.header.ParameterPort.{ParameterPort}
use Rattle.sve_tree.specs.declared.header.ParameterPorts.{ParameterPorts}
use Rattle.sve_tree.specs.declared.header.Port.{Port}
use Rattle.sve_tree.specs.declared.header.Ports.{Ports}
use Rattle.sve_tree.specs.declared.header.PortType.{PortType}
use Rattle.sve_tree.specs.declared.header.PortType.TheVariants as is_port_type
use Rattle.sve_tree.specs.declared.item.Instance.{Instance}
use Rattle.sve_tree.specs.declared.item.Overrides.{Overrides}
use Rattle.sve_spec.specs.declared.given.Given.{Given}
use Rattle.sve_spec.specs.declared.given.Given.TheVariants as is_given
use Rattle.sve_env.specs.Told.{Told}
use Rattle.sve_env.specs.Nodes.{argument_count, dimension_count, nodes}
use Rattle.sve_type_of.specs.Nodes.{declared_nodes, type_nodes, written_nodes}
use Rattle.sve_type_of.specs.Selected.{bound_count, bound_nodes}
use Rattle.sve_formal.specs.Formals.{is_local_keyword, keyword_after}
use Rattle.sve_formal.specs.Written.{is_written}
use Rattle.sve_count.specs.Declarations.{assignment_nodes, declarator_nodes, initialized_nodes, loop_nodes, loop_type_nodes, named_nodes, nets_nodes, parameters_nodes, typedef_nodes, variable_nodes, variables_nodes}
use Rattle.sve_item_names.specs.Declarations.{parameters_of, ports_of}
use Rattle.sve_resolve.specs.Within.{told_within}
use Rattle.sve_resolve.specs.Values.{found_nodes, given_nodes, repeats}
use Rattle.sve_resolve.specs.Resolving.{given_for, next_place, nodes_of_parameters, parameter_nodes, parameters_in, with_parameter}
use Rattle.sve_port.specs.declared.interfaces.DesignKind.{DesignKind}
use Rattle.sve_port.specs.declared.interfaces.DesignKind.TheVariants.{Interface, Module}
use Rattle.sve_port.specs.Headings.{Saying, face, data_of, face_heading, heading_by, is_interface, is_unsaid, kind_at, lone_name, named_heading, nothing, typed_heading}
use Rattle.sve_port.specs.Ports.{heading_nodes, nodes_of_ports, port_nodes, ports_in}
use Rattle.sve_body_parameter.specs.Nodes.{assignments_nodes, overridable_nodes}
use Rattle.sve_body_parameter.specs.Values.{given_at}
use Rattle.sve_override.specs.Arguments.{is_nothing}
use Rattle.sve_override.specs.Overrides.{list_nodes}
use Rattle.sve_outline.specs.Outline.{IsWhole}
use Rattle.sve_enough.proofs.Counts.{ReachAll, Reaches, all_reach, count, optional_reach, repeated_reach, rest_reach, row_reach}
use Rattle.sve_enough.proofs.Expressions.{IsWithoutSteps, arguments_reach, dimension_reach, range_reach}
use Rattle.sve_enough.proofs.Types.{declarator_reach, declared_reach, dims_reach, initializer_reach, type_reach, typed_reach, written_reach}

less_if : (b : Bool) (n : ℕ) → cond b 0 n ≤ n
less_if true n = omega arith
less_if false n = omega arith

module _ (m : Told) (calls : IsWithoutSteps m) where
  -- ---- declared names

  initialized_reach : (x : InitializedDeclarator) → Reaches (initialized_nodes m x) (initialized_declarator_tree x)
  initialized_reach x w = let a = declarator_reach m calls x.declarator w.0 in omega arith

  -- of several names the first stands in one tree with their type
  declarators_reach : (c : ℕ) (f : Declarator → Tree) → ((d : Declarator) → Reaches (c + declarator_nodes m d) (f d)) → (xs : List InitializedDeclarator) (ss : List ℕ) → IsWhole (first_tree (λ (x : InitializedDeclarator). f x.declarator) xs) → IsWhole (further_tree initialized_declarator_tree leaf xs ss) → c + sum_by (initialized_nodes m) xs ≤ count (first_tree (λ (x : InitializedDeclarator). f x.declarator) xs) + count (further_tree initialized_declarator_tree leaf xs ss)
  unfolding first_tree further_tree
  declarators_reach c f one [] ss v w = absurd v.2
  declarators_reach c f one (x ∷ xs) ss v w =
      let a = one x.declarator v in let b = rest_reach initialized_declarator_tree (sum_by (initialized_nodes m) xs) xs ss (all_reach initialized_declarator_tree (initialized_nodes m) initialized_reach xs) w in
      let e = sum_by-cons (initialized_nodes m) x xs in omega arith

  typed_first : (t : DeclaredType) (d : Declarator) → Reaches (declared_nodes m t + declarator_nodes m d) (typed_tree t d)
  typed_first t d w = let a = typed_reach m calls t d w in omega arith

  plain_first : (d : Declarator) → Reaches (0 + declarator_nodes m d) (declarator_tree d)
  plain_first d w = let a = declarator_reach m calls d w in omega arith

  ranges_first : (d : Declarator) → Reaches (0 + declarator_nodes m d) (repeated_tree dimension_tree d.dimensions.items)
  ranges_first d w = let a = dims_reach m calls d.dimensions.items w in omega arith

  -- ---- nets, variables and types

  pub nets_reach : (x : NetDeclaration) → Reaches (nets_nodes m x) (net_declaration_tree x)
  nets_reach x w = let a = declarators_reach (declared_nodes m x.data_type) (typed_tree x.data_type) (typed_first x.data_type) x.declarators.items.items x.declarators.separators.items w.1.0 w.1.1.0.1 in omega arith

  pub variables_reach : (x : VariableDeclaration) → Reaches (variables_nodes m x) (variable_declaration_tree x)
  variables_reach x w = let a = declarators_reach (declared_nodes m x.data_type) (typed_tree x.data_type) (typed_first x.data_type) x.declarators.items.items x.declarators.separators.items w.1.0 w.1.1.0.1 in omega arith

  pub typedef_reach : (x : Typedef) → Reaches (typedef_nodes m x) (typedef_tree x)
  typedef_reach x w = let a = type_reach m calls x.data_type w.1.0 in let b = declarator_reach m calls x.declarator w.1.1.0 in omega arith

  -- ---- data by their type

  named_data_reach : (dims : List Dimension) (row : Row InitializedDeclarator ℕ) (semicolon : ℕ) → Reaches (dimension_count m dims + sum_by (initialized_nodes m) row.items.items) (named_data_tree dims row semicolon)
  unfolding named_data_tree dimension_count
  named_data_reach [] row semicolon w =
      let a = declarators_reach 0 (λ (d : Declarator). repeated_tree dimension_tree d.dimensions.items) ranges_first row.items.items row.separators.items w.1.0 w.1.1.0.1 in omega arith
  named_data_reach (first ∷ others) row semicolon w =
      let a = dimension_reach m calls first w.0 in let b = dims_reach m calls others w.1.0 in let c = declarators_reach 0 declarator_tree plain_first row.items.items row.separators.items w.1.1.0 w.1.1.1.0.1 in omega arith

  scoped_data_reach : (scope : Option PackageScope) (name : ℕ) (dims : List Dimension) (row : Row InitializedDeclarator ℕ) (semicolon : ℕ) → Reaches (dimension_count m dims + sum_by (initialized_nodes m) row.items.items) (scoped_data_tree scope name dims row semicolon)
  scoped_data_reach None name dims row semicolon w = let a = named_data_reach dims row semicolon w.1 in omega arith
  scoped_data_reach (Some scope) name dims row semicolon w =
      let a = dims_reach m calls dims w.1.1.1.0 in let b = declarators_reach 0 declarator_tree plain_first row.items.items row.separators.items w.1.1.1.1.0 w.1.1.1.1.1.0.1 in omega arith

  pub data_item_reach : (t : TypeRef) (row : Row InitializedDeclarator ℕ) (semicolon : ℕ) → Reaches (type_nodes m t + sum_by (initialized_nodes m) row.items.items) (data_item_tree t row semicolon)
  unfolding written_nodes
  data_item_reach (is_type_ref.Written t) row semicolon w =
      let a = written_reach m calls t w.0 in let b = declarators_reach 0 declarator_tree plain_first row.items.items row.separators.items w.1.0 w.1.1.0.1 in omega arith
  data_item_reach (is_type_ref.Named n) row semicolon w = scoped_data_reach n.name.scope n.name.name n.dimensions.items row semicolon w

  pub block_data_reach : (t : TypeRef) (row : Row InitializedDeclarator ℕ) (semicolon : ℕ) → Reaches (type_nodes m t + sum_by (initialized_nodes m) row.items.items) (block_data_tree t row semicolon)
  unfolding written_nodes
  block_data_reach (is_type_ref.Written t) row semicolon w =
      let a = written_reach m calls t w.0 in let b = declarators_reach 0 declarator_tree plain_first row.items.items row.separators.items w.1.0 w.1.1.0.1 in omega arith
  block_data_reach (is_type_ref.Named n) row semicolon w = absurd w.2

  pub local_reach : (t : TypeRef) (row : Row InitializedDeclarator ℕ) → Reaches (type_nodes m t + sum_by (initialized_nodes m) row.items.items) (local_tree t row)
  unfolding written_nodes
  local_reach (is_type_ref.Written t) row w =
      let a = written_reach m calls t w.0 in let b = declarators_reach 0 declarator_tree plain_first row.items.items row.separators.items w.1.0 w.1.1.1 in omega arith
  local_reach (is_type_ref.Named n) row w =
      let a = dims_reach m calls n.dimensions.items w.0.1 in let b = declarators_reach 0 declarator_tree plain_first row.items.items row.separators.items w.1.0 w.1.1.1 in omega arith

  -- by the name of their type, with selects as its packed dimensions
  bound_reach : (x : Select) → Reaches (bound_nodes m x) (select_tree x)
  unfolding bound_nodes own
  bound_reach (is_select.Member dot name) w = omega arith
  bound_reach (is_select.Range' opening range closing) w = let a = range_reach m calls range w.1.0 in omega arith

  bounds_reach : (xs : List Select) → ReachAll select_tree (bound_count m xs) xs
  unfolding bound_count
  bounds_reach [] = omega arith
  bounds_reach (x ∷ xs) = (bound_nodes m x, bound_count m xs, (omega arith), bound_reach x, bounds_reach xs)

  pub selects_reach : (xs : List Select) → Reaches (bound_count m xs) (repeated_tree select_tree xs)
  selects_reach xs w = repeated_reach select_tree (bound_count m xs) xs (bounds_reach xs) w

  pub named_reach : (x : NamedDeclaration) → Reaches (named_nodes m x) (named_declaration_tree x)
  named_reach x w =
      let a = selects_reach x.selects.items w.1.0 in let b = declarators_reach 0 declarator_tree plain_first x.declarators.items.items x.declarators.separators.items w.1.1.0.0 w.1.1.0.1.1 in omega arith

  -- ---- parameters

  assignment_reach : (a : ParameterAssignment) → Reaches (assignment_nodes m a) (parameter_assignment_tree a)
  assignment_reach a w = let b = declarator_reach m calls a.declarator w.0 in let c = initializer_reach m calls a.value w.1 in omega arith

  assignments_reach : (t : DeclaredType) (xs : List ParameterAssignment) (ss : List ℕ) → IsWhole (first_tree (λ (p : ParameterAssignment). typed_tree t p.declarator) xs) → IsWhole (first_tree (λ (p : ParameterAssignment). initializer_tree p.value) xs) → IsWhole (further_tree parameter_assignment_tree leaf xs ss) → declared_nodes m t + sum_by (assignment_nodes m) xs ≤ count (first_tree (λ (p : ParameterAssignment). typed_tree t p.declarator) xs) + count (first_tree (λ (p : ParameterAssignment). initializer_tree p.value) xs) + count (further_tree parameter_assignment_tree leaf xs ss)
  unfolding first_tree further_tree
  assignments_reach t [] ss u v w = absurd u.2
  assignments_reach t (x ∷ xs) ss u v w =
      let a = typed_reach m calls t x.declarator u in let b = initializer_reach m calls x.value v in
      let c = rest_reach parameter_assignment_tree (sum_by (assignment_nodes m) xs) xs ss (all_reach parameter_assignment_tree (assignment_nodes m) assignment_reach xs) w in let e = sum_by-cons (assignment_nodes m) x xs in omega arith

  pub parameters_reach : (x : Parameters) → Reaches (parameters_nodes m x) (parameters_tree x)
  parameters_reach x w = let a = assignments_reach x.data_type x.assignments.items.items x.assignments.separators.items w.1.0 w.1.1.0 w.1.1.1.0 in omega arith

  -- where an instance overrides some of them they have no more nodes
  given_less : (g : Given) (i : Initializer) → given_nodes m g (Some i) ≤ nodes m i.value.value
  given_less is_given.Default i = omega arith
  given_less (is_given.Value v) i = omega arith
  given_less is_given.Bad i = omega arith

  assignments_less : (given : List Given) (place : ℕ) (xs : List ParameterAssignment) → assignments_nodes m given place xs ≤ sum_by (assignment_nodes m) xs
  unfolding assignments_nodes
  assignments_less given place [] = omega arith
  assignments_less given place (x ∷ xs) = let a = given_less (given_at given place) x.value in let b = assignments_less given (next_place false place) xs in let e = sum_by-cons (assignment_nodes m) x xs in omega arith

  pub overridable_less : (given : List Given) (place : ℕ) (x : Parameters) → overridable_nodes m given place x ≤ parameters_nodes m x
  overridable_less given place x = let a = assignments_less given place x.assignments.items.items in omega arith

  -- ---- the variables of a `for`

  required_reach : (t : Option DataType) → Reaches (loop_type_nodes m t) (required_tree data_type_tree t)
  required_reach None w = absurd w.2
  required_reach (Some t) w = written_reach m calls t w

  loop_type_reach : (t : Option DataType) → Reaches (loop_type_nodes m t) (optional_tree data_type_tree t)
  loop_type_reach None w = omega arith
  loop_type_reach (Some t) w = written_reach m calls t w

  variable_reach : (x : ForVariable) → Reaches (variable_nodes m x) (for_variable_tree x)
  variable_reach x w = let a = loop_type_reach x.data_type w.0 in let b = declarator_reach m calls x.declarator w.1.0 in omega arith

  pub loop_reach : (xs : List ForVariable) (ss : List ℕ) → IsWhole (first_tree (λ (v : ForVariable). required_tree data_type_tree v.data_type) xs) → IsWhole (first_tree (λ (v : ForVariable). declarator_tree v.declarator) xs) → IsWhole (further_tree for_variable_tree leaf xs ss) → loop_nodes m xs ≤ count (first_tree (λ (v : ForVariable). required_tree data_type_tree v.data_type) xs) + count (first_tree (λ (v : ForVariable). declarator_tree v.declarator) xs) + count (further_tree for_variable_tree leaf xs ss)
  unfolding first_tree further_tree
  loop_reach [] ss u v w = absurd u.2
  loop_reach (x ∷ xs) ss u v w =
      let a = required_reach x.data_type u in let b = declarator_reach m calls x.declarator v in let c = rest_reach for_variable_tree (sum_by (variable_nodes m) xs) xs ss (all_reach for_variable_tree (variable_nodes m) variable_reach xs) w in
      let e = sum_by-cons (variable_nodes m) x xs in omega arith

  -- ---- the parameters of a header, each one more than its nodes

  port_value_reach : (g : Given) (i : Option Initializer) → Reaches (given_nodes m g i) (optional_tree initializer_tree i)
  port_value_reach is_given.Default None w = omega arith
  port_value_reach is_given.Default (Some i) w = initializer_reach m calls i w
  port_value_reach (is_given.Value v) i w = omega arith
  port_value_reach is_given.Bad i w = omega arith

  parameter_port_reach : (g : Given) (port : ParameterPort) → Reaches (1 + found_nodes m g port) (parameter_port_tree port)
  parameter_port_reach g port w =
      let a = typed_reach m calls port.parameter.data_type port.parameter.declarator w.1.0 in let b = port_value_reach g port.value w.1.1 in let c = less_if (repeats port) (declared_nodes m port.parameter.data_type) in omega arith

parameter_list_reach : (m : Told) (calls : IsWithoutSteps m) (given : List Given) (r : _) (xs : List ParameterPort) → ReachAll parameter_port_tree (length xs + nodes_of_parameters m given r xs) xs
unfolding nodes_of_parameters
parameter_list_reach m calls given r [] = omega arith
parameter_list_reach m calls given r (x ∷ xs) =
    (1 + parameter_nodes m given r x, length xs + nodes_of_parameters m given (with_parameter m given r x) xs, (omega arith), parameter_port_reach (told_within m r.known) calls (given_for given (is_local_keyword (keyword_after r.keyword x.keyword)) r.place) x, parameter_list_reach m calls given (with_parameter m given r x) xs)

pub parameter_ports_reach : (m : Told) (calls : IsWithoutSteps m) (given : List Given) (r : _) (o : Option ParameterPorts) → Reaches (length (parameters_of o) + nodes_of_parameters m given r (parameters_in o)) (optional_tree parameter_ports_tree o)
unfolding nodes_of_parameters
parameter_ports_reach m calls given r None w = omega arith
parameter_ports_reach m calls given r (Some l) w =
    let a = optional_reach parameter_port_tree (length l.parameters.items.items + nodes_of_parameters m given r l.parameters.items.items) l.parameters.items.items l.parameters.separators.items (parameter_list_reach m calls given r l.parameters.items.items) w.1.1.0 in omega arith

-- ---- the ports of a header, likewise

module _ (m : Told) (calls : IsWithoutSteps m) (kinds : List ℕ → Option DesignKind) where
  either_less : (b : Bool) (x y : Saying) (n : ℕ) → heading_nodes m x ≤ n → heading_nodes m y ≤ n → heading_nodes m (cond b x y) ≤ n
  either_less true x y n first second = first
  either_less false x y n first second = second

  named_less : (o : Option ScopedName) (t : DeclaredType) → heading_nodes m (named_heading m kinds o t) ≤ declared_nodes m t
  named_less None t = omega arith
  named_less (Some name) t = either_less (is_interface m kinds name) (face name.name None) (data_of t) (declared_nodes m t) (omega arith) (omega arith)

  face_none : (interface modport : ℕ) (kind : Option DesignKind) → heading_nodes m (face_heading interface modport kind) ≡ 0
  face_none interface modport (Some Interface) = refl
  face_none interface modport (Some Module) = refl
  face_none interface modport None = refl

  port_type_reach : (p : PortType) (unsaid : Bool) (d : Declarator) → Reaches (1 + (heading_nodes m (heading_by m kinds p unsaid) + dimension_count m d.dimensions.items)) (port_type_tree p d)
  port_type_reach (is_port_type.Interface interface dot modport) unsaid d w = let a = face_none interface modport (kind_at m kinds interface) in let b = declarator_reach m calls d w.1.1.1 in omega arith
  port_type_reach (is_port_type.Data t) unsaid d w =
      let a = either_less (unsaid && not (is_written t)) nothing (typed_heading m kinds t) (declared_nodes m t) (omega arith) (named_less (lone_name t) t) in let b = declared_reach m calls (way 0) (final 2) (λ n u r. r) (λ n u r. r) t d w in omega arith

  port_reach : (port : Port) → Reaches (1 + port_nodes m kinds port) (port_tree port)
  port_reach port w = let a = port_type_reach port.port_type (is_unsaid port) port.declarator w.1.1 in omega arith

  port_list_reach : (xs : List Port) → ReachAll port_tree (length xs + nodes_of_ports m kinds xs) xs
  unfolding nodes_of_ports
  port_list_reach [] = omega arith
  port_list_reach (x ∷ xs) = (1 + port_nodes m kinds x, length xs + nodes_of_ports m kinds xs, (omega arith), port_reach x, port_list_reach xs)

  pub ports_reach : (o : Option Ports) → Reaches (length (ports_of o) + nodes_of_ports m kinds (ports_in o)) (optional_tree ports_tree o)
  unfolding nodes_of_ports
  ports_reach None w = omega arith
  ports_reach (Some l) w =
      let a = optional_reach port_tree (length l.ports.items.items + nodes_of_ports m kinds l.ports.items.items) l.ports.items.items l.ports.separators.items (port_list_reach l.ports.items.items) w.1.0 in omega arith

-- ---- a header, and overrides

pub header_reach : (m n : Told) → IsWithoutSteps m → IsWithoutSteps n → (given : List Given) (r : _) (kinds : List ℕ → Option DesignKind) (h : Header) → Reaches (length (parameters_of h.parameters) + nodes_of_parameters m given r (parameters_in h.parameters) + length (ports_of h.ports) + nodes_of_ports n kinds (ports_in h.ports)) (header_tree h)
header_reach m n calls others given r kinds h w = let a = parameter_ports_reach m calls given r h.parameters w.1.1.1.0 in let b = ports_reach n others kinds h.ports w.1.1.1.1.0 in omega arith

pub overrides_reach : (m : Told) → IsWithoutSteps m → (o : Overrides) (row : Row Instance ℕ) (semicolon : ℕ) → Reaches (list_nodes m o.arguments) (instances_tree (Some o) row semicolon)
overrides_reach m calls o row semicolon w =
    let a = row_reach arg_tree (argument_count m o.arguments.arguments.items.items) o.arguments.arguments.items.items o.arguments.arguments.separators.items (arguments_reach m calls o.arguments.arguments.items.items) w.1.0.1.0.0 w.1.0.1.0.1 in
    let b = less_if (is_nothing o.arguments.arguments.items.items) (argument_count m o.arguments.arguments.items.items) in omega arith
