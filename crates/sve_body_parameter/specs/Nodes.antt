-- The nodes that parameters of a body evaluate, which an instance may override (own): those of their type and of their dimensions, and those of each default that nothing overrides.
use Rattle.std.specs.Prelude.{ℕ, ◌+◌, false, List, [], ◌∷◌, Some}
use Rattle.sve_tree.specs.declared.declaration.ParameterAssignment.{ParameterAssignment}
use Rattle.sve_tree.specs.declared.declaration.Parameters.{Parameters}
use Rattle.sve_spec.specs.declared.given.Given.{Given}
use Rattle.sve_env.specs.Told.{Told}
use Rattle.sve_env.specs.Nodes.{dimension_count}
use Rattle.sve_type_of.specs.Nodes.{declared_nodes}
use Rattle.sve_resolve.specs.Resolving.{next_place}
use Rattle.sve_resolve.specs.Values.{given_nodes}
use Rattle.sve_body_parameter.specs.Values.{given_at}

-- one, by what it is given
abbrev pub assignment_nodes : Told → Given → ParameterAssignment → ℕ
assignment_nodes m g a = dimension_count m a.declarator.dimensions.items + given_nodes m g (Some a.value)

-- each by what is given at its place; the first of them stands at this one
unfoldable pub assignments_nodes : Told → List Given → ℕ → List ParameterAssignment → ℕ
assignments_nodes m given place [] = 0
assignments_nodes m given place (a ∷ more) = assignment_nodes m (given_at given place) a + assignments_nodes m given (next_place false place) more

abbrev pub overridable_nodes : Told → List Given → ℕ → Parameters → ℕ
overridable_nodes m given place written = declared_nodes m written.data_type + assignments_nodes m given place written.assignments.items.items
