-- How many nodes of expressions declarations have (own): those of their types (IEEE 1800-2017, A.2.2.1), of the dimensions behind their names
-- (7.4.2), and of the values of parameters (6.20). A first value is no constant (6.8), and counts nothing.
use Rattle.std.specs.Prelude.{ℕ, ◌+◌, List, Option, Some, None, sum_by}
use Rattle.sve_tree.specs.declared.data_type.DataType.{DataType}
use Rattle.sve_tree.specs.declared.data_type.Declarator.{Declarator}
use Rattle.sve_tree.specs.declared.declaration.DataDeclaration.{DataDeclaration}
use Rattle.sve_tree.specs.declared.declaration.InitializedDeclarator.{InitializedDeclarator}
use Rattle.sve_tree.specs.declared.declaration.NetDeclaration.{NetDeclaration}
use Rattle.sve_tree.specs.declared.declaration.ParameterAssignment.{ParameterAssignment}
use Rattle.sve_tree.specs.declared.declaration.Parameters.{Parameters}
use Rattle.sve_tree.specs.declared.declaration.Typedef.{Typedef}
use Rattle.sve_tree.specs.declared.declaration.VariableDeclaration.{VariableDeclaration}
use Rattle.sve_tree.specs.declared.expression.Select.{Select}
use Rattle.sve_tree.specs.declared.statement.ForVariable.{ForVariable}
use Rattle.sve_tree.specs.declared.statement.NamedDeclaration.{NamedDeclaration}
use Rattle.sve_env.specs.Told.{Told}
use Rattle.sve_env.specs.Nodes.{dimension_count, nodes}
use Rattle.sve_type_of.specs.Nodes.{declared_nodes, type_nodes, written_nodes}
use Rattle.sve_type_of.specs.Selected.{bound_count}

-- the dimensions behind a name
abbrev pub declarator_nodes : Told → Declarator → ℕ
declarator_nodes m d = dimension_count m d.dimensions.items

abbrev pub initialized_nodes : Told → InitializedDeclarator → ℕ
initialized_nodes m d = declarator_nodes m d.declarator

-- data by their type, with `var`, by a type's name, and nets (6.7 and 6.8)
abbrev pub data_nodes : Told → DataDeclaration → ℕ
data_nodes m w = type_nodes m w.data_type + sum_by (initialized_nodes m) w.declarators.items.items

abbrev pub variables_nodes : Told → VariableDeclaration → ℕ
variables_nodes m w = declared_nodes m w.data_type + sum_by (initialized_nodes m) w.declarators.items.items

abbrev pub named_nodes : Told → NamedDeclaration → ℕ
named_nodes m w = bound_count m w.selects.items + sum_by (initialized_nodes m) w.declarators.items.items

abbrev pub nets_nodes : Told → NetDeclaration → ℕ
nets_nodes m w = declared_nodes m w.data_type + sum_by (initialized_nodes m) w.declarators.items.items

-- a type's name (6.18)
abbrev pub typedef_nodes : Told → Typedef → ℕ
typedef_nodes m w = type_nodes m w.data_type + declarator_nodes m w.declarator

-- parameters with their values (6.20)
abbrev pub assignment_nodes : Told → ParameterAssignment → ℕ
assignment_nodes m a = declarator_nodes m a.declarator + nodes m a.value.value.value

abbrev pub parameters_nodes : Told → Parameters → ℕ
parameters_nodes m w = declared_nodes m w.data_type + sum_by (assignment_nodes m) w.assignments.items.items

-- the variables of a `for`: one without a type has that of the one before, which is counted there (12.7.1)
abbrev pub loop_type_nodes : Told → Option DataType → ℕ
loop_type_nodes m None = 0
loop_type_nodes m (Some d) = written_nodes m d

abbrev pub variable_nodes : Told → ForVariable → ℕ
variable_nodes m v = loop_type_nodes m v.data_type + declarator_nodes m v.declarator

abbrev pub loop_nodes : Told → List ForVariable → ℕ
loop_nodes m variables = sum_by (variable_nodes m) variables

-- one of a type by its name, with selects as its packed dimensions
abbrev pub named_loop_nodes : Told → List Select → Declarator → ℕ
named_loop_nodes m selects d = bound_count m selects + declarator_nodes m d
