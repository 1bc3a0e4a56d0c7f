-- The value of a parameter of a body, by what an instance gives it (IEEE 1800-2017, 6.20.1 and 23.10).
use Rattle.std.specs.Prelude.{ℕ, Bool, List, slice_get, Option, None, Result, Err}
use Rattle.sve_diag.specs.declared.diag.Note.{Note}
use Rattle.sve_tree.specs.declared.declaration.ParameterAssignment.{ParameterAssignment}
use Rattle.sve_spec.specs.declared.given.Given.{Given}
use Rattle.sve_spec.specs.declared.given.Given.TheVariants as is_given
use Rattle.sve_env.specs.Told.{Told}
use Rattle.sve_assigned.specs.declared.by_value.Assigned.{Assigned}
use Rattle.sve_assigned.specs.declared.form.Form.{Form}
use Rattle.sve_assigned.specs.Assignments.{converted_value, default_value, told_of}
use Rattle.sve_resolve.specs.Values.{given_or_default}
use Rattle.sve_declare.specs.declared.parameters.Found.{Found}
use Rattle.sve_declare.specs.Parameters.{found_with}

-- what is given at a place among those that can be overridden: a default where nothing is
abbrev pub given_at : List Given → ℕ → Given
given_at given place = given_or_default (slice_get given place)

-- A default is evaluated only where nothing overrides it. An override is converted, and what is wrong with that stands at the name of the
-- parameter. Of something bad nothing is said.
abbrev pub value_by : Told → Form → Given → ParameterAssignment → Result Assigned (Option Note)
value_by m form is_given.Default a = told_of m (default_value m form a.value.value.value)
value_by m form (is_given.Value v) a = told_of m (converted_value form a.declarator.name v)
value_by m form is_given.Bad a = Err None

-- what is found of it, where it stands
abbrev pub found_by : Told → Form → Bool → Given → ParameterAssignment → Found
found_by m form is_array g a = found_with m is_array a (value_by m form g a)
