-- What the parameters of a header leave in its scope (IEEE 1800-2017, 6.20, 23.2.1 and 23.10).
use Rattle.std.specs.Prelude.{ℕ, ◌+◌, if◌then◌else◌, List, [], ◌∷◌, Option, Some, None, slice_get}
use Rattle.std.specs.List.{flat_map}
use Rattle.sve_types.specs.DataType.{DataType}
use Rattle.sve_types.specs.declared.value.Value.{Value}
use Rattle.sve_tree.specs.declared.token_word.Word.{Word}
use Rattle.sve_tree.specs.declared.header.Header.{Header}
use Rattle.sve_tree.specs.declared.header.ParameterPort.{ParameterPort}
use Rattle.sve_tree.specs.declared.header.ParameterPorts.{ParameterPorts}
use Rattle.sve_spec.specs.declared.given.Given.{Given}
use Rattle.sve_env.specs.Told.{Told}
use Rattle.sve_scope.specs.declared.what.Constant.{Constant}
use Rattle.sve_scope.specs.declared.what.What.{What}
use Rattle.sve_scope.specs.declared.what.What.TheVariants as is_what
use Rattle.sve_facts.specs.declared.facts.ParameterValue.{ParameterValue}
use Rattle.sve_contents.specs.declared.contents.Contents.{Contents}
use Rattle.sve_enumerated.specs.declared.passed.Passed.{Passed}
use Rattle.sve_contents.specs.Reading.{noted_all}
use Rattle.sve_resolve.specs.declared.known.Resolved.{Resolved}
use Rattle.sve_resolve.specs.declared.resolving.Params.{Params}
use Rattle.sve_resolve.specs.Resolving.{resolved, resolved_nodes}
use Rattle.sve_plan.specs.Plan.{Counted}
use Rattle.sve_header.specs.declared.parameters.HeaderParameters.{HeaderParameters}
use Rattle.sve_header.specs.Coming.{come_in, names_of_type, separator}

-- a parameter stands for its final type and value
abbrev pub constant_of : Resolved → Constant
constant_of r = record { ty = r.ty; value = r.value }

abbrev pub what_of : Resolved → What
what_of r = if r.is_local then is_what.LocalParameter (constant_of r) else is_what.Parameter (constant_of r)

-- the names that its type declares come first, where a type is written
abbrev pub names_at : List Word → Resolved → Passed → Option ParameterPort → Passed
names_at ws r p None = p
names_at ws r p (Some port) = names_of_type ws r.ty p port.parameter.data_type

-- the parameter at a place of the list
unfoldable pub parameter_after : List Word → ParameterPorts → ℕ → Passed → Resolved → Passed
parameter_after ws list place p r =
    come_in ws (names_at ws r p (slice_get list.parameters.items.items place)) r.token (what_of r) (separator list.parameters.separators.items list.closing place)

-- one after another
unfoldable pub parameters_behind : List Word → ParameterPorts → ℕ → Passed → List Resolved → Passed
parameters_behind ws list place p [] = p
parameters_behind ws list place p (r ∷ more) = parameters_behind ws list (place + 1) (parameter_after ws list place p r) more

abbrev pub parameters_in : List Word → Contents → Option ParameterPorts → List Resolved → Contents
parameters_in ws c None rs = c
parameters_in ws c (Some list) rs = (parameters_behind ws list 0 (record { contents = c; at = list.opening }) rs).contents

-- a parameter that an instance may override, with its type and its value, where it has them
abbrev pub value_with : List ℕ → Option DataType → Option Value → List ParameterValue
value_with n None value = []
value_with n (Some ty) None = []
value_with n (Some ty) (Some value) = record { name = n; ty = ty; value = value } ∷ []

unfoldable pub final_value : Resolved → List ParameterValue
final_value r = if r.is_local then [] else value_with r.name r.ty r.value

-- what is said of them is said first
abbrev pub parameters_left : List Word → Contents → Header → Params → HeaderParameters
parameters_left ws c h found = record { contents = parameters_in ws (noted_all c found.notes) h.parameters found.parameters; values = flat_map final_value found.parameters }

-- The parameters of a header by what they are given, where this is known in the scope as far as its text was read: they count the nodes
-- that are evaluated, and then stand in the scope.
abbrev pub with_header_parameters : (Contents → Told) → List Word → List Given → Contents → Header → Counted HeaderParameters
with_header_parameters known ws given c h = (resolved_nodes (known c) given h, parameters_left ws c h (resolved (known c) given h))
