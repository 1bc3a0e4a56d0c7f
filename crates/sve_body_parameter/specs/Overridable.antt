-- Parameters in the scope of a module or an interface whose header has no list of them (IEEE 1800-2017, 6.20.1 and 23.10): as in any scope, but that an instance may override them.
use Rattle.std.specs.Prelude.{ℕ, ◌+◌, Bool, false, List, [], ◌∷◌, ◌++◌, Option, Some, None}
use Rattle.sve_types.specs.DataType.{DataType}
use Rattle.sve_types.specs.declared.value.Value.{Value}
use Rattle.sve_env.specs.Told.{Told}
use Rattle.sve_tree.specs.declared.token_word.Word.{Word}
use Rattle.sve_tree.specs.declared.declaration.ParameterAssignment.{ParameterAssignment}
use Rattle.sve_tree.specs.declared.declaration.Parameters.{Parameters}
use Rattle.sve_spec.specs.declared.given.Given.{Given}
use Rattle.sve_scope.specs.declared.what.Constant.{Constant}
use Rattle.sve_scope.specs.declared.what.What.TheVariants as is_what
use Rattle.sve_facts.specs.declared.facts.ParameterValue.{ParameterValue}
use Rattle.sve_known.specs.Naming.{name_at}
use Rattle.sve_contents.specs.declared.contents.Contents.{Contents}
use Rattle.sve_assigned.specs.declared.form.Form.{Form}
use Rattle.sve_scoped.specs.Said.{declared_at}
use Rattle.sve_resolve.specs.Resolving.{next_place}
use Rattle.sve_declare.specs.declared.parameters.Begun.{Begun}
use Rattle.sve_declare.specs.declared.parameters.Found.{Found}
use Rattle.sve_declare.specs.declared.parameters.Settled.{Settled}
use Rattle.sve_declare.specs.Parameters.{all_said, in_front, separator}
use Rattle.sve_body_parameter.specs.declared.overridable.Overridable.{Overridable}
use Rattle.sve_body_parameter.specs.declared.overridable.SoFar.{SoFar}
use Rattle.sve_body_parameter.specs.Values.{found_by, given_at}

-- ---- its value, where it has a name, a type and a value

abbrev pub value_with : List ℕ → Option DataType → Option Value → List ParameterValue
value_with n None value = []
value_with n (Some ty) None = []
value_with n (Some ty) (Some value) = record { name = n; ty = ty; value = value } ∷ []

abbrev pub value_at : Option (List ℕ) → Constant → List ParameterValue
value_at None c = []
value_at (Some n) c = value_with n c.ty c.value

-- ---- how it comes into the scope

-- it stands there as one that an instance may override, and the next one takes the next place
abbrev pub come_in : List Word → List ParameterValue → ℕ → Settled → ℕ → ℕ → SoFar
come_in ws values place s token from = record {
  passed = record { contents = declared_at ws s.passed.contents token (is_what.Parameter s.constant) from; at = s.passed.at };
  values = values ++ value_at (name_at ws token) s.constant;
  place = next_place false place;
}

abbrev pub found_behind : List Word → Form → SoFar → Found → ℕ → ℕ → SoFar
found_behind ws form s found token from = come_in ws s.values s.place (all_said ws form s.passed found token from) token from

-- by what is given at its place, where this is known in the scope, as far as its text was read
unfoldable pub parameter_after : (Contents → Told) → List Word → List Given → Form → Bool → Parameters → ℕ → SoFar → ParameterAssignment → SoFar
parameter_after known ws given form is_array written index s a =
    found_behind ws form s (found_by (known s.passed.contents) form is_array (given_at given s.place) a) a.declarator.name (separator written index)

-- one after another, so that each sees those before it
unfoldable pub parameters_behind : (Contents → Told) → List Word → List Given → Form → Bool → Parameters → ℕ → SoFar → List ParameterAssignment → SoFar
parameters_behind known ws given form is_array written index s [] = s
parameters_behind known ws given form is_array written index s (a ∷ more) =
    parameters_behind known ws given form is_array written (index + 1) (parameter_after known ws given form is_array written index s a) more

abbrev pub left_by : SoFar → Overridable
left_by s = record { contents = s.passed.contents; values = s.values; place = s.place }

module _ (known : Contents → Told) (ws : List Word) (given : List Given) where
  -- the type is found once, in front of all of them
  abbrev pub all_behind : ℕ → Parameters → Begun → Overridable
  all_behind place written b = left_by (parameters_behind known ws given b.form b.is_array written 0 (record { passed = b.passed; values = []; place = place }) written.assignments.items.items)

  abbrev pub with_overridable : ℕ → Contents → Parameters → Overridable
  with_overridable place c written = all_behind place written (in_front known ws c written)
