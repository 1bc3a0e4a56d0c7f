-- One parameter of a header: the form of its type, and its value by what it is given (IEEE 1800-2017, 6.20 and 23.10).
use Rattle.std.specs.Prelude.{ℕ, ◌+◌, Bool, true, false, not, ◌&&◌, ◌||◌, if◌then◌else◌, List, [], ◌∷◌, ◌++◌, Option, Some, None, is_none, Result, Ok, Err}
use Rattle.sve_diag.specs.declared.code.Code.TheVariants.{E06}
use Rattle.sve_diag.specs.declared.diag.Note.{Note}
use Rattle.sve_tree.specs.declared.data_type.Declarator.{Declarator}
use Rattle.sve_tree.specs.declared.data_type.Initializer.{Initializer}
use Rattle.sve_tree.specs.declared.expression.Dimension.{Dimension}
use Rattle.sve_tree.specs.declared.header.ParameterPort.{ParameterPort}
use Rattle.sve_types.specs.DataType.{DataType}
use Rattle.sve_types.specs.declared.value.Value.{Value}
use Rattle.sve_fault.specs.Faults.{argument_of, note_of}
use Rattle.sve_fault.specs.declared.fault.Fault.{Fault}
use Rattle.sve_spec.specs.declared.given.Given.{Given}
use Rattle.sve_spec.specs.declared.given.Given.TheVariants as is_given
use Rattle.sve_type_rule.specs.Outcomes.{Outcome, scalar}
use Rattle.sve_env.specs.Told.{Told}
use Rattle.sve_env.specs.Nodes.{dimension_count, nodes}
use Rattle.sve_type_of.specs.Nodes.{declared_nodes}
use Rattle.sve_type_of.specs.TypeOf.{notes_in, unpacked_over}
use Rattle.sve_formal.specs.Written.{is_nothing, is_written}
use Rattle.sve_assigned.specs.Forms.{Formation, formed}
use Rattle.sve_assigned.specs.Assignments.{converted_value, default_value, told_of}
use Rattle.sve_assigned.specs.declared.by_value.Assigned.{Assigned}
use Rattle.sve_assigned.specs.declared.form.Form.{Form}
use Rattle.sve_assigned.specs.declared.form.Form.TheVariants as is_form
use Rattle.sve_assigned.specs.declared.form.Formed.{Formed}
use Rattle.sve_resolve.specs.declared.found.Found.{Found}
use Rattle.sve_resolve.specs.declared.valued.Valued.{Valued}

-- ---- values

abbrev pub form_type : Form → Option DataType
form_type is_form.Free = None
form_type (is_form.Sign signed) = None
form_type (is_form.Typed t) = Some t

abbrev pub only : Option Note → List Note
only None = []
only (Some note) = note ∷ []

abbrev pub no_value : Form → Option Note → Valued
no_value form note = record { ty = form_type form; value = None; notes = only note }

abbrev pub with_assigned : Assigned → Valued
with_assigned a = record { ty = Some a.ty; value = Some a.value; notes = [] }

abbrev pub valued_by : Form → Result Assigned (Option Note) → Valued
valued_by form (Ok a) = with_assigned a
valued_by form (Err note) = no_value form note

-- an override is converted, and what is wrong with that stands at the name of the parameter
abbrev pub noted_by : Told → Result Assigned Fault → Result Assigned (Option Note)
noted_by m (Ok a) = Ok a
noted_by m (Err f) = Err (note_of m.file m.chunk f)

abbrev pub converted_to : Told → Form → ℕ → Value → Valued
converted_to m form token v = valued_by form (noted_by m (converted_value form token v))

abbrev pub default_to : Told → Form → Option Initializer → Valued
default_to m form None = no_value form None
default_to m form (Some i) = valued_by form (told_of m (default_value m form i.value.value))

-- a parameter that is given nothing has its default
abbrev pub given_or_default : Option Given → Given
given_or_default (Some given) = given
given_or_default None = is_given.Default

-- a default is evaluated only where nothing overrides it
abbrev pub valued : Told → Form → ℕ → Given → Option Initializer → Valued
valued m form token is_given.Default written = default_to m form written
valued m form token (is_given.Value v) written = converted_to m form token v
valued m form token is_given.Bad written = no_value form None

abbrev pub default_nodes : Told → Option Initializer → ℕ
default_nodes m None = 0
default_nodes m (Some i) = nodes m i.value.value

abbrev pub given_nodes : Told → Given → Option Initializer → ℕ
given_nodes m is_given.Default written = default_nodes m written
given_nodes m (is_given.Value v) written = 0
given_nodes m is_given.Bad written = 0

-- ---- forms: a parameter without keyword and type repeats the form of the one before

abbrev pub repeats : ParameterPort → Bool
repeats port = is_none port.keyword && not (is_written port.parameter.data_type)

abbrev pub formed_of : Told → Formation → Formed
formed_of m f = record { form = f.form; is_array = f.is_array; notes = notes_in m f.faults }

abbrev pub form_after : Told → Form → Bool → ParameterPort → Formed
form_after m before array port = if repeats port then (record { form = before; is_array = array; notes = [] }) else formed_of m (formed m port.parameter.data_type)

abbrev pub form_nodes : Told → ParameterPort → ℕ
form_nodes m port = if repeats port then 0 else declared_nodes m port.parameter.data_type

-- ---- unpacked dimensions, with which a parameter has no value

abbrev pub said_of : Told → Outcome → List Note
said_of m o = notes_in m o.faults

abbrev pub array_notes : Told → List Dimension → List Note
array_notes m dimensions = said_of m (unpacked_over m scalar dimensions)

abbrev pub is_array : Bool → Declarator → Bool
is_array array declarator = array || not (is_nothing declarator.dimensions.items)

abbrev pub out_notes : Told → Bool → ℕ → List Note
out_notes m true token = record { file = m.file; chunk = m.chunk; token = token; code = E06; arg = argument_of (m.text token) } ∷ []
out_notes m false token = []

abbrev pub value_unless : Bool → Option Value → Option Value
value_unless true value = None
value_unless false value = value

-- ---- one parameter

abbrev pub found_by : Told → ParameterPort → Formed → Valued → Found
found_by m port f v = record {
  form = f.form;
  is_array = f.is_array;
  ty = v.ty;
  value = value_unless (is_array f.is_array port.parameter.declarator) v.value;
  notes = ((f.notes ++ out_notes m (is_array f.is_array port.parameter.declarator) port.parameter.declarator.name) ++ array_notes m port.parameter.declarator.dimensions.items) ++ v.notes;
}

abbrev pub found_over : Told → Given → ParameterPort → Formed → Found
found_over m given port f = found_by m port f (valued m f.form port.parameter.declarator.name given port.value)

abbrev pub found : Told → Form → Bool → Given → ParameterPort → Found
found m before array given port = found_over m given port (form_after m before array port)

abbrev pub found_nodes : Told → Given → ParameterPort → ℕ
found_nodes m given port = form_nodes m port + dimension_count m port.parameter.declarator.dimensions.items + given_nodes m given port.value
