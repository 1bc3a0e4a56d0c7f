-- The type and the value of a parameter, by the form of its type and by what is assigned to it (IEEE 1800-2017, 6.20.2, 10.7 and 23.10).
use Rattle.std.specs.Prelude.{ℕ, Bool, true, false, if◌then◌else◌, pos, ◌-ℤ◌, List, [], ◌∷◌, length, Option, None, Result, Ok, Err}
use Rattle.sve_diag.specs.declared.code.Code.TheVariants.{C01, N11}
use Rattle.sve_diag.specs.declared.diag.Note.{Note}
use Rattle.sve_value.specs.Moves.{extend_of}
use Rattle.sve_operand.specs.Meaning.{Meaning, own_value}
use Rattle.sve_types.specs.DataType.{DataType, data_type, Form as Shape, atom, vector, enumeration, structure, text, form_of_type}
use Rattle.sve_types.specs.declared.ty.Vec_.TheVariants.{Logic}
use Rattle.sve_types.specs.declared.value.Value.{Value}
use Rattle.sve_types.specs.declared.value.Value.TheVariants as is_value
use Rattle.sve_fault.specs.Faults.{after, fault_at}
use Rattle.sve_fault.specs.declared.fault.Fault.{Fault}
use Rattle.sve_rule.specs.Judged.{Judged}
use Rattle.sve_rule.specs.Rules.{type_cast_judged, value_judged}
use Rattle.sve_tree.specs.declared.expression.Expr.{Expr}
use Rattle.sve_env.specs.Told.{Told}
use Rattle.sve_form.specs.Tokens.{token_of}
use Rattle.sve_const.specs.Constants.{measured}
use Rattle.sve_const.specs.Answers.{evaluated, note_at}
use Rattle.sve_type_of.specs.Written.{target_of}
use Rattle.sve_assigned.specs.declared.by_value.Assigned.{Assigned}
use Rattle.sve_assigned.specs.declared.form.Form.{Form}
use Rattle.sve_assigned.specs.declared.form.Form.TheVariants as is_form

-- a vector of four states, of so many bits
abbrev pub vector_of : ℕ → Bool → DataType
vector_of width signed = data_type (vector Logic signed) (record { left = pos width -ℤ pos 1; right = pos 0 } ∷ []) []

abbrev pub string_alone : DataType
string_alone = data_type text [] []

abbrev pub shape_is_text : Shape → Bool
shape_is_text (atom a s) = false
shape_is_text (vector v s) = false
shape_is_text (enumeration id of names) = false
shape_is_text (structure s ms) = false
shape_is_text text = true

abbrev pub is_text : DataType → Bool
is_text t = shape_is_text (form_of_type t)

-- without a type a parameter has that of its value
abbrev pub by_itself : ℕ → Value → Result Assigned Fault
by_itself token (is_value.Bits v) = Ok (record { ty = vector_of (length v.bits) v.signed; value = is_value.Bits v })
by_itself token (is_value.Text bytes) = Ok (record { ty = string_alone; value = is_value.Text bytes })
by_itself token (is_value.OfType t) = Err (fault_at token N11)

-- a string takes nothing but a string (own)
abbrev pub as_text : ℕ → DataType → Value → Result Assigned Fault
as_text token t (is_value.Text bytes) = Ok (record { ty = t; value = is_value.Text bytes })
as_text token t (is_value.Bits v) = Err (fault_at token C01)
as_text token t (is_value.OfType u) = Err (fault_at token C01)

-- with a sign alone a parameter has the bits of its value, as a vector of that sign
abbrev pub with_sign : Bool → Meaning → Assigned
with_sign signed a = record { ty = vector_of a.width signed; value = is_value.Bits (extend_of a.width signed (own_value a)) }

abbrev pub signed_value : Bool → Judged → Result Assigned Fault
signed_value signed a = after a (λ x. Ok (with_sign signed x))

-- with a type the value is assigned to it
abbrev pub with_type : DataType → Meaning → Assigned
with_type t a = record { ty = t; value = is_value.Bits (own_value a) }

abbrev pub typed_value : ℕ → DataType → Judged → Result Assigned Fault
typed_value token t a = after (type_cast_judged token (Ok (target_of t)) a) (λ x. Ok (with_type t x))

-- What is assigned, by its value by itself and by what it means as an operand; a string is one by itself, and bits as an operand.
abbrev pub value_by : Form → ℕ → Result Value Fault → Judged → Result Assigned Fault
value_by is_form.Free token own operand = after own (λ v. by_itself token v)
value_by (is_form.Sign signed) token own operand = signed_value signed operand
value_by (is_form.Typed t) token own operand = if is_text t then after own (λ v. as_text token t v) else typed_value token t operand

-- an expression, and a value that was evaluated elsewhere
abbrev pub default_value : Told → Form → Expr → Result Assigned Fault
default_value m form e = value_by form (token_of e) (evaluated m None e) (measured m e)

abbrev pub converted_value : Form → ℕ → Value → Result Assigned Fault
converted_value form token v = value_by form token (Ok v) (value_judged token token [] (Ok v))

-- what is said of a fault, in place of it
abbrev pub told_of : {X : Type 0} → Told → Result X Fault → Result X (Option Note)
told_of m (Ok x) = Ok x
told_of m (Err f) = Err (note_at m f)
