-- What declarations of parameters say of their types (IEEE 1800-2017, 6.20.2).
use Rattle.std.specs.Prelude.{◌≡◌, Bool, false, not, if◌then◌else◌, List, [], Option, Some, None}
use Rattle.sve_tree.specs.declared.word.Mark.{Mark}
use Rattle.sve_tree.specs.declared.word.Sign.{Sign}
use Rattle.sve_tree.specs.declared.data_type.DeclaredType.{DeclaredType}
use Rattle.sve_tree.specs.declared.data_type.DeclaredType.TheVariants as is_declared
use Rattle.sve_types.specs.DataType.{DataType, data_type, unpacked_dimensions}
use Rattle.sve_fault.specs.declared.fault.Fault.{Fault}
use Rattle.sve_type_rule.specs.Outcomes.{Outcome}
use Rattle.sve_env.specs.Told.{Told}
use Rattle.sve_form.specs.Operators.{is_signed}
use Rattle.sve_type_of.specs.Written.{is_empty, no_unpacked}
use Rattle.sve_type_of.specs.TypeOf.{declared, notes_in}
use Rattle.sve_assigned.specs.declared.form.Form.{Form}
use Rattle.sve_assigned.specs.declared.form.Form.TheVariants as is_form
use Rattle.sve_assigned.specs.declared.form.Formed.{Formed}

-- no parameter has unpacked dimensions (own)
abbrev pub without_unpacked : DataType → DataType
without_unpacked (data_type f packed unpacked) = data_type f packed []

abbrev pub has_unpacked : DataType → Bool
has_unpacked t = not (no_unpacked (unpacked_dimensions t))

-- the form, whether the type has unpacked dimensions, and all that is wrong with it
pub record Formation : Type 0 where
  pub form : Form
  pub is_array : Bool
  pub faults : List Fault

-- nothing but a sign
abbrev pub sign_form : Option (Mark Sign) → Form
sign_form None = is_form.Free
sign_form (Some sign) = is_form.Sign (is_signed sign.kind)

abbrev pub untyped_formation : Option (Mark Sign) → Formation
untyped_formation sign = record { form = sign_form sign; is_array = false; faults = [] }

abbrev pub typed_formation : Outcome → Formation
typed_formation o = record { form = is_form.Typed (without_unpacked o.ty); is_array = has_unpacked o.ty; faults = o.faults }

-- what a declaration says: a range alone, or with a sign, is a vector
abbrev pub formed : Told → DeclaredType → Formation
formed m (is_declared.Explicit t) = typed_formation (declared m (is_declared.Explicit t))
formed m (is_declared.Implicit sign dimensions) = if is_empty dimensions.items then untyped_formation sign else typed_formation (declared m (is_declared.Implicit sign dimensions))

-- what the program holds of it
pub record IsFormed (f : Formed) (m : Told) (o : Formation) : Type 0 where
  pub form : f.form ≡ o.form
  pub is_array : f.is_array ≡ o.is_array
  pub notes : f.notes ≡ notes_in m o.faults
