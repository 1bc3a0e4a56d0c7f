-- Parameters in a scope in which none can be overridden (IEEE 1800-2017, 6.20).
use Rattle.std.specs.Prelude.{ℕ, ◌+◌, Bool, not, ◌||◌, if◌then◌else◌, List, [], ◌∷◌, Option, Some, None, Result, Ok, Err, slice_get}
use Rattle.sve_diag.specs.declared.diag.Note.{Note}
use Rattle.sve_types.specs.DataType.{DataType}
use Rattle.sve_env.specs.Told.{Told}
use Rattle.sve_tree.specs.declared.token_word.Word.{Word}
use Rattle.sve_tree.specs.declared.data_type.DeclaredType.{DeclaredType}
use Rattle.sve_tree.specs.declared.data_type.DeclaredType.TheVariants as is_declared
use Rattle.sve_tree.specs.declared.declaration.ParameterAssignment.{ParameterAssignment}
use Rattle.sve_tree.specs.declared.declaration.Parameters.{Parameters}
use Rattle.sve_type_rule.specs.Outcomes.{scalar}
use Rattle.sve_type_of.specs.Written.{is_empty}
use Rattle.sve_type_of.specs.TypeOf.{notes_in, unpacked_over}
use Rattle.sve_scope.specs.declared.what.Constant.{Constant}
use Rattle.sve_scope.specs.declared.what.What.TheVariants as is_what
use Rattle.sve_contents.specs.declared.contents.Contents.{Contents}
use Rattle.sve_contents.specs.Reading.{noted_all, noted_if}
use Rattle.sve_enumerated.specs.declared.passed.Passed.{Passed}
use Rattle.sve_enumerated.specs.Passing.{passed_to}
use Rattle.sve_enumerated.specs.Types.{named_in_ref}
use Rattle.sve_assigned.specs.declared.by_value.Assigned.{Assigned}
use Rattle.sve_assigned.specs.declared.form.Form.{Form}
use Rattle.sve_assigned.specs.declared.form.Form.TheVariants as is_form
use Rattle.sve_assigned.specs.Assignments.{default_value, told_of}
use Rattle.sve_assigned.specs.Forms.{Formation, formed}
use Rattle.sve_declare.specs.declared.parameters.Begun.{Begun}
use Rattle.sve_declare.specs.declared.parameters.Found.{Found}
use Rattle.sve_declare.specs.declared.parameters.Settled.{Settled}
use Rattle.sve_scoped.specs.Said.{declared_at, out_if}

-- ---- what a parameter stands for

-- the type that its declaration tells
abbrev pub form_type : Form → Option DataType
form_type is_form.Free = None
form_type (is_form.Sign signed) = None
form_type (is_form.Typed t) = Some t

abbrev pub valueless : Form → Constant
valueless form = record { ty = form_type form; value = None }

-- its type and its value; it has no value where its type is out, or where something is said of the value
abbrev pub kept : Form → Bool → Result Assigned (Option Note) → Constant
kept form is_out (Err why) = valueless form
kept form is_out (Ok a) = if is_out then valueless form else record { ty = Some a.ty; value = Some a.value }

abbrev pub note_in : Result Assigned (Option Note) → Option Note
note_in (Err why) = why
note_in (Ok a) = None

-- no parameter has unpacked dimensions, its own or those of its type (own)
abbrev pub is_out : Bool → ParameterAssignment → Bool
is_out is_array a = is_array || not (is_empty a.declarator.dimensions.items)

-- what is found of one with this value
abbrev pub found_with : Told → Bool → ParameterAssignment → Result Assigned (Option Note) → Found
found_with m is_array a value = record {
  is_out = is_out is_array a;
  notes = notes_in m (unpacked_over m scalar a.declarator.dimensions.items).faults;
  value = value;
}

-- what is found of it, where it stands
abbrev pub found_in : Told → Form → Bool → ParameterAssignment → Found
found_in m form is_array a = found_with m is_array a (told_of m (default_value m form a.value.value.value))

-- ---- how it comes into the scope

-- behind all that is said of it and all that it uses, at a token; it is seen from another one on
abbrev pub behind_uses : List Word → Passed → ℕ → ℕ → Passed
behind_uses ws p token from = passed_to ws (passed_to ws p token) from

abbrev pub said_of : List Word → Contents → Found → ℕ → Contents
said_of ws c found token = noted_if (noted_all (out_if ws c token found.is_out) found.notes) (note_in found.value)

-- all is said of it; its name is not declared yet
abbrev pub all_said : List Word → Form → Passed → Found → ℕ → ℕ → Settled
all_said ws form p found token from = record {
  passed = behind_uses ws (record { contents = said_of ws p.contents found token; at = p.at }) token from;
  constant = kept form found.is_out found.value;
}

-- and then it stands in the scope, as one that nothing overrides
abbrev pub declared_behind : List Word → Settled → ℕ → ℕ → Passed
declared_behind ws s token from = record { contents = declared_at ws s.passed.contents token (is_what.LocalParameter s.constant) from; at = s.passed.at }

unfoldable pub with_value : List Word → Form → Passed → Found → ℕ → ℕ → Passed
with_value ws form p found token from = declared_behind ws (all_said ws form p found token from) token from

-- the token behind the parameter at a place of a declaration
abbrev pub token_or : ℕ → Option ℕ → ℕ
token_or last None = last
token_or last (Some token) = token

abbrev pub separator : Parameters → ℕ → ℕ
separator written place = token_or written.semicolon (slice_get written.assignments.separators.items place)

-- where this is known in the scope, as far as its text was read
unfoldable pub parameter_after : (Contents → Told) → List Word → Form → Bool → Parameters → ℕ → Passed → ParameterAssignment → Passed
parameter_after known ws form is_array written place p a = with_value ws form p (found_in (known p.contents) form is_array a) a.declarator.name (separator written place)

-- one after another, so that each sees those before it
unfoldable pub parameters_behind : (Contents → Told) → List Word → Form → Bool → Parameters → ℕ → Passed → List ParameterAssignment → Passed
parameters_behind known ws form is_array written place p [] = p
parameters_behind known ws form is_array written place p (a ∷ more) = parameters_behind known ws form is_array written (place + 1) (parameter_after known ws form is_array written place p a) more

-- the names that their type declares come first
unfoldable pub names_declared : List Word → Form → Passed → DeclaredType → Passed
names_declared ws form p (is_declared.Implicit sign dimensions) = p
names_declared ws is_form.Free p (is_declared.Explicit t) = p
names_declared ws (is_form.Sign signed) p (is_declared.Explicit t) = p
names_declared ws (is_form.Typed ty) p (is_declared.Explicit t) = named_in_ref ws ty p t

module _ (known : Contents → Told) (ws : List Word) where
  -- the type is found once, in front of all of them
  abbrev pub front_by : Contents → Parameters → Told → Formation → Begun
  front_by c written m f = record {
    form = f.form;
    is_array = f.is_array;
    passed = names_declared ws f.form (record { contents = noted_all c (notes_in m f.faults); at = written.keyword.token }) written.data_type;
  }

  abbrev pub in_front : Contents → Parameters → Begun
  in_front c written = front_by c written (known c) (formed (known c) written.data_type)

  abbrev pub all_behind : Parameters → Begun → Contents
  all_behind written b = (parameters_behind known ws b.form b.is_array written 0 b.passed written.assignments.items.items).contents

  abbrev pub parameters_over : Contents → Parameters → Told → Formation → Contents
  parameters_over c written m f = all_behind written (front_by c written m f)

  abbrev pub with_parameters : Contents → Parameters → Contents
  with_parameters c written = parameters_over c written (known c) (formed (known c) written.data_type)
