-- Enumerations within a type, and the values of their names (IEEE 1800-2017, 6.19 and 7.2.1).
use Rattle.std.specs.Prelude.{ℕ, ◌==◌, Bool, ◌&&◌, nat_eq, if◌then◌else◌, List, [], Option, Some, None, slice_get}
use Rattle.std.specs.Cmp.Lexicographic.{pointwise}
use Rattle.std.specs.Option.{option_or}
use Rattle.sve_value.specs.Vector.{Vector}
use Rattle.sve_types.specs.DataType.{DataType, data_type, Form, atom, vector, enumeration, structure, text, Members, no_member, member, form_of_type}

-- an enumeration is known by the file, the chunk and the token of its keyword
abbrev pub is_it : List ℕ → ℕ → ℕ → List ℕ × ℕ × ℕ → Bool
is_it file chunk token id = pointwise nat_eq id.0 file && (id.1 == chunk && id.2 == token)

-- the enumeration of that keyword: the type itself, or one in the types of its members
unfoldable mutual
  pub enumeration_in : List ℕ → ℕ → ℕ → DataType → Option DataType
  enumeration_in file chunk token (data_type f packed unpacked) = in_form file chunk token (data_type f packed unpacked) f

  pub in_form : List ℕ → ℕ → ℕ → DataType → Form → Option DataType
  in_form file chunk token t (atom a s) = None
  in_form file chunk token t (vector v s) = None
  in_form file chunk token t (enumeration id of names) = if is_it file chunk token id then Some t else None
  in_form file chunk token t (structure s ms) = in_members file chunk token ms
  in_form file chunk token t text = None

  pub in_members : List ℕ → ℕ → ℕ → Members → Option DataType
  in_members file chunk token no_member = None
  in_members file chunk token (member n t ms) = option_or (enumeration_in file chunk token t) (in_members file chunk token ms)

-- its names have its type without dimensions
abbrev pub alone : DataType → DataType
alone t = data_type (form_of_type t) [] []

-- those of its names that have a value
abbrev pub values_in : Form → List (List ℕ × Vector)
values_in (atom a s) = []
values_in (vector v s) = []
values_in (enumeration id of names) = names
values_in (structure s ms) = []
values_in text = []

abbrev pub values_of : Option DataType → List (List ℕ × Vector)
values_of None = []
values_of (Some t) = values_in (form_of_type t)

-- Names are passed in the order of the text: one has a value where the next of those with a value is it.
abbrev pub value_if : List ℕ → Option (List ℕ × Vector) → Option Vector
value_if n None = None
value_if n (Some v) = if pointwise nat_eq v.0 n then Some v.1 else None

abbrev pub value_next : List (List ℕ × Vector) → ℕ → List ℕ → Option Vector
value_next vs next n = value_if n (slice_get vs next)
