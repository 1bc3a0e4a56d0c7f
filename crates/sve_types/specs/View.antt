-- What contracts see of a `Ty`: the data type that its parts stand for.
use Rattle.std.specs.Prelude.{ℕ, List, [], ◌∷◌, ◌+◌}
use Rattle.std.specs.Arc.{arc_value}
use Rattle.sve_types.specs.DataType.{DataType, data_type, Form, atom, vector, enumeration, structure, text, Members, no_member, member}
use Rattle.sve_types.specs.declared.ty.Base.{Base}
use Rattle.sve_types.specs.declared.ty.Base.TheVariants.{Atom, Vector, Enum, Struct, Text}
use Rattle.sve_types.specs.declared.ty.Ty.TheInside.{Inside}

-- members in a row
abbrev pub members_of : List (List ℕ × DataType) → Members
members_of [] = no_member
members_of (m ∷ ms) = member m.0 m.1 (members_of ms)

-- a base, whatever its places in memory are
abbrev pub form_of : Base → Form
form_of (Atom a s) = atom a s
form_of (Vector v s) = vector v s
form_of (Enum id of names) = enumeration id of.value (arc_value names)
form_of (Struct s ms) = structure s (members_of (arc_value ms).items)
form_of Text = text

abbrev pub view_of : Inside → DataType
view_of a = data_type (form_of a.base) a.packed a.unpacked

-- how many types a type holds inside it, by which a recursion over it is seen to end (own)
abbrev mutual
  pub size_of : DataType → ℕ
  size_of (data_type f p u) = form_size f

  pub form_size : Form → ℕ
  form_size (atom a s) = 0
  form_size (vector v s) = 0
  form_size (enumeration id of names) = size_of of + 1
  form_size (structure s ms) = members_size ms
  form_size text = 0

  pub members_size : Members → ℕ
  members_size no_member = 0
  members_size (member n t ms) = size_of t + 1 + members_size ms
