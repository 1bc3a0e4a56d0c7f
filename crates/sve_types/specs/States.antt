-- Whether the bits of a data type can be x and z (IEEE 1800-2017, table 6-8, 6.19 and 7.2.1).
use Rattle.std.specs.Prelude.{Bool, true, false, ◌||◌}
use Rattle.sve_types.specs.declared.ty.Atom.{Atom}
use Rattle.sve_types.specs.declared.ty.Atom.TheVariants.{Byte, ShortInt, Int, LongInt, Integer, Time}
use Rattle.sve_types.specs.declared.ty.Vec_.{Vec_}
use Rattle.sve_types.specs.declared.ty.Vec_.TheVariants.{Bit, Logic, Reg}
use Rattle.sve_types.specs.DataType.{DataType, data_type, Form, atom, vector, enumeration, structure, text, Members, no_member, member}

abbrev pub atom_has_four_states : Atom → Bool
atom_has_four_states Byte = false
atom_has_four_states ShortInt = false
atom_has_four_states Int = false
atom_has_four_states LongInt = false
atom_has_four_states Integer = true
atom_has_four_states Time = true

abbrev pub vec_has_four_states : Vec_ → Bool
vec_has_four_states Bit = false
vec_has_four_states Logic = true
vec_has_four_states Reg = true

-- an enumeration where its base does, a structure where a member does, a string never (own)
unfoldable mutual
  pub has_four_states : DataType → Bool
  has_four_states (data_type f packed unpacked) = form_has_four_states f

  pub form_has_four_states : Form → Bool
  form_has_four_states (atom a s) = atom_has_four_states a
  form_has_four_states (vector v s) = vec_has_four_states v
  form_has_four_states (enumeration id of names) = has_four_states of
  form_has_four_states (structure s ms) = a_member_has_four_states ms
  form_has_four_states text = false

  pub a_member_has_four_states : Members → Bool
  a_member_has_four_states no_member = false
  a_member_has_four_states (member n t ms) = has_four_states t || a_member_has_four_states ms
