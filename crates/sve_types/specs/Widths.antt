-- The bits of a data type: a whole number without bound (IEEE 1800-2017, table 6-8, 6.19, 7.2.1 and 7.4).
use Rattle.std.specs.Prelude.{ℕ, ◌+◌, ◌-◌, ◌*◌, ◌^◌, min}
use Rattle.sve_types.specs.declared.ty.Atom.{Atom}
use Rattle.sve_types.specs.declared.ty.Atom.TheVariants.{Byte, ShortInt, Int, LongInt, Integer, Time}
use Rattle.sve_types.specs.DataType.{DataType, data_type, Form, atom, vector, enumeration, structure, text, Members, no_member, member}
use Rattle.sve_types.specs.Dimensions.{element_count}

abbrev pub atom_bits : Atom → ℕ
atom_bits Byte = 8
atom_bits ShortInt = 16
atom_bits Int = 32
atom_bits LongInt = 64
atom_bits Integer = 32
atom_bits Time = 64

-- Each element has the bits of the form: an enumeration those of its base, a structure those of all its members, a string
-- none (own).
unfoldable mutual
  pub bits_of : DataType → ℕ
  bits_of (data_type f packed unpacked) = form_bits f * element_count packed * element_count unpacked

  pub form_bits : Form → ℕ
  form_bits (atom a s) = atom_bits a
  form_bits (vector v s) = 1
  form_bits (enumeration id of names) = bits_of of
  form_bits (structure s ms) = members_bits ms
  form_bits text = 0

  pub members_bits : Members → ℕ
  members_bits no_member = 0
  members_bits (member n t ms) = bits_of t + members_bits ms

-- more bits than 64 binary digits can count are counted as the greatest such number (own)
abbrev pub counted : ℕ → ℕ
counted bits = min bits (2 ^ 64 - 1)
