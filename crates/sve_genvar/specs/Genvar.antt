-- A genvar in the expressions of its loop (IEEE 1800-2017, 27.4).
use Rattle.std.specs.Prelude.{ℕ, ◌-◌, ◌^◌, Bool, false, ◌&&◌, if◌then◌else◌, ℤ, pos, negsuc, int_le, int_lt, List, [], Option, Some, None, Ok, bytes_eq, true}
use Rattle.std.specs.Option.{is_none}
use Rattle.sve_tree.specs.declared.word.ScopedName.{ScopedName}
use Rattle.sve_value.specs.Vector.{Vector}
use Rattle.sve_value.specs.Numbers.{known_integer, short_integer, value_of}
use Rattle.sve_types.specs.DataType.{DataType, atom, data_type}
use Rattle.sve_types.specs.declared.ty.Atom.TheVariants.{Integer}
use Rattle.sve_types.specs.declared.value.Value.TheVariants.{Bits}
use Rattle.sve_env.specs.Told.{Told}

-- its type is `integer`
abbrev pub integer_type : DataType
integer_type = data_type (atom Integer true) [] []

abbrev pub genvar_value : ℤ → Vector
genvar_value value = value_of 32 true (Some value)

-- a whole number of 32 bits with a sign
abbrev pub is_index : ℤ → Bool
is_index z = int_le (negsuc (2 ^ 31 - 1)) z && int_lt z (pos (2 ^ 31))

abbrev pub index_in : Option ℤ → Option ℤ
index_in None = None
index_in (Some z) = if is_index z then Some z else None

-- the number that a value of type `integer` stands for, where none of its bits is x or z
abbrev pub index_of : Vector → Option ℤ
index_of v = index_in (short_integer (known_integer v))

-- a name is the genvar's
abbrev pub is_genvar : List ℕ → Told → ScopedName → Bool
is_genvar genvar m name = if is_none name.scope then bytes_eq (m.text name.name) genvar else false

-- what is known where the genvar has a value: it is a constant of type `integer`
abbrev pub with_genvar : List ℕ → ℤ → Told → Told
with_genvar genvar value m = record {
  file = m.file;
  chunk = m.chunk;
  text = m.text;
  declared_before = m.declared_before;
  constant = λ name. if is_genvar genvar m name then Ok (Bits (genvar_value value)) else m.constant name;
  is_type = λ name. if is_genvar genvar m name then false else m.is_type name;
  ty = λ name. if is_genvar genvar m name then Ok integer_type else m.ty name;
  call = m.call;
  steps = m.steps;
}
