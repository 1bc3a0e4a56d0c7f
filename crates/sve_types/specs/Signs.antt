-- Whether a data type is signed (IEEE 1800-2017, 6.11.3, 6.19 and 7.2.1).
use Rattle.std.specs.Prelude.{Bool, false}
use Rattle.sve_types.specs.DataType.{DataType, data_type, Form, atom, vector, enumeration, structure, text}

-- as it is declared, an enumeration as its base, a string never (own); whatever its dimensions are (own)
unfoldable mutual
  pub is_signed : DataType → Bool
  is_signed (data_type f packed unpacked) = form_is_signed f

  pub form_is_signed : Form → Bool
  form_is_signed (atom a s) = s
  form_is_signed (vector v s) = s
  form_is_signed (enumeration id of names) = is_signed of
  form_is_signed (structure s ms) = s
  form_is_signed text = false
