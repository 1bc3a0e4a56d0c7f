-- Which data types are equivalent (IEEE 1800-2017, 6.22.2).
use Rattle.std.specs.Prelude.{◌≡◌, ℕ, List, map, Option, Some, None}
use Rattle.sve_types.specs.DataType.{DataType, Form, atom, vector, enumeration, structure, text, form_of_type, unpacked_dimensions}
use Rattle.sve_types.specs.Dimensions.{place_count}
use Rattle.sve_types.specs.Widths.{bits_of, counted}
use Rattle.sve_types.specs.States.{has_four_states}
use Rattle.sve_types.specs.Signs.{is_signed}

-- the declaration of an enumeration: the file, the chunk and the token of its keyword
abbrev pub form_declaration : Form → Option (List ℕ × ℕ × ℕ)
form_declaration (atom a s) = None
form_declaration (vector v s) = None
form_declaration (enumeration id of names) = Some id
form_declaration (structure s ms) = None
form_declaration text = None

abbrev pub declaration : DataType → Option (List ℕ × ℕ × ℕ)
declaration t = form_declaration (form_of_type t)

-- the sizes of the unpacked dimensions
abbrev pub unpacked_sizes : DataType → List ℕ
unpacked_sizes t = map place_count (unpacked_dimensions t)

-- Unpacked dimensions of the same number and sizes, the same bits as they are counted, states and sign; and an enumeration
-- is equivalent only to one of the same declaration (own).
pub record IsEquivalent (a b : DataType) : Type 0 where
  pub unpacked : unpacked_sizes a ≡ unpacked_sizes b
  pub bits : counted (bits_of a) ≡ counted (bits_of b)
  pub states : has_four_states a ≡ has_four_states b
  pub sign : is_signed a ≡ is_signed b
  pub declared : declaration a ≡ declaration b
