-- The text of a data type (own; the words and signs of IEEE 1800-2017, 6.11 and table 6-8).
use Rattle.std.specs.Prelude.{ℕ, Bool, true, false, List, [], ◌∷◌, ◌++◌, codes}
use Rattle.std.specs.Fmt.{signed_decimal}
use Rattle.std.specs.List.{flat_map}
use Rattle.sve_bytes.specs.PathText.{name_text}
use Rattle.sve_value.specs.Vector.{Vector}
use Rattle.sve_value.specs.Text.{text_of as value_text}
use Rattle.sve_types.specs.declared.ty.Atom.{Atom}
use Rattle.sve_types.specs.declared.ty.Atom.TheVariants.{Byte, ShortInt, Int, LongInt, Integer, Time}
use Rattle.sve_types.specs.declared.ty.Vec_.{Vec_}
use Rattle.sve_types.specs.declared.ty.Vec_.TheVariants.{Bit, Logic, Reg}
use Rattle.sve_types.specs.declared.ty.Range.{Range}
use Rattle.sve_types.specs.DataType.{DataType, data_type, Form, atom, vector, enumeration, structure, text, Members, no_member, member}

abbrev pub atom_word : Atom → List ℕ
atom_word Byte = codes "byte"
atom_word ShortInt = codes "shortint"
atom_word Int = codes "int"
atom_word LongInt = codes "longint"
atom_word Integer = codes "integer"
atom_word Time = codes "time"

abbrev pub vec_word : Vec_ → List ℕ
vec_word Bit = codes "bit"
vec_word Logic = codes "logic"
vec_word Reg = codes "reg"

-- whether an integer type is signed where nothing is said; a vector is unsigned then
abbrev pub atom_is_signed : Atom → Bool
atom_is_signed Byte = true
atom_is_signed ShortInt = true
atom_is_signed Int = true
atom_is_signed LongInt = true
atom_is_signed Integer = true
atom_is_signed Time = false

-- The sign where nothing is said, and the sign: the two alike are not written.
abbrev pub sign_text : Bool → Bool → List ℕ
sign_text true true = []
sign_text false false = []
sign_text false true = codes " signed"
sign_text true false = codes " unsigned"

-- a blank, and the places in brackets
abbrev pub range_text : Range → List ℕ
range_text r = codes " [" ++ signed_decimal r.left ++ codes ":" ++ signed_decimal r.right ++ codes "]"

abbrev pub dimensions_text : List Range → List ℕ
dimensions_text = flat_map range_text

-- the unpacked dimensions, where there are some, stand behind a blank and `@`
abbrev pub unpacked_text : List Range → List ℕ
unpacked_text [] = []
unpacked_text (r ∷ rs) = codes " @" ++ dimensions_text (r ∷ rs)

-- a name of an enumeration and its value, and all of them with a comma between each and the next
abbrev pub named_value_text : List ℕ × Vector → List ℕ
named_value_text n = name_text n.0 ++ codes "=" ++ value_text n.1

abbrev pub names_text : List (List ℕ × Vector) → List ℕ
names_text [] = []
names_text (n ∷ ns) = named_value_text n ++ flat_map (λ m. codes "," ++ named_value_text m) ns

-- what stands before the members of a structure, signed or not
abbrev pub opening_text : Bool → List ℕ
opening_text true = codes "struct packed signed{"
opening_text false = codes "struct packed{"

-- A form, the packed dimensions, the unpacked ones. An enumeration has its base and, in braces, its names; a structure has,
-- in braces, the type and the name of each member, each with a semicolon behind it.
unfoldable mutual
  pub text_of : DataType → List ℕ
  text_of (data_type f packed unpacked) = form_text f ++ dimensions_text packed ++ unpacked_text unpacked

  pub form_text : Form → List ℕ
  form_text (atom a s) = atom_word a ++ sign_text (atom_is_signed a) s
  form_text (vector v s) = vec_word v ++ sign_text false s
  form_text (enumeration id of names) = codes "enum " ++ text_of of ++ codes "{" ++ names_text names ++ codes "}"
  form_text (structure s ms) = opening_text s ++ members_text ms ++ codes "}"
  form_text text = codes "string"

  pub members_text : Members → List ℕ
  members_text no_member = []
  members_text (member n t ms) = text_of t ++ codes " " ++ name_text n ++ codes ";" ++ members_text ms
