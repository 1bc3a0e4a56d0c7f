-- The data types of the language, as contracts see them (IEEE 1800-2017, 6.11, 6.16, 6.19 and 7.2.1).
use Rattle.std.specs.Prelude.{ℕ, Bool, List}
use Rattle.sve_value.specs.Vector.{Vector}
use Rattle.sve_types.specs.declared.ty.Atom.{Atom}
use Rattle.sve_types.specs.declared.ty.Vec_.{Vec_}
use Rattle.sve_types.specs.declared.ty.Range.{Range}

mutual
  -- a form, and the packed and the unpacked dimensions, each list from left to right (7.4)
  pub data DataType : Type 0 where
    data_type : Form → List Range → List Range → DataType

  pub data Form : Type 0 where
    -- an integer type with a width of its own, and whether it is signed (6.11)
    atom : Atom → Bool → Form
    -- a type of one bit, or of a bit for each place, and whether it is signed (6.11)
    vector : Vec_ → Bool → Form
    -- an enumeration: the file, the chunk and the token that declare it, its base, its names with their values (6.19)
    enumeration : List ℕ × ℕ × ℕ → DataType → List (List ℕ × Vector) → Form
    -- a packed structure: whether `signed` is written, and the members, the most significant first (7.2.1)
    structure : Bool → Members → Form
    -- a string (6.16)
    text : Form

  pub data Members : Type 0 where
    no_member : Members
    member : List ℕ → DataType → Members → Members

-- the parts of a data type
abbrev pub form_of_type : DataType → Form
form_of_type (data_type f packed unpacked) = f

abbrev pub packed_dimensions : DataType → List Range
packed_dimensions (data_type f packed unpacked) = packed

abbrev pub unpacked_dimensions : DataType → List Range
unpacked_dimensions (data_type f packed unpacked) = unpacked
