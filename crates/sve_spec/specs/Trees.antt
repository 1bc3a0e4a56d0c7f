-- A tree of numbers for each specialization, no two of which share one: by their trees they are ordered (own).
use Rattle.std.specs.Prelude.{ℕ, ℤ, pos, negsuc, Bool, true, false, List, [], ◌∷◌, length, Option, Some, None}
use base.Stored.{Gv, gnil, gnum, gcons}
use Rattle.sve_value.specs.Vector.{Vector}
use Rattle.sve_value.specs.Planes.{ones_word, unknowns_word}
use Rattle.sve_types.specs.declared.ty.Atom.{Atom}
use Rattle.sve_types.specs.declared.ty.Atom.TheVariants.{Byte, ShortInt, Int, LongInt, Integer, Time}
use Rattle.sve_types.specs.declared.ty.Vec_.{Vec_}
use Rattle.sve_types.specs.declared.ty.Vec_.TheVariants.{Bit as bit, Logic as logic, Reg as reg}
use Rattle.sve_types.specs.declared.ty.Range.{Range}
use Rattle.sve_types.specs.DataType.{DataType, data_type, Form, atom, vector, enumeration, structure, text, Members, no_member, member}
use Rattle.sve_types.specs.declared.value.Value.{Value}
use Rattle.sve_types.specs.declared.value.Value.TheVariants as is_value
use Rattle.sve_spec.specs.declared.given.Given.{Given}
use Rattle.sve_spec.specs.declared.given.Given.TheVariants as is_given
use Rattle.sve_spec.specs.declared.spec.FaceGiven.{FaceGiven}
use Rattle.sve_spec.specs.declared.spec.Spec.{Spec}

abbrev pub bool_tree : Bool → Gv
bool_tree false = gnum 0
bool_tree true = gnum 1

-- the negative numbers are before the others
abbrev pub int_tree : ℤ → Gv
int_tree (negsuc n) = gcons (gnum 0) (gnum n)
int_tree (pos n) = gcons (gnum 1) (gnum n)

abbrev pub list_tree : {X : Type 0} → (X → Gv) → List X → Gv
list_tree tree [] = gnil
list_tree tree (x ∷ xs) = gcons (tree x) (list_tree tree xs)

abbrev pub name_tree : List ℕ → Gv
name_tree = list_tree gnum

abbrev pub option_tree : {X : Type 0} → (X → Gv) → Option X → Gv
option_tree tree None = gnil
option_tree tree (Some x) = gcons (tree x) gnil

-- by sign, number of bits, and the two words of the bits
abbrev pub bits_tree : Vector → Gv
bits_tree v = gcons (bool_tree v.signed) (gcons (gnum (length v.bits)) (gcons (gnum (ones_word v.bits)) (gnum (unknowns_word v.bits))))

abbrev pub range_tree : Range → Gv
range_tree r = gcons (int_tree r.left) (int_tree r.right)

abbrev pub named_bits_tree : List ℕ × Vector → Gv
named_bits_tree p = gcons (name_tree p.0) (bits_tree p.1)

abbrev pub atom_number : Atom → ℕ
atom_number Byte = 0
atom_number ShortInt = 1
atom_number Int = 2
atom_number LongInt = 3
atom_number Integer = 4
atom_number Time = 5

abbrev pub vec_number : Vec_ → ℕ
vec_number bit = 0
vec_number logic = 1
vec_number reg = 2

abbrev pub place_tree : List ℕ × ℕ × ℕ → Gv
place_tree place = gcons (name_tree place.0) (gcons (gnum place.1) (gnum place.2))

abbrev mutual
  pub type_tree : DataType → Gv
  type_tree (data_type form packed unpacked) = gcons (form_tree form) (gcons (list_tree range_tree packed) (list_tree range_tree unpacked))

  pub form_tree : Form → Gv
  form_tree (atom a signed) = gcons (gnum 0) (gcons (gnum (atom_number a)) (bool_tree signed))
  form_tree (vector v signed) = gcons (gnum 1) (gcons (gnum (vec_number v)) (bool_tree signed))
  form_tree (enumeration id of names) =
      gcons (gnum 2) (gcons (place_tree id) (gcons (type_tree of) (list_tree named_bits_tree names)))
  form_tree (structure signed members) = gcons (gnum 3) (gcons (bool_tree signed) (members_tree members))
  form_tree text = gcons (gnum 4) gnil

  pub members_tree : Members → Gv
  members_tree no_member = gnil
  members_tree (member name type members) = gcons (gcons (name_tree name) (type_tree type)) (members_tree members)

-- one member of a structure
abbrev pub member_tree : List ℕ × DataType → Gv
member_tree m = gcons (name_tree m.0) (type_tree m.1)

abbrev pub value_tree : Value → Gv
value_tree (is_value.Bits bits) = gcons (gnum 0) (bits_tree bits)
value_tree (is_value.Text bytes) = gcons (gnum 1) (name_tree bytes)
value_tree (is_value.OfType type) = gcons (gnum 2) (type_tree type)

abbrev pub given_tree : Given → Gv
given_tree is_given.Default = gcons (gnum 0) gnil
given_tree (is_given.Value value) = gcons (gnum 1) (value_tree value)
given_tree is_given.Bad = gcons (gnum 2) gnil

abbrev pub face_tree : FaceGiven → Gv
face_tree f = gcons (name_tree f.port) (gcons (name_tree f.interface) (option_tree name_tree f.modport))

abbrev pub spec_tree : Spec → Gv
spec_tree s = gcons (name_tree s.definition) (gcons (list_tree given_tree s.values) (list_tree face_tree s.faces))
