-- What a written type is (IEEE 1800-2017, 6.11, 6.18 and 7.4.1), and what is wrong with it.
use Rattle.std.specs.Prelude.{ℕ, Bool, false, ◌||◌, if◌then◌else◌, List, [], ◌∷◌, ◌++◌, Result, Ok, Err}
use Rattle.sve_diag.specs.declared.code.Code.TheVariants.{N11}
use Rattle.sve_types.specs.DataType.{DataType, data_type, Form, atom, vector, enumeration, structure, text, form_of_type, packed_dimensions, unpacked_dimensions}
use Rattle.sve_types.specs.Dimensions.{element_count}
use Rattle.sve_types.specs.Widths.{counted}
use Rattle.sve_types.specs.declared.ty.Vec_.{Vec_}
use Rattle.sve_types.specs.declared.ty.Vec_.TheVariants.{Logic}
use Rattle.sve_types.specs.declared.ty.Range.{Range}
use Rattle.sve_fault.specs.Faults.{fault_about}
use Rattle.sve_fault.specs.declared.fault.Fault.{Fault}
use Rattle.sve_select.specs.Extents.{can_be_packed}
use Rattle.sve_type_rule.specs.Ranges.{Dimensioned, noted}
use Rattle.sve_type_rule.specs.declared.typed.Typed.{Typed}
use Rattle.sve_type_rule.specs.declared.naming.NamedType.{NamedType}

-- a type, and all that is wrong so far
pub record Outcome : Type 0 where
  pub ty : DataType
  pub faults : List Fault

-- what the program holds of it
abbrev pub outcome : Typed → Outcome
outcome t = record { ty = t.ty; faults = t.faults.items }

-- ---- types by their keywords

abbrev pub plain : Form → List Fault → Outcome
plain f faults = record { ty = data_type f [] []; faults = faults }

abbrev pub vector_outcome : Vec_ → Bool → Dimensioned → Outcome
vector_outcome kind signed d = record { ty = data_type (vector kind signed) d.ranges []; faults = d.faults }

-- ---- types by their names

-- what stands for a type that is not there
abbrev pub scalar : DataType
scalar = data_type (vector Logic false) [] []

-- A type by its name, before its dimensions: whether they stand before its own, and how many places those have.
pub record Behind : Type 0 where
  pub ty : DataType
  pub is_packed : Bool
  pub places : ℕ
  pub faults : List Fault

abbrev pub behind : NamedType → Behind
behind n = record { ty = n.ty; is_packed = n.is_packed; places = n.places; faults = n.faults.items }

-- Packed dimensions are the wrong thing before a type that takes none (N11, own); a name that is no type stands for one bit.
abbrev pub named_type : ℕ → List ℕ → Bool → List Fault → DataType → Behind
named_type token name is_plain faults t = record {
  ty = t;
  is_packed = can_be_packed t;
  places = counted (element_count (packed_dimensions t));
  faults = noted (is_plain || can_be_packed t) (fault_about token N11 name) faults;
}

abbrev pub named_by : ℕ → List ℕ → Bool → List Fault → Result DataType Fault → Behind
named_by token name is_plain faults (Ok t) = named_type token name is_plain faults t
named_by token name is_plain faults (Err f) = record { ty = scalar; is_packed = false; places = 1; faults = faults ++ f ∷ [] }

unfoldable pub named : ℕ → List ℕ → Bool → List Fault → Result DataType Fault → Behind
named token name is_plain faults ty = named_by token name is_plain faults ty

-- Dimensions before those that a type has itself (7.4.1 and 7.4.2). An array of a signed type by its name is unsigned as a whole; the sign
-- of an enumeration and of a structure is that of their kind, whatever their dimensions (own).
abbrev pub array_form : Form → Form
array_form (vector v s) = vector v false
array_form (atom a s) = atom a s
array_form (enumeration id of names) = enumeration id of names
array_form (structure s ms) = structure s ms
array_form text = text

abbrev pub packed_before : List Range → DataType → DataType
packed_before [] t = t
packed_before (r ∷ rs) t = data_type (array_form (form_of_type t)) ((r ∷ rs) ++ packed_dimensions t) (unpacked_dimensions t)

abbrev pub unpacked_before : List Range → DataType → DataType
unpacked_before ranges t = data_type (form_of_type t) (packed_dimensions t) (ranges ++ unpacked_dimensions t)

unfoldable pub packed_outcome : DataType → Bool → Dimensioned → Outcome
packed_outcome t is_packed d = record { ty = if is_packed then packed_before d.ranges t else t; faults = d.faults }

unfoldable pub unpacked_outcome : DataType → Dimensioned → Outcome
unpacked_outcome t d = record { ty = unpacked_before d.ranges t; faults = d.faults }
