-- Types by their keywords and by their names, with their dimensions (IEEE 1800-2017, 6.11, 6.18 and 7.4).
use Rattle.std.specs.Prelude.{Bool, true, false, if◌then◌else◌, List, [], ◌∷◌, Option, Result, Ok, Err}
use Rattle.sve_diag.specs.declared.code.Code.{Code}
use Rattle.sve_diag.specs.declared.code.Code.TheVariants.{C01, N11}
use Rattle.sve_tree.specs.declared.word.Mark.{Mark}
use Rattle.sve_tree.specs.declared.word.Sign.{Sign}
use Rattle.sve_tree.specs.declared.word.ScopedName.{ScopedName}
use Rattle.sve_tree.specs.declared.word.AtomKeyword.{AtomKeyword}
use Rattle.sve_tree.specs.declared.word.AtomKeyword.TheVariants as is_atom
use Rattle.sve_tree.specs.declared.word.VectorKeyword.{VectorKeyword}
use Rattle.sve_tree.specs.declared.word.VectorKeyword.TheVariants as is_vector
use Rattle.sve_tree.specs.declared.data_type.AtomType.{AtomType}
use Rattle.sve_tree.specs.declared.data_type.VectorType.{VectorType}
use Rattle.sve_tree.specs.declared.data_type.NamedType.{NamedType}
use Rattle.sve_tree.specs.declared.expression.Dimension.{Dimension}
use Rattle.sve_types.specs.DataType.{DataType, atom}
use Rattle.sve_types.specs.TypeText.{atom_is_signed}
use Rattle.sve_types.specs.declared.ty.Atom.{Atom}
use Rattle.sve_types.specs.declared.ty.Atom.TheVariants as is_kind
use Rattle.sve_types.specs.declared.ty.Vec_.{Vec_}
use Rattle.sve_types.specs.declared.ty.Vec_.TheVariants as is_vec
use Rattle.sve_fault.specs.Faults.{fault_about}
use Rattle.sve_fault.specs.declared.fault.Fault.{Fault}
use Rattle.sve_fault.specs.declared.fault.Said.{Said}
use Rattle.sve_fault.specs.declared.fault.Said.TheVariants as is_said
use Rattle.sve_type_rule.specs.Ranges.{Dimensioned, no_ranges, ranged}
use Rattle.sve_type_rule.specs.Outcomes.{Outcome, Behind, plain, vector_outcome, named as named_behind, packed_outcome}
use Rattle.sve_env.specs.Told.{Told}
use Rattle.sve_form.specs.Keywords.{sign_or}
use Rattle.sve_form.specs.Tokens.{opening_of}
use Rattle.sve_measure.specs.Constants.{range_of}

-- ---- dimensions, from the left

unfoldable pub ranges_behind : Told → Dimensioned → List Dimension → Dimensioned
ranges_behind m before [] = before
ranges_behind m before (d ∷ ds) = ranges_behind m (ranged (opening_of d) before (range_of m d)) ds

-- ---- types by their keywords

abbrev pub atom_kind : AtomKeyword → Atom
atom_kind is_atom.Byte = is_kind.Byte
atom_kind is_atom.Shortint = is_kind.ShortInt
atom_kind is_atom.Int = is_kind.Int
atom_kind is_atom.Longint = is_kind.LongInt
atom_kind is_atom.Integer = is_kind.Integer
atom_kind is_atom.Time = is_kind.Time

abbrev pub vector_kind : VectorKeyword → Vec_
vector_kind is_vector.Bit = is_vec.Bit
vector_kind is_vector.Logic = is_vec.Logic
vector_kind is_vector.Reg = is_vec.Reg

abbrev pub atom_typed : AtomType → List Fault → Outcome
atom_typed a faults = plain (atom (atom_kind a.keyword.kind) (sign_or a.sign (atom_is_signed (atom_kind a.keyword.kind)))) faults

unfoldable pub vector_typed : Told → VectorType → List Fault → Outcome
vector_typed m v faults = vector_outcome (vector_kind v.keyword.kind) (sign_or v.sign false) (ranges_behind m (no_ranges 1 faults) v.dimensions.items)

-- at most a sign and packed dimensions: bits of four states
unfoldable pub implicit_typed : Told → Option (Mark Sign) → List Dimension → List Fault → Outcome
implicit_typed m sign dimensions faults = vector_outcome is_vec.Logic (sign_or sign false) (ranges_behind m (no_ranges 1 faults) dimensions)

-- ---- types by their names

-- a thing that is no type is the wrong one for its place
abbrev pub wrong_by_code : Fault → Fault → Code → Fault
wrong_by_code wrong f C01 = wrong
wrong_by_code wrong f _ = f

abbrev pub wrong_by : Fault → Fault → Said → Fault
wrong_by wrong f is_said.Nothing = f
wrong_by wrong f (is_said.Here code arg) = wrong_by_code wrong f code
wrong_by wrong f (is_said.Elsewhere note) = f

abbrev pub no_type : Fault → Result DataType Fault → Result DataType Fault
no_type wrong (Ok t) = Err wrong
no_type wrong (Err f) = Err (wrong_by wrong f f.said)

abbrev pub type_named : Told → ScopedName → Result DataType Fault
type_named m name = if m.is_type name then m.ty name else no_type (fault_about name.name N11 (m.text name.name)) (m.ty name)

abbrev pub is_empty : List Dimension → Bool
is_empty [] = true
is_empty (d ∷ ds) = false

abbrev pub name_behind : Told → NamedType → List Fault → Behind
name_behind m n faults = named_behind n.name.name (m.text n.name.name) (is_empty n.dimensions.items) faults (type_named m n.name)

abbrev pub named_over : Told → List Dimension → Behind → Outcome
named_over m dimensions b = packed_outcome b.ty b.is_packed (ranges_behind m (no_ranges b.places b.faults) dimensions)

unfoldable pub named_typed : Told → NamedType → List Fault → Outcome
named_typed m n faults = named_over m n.dimensions.items (name_behind m n faults)
