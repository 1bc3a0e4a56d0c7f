-- What a written type is (IEEE 1800-2017, A.2.2.1 and 7.2.1): a type, whatever is wrong with it, and all that is wrong with it.
use Rattle.std.specs.Prelude.{◌≡◌, ℕ, Bool, false, List, [], ◌∷◌, Option}
use Rattle.std.specs.List.{filter_map}
use Rattle.std.specs.Global.{Vec}
use Rattle.sve_diag.specs.declared.diag.Note.{Note}
use Rattle.sve_tree.specs.declared.word.Mark.{Mark}
use Rattle.sve_tree.specs.declared.word.Sign.{Sign}
use Rattle.sve_tree.specs.declared.data_type.DataType.{DataType}
use Rattle.sve_tree.specs.declared.data_type.DataType.TheVariants as is_data_type
use Rattle.sve_tree.specs.declared.data_type.TypeRef.{TypeRef}
use Rattle.sve_tree.specs.declared.data_type.TypeRef.TheVariants as is_type_ref
use Rattle.sve_tree.specs.declared.data_type.Structure.{Structure, Structure', Row_of-Members, end_of-Members, more_of-Members}
use Rattle.sve_tree.specs.declared.data_type.Members.{Members}
use Rattle.sve_tree.specs.declared.data_type.DataType.TheBlock.{hidden-the_row-Members-0}
use Rattle.sve_tree.specs.declared.expression.Dimension.{Dimension}
use Rattle.sve_types.specs.DataType as types
use Rattle.sve_types.specs.View.{members_of}
use Rattle.sve_fault.specs.Faults.{note_of}
use Rattle.sve_fault.specs.declared.fault.Fault.{Fault}
use Rattle.sve_type_rule.specs.Ranges.{Dimensioned, no_ranges}
use Rattle.sve_type_rule.specs.Outcomes.{Outcome, plain, unpacked_outcome}
use Rattle.sve_type_rule.specs.Members.{Membered, no_members, member_after}
use Rattle.sve_tree.specs.declared.data_type.DeclaredType.{DeclaredType}
use Rattle.sve_tree.specs.declared.data_type.DeclaredType.TheVariants as is_declared
use Rattle.sve_env.specs.Told.{Told}
use Rattle.sve_form.specs.Keywords.{sign_or}
use Rattle.sve_types.specs.Dimensions.{element_count}
use Rattle.sve_types.specs.Widths.{counted}
use Rattle.sve_type_of.specs.declared.said.Typed.{Typed}
use Rattle.sve_simple_type.specs.Simple.{ranges_behind, implicit_typed, atom_typed, vector_typed, named_typed}
use Rattle.sve_enum_type.specs.Enumerations.{enumeration_typed}

-- the names of members of one type
unfoldable pub named_members : Told → types.DataType → Membered → List ℕ → Membered
named_members m t before [] = before
named_members m t before (n ∷ ns) = named_members m t (member_after n (m.text n) t before) ns

abbrev pub members_with : Told → List ℕ → List (List ℕ × types.DataType) → Outcome → Membered
members_with m names members o = named_members m o.ty (record { members = members; faults = o.faults }) names

abbrev pub structured : Bool → List (List ℕ × types.DataType) → Dimensioned → Outcome
structured signed members d = record { ty = types.data_type (types.structure signed (members_of members)) d.ranges []; faults = d.faults }

abbrev pub structure_over : Told → Option (Mark Sign) → List Dimension → Membered → Outcome
structure_over m sign dimensions ms = structured (sign_or sign false) ms.members (ranges_behind m (no_ranges 1 ms.faults) dimensions)

unfoldable mutual
  -- a type that begins with a keyword
  pub written : Told → DataType → List Fault → Outcome
  written m (is_data_type.Atom a) faults = atom_typed a faults
  written m (is_data_type.Vector v) faults = vector_typed m v faults
  written m (is_data_type.Text keyword) faults = plain types.text faults
  written m (is_data_type.Enum e) faults = enumeration_typed m e.value faults
  written m (is_data_type.Struct' _ s) faults = structure_typed m s faults

  pub structure_typed : Told → Structure → List Fault → Outcome
  structure_typed m (Structure' keyword packed sign opening _ members closing dimensions) faults =
      structure_over m sign dimensions.items (members_from m (no_members faults) members)

  -- members behind others
  pub members_from : {n : _} → Told → Membered → Row_of-Members n → Membered
  members_from m before end_of-Members = before
  members_from m before (more_of-Members data_type names semicolon rest) =
      members_from m (members_with m names.items.items before.members (referred m data_type before.faults)) rest

  -- a type by its keyword or by its name
  pub referred : Told → TypeRef → List Fault → Outcome
  referred m (is_type_ref.Written d) faults = written m d faults
  referred m (is_type_ref.Named n) faults = named_typed m n faults

-- the same over a list
unfoldable pub members_after : Told → Membered → Members → Membered
members_after m before x = members_with m x.names.items.items before.members (referred m x.data_type before.faults)

unfoldable pub members_behind : Told → Membered → List Members → Membered
members_behind m before [] = before
members_behind m before (x ∷ xs) = members_behind m (members_after m before x) xs

-- and over what a tree holds
abbrev pub members_of_structure : Told → Membered → Vec Members → Membered
members_of_structure m before members = members_from m before (hidden-the_row-Members-0 members)

-- ---- what is said

abbrev pub note_in : Told → Fault → Option Note
note_in m f = note_of m.file m.chunk f

abbrev pub notes_in : Told → List Fault → List Note
notes_in m faults = filter_map (λ f. note_in m f) faults

-- a type, and what is said of its faults
abbrev pub IsTyped : Typed → Told → Outcome → Type 0
IsTyped t m o = (t.ty ≡ o.ty) × (t.notes ≡ notes_in m o.faults)

-- the type of a declared name, and a type with unpacked dimensions before its own
abbrev pub declared : Told → DeclaredType → Outcome
declared m (is_declared.Explicit t) = referred m t []
declared m (is_declared.Implicit sign dimensions) = implicit_typed m sign dimensions.items []

abbrev pub unpacked_over : Told → types.DataType → List Dimension → Outcome
unpacked_over m t dimensions = unpacked_outcome t (ranges_behind m (no_ranges (counted (element_count (types.unpacked_dimensions t))) []) dimensions)
