-- Enumerations: their bases, their names with values, and their dimensions (IEEE 1800-2017, 6.19).
use Rattle.std.specs.Prelude.{ℕ, Bool, true, false, not, if◌then◌else◌, List, [], ◌∷◌, ◌++◌, Option, Some, None}
use Rattle.sve_diag.specs.declared.code.Code.TheVariants.{N11}
use Rattle.sve_tree.specs.declared.data_type.Enumeration.{Enumeration}
use Rattle.sve_tree.specs.declared.data_type.EnumBase.{EnumBase}
use Rattle.sve_tree.specs.declared.data_type.EnumBase.TheVariants as is_base
use Rattle.sve_tree.specs.declared.data_type.EnumName.{EnumName}
use Rattle.sve_tree.specs.declared.data_type.Initializer.{Initializer}
use Rattle.sve_tree.specs.declared.expression.Dimension.{Dimension}
use Rattle.sve_value.specs.Vector.{Vector}
use Rattle.sve_types.specs.DataType.{DataType, data_type, Form, atom, vector, enumeration, structure, text, form_of_type, unpacked_dimensions}
use Rattle.sve_types.specs.Widths.{bits_of, counted}
use Rattle.sve_types.specs.States.{has_four_states}
use Rattle.sve_types.specs.Signs.{is_signed}
use Rattle.sve_types.specs.declared.ty.Atom.TheVariants as is_kind
use Rattle.sve_types.specs.declared.ty.Range.{Range}
use Rattle.sve_fault.specs.Faults.{argument_of, fault_about}
use Rattle.sve_fault.specs.declared.fault.Fault.{Fault}
use Rattle.sve_rule.specs.declared.target.Target.{Target}
use Rattle.sve_type_rule.specs.Ranges.{Dimensioned, no_ranges}
use Rattle.sve_type_rule.specs.Outcomes.{Outcome, plain}
use Rattle.sve_type_rule.specs.Names.{Named, named, no_names, automatic_after, explicit_after}
use Rattle.sve_env.specs.Told.{Told}
use Rattle.sve_form.specs.Tokens.{token_of}
use Rattle.sve_simple_type.specs.Constants.{measured}
use Rattle.sve_enum_type.specs.Earlier.{told_among, last_value, with_new}
use Rattle.sve_enum_type.specs.declared.earlier.Earlier.{Earlier}
use Rattle.sve_enum_type.specs.declared.enumeration.Listed.{Listed}
use Rattle.sve_simple_type.specs.Simple.{ranges_behind, atom_typed, vector_typed, named_typed}

-- the base is an integer type, and `int` where none is written, or another type is
abbrev pub form_can_be_base : Form → Bool
form_can_be_base (atom a s) = true
form_can_be_base (vector v s) = true
form_can_be_base (enumeration id of names) = false
form_can_be_base (structure s ms) = false
form_can_be_base text = false

abbrev pub no_unpacked : List Range → Bool
no_unpacked [] = true
no_unpacked (r ∷ rs) = false

abbrev pub can_be_base : DataType → Bool
can_be_base t = if form_can_be_base (form_of_type t) then no_unpacked (unpacked_dimensions t) else false

abbrev pub int_form : Form
int_form = atom is_kind.Int true

abbrev pub base_over : ℕ → List ℕ → Outcome → Outcome
base_over token name o = if can_be_base o.ty then o else plain int_form (o.faults ++ fault_about token N11 name ∷ [])

abbrev pub base_by : Told → EnumBase → List Fault → Outcome
base_by m (is_base.Atom a) faults = atom_typed a faults
base_by m (is_base.Vector v) faults = vector_typed m v faults
base_by m (is_base.Named n) faults = base_over n.name.name (m.text n.name.name) (named_typed m n faults)

abbrev pub base_of : Told → Option EnumBase → List Fault → Outcome
base_of m None faults = plain int_form faults
base_of m (Some b) faults = base_by m b faults

abbrev pub target_of : DataType → Target
target_of t = record { width = counted (bits_of t); signed = is_signed t; two_state = not (has_four_states t) }

-- names that have values, and all names before the next one
pub record Listing : Type 0 where
  pub named : Named
  pub earlier : List Earlier

-- what the program holds of them
abbrev pub listing : Listed → Listing
listing l = record { named = named l.names; earlier = l.earlier }

abbrev pub name_value : Told → DataType → ℕ → Option Initializer → Listing → Named
name_value m base token None before = automatic_after (target_of base) token (m.text token) before.named
name_value m base token (Some i) before = explicit_after (target_of base) token (m.text token) (token_of i.value.value) (measured (told_among m base before.earlier) i.value.value) before.named

abbrev pub listed : Bool → List ℕ → List Earlier → Named → Listing
listed is_declared name earlier n = record { named = n; earlier = with_new is_declared earlier (argument_of name) (last_value n.last) }

unfoldable pub name_after : Told → DataType → Listing → EnumName → Listing
name_after m base before n = listed (m.declared_before n.name) (m.text n.name) before.earlier (name_value m base n.name n.value before)

unfoldable pub names_behind : Told → DataType → Listing → List EnumName → Listing
names_behind m base before [] = before
names_behind m base before (n ∷ ns) = names_behind m base (name_after m base before n) ns

abbrev pub no_name : List Fault → Listing
no_name faults = record { named = no_names faults; earlier = [] }

abbrev pub enumerated : List ℕ → ℕ → ℕ → DataType → List (List ℕ × Vector) → Dimensioned → Outcome
enumerated file chunk keyword base names d = record { ty = data_type (enumeration (file, chunk, keyword) base names) d.ranges []; faults = d.faults }

abbrev pub names_over : Told → ℕ → List Dimension → DataType → Named → Outcome
names_over m keyword dimensions base n = enumerated m.file m.chunk keyword base n.names (ranges_behind m (no_ranges 1 n.faults) dimensions)

abbrev pub enumeration_over : Told → Enumeration → Outcome → Outcome
enumeration_over m e base = names_over m e.keyword e.dimensions.items base.ty (names_behind m base.ty (no_name base.faults) e.names.items.items).named

unfoldable pub enumeration_typed : Told → Enumeration → List Fault → Outcome
enumeration_typed m e faults = enumeration_over m e (base_of m e.base faults)
