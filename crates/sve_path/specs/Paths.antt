-- Selects of a name, in order (IEEE 1800-2017, 7.2.1, 7.4.5 and 11.5.1).
use Rattle.std.specs.Prelude.{ℕ, List, [], ◌∷◌, Result, Ok, Err}
use Rattle.sve_diag.specs.declared.code.Code.TheVariants.{C01}
use Rattle.sve_operand.specs.Meaning.{settled_meaning}
use Rattle.sve_fault.specs.Faults.{fault_at, earlier}
use Rattle.sve_fault.specs.declared.fault.Fault.{Fault}
use Rattle.sve_rule.specs.Judged.{Judged}
use Rattle.sve_rule.specs.Dimensions.{range_judged, size_judged}
use Rattle.sve_types.specs.declared.ty.Range.{Range}
use Rattle.sve_tree.specs.declared.word.ScopedName.{ScopedName}
use Rattle.sve_select.specs.Pieces.{Piece}
use Rattle.sve_select.specs.Selects.{begun_judged, selected_judged, ended_judged}
use Rattle.sve_select.specs.Members.{member_judged}
use Rattle.sve_select.specs.Extents.{extent_judged, enlarged_judged, extent_bits}
use Rattle.sve_select.specs.declared.choice.Choice.{Choice}
use Rattle.sve_select.specs.declared.choice.Choice.TheVariants as is_choice
use Rattle.sve_select.specs.declared.extent.Extent.{Extent}
use Rattle.sve_env.specs.Told.{Told}
use Rattle.sve_form.specs.Tokens.{name_token}
use Rattle.sve_path.specs.declared.steps.Step.{Step}
use Rattle.sve_path.specs.declared.steps.Step.TheVariants as is_step

-- ---- the value at the end of a path

abbrev pub piece_after : Told → ScopedName → Result Piece Fault → Step → Result Piece Fault
piece_after m name before (is_step.Member token) = member_judged (name_token name) name.name token (m.text token) before
piece_after m name before (is_step.Choice opening choice) = selected_judged (name_token name) name.name (m.text name.name) before choice

unfoldable pub pieces_behind : Told → ScopedName → Result Piece Fault → List Step → Result Piece Fault
pieces_behind m name before [] = before
pieces_behind m name before (step ∷ rest) = pieces_behind m name (piece_after m name before step) rest

abbrev pub begun : Told → ScopedName → Result Piece Fault
begun m name = begun_judged (name_token name) name.name (m.text name.name) (m.constant name) (m.ty name)

unfoldable pub path_judged : Told → ScopedName → List Step → Judged
path_judged m name steps = ended_judged (pieces_behind m name (begun m name) steps)

-- ---- a type by its name with dimensions of its own, as `$bits` takes it (20.6.2)

abbrev pub bounds_by : ℕ → ℕ → Choice → Result Range Fault
bounds_by token opening (is_choice.Place index) = size_judged opening (Ok (settled_meaning index))
bounds_by token opening (is_choice.Between left_token l right_token r) = range_judged opening (Ok (settled_meaning l)) (Ok (settled_meaning r))
bounds_by token opening (is_choice.Upward from width_token width) = Err (fault_at token C01)
bounds_by token opening (is_choice.Downward from width_token width) = Err (fault_at token C01)

abbrev pub bounds_of : ℕ → ℕ → Result Choice Fault → Result Range Fault
bounds_of token opening (Ok choice) = bounds_by token opening choice
bounds_of token opening (Err f) = Err f

abbrev pub outside_extent : ℕ → Result Extent Fault → Result Extent Fault
outside_extent token (Ok e) = Err (fault_at token C01)
outside_extent token (Err f) = Err (earlier f (fault_at token C01))

abbrev pub extent_after : Told → ScopedName → Result Extent Fault → Step → Result Extent Fault
extent_after m name before (is_step.Member token) = outside_extent (name_token name) before
extent_after m name before (is_step.Choice opening choice) = enlarged_judged opening before (bounds_of (name_token name) opening choice)

unfoldable pub extents_behind : Told → ScopedName → Result Extent Fault → List Step → Result Extent Fault
extents_behind m name before [] = before
extents_behind m name before (step ∷ rest) = extents_behind m name (extent_after m name before step) rest

unfoldable pub path_bits : Told → ScopedName → List Step → Result ℕ Fault
path_bits m name steps = extent_bits (extents_behind m name (extent_judged name.name (m.text name.name) (m.ty name)) steps)
