-- A type by its name, with selects as its packed dimensions (own): where a statement can begin with a name, that it was a type is told behind
-- them (IEEE 1800-2017, 6.18 and 7.4.1).
use Rattle.std.specs.Prelude.{ℕ, ◌+◌, Bool, true, false, if◌then◌else◌, List, [], ◌∷◌, Result, Ok, Err}
use Rattle.sve_diag.specs.declared.code.Code.TheVariants.{N11}
use Rattle.sve_types.specs.declared.ty.Range.{Range}
use Rattle.sve_fault.specs.Faults.{fault_about}
use Rattle.sve_fault.specs.declared.fault.Fault.{Fault}
use Rattle.sve_tree.specs.declared.word.ScopedName.{ScopedName}
use Rattle.sve_tree.specs.declared.expression.Range as places
use Rattle.sve_tree.specs.declared.expression.Range.TheVariants as is_range
use Rattle.sve_tree.specs.declared.expression.Select.{Select}
use Rattle.sve_tree.specs.declared.expression.Select.TheVariants as is_select
use Rattle.sve_rule.specs.Dimensions.{range_judged, size_judged}
use Rattle.sve_env.specs.Told.{Told}
use Rattle.sve_env.specs.Nodes.{range_nodes}
use Rattle.sve_simple_type.specs.Constants.{measured}
use Rattle.sve_type_rule.specs.Ranges.{Dimensioned, no_ranges, ranged}
use Rattle.sve_type_rule.specs.Outcomes.{Behind, Outcome, named as named_behind, packed_outcome}
use Rattle.sve_simple_type.specs.Simple.{named_over, type_named}

-- what is no dimension is the wrong thing behind the name of a type
abbrev pub no_dimension : Told → ScopedName → Fault
no_dimension m name = fault_about name.name N11 (m.text name.name)

-- the bounds in brackets: `[n]` is `[0:n-1]`
unfoldable pub bounds_of : Told → ScopedName → ℕ → places.Range → Result Range Fault
bounds_of m name opening (is_range.Index' _ index) = size_judged opening (measured m index)
bounds_of m name opening (is_range.Between' _ l colon _ r) = range_judged opening (measured m l) (measured m r)
bounds_of m name opening (is_range.Upward' _ from at _ width) = Err (no_dimension m name)
bounds_of m name opening (is_range.Downward' _ from at _ width) = Err (no_dimension m name)

abbrev pub select_opening : Select → ℕ
select_opening (is_select.Member dot member) = dot
select_opening (is_select.Range' opening range closing) = opening

unfoldable pub select_range : Told → ScopedName → Select → Result Range Fault
select_range m name (is_select.Member dot member) = Err (no_dimension m name)
select_range m name (is_select.Range' opening range closing) = bounds_of m name opening range

-- how many nodes their bounds have
unfoldable pub bound_nodes : Told → Select → ℕ
bound_nodes m (is_select.Member dot member) = 0
bound_nodes m (is_select.Range' opening range closing) = range_nodes m range

unfoldable pub bound_count : Told → List Select → ℕ
bound_count m [] = 0
bound_count m (s ∷ ss) = bound_nodes m s + bound_count m ss

-- from the left
unfoldable pub ranges_selected : Told → ScopedName → Dimensioned → List Select → Dimensioned
ranges_selected m name before [] = before
ranges_selected m name before (s ∷ ss) = ranges_selected m name (ranged (select_opening s) before (select_range m name s)) ss

-- ---- the type

abbrev pub no_selects : List Select → Bool
no_selects [] = true
no_selects (s ∷ ss) = false

abbrev pub no_faults : List Fault → Bool
no_faults [] = true
no_faults (f ∷ fs) = false

-- by the name alone
abbrev pub alone_typed : Told → ScopedName → Outcome
alone_typed m name = named_over m [] (named_behind name.name (m.text name.name) true [] (type_named m name))

-- a name that is no type stands for one bit, whatever stands behind it
abbrev pub name_selected : ℕ → List ℕ → Bool → Outcome → Behind
name_selected token name is_plain o =
    if no_faults o.faults then named_behind token name is_plain o.faults (Ok o.ty) else record { ty = o.ty; is_packed = false; places = 1; faults = o.faults }

abbrev pub selected_over : Told → ScopedName → List Select → Behind → Outcome
selected_over m name selects b = packed_outcome b.ty b.is_packed (ranges_selected m name (no_ranges b.places b.faults) selects)

abbrev pub selected : Told → ScopedName → List Select → Outcome
selected m name selects = selected_over m name selects (name_selected name.name (m.text name.name) (no_selects selects) (alone_typed m name))
