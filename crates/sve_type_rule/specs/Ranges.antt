-- Dimensions in a row (IEEE 1800-2017, 7.4): those that stand, how many places they have together, and what is wrong with the others.
use Rattle.std.specs.Prelude.{ℕ, ◌*◌, nat_lt, Bool, if◌then◌else◌, List, [], ◌∷◌, ◌++◌, Result, Ok, Err}
use Rattle.sve_diag.specs.declared.code.Code.TheVariants.{C06}
use Rattle.sve_types.specs.Dimensions.{place_count}
use Rattle.sve_types.specs.declared.ty.Range.{Range}
use Rattle.sve_fault.specs.Faults.{fault_at}
use Rattle.sve_fault.specs.declared.fault.Fault.{Fault}
use Rattle.sve_type_rule.specs.declared.ranges.Ranges.{Ranges}

-- faults, and behind them one more, unless all is fine
abbrev pub noted : Bool → Fault → List Fault → List Fault
noted is_fine f faults = if is_fine then faults else faults ++ f ∷ []

pub record Dimensioned : Type 0 where
  pub ranges : List Range
  pub places : ℕ
  pub faults : List Fault

-- what the program holds of them
abbrev pub dimensioned : Ranges → Dimensioned
dimensioned r = record { ranges = r.ranges.items; places = r.places; faults = r.faults.items }

-- before the first one: the places of those that a type by its name has itself
abbrev pub no_ranges : ℕ → List Fault → Dimensioned
no_ranges places faults = record { ranges = []; places = places; faults = faults }

-- all have 65,536 places together at the most (own); the one with which there are more is left out
abbrev pub known_range : ℕ → Dimensioned → Range → Dimensioned
known_range opening b r =
    if nat_lt 65536 (b.places * place_count r) then record { ranges = b.ranges; places = b.places; faults = b.faults ++ fault_at opening C06 ∷ [] }
    else record { ranges = b.ranges ++ r ∷ []; places = b.places * place_count r; faults = b.faults }

abbrev pub range_after : ℕ → Dimensioned → Result Range Fault → Dimensioned
range_after opening b (Ok r) = known_range opening b r
range_after opening b (Err f) = record { ranges = b.ranges; places = b.places; faults = b.faults ++ f ∷ [] }

unfoldable pub ranged : ℕ → Dimensioned → Result Range Fault → Dimensioned
ranged opening before range = range_after opening before range
