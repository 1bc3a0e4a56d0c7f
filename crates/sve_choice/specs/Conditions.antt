-- The condition of a generate `if` (IEEE 1800-2017, 27.5), by what it means.
use Rattle.std.specs.Prelude.{Bool, false, List, [], ◌∷◌, Option, Some, None, Ok, Err}
use Rattle.sve_value.specs.Truths.{truth_of}
use Rattle.sve_operand.specs.Meaning.{own_value}
use Rattle.sve_fault.specs.declared.fault.Fault.{Fault}
use Rattle.sve_rule.specs.Judged.{Judged}

-- what is known to be true; what is unknown counts as false (own)
abbrev pub is_true : Option Bool → Bool
is_true None = false
is_true (Some truth) = truth

-- a condition holds where its value by itself has a 1 bit; one with a fault has no value, and counts as false (own)
abbrev pub holds : Judged → Bool
holds (Ok a) = is_true (truth_of (own_value a))
holds (Err fault) = false

-- its fault, where it has one
abbrev pub fault_in : Judged → Option Fault
fault_in (Ok a) = None
fault_in (Err fault) = Some fault

abbrev pub faults_in : Judged → List Fault
faults_in (Ok a) = []
faults_in (Err fault) = fault ∷ []
