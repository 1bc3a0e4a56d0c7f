-- Evaluations whose count has no end (own): it stands at its last value, which is the most that may be.
use Rattle.std.specs.Prelude.{◌-◌, ◌^◌, Result, Ok, Err}
use Rattle.sve_fault.specs.declared.fuel.Fuel.{Fuel}
use Rattle.sve_fault.specs.declared.fuel.Halted.{Halted}
use Rattle.sve_fault.specs.declared.fuel.Halted.TheVariants.{Over, NoMemory}

abbrev pub endless : Fuel
endless = record { used = 0; most = 2 ^ 64 - 1 }

-- it is not halted, but for want of memory
abbrev pub IsEnded : {X : Type 0} → Result X Halted → Type 0
IsEnded (Ok x) = Unit {0}
IsEnded (Err Over) = ⊥
IsEnded (Err NoMemory) = Unit {0}
