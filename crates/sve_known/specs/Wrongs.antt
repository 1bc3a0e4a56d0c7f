-- What is wrong with a name, as the program tells it (own).
use Rattle.std.specs.Prelude.{option_map}
use Rattle.sve_fault.specs.declared.fault.Fault.{Fault}
use Rattle.sve_fault.specs.declared.fault.Said.TheVariants.{Here}
use Rattle.sve_known.specs.declared.naming.Wrong.{Wrong}

abbrev pub fault_of : Wrong → Fault
fault_of wrong = record { token = wrong.token; said = Here wrong.code (option_map (λ n. n.now) wrong.name) }
