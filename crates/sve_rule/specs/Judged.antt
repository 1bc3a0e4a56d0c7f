-- What an expression means, or its first fault.
use Rattle.std.specs.Prelude.{Result, Ok, Err}
use Rattle.sve_operand.specs.Meaning.{Meaning}
use Rattle.sve_operand.specs.Pending.{meaning_of}
use Rattle.sve_operand.specs.declared.operand.Operand.{Operand}
use Rattle.sve_fault.specs.declared.fault.Fault.{Fault}

abbrev pub Judged : Type 0
Judged = Result Meaning Fault

-- what the program holds of it
abbrev pub judged : Result Operand Fault → Judged
judged (Ok a) = Ok (meaning_of a)
judged (Err f) = Err f

abbrev pub armed : Result (Operand × Operand) Fault → Result (Meaning × Meaning) Fault
armed (Ok arms) = Ok (meaning_of arms.0, meaning_of arms.1)
armed (Err f) = Err f
