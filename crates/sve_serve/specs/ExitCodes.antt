-- What the program tells its caller of how a run ended (own).
use Rattle.std.specs.Prelude.{ℕ, List, Option, Some, None, codes}
use Rattle.sve_serve.specs.declared.status.Status.{Status}
use Rattle.sve_serve.specs.declared.status.Status.TheVariants.{Done, Usage, BadSession, ReadFault, WriteFault, TooLarge, NoMemory}

-- the exit status of the program
abbrev pub exit_code : Status → ℕ
exit_code Done = 0
exit_code Usage = 2
exit_code BadSession = 3
exit_code ReadFault = 4
exit_code WriteFault = 5
exit_code TooLarge = 6
exit_code NoMemory = 7

-- the line on standard error, where the output says nothing of how the run ended
abbrev pub complaint_of : Status → Option (List ℕ)
complaint_of ReadFault = Some (codes "svserve: reading failed")
complaint_of WriteFault = Some (codes "svserve: writing failed")
complaint_of NoMemory = Some (codes "svserve: out of memory")
complaint_of Done = None
complaint_of Usage = None
complaint_of BadSession = None
complaint_of TooLarge = None
