-- What is counted on the way through statements (own): the count stands at its last value.
use Rattle.sve_use.specs.Use.{Use}
use Rattle.sve_fault.specs.Counts.{counted_on}
use Rattle.sve_env.specs.Told.{Told}
use Rattle.sve_statement_use.specs.Steps.{Local}
use Rattle.sve_count.specs.declared.counting.Counting.{Counting}
use Rattle.sve_count.specs.Statements.{local_nodes}

-- a name that is used counts nothing
abbrev pub unchanged : {E : Type 0} → Counting E → Use → Counting E
unchanged c name = c

abbrev pub counted_local : {E : Type 0} → (E → Told) → Counting E → Local → Counting E
counted_local told c local = record c { used = counted_on c.used (local_nodes (told c.env.now) local) }
