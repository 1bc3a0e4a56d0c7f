-- What is wrong with an expression: the fault that stands first in token order (own).
use Rattle.std.specs.Prelude.{ℕ, nat_le, if◌then◌else◌, List, [], ◌∷◌, take, Option, Some, None, Result, Ok, Err}
use Rattle.sve_diag.specs.declared.code.Code.{Code}
use Rattle.sve_diag.specs.declared.diag.Note.{Note}
use Rattle.sve_fault.specs.declared.fault.Fault.{Fault}
use Rattle.sve_fault.specs.declared.fault.Said.{Said}
use Rattle.sve_fault.specs.declared.fault.Said.TheVariants.{Nothing, Here, Elsewhere}

-- what a diagnostic names, by its text
abbrev pub argument_of : List ℕ → Option (List ℕ)
argument_of [] = None
argument_of (b ∷ bs) = Some (take 1024 (b ∷ bs))

abbrev pub fault_at : ℕ → Code → Fault
fault_at token code = record { token = token; said = Here code None }

abbrev pub fault_about : ℕ → Code → List ℕ → Fault
fault_about token code text = record { token = token; said = Here code (argument_of text) }

-- what is not said
abbrev pub silent_fault : ℕ → Fault
silent_fault token = record { token = token; said = Nothing }

-- the one that stands first in token order
abbrev pub earlier : Fault → Fault → Fault
earlier a b = if nat_le a.token b.token then a else b

-- the diagnostic of a fault, by the file and the chunk of the expression
abbrev pub said_at : List ℕ → ℕ → ℕ → Said → Option Note
said_at file chunk token Nothing = None
said_at file chunk token (Here code arg) = Some (record { file = file; chunk = chunk; token = token; code = code; arg = arg })
said_at file chunk token (Elsewhere note) = Some note

abbrev pub note_of : List ℕ → ℕ → Fault → Option Note
note_of file chunk fault = said_at file chunk fault.token fault.said

-- what one part, or two, are made into where none has a fault; else the first fault
abbrev pub after : {X Z : Type 0} → Result X Fault → (X → Result Z Fault) → Result Z Fault
after (Ok x) k = k x
after (Err f) k = Err f

abbrev pub pair : {X Y Z : Type 0} → Result X Fault → Result Y Fault → (X → Y → Result Z Fault) → Result Z Fault
pair (Ok x) (Ok y) k = k x y
pair (Ok x) (Err g) k = Err g
pair (Err f) (Ok y) k = Err f
pair (Err f) (Err g) k = Err (earlier f g)
