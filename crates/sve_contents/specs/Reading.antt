-- What comes into a scope while its text is read, and what is said of it (IEEE 1800-2017, 3.13 and 26.3).
use Rattle.std.specs.Prelude.{ℕ, List, [], ◌∷◌, ◌++◌, Option, Some, None}
use Rattle.sve_diag.specs.declared.code.Code.{Code}
use Rattle.sve_diag.specs.declared.code.Code.TheVariants.{N02, N07}
use Rattle.sve_diag.specs.declared.diag.Note.{Note}
use Rattle.sve_fault.specs.declared.fault.Fault.{Fault}
use Rattle.sve_fault.specs.Faults.{note_of}
use Rattle.sve_scope.specs.declared.declared.Declared.{Declared}
use Rattle.sve_scope.specs.declared.scope.Scope.{Scope}
use Rattle.sve_scope.specs.declared.scope.Entered.{Entered}
use Rattle.sve_scope.specs.declared.scope.Entered.TheVariants.{New, Again, Clashing}
use Rattle.sve_scope.specs.declared.spot.Spot.{Spot}
use Rattle.sve_scope.specs.Spots.{spot}
use Rattle.sve_scope.specs.Scopes.{announcing, declared_as, declaring}
use Rattle.sve_contents.specs.declared.contents.Contents.{Contents}
use Rattle.sve_contents.specs.declared.contents.DottedName.{DottedName}
use Rattle.sve_contents.specs.declared.contents.Entering.{Entering}

-- a scope with nothing around it
abbrev pub empty_contents : Scope → Contents
empty_contents s = record { scope = s; around = []; notes = []; dotted = [] }

abbrev pub with_scope : Contents → Scope → Contents
with_scope c s = record c { scope = s }

-- a token of its text
abbrev pub spot_in : Contents → ℕ → Spot
spot_in c token = spot c.scope.file c.scope.chunk token

-- a note more
abbrev pub noted : Contents → Note → Contents
noted c note = record c { notes = c.notes ++ note ∷ [] }

-- and many notes more
abbrev pub noted_all : Contents → List Note → Contents
noted_all c notes = record c { notes = c.notes ++ notes }

-- a hierarchical name more that is used
abbrev pub with_dotted : Contents → DottedName → Contents
with_dotted c name = record c { dotted = c.dotted ++ name ∷ [] }

-- those so far are taken out
abbrev pub without_dotted : Contents → Contents
without_dotted c = record c { dotted = [] }

-- this is said of a name at a token of its text
abbrev pub remarked : Contents → ℕ → Code → Option (List ℕ) → Contents
remarked c token code n = noted c (record { file = c.scope.file; chunk = c.scope.chunk; token = token; code = code; arg = n })

-- what is to be said of a fault in its text
abbrev pub noted_if : Contents → Option Note → Contents
noted_if c None = c
noted_if c (Some note) = noted c note

abbrev pub said : Contents → Fault → Contents
said c fault = noted_if c (note_of c.scope.file c.scope.chunk fault)

-- a second declaration of a name is said, and one whose name is imported
abbrev pub with_entry : Contents → ℕ → List ℕ → Entered → Contents
with_entry c token n New = c
with_entry c token n Again = remarked c token N02 (Some n)
with_entry c token n Clashing = remarked c token N07 (Some n)

-- what comes in by a declaration
abbrev pub declaration_entering : Contents → Declared → Entering
declaration_entering c d = record { contents = with_scope c (declaring c.scope d); name = d.name; token = d.at.token; entered = declared_as c.scope d.name }

-- a declaration more
abbrev pub declaring_in : Contents → Declared → Contents
declaring_in c d = with_entry (with_scope c (declaring c.scope d)) d.at.token d.name (declared_as c.scope d.name)

-- a declaration more that stands further on
abbrev pub announcing_in : Contents → Declared → Contents
announcing_in c d = with_scope c (announcing c.scope d)
