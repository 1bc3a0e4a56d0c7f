-- Instances that would stand too deep, and their places (own).
use Rattle.std.specs.Prelude.{ℕ, ◌-◌, Option, option_map, nat_eq, if◌then◌else◌, List, [], ◌∷◌, length, map, slice_get}
use Rattle.sve_bytes.specs.declared.path.Step.{Step}
use Rattle.sve_diag.specs.declared.diag.Note.{Note}
use Rattle.sve_diag.specs.declared.code.Code.TheVariants.{E16}
use Rattle.sve_facts.specs.declared.facts.BodyScope.{BodyScope}
use Rattle.sve_facts.specs.declared.facts.Child.{Child}
use Rattle.sve_facts.specs.declared.facts.Facts.{Facts}
use Rattle.sve_design.specs.declared.visits.Visit.{Visit}

-- the name of the last step of a path
abbrev pub last_name : List Step → Option (List ℕ)
last_name steps = option_map (λ (s : Step). s.name) (slice_get steps (length steps - 1))

-- what is to be said of an instance that would stand too deep: E16 at its name, in the text of its parent
abbrev pub deep_note : BodyScope → Child → Note
deep_note own child = record { file = own.scope.file; chunk = own.scope.chunk; token = child.token; code = E16; arg = last_name child.path.steps }

abbrev pub notes_of : List BodyScope → List Child → List Note
notes_of [] children = []
notes_of (own ∷ blocks) children = map (deep_note own) children

-- what is to be said of the instances in a body: something where it stands at depth 64 alone, since they would stand at 65
abbrev pub deep_notes : Visit → Facts → List Note
deep_notes visit facts = if nat_eq visit.depth 64 then notes_of facts.scopes facts.children else []
