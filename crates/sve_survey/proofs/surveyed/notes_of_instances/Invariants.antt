use Rattle.std.proofs.Common.{◌≡◌, take}
use Rattle.std.specs.List.{flat_map}
use Rattle.sve_survey.specs.Notes.{notes_of}
use Rattle.sve_survey.proofs.surveyed.notes_of_instances.Given as goal

abbrev pub invariant-instances : goal.invariant-instances
invariant-instances l = l.notes.items ≡ flat_map notes_of (take l.instance-index l.instances)
