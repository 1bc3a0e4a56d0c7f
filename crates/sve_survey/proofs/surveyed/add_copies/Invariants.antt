use Rattle.std.proofs.Common.{◌≡◌, ◌++◌, take}
use Rattle.sve_survey.proofs.surveyed.add_copies.Given as goal

abbrev pub invariant-copied : goal.invariant-copied
invariant-copied l = l.notes.items ≡ l.initial.notes.items ++ take l.note-index l.copied
