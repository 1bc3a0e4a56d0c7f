-- What was added so far, and what the notes that are left say, is all of it.
use Rattle.std.proofs.Common.{◌≡◌, ◌++◌, drop}
use Rattle.std.specs.List.{flat_map}
use Rattle.sve_diagnostics.specs.Diagnostics.{note_diags}
use Rattle.sve_diagnostics.proofs.placing.add_notes.Given as goal

abbrev pub invariant-notes : goal.invariant-notes
invariant-notes l = l.diags.items ++ flat_map (note_diags l.units) (drop l.note-index l.notes) ≡ l.initial.diags.items ++ flat_map (note_diags l.units) l.notes
