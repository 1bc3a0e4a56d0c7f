-- What was added so far, and what is told of the notes that are left, is all of it.
use Rattle.std.proofs.Common.{◌≡◌, ◌++◌, drop}
use Rattle.std.specs.List.{flat_map}
use Rattle.sve_diagnostics.specs.Diagnostics.{told_diags}
use Rattle.sve_diagnostics.proofs.placing.add_all_told.Given as goal

abbrev pub invariant-notes : goal.invariant-notes
invariant-notes l = l.diags.items ++ flat_map (told_diags l.units) (drop l.note-index l.notes) ≡ l.initial.diags.items ++ flat_map (told_diags l.units) l.notes
