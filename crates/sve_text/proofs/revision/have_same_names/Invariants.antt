use Rattle.std.proofs.Common.{◌≡◌, drop}
use Rattle.sve_text.specs.Files.{keep_names}
use Rattle.sve_text.specs.Tree.{rows_in}
use Rattle.sve_text.proofs.revision.have_same_names.Given as goal

abbrev pub invariant-edits : goal.invariant-edits
invariant-edits l =
    keep_names (rows_in l.before) (rows_in l.after) (drop l.edit-index l.edits) ≡ keep_names (rows_in l.before) (rows_in l.after) l.edits
