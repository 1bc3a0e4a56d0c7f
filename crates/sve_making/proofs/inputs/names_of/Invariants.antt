use Rattle.std.proofs.Common.{◌≡◌, take}
use Rattle.std.specs.List.{filter}
use Rattle.sve_text.specs.Rows.{is_there, names_in}
use Rattle.sve_making.proofs.inputs.names_of.Given as goal

abbrev pub invariant-files : goal.invariant-files
invariant-files l = l.names.items ≡ filter (is_there l.files.rows) (take l.i (names_in l.files.rows))
