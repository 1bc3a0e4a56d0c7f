-- The names so far that are units.
use Rattle.std.proofs.Common.{◌≡◌, take}
use Rattle.std.specs.List.{filter}
use Rattle.sve_text.specs.Rows.{names_in}
use Rattle.sve_front.specs.Units.{is_unit_name}
use Rattle.sve_front.proofs.unit.unit_names.Given as goal

abbrev pub invariant-files : goal.invariant-files
invariant-files l = l.names.items ≡ filter is_unit_name (take l.i (names_in l.files.rows))
