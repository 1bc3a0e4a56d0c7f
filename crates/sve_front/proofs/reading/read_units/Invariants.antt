-- What the units so far gave, then what the others give, is what all give.
use Rattle.std.proofs.Common.{◌≡◌, ◌++◌, [], map, drop}
use Rattle.std.specs.List.{flat_map}
use Rattle.sve_front.specs.Diagnostics.{unit_diags}
use Rattle.sve_front.specs.Elements.{AreElementsOf}
use Rattle.sve_table.specs.Tables.{with_items, table_of}
use Rattle.sve_front.specs.Readings.{AreUnitsOf, file_of, itself}
use Rattle.sve_front.proofs.Additions.{GoesOn}
use Rattle.sve_front.proofs.reading.read_units.Given as goal

abbrev pub invariant-units : goal.invariant-units
invariant-units l = record {
  elements : GoesOn (AreElementsOf l.files.rows l.name-items) (AreElementsOf l.files.rows (drop l.name-index l.name-items)) [] l.elements.items;
  diags : l.diags.items ++ flat_map (unit_diags l.files.rows) (drop l.name-index l.name-items) ≡ flat_map (unit_diags l.files.rows) l.name-items;
  units : AreUnitsOf l.files.rows l.units;
  names : with_items itself (map file_of l.units) (drop l.name-index l.name-items) ≡ table_of itself l.name-items;
}
