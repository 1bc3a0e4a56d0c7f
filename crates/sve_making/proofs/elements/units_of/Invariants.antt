use Rattle.std.proofs.Common.{◌≡◌, take}
use Rattle.std.specs.List.{filter}
use Rattle.sve_front.specs.Units.{is_unit_name}
use Rattle.sve_making.proofs.elements.units_of.Given as goal

abbrev pub invariant-loop-name : goal.invariant-loop-name
invariant-loop-name l = l.units.items ≡ filter is_unit_name (take l.name-index l.names)
