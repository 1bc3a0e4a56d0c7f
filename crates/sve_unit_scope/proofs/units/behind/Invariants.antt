-- The scope so far is what the elements so far make of the first.
use Rattle.std.proofs.Common.{◌≡◌, take}
use Rattle.std.specs.List.{fold}
use Rattle.sve_unit_scope.specs.Units.{with_unit_items}
use Rattle.sve_unit_scope.proofs.units.behind.Given as goal

abbrev pub invariant-elements : goal.invariant-elements
invariant-elements g l = l.contents ≡ fold (with_unit_items (g.T.Typing.reads l.typing) l.packages l.file) l.fn.contents (take l.each-index l.elements)
