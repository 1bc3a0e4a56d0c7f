-- The scope so far is what the elements so far make of the first.
use Rattle.std.proofs.Common.{◌≡◌, take}
use Rattle.std.specs.List.{fold}
use Rattle.sve_package.specs.Units.{with_element}
use Rattle.sve_package.proofs.unit.with_elements.Given as goal

abbrev pub invariant-elements : goal.invariant-elements
invariant-elements g l = l.contents ≡ fold (with_element (g.T.Typing.reads l.typing) l.packages) l.fn.contents (take l.each-index l.elements)
