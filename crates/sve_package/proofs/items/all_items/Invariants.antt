-- The scope so far is what the items so far make of the first.
use Rattle.std.proofs.Common.{◌≡◌, take}
use Rattle.std.specs.List.{fold}
use Rattle.sve_package.specs.Packages.{with_item}
use Rattle.sve_package.proofs.items.all_items.Given as goal

abbrev pub invariant-items : goal.invariant-items
invariant-items g l = l.contents ≡ fold (with_item (g.T.Typing.reads l.typing) l.packages l.words) l.fn.contents (take l.item-index l.items)
