-- The scope so far is what the items so far make of the first.
use Rattle.std.proofs.Common.{◌≡◌, take}
use Rattle.sve_contents.specs.Imports.{with_items}
use Rattle.sve_contents.proofs.contents.Contents.imported.Given as goal

abbrev pub invariant-items : goal.invariant-items
invariant-items l = l.contents ≡ with_items l.packages l.words l.fn.self (take l.item-index l.import.items.items.items)
