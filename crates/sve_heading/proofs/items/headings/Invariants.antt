-- What was added so far, and what the items that are left declare, is all that they declare.
use Rattle.std.proofs.Common.{◌≡◌, ◌++◌, drop}
use Rattle.std.specs.List.{flat_map}
use Rattle.sve_heading.specs.Items.{item_headings}
use Rattle.sve_heading.proofs.items.headings.Given as goal

abbrev pub invariant-loop-item : goal.invariant-loop-item
invariant-loop-item l = l.found.items ++ flat_map item_headings (drop l.item-index l.items) ≡ flat_map item_headings l.items
