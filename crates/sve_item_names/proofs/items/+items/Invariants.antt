-- What was added so far, and what the items that are left declare, is all that they declare.
use Rattle.std.proofs.Common.{◌≡◌, ◌++◌, drop}
use Rattle.std.specs.List.{flat_map}
use Rattle.sve_item_names.specs.Items.{item_names}
use Rattle.sve_item_names.proofs.items.+items.Given as goal

abbrev pub invariant-in_items-loop-item : goal.invariant-in_items-loop-item
invariant-in_items-loop-item l = l.found.items ++ flat_map item_names (drop l.item-index l.items) ≡ l.initial.found.items ++ flat_map item_names l.items
