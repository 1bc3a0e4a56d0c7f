-- What was added so far, and what the items that are left mention, is all that they mention.
use Rattle.std.proofs.Common.{◌≡◌, ◌++◌, drop}
use Rattle.std.specs.List.{flat_map}
use Rattle.sve_mention.specs.InElements.{unit_item_mentions}
use Rattle.sve_mention.proofs.element.in_unit_items.Given as goal

abbrev pub invariant-loop-item : goal.invariant-loop-item
invariant-loop-item l = l.found.items ++ flat_map unit_item_mentions (drop l.item-index l.items) ≡ l.initial.found.items ++ flat_map unit_item_mentions l.items
