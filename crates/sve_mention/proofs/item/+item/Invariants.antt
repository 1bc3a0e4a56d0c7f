-- What was added so far, and what the items that are left mention, is all that they mention.
use Rattle.std.proofs.Common.{◌≡◌, ◌++◌, drop}
use Rattle.std.specs.List.{flat_map}
use Rattle.sve_mention.specs.InItems.{item_mentions, case_generate_item_mentions}
use Rattle.sve_mention.proofs.item.+item.Given as goal

abbrev pub invariant-in_items-loop-item : goal.invariant-in_items-loop-item
invariant-in_items-loop-item l = l.found.items ++ flat_map item_mentions (drop l.item-index l.items) ≡ l.initial.found.items ++ flat_map item_mentions l.items

abbrev pub invariant-in_case_generate_items-loop-item : goal.invariant-in_case_generate_items-loop-item
invariant-in_case_generate_items-loop-item l = l.found.items ++ flat_map case_generate_item_mentions (drop l.item-index l.items) ≡ l.initial.found.items ++ flat_map case_generate_item_mentions l.items
