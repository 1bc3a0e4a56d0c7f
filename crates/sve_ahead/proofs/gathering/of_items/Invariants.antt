-- What the names so far come to.
use Rattle.std.proofs.Common.{◌≡◌, take}
use Rattle.std.specs.List.{fold}
use Rattle.sve_ahead.specs.Ahead.{with_item_name}
use Rattle.sve_ahead.proofs.gathering.of_items.Given as goal

abbrev pub invariant-items : goal.invariant-items
invariant-items l = l.gathered ≡ fold (with_item_name l.words) l.fn.gathered (take l.item-index l.items)
