use Rattle.std.proofs.Common.{◌≤◌, ◌-◌, length}
use Rattle.sve_grammar.specs.Items.{unit_item, unit_items}
use Rattle.sve_grammar.specs.Reading.{at_depth}
use Rattle.sve_grammar.proofs.Loops.{Keeps}
use Rattle.sve_tree.specs.Shape.{repeated_tree}
use Rattle.sve_tree.specs.Elements.{unit_item_tree}
use Rattle.sve_parse_flat_item.proofs.package_items.unit_items.Given as goal

abbrev pub invariant-turns : goal.invariant-turns
invariant-turns l = Keeps l.tokens l.depth unit_item (repeated_tree unit_item_tree l.items.items) l.at (at_depth l.tokens l.depth unit_items l.from) × (l.from ≤ l.at)

abbrev pub decreases-turns : goal.decreases-turns
decreases-turns l = length l.tokens - l.at
