use Rattle.std.proofs.Common.{◌≤◌, ◌-◌, length}
use Rattle.sve_grammar.specs.Expressions.{dimension, dimensions}
use Rattle.sve_grammar.specs.Reading.{at_depth}
use Rattle.sve_grammar.proofs.Loops.{Keeps}
use Rattle.sve_tree.specs.Shape.{others_tree, BeginsWith}
use Rattle.sve_tree.specs.Expressions.{dimension_tree}
use Rattle.sve_parse_type.proofs.typed_names.more_dimensions.Given as goal

abbrev pub invariant-turns : goal.invariant-turns
invariant-turns l = Keeps l.tokens l.depth dimension (others_tree dimension_tree l.items.items) l.at (at_depth l.tokens l.depth dimensions l.from) × BeginsWith l.fn.first l.items.items × (l.from ≤ l.at)

abbrev pub decreases-turns : goal.decreases-turns
decreases-turns l = length l.tokens - l.at
