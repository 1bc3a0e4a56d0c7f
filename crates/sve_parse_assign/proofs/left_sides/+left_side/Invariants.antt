use Rattle.std.proofs.Common.{◌≤◌, ◌-◌, ◌+◌, ◌*◌, length}
use Rattle.sve_token.specs.declared.kind.Kind.TheVariants.{Comma}
use Rattle.sve_grammar.specs.declared.symbol.Symbol.TheVariants.{LeftSide}
use Rattle.sve_grammar.specs.Rule.{tok, sym, ◌∙◌}
use Rattle.sve_grammar.specs.Statements.{more_left_sides}
use Rattle.sve_grammar.specs.Reading.{leaf, at_depth}
use Rattle.sve_grammar.proofs.Loops.{Keeps}
use Rattle.sve_tree.specs.Shape.{further_tree, IsRow}
use Rattle.sve_tree.specs.Statements.{left_side_tree}
use Rattle.sve_parse_assign.proofs.left_sides.+left_side.Given as goal

-- the depth that is left, and at one depth the rank: braces call the further sides, these a side

abbrev pub decreases-left_side : goal.decreases-left_side
decreases-left_side l = (513 - l.depth) * 4

abbrev pub decreases-more_left_sides : goal.decreases-more_left_sides
decreases-more_left_sides l = (513 - l.depth) * 4 + 1

abbrev pub decreases-left_concatenation : goal.decreases-left_concatenation
decreases-left_concatenation l = (513 - l.depth) * 4 + 2

abbrev pub invariant-more_left_sides-turns : goal.invariant-more_left_sides-turns
invariant-more_left_sides-turns l = Keeps l.tokens l.depth (tok Comma ∙ sym LeftSide) (further_tree left_side_tree leaf l.items.items l.separators.items) l.at (at_depth l.tokens l.depth more_left_sides l.from) × IsRow l.fn.first l.items.items l.separators.items × (l.from ≤ l.at)

abbrev pub decreases-more_left_sides-turns : goal.decreases-more_left_sides-turns
decreases-more_left_sides-turns l = length l.tokens - l.at
