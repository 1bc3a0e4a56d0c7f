use Rattle.std.proofs.Common.{◌≤◌, ◌-◌, ◌+◌, ◌*◌, length}
use Rattle.sve_grammar.specs.Statements.{block_item, block_items, case_item, case_items}
use Rattle.sve_grammar.specs.Reading.{at_depth}
use Rattle.sve_grammar.proofs.Loops.{Keeps}
use Rattle.sve_tree.specs.Shape.{repeated_tree, others_tree, BeginsWith}
use Rattle.sve_tree.specs.Statements.{block_item_tree, case_item_tree}
use Rattle.sve_parse_stmt.proofs.+statement.Given as goal

-- the depth that is left, and at one depth the rank: a statement is one deeper than what holds it

abbrev pub decreases-statements::stmt : goal.decreases-statements::stmt
decreases-statements::stmt l = (513 - l.depth) * 16

abbrev pub decreases-statements::boxed_stmt : goal.decreases-statements::boxed_stmt
decreases-statements::boxed_stmt l = (513 - l.depth) * 16 + 1

abbrev pub decreases-statements::block_item : goal.decreases-statements::block_item
decreases-statements::block_item l = (513 - l.depth) * 16 + 1

abbrev pub decreases-statements::block_items : goal.decreases-statements::block_items
decreases-statements::block_items l = (513 - l.depth) * 16 + 2

abbrev pub decreases-statements::block : goal.decreases-statements::block
decreases-statements::block l = (513 - l.depth) * 16 + 3

abbrev pub decreases-statements::optional_else : goal.decreases-statements::optional_else
decreases-statements::optional_else l = (513 - l.depth) * 16 + 2

abbrev pub decreases-statements::if_statement : goal.decreases-statements::if_statement
decreases-statements::if_statement l = (513 - l.depth) * 16 + 3

abbrev pub decreases-statements::choice : goal.decreases-statements::choice
decreases-statements::choice l = (513 - l.depth) * 16 + 5

abbrev pub decreases-cases::case_item : goal.decreases-cases::case_item
decreases-cases::case_item l = (513 - l.depth) * 16 + 2

abbrev pub decreases-cases::more_case_items : goal.decreases-cases::more_case_items
decreases-cases::more_case_items l = (513 - l.depth) * 16 + 3

abbrev pub decreases-cases::case_statement : goal.decreases-cases::case_statement
decreases-cases::case_statement l = (513 - l.depth) * 16 + 4

abbrev pub decreases-loops::for_statement : goal.decreases-loops::for_statement
decreases-loops::for_statement l = (513 - l.depth) * 16 + 2

abbrev pub decreases-loops::foreach_statement : goal.decreases-loops::foreach_statement
decreases-loops::foreach_statement l = (513 - l.depth) * 16 + 2

abbrev pub decreases-loops::loop_statement : goal.decreases-loops::loop_statement
decreases-loops::loop_statement l = (513 - l.depth) * 16 + 2

abbrev pub decreases-loops::do_statement : goal.decreases-loops::do_statement
decreases-loops::do_statement l = (513 - l.depth) * 16 + 2

abbrev pub invariant-statements::block_items-turns : goal.invariant-statements::block_items-turns
invariant-statements::block_items-turns l = Keeps l.tokens l.depth block_item (repeated_tree block_item_tree l.items.items) l.at (at_depth l.tokens l.depth block_items l.from) × (l.from ≤ l.at)

abbrev pub decreases-statements::block_items-turns : goal.decreases-statements::block_items-turns
decreases-statements::block_items-turns l = length l.tokens - l.at

abbrev pub invariant-cases::more_case_items-turns : goal.invariant-cases::more_case_items-turns
invariant-cases::more_case_items-turns l = Keeps l.tokens l.depth case_item (others_tree case_item_tree l.items.items) l.at (at_depth l.tokens l.depth case_items l.from) × BeginsWith l.fn.first l.items.items × (l.from ≤ l.at)

abbrev pub decreases-cases::more_case_items-turns : goal.decreases-cases::more_case_items-turns
decreases-cases::more_case_items-turns l = length l.tokens - l.at
