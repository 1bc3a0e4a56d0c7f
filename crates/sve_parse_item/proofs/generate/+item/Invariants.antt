use Rattle.std.proofs.Common.{◌≤◌, ◌-◌, ◌+◌, ◌*◌, length}
use Rattle.sve_grammar.specs.declared.symbol.Symbol.TheVariants.{Item}
use Rattle.sve_grammar.specs.Rule.{sym}
use Rattle.sve_grammar.specs.Items.{items, case_generate_item, case_generate_items}
use Rattle.sve_grammar.specs.Reading.{at_depth}
use Rattle.sve_grammar.proofs.Loops.{Keeps}
use Rattle.sve_tree.specs.Shape.{repeated_tree, others_tree, BeginsWith}
use Rattle.sve_tree.specs.Items.{item_tree, case_generate_item_tree}
use Rattle.sve_parse_item.proofs.generate.+item.Given as goal

-- the depth that is left, and at one depth the rank: a construct calls its blocks, they their items

abbrev pub decreases-item : goal.decreases-item
decreases-item l = (513 - l.depth) * 16

abbrev pub decreases-items : goal.decreases-items
decreases-items l = (513 - l.depth) * 16 + 1

abbrev pub decreases-generate_region : goal.decreases-generate_region
decreases-generate_region l = (513 - l.depth) * 16 + 2

abbrev pub decreases-generate_body : goal.decreases-generate_body
decreases-generate_body l = (513 - l.depth) * 16 + 2

abbrev pub decreases-generate_block : goal.decreases-generate_block
decreases-generate_block l = (513 - l.depth) * 16 + 3

abbrev pub decreases-loop_generate : goal.decreases-loop_generate
decreases-loop_generate l = (513 - l.depth) * 16 + 4

abbrev pub decreases-optional_else : goal.decreases-optional_else
decreases-optional_else l = (513 - l.depth) * 16 + 4

abbrev pub decreases-if_generate : goal.decreases-if_generate
decreases-if_generate l = (513 - l.depth) * 16 + 5

abbrev pub decreases-case_item : goal.decreases-case_item
decreases-case_item l = (513 - l.depth) * 16 + 4

abbrev pub decreases-more_case_items : goal.decreases-more_case_items
decreases-more_case_items l = (513 - l.depth) * 16 + 5

abbrev pub decreases-case_generate : goal.decreases-case_generate
decreases-case_generate l = (513 - l.depth) * 16 + 6

abbrev pub decreases-construct : goal.decreases-construct
decreases-construct l = (513 - l.depth) * 16 + 7

abbrev pub invariant-items-turns : goal.invariant-items-turns
invariant-items-turns l = Keeps l.tokens l.depth (sym Item) (repeated_tree item_tree l.items.items) l.at (at_depth l.tokens l.depth items l.from) × (l.from ≤ l.at)

abbrev pub decreases-items-turns : goal.decreases-items-turns
decreases-items-turns l = length l.tokens - l.at

abbrev pub invariant-more_case_items-turns : goal.invariant-more_case_items-turns
invariant-more_case_items-turns l = Keeps l.tokens l.depth case_generate_item (others_tree case_generate_item_tree l.items.items) l.at (at_depth l.tokens l.depth case_generate_items l.from) × BeginsWith l.fn.first l.items.items × (l.from ≤ l.at)

abbrev pub decreases-more_case_items-turns : goal.decreases-more_case_items-turns
decreases-more_case_items-turns l = length l.tokens - l.at
