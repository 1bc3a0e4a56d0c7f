use Rattle.std.proofs.Common.{◌≡◌, ◌<◌, ◌≤◌, ◌+◌, ◌-◌, ◌*◌, true, length, Ok}
use Rattle.sve_token.specs.declared.kind.Kind.TheVariants.{Comma}
use Rattle.sve_grammar.specs.declared.symbol.Symbol.TheVariants.{Expression}
use Rattle.sve_grammar.specs.Rule.{tok, sym, ◌∙◌, many}
use Rattle.sve_grammar.specs.Expressions.{argument, bracket_select, bracket_selects, dimension, dimensions, more_arguments, more_expressions, more_pattern_items, more_value_ranges, operation, operations, pattern_item, postfix, postfixes, select, selects, value_range}
use Rattle.sve_grammar.specs.Reading.{leaf, at_depth, both, pair}
use Rattle.sve_grammar.proofs.Loops.{Keeps}
use Rattle.sve_tree.specs.Shape.{repeated_tree, further_tree, IsRow}
use Rattle.sve_tree.specs.Expressions.{all_of_level, arg_tree, dimension_tree, height, operation_tree, pattern_item_tree, postfix_tree, range_select_tree, select_tree, tree_at, value_range_tree}
use Rattle.sve_parse_expr.proofs.+expression.Given as goal

abbrev pub decreases-operators::boxed_expr : goal.decreases-operators::boxed_expr
decreases-operators::boxed_expr l = (513 - l.depth) * 64

abbrev pub decreases-operators::expr : goal.decreases-operators::expr
decreases-operators::expr l = (513 - l.depth) * 64 + 1

abbrev pub decreases-operators::conditional : goal.decreases-operators::conditional
decreases-operators::conditional l = (513 - l.depth) * 64

abbrev pub decreases-operators::operations : goal.decreases-operators::operations
decreases-operators::operations l = (513 - l.depth) * 64 + 20 + 3 * l.level

abbrev pub decreases-operators::chain : goal.decreases-operators::chain
decreases-operators::chain l = (513 - l.depth) * 64 + 19 + 3 * l.level

abbrev pub decreases-operators::operation : goal.decreases-operators::operation
decreases-operators::operation l = (513 - l.depth) * 64 + 18 + 3 * l.level

abbrev pub decreases-operators::membership : goal.decreases-operators::membership
decreases-operators::membership l = (513 - l.depth) * 64 + 4

abbrev pub decreases-operators::value_range : goal.decreases-operators::value_range
decreases-operators::value_range l = (513 - l.depth) * 64 + 2

abbrev pub decreases-operators::more_value_ranges : goal.decreases-operators::more_value_ranges
decreases-operators::more_value_ranges l = (513 - l.depth) * 64 + 3

abbrev pub decreases-operators::unary : goal.decreases-operators::unary
decreases-operators::unary l = (513 - l.depth) * 64

abbrev pub decreases-operands::primary : goal.decreases-operands::primary
decreases-operands::primary l = (513 - l.depth) * 64 + 9

abbrev pub decreases-operands::decimal : goal.decreases-operands::decimal
decreases-operands::decimal l = (513 - l.depth) * 64 + 4

abbrev pub decreases-operands::parenthesized_operand : goal.decreases-operands::parenthesized_operand
decreases-operands::parenthesized_operand l = (513 - l.depth) * 64 + 4

abbrev pub decreases-operands::sign_cast : goal.decreases-operands::sign_cast
decreases-operands::sign_cast l = (513 - l.depth) * 64 + 4

abbrev pub decreases-operands::typed_primary : goal.decreases-operands::typed_primary
decreases-operands::typed_primary l = (513 - l.depth) * 64 + 4

abbrev pub decreases-operands::system_call : goal.decreases-operands::system_call
decreases-operands::system_call l = (513 - l.depth) * 64 + 6

abbrev pub decreases-operands::concatenation : goal.decreases-operands::concatenation
decreases-operands::concatenation l = (513 - l.depth) * 64 + 6

abbrev pub decreases-operands::parenthesized : goal.decreases-operands::parenthesized
decreases-operands::parenthesized l = (513 - l.depth) * 64 + 2

abbrev pub decreases-operands::cast : goal.decreases-operands::cast
decreases-operands::cast l = (513 - l.depth) * 64 + 3

abbrev pub decreases-lists::more_expressions : goal.decreases-lists::more_expressions
decreases-lists::more_expressions l = (513 - l.depth) * 64 + 2

abbrev pub decreases-lists::braced_expressions : goal.decreases-lists::braced_expressions
decreases-lists::braced_expressions l = (513 - l.depth) * 64 + 3

abbrev pub decreases-parts::dimension : goal.decreases-parts::dimension
decreases-parts::dimension l = (513 - l.depth) * 64 + 2

abbrev pub decreases-parts::dimensions : goal.decreases-parts::dimensions
decreases-parts::dimensions l = (513 - l.depth) * 64 + 3

abbrev pub decreases-parts::range : goal.decreases-parts::range
decreases-parts::range l = (513 - l.depth) * 64 + 2

abbrev pub decreases-parts::bracket_select : goal.decreases-parts::bracket_select
decreases-parts::bracket_select l = (513 - l.depth) * 64 + 3

abbrev pub decreases-parts::bracket_selects : goal.decreases-parts::bracket_selects
decreases-parts::bracket_selects l = (513 - l.depth) * 64 + 4

abbrev pub decreases-parts::select : goal.decreases-parts::select
decreases-parts::select l = (513 - l.depth) * 64 + 4

abbrev pub decreases-parts::selects : goal.decreases-parts::selects
decreases-parts::selects l = (513 - l.depth) * 64 + 5

abbrev pub decreases-parts::postfix : goal.decreases-parts::postfix
decreases-parts::postfix l = (513 - l.depth) * 64 + 7

abbrev pub decreases-parts::postfixes : goal.decreases-parts::postfixes
decreases-parts::postfixes l = (513 - l.depth) * 64 + 8

abbrev pub decreases-lists::argument : goal.decreases-lists::argument
decreases-lists::argument l = (513 - l.depth) * 64 + 2

abbrev pub decreases-lists::more_arguments : goal.decreases-lists::more_arguments
decreases-lists::more_arguments l = (513 - l.depth) * 64 + 3

abbrev pub decreases-lists::argument_list : goal.decreases-lists::argument_list
decreases-lists::argument_list l = (513 - l.depth) * 64 + 4

abbrev pub decreases-lists::pattern_item : goal.decreases-lists::pattern_item
decreases-lists::pattern_item l = (513 - l.depth) * 64 + 4

abbrev pub decreases-lists::more_pattern_items : goal.decreases-lists::more_pattern_items
decreases-lists::more_pattern_items l = (513 - l.depth) * 64 + 5

abbrev pub decreases-lists::pattern : goal.decreases-lists::pattern
decreases-lists::pattern l = (513 - l.depth) * 64 + 6

abbrev pub invariant-parts::dimensions-turns : goal.invariant-parts::dimensions-turns
invariant-parts::dimensions-turns l = Keeps l.tokens l.depth dimension (repeated_tree dimension_tree l.items.items) l.at (at_depth l.tokens l.depth dimensions l.from) × (l.from ≤ l.at)

abbrev pub decreases-parts::dimensions-turns : goal.decreases-parts::dimensions-turns
decreases-parts::dimensions-turns l = length l.tokens - l.at

abbrev pub invariant-parts::bracket_selects-turns : goal.invariant-parts::bracket_selects-turns
invariant-parts::bracket_selects-turns l = Keeps l.tokens l.depth bracket_select (repeated_tree range_select_tree l.items.items) l.at (at_depth l.tokens l.depth bracket_selects l.from) × (l.from ≤ l.at)

abbrev pub decreases-parts::bracket_selects-turns : goal.decreases-parts::bracket_selects-turns
decreases-parts::bracket_selects-turns l = length l.tokens - l.at

abbrev pub invariant-parts::selects-turns : goal.invariant-parts::selects-turns
invariant-parts::selects-turns l = Keeps l.tokens l.depth select (repeated_tree select_tree l.items.items) l.at (at_depth l.tokens l.depth selects l.from) × (l.from ≤ l.at)

abbrev pub decreases-parts::selects-turns : goal.decreases-parts::selects-turns
decreases-parts::selects-turns l = length l.tokens - l.at

abbrev pub invariant-parts::postfixes-turns : goal.invariant-parts::postfixes-turns
invariant-parts::postfixes-turns l = Keeps l.tokens l.depth postfix (repeated_tree postfix_tree l.items.items) l.at (at_depth l.tokens l.depth postfixes l.from) × (l.from ≤ l.at)

abbrev pub decreases-parts::postfixes-turns : goal.decreases-parts::postfixes-turns
decreases-parts::postfixes-turns l = length l.tokens - l.at

abbrev pub invariant-lists::more_expressions-turns : goal.invariant-lists::more_expressions-turns
invariant-lists::more_expressions-turns l =
    Keeps l.tokens l.depth (tok Comma ∙ sym Expression) (further_tree (tree_at 13) leaf l.items.items l.separators.items) l.at (at_depth l.tokens l.depth more_expressions l.from)
    × IsRow l.fn.first l.items.items l.separators.items × (l.from ≤ l.at)

abbrev pub decreases-lists::more_expressions-turns : goal.decreases-lists::more_expressions-turns
decreases-lists::more_expressions-turns l = length l.tokens - l.at

abbrev pub invariant-lists::more_arguments-turns : goal.invariant-lists::more_arguments-turns
invariant-lists::more_arguments-turns l =
    Keeps l.tokens l.depth (tok Comma ∙ argument) (further_tree arg_tree leaf l.items.items l.separators.items) l.at (at_depth l.tokens l.depth more_arguments l.from)
    × IsRow l.fn.first l.items.items l.separators.items × (l.from ≤ l.at)

abbrev pub decreases-lists::more_arguments-turns : goal.decreases-lists::more_arguments-turns
decreases-lists::more_arguments-turns l = length l.tokens - l.at

abbrev pub invariant-lists::more_pattern_items-turns : goal.invariant-lists::more_pattern_items-turns
invariant-lists::more_pattern_items-turns l =
    Keeps l.tokens l.depth (tok Comma ∙ pattern_item) (further_tree pattern_item_tree leaf l.items.items l.separators.items) l.at (at_depth l.tokens l.depth more_pattern_items l.from)
    × IsRow l.fn.first l.items.items l.separators.items × (l.from ≤ l.at)

abbrev pub decreases-lists::more_pattern_items-turns : goal.decreases-lists::more_pattern_items-turns
decreases-lists::more_pattern_items-turns l = length l.tokens - l.at

abbrev pub invariant-operators::more_value_ranges-turns : goal.invariant-operators::more_value_ranges-turns
invariant-operators::more_value_ranges-turns l =
    Keeps l.tokens l.depth (tok Comma ∙ value_range) (further_tree value_range_tree leaf l.items.items l.separators.items) l.at (at_depth l.tokens l.depth more_value_ranges l.from)
    × IsRow l.fn.first l.items.items l.separators.items × (l.from ≤ l.at)

abbrev pub decreases-operators::more_value_ranges-turns : goal.decreases-operators::more_value_ranges-turns
decreases-operators::more_value_ranges-turns l = length l.tokens - l.at

abbrev pub invariant-operators::operations-levels : goal.invariant-operators::operations-levels
invariant-operators::operations-levels l =
    (at_depth l.tokens l.depth (operations l.done) l.from ≡ Ok (tree_at l.done l.left.value, l.at)) × (height l.left.value ≤ l.done) × (l.done ≤ l.level) × (l.from < l.at) × (l.at ≤ length l.tokens)

abbrev pub decreases-operators::operations-levels : goal.decreases-operators::operations-levels
decreases-operators::operations-levels l = l.level - l.done

abbrev pub invariant-operators::chain-turns : goal.invariant-operators::chain-turns
invariant-operators::chain-turns l =
    Keeps l.tokens l.depth (operation l.level (operations (l.level - 1))) (pair (tree_at (l.level - 1) l.fn.first.value) (repeated_tree operation_tree l.items.items)) l.at
    (both (Ok (tree_at (l.level - 1) l.fn.first.value, l.from)) (λ i. at_depth l.tokens l.depth (many (operation l.level (operations (l.level - 1)))) i))
    × (l.from ≤ l.at) × (all_of_level l.level l.items.items ≡ true) × ((length l.items.items ≡ 0) → l.at ≡ l.from)

abbrev pub decreases-operators::chain-turns : goal.decreases-operators::chain-turns
decreases-operators::chain-turns l = length l.tokens - l.at
