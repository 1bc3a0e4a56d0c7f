-- What was handed on so far, and what the items that are left use, is all that they use.
use Rattle.std.proofs.Common.{◌≡◌, drop}
use Rattle.std.specs.List.{flat_map, fold}
use Rattle.sve_use.specs.Uses.{argument_uses, dimension_uses, operation_uses, pattern_item_uses, postfix_uses, range_select_uses, select_uses, uses, uses_of_arguments, uses_of_dimensions, uses_of_expressions, uses_of_operations, uses_of_pattern, uses_of_postfixes, uses_of_range_selects, uses_of_selects, uses_of_value_ranges, value_range_uses}
use Rattle.sve_use.proofs.walk.+names.Given as goal

abbrev pub invariant-names_in_all-expressions : goal.invariant-names_in_all-expressions
invariant-names_in_all-expressions g l = fold g.R.Resolver.after l.names (flat_map uses (drop l.expression-index l.expressions.items.items)) ≡ fold g.R.Resolver.after l.fn.names (uses_of_expressions l.expressions)

abbrev pub invariant-names_in_range_selects-selects : goal.invariant-names_in_range_selects-selects
invariant-names_in_range_selects-selects g l = fold g.R.Resolver.after l.names (flat_map range_select_uses (drop l.select-index l.selects.items)) ≡ fold g.R.Resolver.after l.fn.names (uses_of_range_selects l.selects)

abbrev pub invariant-names_in_dimensions-dimensions : goal.invariant-names_in_dimensions-dimensions
invariant-names_in_dimensions-dimensions g l = fold g.R.Resolver.after l.names (flat_map dimension_uses (drop l.dimension-index l.dimensions.items)) ≡ fold g.R.Resolver.after l.fn.names (uses_of_dimensions l.dimensions)

abbrev pub invariant-names_in_selects-selects : goal.invariant-names_in_selects-selects
invariant-names_in_selects-selects g l = fold g.R.Resolver.after l.names (flat_map select_uses (drop l.select-index l.selects.items)) ≡ fold g.R.Resolver.after l.fn.names (uses_of_selects l.selects)

abbrev pub invariant-names_in_postfixes-postfixes : goal.invariant-names_in_postfixes-postfixes
invariant-names_in_postfixes-postfixes g l = fold g.R.Resolver.after l.names (flat_map postfix_uses (drop l.postfix-index l.postfixes.items)) ≡ fold g.R.Resolver.after l.fn.names (uses_of_postfixes l.postfixes)

abbrev pub invariant-names_in_operations-operations : goal.invariant-names_in_operations-operations
invariant-names_in_operations-operations g l = fold g.R.Resolver.after l.names (flat_map operation_uses (drop l.operation-index l.operations.items)) ≡ fold g.R.Resolver.after l.fn.names (uses_of_operations l.operations)

abbrev pub invariant-names_in_arguments-arguments : goal.invariant-names_in_arguments-arguments
invariant-names_in_arguments-arguments g l = fold g.R.Resolver.after l.names (flat_map argument_uses (drop l.argument-index l.list.arguments.items.items)) ≡ fold g.R.Resolver.after l.fn.names (uses_of_arguments l.list)

abbrev pub invariant-names_in_value_ranges-values : goal.invariant-names_in_value_ranges-values
invariant-names_in_value_ranges-values g l = fold g.R.Resolver.after l.names (flat_map value_range_uses (drop l.range-index l.ranges.items.items)) ≡ fold g.R.Resolver.after l.fn.names (uses_of_value_ranges l.ranges)

abbrev pub invariant-names_in_pattern-items : goal.invariant-names_in_pattern-items
invariant-names_in_pattern-items g l = fold g.R.Resolver.after l.names (flat_map pattern_item_uses (drop l.item-index l.pattern.items.items.items)) ≡ fold g.R.Resolver.after l.fn.names (uses_of_pattern l.pattern)
