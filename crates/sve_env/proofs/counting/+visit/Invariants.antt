use Rattle.std.proofs.Common.{◌≡◌, ◌≤◌, drop}
use Rattle.sve_fault.specs.Counts.{counted_on}
use Rattle.sve_env.specs.Nodes.{expression_count, range_select_count, dimension_count, select_count, argument_count, operation_count, value_range_count, pattern_item_count, postfix_count, nodes_of_expressions, nodes_of_range_selects, nodes_of_dimensions, nodes_of_selects, nodes_of_arguments, nodes_of_operations, nodes_of_value_ranges, nodes_of_pattern, nodes_of_postfixes}
use Rattle.sve_env.proofs.counting.+visit.Given as goal

abbrev pub invariant-visit_all-expressions : goal.invariant-visit_all-expressions
invariant-visit_all-expressions g l = record {
  counts : counted_on l.fuel.used (expression_count (g.E.Env.told l.env) (drop l.expression-index l.expressions.items.items)) ≡ counted_on l.fn.fuel.used (nodes_of_expressions (g.E.Env.told l.env) l.expressions);
  most : l.fuel.most ≡ l.fn.fuel.most;
  within : l.fuel.used ≤ l.fuel.most;
}

abbrev pub invariant-visit_range_selects-selects : goal.invariant-visit_range_selects-selects
invariant-visit_range_selects-selects g l = record {
  counts : counted_on l.fuel.used (range_select_count (g.E.Env.told l.env) (drop l.select-index l.selects.items)) ≡ counted_on l.fn.fuel.used (nodes_of_range_selects (g.E.Env.told l.env) l.selects);
  most : l.fuel.most ≡ l.fn.fuel.most;
  within : l.fuel.used ≤ l.fuel.most;
}

abbrev pub invariant-visit_dimensions-dimensions : goal.invariant-visit_dimensions-dimensions
invariant-visit_dimensions-dimensions g l = record {
  counts : counted_on l.fuel.used (dimension_count (g.E.Env.told l.env) (drop l.dimension-index l.dimensions.items)) ≡ counted_on l.fn.fuel.used (nodes_of_dimensions (g.E.Env.told l.env) l.dimensions);
  most : l.fuel.most ≡ l.fn.fuel.most;
  within : l.fuel.used ≤ l.fuel.most;
}

abbrev pub invariant-visit_selects-selects : goal.invariant-visit_selects-selects
invariant-visit_selects-selects g l = record {
  counts : counted_on l.fuel.used (select_count (g.E.Env.told l.env) (drop l.select-index l.selects.items)) ≡ counted_on l.fn.fuel.used (nodes_of_selects (g.E.Env.told l.env) l.selects);
  most : l.fuel.most ≡ l.fn.fuel.most;
  within : l.fuel.used ≤ l.fuel.most;
}

abbrev pub invariant-visit_arguments-arguments : goal.invariant-visit_arguments-arguments
invariant-visit_arguments-arguments g l = record {
  counts : counted_on l.fuel.used (argument_count (g.E.Env.told l.env) (drop l.argument-index l.list.arguments.items.items)) ≡ counted_on l.fn.fuel.used (nodes_of_arguments (g.E.Env.told l.env) l.list);
  most : l.fuel.most ≡ l.fn.fuel.most;
  within : l.fuel.used ≤ l.fuel.most;
}

abbrev pub invariant-visit_operations-operations : goal.invariant-visit_operations-operations
invariant-visit_operations-operations g l = record {
  counts : counted_on l.fuel.used (operation_count (g.E.Env.told l.env) (drop l.operation-index l.operations.items)) ≡ counted_on l.fn.fuel.used (nodes_of_operations (g.E.Env.told l.env) l.operations);
  most : l.fuel.most ≡ l.fn.fuel.most;
  within : l.fuel.used ≤ l.fuel.most;
}

abbrev pub invariant-visit_value_ranges-values : goal.invariant-visit_value_ranges-values
invariant-visit_value_ranges-values g l = record {
  counts : counted_on l.fuel.used (value_range_count (g.E.Env.told l.env) (drop l.range-index l.ranges.items.items)) ≡ counted_on l.fn.fuel.used (nodes_of_value_ranges (g.E.Env.told l.env) l.ranges);
  most : l.fuel.most ≡ l.fn.fuel.most;
  within : l.fuel.used ≤ l.fuel.most;
}

abbrev pub invariant-visit_pattern-items : goal.invariant-visit_pattern-items
invariant-visit_pattern-items g l = record {
  counts : counted_on l.fuel.used (pattern_item_count (g.E.Env.told l.env) (drop l.item-index l.pattern.items.items.items)) ≡ counted_on l.fn.fuel.used (nodes_of_pattern (g.E.Env.told l.env) l.pattern);
  most : l.fuel.most ≡ l.fn.fuel.most;
  within : l.fuel.used ≤ l.fuel.most;
}

abbrev pub invariant-visit_postfixes-postfixes : goal.invariant-visit_postfixes-postfixes
invariant-visit_postfixes-postfixes g l = record {
  counts : counted_on l.fuel.used (postfix_count (g.E.Env.told l.env) l.name (drop l.postfix-index l.postfixes.items)) ≡ counted_on l.fn.fuel.used (nodes_of_postfixes (g.E.Env.told l.env) l.name l.postfixes);
  most : l.fuel.most ≡ l.fn.fuel.most;
  within : l.fuel.used ≤ l.fuel.most;
}
