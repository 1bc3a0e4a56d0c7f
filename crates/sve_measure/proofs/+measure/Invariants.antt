use Rattle.std.proofs.Common.{◌≡◌, ◌≤◌, drop}
use Rattle.sve_fault.specs.Counts.{counted_on}
use Rattle.sve_rule.specs.Judged.{judged}
use Rattle.sve_rule.specs.Rows.{lined}
use Rattle.sve_select.specs.Pieces.{pieced}
use Rattle.sve_select.specs.Selects.{row_judged}
use Rattle.sve_env.specs.Nodes.{expression_count, range_select_count, dimension_count, postfix_count, operation_count, nodes_of_expressions, nodes_of_range_selects, nodes_of_dimensions, nodes_of_postfixes, nodes_of_operations}
use Rattle.sve_path.specs.Named.{state_of}
use Rattle.sve_measure.specs.Constants.{line_behind, line_of_operands, pieces_behind, pieces_from, operations_behind, value_of_operations, state_behind, state_of_postfixes, places_behind, places_of_dimensions}
use Rattle.sve_tree.specs.declared.expression.Arg.TheBlock.{hidden-the_row-RangeSelect-2}
use Rattle.sve_measure.proofs.+measure.Given as goal

abbrev pub invariant-measure::chain-operations : goal.invariant-measure::chain-operations
invariant-measure::chain-operations g l = record {
  rest_is_whole : operations_behind (g.E.Env.told l.env) l.token (judged l.before) (drop l.next-index l.operations.items) ≡ value_of_operations (g.E.Env.told l.env) l.token (judged l.fn.first) l.operations;
  counts : counted_on l.fuel.used (operation_count (g.E.Env.told l.env) (drop l.next-index l.operations.items)) ≡ counted_on l.fn.fuel.used (nodes_of_operations (g.E.Env.told l.env) l.operations);
  most : l.fuel.most ≡ l.fn.fuel.most;
  within : l.fuel.used ≤ l.fuel.most;
}

abbrev pub invariant-naming::applied-postfixes : goal.invariant-naming::applied-postfixes
invariant-naming::applied-postfixes g l = record {
  rest_is_whole : state_behind (g.E.Env.told l.env) l.name (state_of l.before) (drop l.next-index l.postfixes.items) ≡ state_of_postfixes (g.E.Env.told l.env) l.name l.postfixes;
  counts : counted_on l.fuel.used (postfix_count (g.E.Env.told l.env) l.name (drop l.next-index l.postfixes.items)) ≡ counted_on l.fn.fuel.used (nodes_of_postfixes (g.E.Env.told l.env) l.name l.postfixes);
  most : l.fuel.most ≡ l.fn.fuel.most;
  within : l.fuel.used ≤ l.fuel.most;
}

abbrev pub invariant-operands::row_of-operands : goal.invariant-operands::row_of-operands
invariant-operands::row_of-operands g l = record {
  rest_is_whole : line_behind (g.E.Env.told l.env) (lined l.before) (drop l.next-index l.operands.items.items) ≡ line_of_operands (g.E.Env.told l.env) l.operands;
  counts : counted_on l.fuel.used (expression_count (g.E.Env.told l.env) (drop l.next-index l.operands.items.items)) ≡ counted_on l.fn.fuel.used (nodes_of_expressions (g.E.Env.told l.env) l.operands);
  most : l.fuel.most ≡ l.fn.fuel.most;
  within : l.fuel.used ≤ l.fuel.most;
}

abbrev pub invariant-operands::places-dimensions : goal.invariant-operands::places-dimensions
invariant-operands::places-dimensions g l = record {
  rest_is_whole : places_behind (g.E.Env.told l.env) l.before (drop l.next-index l.dimensions.items) ≡ places_of_dimensions (g.E.Env.told l.env) l.dimensions;
  counts : counted_on l.fuel.used (dimension_count (g.E.Env.told l.env) (drop l.next-index l.dimensions.items)) ≡ counted_on l.fn.fuel.used (nodes_of_dimensions (g.E.Env.told l.env) l.dimensions);
  most : l.fuel.most ≡ l.fn.fuel.most;
  within : l.fuel.used ≤ l.fuel.most;
}

abbrev pub invariant-operands::selected-selects : goal.invariant-operands::selected-selects
invariant-operands::selected-selects g l = record {
  rest_is_whole : pieces_behind (g.E.Env.told l.env) l.opening (pieced l.before) (drop l.next-index l.selects.items) ≡ pieces_from (g.E.Env.told l.env) l.opening (row_judged (judged l.fn.value)) (hidden-the_row-RangeSelect-2 l.selects);
  counts : counted_on l.fuel.used (range_select_count (g.E.Env.told l.env) (drop l.next-index l.selects.items)) ≡ counted_on l.fn.fuel.used (nodes_of_range_selects (g.E.Env.told l.env) l.selects);
  most : l.fuel.most ≡ l.fn.fuel.most;
  within : l.fuel.used ≤ l.fuel.most;
}
