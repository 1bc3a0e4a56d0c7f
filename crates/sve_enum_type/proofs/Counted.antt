-- Where calls count the same, so do expressions.
use Rattle.std.proofs.Common.{◌≡◌, ℕ, List, refl, ap}
use Rattle.sve_tree.specs.declared.word.ScopedName.{ScopedName}
use Rattle.sve_tree.specs.declared.expression.Expr.{Expr, Row_of-Arg, Row_of-Dimension, Row_of-Expr, Row_of-Operation, Row_of-PatternItem, Row_of-Postfix, Row_of-RangeSelect, Row_of-Select, end_of-Arg, end_of-Dimension, end_of-Expr, end_of-Operation, end_of-PatternItem, end_of-Postfix, end_of-RangeSelect, end_of-Select, items-the_row-Arg, more_of-Arg, more_of-Dimension, more_of-Expr, more_of-Operation, more_of-PatternItem, more_of-Postfix, more_of-RangeSelect, more_of-Select}
use Rattle.sve_tree.specs.declared.expression.Operation.{Operation, Row_of-ValueRange, end_of-ValueRange, more_of-ValueRange}
use Rattle.sve_tree.specs.declared.expression.Dimension.{Dimension}
use Rattle.sve_tree.specs.declared.expression.Range.{Range}
use Rattle.sve_tree.specs.declared.expression.Select.{Select}
use Rattle.sve_tree.specs.declared.expression.Postfix.{Postfix}
use Rattle.sve_tree.specs.declared.expression.Arg.{Arg}
use Rattle.sve_tree.specs.declared.expression.ValueRange.{ValueRange}
use Rattle.sve_tree.specs.declared.expression.PatternItem.{PatternItem}
use Rattle.sve_tree.specs.declared.expression.Expr.TheVariants as is_expr
use Rattle.sve_tree.specs.declared.expression.Operation.TheVariants as is_operation
use Rattle.sve_tree.specs.declared.expression.Dimension.TheVariants as is_dimension
use Rattle.sve_tree.specs.declared.expression.Range.TheVariants as is_range
use Rattle.sve_tree.specs.declared.expression.Select.TheVariants as is_select
use Rattle.sve_tree.specs.declared.expression.Postfix.TheVariants as is_postfix
use Rattle.sve_tree.specs.declared.expression.Arg.TheVariants as is_arg
use Rattle.sve_tree.specs.declared.expression.ValueRange.TheVariants as is_value_range
use Rattle.sve_tree.specs.declared.expression.PatternItem.TheVariants as is_pattern_item
use Rattle.sve_types.specs.DataType.{DataType}
use Rattle.sve_env.specs.Told.{Told}
use Rattle.sve_env.specs.Nodes.{nodes, range_nodes, operation_nodes, dimension_nodes, select_nodes, postfix_nodes, argument_nodes, value_range_nodes, pattern_item_nodes, expression_row, range_select_row, dimension_row, select_row, postfix_row, operation_row, argument_row, value_range_row, pattern_item_row}
use Rattle.sve_enum_type.specs.Earlier.{told_among}
use Rattle.sve_enum_type.specs.declared.earlier.Earlier.{Earlier}

mutual
  unfolding nodes

  pub nodes_alike : (m k : Told) (h : k.steps ≡ m.steps) (x : Expr) → nodes k x ≡ nodes m x
  nodes_alike m k h (is_expr.Decimal token) = refl
  nodes_alike m k h (is_expr.Sized size based) = refl
  nodes_alike m k h (is_expr.SizeCast' size apostrophe opening _ value closing) = rw (nodes_alike m k h value) refl
  nodes_alike m k h (is_expr.Based token) = refl
  nodes_alike m k h (is_expr.Unbased token) = refl
  nodes_alike m k h (is_expr.Text token) = refl
  nodes_alike m k h (is_expr.Parenthesized' opening _ value closing) = rw (nodes_alike m k h value) refl
  nodes_alike m k h (is_expr.ParenthesizedCast' opening _ value closing apostrophe cast_opening _ cast_value cast_closing) = rw (nodes_alike m k h value, nodes_alike m k h cast_value) refl
  nodes_alike m k h (is_expr.Pattern' opening _ items commas closing) = rw (pattern_item_row_alike m k h items) refl
  nodes_alike m k h (is_expr.Replication' opening _ count inner_opening _ operands commas inner_closing closing _ selects) = rw (nodes_alike m k h count, expression_row_alike m k h operands, range_select_row_alike m k h selects) refl
  nodes_alike m k h (is_expr.Concatenation' opening _ operands commas closing _ selects) = rw (expression_row_alike m k h operands, range_select_row_alike m k h selects) refl
  nodes_alike m k h (is_expr.SignCast' sign apostrophe opening _ value closing) = rw (nodes_alike m k h value) refl
  nodes_alike m k h (is_expr.Type' keyword sign _ dimensions) = rw (dimension_row_alike m k h dimensions) refl
  nodes_alike m k h (is_expr.TypeCast' keyword sign _ dimensions apostrophe opening _ value closing) = rw (dimension_row_alike m k h dimensions, nodes_alike m k h value) refl
  nodes_alike m k h (is_expr.SystemName' name _ selects) = rw (select_row_alike m k h selects) refl
  nodes_alike m k h (is_expr.SystemCall' name opening _ arguments commas closing _ selects) = rw (argument_row_alike m k h arguments, select_row_alike m k h selects) refl
  nodes_alike m k h (is_expr.Name' name _ postfixes) = rw (postfix_row_alike m k h name postfixes) refl
  nodes_alike m k h (is_expr.Unary' operator _ operand) = rw (nodes_alike m k h operand) refl
  nodes_alike m k h (is_expr.Operations' _ first _ operations) = rw (nodes_alike m k h first, operation_row_alike m k h operations) refl
  nodes_alike m k h (is_expr.Conditional' _ condition question _ chosen colon _ otherwise) = rw (nodes_alike m k h condition, nodes_alike m k h chosen, nodes_alike m k h otherwise) refl
  nodes_alike m k h (is_expr.Implication' _ l operator _ r) = rw (nodes_alike m k h l, nodes_alike m k h r) refl

  operation_nodes_alike : (m k : Told) (h : k.steps ≡ m.steps) (x : Operation) → operation_nodes k x ≡ operation_nodes m x
  operation_nodes_alike m k h (is_operation.Binary operator r) = rw (nodes_alike m k h r) refl
  operation_nodes_alike m k h (is_operation.Inside' keyword opening _ ranges commas closing) = rw (value_range_row_alike m k h ranges) refl

  dimension_nodes_alike : (m k : Told) (h : k.steps ≡ m.steps) (x : Dimension) → dimension_nodes k x ≡ dimension_nodes m x
  dimension_nodes_alike m k h (is_dimension.Size' opening _ size closing) = rw (nodes_alike m k h size) refl
  dimension_nodes_alike m k h (is_dimension.Range' opening _ l colon _ r closing) = rw (nodes_alike m k h l, nodes_alike m k h r) refl

  range_nodes_alike : (m k : Told) (h : k.steps ≡ m.steps) (x : Range) → range_nodes k x ≡ range_nodes m x
  range_nodes_alike m k h (is_range.Index' _ index) = rw (nodes_alike m k h index) refl
  range_nodes_alike m k h (is_range.Between' _ l colon _ r) = rw (nodes_alike m k h l, nodes_alike m k h r) refl
  range_nodes_alike m k h (is_range.Upward' _ from at _ width) = rw (nodes_alike m k h from, nodes_alike m k h width) refl
  range_nodes_alike m k h (is_range.Downward' _ from at _ width) = rw (nodes_alike m k h from, nodes_alike m k h width) refl

  select_nodes_alike : (m k : Told) (h : k.steps ≡ m.steps) (x : Select) → select_nodes k x ≡ select_nodes m x
  select_nodes_alike m k h (is_select.Member dot name) = refl
  select_nodes_alike m k h (is_select.Range' opening range closing) = rw (range_nodes_alike m k h range) refl

  postfix_nodes_alike : (m k : Told) (h : k.steps ≡ m.steps) (name : ScopedName) (x : Postfix) → postfix_nodes k name x ≡ postfix_nodes m name x
  postfix_nodes_alike m k h name (is_postfix.Select select) = rw (select_nodes_alike m k h select) refl
  postfix_nodes_alike m k h name (is_postfix.Call' opening _ arguments commas closing) = ap (λ (s : ScopedName → List Arg → ℕ). s name (items-the_row-Arg _ arguments)) h
  postfix_nodes_alike m k h name (is_postfix.Cast' apostrophe opening _ value closing) = rw (nodes_alike m k h value) refl
  postfix_nodes_alike m k h name (is_postfix.Pattern' opening _ items commas closing) = rw (pattern_item_row_alike m k h items) refl

  argument_nodes_alike : (m k : Told) (h : k.steps ≡ m.steps) (x : Arg) → argument_nodes k x ≡ argument_nodes m x
  argument_nodes_alike m k h (is_arg.Wildcard token) = refl
  argument_nodes_alike m k h (is_arg.Implicit dot name) = refl
  argument_nodes_alike m k h (is_arg.Unconnected dot name opening closing) = refl
  argument_nodes_alike m k h (is_arg.Named' dot name opening _ value closing) = rw (nodes_alike m k h value) refl
  argument_nodes_alike m k h (is_arg.Ordered' _ value) = rw (nodes_alike m k h value) refl
  argument_nodes_alike m k h is_arg.Empty = refl

  value_range_nodes_alike : (m k : Told) (h : k.steps ≡ m.steps) (x : ValueRange) → value_range_nodes k x ≡ value_range_nodes m x
  value_range_nodes_alike m k h (is_value_range.Between' opening _ low colon _ high closing) = rw (nodes_alike m k h low, nodes_alike m k h high) refl
  value_range_nodes_alike m k h (is_value_range.Value' _ value) = rw (nodes_alike m k h value) refl

  pattern_item_nodes_alike : (m k : Told) (h : k.steps ≡ m.steps) (x : PatternItem) → pattern_item_nodes k x ≡ pattern_item_nodes m x
  pattern_item_nodes_alike m k h (is_pattern_item.Default' keyword colon _ value) = rw (nodes_alike m k h value) refl
  pattern_item_nodes_alike m k h (is_pattern_item.Value' _ value) = rw (nodes_alike m k h value) refl
  pattern_item_nodes_alike m k h (is_pattern_item.Keyed' _ key colon _ value) = rw (nodes_alike m k h key, nodes_alike m k h value) refl
  pattern_item_nodes_alike m k h (is_pattern_item.Repeated' _ count opening _ values commas closing) = rw (nodes_alike m k h count, expression_row_alike m k h values) refl

  expression_row_alike : {n : _} (m k : Told) (h : k.steps ≡ m.steps) (x : Row_of-Expr n) → expression_row k x ≡ expression_row m x
  expression_row_alike m k h end_of-Expr = refl
  expression_row_alike m k h (more_of-Expr e rest) = rw (nodes_alike m k h e, expression_row_alike m k h rest) refl

  range_select_row_alike : {n : _} (m k : Told) (h : k.steps ≡ m.steps) (x : Row_of-RangeSelect n) → range_select_row k x ≡ range_select_row m x
  range_select_row_alike m k h end_of-RangeSelect = refl
  range_select_row_alike m k h (more_of-RangeSelect opening range closing rest) = rw (range_nodes_alike m k h range, range_select_row_alike m k h rest) refl

  dimension_row_alike : {n : _} (m k : Told) (h : k.steps ≡ m.steps) (x : Row_of-Dimension n) → dimension_row k x ≡ dimension_row m x
  dimension_row_alike m k h end_of-Dimension = refl
  dimension_row_alike m k h (more_of-Dimension dimension rest) = rw (dimension_nodes_alike m k h dimension, dimension_row_alike m k h rest) refl

  select_row_alike : {n : _} (m k : Told) (h : k.steps ≡ m.steps) (x : Row_of-Select n) → select_row k x ≡ select_row m x
  select_row_alike m k h end_of-Select = refl
  select_row_alike m k h (more_of-Select select rest) = rw (select_nodes_alike m k h select, select_row_alike m k h rest) refl

  postfix_row_alike : {n : _} (m k : Told) (h : k.steps ≡ m.steps) (name : ScopedName) (x : Row_of-Postfix n) → postfix_row k name x ≡ postfix_row m name x
  postfix_row_alike m k h name end_of-Postfix = refl
  postfix_row_alike m k h name (more_of-Postfix postfix rest) = rw (postfix_nodes_alike m k h name postfix, postfix_row_alike m k h name rest) refl

  operation_row_alike : {n : _} (m k : Told) (h : k.steps ≡ m.steps) (x : Row_of-Operation n) → operation_row k x ≡ operation_row m x
  operation_row_alike m k h end_of-Operation = refl
  operation_row_alike m k h (more_of-Operation operation rest) = rw (operation_nodes_alike m k h operation, operation_row_alike m k h rest) refl

  argument_row_alike : {n : _} (m k : Told) (h : k.steps ≡ m.steps) (x : Row_of-Arg n) → argument_row k x ≡ argument_row m x
  argument_row_alike m k h end_of-Arg = refl
  argument_row_alike m k h (more_of-Arg argument rest) = rw (argument_nodes_alike m k h argument, argument_row_alike m k h rest) refl

  value_range_row_alike : {n : _} (m k : Told) (h : k.steps ≡ m.steps) (x : Row_of-ValueRange n) → value_range_row k x ≡ value_range_row m x
  value_range_row_alike m k h end_of-ValueRange = refl
  value_range_row_alike m k h (more_of-ValueRange range rest) = rw (value_range_nodes_alike m k h range, value_range_row_alike m k h rest) refl

  pattern_item_row_alike : {n : _} (m k : Told) (h : k.steps ≡ m.steps) (x : Row_of-PatternItem n) → pattern_item_row k x ≡ pattern_item_row m x
  pattern_item_row_alike m k h end_of-PatternItem = refl
  pattern_item_row_alike m k h (more_of-PatternItem item rest) = rw (pattern_item_nodes_alike m k h item, pattern_item_row_alike m k h rest) refl

-- among the names of an enumeration as around it
pub nodes_among : (m : Told) (base : DataType) (es : List Earlier) (e : Expr) → nodes (told_among m base es) e ≡ nodes m e
nodes_among m base es e = nodes_alike m (told_among m base es) refl e
