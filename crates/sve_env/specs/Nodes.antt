-- The nodes of expressions (own): a literal, a name, and each application of an operator, a select, a concatenation, a cast or a
-- function is one. What calls count is added.
use Rattle.std.specs.Prelude.{ℕ, ◌+◌, Bool, true, false, List, [], ◌∷◌}
use Rattle.std.specs.Global.{Vec}
use Rattle.sve_tree.specs.declared.row.Row.{Row}
use Rattle.sve_tree.specs.declared.word.ScopedName.{ScopedName}
use Rattle.sve_tree.specs.declared.expression.Expr.{Expr, Row_of-Arg, Row_of-Dimension, Row_of-Expr, Row_of-Operation, Row_of-PatternItem, Row_of-Postfix, Row_of-RangeSelect, Row_of-Select, end_of-Arg, end_of-Dimension, end_of-Expr, end_of-Operation, end_of-PatternItem, end_of-Postfix, end_of-RangeSelect, end_of-Select, items-the_row-Arg, more_of-Arg, more_of-Dimension, more_of-Expr, more_of-Operation, more_of-PatternItem, more_of-Postfix, more_of-RangeSelect, more_of-Select}
use Rattle.sve_tree.specs.declared.expression.Operation.{Operation, Row_of-ValueRange, end_of-ValueRange, more_of-ValueRange}
use Rattle.sve_tree.specs.declared.expression.Dimension.{Dimension}
use Rattle.sve_tree.specs.declared.expression.Range.{Range}
use Rattle.sve_tree.specs.declared.expression.RangeSelect.{RangeSelect}
use Rattle.sve_tree.specs.declared.expression.Select.{Select}
use Rattle.sve_tree.specs.declared.expression.Postfix.{Postfix}
use Rattle.sve_tree.specs.declared.expression.Arg.{Arg}
use Rattle.sve_tree.specs.declared.expression.ValueRange.{ValueRange}
use Rattle.sve_tree.specs.declared.expression.Pattern.{Pattern}
use Rattle.sve_tree.specs.declared.expression.PatternItem.{PatternItem}
use Rattle.sve_tree.specs.declared.expression.ArgumentList.{ArgumentList}
use Rattle.sve_tree.specs.declared.expression.Arg.TheBlock.{hidden-the_row-Expr-1, hidden-the_row-RangeSelect-2, hidden-the_row-Dimension-3, hidden-the_row-Select-4, hidden-the_row-Arg-5, hidden-the_row-Postfix-6, hidden-the_row-Operation-7, hidden-the_row-ValueRange-8, hidden-the_row-PatternItem-0}
use Rattle.sve_tree.specs.declared.expression.Expr.TheVariants as is_expr
use Rattle.sve_tree.specs.declared.expression.Operation.TheVariants as is_operation
use Rattle.sve_tree.specs.declared.expression.Dimension.TheVariants as is_dimension
use Rattle.sve_tree.specs.declared.expression.Range.TheVariants as is_range
use Rattle.sve_tree.specs.declared.expression.Select.TheVariants as is_select
use Rattle.sve_tree.specs.declared.expression.Postfix.TheVariants as is_postfix
use Rattle.sve_tree.specs.declared.expression.Arg.TheVariants as is_arg
use Rattle.sve_tree.specs.declared.expression.ValueRange.TheVariants as is_value_range
use Rattle.sve_tree.specs.declared.expression.PatternItem.TheVariants as is_pattern_item
use Rattle.sve_env.specs.Told.{Told}

unfoldable mutual
  -- a number is one node, with its size too; brackets are none; a cast is one beside its size and its value; a pattern is none
  -- beside its items; a keyword's type is none beside its dimensions
  pub nodes : Told → Expr → ℕ
  nodes m (is_expr.Decimal token) = 1
  nodes m (is_expr.Sized size based) = 1
  nodes m (is_expr.SizeCast' size apostrophe opening _ value closing) = 2 + nodes m value
  nodes m (is_expr.Based token) = 1
  nodes m (is_expr.Unbased token) = 1
  nodes m (is_expr.Text token) = 1
  nodes m (is_expr.Parenthesized' opening _ value closing) = nodes m value
  nodes m (is_expr.ParenthesizedCast' opening _ value closing apostrophe cast_opening _ cast_value cast_closing) = 1 + nodes m value + nodes m cast_value
  nodes m (is_expr.Pattern' opening _ items commas closing) = pattern_item_row m items
  nodes m (is_expr.Replication' opening _ count inner_opening _ operands commas inner_closing closing _ selects) = 1 + nodes m count + expression_row m operands + range_select_row m selects
  nodes m (is_expr.Concatenation' opening _ operands commas closing _ selects) = 1 + expression_row m operands + range_select_row m selects
  nodes m (is_expr.SignCast' sign apostrophe opening _ value closing) = 1 + nodes m value
  nodes m (is_expr.Type' keyword sign _ dimensions) = dimension_row m dimensions
  nodes m (is_expr.TypeCast' keyword sign _ dimensions apostrophe opening _ value closing) = 1 + dimension_row m dimensions + nodes m value
  nodes m (is_expr.SystemName' name _ selects) = 1 + select_row m selects
  nodes m (is_expr.SystemCall' name opening _ arguments commas closing _ selects) = 1 + argument_row m arguments + select_row m selects
  nodes m (is_expr.Name' name _ postfixes) = 1 + postfix_row m name postfixes
  nodes m (is_expr.Unary' operator _ operand) = 1 + nodes m operand
  nodes m (is_expr.Operations' _ first _ operations) = nodes m first + operation_row m operations
  nodes m (is_expr.Conditional' _ condition question _ chosen colon _ otherwise) = 1 + nodes m condition + nodes m chosen + nodes m otherwise
  nodes m (is_expr.Implication' _ l operator _ r) = 1 + nodes m l + nodes m r

  pub operation_nodes : Told → Operation → ℕ
  operation_nodes m (is_operation.Binary operator r) = 1 + nodes m r
  operation_nodes m (is_operation.Inside' keyword opening _ ranges commas closing) = 1 + value_range_row m ranges

  pub dimension_nodes : Told → Dimension → ℕ
  dimension_nodes m (is_dimension.Size' opening _ size closing) = nodes m size
  dimension_nodes m (is_dimension.Range' opening _ l colon _ r closing) = nodes m l + nodes m r

  pub range_nodes : Told → Range → ℕ
  range_nodes m (is_range.Index' _ index) = nodes m index
  range_nodes m (is_range.Between' _ l colon _ r) = nodes m l + nodes m r
  range_nodes m (is_range.Upward' _ from at _ width) = nodes m from + nodes m width
  range_nodes m (is_range.Downward' _ from at _ width) = nodes m from + nodes m width

  -- each select is one node beside its places
  pub select_nodes : Told → Select → ℕ
  select_nodes m (is_select.Member dot name) = 1
  select_nodes m (is_select.Range' opening range closing) = 1 + range_nodes m range

  -- what is applied to a name; a call counts its arguments and its steps itself
  pub postfix_nodes : Told → ScopedName → Postfix → ℕ
  postfix_nodes m name (is_postfix.Select select) = select_nodes m select
  postfix_nodes m name (is_postfix.Call' opening _ arguments commas closing) = m.steps name (items-the_row-Arg _ arguments)
  postfix_nodes m name (is_postfix.Cast' apostrophe opening _ value closing) = 1 + nodes m value
  postfix_nodes m name (is_postfix.Pattern' opening _ items commas closing) = pattern_item_row m items

  pub argument_nodes : Told → Arg → ℕ
  argument_nodes m (is_arg.Wildcard token) = 0
  argument_nodes m (is_arg.Implicit dot name) = 0
  argument_nodes m (is_arg.Unconnected dot name opening closing) = 0
  argument_nodes m (is_arg.Named' dot name opening _ value closing) = nodes m value
  argument_nodes m (is_arg.Ordered' _ value) = nodes m value
  argument_nodes m is_arg.Empty = 0

  pub value_range_nodes : Told → ValueRange → ℕ
  value_range_nodes m (is_value_range.Between' opening _ low colon _ high closing) = nodes m low + nodes m high
  value_range_nodes m (is_value_range.Value' _ value) = nodes m value

  pub pattern_item_nodes : Told → PatternItem → ℕ
  pattern_item_nodes m (is_pattern_item.Default' keyword colon _ value) = nodes m value
  pattern_item_nodes m (is_pattern_item.Value' _ value) = nodes m value
  pattern_item_nodes m (is_pattern_item.Keyed' _ key colon _ value) = nodes m key + nodes m value
  pattern_item_nodes m (is_pattern_item.Repeated' _ count opening _ values commas closing) = nodes m count + expression_row m values

  -- rows of these
  pub expression_row : {n : _} → Told → Row_of-Expr n → ℕ
  expression_row m end_of-Expr = 0
  expression_row m (more_of-Expr e rest) = nodes m e + expression_row m rest

  pub range_select_row : {n : _} → Told → Row_of-RangeSelect n → ℕ
  range_select_row m end_of-RangeSelect = 0
  range_select_row m (more_of-RangeSelect opening range closing rest) = 1 + range_nodes m range + range_select_row m rest

  pub dimension_row : {n : _} → Told → Row_of-Dimension n → ℕ
  dimension_row m end_of-Dimension = 0
  dimension_row m (more_of-Dimension dimension rest) = dimension_nodes m dimension + dimension_row m rest

  pub select_row : {n : _} → Told → Row_of-Select n → ℕ
  select_row m end_of-Select = 0
  select_row m (more_of-Select select rest) = select_nodes m select + select_row m rest

  pub postfix_row : {n : _} → Told → ScopedName → Row_of-Postfix n → ℕ
  postfix_row m name end_of-Postfix = 0
  postfix_row m name (more_of-Postfix postfix rest) = postfix_nodes m name postfix + postfix_row m name rest

  pub operation_row : {n : _} → Told → Row_of-Operation n → ℕ
  operation_row m end_of-Operation = 0
  operation_row m (more_of-Operation operation rest) = operation_nodes m operation + operation_row m rest

  pub argument_row : {n : _} → Told → Row_of-Arg n → ℕ
  argument_row m end_of-Arg = 0
  argument_row m (more_of-Arg argument rest) = argument_nodes m argument + argument_row m rest

  pub value_range_row : {n : _} → Told → Row_of-ValueRange n → ℕ
  value_range_row m end_of-ValueRange = 0
  value_range_row m (more_of-ValueRange range rest) = value_range_nodes m range + value_range_row m rest

  pub pattern_item_row : {n : _} → Told → Row_of-PatternItem n → ℕ
  pattern_item_row m end_of-PatternItem = 0
  pattern_item_row m (more_of-PatternItem item rest) = pattern_item_nodes m item + pattern_item_row m rest

-- the same over what a tree holds
abbrev pub nodes_of_expressions : Told → Row Expr ℕ → ℕ
nodes_of_expressions m expressions = expression_row m (hidden-the_row-Expr-1 expressions.items)

abbrev pub nodes_of_range_selects : Told → Vec RangeSelect → ℕ
nodes_of_range_selects m selects = range_select_row m (hidden-the_row-RangeSelect-2 selects)

abbrev pub nodes_of_dimensions : Told → Vec Dimension → ℕ
nodes_of_dimensions m dimensions = dimension_row m (hidden-the_row-Dimension-3 dimensions)

abbrev pub nodes_of_selects : Told → Vec Select → ℕ
nodes_of_selects m selects = select_row m (hidden-the_row-Select-4 selects)

abbrev pub nodes_of_postfixes : Told → ScopedName → Vec Postfix → ℕ
nodes_of_postfixes m name postfixes = postfix_row m name (hidden-the_row-Postfix-6 postfixes)

abbrev pub nodes_of_operations : Told → Vec Operation → ℕ
nodes_of_operations m operations = operation_row m (hidden-the_row-Operation-7 operations)

abbrev pub nodes_of_arguments : Told → ArgumentList → ℕ
nodes_of_arguments m list = argument_row m (hidden-the_row-Arg-5 list.arguments.items)

abbrev pub nodes_of_value_ranges : Told → Row ValueRange ℕ → ℕ
nodes_of_value_ranges m ranges = value_range_row m (hidden-the_row-ValueRange-8 ranges.items)

abbrev pub nodes_of_pattern : Told → Pattern → ℕ
nodes_of_pattern m pattern = pattern_item_row m (hidden-the_row-PatternItem-0 pattern.items.items)

-- the same over lists
unfoldable pub expression_count : Told → List Expr → ℕ
expression_count m [] = 0
expression_count m (x ∷ xs) = nodes m x + expression_count m xs

unfoldable pub range_select_count : Told → List RangeSelect → ℕ
range_select_count m [] = 0
range_select_count m (x ∷ xs) = 1 + range_nodes m x.range + range_select_count m xs

unfoldable pub dimension_count : Told → List Dimension → ℕ
dimension_count m [] = 0
dimension_count m (x ∷ xs) = dimension_nodes m x + dimension_count m xs

unfoldable pub select_count : Told → List Select → ℕ
select_count m [] = 0
select_count m (x ∷ xs) = select_nodes m x + select_count m xs

unfoldable pub postfix_count : Told → ScopedName → List Postfix → ℕ
postfix_count m name [] = 0
postfix_count m name (x ∷ xs) = postfix_nodes m name x + postfix_count m name xs

unfoldable pub operation_count : Told → List Operation → ℕ
operation_count m [] = 0
operation_count m (x ∷ xs) = operation_nodes m x + operation_count m xs

unfoldable pub argument_count : Told → List Arg → ℕ
argument_count m [] = 0
argument_count m (x ∷ xs) = argument_nodes m x + argument_count m xs

unfoldable pub value_range_count : Told → List ValueRange → ℕ
value_range_count m [] = 0
value_range_count m (x ∷ xs) = value_range_nodes m x + value_range_count m xs

unfoldable pub pattern_item_count : Told → List PatternItem → ℕ
pattern_item_count m [] = 0
pattern_item_count m (x ∷ xs) = pattern_item_nodes m x + pattern_item_count m xs

-- the forms of several operands, and those with a row of operands, of dimensions, of arguments or of selects
abbrev pub has_operands : Expr → Bool
has_operands (is_expr.ParenthesizedCast' opening _ value closing apostrophe cast_opening _ cast_value cast_closing) = true
has_operands (is_expr.Operations' _ first _ operations) = true
has_operands (is_expr.Conditional' _ condition question _ chosen colon _ otherwise) = true
has_operands (is_expr.Implication' _ l operator _ r) = true
has_operands _ = false

abbrev pub has_rows : Expr → Bool
has_rows (is_expr.Replication' opening _ count inner_opening _ operands commas inner_closing closing _ selects) = true
has_rows (is_expr.Concatenation' opening _ operands commas closing _ selects) = true
has_rows (is_expr.TypeCast' keyword sign _ dimensions apostrophe opening _ value closing) = true
has_rows (is_expr.SystemName' name _ selects) = true
has_rows (is_expr.SystemCall' name opening _ arguments commas closing _ selects) = true
has_rows _ = false
