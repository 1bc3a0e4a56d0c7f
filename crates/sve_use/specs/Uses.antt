-- The names that an expression uses, in the order of the text (IEEE 1800-2017, clause 11, 23.6, 23.9 and 26.3).
use Rattle.std.specs.Global.{Vec}
use Rattle.std.specs.Prelude.{ℕ, List, [], ◌∷◌, ◌++◌, Bool, true, false, if◌then◌else◌}
use Rattle.std.specs.Option.{is_none}
use Rattle.sve_tree.specs.declared.row.Row.{Row}
use Rattle.sve_tree.specs.declared.word.ScopedName.{ScopedName}
use Rattle.sve_tree.specs.declared.expression.Expr.{Expr, Row_of-Arg, Row_of-Dimension, Row_of-Expr, Row_of-Operation, Row_of-PatternItem, Row_of-Postfix, Row_of-RangeSelect, Row_of-Select, end_of-Arg, end_of-Dimension, end_of-Expr, end_of-Operation, end_of-PatternItem, end_of-Postfix, end_of-RangeSelect, end_of-Select, items-the_row-Postfix, more_of-Arg, more_of-Dimension, more_of-Expr, more_of-Operation, more_of-PatternItem, more_of-Postfix, more_of-RangeSelect, more_of-Select}
use Rattle.sve_tree.specs.declared.expression.Operation.{Operation, Row_of-ValueRange, end_of-ValueRange, more_of-ValueRange}
use Rattle.sve_tree.specs.declared.expression.Dimension.{Dimension}
use Rattle.sve_tree.specs.declared.expression.Range.{Range}
use Rattle.sve_tree.specs.declared.expression.RangeSelect.{RangeSelect}
use Rattle.sve_tree.specs.declared.expression.Select.{Select}
use Rattle.sve_tree.specs.declared.expression.Postfix.{Postfix}
use Rattle.sve_tree.specs.declared.expression.Arg.{Arg}
use Rattle.sve_tree.specs.declared.expression.ValueRange.{ValueRange}
use Rattle.sve_tree.specs.declared.expression.Pattern.{Pattern}
use Rattle.sve_tree.specs.declared.expression.PatternItem.{PatternItem}
use Rattle.sve_tree.specs.declared.expression.ArgumentList.{ArgumentList}
use Rattle.sve_tree.specs.declared.expression.Arg.TheBlock.{hidden-the_row-Expr-1, hidden-the_row-RangeSelect-2, hidden-the_row-Dimension-3, hidden-the_row-Select-4, hidden-the_row-Arg-5, hidden-the_row-Postfix-6, hidden-the_row-Operation-7, hidden-the_row-ValueRange-8, hidden-the_row-PatternItem-0}
use Rattle.sve_tree.specs.declared.expression.Expr.TheVariants as is_expr
use Rattle.sve_tree.specs.declared.expression.Operation.TheVariants as is_operation
use Rattle.sve_tree.specs.declared.expression.Dimension.TheVariants as is_dimension
use Rattle.sve_tree.specs.declared.expression.Range.TheVariants as is_range
use Rattle.sve_tree.specs.declared.expression.Select.TheVariants as is_select
use Rattle.sve_tree.specs.declared.expression.Postfix.TheVariants as is_postfix
use Rattle.sve_tree.specs.declared.expression.Arg.TheVariants as is_arg
use Rattle.sve_tree.specs.declared.expression.ValueRange.TheVariants as is_value_range
use Rattle.sve_tree.specs.declared.expression.PatternItem.TheVariants as is_pattern_item
use Rattle.sve_use.specs.Use.{Use, use_of}

-- nothing is applied to a name
abbrev pub is_alone : {n : _} → Row_of-Postfix n → Bool
is_alone end_of-Postfix = true
is_alone (more_of-Postfix postfix rest) = false

abbrev pub is_name_alone : Vec Postfix → Bool
is_name_alone postfixes = is_alone (hidden-the_row-Postfix-6 postfixes)

-- a name of no package, by itself
abbrev pub is_plain : ScopedName → Bool → Bool
is_plain name alone = if is_none name.scope then alone else false

-- a key that is a plain name is that of a member, and is not sought
abbrev pub is_plain_name : Expr → Bool
is_plain_name (is_expr.Name' name _ postfixes) = is_plain name (is_alone postfixes)
is_plain_name key = false

unfoldable mutual
  -- a name comes before the names in what is applied to it; a type by its keyword has those of its dimensions
  pub uses : Expr → List Use
  uses (is_expr.Decimal token) = []
  uses (is_expr.Sized size based) = []
  uses (is_expr.SizeCast' size apostrophe opening _ value closing) = uses value
  uses (is_expr.Based token) = []
  uses (is_expr.Unbased token) = []
  uses (is_expr.Text token) = []
  uses (is_expr.Parenthesized' opening _ value closing) = uses value
  uses (is_expr.ParenthesizedCast' opening _ value closing apostrophe cast_opening _ cast_value cast_closing) = uses value ++ uses cast_value
  uses (is_expr.Pattern' opening _ items commas closing) = pattern_item_row items
  uses (is_expr.Replication' opening _ count inner_opening _ operands commas inner_closing closing _ selects) = uses count ++ expression_row operands ++ range_select_row selects
  uses (is_expr.Concatenation' opening _ operands commas closing _ selects) = expression_row operands ++ range_select_row selects
  uses (is_expr.SignCast' sign apostrophe opening _ value closing) = uses value
  uses (is_expr.Type' keyword sign _ dimensions) = dimension_row dimensions
  uses (is_expr.TypeCast' keyword sign _ dimensions apostrophe opening _ value closing) = dimension_row dimensions ++ uses value
  uses (is_expr.SystemName' name _ selects) = select_row selects
  uses (is_expr.SystemCall' name opening _ arguments commas closing _ selects) = argument_row arguments ++ select_row selects
  uses (is_expr.Name' name _ postfixes) = use_of name (items-the_row-Postfix _ postfixes) ∷ postfix_row postfixes
  uses (is_expr.Unary' operator _ operand) = uses operand
  uses (is_expr.Operations' _ first _ operations) = uses first ++ operation_row operations
  uses (is_expr.Conditional' _ condition question _ chosen colon _ otherwise) = uses condition ++ uses chosen ++ uses otherwise
  uses (is_expr.Implication' _ l operator _ r) = uses l ++ uses r

  pub operation_uses : Operation → List Use
  operation_uses (is_operation.Binary operator r) = uses r
  operation_uses (is_operation.Inside' keyword opening _ ranges commas closing) = value_range_row ranges

  pub dimension_uses : Dimension → List Use
  dimension_uses (is_dimension.Size' opening _ size closing) = uses size
  dimension_uses (is_dimension.Range' opening _ l colon _ r closing) = uses l ++ uses r

  pub range_uses : Range → List Use
  range_uses (is_range.Index' _ index) = uses index
  range_uses (is_range.Between' _ l colon _ r) = uses l ++ uses r
  range_uses (is_range.Upward' _ from at _ width) = uses from ++ uses width
  range_uses (is_range.Downward' _ from at _ width) = uses from ++ uses width

  -- the name of a member is not sought by itself
  pub select_uses : Select → List Use
  select_uses (is_select.Member dot name) = []
  select_uses (is_select.Range' opening range closing) = range_uses range

  pub postfix_uses : Postfix → List Use
  postfix_uses (is_postfix.Select select) = select_uses select
  postfix_uses (is_postfix.Call' opening _ arguments commas closing) = argument_row arguments
  postfix_uses (is_postfix.Cast' apostrophe opening _ value closing) = uses value
  postfix_uses (is_postfix.Pattern' opening _ items commas closing) = pattern_item_row items

  -- the name of an argument is that of a formal
  pub argument_uses : Arg → List Use
  argument_uses (is_arg.Wildcard token) = []
  argument_uses (is_arg.Implicit dot name) = []
  argument_uses (is_arg.Unconnected dot name opening closing) = []
  argument_uses (is_arg.Named' dot name opening _ value closing) = uses value
  argument_uses (is_arg.Ordered' _ value) = uses value
  argument_uses is_arg.Empty = []

  pub value_range_uses : ValueRange → List Use
  value_range_uses (is_value_range.Between' opening _ low colon _ high closing) = uses low ++ uses high
  value_range_uses (is_value_range.Value' _ value) = uses value

  pub pattern_item_uses : PatternItem → List Use
  pattern_item_uses (is_pattern_item.Default' keyword colon _ value) = uses value
  pattern_item_uses (is_pattern_item.Value' _ value) = uses value
  pattern_item_uses (is_pattern_item.Keyed' _ key colon _ value) = if is_plain_name key then uses value else uses key ++ uses value
  pattern_item_uses (is_pattern_item.Repeated' _ count opening _ values commas closing) = uses count ++ expression_row values

  -- rows of these
  pub expression_row : {n : _} → Row_of-Expr n → List Use
  expression_row end_of-Expr = []
  expression_row (more_of-Expr item rest) = uses item ++ expression_row rest

  pub dimension_row : {n : _} → Row_of-Dimension n → List Use
  dimension_row end_of-Dimension = []
  dimension_row (more_of-Dimension item rest) = dimension_uses item ++ dimension_row rest

  pub select_row : {n : _} → Row_of-Select n → List Use
  select_row end_of-Select = []
  select_row (more_of-Select item rest) = select_uses item ++ select_row rest

  pub postfix_row : {n : _} → Row_of-Postfix n → List Use
  postfix_row end_of-Postfix = []
  postfix_row (more_of-Postfix item rest) = postfix_uses item ++ postfix_row rest

  pub operation_row : {n : _} → Row_of-Operation n → List Use
  operation_row end_of-Operation = []
  operation_row (more_of-Operation item rest) = operation_uses item ++ operation_row rest

  pub argument_row : {n : _} → Row_of-Arg n → List Use
  argument_row end_of-Arg = []
  argument_row (more_of-Arg item rest) = argument_uses item ++ argument_row rest

  pub value_range_row : {n : _} → Row_of-ValueRange n → List Use
  value_range_row end_of-ValueRange = []
  value_range_row (more_of-ValueRange item rest) = value_range_uses item ++ value_range_row rest

  pub pattern_item_row : {n : _} → Row_of-PatternItem n → List Use
  pattern_item_row end_of-PatternItem = []
  pattern_item_row (more_of-PatternItem item rest) = pattern_item_uses item ++ pattern_item_row rest

  pub range_select_row : {n : _} → Row_of-RangeSelect n → List Use
  range_select_row end_of-RangeSelect = []
  range_select_row (more_of-RangeSelect opening range closing rest) = range_uses range ++ range_select_row rest

-- the names in the places of a range in brackets
abbrev pub range_select_uses : RangeSelect → List Use
range_select_uses select = range_uses select.range

-- the same over what a tree holds
abbrev pub uses_of_expressions : Row Expr ℕ → List Use
uses_of_expressions expressions = expression_row (hidden-the_row-Expr-1 expressions.items)

abbrev pub uses_of_range_selects : Vec RangeSelect → List Use
uses_of_range_selects selects = range_select_row (hidden-the_row-RangeSelect-2 selects)

abbrev pub uses_of_dimensions : Vec Dimension → List Use
uses_of_dimensions dimensions = dimension_row (hidden-the_row-Dimension-3 dimensions)

abbrev pub uses_of_selects : Vec Select → List Use
uses_of_selects selects = select_row (hidden-the_row-Select-4 selects)

abbrev pub uses_of_postfixes : Vec Postfix → List Use
uses_of_postfixes postfixes = postfix_row (hidden-the_row-Postfix-6 postfixes)

abbrev pub uses_of_operations : Vec Operation → List Use
uses_of_operations operations = operation_row (hidden-the_row-Operation-7 operations)

abbrev pub uses_of_arguments : ArgumentList → List Use
uses_of_arguments list = argument_row (hidden-the_row-Arg-5 list.arguments.items)

abbrev pub uses_of_value_ranges : Row ValueRange ℕ → List Use
uses_of_value_ranges ranges = value_range_row (hidden-the_row-ValueRange-8 ranges.items)

abbrev pub uses_of_pattern : Pattern → List Use
uses_of_pattern pattern = pattern_item_row (hidden-the_row-PatternItem-0 pattern.items.items)
