-- What expressions say (IEEE 1800-2017, A.8 and A.2.5).
use Rattle.std.specs.Global.{Box}
use Rattle.sve_outline.specs.Outline.{Outline, list_outline, mark_outline, no_more, option_outline, row_outline, token_at, variant, ◌◂◌}
use Rattle.sve_outline.specs.Words.{binary_operator_place, implication_operator_place, integer_keyword_place, scoped_name_outline, sign_place, unary_operator_place}
use Rattle.sve_tree.specs.declared.expression.Arg.{Arg}
use Rattle.sve_tree.specs.declared.expression.ArgumentList.{ArgumentList}
use Rattle.sve_tree.specs.declared.expression.Cast.{Cast}
use Rattle.sve_tree.specs.declared.expression.Dimension.{Dimension}
use Rattle.sve_tree.specs.declared.expression.Expr.{Expr, Row_of-Arg, Row_of-Dimension, Row_of-Expr, Row_of-Operation, Row_of-PatternItem, Row_of-Postfix, Row_of-RangeSelect, Row_of-Select, end_of-Arg, end_of-Dimension, end_of-Expr, end_of-Operation, end_of-PatternItem, end_of-Postfix, end_of-RangeSelect, end_of-Select, more_of-Arg, more_of-Dimension, more_of-Expr, more_of-Operation, more_of-PatternItem, more_of-Postfix, more_of-RangeSelect, more_of-Select}
use Rattle.sve_tree.specs.declared.expression.Operation.{Operation, Row_of-ValueRange, end_of-ValueRange, more_of-ValueRange}
use Rattle.sve_tree.specs.declared.expression.Parenthesized.{Parenthesized}
use Rattle.sve_tree.specs.declared.expression.Pattern.{Pattern}
use Rattle.sve_tree.specs.declared.expression.PatternItem.{PatternItem}
use Rattle.sve_tree.specs.declared.expression.Postfix.{Postfix}
use Rattle.sve_tree.specs.declared.expression.Range.{Range}
use Rattle.sve_tree.specs.declared.expression.Select.{Select}
use Rattle.sve_tree.specs.declared.expression.ValueRange.{ValueRange}
use Rattle.sve_tree.specs.declared.expression.Arg.TheVariants as is_arg
use Rattle.sve_tree.specs.declared.expression.Dimension.TheVariants as is_dimension
use Rattle.sve_tree.specs.declared.expression.Expr.TheVariants as is_expr
use Rattle.sve_tree.specs.declared.expression.Operation.TheVariants as is_operation
use Rattle.sve_tree.specs.declared.expression.PatternItem.TheVariants as is_pattern_item
use Rattle.sve_tree.specs.declared.expression.Postfix.TheVariants as is_postfix
use Rattle.sve_tree.specs.declared.expression.Range.TheVariants as is_range
use Rattle.sve_tree.specs.declared.expression.Select.TheVariants as is_select
use Rattle.sve_tree.specs.declared.expression.ValueRange.TheVariants as is_value_range

unfoldable mutual
  pub expr_outline : Expr → Outline
  expr_outline (is_expr.Decimal token) = variant 0 ◂ token_at token
  expr_outline (is_expr.Sized size based) = variant 1 ◂ token_at size ◂ token_at based
  expr_outline (is_expr.SizeCast' size apostrophe opening _ value_value closing) = variant 2 ◂ token_at size ◂ token_at apostrophe ◂ token_at opening ◂ expr_outline value_value ◂ token_at closing
  expr_outline (is_expr.Based token) = variant 3 ◂ token_at token
  expr_outline (is_expr.Unbased token) = variant 4 ◂ token_at token
  expr_outline (is_expr.Text token) = variant 5 ◂ token_at token
  expr_outline (is_expr.Parenthesized' opening _ value closing) = variant 6 ◂ token_at opening ◂ expr_outline value ◂ token_at closing
  expr_outline (is_expr.ParenthesizedCast' opening _ value closing apostrophe cast_value_opening _ cast_value_value cast_value_closing) = variant 7 ◂ token_at opening ◂ expr_outline value ◂ token_at closing ◂ token_at apostrophe ◂ token_at cast_value_opening ◂ expr_outline cast_value_value ◂ token_at cast_value_closing
  expr_outline (is_expr.Pattern' opening _ items commas closing) = variant 8 ◂ token_at opening ◂ (pattern_item_row_outline items ◂ list_outline token_at commas.items) ◂ token_at closing
  expr_outline (is_expr.Replication' opening _ count inner_opening _ operands commas inner_closing closing _ selects) = variant 9 ◂ token_at opening ◂ expr_outline count ◂ token_at inner_opening ◂ (expression_row_outline operands ◂ list_outline token_at commas.items) ◂ token_at inner_closing ◂ token_at closing ◂ range_select_row_outline selects
  expr_outline (is_expr.Concatenation' opening _ operands commas closing _ selects) = variant 10 ◂ token_at opening ◂ (expression_row_outline operands ◂ list_outline token_at commas.items) ◂ token_at closing ◂ range_select_row_outline selects
  expr_outline (is_expr.SignCast' sign apostrophe opening _ value_value closing) = variant 11 ◂ mark_outline sign_place sign ◂ token_at apostrophe ◂ token_at opening ◂ expr_outline value_value ◂ token_at closing
  expr_outline (is_expr.Type' keyword sign _ dimensions) = variant 12 ◂ mark_outline integer_keyword_place keyword ◂ option_outline (mark_outline sign_place) sign ◂ dimension_row_outline dimensions
  expr_outline (is_expr.TypeCast' keyword sign _ dimensions apostrophe opening _ value_value closing) = variant 13 ◂ mark_outline integer_keyword_place keyword ◂ option_outline (mark_outline sign_place) sign ◂ dimension_row_outline dimensions ◂ token_at apostrophe ◂ token_at opening ◂ expr_outline value_value ◂ token_at closing
  expr_outline (is_expr.SystemName' name _ selects) = variant 14 ◂ token_at name ◂ select_row_outline selects
  expr_outline (is_expr.SystemCall' name opening _ arguments commas closing _ selects) = variant 15 ◂ token_at name ◂ token_at opening ◂ (argument_row_outline arguments ◂ list_outline token_at commas.items) ◂ token_at closing ◂ select_row_outline selects
  expr_outline (is_expr.Name' name _ postfixes) = variant 16 ◂ scoped_name_outline name ◂ postfix_row_outline postfixes
  expr_outline (is_expr.Unary' operator _ operand) = variant 17 ◂ mark_outline unary_operator_place operator ◂ expr_outline operand
  expr_outline (is_expr.Operations' _ first _ operations) = variant 18 ◂ expr_outline first ◂ operation_row_outline operations
  expr_outline (is_expr.Conditional' _ condition question _ chosen colon _ otherwise) = variant 19 ◂ expr_outline condition ◂ token_at question ◂ expr_outline chosen ◂ token_at colon ◂ expr_outline otherwise
  expr_outline (is_expr.Implication' _ l operator _ r) = variant 20 ◂ expr_outline l ◂ mark_outline implication_operator_place operator ◂ expr_outline r

  pub operation_outline : Operation → Outline
  operation_outline (is_operation.Binary operator r) = variant 0 ◂ mark_outline binary_operator_place operator ◂ expr_outline r
  operation_outline (is_operation.Inside' keyword opening _ ranges commas closing) = variant 1 ◂ token_at keyword ◂ token_at opening ◂ (value_range_row_outline ranges ◂ list_outline token_at commas.items) ◂ token_at closing

  pub dimension_outline : Dimension → Outline
  dimension_outline (is_dimension.Size' opening _ size closing) = variant 0 ◂ token_at opening ◂ expr_outline size ◂ token_at closing
  dimension_outline (is_dimension.Range' opening _ l colon _ r closing) = variant 1 ◂ token_at opening ◂ expr_outline l ◂ token_at colon ◂ expr_outline r ◂ token_at closing

  pub range_outline : Range → Outline
  range_outline (is_range.Index' _ index) = variant 0 ◂ expr_outline index
  range_outline (is_range.Between' _ l colon _ r) = variant 1 ◂ expr_outline l ◂ token_at colon ◂ expr_outline r
  range_outline (is_range.Upward' _ from at _ width) = variant 2 ◂ expr_outline from ◂ token_at at ◂ expr_outline width
  range_outline (is_range.Downward' _ from at _ width) = variant 3 ◂ expr_outline from ◂ token_at at ◂ expr_outline width

  pub select_outline : Select → Outline
  select_outline (is_select.Member dot name) = variant 0 ◂ token_at dot ◂ token_at name
  select_outline (is_select.Range' opening range closing) = variant 1 ◂ token_at opening ◂ range_outline range ◂ token_at closing

  pub postfix_outline : Postfix → Outline
  postfix_outline (is_postfix.Select select) = variant 0 ◂ select_outline select
  postfix_outline (is_postfix.Call' opening _ arguments commas closing) = variant 1 ◂ token_at opening ◂ (argument_row_outline arguments ◂ list_outline token_at commas.items) ◂ token_at closing
  postfix_outline (is_postfix.Cast' apostrophe opening _ value_value closing) = variant 2 ◂ token_at apostrophe ◂ token_at opening ◂ expr_outline value_value ◂ token_at closing
  postfix_outline (is_postfix.Pattern' opening _ items commas closing) = variant 3 ◂ token_at opening ◂ (pattern_item_row_outline items ◂ list_outline token_at commas.items) ◂ token_at closing

  pub arg_outline : Arg → Outline
  arg_outline (is_arg.Wildcard token) = variant 0 ◂ token_at token
  arg_outline (is_arg.Implicit dot name) = variant 1 ◂ token_at dot ◂ token_at name
  arg_outline (is_arg.Unconnected dot name opening closing) = variant 2 ◂ token_at dot ◂ token_at name ◂ token_at opening ◂ token_at closing
  arg_outline (is_arg.Named' dot name opening _ value closing) = variant 3 ◂ token_at dot ◂ token_at name ◂ token_at opening ◂ expr_outline value ◂ token_at closing
  arg_outline (is_arg.Ordered' _ value) = variant 4 ◂ expr_outline value
  arg_outline is_arg.Empty = variant 5

  pub value_range_outline : ValueRange → Outline
  value_range_outline (is_value_range.Between' opening _ low colon _ high closing) = variant 0 ◂ token_at opening ◂ expr_outline low ◂ token_at colon ◂ expr_outline high ◂ token_at closing
  value_range_outline (is_value_range.Value' _ value) = variant 1 ◂ expr_outline value

  pub pattern_item_outline : PatternItem → Outline
  pattern_item_outline (is_pattern_item.Default' keyword colon _ value) = variant 0 ◂ token_at keyword ◂ token_at colon ◂ expr_outline value
  pattern_item_outline (is_pattern_item.Value' _ value) = variant 1 ◂ expr_outline value
  pattern_item_outline (is_pattern_item.Keyed' _ key colon _ value) = variant 2 ◂ expr_outline key ◂ token_at colon ◂ expr_outline value
  pattern_item_outline (is_pattern_item.Repeated' _ count opening _ values commas closing) = variant 3 ◂ expr_outline count ◂ token_at opening ◂ (expression_row_outline values ◂ list_outline token_at commas.items) ◂ token_at closing

  pub range_select_row_outline : {n : _} → Row_of-RangeSelect n → Outline
  range_select_row_outline end_of-RangeSelect = no_more
  range_select_row_outline (more_of-RangeSelect opening range closing rest) = (token_at opening ◂ range_outline range ◂ token_at closing) ◂ range_select_row_outline rest

  pub dimension_row_outline : {n : _} → Row_of-Dimension n → Outline
  dimension_row_outline end_of-Dimension = no_more
  dimension_row_outline (more_of-Dimension dimension rest) = dimension_outline dimension ◂ dimension_row_outline rest

  pub select_row_outline : {n : _} → Row_of-Select n → Outline
  select_row_outline end_of-Select = no_more
  select_row_outline (more_of-Select select rest) = select_outline select ◂ select_row_outline rest

  pub postfix_row_outline : {n : _} → Row_of-Postfix n → Outline
  postfix_row_outline end_of-Postfix = no_more
  postfix_row_outline (more_of-Postfix postfix rest) = postfix_outline postfix ◂ postfix_row_outline rest

  pub operation_row_outline : {n : _} → Row_of-Operation n → Outline
  operation_row_outline end_of-Operation = no_more
  operation_row_outline (more_of-Operation operation rest) = operation_outline operation ◂ operation_row_outline rest

  pub expression_row_outline : {n : _} → Row_of-Expr n → Outline
  expression_row_outline end_of-Expr = no_more
  expression_row_outline (more_of-Expr e rest) = expr_outline e ◂ expression_row_outline rest

  pub value_range_row_outline : {n : _} → Row_of-ValueRange n → Outline
  value_range_row_outline end_of-ValueRange = no_more
  value_range_row_outline (more_of-ValueRange range rest) = value_range_outline range ◂ value_range_row_outline rest

  pub argument_row_outline : {n : _} → Row_of-Arg n → Outline
  argument_row_outline end_of-Arg = no_more
  argument_row_outline (more_of-Arg argument rest) = arg_outline argument ◂ argument_row_outline rest

  pub pattern_item_row_outline : {n : _} → Row_of-PatternItem n → Outline
  pattern_item_row_outline end_of-PatternItem = no_more
  pattern_item_row_outline (more_of-PatternItem item rest) = pattern_item_outline item ◂ pattern_item_row_outline rest

abbrev pub expression_outline : Box Expr → Outline
expression_outline e = expr_outline e.value

abbrev pub parenthesized_outline : Parenthesized → Outline
parenthesized_outline x = token_at x.opening ◂ expr_outline x.value.value ◂ token_at x.closing

abbrev pub cast_outline : Cast → Outline
cast_outline x = token_at x.apostrophe ◂ parenthesized_outline x.value

abbrev pub argument_list_outline : ArgumentList → Outline
argument_list_outline x = token_at x.opening ◂ row_outline arg_outline token_at x.arguments ◂ token_at x.closing

abbrev pub pattern_outline : Pattern → Outline
pattern_outline x = token_at x.opening ◂ row_outline pattern_item_outline token_at x.items ◂ token_at x.closing
