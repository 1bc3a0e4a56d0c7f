-- The trees of expressions (IEEE 1800-2017, A.8 and A.2.5).
use Rattle.std.specs.Global.{Box}
use Rattle.std.specs.Prelude.{ℕ, zero, suc, ◌-◌, Bool, true, false, ◌&&◌, List, [], ◌∷◌, ◌==◌, nat_lt, if◌then◌else◌}
use Rattle.sve_grammar.specs.Reading.{Tree, leaf, none, pair, left, right, turn, ended}
use Rattle.sve_tree.specs.Shape.{◌▸◌, way, final, misplaced, optional_tree, first_of, further_of, row_first, row_rest, row_tree, mark_tree}
use Rattle.sve_tree.specs.Words.{sign_tree, integer_keyword_tree, unary_operator_tree, binary_operator_tree, implication_operator_tree, scoped_name_tree}
use Rattle.sve_tree.specs.declared.word.BinaryOperator.{BinaryOperator}
use Rattle.sve_tree.specs.declared.expression.Expr.{Expr, Row_of-Arg, Row_of-Dimension, Row_of-Expr, Row_of-Operation, Row_of-PatternItem, Row_of-Postfix, Row_of-RangeSelect, Row_of-Select, end_of-Arg, end_of-Dimension, end_of-Expr, end_of-Operation, end_of-PatternItem, end_of-Postfix, end_of-RangeSelect, end_of-Select, more_of-Arg, more_of-Dimension, more_of-Expr, more_of-Operation, more_of-PatternItem, more_of-Postfix, more_of-RangeSelect, more_of-Select}
use Rattle.sve_tree.specs.declared.expression.Operation.{Operation, Row_of-ValueRange, end_of-ValueRange, more_of-ValueRange}
use Rattle.sve_tree.specs.declared.expression.Parenthesized.{Parenthesized}
use Rattle.sve_tree.specs.declared.expression.Cast.{Cast}
use Rattle.sve_tree.specs.declared.expression.Dimension.{Dimension}
use Rattle.sve_tree.specs.declared.expression.Range.{Range}
use Rattle.sve_tree.specs.declared.expression.RangeSelect.{RangeSelect}
use Rattle.sve_tree.specs.declared.expression.Select.{Select}
use Rattle.sve_tree.specs.declared.expression.Postfix.{Postfix}
use Rattle.sve_tree.specs.declared.expression.ArgumentList.{ArgumentList}
use Rattle.sve_tree.specs.declared.expression.Arg.{Arg}
use Rattle.sve_tree.specs.declared.expression.ValueRange.{ValueRange}
use Rattle.sve_tree.specs.declared.expression.Pattern.{Pattern}
use Rattle.sve_tree.specs.declared.expression.PatternItem.{PatternItem}
use Rattle.sve_tree.specs.declared.word.BinaryOperator.TheVariants as is_binary_operator
use Rattle.sve_tree.specs.declared.expression.Expr.TheVariants as is_expr
use Rattle.sve_tree.specs.declared.expression.Operation.TheVariants as is_operation
use Rattle.sve_tree.specs.declared.expression.Dimension.TheVariants as is_dimension
use Rattle.sve_tree.specs.declared.expression.Range.TheVariants as is_range
use Rattle.sve_tree.specs.declared.expression.Select.TheVariants as is_select
use Rattle.sve_tree.specs.declared.expression.Postfix.TheVariants as is_postfix
use Rattle.sve_tree.specs.declared.expression.Arg.TheVariants as is_arg
use Rattle.sve_tree.specs.declared.expression.ValueRange.TheVariants as is_value_range
use Rattle.sve_tree.specs.declared.expression.PatternItem.TheVariants as is_pattern_item

-- the level of an operator: 1 binds tightest (Table 11-2)
abbrev pub level_of : BinaryOperator → ℕ
level_of is_binary_operator.Power = 1
level_of is_binary_operator.Times = 2
level_of is_binary_operator.Divide = 2
level_of is_binary_operator.Remainder = 2
level_of is_binary_operator.Plus = 3
level_of is_binary_operator.Minus = 3
level_of is_binary_operator.LogicalShiftLeft = 4
level_of is_binary_operator.LogicalShiftRight = 4
level_of is_binary_operator.ArithmeticShiftLeft = 4
level_of is_binary_operator.ArithmeticShiftRight = 4
level_of is_binary_operator.Less = 5
level_of is_binary_operator.LessEqual = 5
level_of is_binary_operator.Greater = 5
level_of is_binary_operator.GreaterEqual = 5
level_of is_binary_operator.Equal = 6
level_of is_binary_operator.NotEqual = 6
level_of is_binary_operator.CaseEqual = 6
level_of is_binary_operator.CaseNotEqual = 6
level_of is_binary_operator.WildcardEqual = 6
level_of is_binary_operator.WildcardNotEqual = 6
level_of is_binary_operator.And = 7
level_of is_binary_operator.Xor = 8
level_of is_binary_operator.TildeXnor = 8
level_of is_binary_operator.CaretXnor = 8
level_of is_binary_operator.Or = 9
level_of is_binary_operator.LogicalAnd = 10
level_of is_binary_operator.LogicalOr = 11

-- the level of an operation
abbrev pub operation_level : Operation → ℕ
operation_level (is_operation.Binary operator r) = level_of operator.kind
operation_level (is_operation.Inside' keyword opening _ ranges commas closing) = 5

-- the level of a chain: that of its first operation
abbrev pub chain_level : List Operation → ℕ
chain_level [] = 0
chain_level (operation ∷ rest) = operation_level operation

abbrev pub operation_row_level : {n : _} → Row_of-Operation n → ℕ
operation_row_level end_of-Operation = 0
operation_row_level (more_of-Operation operation rest) = operation_level operation

-- every operation is of this level
abbrev pub all_of_level : ℕ → List Operation → Bool
all_of_level level [] = true
all_of_level level (operation ∷ rest) = operation_level operation == level && all_of_level level rest

abbrev pub row_of_level : {n : _} → ℕ → Row_of-Operation n → Bool
row_of_level level end_of-Operation = true
row_of_level level (more_of-Operation operation rest) = operation_level operation == level && row_of_level level rest

-- a chain has an operation, and all its operations are of one level
abbrev pub is_chain_row : {n : _} → Row_of-Operation n → Bool
is_chain_row end_of-Operation = false
is_chain_row (more_of-Operation operation rest) = row_of_level (operation_level operation) rest

-- the level at which an expression stands: 0 for operands, 1 to 11 for chains of operators, 12 and 13 for what stands above
abbrev pub height : Expr → ℕ
height (is_expr.Decimal token) = 0
height (is_expr.Sized size based) = 0
height (is_expr.SizeCast' size apostrophe opening _ value_value closing) = 0
height (is_expr.Based token) = 0
height (is_expr.Unbased token) = 0
height (is_expr.Text token) = 0
height (is_expr.Parenthesized' opening _ value closing) = 0
height (is_expr.ParenthesizedCast' opening _ value closing apostrophe cast_value_opening _ cast_value_value cast_value_closing) = 0
height (is_expr.Pattern' opening _ items commas closing) = 0
height (is_expr.Replication' opening _ count inner_opening _ operands commas inner_closing closing _ selects) = 0
height (is_expr.Concatenation' opening _ operands commas closing _ selects) = 0
height (is_expr.SignCast' sign apostrophe opening _ value_value closing) = 0
height (is_expr.Type' keyword sign _ dimensions) = 0
height (is_expr.TypeCast' keyword sign _ dimensions apostrophe opening _ value_value closing) = 0
height (is_expr.SystemName' name _ selects) = 0
height (is_expr.SystemCall' name opening _ arguments commas closing _ selects) = 0
height (is_expr.Name' name _ postfixes) = 0
height (is_expr.Unary' operator _ operand) = 0
height (is_expr.Operations' _ first _ operations) = operation_row_level operations
height (is_expr.Conditional' _ condition question _ chosen colon _ otherwise) = 12
height (is_expr.Implication' _ l operator _ r) = 13

-- one level up, with no operator there
abbrev pub wrap : ℕ → Tree → Tree
wrap n t = if nat_lt n 11 then pair t ended else pair t (right none)

-- what stands at level h, at level n; nothing stands below its own level
unfoldable pub raise : ℕ → ℕ → Tree → Tree
raise zero h t = if h == 0 then t else misplaced t
raise (suc n) h t = if h == suc n then t else wrap n (raise n h t)

-- an operator with its right operand; on the level of the comparisons by order `inside` is the other alternative
abbrev pub operation_way : BinaryOperator → Tree → Tree
operation_way operator t = if level_of operator == 5 then left t else t

-- a tree that fits where it stands, or one that does not
abbrev pub in_place : Bool → Tree → Tree
in_place fits t = if fits then t else misplaced t

unfoldable mutual
  pub own : Expr → Tree
  own (is_expr.Decimal token) = right (way 0 (leaf token ▸ right none))
  own (is_expr.Sized size based) = right (way 0 (leaf size ▸ left (left (leaf based))))
  own (is_expr.SizeCast' size apostrophe opening _ value_value closing) = right (way 0 (leaf size ▸ left (right (leaf apostrophe ▸ leaf opening ▸ raise 13 (height value_value) (own value_value) ▸ leaf closing))))
  own (is_expr.Based token) = right (way 1 (leaf token))
  own (is_expr.Unbased token) = right (way 2 (leaf token))
  own (is_expr.Text token) = right (way 3 (leaf token))
  own (is_expr.Parenthesized' opening _ value closing) = right (way 4 ((leaf opening ▸ raise 13 (height value) (own value) ▸ leaf closing) ▸ right none))
  own (is_expr.ParenthesizedCast' opening _ value closing apostrophe cast_value_opening _ cast_value_value cast_value_closing) = right (way 4 ((leaf opening ▸ raise 13 (height value) (own value) ▸ leaf closing) ▸ left (leaf apostrophe ▸ leaf cast_value_opening ▸ raise 13 (height cast_value_value) (own cast_value_value) ▸ leaf cast_value_closing)))
  own (is_expr.Pattern' opening _ items commas closing) = right (way 5 (leaf opening ▸ first_of (pattern_item_trees items) ▸ further_of (pattern_item_trees items) commas.items ▸ leaf closing))
  own (is_expr.Replication' opening _ count inner_opening _ operands commas inner_closing closing _ selects) = right (way 6 (leaf opening ▸ raise 13 (height count) (own count) ▸ left (leaf inner_opening ▸ first_of (expression_trees operands) ▸ further_of (expression_trees operands) commas.items ▸ leaf inner_closing) ▸ leaf closing ▸ range_select_row selects))
  own (is_expr.Concatenation' opening _ operands commas closing _ selects) = right (way 6 (leaf opening ▸ first_of (expression_trees operands) ▸ right (further_of (expression_trees operands) commas.items) ▸ leaf closing ▸ range_select_row selects))
  own (is_expr.SignCast' sign apostrophe opening _ value_value closing) = right (way 7 (mark_tree sign_tree sign ▸ (leaf apostrophe ▸ leaf opening ▸ raise 13 (height value_value) (own value_value) ▸ leaf closing)))
  own (is_expr.Type' keyword sign _ dimensions) = right (way 8 (mark_tree integer_keyword_tree keyword ▸ optional_tree (mark_tree sign_tree) sign ▸ dimension_row dimensions ▸ right none))
  own (is_expr.TypeCast' keyword sign _ dimensions apostrophe opening _ value_value closing) = right (way 8 (mark_tree integer_keyword_tree keyword ▸ optional_tree (mark_tree sign_tree) sign ▸ dimension_row dimensions ▸ left (leaf apostrophe ▸ leaf opening ▸ raise 13 (height value_value) (own value_value) ▸ leaf closing)))
  own (is_expr.SystemName' name _ selects) = right (way 9 (leaf name ▸ right none ▸ select_row selects))
  own (is_expr.SystemCall' name opening _ arguments commas closing _ selects) = right (way 9 (leaf name ▸ left (leaf opening ▸ (first_of (argument_trees arguments) ▸ further_of (argument_trees arguments) commas.items) ▸ leaf closing) ▸ select_row selects))
  own (is_expr.Name' name _ postfixes) = right (final 10 (scoped_name_tree name ▸ postfix_row postfixes))
  own (is_expr.Unary' operator _ operand) = left (mark_tree unary_operator_tree operator ▸ raise 0 (height operand) (own operand))
  own (is_expr.Operations' _ first _ operations) = in_place (is_chain_row operations) (raise (operation_row_level operations - 1) (height first) (own first) ▸ operation_row operations)
  own (is_expr.Conditional' _ condition question _ chosen colon _ otherwise) = raise 11 (height condition) (own condition) ▸ left (leaf question ▸ raise 13 (height chosen) (own chosen) ▸ leaf colon ▸ raise 12 (height otherwise) (own otherwise))
  own (is_expr.Implication' _ l operator _ r) = raise 12 (height l) (own l) ▸ left (mark_tree implication_operator_tree operator ▸ raise 13 (height r) (own r))

  pub operation_tree : Operation → Tree
  operation_tree (is_operation.Binary operator r) = operation_way operator.kind (mark_tree binary_operator_tree operator ▸ raise (level_of operator.kind - 1) (height r) (own r))
  operation_tree (is_operation.Inside' keyword opening _ ranges commas closing) = right (leaf keyword ▸ leaf opening ▸ first_of (value_range_trees ranges) ▸ further_of (value_range_trees ranges) commas.items ▸ leaf closing)

  pub dimension_tree : Dimension → Tree
  dimension_tree (is_dimension.Size' opening _ size closing) = leaf opening ▸ raise 13 (height size) (own size) ▸ right none ▸ leaf closing
  dimension_tree (is_dimension.Range' opening _ l colon _ r closing) = leaf opening ▸ raise 13 (height l) (own l) ▸ left (leaf colon ▸ raise 13 (height r) (own r)) ▸ leaf closing

  pub range_tree : Range → Tree
  range_tree (is_range.Index' _ index) = raise 13 (height index) (own index) ▸ right none
  range_tree (is_range.Between' _ l colon _ r) = raise 13 (height l) (own l) ▸ left (way 0 (leaf colon ▸ raise 13 (height r) (own r)))
  range_tree (is_range.Upward' _ from at _ width) = raise 13 (height from) (own from) ▸ left (way 1 (leaf at ▸ raise 13 (height width) (own width)))
  range_tree (is_range.Downward' _ from at _ width) = raise 13 (height from) (own from) ▸ left (final 2 (leaf at ▸ raise 13 (height width) (own width)))

  pub select_tree : Select → Tree
  select_tree (is_select.Member dot name) = left (leaf dot ▸ leaf name)
  select_tree (is_select.Range' opening range closing) = right (leaf opening ▸ range_tree range ▸ leaf closing)

  pub postfix_tree : Postfix → Tree
  postfix_tree (is_postfix.Select select) = way 0 (select_tree select)
  postfix_tree (is_postfix.Call' opening _ arguments commas closing) = way 1 (leaf opening ▸ (first_of (argument_trees arguments) ▸ further_of (argument_trees arguments) commas.items) ▸ leaf closing)
  postfix_tree (is_postfix.Cast' apostrophe opening _ value_value closing) = way 2 (leaf apostrophe ▸ leaf opening ▸ raise 13 (height value_value) (own value_value) ▸ leaf closing)
  postfix_tree (is_postfix.Pattern' opening _ items commas closing) = final 3 (leaf opening ▸ first_of (pattern_item_trees items) ▸ further_of (pattern_item_trees items) commas.items ▸ leaf closing)

  pub arg_tree : Arg → Tree
  arg_tree (is_arg.Wildcard token) = way 0 (leaf token)
  arg_tree (is_arg.Implicit dot name) = way 1 (leaf dot ▸ leaf name ▸ right none)
  arg_tree (is_arg.Unconnected dot name opening closing) = way 1 (leaf dot ▸ leaf name ▸ left (leaf opening ▸ right none ▸ leaf closing))
  arg_tree (is_arg.Named' dot name opening _ value closing) = way 1 (leaf dot ▸ leaf name ▸ left (leaf opening ▸ left (raise 13 (height value) (own value)) ▸ leaf closing))
  arg_tree (is_arg.Ordered' _ value) = final 2 (left (raise 13 (height value) (own value)))
  arg_tree is_arg.Empty = final 2 (right none)

  pub value_range_tree : ValueRange → Tree
  value_range_tree (is_value_range.Between' opening _ low colon _ high closing) = left (leaf opening ▸ raise 13 (height low) (own low) ▸ leaf colon ▸ raise 13 (height high) (own high) ▸ leaf closing)
  value_range_tree (is_value_range.Value' _ value) = right (raise 13 (height value) (own value))

  pub pattern_item_tree : PatternItem → Tree
  pattern_item_tree (is_pattern_item.Default' keyword colon _ value) = left (leaf keyword ▸ leaf colon ▸ raise 13 (height value) (own value))
  pattern_item_tree (is_pattern_item.Value' _ value) = right (raise 13 (height value) (own value) ▸ right none)
  pattern_item_tree (is_pattern_item.Keyed' _ key colon _ value) = right (raise 13 (height key) (own key) ▸ left (left (leaf colon ▸ raise 13 (height value) (own value))))
  pattern_item_tree (is_pattern_item.Repeated' _ count opening _ values commas closing) = right (raise 13 (height count) (own count) ▸ left (right (leaf opening ▸ first_of (expression_trees values) ▸ further_of (expression_trees values) commas.items ▸ leaf closing)))

  pub range_select_row : {n : _} → Row_of-RangeSelect n → Tree
  range_select_row end_of-RangeSelect = ended
  range_select_row (more_of-RangeSelect opening range closing rest) = turn (leaf opening ▸ range_tree range ▸ leaf closing) (range_select_row rest)

  pub dimension_row : {n : _} → Row_of-Dimension n → Tree
  dimension_row end_of-Dimension = ended
  dimension_row (more_of-Dimension dimension rest) = turn (dimension_tree dimension) (dimension_row rest)

  pub select_row : {n : _} → Row_of-Select n → Tree
  select_row end_of-Select = ended
  select_row (more_of-Select select rest) = turn (select_tree select) (select_row rest)

  pub postfix_row : {n : _} → Row_of-Postfix n → Tree
  postfix_row end_of-Postfix = ended
  postfix_row (more_of-Postfix postfix rest) = turn (postfix_tree postfix) (postfix_row rest)

  pub operation_row : {n : _} → Row_of-Operation n → Tree
  operation_row end_of-Operation = ended
  operation_row (more_of-Operation operation rest) = turn (operation_tree operation) (operation_row rest)

  pub expression_trees : {n : _} → Row_of-Expr n → List Tree
  expression_trees end_of-Expr = []
  expression_trees (more_of-Expr e rest) = raise 13 (height e) (own e) ∷ expression_trees rest

  pub value_range_trees : {n : _} → Row_of-ValueRange n → List Tree
  value_range_trees end_of-ValueRange = []
  value_range_trees (more_of-ValueRange range rest) = value_range_tree range ∷ value_range_trees rest

  pub argument_trees : {n : _} → Row_of-Arg n → List Tree
  argument_trees end_of-Arg = []
  argument_trees (more_of-Arg argument rest) = arg_tree argument ∷ argument_trees rest

  pub pattern_item_trees : {n : _} → Row_of-PatternItem n → List Tree
  pattern_item_trees end_of-PatternItem = []
  pattern_item_trees (more_of-PatternItem item rest) = pattern_item_tree item ∷ pattern_item_trees rest

-- an expression at a level
abbrev pub tree_at : ℕ → Expr → Tree
tree_at level e = raise level (height e) (own e)

-- a whole expression
abbrev pub expression_tree : Box Expr → Tree
expression_tree e = tree_at 13 e.value

abbrev pub parenthesized_tree : Parenthesized → Tree
parenthesized_tree x = leaf x.opening ▸ tree_at 13 x.value.value ▸ leaf x.closing

abbrev pub cast_tree : Cast → Tree
cast_tree x = leaf x.apostrophe ▸ parenthesized_tree x.value

abbrev pub range_select_tree : RangeSelect → Tree
range_select_tree x = leaf x.opening ▸ range_tree x.range ▸ leaf x.closing

abbrev pub argument_list_tree : ArgumentList → Tree
argument_list_tree x = leaf x.opening ▸ row_tree arg_tree leaf x.arguments ▸ leaf x.closing

abbrev pub pattern_tree : Pattern → Tree
pattern_tree x = leaf x.opening ▸ row_first pattern_item_tree x.items ▸ row_rest pattern_item_tree leaf x.items ▸ leaf x.closing
