-- The tree of each variant: expressions.
use Rattle.std.specs.Global.{Box, Vec}
use Rattle.std.proofs.Common.{ℕ, zero, suc, ◌-◌, Bool, true, false, List, [], ◌∷◌, ◌++◌, map, length, Option, ◌≡◌, refl, ap, ◌∙◌, arith, ltb, eqb, ◌<◌, ◌≤◌}
use Rattle.std.specs.Prelude.{◌&&◌}
use Rattle.sve_grammar.specs.Reading.{Tree, leaf, none, left, right, turn, ended}
use Rattle.sve_tree.specs.Shape.{◌▸◌, way, final, optional_tree, repeated_tree, first_tree, further_tree, first_of, further_of, row_first, row_rest, mark_tree}
use Rattle.sve_tree.specs.declared.row.Row.{Row}
use Rattle.std.proofs.lemmas.Bool.{lt-ltb, eqb-true, eq-eqb}
use Rattle.sve_tree.proofs.Shapes.{first_map, further_map, raise_up, raise_same}
use Rattle.sve_tree.specs.declared.word.Mark.{Mark}
use Rattle.sve_tree.specs.declared.word.Sign.{Sign}
use Rattle.sve_tree.specs.Words.{sign_tree, integer_keyword_tree, unary_operator_tree, binary_operator_tree, implication_operator_tree, scoped_name_tree}
use Rattle.sve_tree.specs.declared.word.IntegerKeyword.{IntegerKeyword}
use Rattle.sve_tree.specs.declared.word.UnaryOperator.{UnaryOperator}
use Rattle.sve_tree.specs.declared.word.BinaryOperator.{BinaryOperator}
use Rattle.sve_tree.specs.declared.word.ImplicationOperator.{ImplicationOperator}
use Rattle.sve_tree.specs.declared.word.ScopedName.{ScopedName}
use Rattle.sve_tree.specs.declared.expression.Expr.{Expr, Row_of-Arg, Row_of-Dimension, Row_of-Expr, Row_of-Operation, Row_of-PatternItem, Row_of-Postfix, Row_of-RangeSelect, Row_of-Select, end_of-Arg, end_of-Dimension, end_of-Expr, end_of-Operation, end_of-PatternItem, end_of-Postfix, end_of-RangeSelect, end_of-Select, items-the_row-Arg, items-the_row-Dimension, items-the_row-Expr, items-the_row-Operation, items-the_row-PatternItem, items-the_row-Postfix, items-the_row-RangeSelect, items-the_row-Select, more_of-Arg, more_of-Dimension, more_of-Expr, more_of-Operation, more_of-PatternItem, more_of-Postfix, more_of-RangeSelect, more_of-Select}
use Rattle.sve_tree.specs.Expressions.{own, operation_tree, parenthesized_tree, cast_tree, dimension_tree, range_tree, range_select_tree, select_tree, postfix_tree, argument_list_tree, arg_tree, value_range_tree, pattern_tree, pattern_item_tree, tree_at, raise, height, level_of, operation_level, operation_row_level, chain_level, all_of_level, row_of_level, is_chain_row, operation_way, dimension_row, operation_row, postfix_row, range_select_row, select_row, argument_trees, expression_trees, pattern_item_trees, value_range_trees}
use Rattle.sve_tree.specs.declared.expression.Operation.{Operation, Row_of-ValueRange, end_of-ValueRange, items-the_row-ValueRange, more_of-ValueRange}
use Rattle.sve_tree.specs.declared.expression.Parenthesized.{Parenthesized}
use Rattle.sve_tree.specs.declared.expression.Cast.{Cast}
use Rattle.sve_tree.specs.declared.expression.Dimension.{Dimension}
use Rattle.sve_tree.specs.declared.expression.RangeSelect.{RangeSelect}
use Rattle.sve_tree.specs.declared.expression.Select.{Select}
use Rattle.sve_tree.specs.declared.expression.Postfix.{Postfix}
use Rattle.sve_tree.specs.declared.expression.ArgumentList.{ArgumentList}
use Rattle.sve_tree.specs.declared.expression.Arg.{Arg}
use Rattle.sve_tree.specs.declared.expression.ValueRange.{ValueRange}
use Rattle.sve_tree.specs.declared.expression.Pattern.{Pattern}
use Rattle.sve_tree.specs.declared.expression.PatternItem.{PatternItem}
use Rattle.sve_tree.specs.declared.expression.Arg.TheBlock.{hidden-the_row-Arg-5, hidden-the_row-Dimension-3, hidden-the_row-Expr-1, hidden-the_row-Operation-7, hidden-the_row-PatternItem-0, hidden-the_row-Postfix-6, hidden-the_row-RangeSelect-2, hidden-the_row-Select-4, hidden-the_row-ValueRange-8, items_hidden-the_row-Arg-5, items_hidden-the_row-Dimension-3, items_hidden-the_row-Expr-1, items_hidden-the_row-Operation-7, items_hidden-the_row-PatternItem-0, items_hidden-the_row-Postfix-6, items_hidden-the_row-RangeSelect-2, items_hidden-the_row-Select-4, items_hidden-the_row-ValueRange-8}
use Rattle.sve_tree.specs.declared.expression.Expr.TheVariants as is_expr
use Rattle.sve_tree.specs.declared.expression.Operation.TheVariants as is_operation
use Rattle.sve_tree.specs.declared.expression.Dimension.TheVariants as is_dimension
use Rattle.sve_tree.specs.declared.expression.Range.TheVariants as is_range
use Rattle.sve_tree.specs.declared.expression.Select.TheVariants as is_select
use Rattle.sve_tree.specs.declared.expression.Postfix.TheVariants as is_postfix
use Rattle.sve_tree.specs.declared.expression.Arg.TheVariants as is_arg
use Rattle.sve_tree.specs.declared.expression.ValueRange.TheVariants as is_value_range
use Rattle.sve_tree.specs.declared.expression.PatternItem.TheVariants as is_pattern_item

-- ---- rows

range_select_row_is : {n : _} (row : Row_of-RangeSelect n) → range_select_row row ≡ repeated_tree range_select_tree (items-the_row-RangeSelect n row)
unfolding own repeated_tree
range_select_row_is end_of-RangeSelect = refl
range_select_row_is (more_of-RangeSelect opening range closing rest) = ap (λ (t : Tree). turn (leaf opening ▸ range_tree range ▸ leaf closing) t) (range_select_row_is rest)

pub range_select_row_of : (xs : Vec RangeSelect) → range_select_row (hidden-the_row-RangeSelect-2 xs) ≡ repeated_tree range_select_tree xs.items
range_select_row_of xs = range_select_row_is (hidden-the_row-RangeSelect-2 xs) ∙ ap (repeated_tree range_select_tree) (items_hidden-the_row-RangeSelect-2 xs)

dimension_row_is : {n : _} (row : Row_of-Dimension n) → dimension_row row ≡ repeated_tree dimension_tree (items-the_row-Dimension n row)
unfolding own repeated_tree
dimension_row_is end_of-Dimension = refl
dimension_row_is (more_of-Dimension dimension rest) = ap (λ (t : Tree). turn (dimension_tree dimension) t) (dimension_row_is rest)

pub dimension_row_of : (xs : Vec Dimension) → dimension_row (hidden-the_row-Dimension-3 xs) ≡ repeated_tree dimension_tree xs.items
dimension_row_of xs = dimension_row_is (hidden-the_row-Dimension-3 xs) ∙ ap (repeated_tree dimension_tree) (items_hidden-the_row-Dimension-3 xs)

select_row_is : {n : _} (row : Row_of-Select n) → select_row row ≡ repeated_tree select_tree (items-the_row-Select n row)
unfolding own repeated_tree
select_row_is end_of-Select = refl
select_row_is (more_of-Select select rest) = ap (λ (t : Tree). turn (select_tree select) t) (select_row_is rest)

pub select_row_of : (xs : Vec Select) → select_row (hidden-the_row-Select-4 xs) ≡ repeated_tree select_tree xs.items
select_row_of xs = select_row_is (hidden-the_row-Select-4 xs) ∙ ap (repeated_tree select_tree) (items_hidden-the_row-Select-4 xs)

postfix_row_is : {n : _} (row : Row_of-Postfix n) → postfix_row row ≡ repeated_tree postfix_tree (items-the_row-Postfix n row)
unfolding own repeated_tree
postfix_row_is end_of-Postfix = refl
postfix_row_is (more_of-Postfix postfix rest) = ap (λ (t : Tree). turn (postfix_tree postfix) t) (postfix_row_is rest)

pub postfix_row_of : (xs : Vec Postfix) → postfix_row (hidden-the_row-Postfix-6 xs) ≡ repeated_tree postfix_tree xs.items
postfix_row_of xs = postfix_row_is (hidden-the_row-Postfix-6 xs) ∙ ap (repeated_tree postfix_tree) (items_hidden-the_row-Postfix-6 xs)

operation_row_is : {n : _} (row : Row_of-Operation n) → operation_row row ≡ repeated_tree operation_tree (items-the_row-Operation n row)
unfolding own repeated_tree
operation_row_is end_of-Operation = refl
operation_row_is (more_of-Operation operation rest) = ap (λ (t : Tree). turn (operation_tree operation) t) (operation_row_is rest)

pub operation_row_of : (xs : Vec Operation) → operation_row (hidden-the_row-Operation-7 xs) ≡ repeated_tree operation_tree xs.items
operation_row_of xs = operation_row_is (hidden-the_row-Operation-7 xs) ∙ ap (repeated_tree operation_tree) (items_hidden-the_row-Operation-7 xs)

expression_trees_are : {n : _} (row : Row_of-Expr n) → expression_trees row ≡ map (tree_at 13) (items-the_row-Expr n row)
unfolding own
expression_trees_are end_of-Expr = refl
expression_trees_are (more_of-Expr item rest) = ap (λ (ts : List Tree). tree_at 13 item ∷ ts) (expression_trees_are rest)

expression_trees_of : (xs : Vec Expr) → expression_trees (hidden-the_row-Expr-1 xs) ≡ map (tree_at 13) xs.items
expression_trees_of xs = expression_trees_are (hidden-the_row-Expr-1 xs) ∙ ap (map (tree_at 13)) (items_hidden-the_row-Expr-1 xs)

pub expressions_first : (xs : Vec Expr) → first_of (expression_trees (hidden-the_row-Expr-1 xs)) ≡ first_tree (tree_at 13) xs.items
expressions_first xs = ap first_of (expression_trees_of xs) ∙ first_map (tree_at 13) xs.items

pub expressions_further : (xs : Vec Expr) (ss : List ℕ) → further_of (expression_trees (hidden-the_row-Expr-1 xs)) ss ≡ further_tree (tree_at 13) leaf xs.items ss
expressions_further xs ss = ap (λ (ts : List Tree). further_of ts ss) (expression_trees_of xs) ∙ further_map (tree_at 13) leaf xs.items ss

value_range_trees_are : {n : _} (row : Row_of-ValueRange n) → value_range_trees row ≡ map value_range_tree (items-the_row-ValueRange n row)
unfolding own
value_range_trees_are end_of-ValueRange = refl
value_range_trees_are (more_of-ValueRange item rest) = ap (λ (ts : List Tree). value_range_tree item ∷ ts) (value_range_trees_are rest)

value_range_trees_of : (xs : Vec ValueRange) → value_range_trees (hidden-the_row-ValueRange-8 xs) ≡ map value_range_tree xs.items
value_range_trees_of xs = value_range_trees_are (hidden-the_row-ValueRange-8 xs) ∙ ap (map value_range_tree) (items_hidden-the_row-ValueRange-8 xs)

pub value_ranges_first : (xs : Vec ValueRange) → first_of (value_range_trees (hidden-the_row-ValueRange-8 xs)) ≡ first_tree value_range_tree xs.items
value_ranges_first xs = ap first_of (value_range_trees_of xs) ∙ first_map value_range_tree xs.items

pub value_ranges_further : (xs : Vec ValueRange) (ss : List ℕ) → further_of (value_range_trees (hidden-the_row-ValueRange-8 xs)) ss ≡ further_tree value_range_tree leaf xs.items ss
value_ranges_further xs ss = ap (λ (ts : List Tree). further_of ts ss) (value_range_trees_of xs) ∙ further_map value_range_tree leaf xs.items ss

argument_trees_are : {n : _} (row : Row_of-Arg n) → argument_trees row ≡ map arg_tree (items-the_row-Arg n row)
unfolding own
argument_trees_are end_of-Arg = refl
argument_trees_are (more_of-Arg item rest) = ap (λ (ts : List Tree). arg_tree item ∷ ts) (argument_trees_are rest)

argument_trees_of : (xs : Vec Arg) → argument_trees (hidden-the_row-Arg-5 xs) ≡ map arg_tree xs.items
argument_trees_of xs = argument_trees_are (hidden-the_row-Arg-5 xs) ∙ ap (map arg_tree) (items_hidden-the_row-Arg-5 xs)

pub arguments_first : (xs : Vec Arg) → first_of (argument_trees (hidden-the_row-Arg-5 xs)) ≡ first_tree arg_tree xs.items
arguments_first xs = ap first_of (argument_trees_of xs) ∙ first_map arg_tree xs.items

pub arguments_further : (xs : Vec Arg) (ss : List ℕ) → further_of (argument_trees (hidden-the_row-Arg-5 xs)) ss ≡ further_tree arg_tree leaf xs.items ss
arguments_further xs ss = ap (λ (ts : List Tree). further_of ts ss) (argument_trees_of xs) ∙ further_map arg_tree leaf xs.items ss

pattern_item_trees_are : {n : _} (row : Row_of-PatternItem n) → pattern_item_trees row ≡ map pattern_item_tree (items-the_row-PatternItem n row)
unfolding own
pattern_item_trees_are end_of-PatternItem = refl
pattern_item_trees_are (more_of-PatternItem item rest) = ap (λ (ts : List Tree). pattern_item_tree item ∷ ts) (pattern_item_trees_are rest)

pattern_item_trees_of : (xs : Vec PatternItem) → pattern_item_trees (hidden-the_row-PatternItem-0 xs) ≡ map pattern_item_tree xs.items
pattern_item_trees_of xs = pattern_item_trees_are (hidden-the_row-PatternItem-0 xs) ∙ ap (map pattern_item_tree) (items_hidden-the_row-PatternItem-0 xs)

pub pattern_items_first : (xs : Vec PatternItem) → first_of (pattern_item_trees (hidden-the_row-PatternItem-0 xs)) ≡ first_tree pattern_item_tree xs.items
pattern_items_first xs = ap first_of (pattern_item_trees_of xs) ∙ first_map pattern_item_tree xs.items

pub pattern_items_further : (xs : Vec PatternItem) (ss : List ℕ) → further_of (pattern_item_trees (hidden-the_row-PatternItem-0 xs)) ss ≡ further_tree pattern_item_tree leaf xs.items ss
pattern_items_further xs ss = ap (λ (ts : List Tree). further_of ts ss) (pattern_item_trees_of xs) ∙ further_map pattern_item_tree leaf xs.items ss

-- ---- expr

pub decimal_expr : (token : ℕ) → tree_at 0 (is_expr.Decimal token) ≡ right (way 0 (leaf token ▸ right none))
unfolding own raise
decimal_expr token = refl

pub sized_expr : (size : ℕ) (based : ℕ) → tree_at 0 (is_expr.Sized size based) ≡ right (way 0 (leaf size ▸ left (left (leaf based))))
unfolding own raise
sized_expr size based = refl

pub size_cast_expr : (size : ℕ) (cast : Cast) → tree_at 0 (is_expr.SizeCast size cast) ≡ right (way 0 (leaf size ▸ left (right (cast_tree cast))))
unfolding own raise
size_cast_expr size cast = refl

pub based_expr : (token : ℕ) → tree_at 0 (is_expr.Based token) ≡ right (way 1 (leaf token))
unfolding own raise
based_expr token = refl

pub unbased_expr : (token : ℕ) → tree_at 0 (is_expr.Unbased token) ≡ right (way 2 (leaf token))
unfolding own raise
unbased_expr token = refl

pub text_expr : (token : ℕ) → tree_at 0 (is_expr.Text token) ≡ right (way 3 (leaf token))
unfolding own raise
text_expr token = refl

pub parenthesized_expr : (inner : Parenthesized) → tree_at 0 (is_expr.Parenthesized inner) ≡ right (way 4 (parenthesized_tree inner ▸ right none))
unfolding own raise
parenthesized_expr inner = refl

pub parenthesized_cast_expr : (size : Parenthesized) (cast : Cast) → tree_at 0 (is_expr.ParenthesizedCast size cast) ≡ right (way 4 (parenthesized_tree size ▸ left (cast_tree cast)))
unfolding own raise
parenthesized_cast_expr size cast = refl

pub pattern_expr : (pattern : Pattern) → tree_at 0 (is_expr.Pattern pattern) ≡ right (way 5 (pattern_tree pattern))
unfolding own raise
pattern_expr pattern = rw (pattern_items_first pattern.items.items, pattern_items_further pattern.items.items pattern.items.separators.items) refl

pub replication_expr : (opening : ℕ) (count : Box Expr) (inner_opening : ℕ) (operands : Row Expr ℕ) (inner_closing : ℕ) (closing : ℕ) (selects : Vec RangeSelect) → tree_at 0 (is_expr.Replication opening count inner_opening operands inner_closing closing selects) ≡ right (way 6 (leaf opening ▸ tree_at 13 count.value ▸ left (leaf inner_opening ▸ row_first (tree_at 13) operands ▸ row_rest (tree_at 13) leaf operands ▸ leaf inner_closing) ▸ leaf closing ▸ repeated_tree range_select_tree selects.items))
unfolding own raise
replication_expr opening count inner_opening operands inner_closing closing selects = rw (expressions_first operands.items, expressions_further operands.items operands.separators.items, range_select_row_of selects) refl

pub concatenation_expr : (opening : ℕ) (operands : Row Expr ℕ) (closing : ℕ) (selects : Vec RangeSelect) → tree_at 0 (is_expr.Concatenation opening operands closing selects) ≡ right (way 6 (leaf opening ▸ row_first (tree_at 13) operands ▸ right (row_rest (tree_at 13) leaf operands) ▸ leaf closing ▸ repeated_tree range_select_tree selects.items))
unfolding own raise
concatenation_expr opening operands closing selects = rw (expressions_first operands.items, expressions_further operands.items operands.separators.items, range_select_row_of selects) refl

pub sign_cast_expr : (sign : Mark Sign) (cast : Cast) → tree_at 0 (is_expr.SignCast sign cast) ≡ right (way 7 (mark_tree sign_tree sign ▸ cast_tree cast))
unfolding own raise
sign_cast_expr sign cast = refl

pub type_expr : (keyword : Mark IntegerKeyword) (sign : Option (Mark Sign)) (dimensions : Vec Dimension) → tree_at 0 (is_expr.Type keyword sign dimensions) ≡ right (way 8 (mark_tree integer_keyword_tree keyword ▸ optional_tree (mark_tree sign_tree) sign ▸ repeated_tree dimension_tree dimensions.items ▸ right none))
unfolding own raise
type_expr keyword sign dimensions = ap (λ (t : Tree). right (way 8 (mark_tree integer_keyword_tree keyword ▸ optional_tree (mark_tree sign_tree) sign ▸ t ▸ right none))) (dimension_row_of dimensions)

pub type_cast_expr : (keyword : Mark IntegerKeyword) (sign : Option (Mark Sign)) (dimensions : Vec Dimension) (cast : Cast) → tree_at 0 (is_expr.TypeCast keyword sign dimensions cast) ≡ right (way 8 (mark_tree integer_keyword_tree keyword ▸ optional_tree (mark_tree sign_tree) sign ▸ repeated_tree dimension_tree dimensions.items ▸ left (cast_tree cast)))
unfolding own raise
type_cast_expr keyword sign dimensions cast = ap (λ (t : Tree). right (way 8 (mark_tree integer_keyword_tree keyword ▸ optional_tree (mark_tree sign_tree) sign ▸ t ▸ left (cast_tree cast)))) (dimension_row_of dimensions)

pub system_name_expr : (name : ℕ) (selects : Vec Select) → tree_at 0 (is_expr.SystemName name selects) ≡ right (way 9 (leaf name ▸ right none ▸ repeated_tree select_tree selects.items))
unfolding own raise
system_name_expr name selects = ap (λ (t : Tree). right (way 9 (leaf name ▸ right none ▸ t))) (select_row_of selects)

pub system_call_expr : (name : ℕ) (arguments : ArgumentList) (selects : Vec Select) → tree_at 0 (is_expr.SystemCall name arguments selects) ≡ right (way 9 (leaf name ▸ left (argument_list_tree arguments) ▸ repeated_tree select_tree selects.items))
unfolding own raise
system_call_expr name arguments selects = rw (arguments_first arguments.arguments.items, arguments_further arguments.arguments.items arguments.arguments.separators.items, select_row_of selects) refl

pub name_expr : (name : ScopedName) (postfixes : Vec Postfix) → tree_at 0 (is_expr.Name name postfixes) ≡ right (final 10 (scoped_name_tree name ▸ repeated_tree postfix_tree postfixes.items))
unfolding own raise
name_expr name postfixes = ap (λ (t : Tree). right (final 10 (scoped_name_tree name ▸ t))) (postfix_row_of postfixes)

pub unary_expr : (operator : Mark UnaryOperator) (operand : Box Expr) → tree_at 0 (is_expr.Unary operator operand) ≡ left (mark_tree unary_operator_tree operator ▸ tree_at 0 operand.value)
unfolding own raise
unary_expr operator operand = refl

pub conditional_expr : (condition : Box Expr) (question : ℕ) (chosen : Box Expr) (colon : ℕ) (otherwise : Box Expr) → tree_at 12 (is_expr.Conditional condition question chosen colon otherwise) ≡ tree_at 11 condition.value ▸ left (leaf question ▸ tree_at 13 chosen.value ▸ leaf colon ▸ tree_at 12 otherwise.value)
unfolding own raise
conditional_expr condition question chosen colon otherwise = refl

pub implication_expr : (l : Box Expr) (operator : Mark ImplicationOperator) (r : Box Expr) → tree_at 13 (is_expr.Implication l operator r) ≡ tree_at 12 l.value ▸ left (mark_tree implication_operator_tree operator ▸ tree_at 13 r.value)
unfolding own raise
implication_expr l operator r = refl

-- ---- operation

pub binary_operation : (operator : Mark BinaryOperator) (r : Expr) → operation_tree (is_operation.Binary operator r) ≡ operation_way operator.kind (mark_tree binary_operator_tree operator ▸ tree_at (level_of operator.kind - 1) r)
unfolding own
binary_operation operator r = refl

pub inside_operation : (keyword : ℕ) (opening : ℕ) (ranges : Row ValueRange ℕ) (closing : ℕ) → operation_tree (is_operation.Inside keyword opening ranges closing) ≡ right (leaf keyword ▸ leaf opening ▸ row_first value_range_tree ranges ▸ row_rest value_range_tree leaf ranges ▸ leaf closing)
unfolding own
inside_operation keyword opening ranges closing = rw (value_ranges_first ranges.items, value_ranges_further ranges.items ranges.separators.items) refl

-- ---- dimension

pub size_dimension : (opening : ℕ) (size : Box Expr) (closing : ℕ) → dimension_tree (is_dimension.Size opening size closing) ≡ leaf opening ▸ tree_at 13 size.value ▸ right none ▸ leaf closing
unfolding own
size_dimension opening size closing = refl

pub range_dimension : (opening : ℕ) (l : Box Expr) (colon : ℕ) (r : Box Expr) (closing : ℕ) → dimension_tree (is_dimension.Range opening l colon r closing) ≡ leaf opening ▸ tree_at 13 l.value ▸ left (leaf colon ▸ tree_at 13 r.value) ▸ leaf closing
unfolding own
range_dimension opening l colon r closing = refl

-- ---- range

pub index_range : (index : Box Expr) → range_tree (is_range.Index index) ≡ tree_at 13 index.value ▸ right none
unfolding own
index_range index = refl

pub between_range : (l : Box Expr) (colon : ℕ) (r : Box Expr) → range_tree (is_range.Between l colon r) ≡ tree_at 13 l.value ▸ left (way 0 (leaf colon ▸ tree_at 13 r.value))
unfolding own
between_range l colon r = refl

pub upward_range : (from : Box Expr) (at : ℕ) (width : Box Expr) → range_tree (is_range.Upward from at width) ≡ tree_at 13 from.value ▸ left (way 1 (leaf at ▸ tree_at 13 width.value))
unfolding own
upward_range from at width = refl

pub downward_range : (from : Box Expr) (at : ℕ) (width : Box Expr) → range_tree (is_range.Downward from at width) ≡ tree_at 13 from.value ▸ left (final 2 (leaf at ▸ tree_at 13 width.value))
unfolding own
downward_range from at width = refl

-- ---- select

pub member_select : (dot : ℕ) (name : ℕ) → select_tree (is_select.Member dot name) ≡ left (leaf dot ▸ leaf name)
unfolding own
member_select dot name = refl

pub range_select : (select : RangeSelect) → select_tree (is_select.Range select) ≡ right (range_select_tree select)
unfolding own
range_select select = refl

-- ---- postfix

pub select_postfix : (select : Select) → postfix_tree (is_postfix.Select select) ≡ way 0 (select_tree select)
unfolding own
select_postfix select = refl

pub call_postfix : (arguments : ArgumentList) → postfix_tree (is_postfix.Call arguments) ≡ way 1 (argument_list_tree arguments)
unfolding own
call_postfix arguments = rw (arguments_first arguments.arguments.items, arguments_further arguments.arguments.items arguments.arguments.separators.items) refl

pub cast_postfix : (cast : Cast) → postfix_tree (is_postfix.Cast cast) ≡ way 2 (cast_tree cast)
unfolding own
cast_postfix cast = refl

pub pattern_postfix : (pattern : Pattern) → postfix_tree (is_postfix.Pattern pattern) ≡ final 3 (pattern_tree pattern)
unfolding own
pattern_postfix pattern = rw (pattern_items_first pattern.items.items, pattern_items_further pattern.items.items pattern.items.separators.items) refl

-- ---- arg

pub wildcard_arg : (token : ℕ) → arg_tree (is_arg.Wildcard token) ≡ way 0 (leaf token)
unfolding own
wildcard_arg token = refl

pub implicit_arg : (dot : ℕ) (name : ℕ) → arg_tree (is_arg.Implicit dot name) ≡ way 1 (leaf dot ▸ leaf name ▸ right none)
unfolding own
implicit_arg dot name = refl

pub unconnected_arg : (dot : ℕ) (name : ℕ) (opening : ℕ) (closing : ℕ) → arg_tree (is_arg.Unconnected dot name opening closing) ≡ way 1 (leaf dot ▸ leaf name ▸ left (leaf opening ▸ right none ▸ leaf closing))
unfolding own
unconnected_arg dot name opening closing = refl

pub named_arg : (dot : ℕ) (name : ℕ) (opening : ℕ) (value : Box Expr) (closing : ℕ) → arg_tree (is_arg.Named dot name opening value closing) ≡ way 1 (leaf dot ▸ leaf name ▸ left (leaf opening ▸ left (tree_at 13 value.value) ▸ leaf closing))
unfolding own
named_arg dot name opening value closing = refl

pub ordered_arg : (value : Box Expr) → arg_tree (is_arg.Ordered value) ≡ final 2 (left (tree_at 13 value.value))
unfolding own
ordered_arg value = refl

pub empty_arg : arg_tree is_arg.Empty ≡ final 2 (right none)
unfolding own
empty_arg = refl

-- ---- value range

pub between_value_range : (opening : ℕ) (low : Box Expr) (colon : ℕ) (high : Box Expr) (closing : ℕ) → value_range_tree (is_value_range.Between opening low colon high closing) ≡ left (leaf opening ▸ tree_at 13 low.value ▸ leaf colon ▸ tree_at 13 high.value ▸ leaf closing)
unfolding own
between_value_range opening low colon high closing = refl

pub value_value_range : (value : Box Expr) → value_range_tree (is_value_range.Value value) ≡ right (tree_at 13 value.value)
unfolding own
value_value_range value = refl

-- ---- pattern item

pub default_pattern_item : (keyword : ℕ) (colon : ℕ) (value : Box Expr) → pattern_item_tree (is_pattern_item.Default keyword colon value) ≡ left (leaf keyword ▸ leaf colon ▸ tree_at 13 value.value)
unfolding own
default_pattern_item keyword colon value = refl

pub value_pattern_item : (value : Box Expr) → pattern_item_tree (is_pattern_item.Value value) ≡ right (tree_at 13 value.value ▸ right none)
unfolding own
value_pattern_item value = refl

pub keyed_pattern_item : (key : Box Expr) (colon : ℕ) (value : Box Expr) → pattern_item_tree (is_pattern_item.Keyed key colon value) ≡ right (tree_at 13 key.value ▸ left (left (leaf colon ▸ tree_at 13 value.value)))
unfolding own
keyed_pattern_item key colon value = refl

pub repeated_pattern_item : (count : Box Expr) (opening : ℕ) (values : Row Expr ℕ) (closing : ℕ) → pattern_item_tree (is_pattern_item.Repeated count opening values closing) ≡ right (tree_at 13 count.value ▸ left (right (leaf opening ▸ row_first (tree_at 13) values ▸ row_rest (tree_at 13) leaf values ▸ leaf closing)))
unfolding own
repeated_pattern_item count opening values closing = rw (expressions_first values.items, expressions_further values.items values.separators.items) refl

-- ---- levels of operators

-- an operand of tighter operators, on a level of operators
pub tree_up : (b : ℕ) (e : Expr) → 0 < b → b ≤ 11 → height e ≤ b - 1 → tree_at b e ≡ tree_at (b - 1) e ▸ ended
tree_up zero e p q h = absurd (omega arith)
tree_up (suc n) e p q h =
    let one : suc n - 1 ≡ n = omega arith in
    let le : height e ≤ n = omega arith in
    let low : ltb n 11 ≡ true = lt-ltb n 11 (omega arith) in
    rw (one, raise_up n (height e) (own e) le, low) refl

-- a chain of operators without a conditional
pub conditional_up : (e : Expr) → height e ≤ 11 → tree_at 12 e ≡ tree_at 11 e ▸ right none
conditional_up e h = raise_up 11 (height e) (own e) h

-- a conditional without an implication
pub expression_up : (e : Expr) → height e ≤ 12 → tree_at 13 e ≡ tree_at 12 e ▸ right none
expression_up e h = raise_up 12 (height e) (own e) h

operation_row_level_is : {n : _} (row : Row_of-Operation n) → operation_row_level row ≡ chain_level (items-the_row-Operation n row)
operation_row_level_is end_of-Operation = refl
operation_row_level_is (more_of-Operation operation rest) = refl

-- the level of a chain is that of its first operation
pub height_operations : (first : Box Expr) (operations : Vec Operation) → height (is_expr.Operations first operations) ≡ chain_level operations.items
height_operations first operations = operation_row_level_is (hidden-the_row-Operation-7 operations) ∙ ap chain_level (items_hidden-the_row-Operation-7 operations)

row_of_level_is : {n : _} (level : ℕ) (row : Row_of-Operation n) → row_of_level level row ≡ all_of_level level (items-the_row-Operation n row)
row_of_level_is level end_of-Operation = refl
row_of_level_is level (more_of-Operation operation rest) = ap (λ (b : Bool). eqb (operation_level operation) level && b) (row_of_level_is level rest)

both_true : (a b : Bool) → (a && b) ≡ true → (a ≡ true) × (b ≡ true)
both_true true b h = (refl, h)
both_true false b h = absurd cc

-- operations of one level, one of them at least, are a chain of that level
chain_row_is : {n : _} (level : ℕ) (row : Row_of-Operation n) → all_of_level level (items-the_row-Operation n row) ≡ true → 0 < length (items-the_row-Operation n row) → (operation_row_level row ≡ level) × (is_chain_row row ≡ true)
chain_row_is level end_of-Operation h p = absurd (omega arith)
chain_row_is level (more_of-Operation operation rest) h p =
    let b = both_true (eqb (operation_level operation) level) (all_of_level level (items-the_row-Operation _ rest)) h in
    let e : operation_level operation ≡ level = eqb-true (operation_level operation) level b.0 in
    (e, row_of_level_is (operation_level operation) rest ∙ rw e b.1)

-- a chain of operators, at its own level
pub operations_expr : (level : ℕ) (first : Box Expr) (operations : Vec Operation) → all_of_level level operations.items ≡ true → 0 < length operations.items → tree_at level (is_expr.Operations first operations) ≡ tree_at (level - 1) first.value ▸ repeated_tree operation_tree operations.items
unfolding own
operations_expr level first operations h p =
    let row = hidden-the_row-Operation-7 operations in
    let e = items_hidden-the_row-Operation-7 operations in
    let c = chain_row_is level row (rw e h) (rw e p) in
    rw (c.0, c.1, raise_same level (raise (level - 1) (height first.value) (own first.value) ▸ operation_row row)) (ap (λ (t : Tree). tree_at (level - 1) first.value ▸ t) (operation_row_of operations))

-- the level of such a chain
pub chain_level_is : (level : ℕ) (first : Box Expr) (operations : Vec Operation) → all_of_level level operations.items ≡ true → 0 < length operations.items → height (is_expr.Operations first operations) ≡ level
chain_level_is level first operations h p =
    let e = items_hidden-the_row-Operation-7 operations in
    (chain_row_is level (hidden-the_row-Operation-7 operations) (rw e h) (rw e p)).0

-- a further operation of the same level
pub all_of_level_push : (level : ℕ) (xs : List Operation) (x : Operation) → all_of_level level xs ≡ true → operation_level x ≡ level → all_of_level level (xs ++ x ∷ []) ≡ true
all_of_level_push level [] x h e = rw (e, eq-eqb level level refl) refl
all_of_level_push level (y ∷ ys) x h e =
    let b = both_true (eqb (operation_level y) level) (all_of_level level ys) h in
    rw (b.0, all_of_level_push level ys x b.1 e) refl
