-- The equation of each variant with a row, and the loops over rows.
use Rattle.std.specs.Global.{Box, Vec}
use Rattle.std.proofs.Common.{◌≡◌, ◌<◌, ◌≤◌, ℕ, ◌+◌, List, [], ◌∷◌, length, drop, get_or, Option, refl, ap, ◌∙◌}
use Rattle.std.proofs.lemmas.List.{drop_more}
use Rattle.std.proofs.Math.ListN.{drop_of_length-le}
use Rattle.sve_tree.specs.declared.row.Row.{Row}
use Rattle.sve_tree.specs.declared.word.Mark.{Mark}
use Rattle.sve_tree.specs.declared.word.Sign.{Sign}
use Rattle.sve_tree.specs.declared.word.IntegerKeyword.{IntegerKeyword}
use Rattle.sve_tree.specs.declared.word.ScopedName.{ScopedName}
use Rattle.sve_tree.specs.declared.expression.Expr.{Expr, Row_of-Arg, Row_of-Dimension, Row_of-Expr, Row_of-Operation, Row_of-PatternItem, Row_of-Postfix, Row_of-RangeSelect, Row_of-Select, end_of-Arg, end_of-Dimension, end_of-Expr, end_of-Operation, end_of-PatternItem, end_of-Postfix, end_of-RangeSelect, end_of-Select, items-the_row-Arg, items-the_row-Dimension, items-the_row-Expr, items-the_row-Operation, items-the_row-PatternItem, items-the_row-Postfix, items-the_row-RangeSelect, items-the_row-Select, more_of-Arg, more_of-Dimension, more_of-Expr, more_of-Operation, more_of-PatternItem, more_of-Postfix, more_of-RangeSelect, more_of-Select}
use Rattle.sve_tree.specs.declared.expression.Operation.{Operation, Row_of-ValueRange, end_of-ValueRange, items-the_row-ValueRange, more_of-ValueRange}
use Rattle.sve_tree.specs.declared.expression.Cast.{Cast}
use Rattle.sve_tree.specs.declared.expression.Dimension.{Dimension}
use Rattle.sve_tree.specs.declared.expression.RangeSelect.{RangeSelect}
use Rattle.sve_tree.specs.declared.expression.Select.{Select}
use Rattle.sve_tree.specs.declared.expression.Postfix.{Postfix}
use Rattle.sve_tree.specs.declared.expression.ArgumentList.{ArgumentList}
use Rattle.sve_tree.specs.declared.expression.Arg.{Arg}
use Rattle.sve_tree.specs.declared.expression.ValueRange.{ValueRange}
use Rattle.sve_tree.specs.declared.expression.Pattern.{Pattern}
use Rattle.sve_tree.specs.declared.expression.PatternItem.{PatternItem}
use Rattle.sve_tree.specs.declared.expression.Arg.TheBlock.{hidden-the_row-Expr-1, items_hidden-the_row-Expr-1, hidden-the_row-RangeSelect-2, items_hidden-the_row-RangeSelect-2, hidden-the_row-Dimension-3, items_hidden-the_row-Dimension-3, hidden-the_row-Select-4, items_hidden-the_row-Select-4, hidden-the_row-Arg-5, items_hidden-the_row-Arg-5, hidden-the_row-Postfix-6, items_hidden-the_row-Postfix-6, hidden-the_row-Operation-7, items_hidden-the_row-Operation-7, hidden-the_row-ValueRange-8, items_hidden-the_row-ValueRange-8, hidden-the_row-PatternItem-0, items_hidden-the_row-PatternItem-0}
use Rattle.sve_tree.specs.declared.expression.Expr.TheVariants as is_expr
use Rattle.sve_tree.specs.declared.expression.Operation.TheVariants as is_operation
use Rattle.sve_tree.specs.declared.expression.Postfix.TheVariants as is_postfix
use Rattle.sve_tree.specs.declared.expression.PatternItem.TheVariants as is_pattern_item
use Rattle.sve_env.specs.Told.{Told}
use Rattle.sve_env.specs.Nodes.{nodes, range_nodes, operation_nodes, dimension_nodes, select_nodes, postfix_nodes, argument_nodes, value_range_nodes, pattern_item_nodes, expression_row, range_select_row, dimension_row, select_row, postfix_row, operation_row, argument_row, value_range_row, pattern_item_row, expression_count, range_select_count, dimension_count, select_count, postfix_count, operation_count, argument_count, value_range_count, pattern_item_count}

-- expressions
expression_row_is : {n : _} (m : Told) (row : Row_of-Expr n) → expression_row m row ≡ expression_count m (items-the_row-Expr n row)
unfolding nodes expression_count
expression_row_is m end_of-Expr = refl
expression_row_is m (more_of-Expr item rest) = ap (λ (k : ℕ). nodes m item + k) (expression_row_is m rest)

pub expression_row_of : (m : Told) (xs : Vec Expr) → expression_row m (hidden-the_row-Expr-1 xs) ≡ expression_count m xs.items
expression_row_of m xs = expression_row_is m (hidden-the_row-Expr-1 xs) ∙ ap (expression_count m) (items_hidden-the_row-Expr-1 xs)

pub expression_count_step : (m : Told) (xs : List Expr) (i : ℕ) (x : Expr) → i < length xs → x ≡ get_or xs i x → expression_count m (drop i xs) ≡ nodes m x + expression_count m (drop (i + 1) xs)
unfolding expression_count
expression_count_step m xs i x h e = rw (drop_more xs i x h, ← e) refl

pub expression_count_end : (m : Told) (xs : List Expr) (i : ℕ) → length xs ≤ i → expression_count m (drop i xs) ≡ 0
unfolding expression_count
expression_count_end m xs i h = rw (drop_of_length-le xs h) refl

-- range selects
range_select_row_is : {n : _} (m : Told) (row : Row_of-RangeSelect n) → range_select_row m row ≡ range_select_count m (items-the_row-RangeSelect n row)
unfolding nodes range_select_count
range_select_row_is m end_of-RangeSelect = refl
range_select_row_is m (more_of-RangeSelect opening range closing rest) = ap (λ (k : ℕ). 1 + range_nodes m range + k) (range_select_row_is m rest)

pub range_select_row_of : (m : Told) (xs : Vec RangeSelect) → range_select_row m (hidden-the_row-RangeSelect-2 xs) ≡ range_select_count m xs.items
range_select_row_of m xs = range_select_row_is m (hidden-the_row-RangeSelect-2 xs) ∙ ap (range_select_count m) (items_hidden-the_row-RangeSelect-2 xs)

pub range_select_count_step : (m : Told) (xs : List RangeSelect) (i : ℕ) (x : RangeSelect) → i < length xs → x ≡ get_or xs i x → range_select_count m (drop i xs) ≡ 1 + range_nodes m x.range + range_select_count m (drop (i + 1) xs)
unfolding range_select_count
range_select_count_step m xs i x h e = rw (drop_more xs i x h, ← e) refl

pub range_select_count_end : (m : Told) (xs : List RangeSelect) (i : ℕ) → length xs ≤ i → range_select_count m (drop i xs) ≡ 0
unfolding range_select_count
range_select_count_end m xs i h = rw (drop_of_length-le xs h) refl

-- dimensions
dimension_row_is : {n : _} (m : Told) (row : Row_of-Dimension n) → dimension_row m row ≡ dimension_count m (items-the_row-Dimension n row)
unfolding nodes dimension_count
dimension_row_is m end_of-Dimension = refl
dimension_row_is m (more_of-Dimension item rest) = ap (λ (k : ℕ). dimension_nodes m item + k) (dimension_row_is m rest)

pub dimension_row_of : (m : Told) (xs : Vec Dimension) → dimension_row m (hidden-the_row-Dimension-3 xs) ≡ dimension_count m xs.items
dimension_row_of m xs = dimension_row_is m (hidden-the_row-Dimension-3 xs) ∙ ap (dimension_count m) (items_hidden-the_row-Dimension-3 xs)

pub dimension_count_step : (m : Told) (xs : List Dimension) (i : ℕ) (x : Dimension) → i < length xs → x ≡ get_or xs i x → dimension_count m (drop i xs) ≡ dimension_nodes m x + dimension_count m (drop (i + 1) xs)
unfolding dimension_count
dimension_count_step m xs i x h e = rw (drop_more xs i x h, ← e) refl

pub dimension_count_end : (m : Told) (xs : List Dimension) (i : ℕ) → length xs ≤ i → dimension_count m (drop i xs) ≡ 0
unfolding dimension_count
dimension_count_end m xs i h = rw (drop_of_length-le xs h) refl

-- selects
select_row_is : {n : _} (m : Told) (row : Row_of-Select n) → select_row m row ≡ select_count m (items-the_row-Select n row)
unfolding nodes select_count
select_row_is m end_of-Select = refl
select_row_is m (more_of-Select item rest) = ap (λ (k : ℕ). select_nodes m item + k) (select_row_is m rest)

pub select_row_of : (m : Told) (xs : Vec Select) → select_row m (hidden-the_row-Select-4 xs) ≡ select_count m xs.items
select_row_of m xs = select_row_is m (hidden-the_row-Select-4 xs) ∙ ap (select_count m) (items_hidden-the_row-Select-4 xs)

pub select_count_step : (m : Told) (xs : List Select) (i : ℕ) (x : Select) → i < length xs → x ≡ get_or xs i x → select_count m (drop i xs) ≡ select_nodes m x + select_count m (drop (i + 1) xs)
unfolding select_count
select_count_step m xs i x h e = rw (drop_more xs i x h, ← e) refl

pub select_count_end : (m : Told) (xs : List Select) (i : ℕ) → length xs ≤ i → select_count m (drop i xs) ≡ 0
unfolding select_count
select_count_end m xs i h = rw (drop_of_length-le xs h) refl

-- arguments
argument_row_is : {n : _} (m : Told) (row : Row_of-Arg n) → argument_row m row ≡ argument_count m (items-the_row-Arg n row)
unfolding nodes argument_count
argument_row_is m end_of-Arg = refl
argument_row_is m (more_of-Arg item rest) = ap (λ (k : ℕ). argument_nodes m item + k) (argument_row_is m rest)

pub argument_row_of : (m : Told) (xs : Vec Arg) → argument_row m (hidden-the_row-Arg-5 xs) ≡ argument_count m xs.items
argument_row_of m xs = argument_row_is m (hidden-the_row-Arg-5 xs) ∙ ap (argument_count m) (items_hidden-the_row-Arg-5 xs)

pub argument_count_step : (m : Told) (xs : List Arg) (i : ℕ) (x : Arg) → i < length xs → x ≡ get_or xs i x → argument_count m (drop i xs) ≡ argument_nodes m x + argument_count m (drop (i + 1) xs)
unfolding argument_count
argument_count_step m xs i x h e = rw (drop_more xs i x h, ← e) refl

pub argument_count_end : (m : Told) (xs : List Arg) (i : ℕ) → length xs ≤ i → argument_count m (drop i xs) ≡ 0
unfolding argument_count
argument_count_end m xs i h = rw (drop_of_length-le xs h) refl

-- postfixs
postfix_row_is : {n : _} (m : Told) (name : ScopedName) (row : Row_of-Postfix n) → postfix_row m name row ≡ postfix_count m name (items-the_row-Postfix n row)
unfolding nodes postfix_count
postfix_row_is m name end_of-Postfix = refl
postfix_row_is m name (more_of-Postfix item rest) = ap (λ (k : ℕ). postfix_nodes m name item + k) (postfix_row_is m name rest)

pub postfix_row_of : (m : Told) (name : ScopedName) (xs : Vec Postfix) → postfix_row m name (hidden-the_row-Postfix-6 xs) ≡ postfix_count m name xs.items
postfix_row_of m name xs = postfix_row_is m name (hidden-the_row-Postfix-6 xs) ∙ ap (postfix_count m name) (items_hidden-the_row-Postfix-6 xs)

pub postfix_count_step : (m : Told) (name : ScopedName) (xs : List Postfix) (i : ℕ) (x : Postfix) → i < length xs → x ≡ get_or xs i x → postfix_count m name (drop i xs) ≡ postfix_nodes m name x + postfix_count m name (drop (i + 1) xs)
unfolding postfix_count
postfix_count_step m name xs i x h e = rw (drop_more xs i x h, ← e) refl

pub postfix_count_end : (m : Told) (name : ScopedName) (xs : List Postfix) (i : ℕ) → length xs ≤ i → postfix_count m name (drop i xs) ≡ 0
unfolding postfix_count
postfix_count_end m name xs i h = rw (drop_of_length-le xs h) refl

-- operations
operation_row_is : {n : _} (m : Told) (row : Row_of-Operation n) → operation_row m row ≡ operation_count m (items-the_row-Operation n row)
unfolding nodes operation_count
operation_row_is m end_of-Operation = refl
operation_row_is m (more_of-Operation item rest) = ap (λ (k : ℕ). operation_nodes m item + k) (operation_row_is m rest)

pub operation_row_of : (m : Told) (xs : Vec Operation) → operation_row m (hidden-the_row-Operation-7 xs) ≡ operation_count m xs.items
operation_row_of m xs = operation_row_is m (hidden-the_row-Operation-7 xs) ∙ ap (operation_count m) (items_hidden-the_row-Operation-7 xs)

pub operation_count_step : (m : Told) (xs : List Operation) (i : ℕ) (x : Operation) → i < length xs → x ≡ get_or xs i x → operation_count m (drop i xs) ≡ operation_nodes m x + operation_count m (drop (i + 1) xs)
unfolding operation_count
operation_count_step m xs i x h e = rw (drop_more xs i x h, ← e) refl

pub operation_count_end : (m : Told) (xs : List Operation) (i : ℕ) → length xs ≤ i → operation_count m (drop i xs) ≡ 0
unfolding operation_count
operation_count_end m xs i h = rw (drop_of_length-le xs h) refl

-- value ranges
value_range_row_is : {n : _} (m : Told) (row : Row_of-ValueRange n) → value_range_row m row ≡ value_range_count m (items-the_row-ValueRange n row)
unfolding nodes value_range_count
value_range_row_is m end_of-ValueRange = refl
value_range_row_is m (more_of-ValueRange item rest) = ap (λ (k : ℕ). value_range_nodes m item + k) (value_range_row_is m rest)

pub value_range_row_of : (m : Told) (xs : Vec ValueRange) → value_range_row m (hidden-the_row-ValueRange-8 xs) ≡ value_range_count m xs.items
value_range_row_of m xs = value_range_row_is m (hidden-the_row-ValueRange-8 xs) ∙ ap (value_range_count m) (items_hidden-the_row-ValueRange-8 xs)

pub value_range_count_step : (m : Told) (xs : List ValueRange) (i : ℕ) (x : ValueRange) → i < length xs → x ≡ get_or xs i x → value_range_count m (drop i xs) ≡ value_range_nodes m x + value_range_count m (drop (i + 1) xs)
unfolding value_range_count
value_range_count_step m xs i x h e = rw (drop_more xs i x h, ← e) refl

pub value_range_count_end : (m : Told) (xs : List ValueRange) (i : ℕ) → length xs ≤ i → value_range_count m (drop i xs) ≡ 0
unfolding value_range_count
value_range_count_end m xs i h = rw (drop_of_length-le xs h) refl

-- pattern items
pattern_item_row_is : {n : _} (m : Told) (row : Row_of-PatternItem n) → pattern_item_row m row ≡ pattern_item_count m (items-the_row-PatternItem n row)
unfolding nodes pattern_item_count
pattern_item_row_is m end_of-PatternItem = refl
pattern_item_row_is m (more_of-PatternItem item rest) = ap (λ (k : ℕ). pattern_item_nodes m item + k) (pattern_item_row_is m rest)

pub pattern_item_row_of : (m : Told) (xs : Vec PatternItem) → pattern_item_row m (hidden-the_row-PatternItem-0 xs) ≡ pattern_item_count m xs.items
pattern_item_row_of m xs = pattern_item_row_is m (hidden-the_row-PatternItem-0 xs) ∙ ap (pattern_item_count m) (items_hidden-the_row-PatternItem-0 xs)

pub pattern_item_count_step : (m : Told) (xs : List PatternItem) (i : ℕ) (x : PatternItem) → i < length xs → x ≡ get_or xs i x → pattern_item_count m (drop i xs) ≡ pattern_item_nodes m x + pattern_item_count m (drop (i + 1) xs)
unfolding pattern_item_count
pattern_item_count_step m xs i x h e = rw (drop_more xs i x h, ← e) refl

pub pattern_item_count_end : (m : Told) (xs : List PatternItem) (i : ℕ) → length xs ≤ i → pattern_item_count m (drop i xs) ≡ 0
unfolding pattern_item_count
pattern_item_count_end m xs i h = rw (drop_of_length-le xs h) refl

-- a call counts itself, by its arguments
pub nodes_call : (m : Told) (name : ScopedName) (arguments : ArgumentList) → postfix_nodes m name (is_postfix.Call arguments) ≡ m.steps name arguments.arguments.items.items
unfolding nodes
nodes_call m name arguments = ap (m.steps name) (items_hidden-the_row-Arg-5 arguments.arguments.items)
