-- The loops over rows.
use Rattle.std.specs.Global.{Vec}
use Rattle.std.proofs.Common.{◌≡◌, ◌<◌, ◌≤◌, ℕ, ◌+◌, List, [], ◌∷◌, ◌++◌, length, drop, get_or, refl, ap, ◌∙◌}
use Rattle.std.specs.List.{flat_map}
use Rattle.std.proofs.lemmas.List.{drop_more}
use Rattle.std.proofs.Math.ListN.{drop_of_length-le}
use Rattle.sve_tree.specs.declared.word.ScopedName.{ScopedName}
use Rattle.sve_tree.specs.declared.expression.Expr.{Expr, Row_of-Arg, Row_of-Dimension, Row_of-Expr, Row_of-Operation, Row_of-PatternItem, Row_of-Postfix, Row_of-RangeSelect, Row_of-Select, end_of-Arg, end_of-Dimension, end_of-Expr, end_of-Operation, end_of-PatternItem, end_of-Postfix, end_of-RangeSelect, end_of-Select, items-the_row-Arg, items-the_row-Dimension, items-the_row-Expr, items-the_row-Operation, items-the_row-PatternItem, items-the_row-Postfix, items-the_row-RangeSelect, items-the_row-Select, more_of-Arg, more_of-Dimension, more_of-Expr, more_of-Operation, more_of-PatternItem, more_of-Postfix, more_of-RangeSelect, more_of-Select}
use Rattle.sve_tree.specs.declared.expression.Expr.TheVariants as is_expr
use Rattle.sve_tree.specs.declared.expression.Operation.{Operation, Row_of-ValueRange, end_of-ValueRange, items-the_row-ValueRange, more_of-ValueRange}
use Rattle.sve_tree.specs.declared.expression.Dimension.{Dimension}
use Rattle.sve_tree.specs.declared.expression.RangeSelect.{RangeSelect}
use Rattle.sve_tree.specs.declared.expression.Select.{Select}
use Rattle.sve_tree.specs.declared.expression.Postfix.{Postfix}
use Rattle.sve_tree.specs.declared.expression.Arg.{Arg}
use Rattle.sve_tree.specs.declared.expression.ValueRange.{ValueRange}
use Rattle.sve_tree.specs.declared.expression.PatternItem.{PatternItem}
use Rattle.sve_tree.specs.declared.expression.Arg.TheBlock.{hidden-the_row-Expr-1, items_hidden-the_row-Expr-1, hidden-the_row-RangeSelect-2, items_hidden-the_row-RangeSelect-2, hidden-the_row-Dimension-3, items_hidden-the_row-Dimension-3, hidden-the_row-Select-4, items_hidden-the_row-Select-4, hidden-the_row-Arg-5, items_hidden-the_row-Arg-5, hidden-the_row-Postfix-6, items_hidden-the_row-Postfix-6, hidden-the_row-Operation-7, items_hidden-the_row-Operation-7, hidden-the_row-ValueRange-8, items_hidden-the_row-ValueRange-8, hidden-the_row-PatternItem-0, items_hidden-the_row-PatternItem-0}
use Rattle.sve_use.specs.Use.{Use, use_of}
use Rattle.sve_use.specs.Uses.{argument_row, argument_uses, dimension_row, dimension_uses, expression_row, operation_row, operation_uses, pattern_item_row, pattern_item_uses, postfix_row, postfix_uses, range_select_row, range_select_uses, range_uses, select_row, select_uses, uses, uses_of_postfixes, value_range_row, value_range_uses}

-- the next item of a row, and the end of one
step : {A : Type 0} (f : A → List Use) (xs : List A) (i : ℕ) (x : A) → i < length xs → x ≡ get_or xs i x → flat_map f (drop i xs) ≡ f x ++ flat_map f (drop (i + 1) xs)
step f xs i x h e = rw (drop_more xs i x h, ← e) refl

end : {A : Type 0} (f : A → List Use) (xs : List A) (i : ℕ) → length xs ≤ i → flat_map f (drop i xs) ≡ []
end f xs i h = rw (drop_of_length-le xs h) refl

expression_row_is : {n : _} (row : Row_of-Expr n) → expression_row row ≡ flat_map uses (items-the_row-Expr n row)
unfolding uses
expression_row_is end_of-Expr = refl
expression_row_is (more_of-Expr item rest) = ap (λ (us : List Use). uses item ++ us) (expression_row_is rest)

pub expression_row_of : (xs : Vec Expr) → expression_row (hidden-the_row-Expr-1 xs) ≡ flat_map uses xs.items
expression_row_of xs = expression_row_is (hidden-the_row-Expr-1 xs) ∙ ap (flat_map uses) (items_hidden-the_row-Expr-1 xs)

pub expression_step : (xs : List Expr) (i : ℕ) (x : Expr) → i < length xs → x ≡ get_or xs i x → flat_map uses (drop i xs) ≡ uses x ++ flat_map uses (drop (i + 1) xs)
expression_step xs i x h e = step uses xs i x h e

pub expression_end : (xs : List Expr) (i : ℕ) → length xs ≤ i → flat_map uses (drop i xs) ≡ []
expression_end xs i h = end uses xs i h

range_select_row_is : {n : _} (row : Row_of-RangeSelect n) → range_select_row row ≡ flat_map range_select_uses (items-the_row-RangeSelect n row)
unfolding uses
range_select_row_is end_of-RangeSelect = refl
range_select_row_is (more_of-RangeSelect opening range closing rest) = ap (λ (us : List Use). range_uses range ++ us) (range_select_row_is rest)

pub range_select_row_of : (xs : Vec RangeSelect) → range_select_row (hidden-the_row-RangeSelect-2 xs) ≡ flat_map range_select_uses xs.items
range_select_row_of xs = range_select_row_is (hidden-the_row-RangeSelect-2 xs) ∙ ap (flat_map range_select_uses) (items_hidden-the_row-RangeSelect-2 xs)

pub range_select_step : (xs : List RangeSelect) (i : ℕ) (x : RangeSelect) → i < length xs → x ≡ get_or xs i x → flat_map range_select_uses (drop i xs) ≡ range_select_uses x ++ flat_map range_select_uses (drop (i + 1) xs)
range_select_step xs i x h e = step range_select_uses xs i x h e

pub range_select_end : (xs : List RangeSelect) (i : ℕ) → length xs ≤ i → flat_map range_select_uses (drop i xs) ≡ []
range_select_end xs i h = end range_select_uses xs i h

dimension_row_is : {n : _} (row : Row_of-Dimension n) → dimension_row row ≡ flat_map dimension_uses (items-the_row-Dimension n row)
unfolding uses
dimension_row_is end_of-Dimension = refl
dimension_row_is (more_of-Dimension item rest) = ap (λ (us : List Use). dimension_uses item ++ us) (dimension_row_is rest)

pub dimension_row_of : (xs : Vec Dimension) → dimension_row (hidden-the_row-Dimension-3 xs) ≡ flat_map dimension_uses xs.items
dimension_row_of xs = dimension_row_is (hidden-the_row-Dimension-3 xs) ∙ ap (flat_map dimension_uses) (items_hidden-the_row-Dimension-3 xs)

pub dimension_step : (xs : List Dimension) (i : ℕ) (x : Dimension) → i < length xs → x ≡ get_or xs i x → flat_map dimension_uses (drop i xs) ≡ dimension_uses x ++ flat_map dimension_uses (drop (i + 1) xs)
dimension_step xs i x h e = step dimension_uses xs i x h e

pub dimension_end : (xs : List Dimension) (i : ℕ) → length xs ≤ i → flat_map dimension_uses (drop i xs) ≡ []
dimension_end xs i h = end dimension_uses xs i h

select_row_is : {n : _} (row : Row_of-Select n) → select_row row ≡ flat_map select_uses (items-the_row-Select n row)
unfolding uses
select_row_is end_of-Select = refl
select_row_is (more_of-Select item rest) = ap (λ (us : List Use). select_uses item ++ us) (select_row_is rest)

pub select_row_of : (xs : Vec Select) → select_row (hidden-the_row-Select-4 xs) ≡ flat_map select_uses xs.items
select_row_of xs = select_row_is (hidden-the_row-Select-4 xs) ∙ ap (flat_map select_uses) (items_hidden-the_row-Select-4 xs)

pub select_step : (xs : List Select) (i : ℕ) (x : Select) → i < length xs → x ≡ get_or xs i x → flat_map select_uses (drop i xs) ≡ select_uses x ++ flat_map select_uses (drop (i + 1) xs)
select_step xs i x h e = step select_uses xs i x h e

pub select_end : (xs : List Select) (i : ℕ) → length xs ≤ i → flat_map select_uses (drop i xs) ≡ []
select_end xs i h = end select_uses xs i h

argument_row_is : {n : _} (row : Row_of-Arg n) → argument_row row ≡ flat_map argument_uses (items-the_row-Arg n row)
unfolding uses
argument_row_is end_of-Arg = refl
argument_row_is (more_of-Arg item rest) = ap (λ (us : List Use). argument_uses item ++ us) (argument_row_is rest)

pub argument_row_of : (xs : Vec Arg) → argument_row (hidden-the_row-Arg-5 xs) ≡ flat_map argument_uses xs.items
argument_row_of xs = argument_row_is (hidden-the_row-Arg-5 xs) ∙ ap (flat_map argument_uses) (items_hidden-the_row-Arg-5 xs)

pub argument_step : (xs : List Arg) (i : ℕ) (x : Arg) → i < length xs → x ≡ get_or xs i x → flat_map argument_uses (drop i xs) ≡ argument_uses x ++ flat_map argument_uses (drop (i + 1) xs)
argument_step xs i x h e = step argument_uses xs i x h e

pub argument_end : (xs : List Arg) (i : ℕ) → length xs ≤ i → flat_map argument_uses (drop i xs) ≡ []
argument_end xs i h = end argument_uses xs i h

postfix_row_is : {n : _} (row : Row_of-Postfix n) → postfix_row row ≡ flat_map postfix_uses (items-the_row-Postfix n row)
unfolding uses
postfix_row_is end_of-Postfix = refl
postfix_row_is (more_of-Postfix item rest) = ap (λ (us : List Use). postfix_uses item ++ us) (postfix_row_is rest)

pub postfix_row_of : (xs : Vec Postfix) → postfix_row (hidden-the_row-Postfix-6 xs) ≡ flat_map postfix_uses xs.items
postfix_row_of xs = postfix_row_is (hidden-the_row-Postfix-6 xs) ∙ ap (flat_map postfix_uses) (items_hidden-the_row-Postfix-6 xs)

pub postfix_step : (xs : List Postfix) (i : ℕ) (x : Postfix) → i < length xs → x ≡ get_or xs i x → flat_map postfix_uses (drop i xs) ≡ postfix_uses x ++ flat_map postfix_uses (drop (i + 1) xs)
postfix_step xs i x h e = step postfix_uses xs i x h e

pub postfix_end : (xs : List Postfix) (i : ℕ) → length xs ≤ i → flat_map postfix_uses (drop i xs) ≡ []
postfix_end xs i h = end postfix_uses xs i h

operation_row_is : {n : _} (row : Row_of-Operation n) → operation_row row ≡ flat_map operation_uses (items-the_row-Operation n row)
unfolding uses
operation_row_is end_of-Operation = refl
operation_row_is (more_of-Operation item rest) = ap (λ (us : List Use). operation_uses item ++ us) (operation_row_is rest)

pub operation_row_of : (xs : Vec Operation) → operation_row (hidden-the_row-Operation-7 xs) ≡ flat_map operation_uses xs.items
operation_row_of xs = operation_row_is (hidden-the_row-Operation-7 xs) ∙ ap (flat_map operation_uses) (items_hidden-the_row-Operation-7 xs)

pub operation_step : (xs : List Operation) (i : ℕ) (x : Operation) → i < length xs → x ≡ get_or xs i x → flat_map operation_uses (drop i xs) ≡ operation_uses x ++ flat_map operation_uses (drop (i + 1) xs)
operation_step xs i x h e = step operation_uses xs i x h e

pub operation_end : (xs : List Operation) (i : ℕ) → length xs ≤ i → flat_map operation_uses (drop i xs) ≡ []
operation_end xs i h = end operation_uses xs i h

value_range_row_is : {n : _} (row : Row_of-ValueRange n) → value_range_row row ≡ flat_map value_range_uses (items-the_row-ValueRange n row)
unfolding uses
value_range_row_is end_of-ValueRange = refl
value_range_row_is (more_of-ValueRange item rest) = ap (λ (us : List Use). value_range_uses item ++ us) (value_range_row_is rest)

pub value_range_row_of : (xs : Vec ValueRange) → value_range_row (hidden-the_row-ValueRange-8 xs) ≡ flat_map value_range_uses xs.items
value_range_row_of xs = value_range_row_is (hidden-the_row-ValueRange-8 xs) ∙ ap (flat_map value_range_uses) (items_hidden-the_row-ValueRange-8 xs)

pub value_range_step : (xs : List ValueRange) (i : ℕ) (x : ValueRange) → i < length xs → x ≡ get_or xs i x → flat_map value_range_uses (drop i xs) ≡ value_range_uses x ++ flat_map value_range_uses (drop (i + 1) xs)
value_range_step xs i x h e = step value_range_uses xs i x h e

pub value_range_end : (xs : List ValueRange) (i : ℕ) → length xs ≤ i → flat_map value_range_uses (drop i xs) ≡ []
value_range_end xs i h = end value_range_uses xs i h

pattern_item_row_is : {n : _} (row : Row_of-PatternItem n) → pattern_item_row row ≡ flat_map pattern_item_uses (items-the_row-PatternItem n row)
unfolding uses
pattern_item_row_is end_of-PatternItem = refl
pattern_item_row_is (more_of-PatternItem item rest) = ap (λ (us : List Use). pattern_item_uses item ++ us) (pattern_item_row_is rest)

pub pattern_item_row_of : (xs : Vec PatternItem) → pattern_item_row (hidden-the_row-PatternItem-0 xs) ≡ flat_map pattern_item_uses xs.items
pattern_item_row_of xs = pattern_item_row_is (hidden-the_row-PatternItem-0 xs) ∙ ap (flat_map pattern_item_uses) (items_hidden-the_row-PatternItem-0 xs)

pub pattern_item_step : (xs : List PatternItem) (i : ℕ) (x : PatternItem) → i < length xs → x ≡ get_or xs i x → flat_map pattern_item_uses (drop i xs) ≡ pattern_item_uses x ++ flat_map pattern_item_uses (drop (i + 1) xs)
pattern_item_step xs i x h e = step pattern_item_uses xs i x h e

pub pattern_item_end : (xs : List PatternItem) (i : ℕ) → length xs ≤ i → flat_map pattern_item_uses (drop i xs) ≡ []
pattern_item_end xs i h = end pattern_item_uses xs i h

-- a name comes before the names in what is applied to it
pub of_name : (name : ScopedName) (postfixes : Vec Postfix) → uses (is_expr.Name name postfixes) ≡ use_of name postfixes.items ∷ uses_of_postfixes postfixes
unfolding uses
of_name name postfixes = ap (λ (ps : List Postfix). use_of name ps ∷ uses_of_postfixes postfixes) (items_hidden-the_row-Postfix-6 postfixes)
