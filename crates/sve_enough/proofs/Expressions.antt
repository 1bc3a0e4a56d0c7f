-- An expression and its parts have at most as many nodes as tokens, where a call counts nothing.
use Rattle.std.proofs.Common.{ℕ, ◌+◌, ◌-◌, ◌≤◌, ◌≡◌, eqb, List, [], ◌∷◌, Option, Some, None, refl, arith}
use Rattle.sve_grammar.specs.Reading.{Tree, pair}
use Rattle.sve_tree.specs.Shape.{mark_tree}
use Rattle.sve_tree.specs.Words.{binary_operator_tree, implication_operator_tree, scoped_name_tree, scoped_tree, unary_operator_tree}
use Rattle.sve_tree.specs.Expressions.{arg_tree, argument_trees, dimension_tree, expression_trees, height, is_chain_row, level_of, operation_row_level, operation_tree, own, pattern_item_tree, pattern_item_trees, postfix_tree, raise, range_tree, select_tree, tree_at, value_range_tree, value_range_trees}
use Rattle.sve_tree.specs.Expressions as tree_of
use Rattle.sve_tree.specs.declared.word.BinaryOperator.{BinaryOperator}
use Rattle.sve_tree.specs.declared.word.BinaryOperator.TheVariants as is_binary_operator
use Rattle.sve_tree.specs.declared.word.ImplicationOperator.{ImplicationOperator}
use Rattle.sve_tree.specs.declared.word.ImplicationOperator.TheVariants as is_implication_operator
use Rattle.sve_tree.specs.declared.word.PackageScope.{PackageScope}
use Rattle.sve_tree.specs.declared.word.ScopedName.{ScopedName}
use Rattle.sve_tree.specs.declared.word.UnaryOperator.{UnaryOperator}
use Rattle.sve_tree.specs.declared.word.UnaryOperator.TheVariants as is_unary_operator
use Rattle.sve_tree.specs.declared.expression.Arg.{Arg}
use Rattle.sve_tree.specs.declared.expression.Dimension.{Dimension}
use Rattle.sve_tree.specs.declared.expression.Expr.{Expr, Row_of-Arg, Row_of-Dimension, Row_of-Expr, Row_of-Operation, Row_of-PatternItem, Row_of-Postfix, Row_of-RangeSelect, Row_of-Select, end_of-Arg, end_of-Dimension, end_of-Expr, end_of-Operation, end_of-PatternItem, end_of-Postfix, end_of-RangeSelect, end_of-Select, items-the_row-Arg, more_of-Arg, more_of-Dimension, more_of-Expr, more_of-Operation, more_of-PatternItem, more_of-Postfix, more_of-RangeSelect, more_of-Select}
use Rattle.sve_tree.specs.declared.expression.Operation.{Operation, Row_of-ValueRange, end_of-ValueRange, more_of-ValueRange}
use Rattle.sve_tree.specs.declared.expression.PatternItem.{PatternItem}
use Rattle.sve_tree.specs.declared.expression.Postfix.{Postfix}
use Rattle.sve_tree.specs.declared.expression.Range.{Range}
use Rattle.sve_tree.specs.declared.expression.Select.{Select}
use Rattle.sve_tree.specs.declared.expression.ValueRange.{ValueRange}
use Rattle.sve_tree.specs.declared.expression.Arg.TheVariants as is_arg
use Rattle.sve_tree.specs.declared.expression.Dimension.TheVariants as is_dimension
use Rattle.sve_tree.specs.declared.expression.Expr.TheVariants as is_expr
use Rattle.sve_tree.specs.declared.expression.Operation.TheVariants as is_operation
use Rattle.sve_tree.specs.declared.expression.PatternItem.TheVariants as is_pattern_item
use Rattle.sve_tree.specs.declared.expression.Postfix.TheVariants as is_postfix
use Rattle.sve_tree.specs.declared.expression.Range.TheVariants as is_range
use Rattle.sve_tree.specs.declared.expression.Select.TheVariants as is_select
use Rattle.sve_tree.specs.declared.expression.ValueRange.TheVariants as is_value_range
use Rattle.sve_env.specs.Told.{Told}
use Rattle.sve_env.specs.Nodes.{argument_count, argument_nodes, dimension_count, dimension_nodes, nodes, operation_nodes, pattern_item_nodes, postfix_nodes, range_nodes, select_nodes, value_range_nodes}
use Rattle.sve_env.specs.Nodes as nodes_of
use Rattle.sve_enough.proofs.Counts.{ReachAll, Reaches, count, either_way, placed, raised, row_reach}

-- a call counts nothing beside the name that is called
abbrev pub IsWithoutSteps : Told → Type 0
IsWithoutSteps m = (name : ScopedName) (arguments : List Arg) → m.steps name arguments ≡ 0

-- ---- operators and names

binary_token : (k : BinaryOperator) (token : ℕ) → count (binary_operator_tree k token) ≡ 1
binary_token is_binary_operator.Power token = refl
binary_token is_binary_operator.Times token = refl
binary_token is_binary_operator.Divide token = refl
binary_token is_binary_operator.Remainder token = refl
binary_token is_binary_operator.Plus token = refl
binary_token is_binary_operator.Minus token = refl
binary_token is_binary_operator.LogicalShiftLeft token = refl
binary_token is_binary_operator.LogicalShiftRight token = refl
binary_token is_binary_operator.ArithmeticShiftLeft token = refl
binary_token is_binary_operator.ArithmeticShiftRight token = refl
binary_token is_binary_operator.Less token = refl
binary_token is_binary_operator.LessEqual token = refl
binary_token is_binary_operator.Greater token = refl
binary_token is_binary_operator.GreaterEqual token = refl
binary_token is_binary_operator.Equal token = refl
binary_token is_binary_operator.NotEqual token = refl
binary_token is_binary_operator.CaseEqual token = refl
binary_token is_binary_operator.CaseNotEqual token = refl
binary_token is_binary_operator.WildcardEqual token = refl
binary_token is_binary_operator.WildcardNotEqual token = refl
binary_token is_binary_operator.And token = refl
binary_token is_binary_operator.Xor token = refl
binary_token is_binary_operator.TildeXnor token = refl
binary_token is_binary_operator.CaretXnor token = refl
binary_token is_binary_operator.Or token = refl
binary_token is_binary_operator.LogicalAnd token = refl
binary_token is_binary_operator.LogicalOr token = refl

unary_token : (k : UnaryOperator) (token : ℕ) → count (unary_operator_tree k token) ≡ 1
unary_token is_unary_operator.Plus token = refl
unary_token is_unary_operator.Minus token = refl
unary_token is_unary_operator.LogicalNot token = refl
unary_token is_unary_operator.Not token = refl
unary_token is_unary_operator.And token = refl
unary_token is_unary_operator.Nand token = refl
unary_token is_unary_operator.Or token = refl
unary_token is_unary_operator.Nor token = refl
unary_token is_unary_operator.Xor token = refl
unary_token is_unary_operator.TildeXnor token = refl
unary_token is_unary_operator.CaretXnor token = refl

implication_token : (k : ImplicationOperator) (token : ℕ) → count (implication_operator_tree k token) ≡ 1
implication_token is_implication_operator.Implies token = refl
implication_token is_implication_operator.Equivalent token = refl

name_has : (name : ScopedName) → 1 ≤ count (scoped_name_tree name)
name_has name = has name.scope name.name
  where
    has : (scope : Option PackageScope) (token : ℕ) → 1 ≤ count (scoped_tree scope token)
    has None token = omega arith
    has (Some scope) token = omega arith

-- ---- expressions

module _ (m : Told) (calls : IsWithoutSteps m) where
  mutual
    unfolding own nodes

    own_reach : (e : Expr) → Reaches (nodes m e) (own e)
    own_reach (is_expr.Decimal token) w = omega arith
    own_reach (is_expr.Sized size based) w = omega arith
    own_reach (is_expr.SizeCast' size apostrophe opening _ value closing) w = let a = raised 13 (height value) (own value) (nodes m value) (λ u. own_reach value u) w.1.1.1.0 in omega arith
    own_reach (is_expr.Based token) w = omega arith
    own_reach (is_expr.Unbased token) w = omega arith
    own_reach (is_expr.Text token) w = omega arith
    own_reach (is_expr.Parenthesized' opening _ value closing) w = let a = raised 13 (height value) (own value) (nodes m value) (λ u. own_reach value u) w.0.1.0 in omega arith
    own_reach (is_expr.ParenthesizedCast' opening _ value closing apostrophe cast_opening _ cast_value cast_closing) w =
        let a = raised 13 (height value) (own value) (nodes m value) (λ u. own_reach value u) w.0.1.0 in
        let b = raised 13 (height cast_value) (own cast_value) (nodes m cast_value) (λ u. own_reach cast_value u) w.1.1.1.0 in omega arith
    own_reach (is_expr.Pattern' opening _ items commas closing) w = let a = row_reach (λ (t : Tree). t) (nodes_of.pattern_item_row m items) (pattern_item_trees items) commas.items (pattern_items_reach items) w.1.0 w.1.1.0 in omega arith
    own_reach (is_expr.Replication' opening _ times inner_opening _ operands commas inner_closing closing _ selects) w =
        let a = raised 13 (height times) (own times) (nodes m times) (λ u. own_reach times u) w.1.0 in
        let b = row_reach (λ (t : Tree). t) (nodes_of.expression_row m operands) (expression_trees operands) commas.items (expressions_reach operands) w.1.1.0.1.0 w.1.1.0.1.1.0 in let c = range_selects_reach selects w.1.1.1.1 in omega arith
    own_reach (is_expr.Concatenation' opening _ operands commas closing _ selects) w =
        let b = row_reach (λ (t : Tree). t) (nodes_of.expression_row m operands) (expression_trees operands) commas.items (expressions_reach operands) w.1.0 w.1.1.0 in let c = range_selects_reach selects w.1.1.1.1 in omega arith
    own_reach (is_expr.SignCast' sign apostrophe opening _ value closing) w = let a = raised 13 (height value) (own value) (nodes m value) (λ u. own_reach value u) w.1.1.1.0 in omega arith
    own_reach (is_expr.Type' keyword sign _ dimensions) w = let a = dimension_row_reach dimensions w.1.1.0 in omega arith
    own_reach (is_expr.TypeCast' keyword sign _ dimensions apostrophe opening _ value closing) w =
        let a = dimension_row_reach dimensions w.1.1.0 in let b = raised 13 (height value) (own value) (nodes m value) (λ u. own_reach value u) w.1.1.1.1.1.0 in omega arith
    own_reach (is_expr.SystemName' name _ selects) w = let a = select_row_reach selects w.1.1 in omega arith
    own_reach (is_expr.SystemCall' name opening _ arguments commas closing _ selects) w =
        let a = row_reach (λ (t : Tree). t) (nodes_of.argument_row m arguments) (argument_trees arguments) commas.items (argument_row_reach arguments) w.1.0.1.0.0 w.1.0.1.0.1 in let b = select_row_reach selects w.1.1 in omega arith
    own_reach (is_expr.Name' name _ postfixes) w = let a = name_has name in let b = postfix_row_reach name postfixes w.1 in omega arith
    own_reach (is_expr.Unary' operator _ operand) w = let a = unary_token operator.kind operator.token in let b = raised 0 (height operand) (own operand) (nodes m operand) (λ u. own_reach operand u) w.1 in omega arith
    own_reach (is_expr.Operations' _ first _ operations) w =
        placed (is_chain_row operations) (pair (raise (operation_row_level operations - 1) (height first) (own first)) (tree_of.operation_row operations)) (nodes m first + nodes_of.operation_row m operations)
        (λ v. let a = raised (operation_row_level operations - 1) (height first) (own first) (nodes m first) (λ u. own_reach first u) v.0 in let b = operation_row_reach operations v.1 in omega arith) w
    own_reach (is_expr.Conditional' _ condition question _ chosen colon _ otherwise) w =
        let a = raised 11 (height condition) (own condition) (nodes m condition) (λ u. own_reach condition u) w.0 in let b = raised 13 (height chosen) (own chosen) (nodes m chosen) (λ u. own_reach chosen u) w.1.1.0 in
        let c = raised 12 (height otherwise) (own otherwise) (nodes m otherwise) (λ u. own_reach otherwise u) w.1.1.1.1 in omega arith
    own_reach (is_expr.Implication' _ l operator _ r) w =
        let a = raised 12 (height l) (own l) (nodes m l) (λ u. own_reach l u) w.0 in let b = raised 13 (height r) (own r) (nodes m r) (λ u. own_reach r u) w.1.1 in let c = implication_token operator.kind operator.token in omega arith

    operation_reach : (x : Operation) → Reaches (operation_nodes m x) (operation_tree x)
    operation_reach (is_operation.Binary operator r) w =
        either_way (eqb (level_of operator.kind) 5) (pair (mark_tree binary_operator_tree operator) (raise (level_of operator.kind - 1) (height r) (own r))) (1 + nodes m r)
        (λ v. let a = binary_token operator.kind operator.token in let b = raised (level_of operator.kind - 1) (height r) (own r) (nodes m r) (λ u. own_reach r u) v.1 in omega arith) w
    operation_reach (is_operation.Inside' keyword opening _ ranges commas closing) w = let a = row_reach (λ (t : Tree). t) (nodes_of.value_range_row m ranges) (value_range_trees ranges) commas.items (value_ranges_reach ranges) w.1.1.0 w.1.1.1.0 in omega arith

    pub dimension_reach : (x : Dimension) → Reaches (dimension_nodes m x) (dimension_tree x)
    dimension_reach (is_dimension.Size' opening _ size closing) w = let a = raised 13 (height size) (own size) (nodes m size) (λ u. own_reach size u) w.1.0 in omega arith
    dimension_reach (is_dimension.Range' opening _ l colon _ r closing) w =
        let a = raised 13 (height l) (own l) (nodes m l) (λ u. own_reach l u) w.1.0 in let b = raised 13 (height r) (own r) (nodes m r) (λ u. own_reach r u) w.1.1.0.1 in omega arith

    pub range_reach : (x : Range) → Reaches (range_nodes m x) (range_tree x)
    range_reach (is_range.Index' _ index) w = let a = raised 13 (height index) (own index) (nodes m index) (λ u. own_reach index u) w.0 in omega arith
    range_reach (is_range.Between' _ l colon _ r) w =
        let a = raised 13 (height l) (own l) (nodes m l) (λ u. own_reach l u) w.0 in let b = raised 13 (height r) (own r) (nodes m r) (λ u. own_reach r u) w.1.1 in omega arith
    range_reach (is_range.Upward' _ from at _ width) w =
        let a = raised 13 (height from) (own from) (nodes m from) (λ u. own_reach from u) w.0 in let b = raised 13 (height width) (own width) (nodes m width) (λ u. own_reach width u) w.1.1 in omega arith
    range_reach (is_range.Downward' _ from at _ width) w =
        let a = raised 13 (height from) (own from) (nodes m from) (λ u. own_reach from u) w.0 in let b = raised 13 (height width) (own width) (nodes m width) (λ u. own_reach width u) w.1.1 in omega arith

    select_reach : (x : Select) → Reaches (select_nodes m x) (select_tree x)
    select_reach (is_select.Member dot name) w = omega arith
    select_reach (is_select.Range' opening range closing) w = let a = range_reach range w.1.0 in omega arith

    postfix_reach : (name : ScopedName) (x : Postfix) → Reaches (postfix_nodes m name x) (postfix_tree x)
    postfix_reach name (is_postfix.Select select) w = select_reach select w
    postfix_reach name (is_postfix.Call' opening _ arguments commas closing) w = let a = calls name (items-the_row-Arg _ arguments) in omega arith
    postfix_reach name (is_postfix.Cast' apostrophe opening _ value closing) w = let a = raised 13 (height value) (own value) (nodes m value) (λ u. own_reach value u) w.1.1.0 in omega arith
    postfix_reach name (is_postfix.Pattern' opening _ items commas closing) w = let a = row_reach (λ (t : Tree). t) (nodes_of.pattern_item_row m items) (pattern_item_trees items) commas.items (pattern_items_reach items) w.1.0 w.1.1.0 in omega arith

    pub argument_reach : (x : Arg) → Reaches (argument_nodes m x) (arg_tree x)
    argument_reach (is_arg.Wildcard token) w = omega arith
    argument_reach (is_arg.Implicit dot name) w = omega arith
    argument_reach (is_arg.Unconnected dot name opening closing) w = omega arith
    argument_reach (is_arg.Named' dot name opening _ value closing) w = let a = raised 13 (height value) (own value) (nodes m value) (λ u. own_reach value u) w.1.1.1.0 in omega arith
    argument_reach (is_arg.Ordered' _ value) w = raised 13 (height value) (own value) (nodes m value) (λ u. own_reach value u) w
    argument_reach is_arg.Empty w = omega arith

    value_range_reach : (x : ValueRange) → Reaches (value_range_nodes m x) (value_range_tree x)
    value_range_reach (is_value_range.Between' opening _ low colon _ high closing) w =
        let a = raised 13 (height low) (own low) (nodes m low) (λ u. own_reach low u) w.1.0 in let b = raised 13 (height high) (own high) (nodes m high) (λ u. own_reach high u) w.1.1.1.0 in omega arith
    value_range_reach (is_value_range.Value' _ value) w = raised 13 (height value) (own value) (nodes m value) (λ u. own_reach value u) w

    pattern_item_reach : (x : PatternItem) → Reaches (pattern_item_nodes m x) (pattern_item_tree x)
    pattern_item_reach (is_pattern_item.Default' keyword colon _ value) w = let a = raised 13 (height value) (own value) (nodes m value) (λ u. own_reach value u) w.1.1 in omega arith
    pattern_item_reach (is_pattern_item.Value' _ value) w = let a = raised 13 (height value) (own value) (nodes m value) (λ u. own_reach value u) w.0 in omega arith
    pattern_item_reach (is_pattern_item.Keyed' _ key colon _ value) w =
        let a = raised 13 (height key) (own key) (nodes m key) (λ u. own_reach key u) w.0 in let b = raised 13 (height value) (own value) (nodes m value) (λ u. own_reach value u) w.1.1 in omega arith
    pattern_item_reach (is_pattern_item.Repeated' _ times opening _ values commas closing) w =
        let a = raised 13 (height times) (own times) (nodes m times) (λ u. own_reach times u) w.0 in
        let b = row_reach (λ (t : Tree). t) (nodes_of.expression_row m values) (expression_trees values) commas.items (expressions_reach values) w.1.1.0 w.1.1.1.0 in omega arith

    -- rows of these

    range_selects_reach : {n : _} (row : Row_of-RangeSelect n) → Reaches (nodes_of.range_select_row m row) (tree_of.range_select_row row)
    range_selects_reach end_of-RangeSelect w = omega arith
    range_selects_reach (more_of-RangeSelect opening range closing rest) w = let a = range_reach range w.0.1.0 in let b = range_selects_reach rest w.1 in omega arith

    dimension_row_reach : {n : _} (row : Row_of-Dimension n) → Reaches (nodes_of.dimension_row m row) (tree_of.dimension_row row)
    dimension_row_reach end_of-Dimension w = omega arith
    dimension_row_reach (more_of-Dimension dimension rest) w = let a = dimension_reach dimension w.0 in let b = dimension_row_reach rest w.1 in omega arith

    select_row_reach : {n : _} (row : Row_of-Select n) → Reaches (nodes_of.select_row m row) (tree_of.select_row row)
    select_row_reach end_of-Select w = omega arith
    select_row_reach (more_of-Select select rest) w = let a = select_reach select w.0 in let b = select_row_reach rest w.1 in omega arith

    postfix_row_reach : {n : _} (name : ScopedName) (row : Row_of-Postfix n) → Reaches (nodes_of.postfix_row m name row) (tree_of.postfix_row row)
    postfix_row_reach name end_of-Postfix w = omega arith
    postfix_row_reach name (more_of-Postfix postfix rest) w = let a = postfix_reach name postfix w.0 in let b = postfix_row_reach name rest w.1 in omega arith

    operation_row_reach : {n : _} (row : Row_of-Operation n) → Reaches (nodes_of.operation_row m row) (tree_of.operation_row row)
    operation_row_reach end_of-Operation w = omega arith
    operation_row_reach (more_of-Operation operation rest) w = let a = operation_reach operation w.0 in let b = operation_row_reach rest w.1 in omega arith

    expressions_reach : {n : _} (row : Row_of-Expr n) → ReachAll (λ (t : Tree). t) (nodes_of.expression_row m row) (expression_trees row)
    expressions_reach end_of-Expr = omega arith
    expressions_reach (more_of-Expr e rest) = (nodes m e, nodes_of.expression_row m rest, (omega arith), raised 13 (height e) (own e) (nodes m e) (λ u. own_reach e u), expressions_reach rest)

    value_ranges_reach : {n : _} (row : Row_of-ValueRange n) → ReachAll (λ (t : Tree). t) (nodes_of.value_range_row m row) (value_range_trees row)
    value_ranges_reach end_of-ValueRange = omega arith
    value_ranges_reach (more_of-ValueRange range rest) = (value_range_nodes m range, nodes_of.value_range_row m rest, (omega arith), value_range_reach range, value_ranges_reach rest)

    argument_row_reach : {n : _} (row : Row_of-Arg n) → ReachAll (λ (t : Tree). t) (nodes_of.argument_row m row) (argument_trees row)
    argument_row_reach end_of-Arg = omega arith
    argument_row_reach (more_of-Arg argument rest) = (argument_nodes m argument, nodes_of.argument_row m rest, (omega arith), argument_reach argument, argument_row_reach rest)

    pattern_items_reach : {n : _} (row : Row_of-PatternItem n) → ReachAll (λ (t : Tree). t) (nodes_of.pattern_item_row m row) (pattern_item_trees row)
    pattern_items_reach end_of-PatternItem = omega arith
    pattern_items_reach (more_of-PatternItem item rest) = (pattern_item_nodes m item, nodes_of.pattern_item_row m rest, (omega arith), pattern_item_reach item, pattern_items_reach rest)

  pub nodes_reach : (level : ℕ) (e : Expr) → Reaches (nodes m e) (tree_at level e)
  nodes_reach level e w = raised level (height e) (own e) (nodes m e) (own_reach e) w

  -- ---- lists of these

  pub dimensions_reach : (xs : List Dimension) → ReachAll dimension_tree (dimension_count m xs) xs
  unfolding dimension_count
  dimensions_reach [] = omega arith
  dimensions_reach (x ∷ xs) = (dimension_nodes m x, dimension_count m xs, (omega arith), dimension_reach x, dimensions_reach xs)

  pub arguments_reach : (xs : List Arg) → ReachAll arg_tree (argument_count m xs) xs
  unfolding argument_count
  arguments_reach [] = omega arith
  arguments_reach (x ∷ xs) = (argument_nodes m x, argument_count m xs, (omega arith), argument_reach x, arguments_reach xs)
