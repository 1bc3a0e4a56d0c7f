-- Expressions, read back from their trees.
use Rattle.std.proofs.Common.{Bool, List, [], arith, cond, eqb, false, ltb, refl, subst, suc, true, zero, ℕ, ◌-◌, ◌<◌, ◌∙◌, ◌∷◌, ◌≡◌}
use Rattle.std.proofs.lemmas.Bool.{eqb-true}
use Rattle.std.specs.Prelude.{◌&&◌}
use Rattle.sve_grammar.specs.Reading.{Tree, ended, leaf, left, none, pair, right, turn}
use Rattle.sve_outline.proofs.Marks.{binary_operator_said, integer_keyword_read, read_binary_operator, read_integer_keyword, sign_marked, unary_operator_marked}
use Rattle.sve_outline.proofs.ReadNames.{read_scoped_name, scoped_name_read}
use Rattle.sve_outline.proofs.Readers.{IsRead, mark_read, numbered, option_read, read_option, read_row, read_separators, read_token, row_read, separators_read, token_read, ◌◃◌}
use Rattle.sve_outline.specs.Expressions.{arg_outline, argument_list_outline, argument_row_outline, cast_outline, dimension_outline, dimension_row_outline, expr_outline, expression_outline, expression_row_outline, operation_outline, operation_row_outline, parenthesized_outline, pattern_item_outline, pattern_item_row_outline, pattern_outline, postfix_outline, postfix_row_outline, range_outline, range_select_row_outline, select_outline, select_row_outline, value_range_outline, value_range_row_outline}
use Rattle.sve_outline.specs.Outline.{IsWhole, Outline, no_more, token_at, variant, ◌◂◌}
use Rattle.sve_outline.specs.Words.{implication_operator_place}
use Rattle.sve_tree.specs.Expressions.{arg_tree, argument_list_tree, argument_trees, cast_tree, dimension_row, dimension_tree, expression_tree, expression_trees, height, in_place, is_chain_row, level_of, operation_level, operation_row, operation_row_level, operation_tree, own, parenthesized_tree, pattern_item_tree, pattern_item_trees, pattern_tree, postfix_row, postfix_tree, raise, range_select_row, range_tree, row_of_level, select_row, select_tree, tree_at, value_range_tree, value_range_trees}
use Rattle.sve_tree.specs.Shape.{first_of, first_tree, further_of, further_tree, mark_tree, others_tree, repeated_tree, rest_tree}
use Rattle.sve_tree.specs.Words.{binary_operator_tree, implication_operator_tree}
use Rattle.sve_tree.specs.declared.expression.Arg.{Arg}
use Rattle.sve_tree.specs.declared.expression.Dimension.{Dimension}
use Rattle.sve_tree.specs.declared.expression.Expr.{Expr, Row_of-Arg, Row_of-Dimension, Row_of-Expr, Row_of-Operation, Row_of-PatternItem, Row_of-Postfix, Row_of-RangeSelect, Row_of-Select, end_of-Arg, end_of-Dimension, end_of-Expr, end_of-Operation, end_of-PatternItem, end_of-Postfix, end_of-RangeSelect, end_of-Select, more_of-Arg, more_of-Dimension, more_of-Expr, more_of-Operation, more_of-PatternItem, more_of-Postfix, more_of-RangeSelect, more_of-Select}
use Rattle.sve_tree.specs.declared.expression.Operation.{Operation, Row_of-ValueRange, end_of-ValueRange, more_of-ValueRange}
use Rattle.sve_tree.specs.declared.expression.PatternItem.{PatternItem}
use Rattle.sve_tree.specs.declared.expression.Postfix.{Postfix}
use Rattle.sve_tree.specs.declared.expression.Range.{Range}
use Rattle.sve_tree.specs.declared.expression.Select.{Select}
use Rattle.sve_tree.specs.declared.expression.ValueRange.{ValueRange}
use Rattle.sve_tree.specs.declared.word.BinaryOperator.{BinaryOperator}
use Rattle.sve_tree.specs.declared.word.ImplicationOperator.{ImplicationOperator}
use Rattle.sve_tree.specs.declared.expression.Arg.TheVariants as is_arg
use Rattle.sve_tree.specs.declared.word.BinaryOperator.TheVariants as is_binary_operator
use Rattle.sve_tree.specs.declared.expression.Dimension.TheVariants as is_dimension
use Rattle.sve_tree.specs.declared.expression.Expr.TheVariants as is_expr
use Rattle.sve_tree.specs.declared.word.ImplicationOperator.TheVariants as is_implication_operator
use Rattle.sve_tree.specs.declared.expression.Operation.TheVariants as is_operation
use Rattle.sve_tree.specs.declared.expression.PatternItem.TheVariants as is_pattern_item
use Rattle.sve_tree.specs.declared.expression.Postfix.TheVariants as is_postfix
use Rattle.sve_tree.specs.declared.expression.Range.TheVariants as is_range
use Rattle.sve_tree.specs.declared.expression.Select.TheVariants as is_select
use Rattle.sve_tree.specs.declared.expression.ValueRange.TheVariants as is_value_range

mutual
  pub read_expr : ℕ → Tree → Outline
  read_expr zero (right (left (pair (leaf token) (right none)))) = variant 0 ◂ token_at token
  read_expr zero (right (left (pair (leaf size) (left (left (leaf based)))))) = variant 1 ◂ token_at size ◂ token_at based
  read_expr zero (right (left (pair (leaf size) (left (right (pair (leaf apostrophe) (pair (leaf opening) (pair value_value (leaf closing))))))))) = variant 2 ◂ token_at size ◂ token_at apostrophe ◂ token_at opening ◂ read_expr 13 value_value ◂ token_at closing
  read_expr zero (right (right (left (leaf token)))) = variant 3 ◂ token_at token
  read_expr zero (right (right (right (left (leaf token))))) = variant 4 ◂ token_at token
  read_expr zero (right (right (right (right (left (leaf token)))))) = variant 5 ◂ token_at token
  read_expr zero (right (right (right (right (right (left (pair (pair (leaf opening) (pair value (leaf closing))) (right none)))))))) = variant 6 ◂ token_at opening ◂ read_expr 13 value ◂ token_at closing
  read_expr zero (right (right (right (right (right (left (pair (pair (leaf opening) (pair value (leaf closing))) (left (pair (leaf apostrophe) (pair (leaf cast_value_opening) (pair cast_value_value (leaf cast_value_closing)))))))))))) = variant 7 ◂ token_at opening ◂ read_expr 13 value ◂ token_at closing ◂ token_at apostrophe ◂ token_at cast_value_opening ◂ read_expr 13 cast_value_value ◂ token_at cast_value_closing
  read_expr zero (right (right (right (right (right (right (left (pair (leaf opening) (pair first (pair others (leaf closing))))))))))) = variant 8 ◂ token_at opening ◂ ((read_pattern_item first ◂ read_pattern_item_rest others) ◂ read_separators read_token others) ◂ token_at closing
  read_expr zero (right (right (right (right (right (right (right (left (pair (leaf opening) (pair count (pair (left (pair (leaf inner_opening) (pair first (pair others (leaf inner_closing))))) (pair (leaf closing) selects)))))))))))) = variant 9 ◂ token_at opening ◂ read_expr 13 count ◂ token_at inner_opening ◂ ((read_expr 13 first ◂ read_expression_rest others) ◂ read_separators read_token others) ◂ token_at inner_closing ◂ token_at closing ◂ read_range_select_row selects
  read_expr zero (right (right (right (right (right (right (right (left (pair (leaf opening) (pair first (pair (right others) (pair (leaf closing) selects)))))))))))) = variant 10 ◂ token_at opening ◂ ((read_expr 13 first ◂ read_expression_rest others) ◂ read_separators read_token others) ◂ token_at closing ◂ read_range_select_row selects
  read_expr zero (right (right (right (right (right (right (right (right (left (pair sign (pair (leaf apostrophe) (pair (leaf opening) (pair value_value (leaf closing)))))))))))))) = variant 11 ◂ numbered 1 0 sign ◂ token_at apostrophe ◂ token_at opening ◂ read_expr 13 value_value ◂ token_at closing
  read_expr zero (right (right (right (right (right (right (right (right (right (left (pair keyword (pair sign (pair dimensions (right none)))))))))))))) = variant 12 ◂ read_integer_keyword keyword ◂ read_option (numbered 1 0) sign ◂ read_dimension_row dimensions
  read_expr zero (right (right (right (right (right (right (right (right (right (left (pair keyword (pair sign (pair dimensions (left (pair (leaf apostrophe) (pair (leaf opening) (pair value_value (leaf closing)))))))))))))))))) = variant 13 ◂ read_integer_keyword keyword ◂ read_option (numbered 1 0) sign ◂ read_dimension_row dimensions ◂ token_at apostrophe ◂ token_at opening ◂ read_expr 13 value_value ◂ token_at closing
  read_expr zero (right (right (right (right (right (right (right (right (right (right (left (pair (leaf name) (pair (right none) selects))))))))))))) = variant 14 ◂ token_at name ◂ read_select_row selects
  read_expr zero (right (right (right (right (right (right (right (right (right (right (left (pair (leaf name) (pair (left (pair (leaf opening) (pair (pair first others) (leaf closing)))) selects))))))))))))) = variant 15 ◂ token_at name ◂ token_at opening ◂ ((read_arg first ◂ read_argument_rest others) ◂ read_separators read_token others) ◂ token_at closing ◂ read_select_row selects
  read_expr zero (right (right (right (right (right (right (right (right (right (right (right (pair name postfixes)))))))))))) = variant 16 ◂ read_scoped_name name ◂ read_postfix_row postfixes
  read_expr zero (left (pair operator operand)) = variant 17 ◂ numbered 10 0 operator ◂ read_expr 0 operand
  read_expr (suc n) (pair t ended) = read_expr n t
  read_expr (suc n) (pair t (right none)) = read_expr n t
  read_expr (suc n) (pair first (turn operation rest)) = variant 18 ◂ read_expr n first ◂ read_operation (suc n) operation ◂ read_operation_row (suc n) rest
  read_expr (suc n) (pair condition (left (pair (leaf question) (pair chosen (pair (leaf colon) otherwise))))) = variant 19 ◂ read_expr n condition ◂ token_at question ◂ read_expr 13 chosen ◂ token_at colon ◂ read_expr 12 otherwise
  read_expr (suc n) (pair l (left (pair (left (leaf at)) r))) = variant 20 ◂ read_expr n l ◂ (variant 0 ◂ token_at at) ◂ read_expr 13 r
  read_expr (suc n) (pair l (left (pair (right (leaf at)) r))) = variant 20 ◂ read_expr n l ◂ (variant 1 ◂ token_at at) ◂ read_expr 13 r
  read_expr level t = no_more

  pub read_operation : ℕ → Tree → Outline
  read_operation level (pair operator r) = variant 0 ◂ read_binary_operator level operator ◂ read_expr (level - 1) r
  read_operation level (left (pair operator r)) = variant 0 ◂ read_binary_operator level operator ◂ read_expr (level - 1) r
  read_operation level (right (pair (leaf keyword) (pair (leaf opening) (pair first (pair others (leaf closing)))))) = variant 1 ◂ token_at keyword ◂ token_at opening ◂ ((read_value_range first ◂ read_value_range_rest others) ◂ read_separators read_token others) ◂ token_at closing
  read_operation level t = no_more

  pub read_dimension : Tree → Outline
  read_dimension (pair (leaf opening) (pair size (pair (right none) (leaf closing)))) = variant 0 ◂ token_at opening ◂ read_expr 13 size ◂ token_at closing
  read_dimension (pair (leaf opening) (pair l (pair (left (pair (leaf colon) r)) (leaf closing)))) = variant 1 ◂ token_at opening ◂ read_expr 13 l ◂ token_at colon ◂ read_expr 13 r ◂ token_at closing
  read_dimension t = no_more

  pub read_range : Tree → Outline
  read_range (pair index (right none)) = variant 0 ◂ read_expr 13 index
  read_range (pair l (left (left (pair (leaf colon) r)))) = variant 1 ◂ read_expr 13 l ◂ token_at colon ◂ read_expr 13 r
  read_range (pair from (left (right (left (pair (leaf at) width))))) = variant 2 ◂ read_expr 13 from ◂ token_at at ◂ read_expr 13 width
  read_range (pair from (left (right (right (pair (leaf at) width))))) = variant 3 ◂ read_expr 13 from ◂ token_at at ◂ read_expr 13 width
  read_range t = no_more

  pub read_select : Tree → Outline
  read_select (left (pair (leaf dot) (leaf name))) = variant 0 ◂ token_at dot ◂ token_at name
  read_select (right (pair (leaf opening) (pair range (leaf closing)))) = variant 1 ◂ token_at opening ◂ read_range range ◂ token_at closing
  read_select t = no_more

  pub read_postfix : Tree → Outline
  read_postfix (left select) = variant 0 ◂ read_select select
  read_postfix (right (left (pair (leaf opening) (pair (pair first others) (leaf closing))))) = variant 1 ◂ token_at opening ◂ ((read_arg first ◂ read_argument_rest others) ◂ read_separators read_token others) ◂ token_at closing
  read_postfix (right (right (left (pair (leaf apostrophe) (pair (leaf opening) (pair value_value (leaf closing))))))) = variant 2 ◂ token_at apostrophe ◂ token_at opening ◂ read_expr 13 value_value ◂ token_at closing
  read_postfix (right (right (right (pair (leaf opening) (pair first (pair others (leaf closing))))))) = variant 3 ◂ token_at opening ◂ ((read_pattern_item first ◂ read_pattern_item_rest others) ◂ read_separators read_token others) ◂ token_at closing
  read_postfix t = no_more

  pub read_arg : Tree → Outline
  read_arg (left (leaf token)) = variant 0 ◂ token_at token
  read_arg (right (left (pair (leaf dot) (pair (leaf name) (right none))))) = variant 1 ◂ token_at dot ◂ token_at name
  read_arg (right (left (pair (leaf dot) (pair (leaf name) (left (pair (leaf opening) (pair (right none) (leaf closing)))))))) = variant 2 ◂ token_at dot ◂ token_at name ◂ token_at opening ◂ token_at closing
  read_arg (right (left (pair (leaf dot) (pair (leaf name) (left (pair (leaf opening) (pair (left value) (leaf closing)))))))) = variant 3 ◂ token_at dot ◂ token_at name ◂ token_at opening ◂ read_expr 13 value ◂ token_at closing
  read_arg (right (right (left value))) = variant 4 ◂ read_expr 13 value
  read_arg (right (right (right none))) = variant 5
  read_arg t = no_more

  pub read_value_range : Tree → Outline
  read_value_range (left (pair (leaf opening) (pair low (pair (leaf colon) (pair high (leaf closing)))))) = variant 0 ◂ token_at opening ◂ read_expr 13 low ◂ token_at colon ◂ read_expr 13 high ◂ token_at closing
  read_value_range (right value) = variant 1 ◂ read_expr 13 value
  read_value_range t = no_more

  pub read_pattern_item : Tree → Outline
  read_pattern_item (left (pair (leaf keyword) (pair (leaf colon) value))) = variant 0 ◂ token_at keyword ◂ token_at colon ◂ read_expr 13 value
  read_pattern_item (right (pair value (right none))) = variant 1 ◂ read_expr 13 value
  read_pattern_item (right (pair key (left (left (pair (leaf colon) value))))) = variant 2 ◂ read_expr 13 key ◂ token_at colon ◂ read_expr 13 value
  read_pattern_item (right (pair count (left (right (pair (leaf opening) (pair first (pair others (leaf closing)))))))) = variant 3 ◂ read_expr 13 count ◂ token_at opening ◂ ((read_expr 13 first ◂ read_expression_rest others) ◂ read_separators read_token others) ◂ token_at closing
  read_pattern_item t = no_more

  pub read_range_select_row : Tree → Outline
  read_range_select_row (turn (pair (leaf opening) (pair range (leaf closing))) rest) = (token_at opening ◂ read_range range ◂ token_at closing) ◂ read_range_select_row rest
  read_range_select_row t = no_more

  pub read_dimension_row : Tree → Outline
  read_dimension_row (turn dimension rest) = read_dimension dimension ◂ read_dimension_row rest
  read_dimension_row t = no_more

  pub read_select_row : Tree → Outline
  read_select_row (turn select rest) = read_select select ◂ read_select_row rest
  read_select_row t = no_more

  pub read_postfix_row : Tree → Outline
  read_postfix_row (turn postfix rest) = read_postfix postfix ◂ read_postfix_row rest
  read_postfix_row t = no_more

  pub read_operation_row : ℕ → Tree → Outline
  read_operation_row level (turn operation rest) = read_operation level operation ◂ read_operation_row level rest
  read_operation_row level t = no_more

  pub read_expression_rest : Tree → Outline
  read_expression_rest (turn (pair separator item) rest) = read_expr 13 item ◂ read_expression_rest rest
  read_expression_rest t = no_more

  pub read_value_range_rest : Tree → Outline
  read_value_range_rest (turn (pair separator item) rest) = read_value_range item ◂ read_value_range_rest rest
  read_value_range_rest t = no_more

  pub read_argument_rest : Tree → Outline
  read_argument_rest (turn (pair separator item) rest) = read_arg item ◂ read_argument_rest rest
  read_argument_rest t = no_more

  pub read_pattern_item_rest : Tree → Outline
  read_pattern_item_rest (turn (pair separator item) rest) = read_pattern_item item ◂ read_pattern_item_rest rest
  read_pattern_item_rest t = no_more

-- what is read at its own level is read alike at each level above
pub lowered : (n h : ℕ) (t : Tree) (o : Outline) → IsWhole (raise n h t) → (IsWhole t → read_expr h t ≡ o) → read_expr n (raise n h t) ≡ o
unfolding raise read_expr
lowered zero h t o w f = here (eqb h 0) refl w
  where
    here : (b : Bool) → eqb h 0 ≡ b → IsWhole (cond b t (turn t none)) → read_expr zero (cond b t (turn t none)) ≡ o
    here true e w = subst (λ (k : ℕ). read_expr k t ≡ o) (eqb-true h 0 e) (f w)
    here false e w = absurd w.2
lowered (suc n) h t o w f = here (eqb h (suc n)) (ltb n 11) refl (λ u. lowered n h t o u f) w
  where
    here : (b low : Bool) → eqb h (suc n) ≡ b → (IsWhole (raise n h t) → read_expr n (raise n h t) ≡ o) → IsWhole (cond b t (cond low (pair (raise n h t) ended) (pair (raise n h t) (right none)))) → read_expr (suc n) (cond b t (cond low (pair (raise n h t) ended) (pair (raise n h t) (right none)))) ≡ o
    here true low e below w = subst (λ (k : ℕ). read_expr k t ≡ o) (eqb-true h (suc n) e) (f w)
    here false true e below w = below w.0
    here false false e below w = below w.0

way_read : (b : Bool) (level : ℕ) (operator r : Tree) → read_operation level (cond b (left (pair operator r)) (pair operator r)) ≡ (variant 0 ◂ read_binary_operator level operator ◂ read_expr (level - 1) r)
unfolding read_expr
way_read true level operator r = refl
way_read false level operator r = refl

way_whole : (b : Bool) (operator r : Tree) → IsWhole (cond b (left (pair operator r)) (pair operator r)) → IsWhole r
way_whole true operator r w = w.1
way_whole false operator r w = w.1

both_true : (a b : Bool) → (a && b) ≡ true → (a ≡ true) × (b ≡ true)
both_true true b h = (refl, h)
both_true false b h = absurd cc

level_above : (k : BinaryOperator) → 0 < level_of k
level_above is_binary_operator.Power = omega arith
level_above is_binary_operator.Times = omega arith
level_above is_binary_operator.Divide = omega arith
level_above is_binary_operator.Remainder = omega arith
level_above is_binary_operator.Plus = omega arith
level_above is_binary_operator.Minus = omega arith
level_above is_binary_operator.LogicalShiftLeft = omega arith
level_above is_binary_operator.LogicalShiftRight = omega arith
level_above is_binary_operator.ArithmeticShiftLeft = omega arith
level_above is_binary_operator.ArithmeticShiftRight = omega arith
level_above is_binary_operator.Less = omega arith
level_above is_binary_operator.LessEqual = omega arith
level_above is_binary_operator.Greater = omega arith
level_above is_binary_operator.GreaterEqual = omega arith
level_above is_binary_operator.Equal = omega arith
level_above is_binary_operator.NotEqual = omega arith
level_above is_binary_operator.CaseEqual = omega arith
level_above is_binary_operator.CaseNotEqual = omega arith
level_above is_binary_operator.WildcardEqual = omega arith
level_above is_binary_operator.WildcardNotEqual = omega arith
level_above is_binary_operator.And = omega arith
level_above is_binary_operator.Xor = omega arith
level_above is_binary_operator.TildeXnor = omega arith
level_above is_binary_operator.CaretXnor = omega arith
level_above is_binary_operator.Or = omega arith
level_above is_binary_operator.LogicalAnd = omega arith
level_above is_binary_operator.LogicalOr = omega arith

operation_above : (x : Operation) → 0 < operation_level x
operation_above (is_operation.Binary operator r) = level_above operator.kind
operation_above (is_operation.Inside' keyword opening _ ranges commas closing) = omega arith

-- a chain whose operations are all of its level is read at that level
chain_read : (b : Bool) (level h : ℕ) (t x u : Tree) (f o r : Outline) → 0 < level → IsWhole (in_place b (pair (raise (level - 1) h t) (turn x u))) → (IsWhole t → read_expr h t ≡ f) → (IsWhole x → read_operation level x ≡ o) → (b ≡ true → IsWhole u → read_operation_row level u ≡ r) → read_expr level (in_place b (pair (raise (level - 1) h t) (turn x u))) ≡ (variant 18 ◂ f ◂ o ◂ r)
unfolding read_expr
chain_read true zero h t x u f o r p w kf ko kr = absurd (omega arith)
chain_read true (suc n) h t x u f o r p w kf ko kr =
    let e : n ≡ suc n - 1 = omega arith in
    refl ◃ subst (λ (k : ℕ). IsWhole (raise k h t) → read_expr n (raise k h t) ≡ f) e (λ v. lowered n h t f v kf) w.0 ◃ ko w.1.0 ◃ kr refl w.1.1
chain_read false level h t x u f o r p w kf ko kr = absurd w.2

-- an implication's operator is read with it
implication_read : (n : ℕ) (k : ImplicationOperator) (i : ℕ) (l r : Tree) → read_expr (suc n) (pair l (left (pair (implication_operator_tree k i) r))) ≡ (variant 20 ◂ read_expr n l ◂ (variant (implication_operator_place k) ◂ token_at i) ◂ read_expr 13 r)
unfolding read_expr
implication_read n is_implication_operator.Implies i l r = refl
implication_read n is_implication_operator.Equivalent i l r = refl

mutual
  unfolding own expr_outline read_expr raise first_tree others_tree further_tree rest_tree repeated_tree

  pub own_read : (x : Expr) → IsWhole (own x) → read_expr (height x) (own x) ≡ expr_outline x
  own_read (is_expr.Decimal token) w = refl
  own_read (is_expr.Sized size based) w = refl
  own_read (is_expr.SizeCast' size apostrophe opening _ value_value closing) w = refl ◃ refl ◃ refl ◃ refl ◃ lowered 13 (height value_value) (own value_value) (expr_outline value_value) w.1.1.1.0 (λ u. own_read value_value u) ◃ refl
  own_read (is_expr.Based token) w = refl
  own_read (is_expr.Unbased token) w = refl
  own_read (is_expr.Text token) w = refl
  own_read (is_expr.Parenthesized' opening _ value closing) w = refl ◃ refl ◃ lowered 13 (height value) (own value) (expr_outline value) w.0.1.0 (λ u. own_read value u) ◃ refl
  own_read (is_expr.ParenthesizedCast' opening _ value closing apostrophe cast_value_opening _ cast_value_value cast_value_closing) w = refl ◃ refl ◃ lowered 13 (height value) (own value) (expr_outline value) w.0.1.0 (λ u. own_read value u) ◃ refl ◃ refl ◃ refl ◃ lowered 13 (height cast_value_value) (own cast_value_value) (expr_outline cast_value_value) w.1.1.1.0 (λ u. own_read cast_value_value u) ◃ refl
  own_read (is_expr.Pattern' opening _ items commas closing) w = refl ◃ refl ◃ (pattern_item_row_read items commas.items w.1.0 w.1.1.0 ◃ separators_read _ _ _ _ token_read (pattern_item_trees items) commas.items w.1.1.0) ◃ refl
  own_read (is_expr.Replication' opening _ count inner_opening _ operands commas inner_closing closing _ selects) w = refl ◃ refl ◃ lowered 13 (height count) (own count) (expr_outline count) w.1.0 (λ u. own_read count u) ◃ refl ◃ (expression_row_read operands commas.items w.1.1.0.1.0 w.1.1.0.1.1.0 ◃ separators_read _ _ _ _ token_read (expression_trees operands) commas.items w.1.1.0.1.1.0) ◃ refl ◃ refl ◃ range_select_row_read selects w.1.1.1.1
  own_read (is_expr.Concatenation' opening _ operands commas closing _ selects) w = refl ◃ refl ◃ (expression_row_read operands commas.items w.1.0 w.1.1.0 ◃ separators_read _ _ _ _ token_read (expression_trees operands) commas.items w.1.1.0) ◃ refl ◃ range_select_row_read selects w.1.1.1.1
  own_read (is_expr.SignCast' sign apostrophe opening _ value_value closing) w = refl ◃ mark_read _ _ _ sign_marked sign w.0 ◃ refl ◃ refl ◃ lowered 13 (height value_value) (own value_value) (expr_outline value_value) w.1.1.1.0 (λ u. own_read value_value u) ◃ refl
  own_read (is_expr.Type' keyword sign _ dimensions) w = refl ◃ integer_keyword_read keyword w.0 ◃ option_read _ _ _ (mark_read _ _ _ sign_marked) sign w.1.0 ◃ dimension_row_read dimensions w.1.1.0
  own_read (is_expr.TypeCast' keyword sign _ dimensions apostrophe opening _ value_value closing) w = refl ◃ integer_keyword_read keyword w.0 ◃ option_read _ _ _ (mark_read _ _ _ sign_marked) sign w.1.0 ◃ dimension_row_read dimensions w.1.1.0 ◃ refl ◃ refl ◃ lowered 13 (height value_value) (own value_value) (expr_outline value_value) w.1.1.1.1.1.0 (λ u. own_read value_value u) ◃ refl
  own_read (is_expr.SystemName' name _ selects) w = refl ◃ refl ◃ select_row_read selects w.1.1
  own_read (is_expr.SystemCall' name opening _ arguments commas closing _ selects) w = refl ◃ refl ◃ refl ◃ (argument_row_read arguments commas.items w.1.0.1.0.0 w.1.0.1.0.1 ◃ separators_read _ _ _ _ token_read (argument_trees arguments) commas.items w.1.0.1.0.1) ◃ refl ◃ select_row_read selects w.1.1
  own_read (is_expr.Name' name _ postfixes) w = refl ◃ scoped_name_read name w.0 ◃ postfix_row_read postfixes w.1
  own_read (is_expr.Unary' operator _ operand) w = refl ◃ mark_read _ _ _ unary_operator_marked operator w.0 ◃ lowered 0 (height operand) (own operand) (expr_outline operand) w.1 (λ u. own_read operand u)
  own_read (is_expr.Operations' _ first _ operations) w = operations_read (height first) (own first) (expr_outline first) (λ u. own_read first u) operations w
  own_read (is_expr.Conditional' _ condition question _ chosen colon _ otherwise) w = refl ◃ lowered 11 (height condition) (own condition) (expr_outline condition) w.0 (λ u. own_read condition u) ◃ refl ◃ lowered 13 (height chosen) (own chosen) (expr_outline chosen) w.1.1.0 (λ u. own_read chosen u) ◃ refl ◃ lowered 12 (height otherwise) (own otherwise) (expr_outline otherwise) w.1.1.1.1 (λ u. own_read otherwise u)
  own_read (is_expr.Implication' _ l operator _ r) w = implication_read 12 operator.kind operator.token (raise 12 (height l) (own l)) (raise 13 (height r) (own r)) ∙ (refl ◃ lowered 12 (height l) (own l) (expr_outline l) w.0 (λ u. own_read l u) ◃ refl ◃ lowered 13 (height r) (own r) (expr_outline r) w.1.1 (λ u. own_read r u))

  pub operation_read : (x : Operation) → IsWhole (operation_tree x) → read_operation (operation_level x) (operation_tree x) ≡ operation_outline x
  operation_read (is_operation.Binary operator r) w =
      way_read (eqb (level_of operator.kind) 5) (level_of operator.kind) (mark_tree binary_operator_tree operator) (raise (level_of operator.kind - 1) (height r) (own r))
      ∙ (refl ◃ (binary_operator_said operator.kind operator.token).1 ◃ lowered (level_of operator.kind - 1) (height r) (own r) (expr_outline r) (way_whole (eqb (level_of operator.kind) 5) (mark_tree binary_operator_tree operator) (raise (level_of operator.kind - 1) (height r) (own r)) w) (λ u. own_read r u))
  operation_read (is_operation.Inside' keyword opening _ ranges commas closing) w = refl ◃ refl ◃ refl ◃ (value_range_row_read ranges commas.items w.1.1.0 w.1.1.1.0 ◃ separators_read _ _ _ _ token_read (value_range_trees ranges) commas.items w.1.1.1.0) ◃ refl

  pub dimension_read : (x : Dimension) → IsWhole (dimension_tree x) → read_dimension (dimension_tree x) ≡ dimension_outline x
  dimension_read (is_dimension.Size' opening _ size closing) w = refl ◃ refl ◃ lowered 13 (height size) (own size) (expr_outline size) w.1.0 (λ u. own_read size u) ◃ refl
  dimension_read (is_dimension.Range' opening _ l colon _ r closing) w = refl ◃ refl ◃ lowered 13 (height l) (own l) (expr_outline l) w.1.0 (λ u. own_read l u) ◃ refl ◃ lowered 13 (height r) (own r) (expr_outline r) w.1.1.0.1 (λ u. own_read r u) ◃ refl

  pub range_read : (x : Range) → IsWhole (range_tree x) → read_range (range_tree x) ≡ range_outline x
  range_read (is_range.Index' _ index) w = refl ◃ lowered 13 (height index) (own index) (expr_outline index) w.0 (λ u. own_read index u)
  range_read (is_range.Between' _ l colon _ r) w = refl ◃ lowered 13 (height l) (own l) (expr_outline l) w.0 (λ u. own_read l u) ◃ refl ◃ lowered 13 (height r) (own r) (expr_outline r) w.1.1 (λ u. own_read r u)
  range_read (is_range.Upward' _ from at _ width) w = refl ◃ lowered 13 (height from) (own from) (expr_outline from) w.0 (λ u. own_read from u) ◃ refl ◃ lowered 13 (height width) (own width) (expr_outline width) w.1.1 (λ u. own_read width u)
  range_read (is_range.Downward' _ from at _ width) w = refl ◃ lowered 13 (height from) (own from) (expr_outline from) w.0 (λ u. own_read from u) ◃ refl ◃ lowered 13 (height width) (own width) (expr_outline width) w.1.1 (λ u. own_read width u)

  pub select_read : (x : Select) → IsWhole (select_tree x) → read_select (select_tree x) ≡ select_outline x
  select_read (is_select.Member dot name) w = refl
  select_read (is_select.Range' opening range closing) w = refl ◃ refl ◃ range_read range w.1.0 ◃ refl

  pub postfix_read : (x : Postfix) → IsWhole (postfix_tree x) → read_postfix (postfix_tree x) ≡ postfix_outline x
  postfix_read (is_postfix.Select select) w = refl ◃ select_read select w
  postfix_read (is_postfix.Call' opening _ arguments commas closing) w = refl ◃ refl ◃ (argument_row_read arguments commas.items w.1.0.0 w.1.0.1 ◃ separators_read _ _ _ _ token_read (argument_trees arguments) commas.items w.1.0.1) ◃ refl
  postfix_read (is_postfix.Cast' apostrophe opening _ value_value closing) w = refl ◃ refl ◃ refl ◃ lowered 13 (height value_value) (own value_value) (expr_outline value_value) w.1.1.0 (λ u. own_read value_value u) ◃ refl
  postfix_read (is_postfix.Pattern' opening _ items commas closing) w = refl ◃ refl ◃ (pattern_item_row_read items commas.items w.1.0 w.1.1.0 ◃ separators_read _ _ _ _ token_read (pattern_item_trees items) commas.items w.1.1.0) ◃ refl

  pub arg_read : (x : Arg) → IsWhole (arg_tree x) → read_arg (arg_tree x) ≡ arg_outline x
  arg_read (is_arg.Wildcard token) w = refl
  arg_read (is_arg.Implicit dot name) w = refl
  arg_read (is_arg.Unconnected dot name opening closing) w = refl
  arg_read (is_arg.Named' dot name opening _ value closing) w = refl ◃ refl ◃ refl ◃ refl ◃ lowered 13 (height value) (own value) (expr_outline value) w.1.1.1.0 (λ u. own_read value u) ◃ refl
  arg_read (is_arg.Ordered' _ value) w = refl ◃ lowered 13 (height value) (own value) (expr_outline value) w (λ u. own_read value u)
  arg_read is_arg.Empty w = refl

  pub value_range_read : (x : ValueRange) → IsWhole (value_range_tree x) → read_value_range (value_range_tree x) ≡ value_range_outline x
  value_range_read (is_value_range.Between' opening _ low colon _ high closing) w = refl ◃ refl ◃ lowered 13 (height low) (own low) (expr_outline low) w.1.0 (λ u. own_read low u) ◃ refl ◃ lowered 13 (height high) (own high) (expr_outline high) w.1.1.1.0 (λ u. own_read high u) ◃ refl
  value_range_read (is_value_range.Value' _ value) w = refl ◃ lowered 13 (height value) (own value) (expr_outline value) w (λ u. own_read value u)

  pub pattern_item_read : (x : PatternItem) → IsWhole (pattern_item_tree x) → read_pattern_item (pattern_item_tree x) ≡ pattern_item_outline x
  pattern_item_read (is_pattern_item.Default' keyword colon _ value) w = refl ◃ refl ◃ refl ◃ lowered 13 (height value) (own value) (expr_outline value) w.1.1 (λ u. own_read value u)
  pattern_item_read (is_pattern_item.Value' _ value) w = refl ◃ lowered 13 (height value) (own value) (expr_outline value) w.0 (λ u. own_read value u)
  pattern_item_read (is_pattern_item.Keyed' _ key colon _ value) w = refl ◃ lowered 13 (height key) (own key) (expr_outline key) w.0 (λ u. own_read key u) ◃ refl ◃ lowered 13 (height value) (own value) (expr_outline value) w.1.1 (λ u. own_read value u)
  pattern_item_read (is_pattern_item.Repeated' _ count opening _ values commas closing) w = refl ◃ lowered 13 (height count) (own count) (expr_outline count) w.0 (λ u. own_read count u) ◃ refl ◃ (expression_row_read values commas.items w.1.1.0 w.1.1.1.0 ◃ separators_read _ _ _ _ token_read (expression_trees values) commas.items w.1.1.1.0) ◃ refl

  pub range_select_row_read : {n : _} (row : Row_of-RangeSelect n) → IsWhole (range_select_row row) → read_range_select_row (range_select_row row) ≡ range_select_row_outline row
  range_select_row_read end_of-RangeSelect w = refl
  range_select_row_read (more_of-RangeSelect opening range closing rest) w = (refl ◃ range_read range w.0.1.0 ◃ refl) ◃ range_select_row_read rest w.1

  pub dimension_row_read : {n : _} (row : Row_of-Dimension n) → IsWhole (dimension_row row) → read_dimension_row (dimension_row row) ≡ dimension_row_outline row
  dimension_row_read end_of-Dimension w = refl
  dimension_row_read (more_of-Dimension dimension rest) w = dimension_read dimension w.0 ◃ dimension_row_read rest w.1

  pub select_row_read : {n : _} (row : Row_of-Select n) → IsWhole (select_row row) → read_select_row (select_row row) ≡ select_row_outline row
  select_row_read end_of-Select w = refl
  select_row_read (more_of-Select select rest) w = select_read select w.0 ◃ select_row_read rest w.1

  pub postfix_row_read : {n : _} (row : Row_of-Postfix n) → IsWhole (postfix_row row) → read_postfix_row (postfix_row row) ≡ postfix_row_outline row
  postfix_row_read end_of-Postfix w = refl
  postfix_row_read (more_of-Postfix postfix rest) w = postfix_read postfix w.0 ◃ postfix_row_read rest w.1

  operations_read : {n : _} (h : ℕ) (t : Tree) (f : Outline) → (IsWhole t → read_expr h t ≡ f) → (row : Row_of-Operation n) → IsWhole (in_place (is_chain_row row) (pair (raise (operation_row_level row - 1) h t) (operation_row row))) → read_expr (operation_row_level row) (in_place (is_chain_row row) (pair (raise (operation_row_level row - 1) h t) (operation_row row))) ≡ (variant 18 ◂ f ◂ operation_row_outline row)
  operations_read h t f k end_of-Operation w = absurd w.2
  operations_read h t f k (more_of-Operation operation rest) w =
      chain_read (row_of_level (operation_level operation) rest) (operation_level operation) h t (operation_tree operation) (operation_row rest) f (operation_outline operation) (operation_row_outline rest) (operation_above operation) w k (λ u. operation_read operation u) (λ e u. operation_row_read (operation_level operation) rest e u)

  pub operation_row_read : {n : _} (level : ℕ) (row : Row_of-Operation n) → row_of_level level row ≡ true → IsWhole (operation_row row) → read_operation_row level (operation_row row) ≡ operation_row_outline row
  operation_row_read level end_of-Operation e w = refl
  operation_row_read level (more_of-Operation operation rest) e w =
      let b = both_true (eqb (operation_level operation) level) (row_of_level level rest) e in
      subst (λ (k : ℕ). read_operation k (operation_tree operation) ≡ operation_outline operation) (eqb-true (operation_level operation) level b.0) (operation_read operation w.0) ◃ operation_row_read level rest b.1 w.1

  pub expression_row_read : {n : _} (row : Row_of-Expr n) (ss : List ℕ) → IsWhole (first_of (expression_trees row)) → IsWhole (further_of (expression_trees row) ss) → (read_expr 13 (first_of (expression_trees row)) ◂ read_expression_rest (further_of (expression_trees row) ss)) ≡ expression_row_outline row
  expression_row_read end_of-Expr ss w v = absurd w.2
  expression_row_read (more_of-Expr e rest) ss w v = lowered 13 (height e) (own e) (expr_outline e) w (λ u. own_read e u) ◃ expression_rest_read rest ss v

  pub expression_rest_read : {n : _} (row : Row_of-Expr n) (ss : List ℕ) → IsWhole (rest_tree (λ (t : Tree). t) leaf (expression_trees row) ss) → read_expression_rest (rest_tree (λ (t : Tree). t) leaf (expression_trees row) ss) ≡ expression_row_outline row
  expression_rest_read end_of-Expr [] w = refl
  expression_rest_read end_of-Expr (s ∷ ss) w = absurd w.2
  expression_rest_read (more_of-Expr e rest) [] w = absurd w.2
  expression_rest_read (more_of-Expr e rest) (s ∷ ss) w = lowered 13 (height e) (own e) (expr_outline e) w.0.1 (λ u. own_read e u) ◃ expression_rest_read rest ss w.1

  pub value_range_row_read : {n : _} (row : Row_of-ValueRange n) (ss : List ℕ) → IsWhole (first_of (value_range_trees row)) → IsWhole (further_of (value_range_trees row) ss) → (read_value_range (first_of (value_range_trees row)) ◂ read_value_range_rest (further_of (value_range_trees row) ss)) ≡ value_range_row_outline row
  value_range_row_read end_of-ValueRange ss w v = absurd w.2
  value_range_row_read (more_of-ValueRange range rest) ss w v = value_range_read range w ◃ value_range_rest_read rest ss v

  pub value_range_rest_read : {n : _} (row : Row_of-ValueRange n) (ss : List ℕ) → IsWhole (rest_tree (λ (t : Tree). t) leaf (value_range_trees row) ss) → read_value_range_rest (rest_tree (λ (t : Tree). t) leaf (value_range_trees row) ss) ≡ value_range_row_outline row
  value_range_rest_read end_of-ValueRange [] w = refl
  value_range_rest_read end_of-ValueRange (s ∷ ss) w = absurd w.2
  value_range_rest_read (more_of-ValueRange range rest) [] w = absurd w.2
  value_range_rest_read (more_of-ValueRange range rest) (s ∷ ss) w = value_range_read range w.0.1 ◃ value_range_rest_read rest ss w.1

  pub argument_row_read : {n : _} (row : Row_of-Arg n) (ss : List ℕ) → IsWhole (first_of (argument_trees row)) → IsWhole (further_of (argument_trees row) ss) → (read_arg (first_of (argument_trees row)) ◂ read_argument_rest (further_of (argument_trees row) ss)) ≡ argument_row_outline row
  argument_row_read end_of-Arg ss w v = absurd w.2
  argument_row_read (more_of-Arg argument rest) ss w v = arg_read argument w ◃ argument_rest_read rest ss v

  pub argument_rest_read : {n : _} (row : Row_of-Arg n) (ss : List ℕ) → IsWhole (rest_tree (λ (t : Tree). t) leaf (argument_trees row) ss) → read_argument_rest (rest_tree (λ (t : Tree). t) leaf (argument_trees row) ss) ≡ argument_row_outline row
  argument_rest_read end_of-Arg [] w = refl
  argument_rest_read end_of-Arg (s ∷ ss) w = absurd w.2
  argument_rest_read (more_of-Arg argument rest) [] w = absurd w.2
  argument_rest_read (more_of-Arg argument rest) (s ∷ ss) w = arg_read argument w.0.1 ◃ argument_rest_read rest ss w.1

  pub pattern_item_row_read : {n : _} (row : Row_of-PatternItem n) (ss : List ℕ) → IsWhole (first_of (pattern_item_trees row)) → IsWhole (further_of (pattern_item_trees row) ss) → (read_pattern_item (first_of (pattern_item_trees row)) ◂ read_pattern_item_rest (further_of (pattern_item_trees row) ss)) ≡ pattern_item_row_outline row
  pattern_item_row_read end_of-PatternItem ss w v = absurd w.2
  pattern_item_row_read (more_of-PatternItem item rest) ss w v = pattern_item_read item w ◃ pattern_item_rest_read rest ss v

  pub pattern_item_rest_read : {n : _} (row : Row_of-PatternItem n) (ss : List ℕ) → IsWhole (rest_tree (λ (t : Tree). t) leaf (pattern_item_trees row) ss) → read_pattern_item_rest (rest_tree (λ (t : Tree). t) leaf (pattern_item_trees row) ss) ≡ pattern_item_row_outline row
  pattern_item_rest_read end_of-PatternItem [] w = refl
  pattern_item_rest_read end_of-PatternItem (s ∷ ss) w = absurd w.2
  pattern_item_rest_read (more_of-PatternItem item rest) [] w = absurd w.2
  pattern_item_rest_read (more_of-PatternItem item rest) (s ∷ ss) w = pattern_item_read item w.0.1 ◃ pattern_item_rest_read rest ss w.1

-- an expression at a level

pub expr_read : (level : ℕ) (e : Expr) → IsWhole (tree_at level e) → read_expr level (tree_at level e) ≡ expr_outline e
expr_read level e w = lowered level (height e) (own e) (expr_outline e) w (λ u. own_read e u)

pub read_expression : Tree → Outline
read_expression e = read_expr 13 e

pub expression_read : IsRead expression_tree expression_outline read_expression
unfolding read_expression
expression_read e w = expr_read 13 e.value w

pub read_parenthesized : Tree → Outline
read_parenthesized (pair (leaf opening) (pair value (leaf closing))) = token_at opening ◂ read_expr 13 value ◂ token_at closing
read_parenthesized t = no_more

pub parenthesized_read : IsRead parenthesized_tree parenthesized_outline read_parenthesized
unfolding read_parenthesized
parenthesized_read x w = refl ◃ expr_read 13 x.value.value w.1.0 ◃ refl

pub read_cast : Tree → Outline
read_cast (pair (leaf apostrophe) value) = token_at apostrophe ◂ read_parenthesized value
read_cast t = no_more

pub cast_read : IsRead cast_tree cast_outline read_cast
unfolding read_cast
cast_read x w = refl ◃ parenthesized_read x.value w.1

pub read_argument_list : Tree → Outline
read_argument_list (pair (leaf opening) (pair (pair first others) (leaf closing))) = token_at opening ◂ read_row read_arg read_token first others ◂ token_at closing
read_argument_list t = no_more

pub argument_list_read : IsRead argument_list_tree argument_list_outline read_argument_list
unfolding read_argument_list
argument_list_read x w = refl ◃ row_read _ _ read_arg _ _ read_token arg_read token_read x.arguments w.1.0.0 w.1.0.1 ◃ refl

pub read_pattern : Tree → Outline
read_pattern (pair (leaf opening) (pair first (pair others (leaf closing)))) = token_at opening ◂ read_row read_pattern_item read_token first others ◂ token_at closing
read_pattern t = no_more

pub pattern_read : IsRead pattern_tree pattern_outline read_pattern
unfolding read_pattern
pattern_read x w = refl ◃ row_read _ _ read_pattern_item _ _ read_token pattern_item_read token_read x.items w.1.0 w.1.1.0 ◃ refl
