-- Expressions, shown as trees from what they say.
use Rattle.std.proofs.Common.{Bool, List, [], ap, cond, eqb, false, refl, suc, true, zero, ℕ, ◌-◌, ◌∙◌, ◌∷◌, ◌≡◌}
use Rattle.std.specs.Prelude.{◌&&◌}
use Rattle.sve_grammar.specs.Reading.{Tree, ended, leaf, left, none, pair, right, turn}
use Rattle.sve_outline.proofs.Marks.{binary_operator_said, implication_operator_marked, integer_keyword_written, level_at, sign_marked, unary_operator_marked, written_binary_operator, written_integer_keyword}
use Rattle.sve_outline.proofs.WriteNames.{scoped_name_written, written_scoped_name}
use Rattle.sve_outline.proofs.Writers.{IsWritten, cons_alike, further_alike, mark_written, option_written, row_first_written, row_rest_written, said_tokens, token_written, tokens_said, turn_alike, written_mark, written_option, written_row_first, written_row_rest, written_token, ◌◇◌}
use Rattle.sve_outline.specs.Expressions.{arg_outline, argument_list_outline, argument_row_outline, cast_outline, dimension_outline, dimension_row_outline, expr_outline, expression_outline, expression_row_outline, operation_outline, operation_row_outline, parenthesized_outline, pattern_item_outline, pattern_item_row_outline, pattern_outline, postfix_outline, postfix_row_outline, range_outline, range_select_row_outline, select_outline, select_row_outline, value_range_outline, value_range_row_outline}
use Rattle.sve_outline.specs.Outline.{Outline, token_at, variant, ◌◂◌}
use Rattle.sve_outline.specs.Words.{binary_operator_place}
use Rattle.sve_tree.specs.Expressions.{arg_tree, argument_list_tree, argument_trees, cast_tree, dimension_row, dimension_tree, expression_tree, expression_trees, height, in_place, is_chain_row, level_of, operation_level, operation_row, operation_row_level, operation_tree, own, parenthesized_tree, pattern_item_tree, pattern_item_trees, pattern_tree, postfix_row, postfix_tree, raise, range_select_row, range_tree, row_of_level, select_row, select_tree, tree_at, value_range_tree, value_range_trees}
use Rattle.sve_tree.specs.Shape.{final, first_of, further_of, mark_tree, way, ◌▸◌}
use Rattle.sve_tree.specs.Words.{binary_operator_tree}
use Rattle.sve_tree.specs.declared.expression.Arg.{Arg}
use Rattle.sve_tree.specs.declared.expression.Dimension.{Dimension}
use Rattle.sve_tree.specs.declared.expression.Expr.{Expr, Row_of-Arg, Row_of-Dimension, Row_of-Expr, Row_of-Operation, Row_of-PatternItem, Row_of-Postfix, Row_of-RangeSelect, Row_of-Select, end_of-Arg, end_of-Dimension, end_of-Expr, end_of-Operation, end_of-PatternItem, end_of-Postfix, end_of-RangeSelect, end_of-Select, more_of-Arg, more_of-Dimension, more_of-Expr, more_of-Operation, more_of-PatternItem, more_of-Postfix, more_of-RangeSelect, more_of-Select}
use Rattle.sve_tree.specs.declared.expression.Operation.{Operation, Row_of-ValueRange, end_of-ValueRange, more_of-ValueRange}
use Rattle.sve_tree.specs.declared.expression.PatternItem.{PatternItem}
use Rattle.sve_tree.specs.declared.expression.Postfix.{Postfix}
use Rattle.sve_tree.specs.declared.expression.Range.{Range}
use Rattle.sve_tree.specs.declared.expression.Select.{Select}
use Rattle.sve_tree.specs.declared.expression.ValueRange.{ValueRange}
use Rattle.sve_tree.specs.declared.expression.Arg.TheVariants as is_arg
use Rattle.sve_tree.specs.declared.expression.Dimension.TheVariants as is_dimension
use Rattle.sve_tree.specs.declared.expression.Expr.TheVariants as is_expr
use Rattle.sve_tree.specs.declared.expression.Operation.TheVariants as is_operation
use Rattle.sve_tree.specs.declared.expression.PatternItem.TheVariants as is_pattern_item
use Rattle.sve_tree.specs.declared.expression.Postfix.TheVariants as is_postfix
use Rattle.sve_tree.specs.declared.expression.Range.TheVariants as is_range
use Rattle.sve_tree.specs.declared.expression.Select.TheVariants as is_select
use Rattle.sve_tree.specs.declared.expression.ValueRange.TheVariants as is_value_range

abbrev said_level : Outline → ℕ
said_level (variant zero ◂ (variant place ◂ token_at i) ◂ r) = level_at place
said_level o = 5

abbrev said_row_level : Outline → ℕ
said_row_level (operation ◂ rest) = said_level operation
said_row_level o = 0

abbrev said_row_of_level : ℕ → Outline → Bool
said_row_of_level level (operation ◂ rest) = eqb (said_level operation) level && said_row_of_level level rest
said_row_of_level level o = true

abbrev said_chain : Outline → Bool
said_chain (operation ◂ rest) = said_row_of_level (said_level operation) rest
said_chain o = false

abbrev said_operations_level : Outline → ℕ
said_operations_level (first ◂ rest) = said_row_level rest
said_operations_level o = 0

pub said_height : Outline → ℕ
said_height (variant place ◂ rest) = cond (eqb place 18) (said_operations_level rest) (cond (eqb place 19) 12 (cond (eqb place 20) 13 0))
said_height o = 0

level_said : (x : Operation) → said_level (operation_outline x) ≡ operation_level x
unfolding expr_outline
level_said (is_operation.Binary operator r) = (binary_operator_said operator.kind operator.token).0
level_said (is_operation.Inside' keyword opening _ ranges commas closing) = refl

row_level_said : {n : _} (row : Row_of-Operation n) → said_row_level (operation_row_outline row) ≡ operation_row_level row
unfolding expr_outline
row_level_said end_of-Operation = refl
row_level_said (more_of-Operation operation rest) = level_said operation

row_of_level_said : {n : _} (level : ℕ) (row : Row_of-Operation n) → said_row_of_level level (operation_row_outline row) ≡ row_of_level level row
unfolding expr_outline
row_of_level_said level end_of-Operation = refl
row_of_level_said level (more_of-Operation operation rest) = ap (λ (k : ℕ). eqb k level && said_row_of_level level (operation_row_outline rest)) (level_said operation) ∙ ap (λ (b : Bool). eqb (operation_level operation) level && b) (row_of_level_said level rest)

chain_said : {n : _} (row : Row_of-Operation n) → said_chain (operation_row_outline row) ≡ is_chain_row row
unfolding expr_outline
chain_said end_of-Operation = refl
chain_said (more_of-Operation operation rest) = ap (λ (k : ℕ). said_row_of_level k (operation_row_outline rest)) (level_said operation) ∙ row_of_level_said (operation_level operation) rest

pub height_said : (x : Expr) → said_height (expr_outline x) ≡ height x
unfolding expr_outline said_height
height_said (is_expr.Decimal token) = refl
height_said (is_expr.Sized size based) = refl
height_said (is_expr.SizeCast' size apostrophe opening _ value_value closing) = refl
height_said (is_expr.Based token) = refl
height_said (is_expr.Unbased token) = refl
height_said (is_expr.Text token) = refl
height_said (is_expr.Parenthesized' opening _ value closing) = refl
height_said (is_expr.ParenthesizedCast' opening _ value closing apostrophe cast_value_opening _ cast_value_value cast_value_closing) = refl
height_said (is_expr.Pattern' opening _ items commas closing) = refl
height_said (is_expr.Replication' opening _ count inner_opening _ operands commas inner_closing closing _ selects) = refl
height_said (is_expr.Concatenation' opening _ operands commas closing _ selects) = refl
height_said (is_expr.SignCast' sign apostrophe opening _ value_value closing) = refl
height_said (is_expr.Type' keyword sign _ dimensions) = refl
height_said (is_expr.TypeCast' keyword sign _ dimensions apostrophe opening _ value_value closing) = refl
height_said (is_expr.SystemName' name _ selects) = refl
height_said (is_expr.SystemCall' name opening _ arguments commas closing _ selects) = refl
height_said (is_expr.Name' name _ postfixes) = refl
height_said (is_expr.Unary' operator _ operand) = refl
height_said (is_expr.Operations' _ first _ operations) = row_level_said operations
height_said (is_expr.Conditional' _ condition question _ chosen colon _ otherwise) = refl
height_said (is_expr.Implication' _ l operator _ r) = refl

raised : (level : ℕ) {h k : ℕ} {t u : Tree} → h ≡ k → t ≡ u → raise level h t ≡ raise level k u
raised level {h = h} {k = k} {t = t} {u = u} p q = ap (λ (n : ℕ). raise level n t) p ∙ ap (λ (s : Tree). raise level k s) q

chain_alike : (b c : Bool) (l m h k : ℕ) (t s u v : Tree) → b ≡ c → l ≡ m → h ≡ k → t ≡ s → u ≡ v → in_place b (pair (raise (l - 1) h t) u) ≡ in_place c (pair (raise (m - 1) k s) v)
chain_alike b c l m h k t s u v p q r e f =
    ap (λ (z : Bool). in_place z (pair (raise (l - 1) h t) u)) p
    ∙ ap (λ (z : ℕ). in_place c (pair (raise (z - 1) h t) u)) q
    ∙ ap (λ (z : Tree). in_place c (pair z u)) (raised (m - 1) r e)
    ∙ ap (λ (z : Tree). in_place c (pair (raise (m - 1) k s) z)) f

way_alike : (l m : ℕ) (a b : Tree) (h g : ℕ) (t u : Tree) → l ≡ m → a ≡ b → h ≡ g → t ≡ u → cond (eqb l 5) (left (pair a (raise (l - 1) h t))) (pair a (raise (l - 1) h t)) ≡ cond (eqb m 5) (left (pair b (raise (m - 1) g u))) (pair b (raise (m - 1) g u))
way_alike l m a b h g t u p q r e =
    ap (λ (z : ℕ). cond (eqb z 5) (left (pair a (raise (z - 1) h t))) (pair a (raise (z - 1) h t))) p
    ∙ ap (λ (z : Tree). cond (eqb m 5) (left z) z) (q ◇ raised (m - 1) r e)

mutual
  pub written_expr : Outline → Tree
  written_expr (variant zero ◂ token_at token) = right (way 0 (leaf token ▸ right none))
  written_expr (variant (suc zero) ◂ token_at size ◂ token_at based) = right (way 0 (leaf size ▸ left (left (leaf based))))
  written_expr (variant (suc (suc zero)) ◂ token_at size ◂ token_at apostrophe ◂ token_at opening ◂ value_value ◂ token_at closing) = right (way 0 (leaf size ▸ left (right (leaf apostrophe ▸ leaf opening ▸ raise 13 (said_height value_value) (written_expr value_value) ▸ leaf closing))))
  written_expr (variant (suc (suc (suc zero))) ◂ token_at token) = right (way 1 (leaf token))
  written_expr (variant (suc (suc (suc (suc zero)))) ◂ token_at token) = right (way 2 (leaf token))
  written_expr (variant (suc (suc (suc (suc (suc zero))))) ◂ token_at token) = right (way 3 (leaf token))
  written_expr (variant (suc (suc (suc (suc (suc (suc zero)))))) ◂ token_at opening ◂ value ◂ token_at closing) = right (way 4 ((leaf opening ▸ raise 13 (said_height value) (written_expr value) ▸ leaf closing) ▸ right none))
  written_expr (variant (suc (suc (suc (suc (suc (suc (suc zero))))))) ◂ token_at opening ◂ value ◂ token_at closing ◂ token_at apostrophe ◂ token_at cast_value_opening ◂ cast_value_value ◂ token_at cast_value_closing) = right (way 4 ((leaf opening ▸ raise 13 (said_height value) (written_expr value) ▸ leaf closing) ▸ left (leaf apostrophe ▸ leaf cast_value_opening ▸ raise 13 (said_height cast_value_value) (written_expr cast_value_value) ▸ leaf cast_value_closing)))
  written_expr (variant (suc (suc (suc (suc (suc (suc (suc (suc zero)))))))) ◂ token_at opening ◂ (items ◂ commas) ◂ token_at closing) = right (way 5 (leaf opening ▸ first_of (written_pattern_items items) ▸ further_of (written_pattern_items items) (said_tokens commas) ▸ leaf closing))
  written_expr (variant (suc (suc (suc (suc (suc (suc (suc (suc (suc zero))))))))) ◂ token_at opening ◂ count ◂ token_at inner_opening ◂ (operands ◂ commas) ◂ token_at inner_closing ◂ token_at closing ◂ selects) = right (way 6 (leaf opening ▸ raise 13 (said_height count) (written_expr count) ▸ left (leaf inner_opening ▸ first_of (written_expressions operands) ▸ further_of (written_expressions operands) (said_tokens commas) ▸ leaf inner_closing) ▸ leaf closing ▸ written_range_select_row selects))
  written_expr (variant (suc (suc (suc (suc (suc (suc (suc (suc (suc (suc zero)))))))))) ◂ token_at opening ◂ (operands ◂ commas) ◂ token_at closing ◂ selects) = right (way 6 (leaf opening ▸ first_of (written_expressions operands) ▸ right (further_of (written_expressions operands) (said_tokens commas)) ▸ leaf closing ▸ written_range_select_row selects))
  written_expr (variant (suc (suc (suc (suc (suc (suc (suc (suc (suc (suc (suc zero))))))))))) ◂ sign ◂ token_at apostrophe ◂ token_at opening ◂ value_value ◂ token_at closing) = right (way 7 (written_mark 1 sign ▸ leaf apostrophe ▸ leaf opening ▸ raise 13 (said_height value_value) (written_expr value_value) ▸ leaf closing))
  written_expr (variant (suc (suc (suc (suc (suc (suc (suc (suc (suc (suc (suc (suc zero)))))))))))) ◂ keyword ◂ sign ◂ dimensions) = right (way 8 (written_integer_keyword keyword ▸ written_option (written_mark 1) sign ▸ written_dimension_row dimensions ▸ right none))
  written_expr (variant (suc (suc (suc (suc (suc (suc (suc (suc (suc (suc (suc (suc (suc zero))))))))))))) ◂ keyword ◂ sign ◂ dimensions ◂ token_at apostrophe ◂ token_at opening ◂ value_value ◂ token_at closing) = right (way 8 (written_integer_keyword keyword ▸ written_option (written_mark 1) sign ▸ written_dimension_row dimensions ▸ left (leaf apostrophe ▸ leaf opening ▸ raise 13 (said_height value_value) (written_expr value_value) ▸ leaf closing)))
  written_expr (variant (suc (suc (suc (suc (suc (suc (suc (suc (suc (suc (suc (suc (suc (suc zero)))))))))))))) ◂ token_at name ◂ selects) = right (way 9 (leaf name ▸ right none ▸ written_select_row selects))
  written_expr (variant (suc (suc (suc (suc (suc (suc (suc (suc (suc (suc (suc (suc (suc (suc (suc zero))))))))))))))) ◂ token_at name ◂ token_at opening ◂ (arguments ◂ commas) ◂ token_at closing ◂ selects) = right (way 9 (leaf name ▸ left (leaf opening ▸ (first_of (written_arguments arguments) ▸ further_of (written_arguments arguments) (said_tokens commas)) ▸ leaf closing) ▸ written_select_row selects))
  written_expr (variant (suc (suc (suc (suc (suc (suc (suc (suc (suc (suc (suc (suc (suc (suc (suc (suc zero)))))))))))))))) ◂ name ◂ postfixes) = right (final 10 (written_scoped_name name ▸ written_postfix_row postfixes))
  written_expr (variant (suc (suc (suc (suc (suc (suc (suc (suc (suc (suc (suc (suc (suc (suc (suc (suc (suc zero))))))))))))))))) ◂ operator ◂ operand) = left (written_mark 10 operator ▸ raise 0 (said_height operand) (written_expr operand))
  written_expr (variant (suc (suc (suc (suc (suc (suc (suc (suc (suc (suc (suc (suc (suc (suc (suc (suc (suc (suc zero)))))))))))))))))) ◂ first ◂ operations) = in_place (said_chain operations) (raise (said_row_level operations - 1) (said_height first) (written_expr first) ▸ written_operation_row operations)
  written_expr (variant (suc (suc (suc (suc (suc (suc (suc (suc (suc (suc (suc (suc (suc (suc (suc (suc (suc (suc (suc zero))))))))))))))))))) ◂ condition ◂ token_at question ◂ chosen ◂ token_at colon ◂ otherwise) = raise 11 (said_height condition) (written_expr condition) ▸ left (leaf question ▸ raise 13 (said_height chosen) (written_expr chosen) ▸ leaf colon ▸ raise 12 (said_height otherwise) (written_expr otherwise))
  written_expr (variant (suc (suc (suc (suc (suc (suc (suc (suc (suc (suc (suc (suc (suc (suc (suc (suc (suc (suc (suc (suc zero)))))))))))))))))))) ◂ l ◂ operator ◂ r) = raise 12 (said_height l) (written_expr l) ▸ left (written_mark 1 operator ▸ raise 13 (said_height r) (written_expr r))
  written_expr o = none

  pub written_operation : Outline → Tree
  written_operation (variant zero ◂ (variant place ◂ token_at at) ◂ r) = cond (eqb (level_at place) 5) (left (written_binary_operator place at ▸ raise (level_at place - 1) (said_height r) (written_expr r))) (written_binary_operator place at ▸ raise (level_at place - 1) (said_height r) (written_expr r))
  written_operation (variant (suc zero) ◂ token_at keyword ◂ token_at opening ◂ (ranges ◂ commas) ◂ token_at closing) = right (leaf keyword ▸ leaf opening ▸ first_of (written_value_ranges ranges) ▸ further_of (written_value_ranges ranges) (said_tokens commas) ▸ leaf closing)
  written_operation o = none

  pub written_dimension : Outline → Tree
  written_dimension (variant zero ◂ token_at opening ◂ size ◂ token_at closing) = leaf opening ▸ raise 13 (said_height size) (written_expr size) ▸ right none ▸ leaf closing
  written_dimension (variant (suc zero) ◂ token_at opening ◂ l ◂ token_at colon ◂ r ◂ token_at closing) = leaf opening ▸ raise 13 (said_height l) (written_expr l) ▸ left (leaf colon ▸ raise 13 (said_height r) (written_expr r)) ▸ leaf closing
  written_dimension o = none

  pub written_range : Outline → Tree
  written_range (variant zero ◂ index) = raise 13 (said_height index) (written_expr index) ▸ right none
  written_range (variant (suc zero) ◂ l ◂ token_at colon ◂ r) = raise 13 (said_height l) (written_expr l) ▸ left (way 0 (leaf colon ▸ raise 13 (said_height r) (written_expr r)))
  written_range (variant (suc (suc zero)) ◂ from ◂ token_at at ◂ width) = raise 13 (said_height from) (written_expr from) ▸ left (way 1 (leaf at ▸ raise 13 (said_height width) (written_expr width)))
  written_range (variant (suc (suc (suc zero))) ◂ from ◂ token_at at ◂ width) = raise 13 (said_height from) (written_expr from) ▸ left (final 2 (leaf at ▸ raise 13 (said_height width) (written_expr width)))
  written_range o = none

  pub written_select : Outline → Tree
  written_select (variant zero ◂ token_at dot ◂ token_at name) = left (leaf dot ▸ leaf name)
  written_select (variant (suc zero) ◂ token_at opening ◂ range ◂ token_at closing) = right (leaf opening ▸ written_range range ▸ leaf closing)
  written_select o = none

  pub written_postfix : Outline → Tree
  written_postfix (variant zero ◂ select) = way 0 (written_select select)
  written_postfix (variant (suc zero) ◂ token_at opening ◂ (arguments ◂ commas) ◂ token_at closing) = way 1 (leaf opening ▸ (first_of (written_arguments arguments) ▸ further_of (written_arguments arguments) (said_tokens commas)) ▸ leaf closing)
  written_postfix (variant (suc (suc zero)) ◂ token_at apostrophe ◂ token_at opening ◂ value_value ◂ token_at closing) = way 2 (leaf apostrophe ▸ leaf opening ▸ raise 13 (said_height value_value) (written_expr value_value) ▸ leaf closing)
  written_postfix (variant (suc (suc (suc zero))) ◂ token_at opening ◂ (items ◂ commas) ◂ token_at closing) = final 3 (leaf opening ▸ first_of (written_pattern_items items) ▸ further_of (written_pattern_items items) (said_tokens commas) ▸ leaf closing)
  written_postfix o = none

  pub written_arg : Outline → Tree
  written_arg (variant zero ◂ token_at token) = way 0 (leaf token)
  written_arg (variant (suc zero) ◂ token_at dot ◂ token_at name) = way 1 (leaf dot ▸ leaf name ▸ right none)
  written_arg (variant (suc (suc zero)) ◂ token_at dot ◂ token_at name ◂ token_at opening ◂ token_at closing) = way 1 (leaf dot ▸ leaf name ▸ left (leaf opening ▸ right none ▸ leaf closing))
  written_arg (variant (suc (suc (suc zero))) ◂ token_at dot ◂ token_at name ◂ token_at opening ◂ value ◂ token_at closing) = way 1 (leaf dot ▸ leaf name ▸ left (leaf opening ▸ left (raise 13 (said_height value) (written_expr value)) ▸ leaf closing))
  written_arg (variant (suc (suc (suc (suc zero)))) ◂ value) = final 2 (left (raise 13 (said_height value) (written_expr value)))
  written_arg (variant (suc (suc (suc (suc (suc zero)))))) = final 2 (right none)
  written_arg o = none

  pub written_value_range : Outline → Tree
  written_value_range (variant zero ◂ token_at opening ◂ low ◂ token_at colon ◂ high ◂ token_at closing) = left (leaf opening ▸ raise 13 (said_height low) (written_expr low) ▸ leaf colon ▸ raise 13 (said_height high) (written_expr high) ▸ leaf closing)
  written_value_range (variant (suc zero) ◂ value) = right (raise 13 (said_height value) (written_expr value))
  written_value_range o = none

  pub written_pattern_item : Outline → Tree
  written_pattern_item (variant zero ◂ token_at keyword ◂ token_at colon ◂ value) = left (leaf keyword ▸ leaf colon ▸ raise 13 (said_height value) (written_expr value))
  written_pattern_item (variant (suc zero) ◂ value) = right (raise 13 (said_height value) (written_expr value) ▸ right none)
  written_pattern_item (variant (suc (suc zero)) ◂ key ◂ token_at colon ◂ value) = right (raise 13 (said_height key) (written_expr key) ▸ left (left (leaf colon ▸ raise 13 (said_height value) (written_expr value))))
  written_pattern_item (variant (suc (suc (suc zero))) ◂ count ◂ token_at opening ◂ (values ◂ commas) ◂ token_at closing) = right (raise 13 (said_height count) (written_expr count) ▸ left (right (leaf opening ▸ first_of (written_expressions values) ▸ further_of (written_expressions values) (said_tokens commas) ▸ leaf closing)))
  written_pattern_item o = none

  pub written_range_select_row : Outline → Tree
  written_range_select_row ((token_at opening ◂ range ◂ token_at closing) ◂ rest) = turn (leaf opening ▸ written_range range ▸ leaf closing) (written_range_select_row rest)
  written_range_select_row o = ended

  pub written_dimension_row : Outline → Tree
  written_dimension_row (dimension ◂ rest) = turn (written_dimension dimension) (written_dimension_row rest)
  written_dimension_row o = ended

  pub written_select_row : Outline → Tree
  written_select_row (select ◂ rest) = turn (written_select select) (written_select_row rest)
  written_select_row o = ended

  pub written_postfix_row : Outline → Tree
  written_postfix_row (postfix ◂ rest) = turn (written_postfix postfix) (written_postfix_row rest)
  written_postfix_row o = ended

  pub written_operation_row : Outline → Tree
  written_operation_row (operation ◂ rest) = turn (written_operation operation) (written_operation_row rest)
  written_operation_row o = ended

  pub written_expressions : Outline → List Tree
  written_expressions (e ◂ rest) = raise 13 (said_height e) (written_expr e) ∷ written_expressions rest
  written_expressions o = []

  pub written_value_ranges : Outline → List Tree
  written_value_ranges (range ◂ rest) = written_value_range range ∷ written_value_ranges rest
  written_value_ranges o = []

  pub written_arguments : Outline → List Tree
  written_arguments (argument ◂ rest) = written_arg argument ∷ written_arguments rest
  written_arguments o = []

  pub written_pattern_items : Outline → List Tree
  written_pattern_items (item ◂ rest) = written_pattern_item item ∷ written_pattern_items rest
  written_pattern_items o = []

mutual
  unfolding own expr_outline written_expr

  pub own_written : (x : Expr) → written_expr (expr_outline x) ≡ own x
  own_written (is_expr.Decimal token) = refl
  own_written (is_expr.Sized size based) = refl
  own_written (is_expr.SizeCast' size apostrophe opening _ value_value closing) = ap (λ (t : Tree). right t) (ap (λ (t : Tree). way 0 t) (refl ◇ ap (λ (t : Tree). left t) (ap (λ (t : Tree). right t) (refl ◇ refl ◇ raised 13 (height_said value_value) (own_written value_value) ◇ refl))))
  own_written (is_expr.Based token) = refl
  own_written (is_expr.Unbased token) = refl
  own_written (is_expr.Text token) = refl
  own_written (is_expr.Parenthesized' opening _ value closing) = ap (λ (t : Tree). right t) (ap (λ (t : Tree). way 4 t) ((refl ◇ raised 13 (height_said value) (own_written value) ◇ refl) ◇ refl))
  own_written (is_expr.ParenthesizedCast' opening _ value closing apostrophe cast_value_opening _ cast_value_value cast_value_closing) = ap (λ (t : Tree). right t) (ap (λ (t : Tree). way 4 t) ((refl ◇ raised 13 (height_said value) (own_written value) ◇ refl) ◇ ap (λ (t : Tree). left t) (refl ◇ refl ◇ raised 13 (height_said cast_value_value) (own_written cast_value_value) ◇ refl)))
  own_written (is_expr.Pattern' opening _ items commas closing) = ap (λ (t : Tree). right t) (ap (λ (t : Tree). way 5 t) (refl ◇ ap (λ (ts : List Tree). first_of ts) (pattern_items_written items) ◇ further_alike (pattern_items_written items) (tokens_said commas.items) ◇ refl))
  own_written (is_expr.Replication' opening _ count inner_opening _ operands commas inner_closing closing _ selects) = ap (λ (t : Tree). right t) (ap (λ (t : Tree). way 6 t) (refl ◇ raised 13 (height_said count) (own_written count) ◇ ap (λ (t : Tree). left t) (refl ◇ ap (λ (ts : List Tree). first_of ts) (expressions_written operands) ◇ further_alike (expressions_written operands) (tokens_said commas.items) ◇ refl) ◇ refl ◇ range_select_row_written selects))
  own_written (is_expr.Concatenation' opening _ operands commas closing _ selects) = ap (λ (t : Tree). right t) (ap (λ (t : Tree). way 6 t) (refl ◇ ap (λ (ts : List Tree). first_of ts) (expressions_written operands) ◇ ap (λ (t : Tree). right t) (further_alike (expressions_written operands) (tokens_said commas.items)) ◇ refl ◇ range_select_row_written selects))
  own_written (is_expr.SignCast' sign apostrophe opening _ value_value closing) = ap (λ (t : Tree). right t) (ap (λ (t : Tree). way 7 t) (mark_written _ _ _ sign_marked sign ◇ refl ◇ refl ◇ raised 13 (height_said value_value) (own_written value_value) ◇ refl))
  own_written (is_expr.Type' keyword sign _ dimensions) = ap (λ (t : Tree). right t) (ap (λ (t : Tree). way 8 t) (integer_keyword_written keyword ◇ option_written _ _ _ (mark_written _ _ _ sign_marked) sign ◇ dimension_row_written dimensions ◇ refl))
  own_written (is_expr.TypeCast' keyword sign _ dimensions apostrophe opening _ value_value closing) = ap (λ (t : Tree). right t) (ap (λ (t : Tree). way 8 t) (integer_keyword_written keyword ◇ option_written _ _ _ (mark_written _ _ _ sign_marked) sign ◇ dimension_row_written dimensions ◇ ap (λ (t : Tree). left t) (refl ◇ refl ◇ raised 13 (height_said value_value) (own_written value_value) ◇ refl)))
  own_written (is_expr.SystemName' name _ selects) = ap (λ (t : Tree). right t) (ap (λ (t : Tree). way 9 t) (refl ◇ refl ◇ select_row_written selects))
  own_written (is_expr.SystemCall' name opening _ arguments commas closing _ selects) = ap (λ (t : Tree). right t) (ap (λ (t : Tree). way 9 t) (refl ◇ ap (λ (t : Tree). left t) (refl ◇ (ap (λ (ts : List Tree). first_of ts) (arguments_written arguments) ◇ further_alike (arguments_written arguments) (tokens_said commas.items)) ◇ refl) ◇ select_row_written selects))
  own_written (is_expr.Name' name _ postfixes) = ap (λ (t : Tree). right t) (ap (λ (t : Tree). final 10 t) (scoped_name_written name ◇ postfix_row_written postfixes))
  own_written (is_expr.Unary' operator _ operand) = ap (λ (t : Tree). left t) (mark_written _ _ _ unary_operator_marked operator ◇ raised 0 (height_said operand) (own_written operand))
  own_written (is_expr.Operations' _ first _ operations) = chain_alike (said_chain (operation_row_outline operations)) (is_chain_row operations) (said_row_level (operation_row_outline operations)) (operation_row_level operations) (said_height (expr_outline first)) (height first) (written_expr (expr_outline first)) (own first) (written_operation_row (operation_row_outline operations)) (operation_row operations) (chain_said operations) (row_level_said operations) (height_said first) (own_written first) (operation_row_written operations)
  own_written (is_expr.Conditional' _ condition question _ chosen colon _ otherwise) = raised 11 (height_said condition) (own_written condition) ◇ ap (λ (t : Tree). left t) (refl ◇ raised 13 (height_said chosen) (own_written chosen) ◇ refl ◇ raised 12 (height_said otherwise) (own_written otherwise))
  own_written (is_expr.Implication' _ l operator _ r) = raised 12 (height_said l) (own_written l) ◇ ap (λ (t : Tree). left t) (mark_written _ _ _ implication_operator_marked operator ◇ raised 13 (height_said r) (own_written r))

  pub operation_written : (x : Operation) → written_operation (operation_outline x) ≡ operation_tree x
  operation_written (is_operation.Binary operator r) = way_alike (level_at (binary_operator_place operator.kind)) (level_of operator.kind) (written_binary_operator (binary_operator_place operator.kind) operator.token) (mark_tree binary_operator_tree operator) (said_height (expr_outline r)) (height r) (written_expr (expr_outline r)) (own r) (binary_operator_said operator.kind operator.token).0 (binary_operator_said operator.kind operator.token).2 (height_said r) (own_written r)
  operation_written (is_operation.Inside' keyword opening _ ranges commas closing) = ap (λ (t : Tree). right t) (refl ◇ refl ◇ ap (λ (ts : List Tree). first_of ts) (value_ranges_written ranges) ◇ further_alike (value_ranges_written ranges) (tokens_said commas.items) ◇ refl)

  pub dimension_written : (x : Dimension) → written_dimension (dimension_outline x) ≡ dimension_tree x
  dimension_written (is_dimension.Size' opening _ size closing) = refl ◇ raised 13 (height_said size) (own_written size) ◇ refl
  dimension_written (is_dimension.Range' opening _ l colon _ r closing) = refl ◇ raised 13 (height_said l) (own_written l) ◇ ap (λ (t : Tree). left t) (refl ◇ raised 13 (height_said r) (own_written r)) ◇ refl

  pub range_written : (x : Range) → written_range (range_outline x) ≡ range_tree x
  range_written (is_range.Index' _ index) = raised 13 (height_said index) (own_written index) ◇ refl
  range_written (is_range.Between' _ l colon _ r) = raised 13 (height_said l) (own_written l) ◇ ap (λ (t : Tree). left t) (ap (λ (t : Tree). way 0 t) (refl ◇ raised 13 (height_said r) (own_written r)))
  range_written (is_range.Upward' _ from at _ width) = raised 13 (height_said from) (own_written from) ◇ ap (λ (t : Tree). left t) (ap (λ (t : Tree). way 1 t) (refl ◇ raised 13 (height_said width) (own_written width)))
  range_written (is_range.Downward' _ from at _ width) = raised 13 (height_said from) (own_written from) ◇ ap (λ (t : Tree). left t) (ap (λ (t : Tree). final 2 t) (refl ◇ raised 13 (height_said width) (own_written width)))

  pub select_written : (x : Select) → written_select (select_outline x) ≡ select_tree x
  select_written (is_select.Member dot name) = refl
  select_written (is_select.Range' opening range closing) = ap (λ (t : Tree). right t) (refl ◇ range_written range ◇ refl)

  pub postfix_written : (x : Postfix) → written_postfix (postfix_outline x) ≡ postfix_tree x
  postfix_written (is_postfix.Select select) = ap (λ (t : Tree). way 0 t) (select_written select)
  postfix_written (is_postfix.Call' opening _ arguments commas closing) = ap (λ (t : Tree). way 1 t) (refl ◇ (ap (λ (ts : List Tree). first_of ts) (arguments_written arguments) ◇ further_alike (arguments_written arguments) (tokens_said commas.items)) ◇ refl)
  postfix_written (is_postfix.Cast' apostrophe opening _ value_value closing) = ap (λ (t : Tree). way 2 t) (refl ◇ refl ◇ raised 13 (height_said value_value) (own_written value_value) ◇ refl)
  postfix_written (is_postfix.Pattern' opening _ items commas closing) = ap (λ (t : Tree). final 3 t) (refl ◇ ap (λ (ts : List Tree). first_of ts) (pattern_items_written items) ◇ further_alike (pattern_items_written items) (tokens_said commas.items) ◇ refl)

  pub arg_written : (x : Arg) → written_arg (arg_outline x) ≡ arg_tree x
  arg_written (is_arg.Wildcard token) = refl
  arg_written (is_arg.Implicit dot name) = refl
  arg_written (is_arg.Unconnected dot name opening closing) = refl
  arg_written (is_arg.Named' dot name opening _ value closing) = ap (λ (t : Tree). way 1 t) (refl ◇ refl ◇ ap (λ (t : Tree). left t) (refl ◇ ap (λ (t : Tree). left t) (raised 13 (height_said value) (own_written value)) ◇ refl))
  arg_written (is_arg.Ordered' _ value) = ap (λ (t : Tree). final 2 t) (ap (λ (t : Tree). left t) (raised 13 (height_said value) (own_written value)))
  arg_written is_arg.Empty = refl

  pub value_range_written : (x : ValueRange) → written_value_range (value_range_outline x) ≡ value_range_tree x
  value_range_written (is_value_range.Between' opening _ low colon _ high closing) = ap (λ (t : Tree). left t) (refl ◇ raised 13 (height_said low) (own_written low) ◇ refl ◇ raised 13 (height_said high) (own_written high) ◇ refl)
  value_range_written (is_value_range.Value' _ value) = ap (λ (t : Tree). right t) (raised 13 (height_said value) (own_written value))

  pub pattern_item_written : (x : PatternItem) → written_pattern_item (pattern_item_outline x) ≡ pattern_item_tree x
  pattern_item_written (is_pattern_item.Default' keyword colon _ value) = ap (λ (t : Tree). left t) (refl ◇ refl ◇ raised 13 (height_said value) (own_written value))
  pattern_item_written (is_pattern_item.Value' _ value) = ap (λ (t : Tree). right t) (raised 13 (height_said value) (own_written value) ◇ refl)
  pattern_item_written (is_pattern_item.Keyed' _ key colon _ value) = ap (λ (t : Tree). right t) (raised 13 (height_said key) (own_written key) ◇ ap (λ (t : Tree). left t) (ap (λ (t : Tree). left t) (refl ◇ raised 13 (height_said value) (own_written value))))
  pattern_item_written (is_pattern_item.Repeated' _ count opening _ values commas closing) = ap (λ (t : Tree). right t) (raised 13 (height_said count) (own_written count) ◇ ap (λ (t : Tree). left t) (ap (λ (t : Tree). right t) (refl ◇ ap (λ (ts : List Tree). first_of ts) (expressions_written values) ◇ further_alike (expressions_written values) (tokens_said commas.items) ◇ refl)))

  pub range_select_row_written : {n : _} (row : Row_of-RangeSelect n) → written_range_select_row (range_select_row_outline row) ≡ range_select_row row
  range_select_row_written end_of-RangeSelect = refl
  range_select_row_written (more_of-RangeSelect opening range closing rest) = turn_alike (refl ◇ range_written range ◇ refl) (range_select_row_written rest)

  pub dimension_row_written : {n : _} (row : Row_of-Dimension n) → written_dimension_row (dimension_row_outline row) ≡ dimension_row row
  dimension_row_written end_of-Dimension = refl
  dimension_row_written (more_of-Dimension dimension rest) = turn_alike (dimension_written dimension) (dimension_row_written rest)

  pub select_row_written : {n : _} (row : Row_of-Select n) → written_select_row (select_row_outline row) ≡ select_row row
  select_row_written end_of-Select = refl
  select_row_written (more_of-Select select rest) = turn_alike (select_written select) (select_row_written rest)

  pub postfix_row_written : {n : _} (row : Row_of-Postfix n) → written_postfix_row (postfix_row_outline row) ≡ postfix_row row
  postfix_row_written end_of-Postfix = refl
  postfix_row_written (more_of-Postfix postfix rest) = turn_alike (postfix_written postfix) (postfix_row_written rest)

  pub operation_row_written : {n : _} (row : Row_of-Operation n) → written_operation_row (operation_row_outline row) ≡ operation_row row
  operation_row_written end_of-Operation = refl
  operation_row_written (more_of-Operation operation rest) = turn_alike (operation_written operation) (operation_row_written rest)

  pub expressions_written : {n : _} (row : Row_of-Expr n) → written_expressions (expression_row_outline row) ≡ expression_trees row
  expressions_written end_of-Expr = refl
  expressions_written (more_of-Expr e rest) = cons_alike (raised 13 (height_said e) (own_written e)) (expressions_written rest)

  pub value_ranges_written : {n : _} (row : Row_of-ValueRange n) → written_value_ranges (value_range_row_outline row) ≡ value_range_trees row
  value_ranges_written end_of-ValueRange = refl
  value_ranges_written (more_of-ValueRange range rest) = cons_alike (value_range_written range) (value_ranges_written rest)

  pub arguments_written : {n : _} (row : Row_of-Arg n) → written_arguments (argument_row_outline row) ≡ argument_trees row
  arguments_written end_of-Arg = refl
  arguments_written (more_of-Arg argument rest) = cons_alike (arg_written argument) (arguments_written rest)

  pub pattern_items_written : {n : _} (row : Row_of-PatternItem n) → written_pattern_items (pattern_item_row_outline row) ≡ pattern_item_trees row
  pattern_items_written end_of-PatternItem = refl
  pattern_items_written (more_of-PatternItem item rest) = cons_alike (pattern_item_written item) (pattern_items_written rest)

-- an expression at a level

pub written_at : ℕ → Outline → Tree
written_at level o = raise level (said_height o) (written_expr o)

pub expr_written : (level : ℕ) (x : Expr) → written_at level (expr_outline x) ≡ tree_at level x
unfolding written_at
expr_written level x = raised level (height_said x) (own_written x)

pub written_expression : Outline → Tree
written_expression e = written_at 13 e

pub expression_written : IsWritten expression_tree expression_outline written_expression
unfolding written_expression
expression_written e = expr_written 13 e.value

pub written_parenthesized : Outline → Tree
written_parenthesized (token_at opening ◂ value ◂ token_at closing) = leaf opening ▸ written_at 13 value ▸ leaf closing
written_parenthesized o = none

pub parenthesized_written : IsWritten parenthesized_tree parenthesized_outline written_parenthesized
unfolding written_parenthesized
parenthesized_written x = refl ◇ expr_written 13 x.value.value ◇ refl

pub written_cast : Outline → Tree
written_cast (token_at apostrophe ◂ value) = leaf apostrophe ▸ written_parenthesized value
written_cast o = none

pub cast_written : IsWritten cast_tree cast_outline written_cast
unfolding written_cast
cast_written x = refl ◇ parenthesized_written x.value

pub written_argument_list : Outline → Tree
written_argument_list (token_at opening ◂ arguments ◂ token_at closing) = leaf opening ▸ (written_row_first written_arg arguments ▸ written_row_rest written_arg written_token arguments) ▸ leaf closing
written_argument_list o = none

pub argument_list_written : IsWritten argument_list_tree argument_list_outline written_argument_list
unfolding written_argument_list
argument_list_written x = refl ◇ (row_first_written _ _ _ token_at arg_written x.arguments ◇ row_rest_written _ _ _ _ _ _ arg_written token_written x.arguments) ◇ refl

pub written_pattern : Outline → Tree
written_pattern (token_at opening ◂ items ◂ token_at closing) = leaf opening ▸ written_row_first written_pattern_item items ▸ written_row_rest written_pattern_item written_token items ▸ leaf closing
written_pattern o = none

pub pattern_written : IsWritten pattern_tree pattern_outline written_pattern
unfolding written_pattern
pattern_written x = refl ◇ row_first_written _ _ _ token_at pattern_item_written x.items ◇ row_rest_written _ _ _ _ _ _ pattern_item_written token_written x.items ◇ refl
