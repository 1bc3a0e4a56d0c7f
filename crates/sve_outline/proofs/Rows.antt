-- What small trees say, worked by hand.
use Rattle.std.specs.Global.{Box}
use Rattle.std.proofs.Common.{◌≡◌, ℕ, refl, ap}
use Rattle.sve_tree.specs.declared.word.Mark.{Mark}
use Rattle.sve_tree.specs.declared.word.PackageScope.{PackageScope}
use Rattle.sve_tree.specs.declared.word.UnaryOperator.{UnaryOperator}
use Rattle.sve_tree.specs.declared.expression.Expr.{Expr}
use Rattle.sve_tree.specs.declared.expression.Expr.TheVariants as is_expr
use Rattle.sve_tree.specs.declared.expression.Arg.TheVariants as is_arg
use Rattle.sve_tree.specs.declared.declaration.ImportItem.TheVariants as is_import_item
use Rattle.sve_tree.specs.declared.word.UnaryOperator.TheVariants as is_unary_operator
use Rattle.sve_outline.specs.Outline.{token_at, variant, ◌◂◌}
use Rattle.sve_outline.specs.Words.{unary_operator_place}
use Rattle.sve_outline.specs.Expressions.{expr_outline, arg_outline}
use Rattle.sve_outline.specs.Declarations.{import_item_outline}
use Rattle.sve_outline.proofs.Readers.{◌◃◌}

pub negated : (operator : Mark UnaryOperator) (operand : Box Expr) → operator.kind ≡ is_unary_operator.Minus → operator.token ≡ 0 → operand.value ≡ is_expr.Decimal 1 → expr_outline (is_expr.Unary operator operand) ≡ (variant 17 ◂ (variant 1 ◂ token_at 0) ◂ variant 0 ◂ token_at 1)
unfolding expr_outline
negated operator operand k i e = refl ◃ (ap (λ (u : UnaryOperator). variant (unary_operator_place u)) k ◃ ap (λ (n : ℕ). token_at n) i) ◃ ap (λ (x : Expr). expr_outline x) e

pub connected : (value : Box Expr) → value.value ≡ is_expr.Decimal 3 → arg_outline (is_arg.Named 0 1 2 value 4) ≡ (variant 3 ◂ token_at 0 ◂ token_at 1 ◂ token_at 2 ◂ (variant 0 ◂ token_at 3) ◂ token_at 4)
unfolding expr_outline
connected value e = ap (λ (x : Expr). variant 3 ◂ token_at 0 ◂ token_at 1 ◂ token_at 2 ◂ expr_outline x ◂ token_at 4) e

pub imported : (scope : PackageScope) → scope.name ≡ 0 → scope.colons ≡ 1 → import_item_outline (is_import_item.All scope 2) ≡ (variant 1 ◂ token_at 0 ◂ token_at 1 ◂ token_at 2)
imported scope n c = refl ◃ ap (λ (k : ℕ). token_at k) n ◃ ap (λ (k : ℕ). token_at k) c ◃ refl
