-- The tokens at which faults stand (own).
use Rattle.std.specs.Global.{Vec}
use Rattle.std.specs.Prelude.{ℕ, Bool, true, false, Option, Some, None}
use Rattle.sve_tree.specs.declared.row.Row.{Row}
use Rattle.sve_tree.specs.Shape.{first_token_of}
use Rattle.sve_tree.specs.Expressions.{tree_at}
use Rattle.sve_tree.specs.declared.word.ScopedName.{ScopedName}
use Rattle.sve_tree.specs.declared.word.PackageScope.{PackageScope}
use Rattle.sve_tree.specs.declared.expression.Expr.{Expr, Row_of-Dimension, Row_of-Expr, end_of-Dimension, end_of-Expr, more_of-Dimension, more_of-Expr}
use Rattle.sve_tree.specs.declared.expression.Dimension.{Dimension}
use Rattle.sve_tree.specs.declared.expression.Arg.TheBlock.{hidden-the_row-Dimension-3, hidden-the_row-Expr-1}
use Rattle.sve_tree.specs.declared.expression.Expr.TheVariants as is_expr
use Rattle.sve_tree.specs.declared.expression.Dimension.TheVariants as is_dimension

abbrev pub scope_token : Option PackageScope → ℕ → ℕ
scope_token None name = name
scope_token (Some scope) name = scope.name

abbrev pub name_token : ScopedName → ℕ
name_token name = scope_token name.scope name.name

abbrev pub token_or : ℕ → Option ℕ → ℕ
token_or d None = d
token_or d (Some token) = token

-- the first token of an expression
unfoldable pub token_of : Expr → ℕ
token_of e = token_or 0 (first_token_of (tree_at 13 e))

-- a number without a size, in brackets too
unfoldable pub unsized_at : Expr → Option ℕ
unsized_at (is_expr.Decimal token) = Some token
unsized_at (is_expr.Based token) = Some token
unsized_at (is_expr.Parenthesized' opening _ value closing) = unsized_at value
unsized_at _ = None

-- what has no bit in a concatenation is a replication: its count is the fault
unfoldable pub count_token : Expr → ℕ
count_token (is_expr.Replication' opening _ count inner_opening _ operands commas inner_closing closing _ selects) = token_of count
count_token e = token_of e

-- and of several that of the first
unfoldable pub row_empty_at : {n : _} → ℕ → Row_of-Expr n → ℕ
row_empty_at opening end_of-Expr = opening
row_empty_at opening (more_of-Expr e rest) = count_token e

abbrev pub empty_at : ℕ → Row Expr ℕ → ℕ
empty_at opening operands = row_empty_at opening (hidden-the_row-Expr-1 operands.items)

-- whether a type has no dimension
abbrev pub is_plain : {n : _} → Row_of-Dimension n → Bool
is_plain end_of-Dimension = true
is_plain (more_of-Dimension dimension rest) = false

abbrev pub has_no_dimensions : Vec Dimension → Bool
has_no_dimensions dimensions = is_plain (hidden-the_row-Dimension-3 dimensions)

-- the bracket of a dimension
abbrev pub opening_of : Dimension → ℕ
opening_of (is_dimension.Size' opening _ size closing) = opening
opening_of (is_dimension.Range' opening _ l colon _ r closing) = opening
