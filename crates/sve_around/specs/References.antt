-- Expressions that may stand for an interface: a plain name, perhaps with a modport behind a dot (IEEE 1800-2017, 25.3 and 25.5).
use Rattle.std.specs.Prelude.{ℕ, Bool, true, false, if◌then◌else◌, List, [], ◌∷◌, Option, Some, None}
use Rattle.sve_tree.specs.declared.word.PackageScope.{PackageScope}
use Rattle.sve_tree.specs.declared.word.ScopedName.{ScopedName}
use Rattle.sve_tree.specs.declared.expression.Postfix.{Postfix}
use Rattle.sve_tree.specs.declared.expression.Expr.{Expr, items-the_row-Postfix}
use Rattle.sve_tree.specs.declared.expression.Expr.TheVariants as is_expr
use Rattle.sve_use.specs.Use.{first_member, is_member}

-- nothing is applied but perhaps one member
abbrev pub is_reference : List Postfix → Bool
is_reference [] = true
is_reference (postfix ∷ []) = is_member postfix
is_reference (postfix ∷ next ∷ rest) = false

abbrev pub plain_in : Option PackageScope → ℕ → Option ℕ
plain_in None token = Some token
plain_in (Some scope) token = None

abbrev pub plain_token : ScopedName → Option ℕ
plain_token name = plain_in name.scope name.name

abbrev pub token_if : ScopedName → List Postfix → Option ℕ
token_if name postfixes = if is_reference postfixes then plain_token name else None

unfoldable pub reference_of : Expr → Option ℕ
reference_of (is_expr.Name' name _ postfixes) = token_if name (items-the_row-Postfix _ postfixes)
reference_of e = None

-- the member behind the dot
abbrev pub member_if : List Postfix → Option ℕ
member_if postfixes = if is_reference postfixes then first_member postfixes else None

unfoldable pub member_behind : Expr → Option ℕ
member_behind (is_expr.Name' name _ postfixes) = member_if (items-the_row-Postfix _ postfixes)
member_behind e = None
