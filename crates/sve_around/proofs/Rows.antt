-- What is applied to a name, as a list.
use Rattle.std.specs.Global.{Vec}
use Rattle.std.proofs.Common.{◌≡◌, List, ap}
use Rattle.sve_tree.specs.declared.word.ScopedName.{ScopedName}
use Rattle.sve_tree.specs.declared.expression.Expr.TheVariants as is_expr
use Rattle.sve_tree.specs.declared.expression.Postfix.{Postfix}
use Rattle.sve_tree.specs.declared.expression.Arg.TheBlock.{items_hidden-the_row-Postfix-6}
use Rattle.sve_around.specs.References.{member_behind, member_if, reference_of, token_if}

pub of_name : (name : ScopedName) (postfixes : Vec Postfix) → reference_of (is_expr.Name name postfixes) ≡ token_if name postfixes.items
unfolding reference_of
of_name name postfixes = ap (λ (ps : List Postfix). token_if name ps) (items_hidden-the_row-Postfix-6 postfixes)

pub member_of_name : (name : ScopedName) (postfixes : Vec Postfix) → member_behind (is_expr.Name name postfixes) ≡ member_if postfixes.items
unfolding member_behind
member_of_name name postfixes = ap (λ (ps : List Postfix). member_if ps) (items_hidden-the_row-Postfix-6 postfixes)
