-- A name with something applied to it, and alone.
use Rattle.std.specs.Global.{Vec}
use Rattle.std.proofs.Common.{◌≡◌, ◌==◌, ℕ, Bool, true, false, List, [], ◌∷◌, length, vec_len, refl, ap, sym, ◌∙◌}
use Rattle.std.proofs.Math.Dec.{eqb-suc-zero}
use Rattle.sve_tree.specs.declared.expression.Expr.{Row_of-Postfix, end_of-Postfix, items-the_row-Postfix, more_of-Postfix}
use Rattle.sve_tree.specs.declared.expression.Postfix.{Postfix}
use Rattle.sve_tree.specs.declared.expression.Arg.TheBlock.{hidden-the_row-Postfix-6, items_hidden-the_row-Postfix-6}
use Rattle.sve_const.specs.Answers.{is_alone}

abbrev is_none : List Postfix → Bool
is_none [] = true
is_none (x ∷ xs) = false

row_is : {n : _} (row : Row_of-Postfix n) → is_alone row ≡ is_none (items-the_row-Postfix n row)
row_is end_of-Postfix = refl
row_is (more_of-Postfix postfix rest) = refl

by_length : (n : ℕ) (xs : List Postfix) → n ≡ length xs → is_none xs ≡ (n == 0)
by_length n [] e = rw e refl
by_length n (x ∷ xs) e = sym (rw e (eqb-suc-zero (length xs)))

pub alone_is : (xs : Vec Postfix) → is_alone (hidden-the_row-Postfix-6 xs) ≡ (vec_len xs == 0)
alone_is xs = row_is (hidden-the_row-Postfix-6 xs) ∙ (ap is_none (items_hidden-the_row-Postfix-6 xs) ∙ by_length (vec_len xs) xs.items xs.ok.0)
